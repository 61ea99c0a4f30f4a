-- The two definitions agree: the message that the words of a line make (`message_of`), and the lines that spell a message (`Spells`).
use Rattle.std.proofs.Common.{◌≡◌, ℕ, ◌<◌, ◌≤◌, List, [], ◌∷◌, ◌++◌, map, length, Option, Some, None, refl, ap, sym, subst, ◌∙◌, inl, inr}
use Rattle.std.specs.Prelude.{nat_lt, ◌↔◌}
use Rattle.std.specs.List.{AllByRecursion, join_with_byte}
use Rattle.std.specs.Fmt.{decimal}
use Rattle.std.proofs.lemmas.Bool.{cases_lt, lt-ltb, le-ltb, cond-true, cond-false}
use Rattle.std.proofs.lemmas.List.{append-nil}
use Rattle.std.proofs.lemmas.Option.{same_Some}
use Rattle.affinity.specs.declared.kinds.Kind.{Kind}
use Rattle.affinity.specs.declared.kinds.Kind.TheVariants as kinds
use Rattle.protocol.specs.declared.sizes.TheConstants.{BLOCK_SIZE, LABEL_SIZE, LONGEST_LINE}
use Rattle.protocol.specs.declared.messages.Block.{Block}
use Rattle.protocol.specs.declared.messages.Msg.{Msg}
use Rattle.protocol.specs.declared.messages.Msg.TheVariants.{Create, Delete, Write, Punch, Read, Summary, SetLabel}
use Rattle.protocol.specs.Words.{words, number_in_word, block_in_word, label_in_word}
use Rattle.protocol.specs.Messages.{kind, numbers}
use Rattle.protocol.specs.Grammar.{message_of, of_words, of_kind, of_volume, of_file, of_block, of_data, of_label, kind_named, keyword, IsData, SpellsBytes, Spells, ◌>>=◌}
use Rattle.message.proofs.Words.{HasNoSpace, has_no_space, join-words, no_space_from_test, words-join}
use Rattle.message.proofs.Numbers.{decimal-number, number-decimal, number_no_space}
use Rattle.message.proofs.Blocks.{block_no_space, label_no_space}
use Rattle.message.proofs.SpellsBytes.{block_says, says_block, label_says, says_label}
use Rattle.message.proofs.Keywords.{with_kind, its_keyword, keyword_names}

abbrev AreSmall : List ℕ → Type 0
AreSmall ns = AllByRecursion (λ n. n < 65536) ns

-- ---- from the words to the message

-- if `o >>= f` gave a value, o has one, and f gave a value for it
bind_some : {A B : Type 0} (o : Option A) (f : A → Option B) (y : B) → (o >>= f) ≡ Some y → (x : A) × (o ≡ Some x) × (f x ≡ Some y)
bind_some (Some x) f y h = (x, refl, h)
bind_some None f y h = cc h

-- the words that encode some numbers
record Say (ws : List (List ℕ)) (ns : List ℕ) : Type 0 where
  pub words : ws ≡ map decimal ns
  pub small : AreSmall ns

says_none : Say [] []
says_none = record { words = refl; small = tt }

says_more : (w : List ℕ) (n : ℕ) (ws : List (List ℕ)) (ns : List ℕ) → number_in_word w ≡ Some n → Say ws ns → Say (w ∷ ws) (n ∷ ns)
says_more w n ws ns h more =
    let d = decimal-number w n h in
    record {
      words = ap (λ (v : List ℕ). v ∷ ws) (sym d.0) ∙ ap (λ (vs : List (List ℕ)). decimal n ∷ vs) more.words;
      small = (d.1, more.small);
    }

volume_spelled : (make : ℕ → ℕ → Msg) (ws : List (List ℕ)) (m : Msg) → of_volume make ws ≡ Some m → (a : ℕ) × (v : ℕ) × (m ≡ make a v) × Say ws (a ∷ v ∷ [])
volume_spelled make (x ∷ y ∷ []) m h =
    let a = bind_some (number_in_word x) _ m h in
    let v = bind_some (number_in_word y) _ m a.2 in
    (a.0, v.0, sym (same_Some _ m v.2), says_more x a.0 _ _ a.1 (says_more y v.0 _ _ v.1 says_none))
volume_spelled make _ m h = cc h

file_spelled : (make : ℕ → ℕ → ℕ → Msg) (ws : List (List ℕ)) (m : Msg) → of_file make ws ≡ Some m → (a : ℕ) × (v : ℕ) × (f : ℕ) × (m ≡ make a v f) × Say ws (a ∷ v ∷ f ∷ [])
file_spelled make (x ∷ y ∷ z ∷ []) m h =
    let a = bind_some (number_in_word x) _ m h in
    let v = bind_some (number_in_word y) _ m a.2 in
    let f = bind_some (number_in_word z) _ m v.2 in
    (a.0, v.0, f.0, sym (same_Some _ m f.2), says_more x a.0 _ _ a.1 (says_more y v.0 _ _ v.1 (says_more z f.0 _ _ f.1 says_none)))
file_spelled make _ m h = cc h

block_spelled : (make : ℕ → ℕ → ℕ → ℕ → Msg) (ws : List (List ℕ)) (m : Msg) → of_block make ws ≡ Some m
    → (a : ℕ) × (v : ℕ) × (f : ℕ) × (b : ℕ) × (m ≡ make a v f b) × Say ws (a ∷ v ∷ f ∷ b ∷ [])
block_spelled make (x ∷ y ∷ z ∷ w ∷ []) m h =
    let a = bind_some (number_in_word x) _ m h in
    let v = bind_some (number_in_word y) _ m a.2 in
    let f = bind_some (number_in_word z) _ m v.2 in
    let b = bind_some (number_in_word w) _ m f.2 in
    (a.0, v.0, f.0, b.0, sym (same_Some _ m b.2), says_more x a.0 _ _ a.1 (says_more y v.0 _ _ v.1 (says_more z f.0 _ _ f.1 (says_more w b.0 _ _ b.1 says_none))))
block_spelled make _ m h = cc h

data_spelled : (make : ℕ → ℕ → ℕ → ℕ → Block → Msg) (ws : List (List ℕ)) (m : Msg) → of_data make ws ≡ Some m
    → (a : ℕ) × (v : ℕ) × (f : ℕ) × (b : ℕ) × (content : Block) × (digits : List ℕ)
    × (m ≡ make a v f b content) × (ws ≡ map decimal (a ∷ v ∷ f ∷ b ∷ []) ++ digits ∷ []) × AreSmall (a ∷ v ∷ f ∷ b ∷ []) × SpellsBytes BLOCK_SIZE digits content.0
data_spelled make (x ∷ y ∷ z ∷ w ∷ u ∷ []) m h =
    let a = bind_some (number_in_word x) _ m h in
    let v = bind_some (number_in_word y) _ m a.2 in
    let f = bind_some (number_in_word z) _ m v.2 in
    let b = bind_some (number_in_word w) _ m f.2 in
    let d = bind_some (block_in_word u) _ m b.2 in
    let spelled = says_more x a.0 _ _ a.1 (says_more y v.0 _ _ v.1 (says_more z f.0 _ _ f.1 (says_more w b.0 _ _ b.1 says_none))) in
    (a.0, v.0, f.0, b.0, d.0, u, sym (same_Some _ m d.2), ap (λ (vs : List (List ℕ)). vs ++ u ∷ []) spelled.words, spelled.small, block_says u d.0 d.1)
data_spelled make _ m h = cc h

label_spelled : (make : ℕ → ℕ → List ℕ → Msg) (ws : List (List ℕ)) (m : Msg) → of_label make ws ≡ Some m
    → (a : ℕ) × (v : ℕ) × (bytes : List ℕ) × (digits : List ℕ)
    × (m ≡ make a v bytes) × (ws ≡ map decimal (a ∷ v ∷ []) ++ digits ∷ []) × AreSmall (a ∷ v ∷ []) × SpellsBytes LABEL_SIZE digits bytes
label_spelled make (x ∷ y ∷ z ∷ []) m h =
    let a = bind_some (number_in_word x) _ m h in
    let v = bind_some (number_in_word y) _ m a.2 in
    let d = bind_some (label_in_word z) _ m v.2 in
    let spelled = says_more x a.0 _ _ a.1 (says_more y v.0 _ _ v.1 says_none) in
    (a.0, v.0, d.0, z, sym (same_Some _ m d.2), ap (λ (vs : List (List ℕ)). vs ++ z ∷ []) spelled.words, spelled.small, label_says z d.0 d.1)
label_spelled make _ m h = cc h

nothing_spelled : (ws : List (List ℕ)) (m : Msg) → of_kind kinds.Summary ws ≡ Some m → (m ≡ Summary) × Say ws []
nothing_spelled [] m h = (sym (same_Some Summary m h), says_none)
nothing_spelled (w ∷ ws) m h = cc h

-- a line of these words spells its message
spell : (line : List ℕ) (m : Msg) (behind : List (List ℕ)) → length line ≤ LONGEST_LINE → words line ≡ keyword (kind m) ∷ map decimal (numbers m) ++ behind
    → AreSmall (numbers m) → IsData m behind → Spells line m
spell line m behind short e small content = record {
  words_behind = behind;
  parts = sym (join-words line) ∙ ap (join_with_byte 32) e;
  fits = small;
  content = content;
  short = short;
}

-- a message without data, by its kind and numbers
record Plain (m : Msg) (k : Kind) (ns : List ℕ) : Type 0 where
  pub kinded : kind m ≡ k
  pub numbered : numbers m ≡ ns
  pub no_data : IsData m []

plain_spells : {line : List ℕ} {m : Msg} {k : Kind} {ns : List ℕ} {args : List (List ℕ)} → Plain m k ns → length line ≤ LONGEST_LINE → words line ≡ keyword k ∷ args → Say args ns → Spells line m
plain_spells {line} {m} {k} {ns} form short e spelled =
    let all : words line ≡ keyword (kind m) ∷ map decimal (numbers m) ++ [] = e ∙ ap (λ (vs : List (List ℕ)). keyword k ∷ vs) spelled.words ∙ sym (append-nil (keyword k ∷ map decimal ns))
    ∙ (λ i. keyword (sym form.kinded i) ∷ map decimal (sym form.numbered i) ++ []) in
    spell line m [] short all (subst (λ (ks : List ℕ). AreSmall ks) (sym form.numbered) spelled.small) form.no_data

-- a line with the keyword of a kind, and behind it the words of a message
module _ (line : List ℕ) (args : List (List ℕ)) (m : Msg) (short : length line ≤ LONGEST_LINE) where
  volume_spells : (make : ℕ → ℕ → Msg) (k : Kind) → ((a v : ℕ) → Plain (make a v) k (a ∷ v ∷ [])) → words line ≡ keyword k ∷ args → of_volume make args ≡ Some m → Spells line m
  volume_spells make k form e h =
      let s = volume_spelled make args m h in
      subst (λ (n : Msg). Spells line n) (sym s.2) (plain_spells (form s.0 s.1) short e s.3)

  file_spells : (make : ℕ → ℕ → ℕ → Msg) (k : Kind) → ((a v f : ℕ) → Plain (make a v f) k (a ∷ v ∷ f ∷ [])) → words line ≡ keyword k ∷ args → of_file make args ≡ Some m → Spells line m
  file_spells make k form e h =
      let s = file_spelled make args m h in
      subst (λ (n : Msg). Spells line n) (sym s.3) (plain_spells (form s.0 s.1 s.2) short e s.4)

  block_spells : (make : ℕ → ℕ → ℕ → ℕ → Msg) (k : Kind) → ((a v f b : ℕ) → Plain (make a v f b) k (a ∷ v ∷ f ∷ b ∷ [])) → words line ≡ keyword k ∷ args → of_block make args ≡ Some m → Spells line m
  block_spells make k form e h =
      let s = block_spelled make args m h in
      subst (λ (n : Msg). Spells line n) (sym s.4) (plain_spells (form s.0 s.1 s.2 s.3) short e s.5)

  write_spells : words line ≡ keyword kinds.Write ∷ args → of_data Write args ≡ Some m → Spells line m
  write_spells e h =
      let s = data_spelled Write args m h in
      let all : words line ≡ keyword kinds.Write ∷ map decimal (s.0 ∷ s.1 ∷ s.2 ∷ s.3 ∷ []) ++ s.5 ∷ [] = e ∙ ap (λ (vs : List (List ℕ)). keyword kinds.Write ∷ vs) s.7 in
      subst (λ (n : Msg). Spells line n) (sym s.6) (spell line (Write s.0 s.1 s.2 s.3 s.4) (s.5 ∷ []) short all s.8 (s.5, refl, s.9))

  setlabel_spells : words line ≡ keyword kinds.SetLabel ∷ args → of_label SetLabel args ≡ Some m → Spells line m
  setlabel_spells e h =
      let s = label_spelled SetLabel args m h in
      let all : words line ≡ keyword kinds.SetLabel ∷ map decimal (s.0 ∷ s.1 ∷ []) ++ s.3 ∷ [] = e ∙ ap (λ (vs : List (List ℕ)). keyword kinds.SetLabel ∷ vs) s.5 in
      subst (λ (n : Msg). Spells line n) (sym s.4) (spell line (SetLabel s.0 s.1 s.2) (s.3 ∷ []) short all s.6 (s.3, refl, s.7))

  summary_spells : words line ≡ keyword kinds.Summary ∷ args → of_kind kinds.Summary args ≡ Some m → Spells line m
  summary_spells e h =
      let s = nothing_spelled args m h in
      subst (λ (n : Msg). Spells line n) (sym s.0) (plain_spells {k = kinds.Summary} (record { kinded = refl; numbered = refl; no_data = refl }) short e s.1)

  kind_spells : (k : Kind) → words line ≡ keyword k ∷ args → of_kind k args ≡ Some m → Spells line m
  kind_spells kinds.Create e h = file_spells Create kinds.Create (λ a v f. record { kinded = refl; numbered = refl; no_data = refl }) e h
  kind_spells kinds.Delete e h = file_spells Delete kinds.Delete (λ a v f. record { kinded = refl; numbered = refl; no_data = refl }) e h
  kind_spells kinds.Write e h = write_spells e h
  kind_spells kinds.Punch e h = block_spells Punch kinds.Punch (λ a v f b. record { kinded = refl; numbered = refl; no_data = refl }) e h
  kind_spells kinds.Read e h = block_spells Read kinds.Read (λ a v f b. record { kinded = refl; numbered = refl; no_data = refl }) e h
  kind_spells kinds.Summary e h = summary_spells e h
  kind_spells kinds.SetLabel e h = setlabel_spells e h
  kind_spells k e h = volume_spells _ k (λ a v. record { kinded = refl; numbered = refl; no_data = refl }) e h

words_spell : (line : List ℕ) (ws : List (List ℕ)) (m : Msg) → length line ≤ LONGEST_LINE → words line ≡ ws → of_words ws ≡ Some m → Spells line m
words_spell line [] m short e h = cc h
words_spell line (word ∷ args) m short e h =
    let k = bind_some (kind_named word) _ m h in
    kind_spells line args m short k.0 (e ∙ ap (λ (w : List ℕ). w ∷ args) (its_keyword word k.0 k.1)) k.2

short_line : (line : List ℕ) (m : Msg) → message_of line ≡ Some m → (length line ≤ LONGEST_LINE) × (of_words (words line) ≡ Some m)
unfolding message_of
short_line line m h = elim (cases_lt LONGEST_LINE (length line)) [
  | inl long ↦ let none = sym (cond-true (nat_lt LONGEST_LINE (length line)) None (of_words (words line)) (lt-ltb LONGEST_LINE (length line) long)) ∙ h in cc none
  | inr short ↦ (short, sym (cond-false (nat_lt LONGEST_LINE (length line)) None (of_words (words line)) (le-ltb LONGEST_LINE (length line) short)) ∙ h)
]

-- what a line's words make is spelled by it
pub read_is_spelled : (line : List ℕ) (m : Msg) → message_of line ≡ Some m → Spells line m
read_is_spelled line m h = let s = short_line line m h in words_spell line (words line) m s.0 refl s.1

-- ---- from the message to its words

keyword_no_space : (k : Kind) → HasNoSpace (keyword k)
unfolding has_no_space
keyword_no_space kinds.MakeVol = no_space_from_test (keyword kinds.MakeVol) refl
keyword_no_space k = no_space_from_test (keyword k) refl

numbers_no_space : (ns : List ℕ) (behind : List (List ℕ)) → AreSmall ns → AllByRecursion HasNoSpace behind → AllByRecursion HasNoSpace (map decimal ns ++ behind)
numbers_no_space [] behind h rest = rest
numbers_no_space (n ∷ ns) behind h rest = (number_no_space (decimal n) n (number-decimal n h.0), numbers_no_space ns behind h.1 rest)

none_no_space : (behind : List (List ℕ)) → behind ≡ [] → AllByRecursion HasNoSpace behind
none_no_space behind none = subst (λ (ws : List (List ℕ)). AllByRecursion HasNoSpace ws) (sym none) tt

one_no_space : (behind : List (List ℕ)) (digits : List ℕ) → behind ≡ digits ∷ [] → HasNoSpace digits → AllByRecursion HasNoSpace behind
one_no_space behind digits e h = subst (λ (ws : List (List ℕ)). AllByRecursion HasNoSpace ws) (sym e) (h, tt)

data_no_space : (m : Msg) (behind : List (List ℕ)) → IsData m behind → AllByRecursion HasNoSpace behind
data_no_space (Write a v f b content) behind h = one_no_space behind h.0 h.1 (block_no_space h.0 content (says_block h.0 content h.2))
data_no_space (SetLabel a v bytes) behind h = one_no_space behind h.0 h.1 (label_no_space h.0 bytes (says_label h.0 bytes h.2))
data_no_space _ behind h = none_no_space behind h

-- the words of a line that spells a message
spelled_words : (line : List ℕ) (m : Msg) (s : Spells line m) → words line ≡ keyword (kind m) ∷ map decimal (numbers m) ++ s.words_behind
spelled_words line m s =
    let behind : AllByRecursion HasNoSpace s.words_behind = data_no_space m s.words_behind s.content in
    let all : AllByRecursion HasNoSpace (map decimal (numbers m) ++ s.words_behind) = numbers_no_space (numbers m) s.words_behind s.fits behind in
    ap words s.parts ∙ words-join (keyword (kind m)) (map decimal (numbers m) ++ s.words_behind) (keyword_no_space (kind m), all)

spelled_as : (line : List ℕ) (m : Msg) (s : Spells line m) → message_of line ≡ of_kind (kind m) (map decimal (numbers m) ++ s.words_behind)
spelled_as line m s = with_kind line (keyword (kind m)) (map decimal (numbers m) ++ s.words_behind) (kind m) s.short (spelled_words line m s) (sym (keyword_names (kind m)))

-- Nothing is behind the numbers, or one word of data is, and the decimal text of each number encodes that number. So the numbers make the
-- message again.

volume_read : (make : ℕ → ℕ → Msg) {a v : ℕ} {behind : List (List ℕ)} → AreSmall (a ∷ v ∷ []) → behind ≡ [] → of_volume make (map decimal (a ∷ v ∷ []) ++ behind) ≡ Some (make a v)
volume_read make {a} {v} h none =
    ap (λ (ws : List (List ℕ)). of_volume make (map decimal (a ∷ v ∷ []) ++ ws)) none
    ∙ rw (number-decimal a h.0, number-decimal v h.1.0) refl

file_read : (make : ℕ → ℕ → ℕ → Msg) {a v f : ℕ} {behind : List (List ℕ)} → AreSmall (a ∷ v ∷ f ∷ []) → behind ≡ [] → of_file make (map decimal (a ∷ v ∷ f ∷ []) ++ behind) ≡ Some (make a v f)
file_read make {a} {v} {f} h none =
    ap (λ (ws : List (List ℕ)). of_file make (map decimal (a ∷ v ∷ f ∷ []) ++ ws)) none
    ∙ rw (number-decimal a h.0, number-decimal v h.1.0, number-decimal f h.1.1.0) refl

block_read : (make : ℕ → ℕ → ℕ → ℕ → Msg) {a v f b : ℕ} {behind : List (List ℕ)} → AreSmall (a ∷ v ∷ f ∷ b ∷ []) → behind ≡ []
    → of_block make (map decimal (a ∷ v ∷ f ∷ b ∷ []) ++ behind) ≡ Some (make a v f b)
block_read make {a} {v} {f} {b} h none =
    ap (λ (ws : List (List ℕ)). of_block make (map decimal (a ∷ v ∷ f ∷ b ∷ []) ++ ws)) none
    ∙ rw (number-decimal a h.0, number-decimal v h.1.0, number-decimal f h.1.1.0, number-decimal b h.1.1.1.0) refl

data_read : (make : ℕ → ℕ → ℕ → ℕ → Block → Msg) {a v f b : ℕ} {content : Block} {digits : List ℕ} {behind : List (List ℕ)}
    → AreSmall (a ∷ v ∷ f ∷ b ∷ []) → behind ≡ digits ∷ [] → block_in_word digits ≡ Some content
    → of_data make (map decimal (a ∷ v ∷ f ∷ b ∷ []) ++ behind) ≡ Some (make a v f b content)
data_read make {a} {v} {f} {b} h is spelled =
    ap (λ (ws : List (List ℕ)). of_data make (map decimal (a ∷ v ∷ f ∷ b ∷ []) ++ ws)) is
    ∙ rw (number-decimal a h.0, number-decimal v h.1.0, number-decimal f h.1.1.0, number-decimal b h.1.1.1.0, spelled) refl

label_read : (make : ℕ → ℕ → List ℕ → Msg) {a v : ℕ} {bytes digits : List ℕ} {behind : List (List ℕ)} → AreSmall (a ∷ v ∷ []) → behind ≡ digits ∷ [] → label_in_word digits ≡ Some bytes
    → of_label make (map decimal (a ∷ v ∷ []) ++ behind) ≡ Some (make a v bytes)
label_read make {a} {v} h is spelled =
    ap (λ (ws : List (List ℕ)). of_label make (map decimal (a ∷ v ∷ []) ++ ws)) is
    ∙ rw (number-decimal a h.0, number-decimal v h.1.0, spelled) refl

-- what a line spells is what its words make
made_again : (m : Msg) (behind : List (List ℕ)) → AreSmall (numbers m) → IsData m behind → of_kind (kind m) (map decimal (numbers m) ++ behind) ≡ Some m
made_again (Create a v f) behind small none = file_read Create small none
made_again (Delete a v f) behind small none = file_read Delete small none
made_again (Write a v f b content) behind small d = data_read Write small d.1 (says_block d.0 content d.2)
made_again (Punch a v f b) behind small none = block_read Punch small none
made_again (Read a v f b) behind small none = block_read Read small none
made_again Summary behind small none = ap (of_kind kinds.Summary) none
made_again (SetLabel a v bytes) behind small d = label_read SetLabel small d.1 (says_label d.0 bytes d.2)
made_again _ behind small none = volume_read _ small none

pub spelled_is_read : (line : List ℕ) (m : Msg) → Spells line m → message_of line ≡ Some m
spelled_is_read line m s = spelled_as line m s ∙ made_again m s.words_behind s.fits s.content

-- what was read of a line is its message exactly where the line spells it
pub read_iff_spelled : (line : List ℕ) (r : Option Msg) → r ≡ message_of line → (m : Msg) → (r ≡ Some m) ↔ Spells line m
read_iff_spelled line r e m = (λ h. read_is_spelled line m (sym e ∙ h), λ s. e ∙ spelled_is_read line m s)
