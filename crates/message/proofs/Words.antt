-- A line and its words.
use Rattle.std.proofs.lemmas.Grind.{common_steps}
use Rattle.std.proofs.Common.{◌≡◌, ℕ, zero, suc, ◌+◌, ◌-◌, ◌<◌, ◌≤◌, Bool, true, false, eqb, List, [], ◌∷◌, ◌++◌, length, Option, Some, None, length-drop, get_or, take, drop, refl, ap, sym, ◌∙◌, arith}
use Rattle.std.proofs.lemmas.Bool.{and_parts, ne_eqb, not-true}
use Rattle.std.proofs.lemmas.List.{take_all, drop_more, take-append-drop}
use Rattle.std.specs.Prelude.{◌&&◌, not, if◌then◌else◌, ◌==◌}
use Rattle.std.specs.List.{AllByRecursion, join_with_byte, slice_split}
use Rattle.std.proofs.lemmas.List.Splits.{join_with_byte-slice_split}
use Rattle.protocol.specs.Words.{words}
use Rattle.protocol.specs.Lines.{in_first}

-- no byte of the word is a space
abbrev pub HasNoSpace : List ℕ → Type 0
HasNoSpace word = AllByRecursion (λ b. (b == 32) ≡ false) word

unfoldable pub has_no_space : List ℕ → Bool
has_no_space [] = true
has_no_space (b ∷ bs) = not (b == 32) && has_no_space bs

pub no_space_from_test : (w : List ℕ) → has_no_space w ≡ true → HasNoSpace w
unfolding has_no_space
no_space_from_test [] h = tt
no_space_from_test (b ∷ w) h =
    let p = and_parts (not (b == 32)) (has_no_space w) h in
    (not-true (b == 32) p.0, no_space_from_test w p.1)

words-slice_split : (bs : List ℕ) → words bs ≡ slice_split (λ b. eqb b 32) bs
words-slice_split [] = refl
words-slice_split (b ∷ bs) = grind (arith, common_steps, words-slice_split bs)

pub join-words : (bs : List ℕ) → join_with_byte 32 (words bs) ≡ bs
join-words bs = rw (words-slice_split bs) (join_with_byte-slice_split 32 bs)

in_first_some : (b : ℕ) (ws : List (List ℕ)) → in_first b ws ≡ [] → ⊥
in_first_some b [] e = cc e
in_first_some b (w ∷ ws) e = cc e

pub words_some : (bs : List ℕ) → words bs ≡ [] → ⊥
words_some [] e = cc e
words_some (b ∷ bs) e = elim (b == 32) as (λ t. (if t then [] ∷ words bs else in_first b (words bs)) ≡ [] → ⊥) [ true ↦ λ e. cc e | false ↦ λ e. in_first_some b (words bs) e ] e

-- a line without a space is its one word
pub words_alone : (w : List ℕ) → HasNoSpace w → words w ≡ w ∷ []
words_alone [] h = refl
words_alone (b ∷ w) h = let e = words_alone w h.1 in rw (h.0, e) refl

-- a space ends the first word
pub words_space : (w rest : List ℕ) → HasNoSpace w → words (w ++ 32 ∷ rest) ≡ w ∷ words rest
words_space [] rest h = refl
words_space (b ∷ w) rest h = let e = words_space w rest h.1 in rw (h.0, e) refl

pub words-join : (w : List ℕ) (ws : List (List ℕ)) → AllByRecursion HasNoSpace (w ∷ ws) → words (join_with_byte 32 (w ∷ ws)) ≡ w ∷ ws
words-join w [] h = words_alone w h.0
words-join w (v ∷ ws) h = words_space w (join_with_byte 32 (v ∷ ws)) h.0 ∙ ap (λ (vs : List (List ℕ)). w ∷ vs) (words-join v ws h.1)

-- ---- the first space of a line

-- no byte before this place is a space
pub none_before : (line : List ℕ) (i : ℕ) → ((k : ℕ) → k < i → k < length line → get_or line k 0 ≡ 32 → ⊥) → HasNoSpace (take i line)
none_before line zero h = tt
none_before [] (suc i) h = tt
none_before (b ∷ line) (suc i) h = (ne_eqb b 32 (h 0 (omega arith) (omega arith)), none_before line i (λ k low high. h (suc k) (omega arith) (omega arith)))

pub words_split : (line : List ℕ) (i : ℕ) → i < length line → HasNoSpace (take i line) → get_or line i 0 ≡ 32
    → words line ≡ take i line ∷ words (take (length line - (i + 1)) (drop (i + 1) line))
words_split line i lt h e =
    let rest : take (length line - (i + 1)) (drop (i + 1) line) ≡ drop (i + 1) line = take_all _ _ (omega (arith, length-drop (i + 1) line)) in
    let front : drop i line ≡ 32 ∷ drop (i + 1) line = drop_more line i 0 lt ∙ ap (λ b. b ∷ drop (i + 1) line) e in
    let whole : line ≡ take i line ++ 32 ∷ drop (i + 1) line = sym (take-append-drop i line) ∙ ap (λ (r : List ℕ). take i line ++ r) front in
    ap words whole ∙ words_space (take i line) (drop (i + 1) line) h ∙ ap (λ (r : List ℕ). take i line ∷ words r) (sym rest)

pub words_whole : (line : List ℕ) (i : ℕ) → length line ≤ i → HasNoSpace (take i line) → words line ≡ line ∷ []
words_whole line i h none = words_alone line (let e : take i line ≡ line = take_all i line h in rw e at none)

-- the byte at index i of the line lies in its first word, `word`; the words behind that are `behind`
pub record IsInFirstWord (line : List ℕ) (i : ℕ) : Type 0 where
  pub word : List ℕ
  pub behind : List (List ℕ)
  pub parts : words line ≡ word ∷ behind
  pub long : i < length word
  pub here : get_or word i 0 ≡ get_or line i 0
  pub same : take (suc i) word ≡ take (suc i) line

words_more : (b : ℕ) (line : List ℕ) → (b == 32) ≡ false → words (b ∷ line) ≡ in_first b (words line)
words_more b line other = rw other refl

-- where no byte up to index i is a space, the byte at i lies in the first word
pub goes_on : (line : List ℕ) (i : ℕ) → i < length line → HasNoSpace (take i line) → (get_or line i 0 == 32) ≡ false → IsInFirstWord line i
goes_on [] i lt none other = absurd (omega arith)
goes_on (b ∷ line) zero lt none other = elim (words line) as (λ ws. words line ≡ ws → IsInFirstWord (b ∷ line) 0) [
  | [] ↦ λ e. absurd (words_some line e)
  | w ∷ ws ↦ λ e. record { word = b ∷ w; behind = ws; parts = words_more b line other ∙ ap (in_first b) e; long = omega arith; here = refl; same = refl }
] refl
goes_on (b ∷ line) (suc i) lt none other =
    let rest = goes_on line i (omega arith) none.1 other in
    let more = rest.long in
    record {
      word = b ∷ rest.word;
      behind = rest.behind;
      parts = words_more b line none.0 ∙ ap (in_first b) rest.parts;
      long = omega arith;
      here = rest.here;
      same = ap (λ (w : List ℕ). b ∷ w) rest.same;
    }

-- ---- what a whole line encodes

-- what the word of a list of one word encodes
abbrev pub only : {A : Type 0} → (List ℕ → Option A) → List (List ℕ) → Option A
only says (w ∷ []) = says w
only says _ = None

-- if a text with a space encodes nothing, then what the only word of a line encodes is what the line encodes
pub only-words : {A : Type 0} (says : List ℕ → Option A) (line : List ℕ) → ((x : A) → says line ≡ Some x → HasNoSpace line) → only says (words line) ≡ says line
only-words {A} says line no_space =
    let none : (ws : List (List ℕ)) → join_with_byte 32 ws ≡ line → says line ≡ None → only says ws ≡ None =
    λ ws. elim ws as (λ ws. join_with_byte 32 ws ≡ line → says line ≡ None → only says ws ≡ None) [
      | [] ↦ λ e h. refl
      | w ∷ ws ↦ elim ws as (λ ws. join_with_byte 32 (w ∷ ws) ≡ line → says line ≡ None → only says (w ∷ ws) ≡ None) [
        | [] ↦ λ e h. ap says e ∙ h
        | v ∷ ws ↦ λ e h. refl
      ]
    ] in
    elim (says line) as (λ o. says line ≡ o → only says (words line) ≡ o) [
      | None ↦ λ h. none (words line) (join-words line) h
      | Some x ↦ λ h. ap (only says) (words_alone line (no_space x h)) ∙ h
    ] refl
