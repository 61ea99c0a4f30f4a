-- The message of a line by its first word.
use Rattle.std.proofs.lemmas.Grind.{common_steps}
use Rattle.std.proofs.Common.{◌≡◌, ℕ, ◌<◌, ◌≤◌, true, false, List, [], ◌∷◌, length, get_or, Option, Some, None, refl, ap, sym, ◌∙◌, inl, inr, arith}
use Rattle.std.specs.Prelude.{find}
use Rattle.std.specs.Str.{bytes_eq}
use Rattle.std.proofs.lemmas.Bool.{both_ways, cases_lt, cond-false, le-ltb, ne_eqb}
use Rattle.std.proofs.lemmas.Option.{same_Some}
use Rattle.std.proofs.lemmas.Slice.Eq.{bytes_eq-Decides}
use Rattle.affinity.specs.declared.kinds.Kind.{Kind}
use Rattle.affinity.specs.declared.kinds.Kind.TheVariants.{MakeVol, Summary}
use Rattle.protocol.specs.declared.sizes.TheConstants.{LONGEST_LINE}
use Rattle.protocol.specs.Words.{words}
use Rattle.protocol.specs.Grammar.{message_of, of_words, of_kind, keyword, kind_named, all_kinds, ◌>>=◌}
use Rattle.message.proofs.Words.{none_before, words_whole, goes_on}

pub by_words : (line : List ℕ) (ws : List (List ℕ)) → length line ≤ LONGEST_LINE → words line ≡ ws → message_of line ≡ of_words ws
unfolding message_of
by_words line ws h e = cond-false _ _ _ (le-ltb LONGEST_LINE (length line) h) ∙ ap of_words e

-- a line whose first word names a kind, or none
pub with_kind : (line word : List ℕ) (args : List (List ℕ)) (k : Kind) → length line ≤ LONGEST_LINE → words line ≡ word ∷ args → Some k ≡ kind_named word → message_of line ≡ of_kind k args
with_kind line word args k h e named = by_words line (word ∷ args) h e ∙ ap (λ (o : Option Kind). o >>= (λ k. of_kind k args)) (sym named)

pub without_kind : (line word : List ℕ) (args : List (List ℕ)) → length line ≤ LONGEST_LINE → words line ≡ word ∷ args → None ≡ kind_named word → message_of line ≡ None
without_kind line word args h e named = by_words line (word ∷ args) h e ∙ ap (λ (o : Option Kind). o >>= (λ k. of_kind k args)) (sym named)

-- a keyword alone in its line is a message only if it is `summary`
pub needs_words : (k : Kind) → (k ≡ Summary → ⊥) → of_kind k [] ≡ None
needs_words Summary h = absurd (h refl)
needs_words _ h = refl

-- ---- a kind and its keyword

-- the first of some kinds that has this keyword
abbrev named_among : List Kind → List ℕ → Option Kind
named_among ks word = find (λ k. bytes_eq word (keyword k)) ks

named_by_keyword : (ks : List Kind) (word : List ℕ) (k : Kind) → named_among ks word ≡ Some k → word ≡ keyword k
named_by_keyword [] word k h = cc h
named_by_keyword (x ∷ ks) word k h = grind (arith, common_steps, named_by_keyword ks, bytes_eq-Decides, same_Some)

pub its_keyword : (word : List ℕ) (k : Kind) → kind_named word ≡ Some k → word ≡ keyword k
unfolding kind_named
its_keyword word k h = named_by_keyword all_kinds word k h

pub keyword_names : (k : Kind) → kind_named (keyword k) ≡ Some k
unfolding kind_named
keyword_names MakeVol = refl
keyword_names _ = refl

-- a word that is no keyword names no kind
pub names_none : (word : List ℕ) → ((k : Kind) → word ≡ keyword k → ⊥) → kind_named word ≡ None
names_none word none = elim (kind_named word) as (λ o. kind_named word ≡ o → kind_named word ≡ None) [
  | None ↦ λ e. e
  | Some k ↦ λ e. absurd (none k (its_keyword word k e))
] refl

-- a word that is a kind's keyword names it
pub names_it : (word : List ℕ) (k : Kind) → word ≡ keyword k → Some k ≡ kind_named word
names_it word k is = sym (ap kind_named is ∙ keyword_names k)

-- a word that passes the test for a keyword names its kind
pub passes : (word : List ℕ) (k : Kind) → bytes_eq word (keyword k) ≡ true → Some k ≡ kind_named word
passes word k h = names_it word k ((bytes_eq-Decides word (keyword k)).0 h)

-- a word that fails the test for each keyword names no kind
pub fails_all : (word : List ℕ) → ((k : Kind) → bytes_eq word (keyword k) ≡ false) → None ≡ kind_named word
fails_all word fails = sym (names_none word (λ k is. both_ways (bytes_eq word (keyword k)) (fails k) ((bytes_eq-Decides word (keyword k)).1 is)))

-- ---- a line whose first nine bytes have no space

keyword_short : (k : Kind) → length (keyword k) ≤ 8
keyword_short MakeVol = omega arith
keyword_short _ = omega arith

long_word : (word : List ℕ) → 8 < length word → None ≡ kind_named word
long_word word long = sym (names_none word (λ k is. let short = keyword_short k in omega (arith, ap length is, short, long)))

module _ (line : List ℕ) (none : (k : ℕ) → k ≤ 8 → k < length line → get_or line k 0 ≡ 32 → ⊥) where
  -- a line that is a keyword is one word
  pub keyword_alone : (k : Kind) → Some k ≡ kind_named line → words line ≡ line ∷ []
  keyword_alone k named =
      let short = keyword_short k in
      let is = ap length (its_keyword line k (sym named)) in
      words_whole line 9 (omega (arith, short, is)) (none_before line 9 (λ i low high. none i (omega arith) high))

  -- a line that is no keyword spells no message: its first word is the whole line, or too long for a keyword
  pub no_keyword : length line ≤ LONGEST_LINE → None ≡ kind_named line → message_of line ≡ None
  no_keyword fits named = elim (cases_lt 9 (length line)) [
    | inl long ↦
        let first = goes_on line 8 (omega arith) (none_before line 8 (λ i low high. none i (omega arith) high)) (ne_eqb _ 32 (none 8 (omega arith) (omega arith))) in
        without_kind line first.word first.behind fits first.parts (long_word first.word first.long)
    | inr short ↦ without_kind line line [] fits (words_whole line 9 (omega arith) (none_before line 9 (λ i low high. none i (omega arith) high))) named
  ]
