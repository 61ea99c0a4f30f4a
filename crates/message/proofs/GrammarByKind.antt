-- The grammar of each kind of message, word by word: the first word as a number, then the rest by the rule for one number less.
use Rattle.std.proofs.Common.{arith, ◌≡◌, ℕ, ◌+◌, ◌-◌, ◌<◌, List, [], ◌∷◌, length, get_or, take, drop, Option, Some, None, refl, ap, sym, ◌∙◌}
use Rattle.std.proofs.lemmas.Grind.{common_steps}
use Rattle.std.specs.Option.{option_map}
use Rattle.affinity.specs.declared.kinds.Kind.TheVariants.{Summary}
use Rattle.protocol.specs.declared.messages.Block.{Block}
use Rattle.protocol.specs.declared.messages.Msg.{Msg}
use Rattle.protocol.specs.Words.{words, number_in_word, block_in_word, label_in_word}
use Rattle.message.proofs.Words.{only, only-words, words_some, words_split}
use Rattle.message.proofs.Numbers.{number_no_space}
use Rattle.message.proofs.Blocks.{block_no_space, label_no_space}
use Rattle.protocol.specs.Grammar.{◌>>=◌, first_number, of_volume, of_file, of_block, of_data, of_label, of_kind}

-- k applied to the number that the first of several words encodes, and to the words after it
abbrev pub onward : (ℕ → List (List ℕ) → Option Msg) → List (List ℕ) → Option Msg
onward k ws = first_number ws >>= (λ p. k p.0 p.1)

pub onward_some : (k : ℕ → List (List ℕ) → Option Msg) (ws : List (List ℕ)) (n : ℕ) (vs : List (List ℕ)) → first_number ws ≡ Some (n, vs) → onward k ws ≡ k n vs
onward_some k ws n vs e = rw e refl

-- a number with the words behind it
abbrev beside : List (List ℕ) → ℕ → Option (ℕ × List (List ℕ))
beside vs n = Some (n, vs)

-- f applied to an optional number is k applied to the number and to the words vs behind it
live : (o : Option ℕ) (vs : List (List ℕ)) (f : ℕ → Option Msg) (k : ℕ → List (List ℕ) → Option Msg) → ((n : ℕ) → f n ≡ k n vs)
    → (o >>= f) ≡ ((o >>= beside vs) >>= (λ p. k p.0 p.1))
live None vs f k h = refl
live (Some n) vs f k h = h n

-- if k makes no message of the words vs (too few or too many), there is none, whatever the number
dead : (o : Option ℕ) (vs : List (List ℕ)) (k : ℕ → List (List ℕ) → Option Msg) → ((n : ℕ) → k n vs ≡ None)
    → None ≡ ((o >>= beside vs) >>= (λ p. k p.0 p.1))
dead None vs k h = refl
dead (Some n) vs k h = sym (h n)

-- a first word that encodes no number
pub first_number_none : (ws : List (List ℕ)) (w : List ℕ) (vs : List (List ℕ)) → ws ≡ w ∷ vs → number_in_word w ≡ None → first_number ws ≡ None
first_number_none ws w [] e h = rw e refl
first_number_none ws w (v ∷ vs) e h = rw (e, h) refl

-- ---- two, three and four numbers

abbrev pub of_number : (ℕ → Msg) → List (List ℕ) → Option Msg
of_number make ws = only number_in_word ws >>= (λ n. Some (make n))

pub of_volume-onward : (make : ℕ → ℕ → Msg) (ws : List (List ℕ)) → of_volume make ws ≡ onward (λ n. of_number (make n)) ws
of_volume-onward make [] = refl
of_volume-onward make (a ∷ []) = refl
of_volume-onward make (a ∷ v ∷ []) = live (number_in_word a) (v ∷ []) _ (λ n. of_number (make n)) (λ n. refl)
of_volume-onward make (a ∷ v ∷ f ∷ ws) = dead (number_in_word a) (v ∷ f ∷ ws) (λ n. of_number (make n)) (λ n. refl)

pub of_file-onward : (make : ℕ → ℕ → ℕ → Msg) (ws : List (List ℕ)) → of_file make ws ≡ onward (λ n. of_volume (make n)) ws
of_file-onward make [] = refl
of_file-onward make (a ∷ []) = refl
of_file-onward make (a ∷ v ∷ f ∷ []) = live (number_in_word a) (v ∷ f ∷ []) _ (λ n. of_volume (make n)) (λ n. refl)
of_file-onward make (a ∷ vs) = dead (number_in_word a) vs (λ n. of_volume (make n)) (λ n. refl)

pub of_block-onward : (make : ℕ → ℕ → ℕ → ℕ → Msg) (ws : List (List ℕ)) → of_block make ws ≡ onward (λ n. of_file (make n)) ws
of_block-onward make [] = refl
of_block-onward make (a ∷ []) = refl
of_block-onward make (a ∷ v ∷ f ∷ b ∷ []) = live (number_in_word a) (v ∷ f ∷ b ∷ []) _ (λ n. of_file (make n)) (λ n. refl)
of_block-onward make (a ∷ vs) = dead (number_in_word a) vs (λ n. of_file (make n)) (λ n. refl)

-- ---- numbers and the digits of a block

abbrev pub of_digits : (Block → Msg) → List (List ℕ) → Option Msg
of_digits make ws = only block_in_word ws >>= (λ content. Some (make content))

-- the words of a `write` from its third, second and first number on
abbrev pub from_block : (ℕ → Block → Msg) → List (List ℕ) → Option Msg
from_block make (b ∷ digits ∷ []) = number_in_word b >>= (λ block_number. block_in_word digits >>= (λ content. Some (make block_number content)))
from_block make _ = None

abbrev pub from_file : (ℕ → ℕ → Block → Msg) → List (List ℕ) → Option Msg
from_file make (f ∷ b ∷ digits ∷ []) = number_in_word f >>= (λ file. from_block (make file) (b ∷ digits ∷ []))
from_file make _ = None

abbrev pub from_volume : (ℕ → ℕ → ℕ → Block → Msg) → List (List ℕ) → Option Msg
from_volume make (v ∷ f ∷ b ∷ digits ∷ []) = number_in_word v >>= (λ volume. from_file (make volume) (f ∷ b ∷ digits ∷ []))
from_volume make _ = None

pub from_block-onward : (make : ℕ → Block → Msg) (ws : List (List ℕ)) → from_block make ws ≡ onward (λ n. of_digits (make n)) ws
from_block-onward make [] = refl
from_block-onward make (b ∷ []) = refl
from_block-onward make (b ∷ d ∷ []) = live (number_in_word b) (d ∷ []) _ (λ n. of_digits (make n)) (λ n. refl)
from_block-onward make (b ∷ d ∷ w ∷ ws) = dead (number_in_word b) (d ∷ w ∷ ws) (λ n. of_digits (make n)) (λ n. refl)

pub from_file-onward : (make : ℕ → ℕ → Block → Msg) (ws : List (List ℕ)) → from_file make ws ≡ onward (λ n. from_block (make n)) ws
from_file-onward make [] = refl
from_file-onward make (f ∷ []) = refl
from_file-onward make (f ∷ b ∷ d ∷ []) = live (number_in_word f) (b ∷ d ∷ []) _ (λ n. from_block (make n)) (λ n. refl)
from_file-onward make (f ∷ vs) = dead (number_in_word f) vs (λ n. from_block (make n)) (λ n. refl)

pub from_volume-onward : (make : ℕ → ℕ → ℕ → Block → Msg) (ws : List (List ℕ)) → from_volume make ws ≡ onward (λ n. from_file (make n)) ws
from_volume-onward make [] = refl
from_volume-onward make (v ∷ []) = refl
from_volume-onward make (v ∷ f ∷ b ∷ d ∷ []) = live (number_in_word v) (f ∷ b ∷ d ∷ []) _ (λ n. from_file (make n)) (λ n. refl)
from_volume-onward make (v ∷ vs) = dead (number_in_word v) vs (λ n. from_file (make n)) (λ n. refl)

pub of_data-onward : (make : ℕ → ℕ → ℕ → ℕ → Block → Msg) (ws : List (List ℕ)) → of_data make ws ≡ onward (λ n. from_volume (make n)) ws
of_data-onward make [] = refl
of_data-onward make (a ∷ []) = refl
of_data-onward make (a ∷ v ∷ f ∷ b ∷ d ∷ []) = live (number_in_word a) (v ∷ f ∷ b ∷ d ∷ []) _ (λ n. from_volume (make n)) (λ n. refl)
of_data-onward make (a ∷ vs) = dead (number_in_word a) vs (λ n. from_volume (make n)) (λ n. refl)

-- ---- numbers and the digits of a label

abbrev pub of_label_digits : (List ℕ → Msg) → List (List ℕ) → Option Msg
of_label_digits make ws = only label_in_word ws >>= (λ bytes. Some (make bytes))

-- the words of a `setlabel` from its second number on
abbrev pub label_from_volume : (ℕ → List ℕ → Msg) → List (List ℕ) → Option Msg
label_from_volume make (v ∷ digits ∷ []) = number_in_word v >>= (λ volume. label_in_word digits >>= (λ bytes. Some (make volume bytes)))
label_from_volume make _ = None

pub label_from_volume-onward : (make : ℕ → List ℕ → Msg) (ws : List (List ℕ)) → label_from_volume make ws ≡ onward (λ n. of_label_digits (make n)) ws
label_from_volume-onward make [] = refl
label_from_volume-onward make (v ∷ []) = refl
label_from_volume-onward make (v ∷ d ∷ []) = live (number_in_word v) (d ∷ []) _ (λ n. of_label_digits (make n)) (λ n. refl)
label_from_volume-onward make (v ∷ d ∷ w ∷ ws) = dead (number_in_word v) (d ∷ w ∷ ws) (λ n. of_label_digits (make n)) (λ n. refl)

pub of_label-onward : (make : ℕ → ℕ → List ℕ → Msg) (ws : List (List ℕ)) → of_label make ws ≡ onward (λ n. label_from_volume (make n)) ws
of_label-onward make [] = refl
of_label-onward make (a ∷ []) = refl
of_label-onward make (a ∷ v ∷ d ∷ []) = live (number_in_word a) (v ∷ d ∷ []) _ (λ n. label_from_volume (make n)) (λ n. refl)
of_label-onward make (a ∷ vs) = dead (number_in_word a) vs (λ n. label_from_volume (make n)) (λ n. refl)

-- ---- no words

pub nothing_behind : (line : List ℕ) → of_kind Summary (words line) ≡ None
nothing_behind line = grind (arith, common_steps, words_some)

-- ---- as the code reads them

-- the words after a first word that encodes a number
pub first_number_some : (ws : List (List ℕ)) (w bs : List ℕ) (n : ℕ) → ws ≡ w ∷ words bs → number_in_word w ≡ Some n → first_number ws ≡ Some (n, words bs)
first_number_some ws w bs n e h =
    ap first_number e ∙ elim (words bs) as (λ vs. words bs ≡ vs → first_number (w ∷ vs) ≡ Some (n, vs)) [
      | [] ↦ λ none. absurd (words_some bs none)
      | v ∷ vs ↦ λ some. rw h refl
    ] refl

-- a line that begins with a word that encodes a number, and a space
pub number_in_front : (line : List ℕ) (i n : ℕ) → i < length line → number_in_word (take i line) ≡ Some n → get_or line i 0 ≡ 32
    → first_number (words line) ≡ Some (n, words (take (length line - (i + 1)) (drop (i + 1) line)))
number_in_front line i n lt h space = first_number_some (words line) (take i line) (take (length line - (i + 1)) (drop (i + 1) line)) n (words_split line i lt (number_no_space _ n h) space) h

pub only-number : (line : List ℕ) → only number_in_word (words line) ≡ number_in_word line
only-number line = only-words number_in_word line (number_no_space line)

pub only-block : (line : List ℕ) → only block_in_word (words line) ≡ block_in_word line
only-block line = only-words block_in_word line (block_no_space line)

pub of_number-read : (make : ℕ → Msg) (line : List ℕ) (n : ℕ) → Some n ≡ number_in_word line → of_number make (words line) ≡ Some (make n)
of_number-read make line n h = let e = only-number line ∙ sym h in rw e refl

pub of_number-none : (make : ℕ → Msg) (line : List ℕ) → None ≡ number_in_word line → of_number make (words line) ≡ None
of_number-none make line h = let e = only-number line ∙ sym h in rw e refl

only-label : (line : List ℕ) → only label_in_word (words line) ≡ label_in_word line
only-label line = only-words label_in_word line (label_no_space line)

-- the last step of a `write`: the rest of its line as the digits of a block
pub of_digits-told : (make : Block → Msg) (line : List ℕ) → of_digits make (words line) ≡ option_map make (block_in_word line)
of_digits-told make line = rw (only-block line) (elim (block_in_word line) as (λ o. (o >>= (λ content. Some (make content))) ≡ option_map make o) [ None ↦ refl | Some content ↦ refl ])

-- the last step of a `setlabel`: the rest of its line as the digits of a label
pub of_label_digits-told : (make : List ℕ → Msg) (line : List ℕ) → of_label_digits make (words line) ≡ option_map make (label_in_word line)
of_label_digits-told make line = rw (only-label line) (elim (label_in_word line) as (λ o. (o >>= (λ bytes. Some (make bytes))) ≡ option_map make o) [ None ↦ refl | Some bytes ↦ refl ])
