-- The output of a serial server for lines that come one after the other, and the state after them.
use Rattle.std.proofs.Common.{◌≡◌, ℕ, List, [], ◌∷◌, ◌++◌, length, take, drop, refl, sym, ap, ◌∙◌, append_assoc, append-nil, take-append-drop}
use Rattle.std.specs.List.{AllByRecursion}
use Rattle.std.proofs.lemmas.List.Concat.{flat_map-append}
use Rattle.affinity.specs.declared.geometry.Geometry.{Geometry}
use Rattle.protocol.specs.Grammar.{message_of}
use Rattle.protocol.specs.Lines.{lines}
use Rattle.meaning.specs.State.{State}
use Rattle.meaning.specs.Output.{answer_line, state_after_line, state_after_lines, output_lines, joined, serial_output, with_newlines, HasNoNewline, IsBeginning}

pub joined-append : (xs ys : List (List ℕ)) → joined (xs ++ ys) ≡ joined xs ++ joined ys
joined-append xs ys = flat_map-append (λ piece. piece) xs ys

pub output_lines-append : (g : Geometry) (x : State) (ls ms : List (List ℕ)) → output_lines g x (ls ++ ms) ≡ output_lines g x ls ++ output_lines g (state_after_lines g x ls) ms
output_lines-append g x [] ms = refl
output_lines-append g x (l ∷ ls) ms = ap (λ z. answer_line g x (message_of l) ∷ z) (output_lines-append g (state_after_line g x (message_of l)) ls ms)

pub state_after_lines-append : (g : Geometry) (x : State) (ls ms : List (List ℕ)) → state_after_lines g x (ls ++ ms) ≡ state_after_lines g (state_after_lines g x ls) ms
state_after_lines-append g x [] ms = refl
state_after_lines-append g x (l ∷ ls) ms = state_after_lines-append g (state_after_line g x (message_of l)) ls ms

-- one line more is answered behind the others
pub joined-one_more : (g : Geometry) (x : State) (ls : List (List ℕ)) (l : List ℕ) → joined (output_lines g x (ls ++ l ∷ []))
    ≡ joined (output_lines g x ls) ++ answer_line g (state_after_lines g x ls) (message_of l)
joined-one_more g x ls l = ap joined (output_lines-append g x ls (l ∷ [])) ∙ joined-append (output_lines g x ls) (answer_line g (state_after_lines g x ls) (message_of l) ∷ [])
    ∙ ap (λ z. joined (output_lines g x ls) ++ z) (append-nil _)

-- the output for the first lines is the beginning of that for all
pub take-output_lines : (g : Geometry) (x : State) (ls ms : List (List ℕ)) → take (length ls) (output_lines g x (ls ++ ms)) ≡ output_lines g x ls
take-output_lines g x [] ms = refl
take-output_lines g x (l ∷ ls) ms = ap (λ z. answer_line g x (message_of l) ∷ z) (take-output_lines g (state_after_line g x (message_of l)) ls ms)

-- the answers to the first lines are a beginning of the output
pub begins_whole : (g : Geometry) (start : State) (input written : List ℕ) → IsBeginning g start input written → (rest : List ℕ) × (serial_output g start input ≡ written ++ rest)
begins_whole g start input written h =
    let ls = output_lines g start (lines input) in
    (joined (drop h.0 ls), ap joined (sym (take-append-drop h.0 ls)) ∙ joined-append (take h.0 ls) (drop h.0 ls) ∙ ap (λ (l : List ℕ). l ++ joined (drop h.0 ls)) (sym h.1))

pub with_newlines-one_more : (ls : List (List ℕ)) (l rest : List ℕ) → with_newlines (ls ++ l ∷ []) ++ rest ≡ with_newlines ls ++ (l ++ 10 ∷ rest)
with_newlines-one_more [] l rest = simp append_assoc
with_newlines-one_more (m ∷ ls) l rest = append_assoc (m ++ 10 ∷ []) (with_newlines (ls ++ l ∷ [])) rest ∙ ap (λ z. (m ++ 10 ∷ []) ++ z) (with_newlines-one_more ls l rest)
    ∙ sym (append_assoc (m ++ 10 ∷ []) (with_newlines ls) (l ++ 10 ∷ rest))

pub are_lines-one_more : (ls : List (List ℕ)) (l : List ℕ) → AllByRecursion HasNoNewline ls → HasNoNewline l → AllByRecursion HasNoNewline (ls ++ l ∷ [])
are_lines-one_more [] l h j = (j, tt)
are_lines-one_more (m ∷ ls) l h j = (h.0, are_lines-one_more ls l h.1 j)
