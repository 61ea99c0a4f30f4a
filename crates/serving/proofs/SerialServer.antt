-- What a serial server does for some lines.
use Rattle.std.proofs.Common.{◌≡◌, ℕ, List, [], ◌∷◌, ◌++◌, ap, refl, sym}
use Rattle.affinity.specs.declared.geometry.Geometry.{Geometry}
use Rattle.protocol.specs.Grammar.{message_of}
use Rattle.meaning.proofs.OutputLemmas.{state_after_lines-append}
use Rattle.meaning.specs.Output.{answer_line, output_lines, state_after_line, state_after_lines}
use Rattle.meaning.specs.State.{State}
use Rattle.serving.specs.AnyRuns.{AreAnsweredBy, Operation, after, answers_in, lines_in}
use Rattle.serving.specs.SerialServer.{server_in}

-- the operations of a serial server on some lines, from a state on
abbrev pub served : Geometry → State → List (List ℕ) → List Operation
served g x [] = []
served g x (l ∷ ls) = record { line = l; answer = answer_line g x (message_of l) } ∷ served g (state_after_line g x (message_of l)) ls

pub served-append : (g : Geometry) (x : State) (ls ms : List (List ℕ)) → served g x ls ++ served g (state_after_lines g x ls) ms ≡ served g x (ls ++ ms)
served-append g x [] ms = refl
served-append g x (l ∷ ls) ms = ap (λ (os : List Operation). record { line = l; answer = answer_line g x (message_of l) } ∷ os) (served-append g (state_after_line g x (message_of l)) ls ms)

pub lines_in-served : (g : Geometry) (x : State) (ls : List (List ℕ)) → lines_in (served g x ls) ≡ ls
lines_in-served g x [] = refl
lines_in-served g x (l ∷ ls) = ap (λ (ms : List (List ℕ)). l ∷ ms) (lines_in-served g (state_after_line g x (message_of l)) ls)

pub answers_in-served : (g : Geometry) (x : State) (ls : List (List ℕ)) → answers_in (served g x ls) ≡ output_lines g x ls
answers_in-served g x [] = refl
answers_in-served g x (l ∷ ls) = ap (λ (ws : List (List ℕ)). answer_line g x (message_of l) ∷ ws) (answers_in-served g (state_after_line g x (message_of l)) ls)

pub served_answered : (g : Geometry) (x : State) (ls : List (List ℕ)) → AreAnsweredBy (server_in g x) (served g x ls)
served_answered g x [] = tt
served_answered g x (l ∷ ls) = (refl, served_answered g (state_after_line g x (message_of l)) ls)

-- The server in a state, once it has taken some lines, is the one in the state after them.
pub server_after : (g : Geometry) (x : State) (ls : List (List ℕ)) → server_in g (state_after_lines g x ls) ≡ after ls (server_in g x)
server_after g x ls = λ i before line. answer_line g (sym (state_after_lines-append g x ls before) i) (message_of line)
