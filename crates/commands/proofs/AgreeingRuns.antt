-- Two runs that finished have done all that one server does for their input: so they agree.
use Rattle.std.proofs.Common.{◌≡◌, ℕ, zero, suc, Bool, true, List, [], ◌∷◌, ◌++◌, Option, Some, ap, refl, sym, ◌∙◌, subst, append-nil, take}
use Rattle.protocol.specs.Lines.{lines}
use Rattle.meaning.specs.Output.{joined}
use Rattle.meaning.specs.ClosedPart.{IsPartOf}
use Rattle.serving.specs.AnyRuns.{AreAnsweredBy, Operation, Run, Server, Serves, after, answers_in, lines_in}

-- what a server answers to some lines
abbrev answers_of : Server → List (List ℕ) → List (List ℕ)
answers_of server [] = []
answers_of server (l ∷ ls) = server [] l ∷ answers_of (after (l ∷ []) server) ls

are_of : (server : Server) (os : List Operation) → AreAnsweredBy server os → answers_in os ≡ answers_of server (lines_in os)
are_of server [] h = refl
are_of server (o ∷ os) h = λ i. h.0 i ∷ are_of (after (o.line ∷ []) server) os h.1 i

-- A part of no lines is empty.
pub part_of_none : (conflict : List ℕ → List ℕ → Bool) (part : List (List ℕ)) (n : ℕ) (ls : List (List ℕ)) → ls ≡ []
    → IsPartOf conflict part (take n ls) → part ≡ []
part_of_none conflict part zero ls is h = h
part_of_none conflict part (suc n) [] is h = h
part_of_none conflict part (suc n) (l ∷ ls) is h = cc is

no_operation : (os : List Operation) → lines_in os ≡ [] → os ≡ []
no_operation [] is = refl
no_operation (o ∷ os) is = cc is

-- A run that finished has answered all of its input, and left the server as it is after that.
module _ (recover : List ℕ → Option Server) (conflict : List ℕ → List ℕ → Bool) (server : Server) (run : Run) (s : Serves recover conflict server run)
    (ok : run.finished ≡ true) where
  served_whole : (run.out ≡ joined (answers_of server (lines run.input))) × (recover run.left ≡ Some (after (lines run.input) server))
  served_whole =
      let answered = s.0 in
      let made = s.1 in
      let did = s.2 in
      let all = did.finished ok in
      let none = no_operation made (part_of_none conflict (lines_in made) did.read did.unanswered all.1 did.part) in
      let only : answered ++ made ≡ answered = ap (λ (os : List Operation). answered ++ os) none ∙ append-nil answered in
      let input_is : lines_in answered ≡ lines run.input = sym (append-nil (lines_in answered)) ∙ ap (λ (ls : List (List ℕ)). lines_in answered ++ ls) (sym all.1) ∙ sym did.first in
      let out_is : run.out ≡ joined (answers_in answered) = sym (append-nil run.out) ∙ ap (λ (bs : List ℕ). run.out ++ bs) (sym all.0) ∙ sym did.out in (
        out_is ∙ ap joined (are_of server answered (subst (AreAnsweredBy server) only s.3)) ∙ ap (λ (ls : List (List ℕ)). joined (answers_of server ls)) input_is,
        s.4 ∙ ap (λ (ls : List (List ℕ)). Some (after ls server)) (ap lines_in only ∙ input_is),
      )

module _ (recover : List ℕ → Option Server) (conflict : List ℕ → List ℕ → Bool) (server : Server) (one other : Run) where
  pub runs_agree : Serves recover conflict server one → Serves recover conflict server other → one.finished ≡ true → other.finished ≡ true
      → other.input ≡ one.input → (other.out ≡ one.out) × (recover other.left ≡ recover one.left)
  runs_agree served other_served ok other_ok same =
      let mine = served_whole recover conflict server one served ok in
      let its = served_whole recover conflict server other other_served other_ok in (
        its.0 ∙ ap (λ (input : List ℕ). joined (answers_of server (lines input))) same ∙ sym mine.0,
        its.1 ∙ ap (λ (input : List ℕ). Some (after (lines input) server)) same ∙ sym mine.1,
      )
