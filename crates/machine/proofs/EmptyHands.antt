-- Hands that are all empty.
use Rattle.std.proofs.Common.{◌≡◌, ℕ, zero, suc, List, ◌∷◌, map, replicate, refl, ap, sym, subst, ◌∙◌}
use Rattle.std.proofs.lemmas.Option.{none-some}
use Rattle.affinity.specs.declared.geometry.Geometry.{Geometry}
use Rattle.histories.specs.MachineState.{Empty, Hand}
use Rattle.histories.specs.IsSoundCoreState.{IsSoundCoreState}
use Rattle.histories.specs.CoreState.{CoreState}
use Rattle.scheduler.specs.Hands.{HoldsJobs, IsHandOf, hand_at, hand_of, ticket_in}
use Rattle.scheduler.specs.declared.hands.HandContent.{HandContent}
use Rattle.scheduler.specs.declared.hands.HandContent.TheVariants as has

empty_at : (n i : ℕ) → hand_at (replicate n has.Empty) i ≡ has.Empty
empty_at zero zero = refl
empty_at zero (suc i) = refl
empty_at (suc n) zero = refl
empty_at (suc n) (suc i) = empty_at n i

pub all_empty : (n : ℕ) → map hand_of (replicate n has.Empty) ≡ replicate n Empty
all_empty zero = refl
all_empty (suc n) = ap (λ (hs : List Hand). Empty ∷ hs) (all_empty n)

pub empty_hold : (g : Geometry) (w : CoreState) (n : ℕ) → IsSoundCoreState g w → HoldsJobs g w (replicate n has.Empty)
empty_hold g w n sound = record {
  sound = sound;
  each = λ i. subst (λ (h : HandContent). IsHandOf g w h) (sym (empty_at n i)) tt;
  once = λ i k ticket it_has other. absurd (none-some ticket (sym (ap ticket_in (empty_at n i)) ∙ it_has));
}
