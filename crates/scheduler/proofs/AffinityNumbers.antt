-- Messages whose affinities have one number are at related places; others have other numbers.
use Rattle.std.proofs.Common.{◌≡◌, true, false, List, [], ◌∷◌, map, ap, sym, subst, ◌∙◌, inl, inr}
use Rattle.std.proofs.lemmas.Bool.{or_left, true≢false}
use Rattle.std.proofs.Math.Bool.{or_self}
use Rattle.std.proofs.lemmas.Bool.Decides.{eqb_tells}
use Rattle.std.specs.Prelude.{◌||◌, not}
use Rattle.std.specs.List.{AllByRecursion}
use Rattle.affinity.proofs.Paths.{are_related-refl}
use Rattle.affinity.proofs.Preorder.{are_related-contains}
use Rattle.affinity.specs.Interval.{contains}
use Rattle.affinity.specs.declared.geometry.Geometry.{Geometry}
use Rattle.histories.specs.CoreState.{entries, are_related_entries}
use Rattle.protocol.specs.Messages.{path_of}
use Rattle.scheduler.proofs.SlotEntries.{entries_of}
use Rattle.scheduler.specs.Slots.{SlotView, IsPlaced, entry_of, replied_of, queued_of}
use Rattle.run_queue.specs.RunQueue.{has_number}

-- Two places at one affinity are related.
pub same_number : (g : Geometry) (x y : SlotView) → IsPlaced g x → IsPlaced g y → y.1.affinity.number ≡ x.1.affinity.number → are_related_entries g (entry_of x) (entry_of y) ≡ true
same_number g x y a b same =
    sym (are_related-contains g (path_of g x.1.message) (path_of g y.1.message) x.1.affinity y.1.affinity a.affinity b.affinity)
    ∙ (λ i. contains x.1.affinity (same i) || contains y.1.affinity (sym same i))
    ∙ or_left (contains x.1.affinity x.1.affinity.number) (contains y.1.affinity y.1.affinity.number) itself
  where
    itself : contains x.1.affinity x.1.affinity.number ≡ true
    itself = sym (or_self _) ∙ are_related-contains g (path_of g x.1.message) (path_of g x.1.message) x.1.affinity x.1.affinity a.affinity a.affinity
        ∙ are_related-refl (path_of g x.1.message)

other_number : (g : Geometry) (x y : SlotView) → IsPlaced g x → IsPlaced g y → are_related_entries g (entry_of x) (entry_of y) ≡ false → not (has_number x.1.affinity.number (queued_of y)) ≡ true
other_number g x y a b apart = elim (eqb_tells y.1.affinity.number x.1.affinity.number) [
  | inl e ↦ absurd (true≢false (sym (same_number g x y a b e.1) ∙ apart))
  | inr n ↦ ap not n.0
]

pub other_numbers : (g : Geometry) (x : SlotView) → IsPlaced g x → (ys : List SlotView) → AllByRecursion (IsPlaced g) ys
    → AllByRecursion (λ d. are_related_entries g (entry_of x) d ≡ false) (map entry_of ys)
    → AllByRecursion (λ y. not (has_number x.1.affinity.number (queued_of y)) ≡ true) ys
other_numbers g x a [] all apart = tt
other_numbers g x a (y ∷ ys) all apart = (other_number g x y a all.0 apart.0, other_numbers g x a ys all.1 apart.1)

pub other_replied : (g : Geometry) (x : SlotView) → IsPlaced g x → (ys : List SlotView) → AllByRecursion (IsPlaced g) ys
    → AllByRecursion (λ d. are_related_entries g (entry_of x) d ≡ false) (entries (map replied_of ys))
    → AllByRecursion (λ y. not (has_number x.1.affinity.number (queued_of y)) ≡ true) ys
other_replied g x a ys all apart =
    other_numbers g x a ys all (subst (AllByRecursion (λ d. are_related_entries g (entry_of x) d ≡ false)) (entries_of ys) apart)
