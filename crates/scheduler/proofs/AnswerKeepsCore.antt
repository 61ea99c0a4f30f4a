-- A core that answers.
use Rattle.std.proofs.Common.{◌≡◌, ℕ, suc, false, List, ◌∷◌, ◌++◌, map, length, refl, ap, subst, ◌∙◌, arith}
use Rattle.std.specs.Prelude.{◌&&◌, not}
use Rattle.std.specs.List.{AllByRecursion}
use Rattle.std.proofs.lemmas.Bool.{eq-eqb}
use Rattle.affinity.specs.declared.geometry.Geometry.{Geometry}
use Rattle.histories.proofs.Lists.{all_back, all_front}
use Rattle.histories.proofs.IsSoundCoreState.{answer_sound}
use Rattle.histories.specs.CoreState.{entries, are_related_entries, AreUnrelated}
use Rattle.scheduler.proofs.UnloggedChanges.{AreClaimed, HasHeld}
use Rattle.scheduler.proofs.HeldAny.{any_answered}
use Rattle.scheduler.proofs.Lists.{any_filter}
use Rattle.scheduler.proofs.AffinityNumbers.{other_numbers, other_replied}
use Rattle.scheduler.specs.Parts.{Parts}
use Rattle.scheduler.specs.View.{core_state_in}
use Rattle.scheduler.specs.IsCore.{IsCore}
use Rattle.scheduler.specs.Slots.{SlotView, IsPlaced, entry_of, replied_of}
use Rattle.run_queue.specs.RunQueue.{has_number, without_number}

abbrev pub with_answer : Parts → List SlotView → ℕ → ℕ → Parts
with_answer p logged free number = record p {
  phases = record p.phases { logged = logged };
  free = free;
  queue = record p.queue { held = without_number number p.queue.held };
}

module _ (keeps : Type 0) (p : Parts) (k : IsCore keeps p) (x : SlotView) (behind : List SlotView) (whole : p.phases.logged ≡ x ∷ behind) (free : ℕ)
    (is_free : free ≡ suc p.free) where
  abbrev after : Parts
  after = with_answer p behind free x.1.affinity.number

  abbrev g : Geometry
  g = p.journal.geometry

  all_logged : AllByRecursion (IsPlaced g) (x ∷ behind)
  all_logged = subst (AllByRecursion (IsPlaced g)) whole k.placed.logged

  pub answer_front : (core_state_in p).logged ≡ replied_of x ∷ (core_state_in after).logged
  answer_front = ap (map replied_of) whole

  apart_rest : AllByRecursion (λ d. are_related_entries g (entry_of x) d ≡ false) (entries (map replied_of behind) ++ (entries (map replied_of p.phases.ran) ++ map entry_of p.phases.in_flight))
  apart_rest = (subst (λ l. AreUnrelated g (entries l ++ (entries (map replied_of p.phases.ran) ++ map entry_of p.phases.in_flight))) answer_front k.sound.apart).0

  pub answer_core : IsCore keeps after
  answer_core =
      let count = ap length whole in
      let claimed = k.claimed in
      let rest = all_back (λ d. are_related_entries g (entry_of x) d ≡ false) (entries (map replied_of behind)) _ apart_rest in
      let behinds = all_front (λ d. are_related_entries g (entry_of x) d ≡ false) (entries (map replied_of behind)) _ apart_rest in
      let rans = all_front (λ d. are_related_entries g (entry_of x) d ≡ false) (entries (map replied_of p.phases.ran)) _ rest in
      let outs = all_back (λ d. are_related_entries g (entry_of x) d ≡ false) (entries (map replied_of p.phases.ran)) _ rest in
      let slots : AreClaimed after = omega (arith, count, claimed, is_free) in
      let queue_held : HasHeld after = λ test. any_filter test (λ t. not (has_number x.1.affinity.number t)) p.queue.held
      ∙ k.queue_held (λ t. not (has_number x.1.affinity.number t) && test t)
      ∙ any_answered test (λ t. not (has_number x.1.affinity.number t)) p.phases whole (ap not (eq-eqb x.1.affinity.number x.1.affinity.number refl))
      (other_replied g x all_logged.0 behind all_logged.1 behinds)
      (other_replied g x all_logged.0 p.phases.ran k.placed.ran rans)
      (other_numbers g x all_logged.0 p.phases.in_flight k.placed.in_flight outs) in
      assumption (slots, all_logged.1, queue_held, answer_sound g (core_state_in p) k.sound (replied_of x) (map replied_of behind) answer_front, k)
