-- What the hands have, after each event.
use Rattle.std.proofs.Common.{◌≡◌, ◌≢◌, ◌⊎◌, ℕ, ◌<◌, true, false, List, [], ◌∷◌, ◌++◌, Some, refl, ap, sym, ◌∙◌, subst, length, set, inl, inr, ⊎_elim}
use Rattle.std.specs.Prelude.{◌==◌}
use Rattle.std.specs.List.{Contains}
use Rattle.std.proofs.lemmas.Bool.{eqb-true, eqb-false}
use Rattle.std.proofs.lemmas.List.{get_or-set_other, get_or-set_same}
use Rattle.affinity.specs.declared.geometry.Geometry.{Geometry}
use Rattle.histories.proofs.Elements.{contains_in, in_contained, all_at, before_in, IsIn, in_either, in_left, in_right}
use Rattle.histories.proofs.Lists.{picked}
use Rattle.histories.specs.Eligible.{is_eligible, next_eligible}
use Rattle.histories.specs.Events.{give_back, grant, find_in_flight}
use Rattle.histories.specs.IsSoundCoreState.{IsSoundCoreState}
use Rattle.histories.specs.CoreState.{Entry, CoreState}
use Rattle.scheduler.proofs.SeesSame.{SeesSame, job_stays, result_stays}
use Rattle.scheduler.specs.Hands.{HoldsJobs, IsHandOf, hand_at, ticket_in}
use Rattle.scheduler.specs.declared.hands.HandContent.{HandContent}
use Rattle.scheduler.specs.declared.hands.HandContent.TheVariants as has
use Rattle.protocol.specs.declared.messages.Msg.{Msg}

-- two numbers are one, or not
pub one_or_other : (i k : ℕ) → (i ≡ k) ⊎ (i ≢ k)
one_or_other i k = elim (i == k) as (λ b. (i == k) ≡ b → (i ≡ k) ⊎ (i ≢ k)) [
  | true ↦ λ e. inl (eqb-true i k e)
  | false ↦ λ e. inr (eqb-false i k e)
] refl

module _ (g : Geometry) where
  -- The message of a ticket that the hand has stays dispatched.
  abbrev StaysOut : CoreState → CoreState → HandContent → Type 0
  StaysOut old new h = (ticket : ℕ) (m : Msg) → ticket_in h ≡ Some ticket → Contains old.in_flight (ticket, m) → Contains new.in_flight (ticket, m)

  hand_stays : (old new : CoreState) (h : HandContent) → IsHandOf g old h → StaysOut old new h
      → ((e : Entry) → Contains old.in_flight e → SeesSame g old new e.1) → IsHandOf g new h
  hand_stays old new has.Empty is stays sees = tt
  hand_stays old new (has.Job job) is stays sees = job_stays g old new job is (sees (job.ticket, job.message) is.in_flight)
      (stays job.ticket job.message refl is.in_flight)
  hand_stays old new (has.Result done) is stays sees = result_stays g old new done is (sees (done.ticket, done.message) is.in_flight)
      (stays done.ticket done.message refl is.in_flight)

  -- The hands are as they were, and the messages that they have stay dispatched.
  pub hands_stay : (old new : CoreState) (hands : List HandContent) → HoldsJobs g old hands → IsSoundCoreState g new
      → ((e : Entry) → Contains old.in_flight e → SeesSame g old new e.1) → ((i : ℕ) → StaysOut old new (hand_at hands i))
      → HoldsJobs g new hands
  hands_stay old new hands h sound sees stays = record {
    sound = sound;
    each = λ i. hand_stays old new (hand_at hands i) (h.each i) (stays i) sees;
    once = h.once;
  }

  -- Hand k now has something else: nothing, or the job or result of a message that no other hand has.
  module _ (w : CoreState) (hands : List HandContent) (h : HoldsJobs g w hands) (k : ℕ) (within : k < length hands) (new : HandContent)
      (is : IsHandOf g w new)
      (fresh : (i ticket : ℕ) → i ≢ k → ticket_in (hand_at hands i) ≡ Some ticket → ticket_in new ≡ Some ticket → ⊥) where
    there : hand_at (set hands k new) k ≡ new
    there = get_or-set_same hands k new has.Empty within

    elsewhere : (i : ℕ) → i ≢ k → hand_at (set hands k new) i ≡ hand_at hands i
    elsewhere i other = get_or-set_other hands k i new has.Empty other

    each_set : (i : ℕ) → IsHandOf g w (hand_at (set hands k new) i)
    each_set i = ⊎_elim
        (λ (e : i ≡ k). subst (λ (j : ℕ). IsHandOf g w (hand_at (set hands k new) j)) (sym e) (subst (IsHandOf g w) (sym there) is))
        (λ other. subst (IsHandOf g w) (sym (elsewhere i other)) (h.each i)) (one_or_other i k)

    once_set : (i j ticket : ℕ) → ticket_in (hand_at (set hands k new) i) ≡ Some ticket
        → ticket_in (hand_at (set hands k new) j) ≡ Some ticket → i ≡ j
    once_set i j ticket at_i at_j =
        ⊎_elim
        (λ (e : i ≡ k). ⊎_elim (λ (f : j ≡ k). e ∙ sym f)
        (λ (other : j ≢ k). absurd (fresh j ticket other (ap ticket_in (sym (elsewhere j other)) ∙ at_j)
        (ap ticket_in (sym there) ∙ ap (λ (n : ℕ). ticket_in (hand_at (set hands k new) n)) (sym e) ∙ at_i))) (one_or_other j k))
        (λ (far : i ≢ k). ⊎_elim
        (λ (f : j ≡ k). absurd (fresh i ticket far (ap ticket_in (sym (elsewhere i far)) ∙ at_i)
        (ap ticket_in (sym there) ∙ ap (λ (n : ℕ). ticket_in (hand_at (set hands k new) n)) (sym f) ∙ at_j)))
        (λ (other : j ≢ k). h.once i j ticket (ap ticket_in (sym (elsewhere i far)) ∙ at_i) (ap ticket_in (sym (elsewhere j other)) ∙ at_j))
        (one_or_other j k))
        (one_or_other i k)

    pub holds_set : HoldsJobs g w (set hands k new)
    holds_set = record { sound = h.sound; each = each_set; once = once_set }

  -- ---- what is dispatched after a grant and after a return

  pub granted_stays : (w : CoreState) (found : Entry × List Entry) (e : Entry) → Contains w.in_flight e → Contains (grant w found).in_flight e
  granted_stays w found e out = contains_in _ e (in_left e w.in_flight (found.0 ∷ []) (in_contained _ e out))

  -- The ticket of what is granted is that of no dispatched message.
  pub granted_is_fresh : (w : CoreState) (found : Entry × List Entry) → IsSoundCoreState g w → next_eligible g w ≡ Some found → (e : Entry)
      → Contains w.in_flight e → e.0 ≡ found.0.0 → ⊥
  granted_is_fresh w found sound first e out =
      let R : Entry → Entry → Type 0 = λ c d. c.0 ≡ d.0 → ⊥ in
      let k = picked (is_eligible g w) w.waiting found first in
      let waits : IsIn found.0 w.waiting = subst (IsIn found.0) (sym k.whole) (in_right found.0 k.before (found.0 ∷ k.behind) (inl refl)) in
      all_at (λ c. R c found.0) w.in_flight e (before_in R w.in_flight w.waiting found.0 sound.once waits) (in_contained _ e out)

  pub returned_stays : (w : CoreState) (ticket : ℕ) (found : Entry × List Entry) → find_in_flight w ticket ≡ Some found → (e : Entry)
      → e.0 ≢ ticket → Contains w.in_flight e → Contains (give_back g w found).in_flight e
  returned_stays w ticket found one_out e other out =
      let k = picked (λ d. d.0 == ticket) w.in_flight found one_out in
      let was : IsIn e (k.before ++ found.0 ∷ k.behind) = subst (IsIn e) k.whole (in_contained _ e out) in
      let same : found.0.0 ≡ ticket = eqb-true found.0.0 ticket k.passes in
      contains_in found.1 e (subst (IsIn e) (sym k.rest)
      (⊎_elim (λ b. in_left e k.before k.behind b)
      (λ (r : IsIn e (found.0 ∷ k.behind)). ⊎_elim (λ (f : e ≡ found.0). absurd (other (ap (λ (d : Entry). d.0) f ∙ same)))
      (λ b. in_right e k.before k.behind b) r)
      (in_either e k.before (found.0 ∷ k.behind) was)))
