-- A message that arrives adds at most its five steps; one that is refused changes nothing.
use Rattle.std.proofs.Common.{◌≡◌, ◌+◌, ◌≤◌, List, [], ◌∷◌, Option, Some, None, Result, Ok, Err, refl, ap, sym, ◌∙◌, arith}
use Rattle.std.specs.Prelude.{ℕ, not, nat_le, ◌==◌}
use Rattle.std.proofs.lemmas.Bool.{cond_both}
use Rattle.std.proofs.lemmas.List.{length-append}
use Rattle.affinity.specs.declared.geometry.Geometry.{Geometry}
use Rattle.histories.specs.CoreState.{CoreState, most_tickets}
use Rattle.histories.specs.Events.{arrive}
use Rattle.histories.specs.declared.outcomes.ArriveRefusal.{ArriveRefusal}
use Rattle.histories.specs.declared.outcomes.Outcome.{Outcome}
use Rattle.histories.specs.declared.outcomes.Outcome.TheVariants as outcomes
use Rattle.parcel.specs.JobRun.{JobView}
use Rattle.protocol.specs.Messages.{is_in_range}
use Rattle.protocol.specs.declared.messages.Msg.{Msg}
use Rattle.scheduler.specs.Calls.{ArrivesByLine}
use Rattle.scheduler.specs.CoreView.{CoreView, core_state_of}
use Rattle.serving.specs.Runs.{unanswered}
use Rattle.serving.proofs.StepsAhead.{steps}

module _ (g : Geometry) (w : CoreState) (m : Msg) where
  few_more : (lent : List (Option JobView)) → steps (arrive g w m).1 lent ≤ steps w lent + 5
  few_more lent =
      let Few = λ (x : Outcome × CoreState). steps x.1 lent ≤ steps w lent + 5 in
      cond_both w.failed _ _ Few (λ _. omega arith) (λ _.
      cond_both (not (is_in_range g m)) _ _ Few (λ _. omega arith) (λ _.
      cond_both (w.next == most_tickets) _ _ Few (λ _. omega arith) (λ _.
      cond_both (nat_le w.slots (unanswered w)) _ _ Few (λ _. omega arith) (λ _. omega (arith, length-append w.waiting ((w.next, m) ∷ []))))))

  refused_still : (why : ArriveRefusal) → (arrive g w m).0 ≡ outcomes.ArriveRefused why → (arrive g w m).1 ≡ w
  refused_still why =
      let Still = λ (x : Outcome × CoreState). x.0 ≡ outcomes.ArriveRefused why → x.1 ≡ w in
      cond_both w.failed _ _ Still (λ _ _. refl) (λ _.
      cond_both (not (is_in_range g m)) _ _ Still (λ _ _. refl) (λ _.
      cond_both (w.next == most_tickets) _ _ Still (λ _ _. refl) (λ _.
      cond_both (nat_le w.slots (unanswered w)) _ _ Still (λ _ _. refl) (λ _ is. cc))))

pub few_by_line : (old new : CoreView) (o : Option Msg) (r : Result (Option ℕ) ArriveRefusal) → ArrivesByLine old new o r → (lent : List (Option JobView))
    → steps (core_state_of new) lent ≤ steps (core_state_of old) lent + 5
few_by_line old new None r e lent = omega (arith, ap (λ (c : CoreView). steps (core_state_of c) lent) e.1)
few_by_line old new (Some m) (Ok None) e lent = absurd e
few_by_line old new (Some m) (Ok (Some ticket)) e lent =
    omega (arith, ap (λ (x : Outcome × CoreState). steps x.1 lent) e, few_more old.geometry (core_state_of old) m lent)
few_by_line old new (Some m) (Err why) e lent =
    omega (arith, ap (λ (x : Outcome × CoreState). steps x.1 lent) e, few_more old.geometry (core_state_of old) m lent)

pub still_by_line : (old new : CoreView) (o : Option Msg) (why : ArriveRefusal) → ArrivesByLine old new o (Err why) → core_state_of new ≡ core_state_of old
still_by_line old new None why e = absurd (let other : ◌≡◌ {A = Result (Option ℕ) ArriveRefusal} (Err why) (Ok None) = e.0 in cc)
still_by_line old new (Some m) why e =
    ap (λ (x : Outcome × CoreState). x.1) e ∙ refused_still old.geometry (core_state_of old) m why (sym (ap (λ (x : Outcome × CoreState). x.0) e))
