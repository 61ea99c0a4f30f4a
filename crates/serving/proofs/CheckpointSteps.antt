-- Steps of a checkpoint fail only where the device does.
use Rattle.std.proofs.Common.{◌≡◌, ◌≢◌, ℕ, true, false, List, [], length, Option, Some, None, Result, Ok, Err, refl, ap, sym, subst, ◌∙◌}
use Rattle.std.specs.Prelude.{Bool, if◌then◌else◌, is_some, nat_lt, IfOk, IsFalse, IsTrue, MatchBool, MatchResult, OnErr, OnOk}
use Rattle.std.proofs.lemmas.Bool.{true≢false}
use Rattle.std.proofs.lemmas.Option.{none-some}
use Rattle.histories.specs.Events.{point_refusal}
use Rattle.histories.specs.CoreState.{Entry, CoreState, held}
use Rattle.histories.specs.declared.outcomes.PointRefusal.{PointRefusal}
use Rattle.histories.specs.declared.outcomes.PointRefusal.TheVariants as points
use Rattle.scheduler.specs.Calls.{IsCheckpointStep}
use Rattle.serving.specs.SessionSteps.{Began, CallsForCheckpoint, CheckpointStep, StartsAfresh}
use Rattle.serving.specs.Session.{SessionView}
use Rattle.serving.specs.declared.session.Halted.{Halted}

-- ---- why a step is refused

failed_so : (b : Bool) (o : Option PointRefusal) (why : PointRefusal) → (if b then Some points.Failed else o) ≡ Some why
    → (o ≡ Some why → b ≡ true) → b ≡ true
failed_so true o why e not_else = refl
failed_so false o why e not_else = not_else e

-- If the step's own condition (`why`) gives this refusal only where the device had failed before, then the device has failed after the
-- refusal.
refused_so : (old new : CoreState) (why : Option PointRefusal) (made : Type 0) (refusal : PointRefusal) → IsCheckpointStep old new why made (Err refusal)
    → (why ≡ Some refusal → old.failed ≡ true) → new.failed ≡ true
refused_so old new why made points.Device h failed = ap (λ (w : CoreState). w.failed) h.1
refused_so old new why made refusal h failed = ap (λ (w : CoreState). w.failed) h.1 ∙ failed h.0

-- ---- what a session makes of an answer of the core

pub halts_so : (answer : Result (Unit {0}) PointRefusal) (result : Result (Unit {0}) Halted) (same output_works failed : Type 0)
    → MatchResult answer (λ x. result ≡ Ok x) (λ _. OnOk result ⊥) → same → OnErr answer failed
    → MatchResult result (λ _. same) (λ _. output_works → failed)
halts_so (Ok x) (Ok y) same output_works failed is h f = h
halts_so (Ok x) (Err y) same output_works failed is h f = let o : ◌≡◌ {A = Result (Unit {0}) Halted} (Err y) (Ok x) = is in cc
halts_so (Err e) (Ok x) same output_works failed is h f = absurd is
halts_so (Err e) (Err y) same output_works failed is h f = λ _. f

-- Where none has begun, nothing has changed.
pub stands_still : (A B C asked : Type 0) {K L : Type 0} (result : Result Bool Halted) → IfOk result (λ it. MatchBool it A (B × C))
    → IfOk result (λ it. IsFalse it → K) → (K → L) → IfOk result (λ it. IsFalse it → L × B × (asked → C))
stands_still A B C asked (Ok true) begun keeps on = λ e. absurd (true≢false e)
stands_still A B C asked (Ok false) begun keeps on = λ e. (on (keeps e), begun.0, λ _. begun.1)
stands_still A B C asked (Err y) begun keeps on = tt

-- Where one has begun, there was a reason, and its count starts anew.
pub begins : (B : Type 0) (old new : SessionView) → CallsForCheckpoint old → old.core.pieces_left ≡ None → (result : Result Bool Halted)
    → IfOk result (λ it. MatchBool it ((n : ℕ) × (new.core.pieces_left ≡ Some n)) B) → IfOk result (λ it. IsTrue it → StartsAfresh old new)
    → IfOk result (λ it. IsTrue it → CheckpointStep old new)
begins B old new reason none (Ok true) begun fresh = λ e. Began reason none begun.0 begun.1 (fresh e)
begins B old new reason none (Ok false) begun fresh = λ e. absurd (true≢false (sym e))
begins B old new reason none (Err y) begun fresh = tt

-- ---- where a point is to begin and none is in progress

module _ (old : CoreState) (pieces_left : old.pieces_left ≡ None) (new : CoreState) (made : Type 0) where
  abbrev if_held : Bool → Option PointRefusal
  if_held b = if b then Some points.Held else None

  abbrev rest : Option PointRefusal
  rest = if is_some old.pieces_left then Some points.Running else if_held (nat_lt 0 (length (held old)))

  no_other : if_held (nat_lt 0 (length (held old))) ≡ rest
  no_other = ap (λ (o : Option ℕ). if is_some o then Some points.Running else if_held (nat_lt 0 (length (held old)))) (sym pieces_left)

  module _ (none_held : held old ≡ []) where
    none_rests : None ≡ rest
    none_rests = ap (λ (l : List Entry). if_held (nat_lt 0 (length l))) (sym none_held) ∙ no_other

    -- Where no message is held, a point is refused only if the device has failed.
    pub point_fails : (r : Result (Unit {0}) PointRefusal) → IsCheckpointStep old new (point_refusal old) made r → OnErr r (new.failed ≡ true)
    point_fails (Ok x) h = tt
    point_fails (Err refusal) h = refused_so old new (point_refusal old) made refusal h
        (λ e. failed_so old.failed rest refusal e (λ d. absurd (none-some refusal (none_rests ∙ d))))

  abbrev why_of : Option PointRefusal → PointRefusal
  why_of None = points.Held
  why_of (Some why) = why

  held_alone : (b : Bool) (refusal : PointRefusal) → if_held b ≡ Some refusal → refusal ≡ points.Held
  held_alone true refusal e = sym (ap why_of e)
  held_alone false refusal e = absurd (none-some refusal e)

  -- If it is refused for another reason than `Held`, the device has failed.
  begins_or_fails : (refusal : PointRefusal) → refusal ≢ points.Held → IsCheckpointStep old new (point_refusal old) made (Err refusal) → new.failed ≡ true
  begins_or_fails refusal not_held h = refused_so old new (point_refusal old) made refusal h
      (λ e. failed_so old.failed rest refusal e (λ d. absurd (not_held (held_alone (nat_lt 0 (length (held old))) refusal (no_other ∙ d)))))

  abbrev is_held : Option PointRefusal → Bool
  is_held (Some points.Held) = true
  is_held o = false

  none_waits : held old ≡ [] → (b : Bool) → (if b then Some points.Failed else rest) ≡ Some points.Held → ⊥
  none_waits none_held true e = true≢false (sym (ap is_held e))
  none_waits none_held false e = none-some points.Held (none_rests none_held ∙ e)

  -- A session that halts at a refusal of `cut` does so because the device has failed. If it doesn't halt, nothing has changed, and a
  -- message is held (`waits`).
  pub halts : {same : Type 0} (output_works : Type 0) (why : PointRefusal) (result : Result Bool Halted) → IsCheckpointStep old new (point_refusal old) made (Err why)
      → MatchResult result (λ it. (it ≡ false) × (why ≡ points.Held)) (λ _. why ≢ points.Held) → same → MatchResult result (λ _. same) (λ _. output_works → new.failed ≡ true)
  halts output_works why (Ok it) h w s = s
  halts output_works why (Err y) h w s = λ _. begins_or_fails why w h

  pub waits : (begun : Type 0) (why : PointRefusal) (result : Result Bool Halted) → IsCheckpointStep old new (point_refusal old) made (Err why)
      → MatchResult result (λ it. (it ≡ false) × (why ≡ points.Held)) (λ _. why ≢ points.Held)
      → IfOk result (λ it. MatchBool it begun ((new.pieces_left ≡ None) × (held new ≢ [])))
  waits begun why (Ok it) h w =
      let k = subst (λ (r : PointRefusal). IsCheckpointStep old new (point_refusal old) made (Err r)) w.1 h in
      subst (λ (b : Bool). MatchBool b begun ((new.pieces_left ≡ None) × (held new ≢ []))) (sym w.0)
      (ap (λ (w : CoreState). w.pieces_left) k.1 ∙ pieces_left, λ none_held. none_waits (ap held (sym k.1) ∙ none_held) old.failed k.0)
  waits begun why (Err y) h w = tt

  pub stays : {P : Type 0} (why : PointRefusal) (result : Result Bool Halted) → IsCheckpointStep old new (point_refusal old) made (Err why)
      → MatchResult result (λ it. (it ≡ false) × (why ≡ points.Held)) (λ _. why ≢ points.Held) → (new ≡ old → P) → IfOk result (λ it. IsFalse it → P)
  stays why (Ok it) h w follows =
      let k = subst (λ (r : PointRefusal). IsCheckpointStep old new (point_refusal old) made (Err r)) w.1 h in λ _. follows k.1
  stays why (Err y) h w follows = tt
