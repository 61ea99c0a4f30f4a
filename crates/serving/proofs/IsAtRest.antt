-- Where a session is at rest, nothing waits in its core: the message with the least ticket could be dispatched, or lacks only room in the
-- log. So each line that was read is retired.
use Rattle.std.proofs.Common.{◌≡◌, ◌≢◌, ℕ, ◌<◌, zero, suc, Bool, true, false, List, [], ◌∷◌, ◌++◌, Option, Some, None, refl, ap, sym, ◌∙◌, length, map, replicate, arith}
use Rattle.std.specs.Prelude.{cond, IfSome, is_none, position}
use Rattle.std.proofs.lemmas.Bool.{true≢false, lt-ltb}
use Rattle.std.proofs.lemmas.List.{length-append}
use Rattle.std.proofs.lemmas.Option.{none-some}
use Rattle.affinity.specs.declared.geometry.Geometry.{Geometry}
use Rattle.histories.proofs.CanGoOn.{needs}
use Rattle.histories.specs.CoreState.{CoreState, Entry, entries, held, IsIdle}
use Rattle.histories.specs.IsSoundCoreState.{IsSoundCoreState}
use Rattle.histories.specs.declared.outcomes.Outcome.TheVariants as outcomes
use Rattle.reorder_buffer.specs.ReorderBuffer.{ReorderBufferView, can_retire}
use Rattle.parcel.specs.JobRun.{JobView}
use Rattle.scheduler.specs.Calls.{IsNoGrant}
use Rattle.scheduler.specs.CoreView.{core_state_of}
use Rattle.serving.specs.DispatchesTo.{IsBlocked, asks_for_checkpoint}
use Rattle.serving.specs.SessionEnds.{IsAtRest}
use Rattle.serving.specs.SessionSteps.{KeepsCoreState, HasLoggedNothing, HasOnlySent}
use Rattle.serving.specs.SessionInvariant.{SessionInvariantFrom}
use Rattle.protocol.specs.Replies.{reply_text}
use Rattle.meaning.specs.Output.{joined}
use Rattle.serving.specs.Lines.{Completed, HaveAnswers, Line, NoMessage, OutOfRange, Pending, answer_text, has_answer}
use Rattle.serving.specs.Session.{NoneUnanswered, SessionView}
use Rattle.serving.specs.Start.{Start}
use Rattle.serving.specs.declared.dispatch.Blocked.{Blocked}
use Rattle.serving.specs.declared.dispatch.Blocked.TheVariants as blocked
use Rattle.serving.proofs.SessionInvariant.{ask, none_out, progress_at_end, to_reorder_buffer}
use Rattle.serving.proofs.NoneUnanswered.{no_line}

-- ---- nothing waits

-- where places are free, some place is the first one
some_free : (n : ℕ) → 0 < n → position (λ (o : Option JobView). is_none o) (replicate n None) ≢ None
some_free zero some none = absurd (omega (arith, some))
some_free (suc n) some none =
    let first : position (λ (o : Option JobView). is_none o) (None ∷ replicate n None) ≡ Some 0 =
    ap (λ (b : Bool). cond b (Some 0) None) (lt-ltb 0 (suc (length (replicate {A = Option JobView} n None))) (omega arith)) in
    none-some 0 (sym none ∙ first)

none_granted : (g : Geometry) (w : CoreState) (waiting : List Entry) → IsSoundCoreState g w → held w ≡ [] → IsNoGrant g w w outcomes.NoneEligible
    → w.waiting ≡ waiting → w.waiting ≡ []
none_granted g w [] sound none nothing is = is
none_granted g w (e ∷ rest) sound none nothing is =
    let roomless : outcomes.NoRoom ≡ outcomes.NoneEligible = sym (needs g w e rest sound none is nothing.works nothing.none).no_room ∙ nothing.reason in cc

module _ (p : SessionView) (sound : IsSoundCoreState p.core.geometry (core_state_of p.core)) (places : 0 < length p.dispatch_seat.lent)
    (none_out : p.core.in_flight ≡ []) where
  none_held : {why : Option Blocked} → IsAtRest p why → held (core_state_of p.core) ≡ []
  none_held r = λ i. entries (r.none_logged i) ++ (entries (r.none_ran i) ++ none_out i)

  none_waits : (why : Option Blocked) → IsAtRest p why → p.core.waiting ≡ []
  none_waits None r = absurd (r.none_asked refl (none_held r))
  none_waits (Some blocked.NoRoom) r = absurd (r.none_asked refl (none_held r))
  none_waits (Some blocked.NoPlace) r =
      absurd (some_free (length p.dispatch_seat.lent) places (ap (position (λ (o : Option JobView). is_none o)) (sym r.none_in_flight) ∙ r.blocked.0))
  none_waits (Some blocked.NoneEligible) r = none_granted p.core.geometry (core_state_of p.core) p.core.waiting sound (none_held r) r.blocked refl
  none_waits (Some blocked.Failed) r = absurd (true≢false (sym r.blocked.0 ∙ r.works))

  idle_at_rest : (why : Option Blocked) → IsAtRest p why → IsIdle (core_state_of p.core)
  idle_at_rest why r = record { none_waits = none_waits why r; none_held = none_held r }

pub retired_at_rest : (keeps : Type 0) (o : Option Start) (p : SessionView) → SessionInvariantFrom keeps o p → (why : Option Blocked) → IsAtRest p why
    → p.reorder_buffer.lines ≡ []
retired_at_rest keeps o p u why r = ask keeps o p u (λ s u.
    let h = to_reorder_buffer (progress_at_end keeps s p p.read_end u.reads).2 in
    let places = u.places in
    let some = u.some_place in
    let idle = idle_at_rest p u.holds.sound (omega (arith, places, some)) (none_out u.idle h.serving.segment r.none_in_flight) why r in
    no_line u.idle idle p.reorder_buffer.lines h r.last)

-- ---- no line is outstanding

some_text : (line : Line) → has_answer line ≡ true → 0 < length (answer_text line)
some_text (Pending ticket) e = absurd (true≢false (sym e))
some_text (Completed ticket reply) e = omega (arith, length-append (reply_text reply) (10 ∷ []))
some_text NoMessage e = omega arith
some_text OutOfRange e = omega arith

none_waiting : (lines : List Line) → HaveAnswers lines → joined (map answer_text lines) ≡ [] → length lines ≡ 0
none_waiting [] have none = refl
none_waiting (line ∷ lines) have none =
    absurd (omega (arith, ap (λ (l : List ℕ). length l) none, length-append (answer_text line) (joined (map answer_text lines)), some_text line have.0))

-- Where no line is unanswered, none is outstanding.
pub none_outstanding : (keeps : Type 0) (o : Option Start) (p : SessionView) → SessionInvariantFrom keeps o p → NoneUnanswered p → p.outstanding ≡ 0
none_outstanding keeps o p u none = ask keeps o p u (λ s u.
    let h = (progress_at_end keeps s p p.read_end u.reads).2 in
    let waiting = none_waiting h.waiting h.have_answers (sym h.reply_buffer_is ∙ none.1) in
    omega (arith, waiting, h.counted, ap (λ (l : List Line). length l) none.0))

-- ---- how a session comes to rest

-- Where the core state and what is lent stay as they are, so does the reason for which no message is dispatched.
pub still_blocked : (p q : SessionView) (why : Option Blocked) → KeepsCoreState p q
    → IfSome why (IsBlocked p.core.geometry (core_state_of p.core) (core_state_of p.core) p.dispatch_seat.lent)
    → IfSome why (IsBlocked q.core.geometry (core_state_of q.core) (core_state_of q.core) q.dispatch_seat.lent)
still_blocked p q why k is =
    rw (k.1, k.0, k.2) is

module _ (p q r : SessionView) (why : Option Blocked) where
  pub comes_to_rest : (is_asked_for : Bool) → (asks_for_checkpoint why ≡ true → is_asked_for ≡ true)
      → IfSome why (IsBlocked p.core.geometry (core_state_of p.core) (core_state_of p.core) p.dispatch_seat.lent) → HasLoggedNothing p q
      → can_retire q.reorder_buffer.lines ≡ false → HasOnlySent q r is_asked_for → IsAtRest r why
  comes_to_rest is_asked_for asks blocked l last s = assumption (
    still_blocked q r why s.keeps (still_blocked p q why l.keeps blocked),
    ap (λ (w : CoreState). w.ran) s.keeps.1 ∙ l.none_ran,
    ap (λ (w : CoreState). w.logged) s.keeps.1 ∙ l.none_logged,
    ap (λ (w : CoreState). w.failed) s.keeps.1 ∙ l.works,
    ap (λ (b : ReorderBufferView). can_retire b.lines) s.lines ∙ last,
    (λ (asked : asks_for_checkpoint why ≡ true). s.none_asked (asks asked)),
    s,
  )
