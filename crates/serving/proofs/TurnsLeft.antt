-- Each turn that waits for no worker leaves less to do, but for the lines that it reads: by how the turn has gone on. And what follows for any
-- number of turns.
use Rattle.std.proofs.Common.{◌≡◌, ◌≢◌, ◌==◌, ◌<◌, ◌≤◌, ◌+◌, ◌-◌, ◌*◌, ℕ, zero, suc, Bool, true, false, List, [], ◌∷◌, Option, Some, None, refl, ap, sym, subst, ◌∙◌, length, ⊎_elim, arith}
use Rattle.std.specs.Prelude.{◌&&◌, not, cond, is_none, is_some, nat_le, nat_lt}
use Rattle.std.specs.List.{list_any}
use Rattle.std.proofs.lemmas.Bool.{true≢false, and_from, and_parts, false_from_ne_true, le-leb, leb-true, lt-ltb, ltb-true, ne_eqb}
use Rattle.std.proofs.lemmas.List.Sums.{sum_by-cons}
use Rattle.std.proofs.Math.Bool.{and-false}
use Rattle.std.proofs.Math.Nat.{le-mul_of_pos_right, mul-le-mul_left}
use Rattle.affinity.specs.declared.geometry.Geometry.{Geometry}
use Rattle.image.specs.Pieces.{piece_count}
use Rattle.histories.specs.CoreState.{CoreState, held}
use Rattle.histories.specs.Progress.{points_left}
use Rattle.parcel.specs.JobRun.{JobView}
use Rattle.reorder_buffer.specs.ReorderBuffer.{ReorderBufferView}
use Rattle.scheduler.specs.CoreView.{core_state_of}
use Rattle.serving.specs.Checkpoints.{IsDue}
use Rattle.serving.specs.DispatchesTo.{NoneInFlight}
use Rattle.serving.specs.Session.{CanReadLine, SessionView, steps_ahead}
use Rattle.serving.specs.SessionSteps.{Advanced, Began, CallsForCheckpoint, CanRead, HasGoneOn, HasTakenLines, HasTakenNone, IsResting, MovedCheckpoint, Rests, StandsStill, TookStep, Waited}
use Rattle.serving.specs.Turns.{AreTurns, IsInBounds, LoopView, busy_turns, can_read, is_busy, is_counted, lines_read, lines_sent, may_wait, pieces, slots, turns_a_line, turns_a_step, turns_an_answer, turns_left}
use Rattle.serving.specs.declared.checkpoints.CheckpointTrigger.{CheckpointTrigger}
use Rattle.serving.specs.declared.session.Activity.{Activity}
use Rattle.serving.specs.declared.session.Activity.TheVariants as activities
use Rattle.serving.specs.declared.session.ReadEnd.{ReadEnd}
use Rattle.serving.proofs.StepsAhead.{keeps_ahead}
use Rattle.serving.proofs.TimelyCheckpoints.{due_or_full}

-- ---- tests

at_most : (b : Bool) (n : ℕ) → cond b n 0 ≤ n
at_most true n = omega arith
at_most false n = omega arith

at_most_else : (b : Bool) (n : ℕ) → cond b 0 n ≤ n
at_most_else true n = omega arith
at_most_else false n = omega arith

is_none_so : {A : Type 0} (o : Option A) → is_none o ≡ true → o ≡ None
is_none_so None e = refl
is_none_so (Some x) e = absurd (true≢false (sym e))

can_read_so : (p : SessionView) → can_read p ≡ true → CanReadLine p
can_read_so p e =
    let first = and_parts (is_none p.read_end) _ e in
    let later = and_parts (nat_lt p.outstanding p.reorder_buffer.slots) p.holds_line first.1 in
    (is_none_so p.read_end first.0, ltb-true p.outstanding p.reorder_buffer.slots later.0, later.1)

can_read_if : (p : SessionView) → CanReadLine p → can_read p ≡ true
can_read_if p can = and_from _ _ (ap is_none can.0) (and_from _ _ (lt-ltb p.outstanding p.reorder_buffer.slots can.1) can.2)

cannot_read : (p : SessionView) → (CanReadLine p → ⊥) → can_read p ≡ false
cannot_read p none = false_from_ne_true (can_read p) (λ e. none (can_read_so p e))

some_lent : (lent : List (Option JobView)) → (NoneInFlight lent → ⊥) → list_any is_some lent ≡ true
some_lent [] none = absurd (none refl)
some_lent (Some job ∷ lent) none = refl
some_lent (None ∷ lent) none = some_lent lent (λ rest. none (ap (λ (l : List (Option JobView)). None ∷ l) rest))

may_have_waited : (p : SessionView) → (NoneInFlight p.dispatch_seat.lent → ⊥) → p.reply_buffer ≡ [] → (CanReadLine p → ⊥) → may_wait p ≡ true
may_have_waited p in_flight flushed none =
    and_from _ _ (some_lent p.dispatch_seat.lent in_flight)
    (and_from _ _ (ap (λ (l : List ℕ). length l == 0) flushed) (ap not (cannot_read p none)))

-- ---- why a checkpoint begins

counted_so : (p : SessionView) → IsDue p.trigger p.core.pieces_left → is_counted p ≡ true
counted_so p due = and_from _ _ (ap not (ne_eqb p.trigger.every 0 due.by_count)) (le-leb p.trigger.every p.trigger.answered_since due.enough)

none_counted : (every : ℕ) → (not (every == 0) && nat_le every 0) ≡ false
none_counted zero = refl
none_counted (suc k) =
    ap (λ (b : Bool). not (suc k == 0) && b) (false_from_ne_true (nat_le (suc k) 0) (λ e. let few = leb-true (suc k) 0 e in absurd (omega (arith, few))))
    ∙ and-false (not (suc k == 0))

-- a checkpoint begins where one is counted, or the log has no room
calls : (n : ℕ) (p : SessionView) → CallsForCheckpoint p → held (core_state_of p.core) ≡ []
    → n + 2 ≤ cond (is_counted p) (n + 2) 0 + cond (p.core.room == 0) (n + 2) 0
calls n p reason none_held = ⊎_elim
    (λ (due : IsDue p.trigger p.core.pieces_left). omega (arith, ap (λ (b : Bool). cond b (n + 2) 0) (counted_so p due)))
    (λ (none : p.core.room ≡ 0). omega (arith, ap (λ (r : ℕ). cond (r == 0) (n + 2) 0) none)) (due_or_full p.trigger p.core reason none_held)

-- ---- numbers

down : (c a b r : ℕ) → a < b → r < c → c * a + r + 1 ≤ c * b
down c a b r less few = omega (arith, mul-le-mul_left c less, few)

up : (c a b l r : ℕ) → a ≤ b + 5 * l → 0 < l → r < c → c * a + r + 1 ≤ c * b + (6 * c) * l
up c a b l r few some small = omega (arith, mul-le-mul_left c few, le-mul_of_pos_right c some, small)

-- ---- the end of reading

bits_least : (o : Option ReadEnd) (b : Bool) → 1 ≤ cond (is_none o) 2 0 + cond (is_none o && b) 0 1
bits_least None b = omega arith
bits_least (Some why) b = omega arith

-- ---- a turn, as its calls make it

-- `read_more` leaves the session `mid`, and says whether it read a line; `ended` gives no reason to end the loop; `advance` leaves the session
-- of `new`.
pub record TurnParts (old new : LoopView) : Type 0 where
  pub rested : old.last ≡ activities.Idle → IsResting old.session
  pub mid : SessionView
  pub read : Activity
  pub taken : HasTakenLines old.session mid read
  pub waited : old.last ≡ activities.Idle → read ≡ activities.Idle → mid.read_end ≢ None
  pub all_read : CanReadLine mid → ⊥
  pub goes_on : mid.reorder_buffer.lines ≡ [] → mid.core.pieces_left ≡ None → mid.read_end ≡ None
  pub read_end : new.session.read_end ≡ mid.read_end
  pub steps : steps_ahead new.session ≤ steps_ahead mid
  pub has_gone_on : read ≡ activities.Idle → HasGoneOn mid new.session new.last

-- ---- after an idle turn

module _ (p q : LoopView) (t : TurnParts p q) where
  -- Where the last turn was idle, a line is read: else the loop would have ended.
  reads_some : p.last ≡ activities.Idle → t.read ≡ activities.Idle → ⊥
  reads_some idle none_read =
      let none = t.taken.none none_read in
      let rested = t.rested idle in
      t.waited idle none_read (t.goes_on (ap (λ (b : ReorderBufferView). b.lines) none.lines ∙ rested.0.0)
      (ap (λ (w : CoreState). w.pieces_left) none.still.0.1 ∙ rested.1))

  read_so : (read : Activity) → t.read ≡ read → p.last ≡ activities.Idle → p.session.outstanding < t.mid.outstanding
  read_so activities.Busy busy idle = t.taken.some busy
  read_so activities.Idle none_read idle = absurd (reads_some idle none_read)

  pub idle_reads : p.last ≡ activities.Idle → p.session.outstanding < t.mid.outstanding
  idle_reads = read_so t.read refl

-- ---- one turn

module _ (n : ℕ) (p q : LoopView) (t : TurnParts p q) (few_pieces : points_left q.session.core.pieces_left ≤ n + 1) where
  abbrev mid : LoopView
  mid = record { session = t.mid; last = activities.Busy }

  -- all that is left to do but for the steps to come
  abbrev others : LoopView → ℕ
  others m = points_left m.session.core.pieces_left + cond (is_counted m.session) (n + 2) 0 + cond (m.session.core.room == 0) (n + 2) 0
      + (cond (is_none m.session.read_end) 2 0 + cond (can_read m.session) 0 1) + cond (is_busy m.last) 1 0

  few_others : others q < turns_a_step n
  few_others = omega (
    arith,
    few_pieces,
    at_most (is_counted q.session) (n + 2),
    at_most (q.session.core.room == 0) (n + 2),
    at_most (is_none q.session.read_end) 2,
    at_most_else (can_read q.session) 1,
    at_most (is_busy q.last) 1,
  )

  counts : cond (not (may_wait q.session)) 1 0 ≤ 1
  counts = at_most (not (may_wait q.session)) 1

  read_pays : t.read ≡ activities.Busy
      → cond (not (may_wait q.session)) 1 0 + turns_left n q ≤ turns_left n p + turns_a_line n * (t.mid.outstanding - p.session.outstanding)
  read_pays busy =
      let some = t.taken.some busy in
      let few : steps_ahead q.session ≤ steps_ahead p.session + 5 * (t.mid.outstanding - p.session.outstanding) =
      omega (arith, t.steps, t.taken.steps, t.taken.more) in
      omega (
        arith,
        up (turns_a_step n) (steps_ahead q.session) (steps_ahead p.session) (t.mid.outstanding - p.session.outstanding) (others q)
            few (omega (arith, some)) few_others,
        counts,
      )

  points_same : StandsStill t.mid q.session → points_left q.session.core.pieces_left ≡ points_left t.mid.core.pieces_left
  points_same still = ap (λ (w : CoreState). points_left w.pieces_left) still.0.1

  room_same : q.session.core.room ≡ t.mid.core.room → cond (q.session.core.room == 0) (n + 2) 0 ≡ cond (t.mid.core.room == 0) (n + 2) 0
  room_same same = ap (λ (r : ℕ). cond (r == 0) (n + 2) 0) same

  count_same : q.session.trigger ≡ t.mid.trigger → cond (is_counted q.session) (n + 2) 0 ≡ cond (is_counted t.mid) (n + 2) 0
  count_same same = ap (λ (u : CheckpointTrigger). cond (not (u.every == 0) && nat_le u.every u.answered_since) (n + 2) 0) same

  mono : turns_a_step n * steps_ahead q.session ≤ turns_a_step n * steps_ahead t.mid
  mono = mul-le-mul_left (turns_a_step n) t.steps

  cannot : ◌≡◌ {A = ℕ} (cond (can_read t.mid) 0 1) 1
  cannot = ap {B = ℕ} (λ (b : Bool). cond b 0 1) (cannot_read t.mid t.all_read)

  ends : ◌≡◌ {A = ℕ} (cond (is_none q.session.read_end) 2 0) (cond (is_none t.mid.read_end) 2 0)
  ends = ap {B = ℕ} (λ (o : Option ReadEnd). cond (is_none o) 2 0) t.read_end

  went : HasGoneOn t.mid q.session q.last → cond (not (may_wait q.session)) 1 0 + turns_left n q ≤ turns_left n mid
  went (TookStep less) =
      omega (arith, down (turns_a_step n) (steps_ahead q.session) (steps_ahead t.mid) (others q) less few_others, counts)
  went (MovedCheckpoint (Advanced fewer count room)) =
      omega (arith, mono, fewer, count_same count, room_same room, ends, cannot, at_most_else (can_read q.session) 1, at_most (is_busy q.last) 1, counts)
  went (MovedCheckpoint (Began reason none k begun fresh)) =
      let every = q.session.trigger.every in
      let not_counted : cond (is_counted q.session) (n + 2) 0 ≡ 0 =
      ap (λ (l : ℕ). cond (not (every == 0) && nat_le every l) (n + 2) 0) fresh.counted ∙ ap (λ (b : Bool). cond b (n + 2) 0) (none_counted every) in
      let half = q.session.core.geometry.half_range.0 in
      let roomy : cond (q.session.core.room == 0) (n + 2) 0 ≡ 0 =
      ap (λ (b : Bool). cond b (n + 2) 0) (ne_eqb q.session.core.room 0 (λ none. omega (arith, half, fresh.room, none))) in
      omega (
        arith,
        mono,
        few_pieces,
        not_counted,
        roomy,
        ap points_left none,
        calls n t.mid reason fresh.none_held,
        ends,
        cannot,
        at_most_else (can_read q.session) 1,
        at_most (is_busy q.last) 1,
        counts,
      )
  went (Waited in_flight flushed none still) =
      let waited : ◌≡◌ {A = ℕ} (cond (not (may_wait q.session)) 1 0) 0 = ap {B = ℕ} (λ (b : Bool). cond (not b) 1 0) (may_have_waited q.session in_flight flushed none) in
      omega (
        arith,
        mono,
        points_same still,
        count_same still.1,
        room_same (ap (λ (w : CoreState). w.room) still.0.1),
        ends,
        cannot,
        at_most_else (can_read q.session) 1,
        at_most (is_busy q.last) 1,
        waited,
      )
  went (CanRead can still) =
      let reads : ◌≡◌ {A = ℕ} (cond (can_read q.session) 0 1) 0 = ap {B = ℕ} (λ (b : Bool). cond b 0 1) (can_read_if q.session can) in
      omega (
        arith,
        mono,
        points_same still,
        count_same still.1,
        room_same (ap (λ (w : CoreState). w.room) still.0.1),
        ends,
        cannot,
        reads,
        at_most (is_busy q.last) 1,
        counts,
      )
  went (Rests idle still) =
      let rests : ◌≡◌ {A = ℕ} (cond (is_busy q.last) 1 0) 0 = ap {B = ℕ} (λ (a : Activity). cond (is_busy a) 1 0) idle in
      omega (
        arith,
        mono,
        points_same still,
        count_same still.1,
        room_same (ap (λ (w : CoreState). w.room) still.0.1),
        ends,
        cannot,
        at_most_else (can_read q.session) 1,
        rests,
        counts,
      )

  -- no line was read
  before : (o : Option ReadEnd) → t.mid.read_end ≡ o → p.last ≡ activities.Busy → HasTakenNone p.session t.mid → turns_left n mid ≤ turns_left n p
  before None reads busy none =
      omega (
        arith,
        ap (λ (s : SessionView). turns_left n (record { session = s; last = activities.Busy })) (none.same reads),
        ap (λ (a : Activity). turns_left n (record { session = p.session; last = a })) busy,
      )
  before (Some why) stopped busy none =
      omega (
        arith,
        ap (λ (s : ℕ). turns_a_step n * s) (keeps_ahead p.session t.mid none.still.0),
        ap (λ (w : CoreState). points_left w.pieces_left) none.still.0.1,
        ap (λ (u : CheckpointTrigger). cond (not (u.every == 0) && nat_le u.every u.answered_since) (n + 2) 0) none.still.1,
        ap (λ (w : CoreState). cond (w.room == 0) (n + 2) 0) none.still.0.1,
        ap {B = ℕ} (λ (o : Option ReadEnd). cond (is_none o) 2 0) stopped,
        at_most_else (can_read t.mid) 1,
        bits_least p.session.read_end (nat_lt p.session.outstanding p.session.reorder_buffer.slots && p.session.holds_line),
        ap {B = ℕ} (λ (a : Activity). cond (is_busy a) 1 0) busy,
      )

  by_last : (last : Activity) → p.last ≡ last → t.read ≡ activities.Idle
      → cond (not (may_wait q.session)) 1 0 + turns_left n q ≤ turns_left n p + turns_a_line n * (t.mid.outstanding - p.session.outstanding)
  by_last activities.Idle idle none_read = absurd (reads_some p q t idle none_read)
  by_last activities.Busy busy none_read =
      omega (arith, went (t.has_gone_on none_read), before t.mid.read_end refl busy (t.taken.none none_read))

  by_read : (read : Activity) → t.read ≡ read
      → cond (not (may_wait q.session)) 1 0 + turns_left n q ≤ turns_left n p + turns_a_line n * (t.mid.outstanding - p.session.outstanding)
  by_read activities.Busy busy = read_pays busy
  by_read activities.Idle none_read = by_last p.last refl none_read

  pub turn_pays : cond (not (may_wait q.session)) 1 0 + turns_left n q ≤ turns_left n p + turns_a_line n * (t.mid.outstanding - p.session.outstanding)
  turn_pays = by_read t.read refl

-- ---- any number of turns

-- the same for any number that is how many pieces an image has
pay : (n : ℕ) (m : LoopView) (later : List LoopView) (turns : AreTurns m later) → n ≡ pieces m
    → busy_turns later ≤ turns_left n m + turns_a_line n * lines_read m later turns
pay n m [] turns is = omega arith
pay n m (q ∷ rest) turns is =
    let read = turns.0.outstanding - m.session.outstanding in
    let first = subst (λ (k : ℕ). cond (not (may_wait q.session)) 1 0 + turns_left k q ≤ turns_left k m + turns_a_line k * read) (sym is) turns.0.pays in
    omega (
      arith,
      sum_by-cons (λ (m : LoopView). cond (not (may_wait m.session)) 1 0) q rest,
      first,
      pay n q rest turns.1 (is ∙ sym (ap (λ (g : Geometry). piece_count g) turns.0.geometry)),
    )

pub turns_pay : (m : LoopView) (later : List LoopView) (turns : AreTurns m later)
    → busy_turns later ≤ turns_left (pieces m) m + turns_a_line (pieces m) * lines_read m later turns
turns_pay m later turns = pay (pieces m) m later turns refl

-- what was outstanding and what was read is sent or is still outstanding
balance : (m : LoopView) (later : List LoopView) (turns : AreTurns m later) → m.session.outstanding ≤ slots m
    → lines_read m later turns + m.session.outstanding ≤ lines_sent m later turns + slots m
balance m [] turns few = omega (arith, few)
balance m (q ∷ rest) turns few =
    let same = turns.0.slots_kept in
    let within = turns.0.bounds.few_lines in
    omega (arith, turns.0.more, same, balance q rest turns.1 within)

few_read : (m : LoopView) (later : List LoopView) (turns : AreTurns m later) → lines_read m later turns ≤ lines_sent m later turns + slots m
few_read m [] turns = omega arith
few_read m (q ∷ rest) turns =
    let same = turns.0.slots_kept in
    let within = turns.0.bounds.few_lines in
    omega (arith, turns.0.more, same, within, balance q rest turns.1 within)

pub turns_pay_by_answers : (m : LoopView) (later : List LoopView) (turns : AreTurns m later)
    → busy_turns later ≤ turns_left (pieces m) m + turns_a_line (pieces m) * (lines_sent m later turns + slots m)
turns_pay_by_answers m later turns =
    omega (arith, turns_pay m later turns, mul-le-mul_left (turns_a_line (pieces m)) (few_read m later turns))

few_left : (n : ℕ) (m : LoopView) → points_left m.session.core.pieces_left ≤ n + 1 → turns_left n m < turns_a_step n * (steps_ahead m.session + 1)
few_left n m few = omega (
  arith,
  few,
  at_most (is_counted m.session) (n + 2),
  at_most (m.session.core.room == 0) (n + 2),
  at_most (is_none m.session.read_end) 2,
  at_most_else (can_read m.session) 1,
  at_most (is_busy m.last) 1,
)

module _ (m : LoopView) (later : List LoopView) (turns : AreTurns m later) (bounds : IsInBounds m.session) where
  -- While one of the lines that were outstanding isn't answered, only so many turns wait for no worker.
  pub few_turns_an_answer : lines_sent m later turns < m.session.outstanding → busy_turns later < turns_an_answer (pieces m) (slots m)
  few_turns_an_answer unsent =
      let within = bounds.few_lines in
      let steps : steps_ahead m.session ≤ 5 * slots m = omega (arith, bounds.few_steps, within) in
      let sent : lines_sent m later turns ≤ slots m = omega (arith, unsent, within) in
      omega (
        arith,
        turns_pay_by_answers m later turns,
        few_left (pieces m) m bounds.few_pieces,
        mul-le-mul_left (turns_a_step (pieces m)) steps,
        mul-le-mul_left (turns_a_line (pieces m)) sent,
      )
