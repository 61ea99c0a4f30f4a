-- Between two turns a session is in its bounds, which its start has fixed.
use Rattle.std.proofs.Common.{◌≡◌, ◌≤◌, ◌+◌, ◌*◌, ℕ, List, Option, Some, None, ap, sym, ◌∙◌, length, refl, arith}
use Rattle.std.specs.Prelude.{IfSome}
use Rattle.std.proofs.lemmas.List.{length-append}
use Rattle.image.specs.Pieces.{piece_count}
use Rattle.histories.proofs.FullHands.{few_hands, last_tallies}
use Rattle.histories.proofs.Held.{length_held}
use Rattle.histories.proofs.Idle.{none_in_flight}
use Rattle.histories.specs.CoreState.{Entry, IsIdle}
use Rattle.histories.specs.MachineState.{MachineState, full_hands, has_job}
use Rattle.histories.specs.Progress.{points_left}
use Rattle.protocol.specs.declared.replies.Reply.{Reply}
use Rattle.scheduler.specs.CoreView.{core_state_of}
use Rattle.scheduler.specs.DeviceEvents.{events_of}
use Rattle.scheduler.specs.Machine.{machine_of}
use Rattle.serving.specs.Runs.{RunsBetween, unanswered}
use Rattle.serving.specs.Session.{SessionView, machine, steps_ahead}
use Rattle.serving.specs.SessionInvariant.{SessionInvariantFrom}
use Rattle.serving.specs.SessionSteps.{IsOfStart}
use Rattle.serving.specs.Start.{Start, start_machine}
use Rattle.serving.specs.Turns.{IsInBounds}
use Rattle.serving.proofs.Outstanding.{few_inside}
use Rattle.serving.proofs.SessionInvariant.{all_empty, ask, progress_at_end}

-- Each message in the core takes at most five steps: where nothing was in flight at the start, no more jobs are lent than messages are in flight.
few_steps_left : {keeps : Type 0} (s : Start) (p : SessionView) {arriving : List Entry} {reply_pairs : List (ℕ × Reply)} → IsIdle (core_state_of s.core)
    → RunsBetween keeps (start_machine s) (machine p) arriving reply_pairs → steps_ahead p ≤ 5 * unanswered (core_state_of p.core)
few_steps_left s p idle run =
    let w = machine_of (machine p) in
    let tallies = last_tallies s.core.geometry (machine_of (start_machine s)) (events_of run.device_events) run.leads.legal in
    let hands = ap (λ (w : MachineState). full_hands w.hands) run.leads.ends in
    let in_flight = ap (λ (w : MachineState). length w.core.in_flight) run.leads.ends in
    let none = ap (λ (l : List Entry). length l) (none_in_flight (core_state_of s.core) idle) in
    omega (arith, tallies, hands, in_flight, none, all_empty s.places, few_hands has_job refl w.hands, length_held (core_state_of p.core))

module _ (keeps : Type 0) (o : Option Start) (p : SessionView) (u : SessionInvariantFrom keeps o p) where
  pub of_start : IsOfStart o p
  of_start = by o u
    where
      by : (o : Option Start) → SessionInvariantFrom keeps o p → IsOfStart o p
      by None u = absurd u
      by (Some s) u = ((progress_at_end keeps s p p.read_end u.reads).2.progress.serving.segment.leads.geometry, u.fits)

  few_points : (left : Option ℕ) (n : ℕ) → IfSome left (λ k. k ≤ n) → points_left left ≤ n + 1
  few_points None n few = omega arith
  few_points (Some k) n few = omega (arith, few)

  pub in_bounds : IfSome p.core.pieces_left (λ n. n ≤ piece_count p.core.geometry) → IsInBounds p
  in_bounds few = ask keeps o p u (λ s u.
      let h = (progress_at_end keeps s p p.read_end u.reads).2 in
      let fits = u.fits in
      let steps = few_steps_left s p u.idle h.progress.serving.segment in
      record {
        few_lines = h.bounded;
        few_steps = omega (arith, steps, few_inside u.idle h.progress, h.counted, length-append h.waiting p.reorder_buffer.lines);
        few_pieces = few_points p.core.pieces_left (piece_count p.core.geometry) few;
      })

-- Two sessions of one start have the same geometry and as many slots.
pub same_size : (o : Option Start) (p q : SessionView) → IsOfStart o p → IsOfStart o q
    → (q.core.geometry ≡ p.core.geometry) × (q.reorder_buffer.slots ≡ p.reorder_buffer.slots)
same_size None p q first later = absurd first
same_size (Some s) p q first later = (later.0 ∙ sym first.0, later.1 ∙ sym first.1)
