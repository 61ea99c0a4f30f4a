-- How far a server has come, with what is kept of what was sent: what a step, an answer, a line that is read and a send make of it.
use Rattle.std.proofs.Common.{◌≡◌, ◌≤◌, ◌+◌, ℕ, Bool, false, List, [], ◌∷◌, ◌++◌, Option, None, sym, refl, subst, length, map, arith, append-nil}
use Rattle.std.specs.Prelude.{IfSome}
use Rattle.std.proofs.lemmas.List.{length-append}
use Rattle.disk.specs.Device.{Medium}
use Rattle.histories.specs.CoreState.{IsIdle}
use Rattle.scheduler.specs.DeviceEvents.{events_of}
use Rattle.scheduler.specs.Machine.{MachineView, machine_of}
use Rattle.protocol.specs.Grammar.{message_of}
use Rattle.protocol.specs.FirstLine.{GivesLine, HasWholeFirstLine, PassesLine}
use Rattle.protocol.specs.declared.messages.Msg.{Msg}
use Rattle.protocol.specs.declared.replies.Reply.{Reply}
use Rattle.meaning.proofs.TakesLines.{takes_long_line}
use Rattle.meaning.specs.Output.{joined}
use Rattle.scheduler.specs.CoreView.{core_state_of}
use Rattle.serving.specs.Checkpoints.{AreTimely}
use Rattle.serving.specs.Lines.{Line, answer_text, complete_one}
use Rattle.serving.specs.Start.{Start, start_machine, start_trigger}
use Rattle.serving.specs.TakesLine.{IsTaken}
use Rattle.serving.specs.Restart.{WritesBeginning}
use Rattle.serving.specs.Runs.{IsInternal, RunsBetween}
use Rattle.serving.specs.SessionInvariant.{ServingSince}
use Rattle.serving.specs.declared.checkpoints.CheckpointTrigger.{CheckpointTrigger}
use Rattle.serving.proofs.TimelyCheckpoints.{in_time_on}
use Rattle.serving.proofs.SentLines.{Sends, sends_on}
use Rattle.serving.proofs.AnsweredLine.{answered_goes_on}
use Rattle.serving.proofs.TakesLine.{serves_taken, takes_in}
use Rattle.serving.proofs.RunsBetween.{passes_on}
use Rattle.serving.proofs.KeepsSent.{keeps_first, keeps_now, keeps_on, keeps_quiet}
use Rattle.serving.proofs.Segments.{quiet_goes_on}
use Rattle.serving.proofs.Start.{starts, stays}
use Rattle.serving.proofs.TakesLines.{line_goes_on, long_line_goes_on}

module _ {keeps : Type 0} {s : Start} {old new : MachineView} {unsent : List Line} {unread : Option (List ℕ)} {drained : Bool} {whole sent : Option (List ℕ)}
    {sent_at : Medium} {trigger : CheckpointTrigger} (h : ServingSince keeps s trigger old unsent unread drained whole sent_at sent) where
  -- No message arrives, and none is answered.
  pub quiet_since : {last : CheckpointTrigger} → IsInternal keeps trigger last old new
      → ServingSince keeps s last new unsent unread drained whole sent_at sent
  unfolding quiet_goes_on passes_on
  quiet_since k = record {
    progress = quiet_goes_on k.segment h.progress;
    kept = keeps_quiet h.kept k.segment.device_events;
    in_time = in_time_on _ _ _ h.progress.serving.segment k.segment h.in_time k.in_time;
  }

  -- A message was answered, and its line in the reorder buffer is completed.
  pub answered_since : {ticket : ℕ} {reply : Reply} {last : CheckpointTrigger} (p : RunsBetween keeps old new [] ((ticket, reply) ∷ []))
      → AreTimely trigger (machine_of old) (events_of p.device_events) last
      → ServingSince keeps s last new (map (complete_one ticket reply) unsent) unread drained whole sent_at sent
  unfolding answered_goes_on passes_on
  answered_since p in_time = record {
    progress = answered_goes_on p h.progress;
    kept = keeps_quiet h.kept p.device_events;
    in_time = in_time_on _ _ _ h.progress.serving.segment p h.in_time in_time;
  }

  module _ {known : Line} {now_unread : Option (List ℕ)} {now_drained : Bool} (idle : IsIdle (core_state_of s.core)) (going : drained ≡ false)
      (closes : HasWholeFirstLine unread now_drained) where
    -- The next line is consumed.
    pub line_since : (line : List ℕ) → IsTaken keeps old new (message_of line) known → IfSome unread (λ bs. GivesLine line bs now_unread)
        → ServingSince keeps s trigger new (unsent ++ known ∷ []) now_unread now_drained whole sent_at sent
    unfolding line_goes_on serves_taken takes_in passes_on
    line_since line t found = record {
      progress = line_goes_on idle going closes line t found h.progress;
      kept = keeps_on h.kept _ (line ∷ []);
      in_time = in_time_on _ _ _ h.progress.serving.segment t.segment h.in_time (t.in_time trigger);
    }

    -- The next line was too long, and is consumed as no message.
    pub long_line_since : IsTaken keeps old new None known → IfSome unread (λ bs. PassesLine bs now_unread)
        → ServingSince keeps s trigger new (unsent ++ known ∷ []) now_unread now_drained whole sent_at sent
    unfolding long_line_goes_on serves_taken takes_in passes_on
    long_line_since t found =
        let l = takes_long_line unread h.progress.takes going found closes in
        let taken = subst (λ (o : Option Msg). IsTaken keeps old new o known) (sym l.no_message) t in
        record {
          progress = long_line_goes_on idle going closes t found h.progress;
          kept = keeps_on h.kept _ _;
          in_time = in_time_on _ _ _ h.progress.serving.segment taken.segment h.in_time (taken.in_time trigger);
        }

-- Nothing has happened.
pub starts_since : (keeps : Type 0) (s : Start)
    → ServingSince keeps s (start_trigger s) (start_machine s) [] s.input false s.before s.core.medium s.before
unfolding starts stays
starts_since keeps s = record { progress = starts keeps (start_machine s) s.input s.before; kept = keeps_first s; in_time = refl }

module _ {keeps : Type 0} {s : Start} {now : MachineView} {unsent rest : List Line} {unread : Option (List ℕ)} {drained : Bool} {whole told sent : Option (List ℕ)}
    {sent_at : Medium} {trigger : CheckpointTrigger} (idle : IsIdle (core_state_of s.core)) where
  -- Lines are sent.
  pub sends_since : Sends unsent rest whole told → ServingSince keeps s trigger now unsent unread drained whole sent_at sent
      → ServingSince keeps s trigger now rest unread drained told now.core.medium told
  unfolding sends_on
  sends_since sends h =
      let all = sends_on sends h.progress in
      let text = joined (map answer_text all.sent_lines) in
      record {
        progress = all;
        kept = keeps_now idle all.serving told s.core.slots told all.output
            (text, all.output, (text, [], sym (append-nil text), all.output), omega arith) (omega arith);
        in_time = h.in_time;
      }

  -- Lines could not be sent, but for a beginning of them. With all of them the output would be `told`, and so many slots are left.
  pub breaks_since : (sends : Sends unsent rest whole told) (left : ℕ) → WritesBeginning s.core.slots left s.before sent told
      → s.core.slots ≤ left + length sends.sent_lines → {before : Option (List ℕ)}
      → ServingSince keeps s trigger now unsent unread drained whole sent_at before
      → ServingSince keeps s trigger now unsent unread drained whole now.core.medium sent
  unfolding sends_on
  breaks_since sends left begun few h =
      let all = sends_on sends h.progress in
      record {
        progress = h.progress;
        kept = keeps_now idle all.serving sent left told all.output begun (omega (arith, few, length-append h.progress.sent_lines sends.sent_lines));
        in_time = h.in_time;
      }
