-- What may be sent is held by whatever a crash leaves of the device.
use Rattle.std.proofs.Common.{◌≡◌, ℕ, true, List, [], ◌∷◌, ◌++◌, Option, Some, None, ap, length, map, append_assoc, arith}
use Rattle.std.proofs.lemmas.List.{length-append}
use Rattle.std.proofs.KnownBytes.{Appends-trans}
use Rattle.std.specs.Io.KnownBytes.{Appends}
use Rattle.affinity.specs.declared.geometry.Geometry.{Geometry}
use Rattle.affinity.proofs.Elements.{all_join}
use Rattle.disk.specs.CrashImages.{IsCrashImage}
use Rattle.disk.proofs.CrashImagesAre.{only_now}
use Rattle.histories.specs.CoreState.{Replied}
use Rattle.protocol.specs.Grammar.{message_of}
use Rattle.protocol.proofs.Newlines.{newlines}
use Rattle.meaning.specs.Output.{joined}
use Rattle.message.specs.BufferedOutput.{all_output}
use Rattle.message.specs.AppendsBeginning.{AppendsBeginning}
use Rattle.scheduler.specs.CoreView.{CoreView}
use Rattle.serving.specs.HasServed.{HasServed}
use Rattle.serving.specs.Ends.{committed_in}
use Rattle.serving.specs.Kill.{IsKillSafe, IsKillSafeFrom}
use Rattle.serving.specs.Lines.{admitted_in, has_answer, answer_text, next_ticket}
use Rattle.serving.specs.History.{AreInHistory}
use Rattle.serving.specs.HoldsSent.{HoldsSent}
use Rattle.serving.specs.MaySend.{MaySend, MaySendFrom}
use Rattle.serving.specs.Start.{Start, start_machine}
use Rattle.serving.proofs.SentLines.{texts_both}
use Rattle.serving.proofs.HoldsSent.{holds_sent}
use Rattle.serving.proofs.Newlines.{in_answers}
use Rattle.serving.proofs.KeepsPromise.{keeps_written}
use Rattle.serving.proofs.RecoversWritten.{RecoversWritten, bytes_recover}
use Rattle.serving.proofs.TornSend.{all_appended, written_begins}

-- The output for the first lines stays so when more lines are read.
pub still_in_history : (g : Geometry) (history : List Replied) (n : ℕ) (consumed more lines : List (List ℕ)) → AreInHistory g history n consumed lines
    → AreInHistory g history n (consumed ++ more) lines
still_in_history g history n consumed more [] k = tt
still_in_history g history n [] more (line ∷ lines) k = absurd k
still_in_history g history n (l ∷ ls) more (line ∷ lines) k =
    (k.0, still_in_history g history (next_ticket n (admitted_in g (message_of l))) ls more lines k.1)

module _ {keeps : Type 0} {s : Start} {sent later : Option (List ℕ)} {now : CoreView} {bytes : List ℕ} (m : MaySendFrom keeps s sent now bytes)
    (appends : Appends sent later bytes) where
  -- Once the bytes are sent, the lines `m.next` are among those sent, and `m.rest` still wait.
  served_after_sending : HasServed keeps (start_machine s) now m.rest s.input s.before later
  served_after_sending =
      let h = m.served in
      record {
        consumed = h.consumed;
        run = h.run;
        sent_lines = h.sent_lines ++ m.next;
        known = rw (← append_assoc h.sent_lines m.next m.rest) at h.known;
        have_answers = all_join (λ line. has_answer line ≡ true) h.sent_lines m.next h.have_answers m.have_answers;
        few = omega (arith, length-append m.next m.rest, h.few);
        output = rw (← texts_both h.sent_lines m.next) at
            (Appends-trans s.before sent later (joined (map answer_text h.sent_lines)) (joined (map answer_text m.next)) h.output (rw m.bytes_are at appends));
      }

  pub sent_is_held : keeps → (c : List ℕ) → IsCrashImage now.medium c
      → HoldsSent s.core.geometry (committed_in s.core) s.core.slots s.core.next s.input s.before later c
  sent_is_held = holds_sent m.idle served_after_sending s.core.slots served_after_sending.few m.none_in_doubt

-- ---- where a server is killed

-- in a send, which has sent a beginning of its bytes
module _ {keeps : Type 0} {s : Start} {sent : Option (List ℕ)} {now : CoreView} {bytes : List ℕ} (m : MaySendFrom keeps s sent now bytes)
    (torn : Option (List ℕ)) (begun : AppendsBeginning sent torn bytes) where
  recovers_in_send : keeps → (c : List ℕ) → IsCrashImage now.medium c
      → RecoversWritten s.core.geometry s.core.slots (committed_in s.core) s.input s.before torn c
  recovers_in_send kept c leaves =
      let text = joined (map answer_text m.served.sent_lines) in
      let few = m.served.few in
      let both = length-append m.next m.rest in
      let begins = written_begins s.before sent torn bytes text (length m.next) s.core.slots m.served.output true begun
      (omega (arith, ap (λ (l : List ℕ). newlines l) m.bytes_are, in_answers m.next)) (omega (arith, few, both)) in
      let h = holds_sent m.idle (served_after_sending m (all_appended sent bytes)) begins.0 (omega (arith, few, both, begins.2)) m.none_in_doubt kept c leaves in
      (begins.0, all_output sent bytes, begins.1, bytes_recover s.core.next h.consumed h.lines h.first h.output h.few h.kept h.holds)

  safe_in_send : IsKillSafeFrom keeps s torn now.medium now
  safe_in_send kept c since =
      keeps_written s.core.geometry s.core.slots (committed_in s.core) c s.input s.before torn (recovers_in_send kept c (only_now now.medium c since))

-- the same from a start, if there is one
pub safe_sending : (keeps : Type 0) (o : Option Start) (sent : Option (List ℕ)) (now : CoreView) (bytes : List ℕ) → MaySend keeps o sent now bytes
    → (told : Option (List ℕ)) → AppendsBeginning sent told bytes → IsKillSafe keeps o told now.medium now
safe_sending keeps None sent now bytes may told begun = absurd may
safe_sending keeps (Some s) sent now bytes may told begun = safe_in_send may told begun
