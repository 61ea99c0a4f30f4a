-- What was written where a write failed: a beginning of the whole output.
use Rattle.std.proofs.lemmas.Grind.{common_steps}
use Rattle.std.proofs.Common.{◌≡◌, ℕ, List, [], ◌∷◌, ◌++◌, length, take, Option, Some, None, refl, sym, ap, ◌∙◌, append_assoc, take_all, arith}
use Rattle.std.specs.Prelude.{IfSome, IsErrOf, OnOk, Result, Ok, Err}
use Rattle.std.specs.Io.KnownBytes.{Appends}
use Rattle.std.specs.List.{AllByRecursion}
use Rattle.affinity.specs.declared.geometry.Geometry.{Geometry}
use Rattle.protocol.specs.Lines.{lines}
use Rattle.message.specs.BufferedOutput.{all_output}
use Rattle.message.specs.AppendsBeginning.{AppendsBeginning}
use Rattle.message.proofs.AppendsBeginning.{begins_all, begins_longer}
use Rattle.meaning.specs.State.{State}
use Rattle.meaning.specs.Output.{AnswersWholeLines, HasNoNewline, IsBeginning, WritesOutput, joined, output_lines, serial_output, with_newlines}
use Rattle.meaning.proofs.OutputLemmas.{begins_whole, take-output_lines}
use Rattle.plain.specs.declared.fault.PlainFault.{PlainFault}
use Rattle.plain.specs.declared.fault.PlainFault.TheVariants as faults

module _ (g : Geometry) (start : State) where
  -- Some bytes were written, and of those that wait a beginning. With all of these the output would be a beginning of the serial one.
  module _ (before old new : Option (List ℕ)) (sent waiting : List ℕ) (whole : Appends before old sent) (begins : AppendsBeginning old new waiting) where
    pub begins_output : (input : Option (List ℕ)) → WritesOutput input before (all_output old waiting) (IsBeginning g start)
        → IfSome input (λ bytes. AppendsBeginning before new (serial_output g start bytes))
    begins_output None h = tt
    begins_output (Some bytes) h =
        let all = begins_whole g start bytes h.0 h.2 in
        begins_longer before new h.0 all.0 (serial_output g start bytes) all.1 (begins_all sent waiting h.0 before old new whole h.1 begins)

  all_begun : (input written : List ℕ) → written ≡ serial_output g start input → IsBeginning g start input written
  all_begun input written h =
      let ls = output_lines g start (lines input) in
      (length ls, h ∙ ap joined (sym (take_all (length ls) ls (omega arith))))

  -- where the whole input is answered
  pub begins_with_all : (input before all : Option (List ℕ)) → WritesOutput input before all (λ bytes written. written ≡ serial_output g start bytes)
      → WritesOutput input before all (IsBeginning g start)
  begins_with_all None before all h = tt
  begins_with_all (Some bytes) before all h = (h.0, h.1, all_begun bytes h.0 h.2)

-- ---- the first lines of an input

line_and_rest : (line rest : List ℕ) → HasNoNewline line → lines (line ++ 10 ∷ rest) ≡ line ∷ lines rest
line_and_rest [] rest h = refl
line_and_rest (b ∷ line) rest h = grind (arith, common_steps, line_and_rest line rest h.1)

lines_and_rest : (whole : List (List ℕ)) (rest : List ℕ) → AllByRecursion HasNoNewline whole → lines (with_newlines whole ++ rest) ≡ whole ++ lines rest
lines_and_rest [] rest h = refl
lines_and_rest (line ∷ whole) rest h = grind (arith, common_steps, lines_and_rest whole rest h.1, line_and_rest)

module _ (g : Geometry) (start : State) where
  whole_begun : (left : Option (List ℕ)) (input written : List ℕ) → AnswersWholeLines g start left input written → IsBeginning g start input written
  whole_begun left input written h =
      let split = ap lines (h.parts ∙ append_assoc (with_newlines h.whole) h.begun h.rest) ∙ lines_and_rest h.whole (h.begun ++ h.rest) h.are_lines in (
        length h.whole,
        h.answered ∙ sym (ap (λ (ls : List (List ℕ)). joined (take (length h.whole) (output_lines g start ls))) split
            ∙ ap joined (take-output_lines g start h.whole (lines (h.begun ++ h.rest)))),
      )

  -- where the whole lines that were read are answered
  pub begins_with_lines : (left input before all : Option (List ℕ)) → WritesOutput input before all (AnswersWholeLines g start left)
      → WritesOutput input before all (IsBeginning g start)
  begins_with_lines left None before all h = tt
  begins_with_lines left (Some bytes) before all h = (h.0, h.1, whole_begun left bytes h.0 h.2)

  -- however a session ended, but by a failed write
  module _ (left input before all : Option (List ℕ)) where
    pub begins_at_end : (result : Result (Unit {0}) PlainFault) → (IsErrOf result faults.Write → ⊥)
        → OnOk result (WritesOutput input before all (λ bytes written. written ≡ serial_output g start bytes))
        → (IsErrOf result faults.Read → WritesOutput input before all (AnswersWholeLines g start left))
        → (IsErrOf result faults.OutOfMemory → WritesOutput input before all (IsBeginning g start)) → WritesOutput input before all (IsBeginning g start)
    begins_at_end (Ok _) other whole read first = begins_with_all g start input before all whole
    begins_at_end (Err faults.Read) other whole read first = begins_with_lines left input before all (read refl)
    begins_at_end (Err faults.Write) other whole read first = absurd (other refl)
    begins_at_end (Err faults.OutOfMemory) other whole read first = first refl
