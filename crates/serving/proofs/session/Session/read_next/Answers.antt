-- A line is read, or reading ends; in both cases the session keeps its invariant.
use Rattle.std.proofs.Common.{◌≡◌, ◌<◌, ◌+◌, ◌∷◌, [], arith, None, Ok, Some, ap, length, map, refl, subst, sym, ◌∙◌}
use Rattle.std.specs.Prelude.{IfSome, IsTrue, is_none}
use Rattle.std.specs.Io.KnownBytes.{IsAtEnd}
use Rattle.std.proofs.lemmas.List.{length-append}
use Rattle.std.proofs.lemmas.Bool.{and_parts}
use Rattle.std.proofs.lemmas.Option.{none-some}
use Rattle.protocol.specs.FirstLine.{GivesLine}
use Rattle.message.specs.Reader.{has_ended, is_drained, source, unread}
use Rattle.scheduler.specs.CoreView.{core_state_of}
use Rattle.serving.specs.Lines.{NoMessage}
use Rattle.serving.specs.TakesLine.{read_end_of}
use Rattle.serving.specs.Runs.{lent_hand}
use Rattle.serving.specs.View.{IsSession}
use Rattle.serving.specs.Session.{IsReadEnd, SessionView, steps_ahead}
use Rattle.serving.specs.declared.session.ReadEnd.{ReadEnd}
use Rattle.serving.specs.declared.session.ReadEnd.TheVariants as ends_of_reading
use Rattle.serving.proofs.IsReadEnd.{gives, stops_at_refusal}
use Rattle.serving.proofs.TakesLines.{at_end, none_left, still, takes_none}
use Rattle.serving.proofs.SessionInvariant.{follows, has_place, has_slot, holds_of, knows_of, on_line, on_long_line, on_read_end}
use Rattle.serving.proofs.session.Session.read_next.Given.{Over}
use Rattle.serving.proofs.session.Session.read_next.Goals.{After-next_line, After-line}
use Rattle.serving.proofs.session.Session.read_next.Goals as goal

-- reading had not ended, and fewer lines were outstanding than there are slots
none : (g : Over) (c : After-next_line g) → c.self.inside.read_end ≡ None
none g c = ap (λ (p : SessionView). p.read_end) c.self.view_is ∙ c.requires.reads

room : (g : Over) (c : After-next_line g) → c.self.inside.outstanding < c.self.inside.reorder_buffer.slots
room g c = subst (λ (p : SessionView). p.outstanding < p.reorder_buffer.slots) (sym c.self.view_is) c.requires.room

-- where the reader has seen the end of the input, nothing remains
knows : (g : Over) (c : After-next_line g) → IsTrue (has_ended c.next_line.new.self) → IsAtEnd (g.R.Read.remaining (source c.next_line.new.self))
knows g c = c.next_line.ensures.at_end (knows_of g.D.Disk.keeps _ _ c.self.invariant.run)

-- no more is read after this line, for this reason
stops : (g : Over) (c : After-next_line g) (read_end : ReadEnd)
    → IsReadEnd c.self.inside.core.geometry c.self.inside.core (unread g.R.Read.remaining c.self.inside.line_reader) (is_drained c.self.inside.line_reader)
    (g.R.Read.remaining (source c.next_line.new.self)) read_end
    → IsSession g.R.Read.remaining g.L.ReplySink.sent g.L.ReplySink.sent_at g.D.Disk.keeps g.L.ReplySink.start (record c.self.inside { read_end = Some read_end; line_reader = c.next_line.new.self })
stops g c read_end why = record {
  run = on_read_end g.D.Disk.keeps _ c.self.inside.core _ _ _ _ _ _ _ (none g c) refl refl (omega (arith, room g c)) (knows g c)
      _ read_end c.self.invariant.run (still g.D.Disk.keeps _ _ (holds_of g.D.Disk.keeps _ _ c.self.invariant.run)) refl why;
  bench = c.self.invariant.bench;
}

-- the line that was found
found : (g : Over) (c : After-line g)
    → IfSome (unread g.R.Read.remaining c.self.inside.line_reader) (λ bs. GivesLine c.line.result.now bs (unread g.R.Read.remaining c.next_line.new.self))
found g c = rw c.line.ensures (rw c.in-Ok-Line.field-0-is at c.in-Ok-Line.ensures.found)

pub take-requires-clause-room : goal.take-requires-clause-room
take-requires-clause-room g c = has_place g.D.Disk.keeps _ _ c.self.invariant.run (room g (goal.at.take-requires-clause-room g c).After-next_line)

pub push-requires-clause-room : goal.push-requires-clause-room
push-requires-clause-room g c = has_place g.D.Disk.keeps _ _ c.self.invariant.run (room g (goal.at.push-requires-clause-room g c).After-next_line)

pub take-requires-clause-a_slot : goal.take-requires-clause-a_slot
take-requires-clause-a_slot g c =
    let at = (goal.at.take-requires-clause-a_slot g c).After-next_line in
    let u = c.self.invariant.run in
    λ m. has_slot g.D.Disk.keeps _ _ m (none g at) u (has_place g.D.Disk.keeps _ _ u (room g at))

pub take-requires-clause-order : goal.take-requires-clause-order
take-requires-clause-order g c = follows g.D.Disk.keeps _ _ (none g (goal.at.take-requires-clause-order g c).After-next_line) c.self.invariant.run

pub invariant_of-self : goal.invariant_of-self
invariant_of-self g c =
    let f = c.self.inside in
    let may = subst (λ (p : SessionView). p.outstanding < p.reorder_buffer.slots) (sym c.self.view_is) c.requires.room in
    let rest = g.R.Read.remaining in
    let u = c.self.invariant.run in
    let knows = knows_of g.D.Disk.keeps _ _ u in
    record {
      run = on_read_end g.D.Disk.keeps _ f.core f.reorder_buffer f.outstanding (unread rest f.line_reader) (is_drained f.line_reader) (has_ended f.line_reader) _ (rest (source f.line_reader))
          (ap (λ (p : SessionView). p.read_end) c.self.view_is ∙ c.requires.reads) refl refl (omega (arith, may)) knows
          _ ends_of_reading.EndOfInput u (still g.D.Disk.keeps _ _ (holds_of g.D.Disk.keeps _ _ u)) refl
          (none_left (unread rest f.line_reader) (c.if-is_drained.ensures.nothing refl), knows (and_parts _ _ (sym c.if-is_drained.ensures.value)).0);
      bench = c.self.invariant.bench;
    }

pub invariant_of-self-in-Ok : goal.invariant_of-self-in-Ok
invariant_of-self-in-Ok g c =
    let f = c.self.inside in
    let n = c.next_line.new.self in
    let at = goal.at.invariant_of-self-in-Ok g c in
    let rest = g.R.Read.remaining in
    let u = c.self.invariant.run in
    let took = c.in-Ok.ensures.takes (map lent_hand f.dispatch_seat.lent) (holds_of g.D.Disk.keeps _ _ u) in
    record {
      run = on_line g.D.Disk.keeps _ c.take.new.core c.take.new.reorder_buffer (f.outstanding + 1) (unread rest n) (is_drained n) (has_ended n) _ (rest (source n)) (none g at.After-next_line)
          c.in-Ok.ensures.slots (omega (arith, ap length took.2, length-append f.reorder_buffer.lines (took.0 ∷ []))) (omega (arith, room g at.After-next_line)) (knows g at.After-next_line)
          took.0 took.2 (sym c.if-is_drained.ensures.value)
          (rw c.in-Ok-Line.field-0-is at c.in-Ok-Line.ensures.closes)
          _ c.line.result.now u took.1 (found g at.After-line);
      bench = c.self.invariant.bench;
    }

pub invariant_of-self-in-Err-take : goal.invariant_of-self-in-Err-take
invariant_of-self-in-Err-take g c =
    let f = c.self.inside in
    let n = c.next_line.new.self in
    let at = goal.at.invariant_of-self-in-Err-take g c in
    let rest = g.R.Read.remaining in
    let u = c.self.invariant.run in
    let was_unread = unread rest f.line_reader in
    let took = c.in-Err-take.ensures.takes (map lent_hand f.dispatch_seat.lent) (holds_of g.D.Disk.keeps _ _ u) in
    let place = has_place g.D.Disk.keeps _ _ u (room g at.After-next_line) in
    let gone = gives c.line.result.now was_unread (unread rest n) (found g at.After-line) in
    rw took.4 (record {
      run = on_read_end g.D.Disk.keeps _ c.take.new.core c.take.new.reorder_buffer f.outstanding (unread rest n) (is_drained n) (has_ended n) _ (rest (source n)) (none g at.After-next_line)
          c.in-Err-take.ensures.slots (omega (arith, ap length took.5)) (omega (arith, room g at.After-next_line)) (knows g at.After-next_line)
          _ (read_end_of took.1) u (took.3.quiet f.trigger) took.5
          (stops_at_refusal was_unread (rest (source n)) (is_drained f.line_reader) c.line.result.now took.2 gone took.3 (has_slot g.D.Disk.keeps _ _ took.0 (none g at.After-next_line) u place));
      bench = c.self.invariant.bench;
    })

pub invariant_of-self-in-Ok-TooLong : goal.invariant_of-self-in-Ok-TooLong
invariant_of-self-in-Ok-TooLong g c =
    let f = c.self.inside in
    let n = c.next_line.new.self in
    let at = goal.at.invariant_of-self-in-Ok-TooLong g c in
    let rest = g.R.Read.remaining in
    let u = c.self.invariant.run in
    let was_unread = unread rest f.line_reader in
    record {
      run = on_long_line g.D.Disk.keeps _ f.core c.push.new.self (f.outstanding + 1) (unread rest n) (is_drained n) (has_ended n) _ (rest (source n)) (none g at.After-next_line)
          c.push.ensures.slots (omega (arith, ap length c.push.ensures.lines, length-append f.reorder_buffer.lines (NoMessage ∷ [])))
          (omega (arith, room g at.After-next_line)) (knows g at.After-next_line)
          NoMessage c.push.ensures.lines (sym c.if-is_drained.ensures.value)
          (rw c.in-Ok-TooLong.field-0-is at c.in-Ok-TooLong.ensures.closes)
          _ u (takes_none g.D.Disk.keeps _ (holds_of g.D.Disk.keeps _ _ u))
          (rw c.in-Ok-TooLong.field-0-is at c.in-Ok-TooLong.ensures.found);
      bench = c.self.invariant.bench;
    }

pub invariant_of-self-in-Ok-End : goal.invariant_of-self-in-Ok-End
invariant_of-self-in-Ok-End g c =
    let n = c.next_line.new.self in
    let was_unread = unread g.R.Read.remaining c.self.inside.line_reader in
    let at = (goal.at.invariant_of-self-in-Ok-End g c).After-next_line in
    let left = rw c.in-Ok-End.field-0-is at c.in-Ok-End.ensures.found in
    stops g at ends_of_reading.EndOfInput (at_end was_unread (unread g.R.Read.remaining n) left, knows g at (c.next_line.ensures.end (c.in-Ok-End.is ∙ ap Ok c.in-Ok-End.field-0-is)))

pub invariant_of-self-in-Err : goal.invariant_of-self-in-Err
invariant_of-self-in-Err g c = stops g (goal.at.invariant_of-self-in-Err g c).After-next_line ends_of_reading.ReadFailed
    (sym c.if-is_drained.ensures.value, rw c.in-Err.ensures.lost at c.in-Err.ensures.found)

pub returns-in-Ok-clause-longer : goal.returns-in-Ok-clause-longer
returns-in-Ok-clause-longer g c is =
    let f = c.self.inside in
    let took = c.in-Ok.ensures.takes (map lent_hand f.dispatch_seat.lent) (holds_of g.D.Disk.keeps _ _ c.self.invariant.run) in
    ap length took.2 ∙ length-append f.reorder_buffer.lines (took.0 ∷ []) ∙ ap (λ (p : SessionView). length p.reorder_buffer.lines + 1) c.self.view_is

pub returns-then-is_drained-clause-output_failed : goal.returns-then-is_drained-clause-output_failed
returns-then-is_drained-clause-output_failed g c = ap (λ (p : SessionView). p.output_failed) c.self.view_is

pub returns-then-is_drained-clause-slots : goal.returns-then-is_drained-clause-slots
returns-then-is_drained-clause-slots g c = ap (λ (p : SessionView). p.reorder_buffer.slots) c.self.view_is

pub returns-in-Ok-clause-reads : goal.returns-in-Ok-clause-reads
returns-in-Ok-clause-reads g c = sym (ap (λ (p : SessionView). is_none p.read_end) c.self.view_is ∙ ap is_none c.requires.reads)

pub returns-in-Ok-clause-output_failed : goal.returns-in-Ok-clause-output_failed
returns-in-Ok-clause-output_failed g c = ap (λ (p : SessionView). p.output_failed) c.self.view_is

pub returns-in-Ok-clause-slots : goal.returns-in-Ok-clause-slots
returns-in-Ok-clause-slots g c = c.in-Ok.ensures.slots ∙ ap (λ (p : SessionView). p.reorder_buffer.slots) c.self.view_is

pub returns-in-Ok-clause-counted : goal.returns-in-Ok-clause-counted
returns-in-Ok-clause-counted g c _ = ap (λ (p : SessionView). p.outstanding + 1) c.self.view_is

pub returns-in-Err-take-clause-output_failed : goal.returns-in-Err-take-clause-output_failed
returns-in-Err-take-clause-output_failed g c = ap (λ (p : SessionView). p.output_failed) c.self.view_is

pub returns-in-Err-take-clause-slots : goal.returns-in-Err-take-clause-slots
returns-in-Err-take-clause-slots g c = c.in-Err-take.ensures.slots ∙ ap (λ (p : SessionView). p.reorder_buffer.slots) c.self.view_is

pub returns-in-Ok-TooLong-clause-reads : goal.returns-in-Ok-TooLong-clause-reads
returns-in-Ok-TooLong-clause-reads g c = sym (ap (λ (p : SessionView). is_none p.read_end) c.self.view_is ∙ ap is_none c.requires.reads)

pub returns-in-Ok-TooLong-clause-output_failed : goal.returns-in-Ok-TooLong-clause-output_failed
returns-in-Ok-TooLong-clause-output_failed g c = ap (λ (p : SessionView). p.output_failed) c.self.view_is

pub returns-in-Ok-TooLong-clause-slots : goal.returns-in-Ok-TooLong-clause-slots
returns-in-Ok-TooLong-clause-slots g c = c.push.ensures.slots ∙ ap (λ (p : SessionView). p.reorder_buffer.slots) c.self.view_is

pub returns-in-Ok-TooLong-clause-longer : goal.returns-in-Ok-TooLong-clause-longer
returns-in-Ok-TooLong-clause-longer g c _ =
    ap length c.push.ensures.lines ∙ length-append c.self.inside.reorder_buffer.lines (NoMessage ∷ []) ∙ ap (λ (p : SessionView). length p.reorder_buffer.lines + 1) c.self.view_is

pub returns-in-Ok-TooLong-clause-counted : goal.returns-in-Ok-TooLong-clause-counted
returns-in-Ok-TooLong-clause-counted g c _ = ap (λ (p : SessionView). p.outstanding + 1) c.self.view_is

pub returns-in-Ok-End-clause-output_failed : goal.returns-in-Ok-End-clause-output_failed
returns-in-Ok-End-clause-output_failed g c = ap (λ (p : SessionView). p.output_failed) c.self.view_is

pub returns-in-Ok-End-clause-slots : goal.returns-in-Ok-End-clause-slots
returns-in-Ok-End-clause-slots g c = ap (λ (p : SessionView). p.reorder_buffer.slots) c.self.view_is

pub returns-in-Err-clause-output_failed : goal.returns-in-Err-clause-output_failed
returns-in-Err-clause-output_failed g c = ap (λ (p : SessionView). p.output_failed) c.self.view_is

pub returns-in-Err-clause-slots : goal.returns-in-Err-clause-slots
returns-in-Err-clause-slots g c = ap (λ (p : SessionView). p.reorder_buffer.slots) c.self.view_is

pub returns-in-Ok-clause-steps : goal.returns-in-Ok-clause-steps
returns-in-Ok-clause-steps g c _ = omega (arith, c.take.ensures.steps c.self.inside.dispatch_seat.lent, ap steps_ahead c.self.view_is)

pub returns-in-Err-take-clause-none : goal.returns-in-Err-take-clause-none
returns-in-Err-take-clause-none g c _ = record {
  still = (
    (
      c.take.ensures.geometry ∙ ap (λ (p : SessionView). p.core.geometry) c.self.view_is,
      c.in-Err-take.ensures.still ∙ ap (λ (p : SessionView). core_state_of p.core) c.self.view_is,
      ap (λ (p : SessionView). p.dispatch_seat) c.self.view_is,
    ),
    ap (λ (p : SessionView). p.trigger) c.self.view_is,
  );
  lines = c.in-Err-take.ensures.same ∙ ap (λ (p : SessionView). p.reorder_buffer) c.self.view_is;
  outstanding = ap (λ (p : SessionView). p.outstanding) c.self.view_is;
  same = λ reads. absurd (none-some _ (sym reads));
}
