-- What was skipped is the front of the first line, so the bytes that stay unread are those behind its newline.
use Rattle.std.proofs.Common.{◌≡◌, ◌⊎◌, inl, inr, true, IfSome}
use Rattle.std.specs.List.{Contains}
use Rattle.std.specs.Prelude.{◌&&◌}
use Rattle.std.proofs.KnownBytes.{Keeps-refl}
use Rattle.protocol.specs.FirstLine.{LosesLineStart, behind_first_line}
use Rattle.message.specs.Reader.{buffered_bytes, still_to_come, unread, are_none}
use Rattle.message.proofs.ReaderLemmas.{IsWhole-known_end, passed, LosesLineStart-kept, HasWholeFirstLine-buffered, HasWholeFirstLine-behind}
use Rattle.message.proofs.line_reader.LineReader.skip_line.Given as given
use Rattle.message.proofs.line_reader.LineReader.skip_line.Goals as goal
use Rattle.message.proofs.line_reader.LineReader.skip_line.Goals.{After-pass_line, then-not-self+then-not-has_newline+in_ok-skip, else-not-self, else-not-self-via-then-not-self+else-not-has_newline, else-not-self-via-else-not-self}

-- the bytes that were lost before the line was passed over are of its front
lost : (g : given.Over) (c : goal.After-pass_line g)
    → IfSome (unread g.R.Read.remaining c.args.self.now) (λ bs. LosesLineStart bs (unread g.R.Read.remaining c.if-not-self.self))
lost g c = elim c.if-not-self.branch [
  | then-not-self+then-not-has_newline+in_ok-skip w ↦ rw w.self-is w.skip.ensures.lost
  | else-not-self w ↦ let a = unread g.R.Read.remaining c.args.self.now in rw w.self-is (LosesLineStart-kept a a (Keeps-refl a))
]

-- its newline is held, or the end was reported
whole : (g : given.Over) (c : goal.After-pass_line g) → (c.if-not-self.self.ended ≡ true) ⊎ Contains (buffered_bytes c.if-not-self.self.buffered) 10
whole g c = elim c.if-not-self.branch [
  | then-not-self+then-not-has_newline+in_ok-skip w ↦ rw w.self-is w.in_ok-skip.ensures.whole
  | else-not-self w ↦ rw w.self-is (elim w.else-not-self.branch [
    | else-not-self-via-then-not-self+else-not-has_newline w' ↦ inr (w'.has_newline.ensures.holds.0 w'.if-not-has_newline.false)
    | else-not-self-via-else-not-self w' ↦ inl w'.if-not-self.false
  ])
]

pub returns-clause-passed : goal.returns-clause-passed
returns-clause-passed g c =
    let before = c.if-not-self.self in
    let at = (goal.at.returns-clause-passed g c).After-pass_line in
    let known = still_to_come before.ended (g.R.Read.remaining before.reader) in
    passed (unread g.R.Read.remaining c.args.self.now) known (buffered_bytes before.buffered) (buffered_bytes c.pass_line.new.self) (lost g at)
    (IsWhole-known_end before.ended (buffered_bytes before.buffered) (g.R.Read.remaining before.reader) (whole g at)) c.pass_line.ensures.bytes

pub returns-clause-closed : goal.returns-clause-closed
returns-clause-closed g c =
    let before = c.if-not-self.self in
    let at = (goal.at.returns-clause-closed g c).After-pass_line in
    let drained = before.ended && are_none (behind_first_line (buffered_bytes before.buffered)) in
    rw c.pass_line.ensures.bytes (HasWholeFirstLine-behind (unread g.R.Read.remaining c.args.self.now) (unread g.R.Read.remaining before) drained (lost g at)
    (HasWholeFirstLine-buffered before.ended (buffered_bytes before.buffered) (g.R.Read.remaining before.reader) (whole g at)))
