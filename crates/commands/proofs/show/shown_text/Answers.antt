-- The five lines are added one behind the other.
use Rattle.std.proofs.Common.{refl}
use Rattle.commands.proofs.show.shown_text.Goals as goal

pub returns : goal.returns
returns c =
    rw (
      c.in_ok-add_line-4.ensures,
      c.in_ok-add_reply.ensures,
      c.in_ok-add_line-3.ensures,
      c.in_ok-add_line-2.ensures,
      c.in_ok-add_line.ensures,
      c.new-lines.ensures.items,
      c.numbers.ensures,
      c.from.ensures,
    )
    refl
