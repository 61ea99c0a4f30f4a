-- Behind what was there are the numbers so far, each after a space.
use Rattle.std.proofs.Common.{◌≡◌, ◌++◌, take}
use Rattle.std.specs.List.{flat_map}
use Rattle.protocol.specs.Replies.{spaced}
use Rattle.commands.proofs.lines.add_numbers.Given as goal

-- the numbers so far are there
abbrev pub invariant-numbers : goal.invariant-numbers
invariant-numbers l = l.lines.items ≡ l.fn.lines.items ++ flat_map spaced (take l.number-index l.numbers)
