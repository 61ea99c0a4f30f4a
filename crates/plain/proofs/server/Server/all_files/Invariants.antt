-- The total so far and the files of the volumes still to come are all files.
use Rattle.std.proofs.Common.{◌≡◌, ◌+◌}
use Rattle.meaning.specs.State.{file_count, sum_over_volumes}
use Rattle.plain.specs.Server.{server_state}
use Rattle.plain.proofs.Walks.{total}
use Rattle.plain.proofs.Totals.{file_number}
use Rattle.plain.proofs.server.Server.all_files.Given as goal

abbrev pub invariant-loop-volume : goal.invariant-loop-volume
invariant-loop-volume l = l.total + total file_number l.volume-iterator ≡ sum_over_volumes l.g (file_count l.g (server_state l.self))
