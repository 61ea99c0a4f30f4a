-- The service is that on the device of the file.
use Rattle.std.proofs.Common.{inr}
use Rattle.commands.proofs.serve.serve_device.Goals as goal

pub returns : goal.returns
returns g c =
    let served = c.serve_on-disk.ensures in
    inr (_, _, record { ends = served.ends; crash_safe = served.crash_safe; kept = served.kept; recovers = served.recovers; goes_on = served.goes_on })
