-- A crash image that holds what was sent recovers to a state with those lines and a closed part of the rest.
use Rattle.serving.proofs.MaySend.{sent_is_held}
use Rattle.serving.proofs.RecoversWritten.{bytes_recover}
use Rattle.serving.proofs.laws.what_may_be_sent_is_recovered.Goals as goal

pub returns : goal.returns
returns g c s told later now bytes may kept appends left leaves =
    let h = sent_is_held may appends kept left leaves in
    bytes_recover s.core.next h.consumed h.lines h.first h.output h.few h.kept h.holds
