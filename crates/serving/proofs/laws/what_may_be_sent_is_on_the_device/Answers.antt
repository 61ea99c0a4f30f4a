-- Each line that may be sent answers a logged message, or needs no record; so whatever a crash leaves holds it.
use Rattle.serving.proofs.MaySend.{sent_is_held}
use Rattle.serving.proofs.laws.what_may_be_sent_is_on_the_device.Goals as goal

pub returns : goal.returns
returns g c s told later now bytes may kept appends = sent_is_held may appends kept
