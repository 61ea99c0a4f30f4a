-- While all messages are in the core none was answered, so no line that may be sent is a reply to a message in range.
use Rattle.serving.proofs.SendsNoReply.{no_reply, nothing_done}
use Rattle.serving.proofs.laws.nothing_is_sent_before_it_is_answered.Goals as goal

pub returns : goal.returns
returns g c = record { none = no_reply g.D.Disk.keeps; done = nothing_done g.D.Disk.keeps }
