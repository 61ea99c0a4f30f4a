-- The totals of the volume and its seal are the reply, for a usage that passes its check.
use Rattle.std.proofs.Common.{Bool, None, refl, ap, sym, ◌∙◌}
use Rattle.protocol.specs.declared.messages.Msg.TheVariants.{Usage as AskUsage}
use Rattle.protocol.specs.declared.replies.Refusal.TheVariants.{Volume}
use Rattle.protocol.specs.declared.replies.Reply.TheVariants.{Usage}
use Rattle.meaning.specs.State.{count_below}
use Rattle.parcel.specs.Shown.{volume_facts}
use Rattle.parcel.specs.VolumeStep.{guard}
use Rattle.parcel.specs.Totals.{block_total}
use Rattle.parcel.specs.Volume.{one_volume}
use Rattle.parcel.proofs.OneVolume.{at_volume, passed, usage_tests}
use Rattle.parcel.proofs.running.at_volume.usage.Goals as goal

pub returns : goal.returns
returns c =
    let g = c.args.g.now in
    let w = c.args.volume.now in
    let h = volume_facts g w in
    let e = c.volume_totals-totals.ensures in
    λ a v range. passed g (one_volume a v h) (AskUsage a v) _ _ (usage_tests g a v h range ∙ ap (λ (b : Bool). guard b Volume None) c.if-not-volume.false)
    ((λ i. Usage (e i).files (e i).blocks w.sealed) ∙ (λ i. Usage (count_below g.files (sym (at_volume a v h) i).files)
    (block_total g (sym (at_volume a v h) i).blocks) (sym (at_volume a v h) i).sealed)) refl
