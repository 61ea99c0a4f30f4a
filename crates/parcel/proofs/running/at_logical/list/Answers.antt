-- The bits of the files that the volume has are the reply, for a list that passes its check.
use Rattle.std.proofs.Common.{◌^◌, Bool, None, Some, refl, ap, sym, ◌∙◌}
use Rattle.std.specs.Prelude.{if◌then◌else◌}
use Rattle.protocol.specs.declared.messages.Msg.TheVariants.{List as ListFiles}
use Rattle.protocol.specs.declared.replies.Refusal.TheVariants.{Volume}
use Rattle.protocol.specs.declared.replies.Reply.TheVariants.{Files}
use Rattle.meaning.specs.State.{sum_below}
use Rattle.parcel.specs.Shown.{logical_facts}
use Rattle.parcel.specs.Volume.{one_volume}
use Rattle.meaning.proofs.FileNumber.{bits_back}
use Rattle.parcel.proofs.OneVolume.{at_volume, passed, list_tests}
use Rattle.parcel.proofs.running.at_logical.list.Goals as goal

pub returns : goal.returns
returns c =
    let g = c.args.g.now in
    let h = logical_facts g c.args.standing c.args.logical.now in
    λ a v range. passed g (one_volume a v h) (ListFiles a v) _ _ (list_tests g a v h range ∙ ap (λ (b : Bool). if b then Some Volume else None) c.if-not-standing.false)
    (ap Files (sym (bits_back g.files c.args.logical.now.files c.requires.fits.files)) ∙ (λ i. Files (sum_below g.files (λ f. if (sym (at_volume a v h) i).files f then 2 ^ f else 0)))) refl
