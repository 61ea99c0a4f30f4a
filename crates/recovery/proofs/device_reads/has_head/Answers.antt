-- A head is a known version and the zeros that follow it, compared as a whole.
use Rattle.std.proofs.Common.{ℕ, Bool, ◌&&◌, List, get_or, sym, ◌∙◌, ap}
use Rattle.std.specs.Str.{bytes_eq}
use Rattle.image.specs.Image.{image_head}
use Rattle.recovery.proofs.Heads.{head_whole}
use Rattle.recovery.proofs.device_reads.has_head.Goals as goal

pub returns : goal.returns
returns c =
    c.eq.ensures ∙ ap (λ (l : List ℕ). bytes_eq c.args.head.now l) c.head_of.ensures
    ∙ ap (λ (b : Bool). b && bytes_eq c.args.head.now (image_head (get_or c.args.head.now 0 0))) (c.if-not-is_version.ensures {u = tt})
    ∙ sym (head_whole c.args.head.now c.told-head)
