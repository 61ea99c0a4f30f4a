-- Statement for engineers: Which pieces of an image a message may change.
use Rattle.std.specs.Prelude.{ℕ, suc, Bool, true, false, ◌&&◌, ◌==◌}
use Rattle.affinity.specs.Geometry.{stripe_of}
use Rattle.affinity.specs.declared.geometry.Geometry.{Geometry}
use Rattle.protocol.specs.declared.messages.Msg.{Msg}
use Rattle.protocol.specs.declared.messages.Msg.TheVariants.{MakeVol, DropVol, Create, Delete, Seal, Unseal, Write, Punch, Read, List as ListFiles, Usage, Summary, SetLabel, Label}
use Rattle.meaning.specs.State.{is_volume, key}
use Rattle.image.specs.Pieces.{aggregate_of, volume_of, part_of}

-- Whether the message may change part p of its own volume: 0 is the volume's piece, and `suc s` that of stripe s. One that removes a volume
-- or a file may change each part, one that changes a block that of its stripe, any other change the volume's own piece, and a message
-- that changes nothing none.
abbrev pub may_change_part : Geometry → Msg → ℕ → Bool
may_change_part g (MakeVol a v) p = p == 0
may_change_part g (DropVol a v) p = true
may_change_part g (Create a v f) p = p == 0
may_change_part g (Delete a v f) p = true
may_change_part g (Seal a v) p = p == 0
may_change_part g (Unseal a v) p = p == 0
may_change_part g (Write a v f b content) p = p == suc (stripe_of g f b)
may_change_part g (Punch a v f b) p = p == suc (stripe_of g f b)
may_change_part g (Read a v f b) p = false
may_change_part g (ListFiles a v) p = false
may_change_part g (Usage a v) p = false
may_change_part g Summary p = false
may_change_part g (SetLabel a v bytes) p = p == 0
may_change_part g (Label a v) p = false

-- whether the message may change piece n
abbrev pub may_change : Geometry → Msg → ℕ → Bool
may_change g m n = let k = key m in is_volume k.0 k.1 (aggregate_of g n, volume_of g n) && may_change_part g m (part_of g n)
