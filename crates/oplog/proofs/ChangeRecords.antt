-- Which bytes are no record of the log.
use Rattle.std.proofs.Common.{ℕ, ◌+◌, ◌*◌, ◌<◌, ◌≤◌, List, length, drop, get_or, ⊎_elim, sym, ◌∙◌, ap, subst, arith}
use Rattle.std.proofs.lemmas.Bool.{cases_lt}
use Rattle.std.proofs.lemmas.List.{length-take-le, length-drop, get_or_past}
use Rattle.disk.specs.CrashImages.{AreBytes}
use Rattle.disk.proofs.Bytes.{bytes-range, byte-get_or}
use Rattle.message.proofs.RecordLemmas.{whole_if_decoded}
use Rattle.device_map.specs.Layout.{part_at, part_size, half_part}
use Rattle.protocol.specs.declared.sizes.TheConstants.{RECORD_SIZE}
use Rattle.oplog.specs.ChangeRecords.{RecordsAreBytes, BadRecordIsOfNoChange}
use Rattle.oplog.proofs.PartLemmas.{slice_slice, half_sized, half_inside}

-- a record as a range of the device
pub records_are_bytes : RecordsAreBytes
records_are_bytes g h i c is_half few fits are =
    let size = half_sized g h is_half in
    let at = part_at g (half_part h) + (64 + g.capacity + i * RECORD_SIZE) in
    let is = slice_slice c (part_at g (half_part h)) (part_size g (half_part h)) (64 + g.capacity + i * RECORD_SIZE) RECORD_SIZE (omega (arith, size, few)) in (
      ap length is ∙ length-take-le RECORD_SIZE (drop at c) (omega (arith, length-drop at c, fits, few, half_inside g h is_half)),
      subst AreBytes (sym is) (bytes-range at RECORD_SIZE c are),
    )

byte_at : (bytes : List ℕ) → AreBytes bytes → (i : ℕ) → get_or bytes i 0 < 256
byte_at bytes are i =
    ⊎_elim
    (λ (inside : i < length bytes). byte-get_or bytes i 0 inside are)
    (λ (beyond : length bytes ≤ i). rw (get_or_past bytes i 0 beyond) (omega arith)) (cases_lt i (length bytes))

pub no_record_says_none : BadRecordIsOfNoChange
no_record_says_none g bytes size are none m said logged is = none m (whole_if_decoded bytes m size (byte_at bytes are) said) logged is
