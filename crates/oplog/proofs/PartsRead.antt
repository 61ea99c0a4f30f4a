-- What a read of a part, of gates or of a record gives.
use Rattle.std.proofs.Common.{◌≡◌, ℕ, ◌+◌, ◌-◌, ◌*◌, ◌<◌, List, [], length, take, drop, get_or, slice_range, sym, ◌∙◌, ap, arith}
use Rattle.device_map.specs.Layout.{Layout, slice, part_bytes, part_at, part_size, half_part}
use Rattle.protocol.specs.declared.sizes.TheConstants.{RECORD_SIZE}
use Rattle.oplog.specs.HalfContent.{gates, front, count_open, record_at}
use Rattle.oplog.proofs.PartLemmas.{LiesIn, slice_slice, half_sized}
use Rattle.std.proofs.lemmas.List.{drop-drop}
use Rattle.oplog.proofs.RecordRows.{length-rows, get_or-rows}

-- n bytes from place i of a part on
pub part_read : {g : Layout} {p i n at : ℕ} (now : List ℕ) {out : List ℕ} → LiesIn g p i n at → length out ≡ n
    → out ≡ slice_range now at (at + length out) → out ≡ slice (part_bytes g p now) i n
part_read {g} {p} {i} {n} {at} now {out} lies size read =
    let count : at + length out - at ≡ n = omega (arith, size) in
    read ∙ ap (λ (m : ℕ). take m (drop at now)) count ∙ ap (λ (a : ℕ). slice now a n) lies.place
    ∙ sym (slice_slice now (part_at g p) (part_size g p) i n lies.inside)

-- of half h
module _ (g : Layout) (h : ℕ) (is_half : h < 2) (now : List ℕ) where
  pub front_read : {at : ℕ} {out : List ℕ} → at ≡ part_at g (half_part h) + (64 + 0) → length out ≡ g.capacity
      → out ≡ slice_range now at (at + length out) → count_open out ≡ length (front g h now)
  front_read {at} place size read =
      let lies : LiesIn g (half_part h) 64 g.capacity at = omega (arith, place, half_sized g h is_half) in
      ap count_open (part_read now lies size read) ∙ sym (length-rows (count_open (gates g h now)) (drop (64 + g.capacity) (part_bytes g (half_part h) now)))

  pub record_read : (i : ℕ) {at : ℕ} {out : List ℕ} → i < g.capacity → at ≡ part_at g (half_part h) + (64 + g.capacity + i * RECORD_SIZE)
      → length out ≡ RECORD_SIZE → out ≡ slice_range now at (at + length out) → out ≡ record_at g h i now
  record_read i {at} few place =
      let lies : LiesIn g (half_part h) (64 + g.capacity + i * RECORD_SIZE) RECORD_SIZE at = omega (arith, few, place, half_sized g h is_half) in part_read now lies

-- The records of the front are the ones that `record` reads.
pub front_record : (g : Layout) (h i : ℕ) (c : List ℕ) → i < length (front g h c) → get_or (front g h c) i [] ≡ record_at g h i c
front_record g h i c few =
    get_or-rows (count_open (gates g h c)) i (drop (64 + g.capacity) (part_bytes g (half_part h) c))
    (omega (arith, few, length-rows (count_open (gates g h c)) (drop (64 + g.capacity) (part_bytes g (half_part h) c))))
    ∙ ap (λ (l : List ℕ). take RECORD_SIZE l) (drop-drop (i * RECORD_SIZE) (64 + g.capacity) (part_bytes g (half_part h) c))
