-- What a write of a run (adjacent pieces) of an image leaves.
use Rattle.std.proofs.Common.{◌≡◌, ℕ, ◌+◌, ◌-◌, ◌<◌, ◌≤◌, List, length, drop, sym, ◌∙◌, ap, subst, arith, length-drop}
use Rattle.std.proofs.lemmas.List.{length-take-le}
use Rattle.affinity.specs.declared.geometry.Geometry.{Geometry}
use Rattle.disk.specs.Device.{Medium, SameOutside, overlaid}
use Rattle.disk.proofs.CrashImagesAre.{leaves_now, started, then, weaker}
use Rattle.checkpoint.specs.Images.{image_in}
use Rattle.disk.specs.CrashImages.{CrashesChangeOnly}
use Rattle.disk.specs.Store.{TouchesOnly}
use Rattle.oplog.specs.Changes.{IsReady, IsSameBut}
use Rattle.device_map.specs.Layout.{Layout, slice, layout_of, part_bytes, part_at, image_part, device_size, image_size}
use Rattle.oplog.proofs.Ready.{ready_beside}
use Rattle.oplog.proofs.PartLemmas.{nothing_over, LiesIn, same_but, same_but_both, same_but_none, image_sized, part_overlaid}

-- the bytes of a run
pub run_long : (bytes : List ℕ) (from end : ℕ) → from ≤ end → end ≤ length bytes → length (slice bytes from (end - from)) ≡ end - from
run_long bytes from end order inside = length-take-le (end - from) (drop from bytes) (omega (arith, length-drop from bytes, order, inside))

pub run_inside : (bytes : List ℕ) (from end size : ℕ) → from ≤ end → end ≤ length bytes → length bytes ≡ size → from + length (slice bytes from (end - from)) ≤ size
run_inside bytes from end size order inside is = let long = run_long bytes from end order inside in omega (arith, long, order, inside, is)

-- ---- parts that change one after the other

pub part_then : (g : Layout) (p : ℕ) (w0 w1 w2 : Medium) → CrashesChangeOnly w0 w1 (IsSameBut g p) → CrashesChangeOnly w1 w2 (IsSameBut g p) → CrashesChangeOnly w0 w2 (IsSameBut g p)
part_then g p w0 w1 w2 first second =
    then w0 w1 w2 _ first
    (weaker w1 w2 _ _ second
    (λ c after.
    let before = leaves_now w0 w1 _ first after.old after.left in
    record { old = before.old; left = before.left; change = same_but_both g p before.old after.old c before.change after.change }))

pub part_begun : (g : Layout) (p : ℕ) (m : Medium) → CrashesChangeOnly m m (IsSameBut g p)
part_begun g p m = started m _ (λ c left. record { old = c; left = left; change = same_but_none g p c })

-- ---- one run

module _ (g : Geometry) (area : ℕ) {start : ℕ} (is_area : area < 2) (place : start ≡ part_at (layout_of g) (image_part area)) where
  module _ (from n : ℕ) (inside : from + n ≤ image_size g) where
    run_alone : (old c : List ℕ) → SameOutside (start + from) n old c → IsSameBut (layout_of g) (image_part area) old c
    run_alone old c same =
        same_but {i = from} (omega (arith, place, inside, image_sized (layout_of g) area is_area)) same

    pub run_moments : (w0 w1 : Medium) → CrashesChangeOnly w0 w1 (SameOutside (start + from) n) → CrashesChangeOnly w0 w1 (IsSameBut (layout_of g) (image_part area))
    run_moments w0 w1 moments = weaker w0 w1 _ _ moments (λ c after. record { old = after.old; left = after.left; change = run_alone after.old c after.change })

    module _ {w0 w1 : Medium} (touched : TouchesOnly (start + from) n w0 w1) where
      pub run_same : IsSameBut (layout_of g) (image_part area) w0.now w1.now
      run_same = run_alone w0.now w1.now touched.now

      pub run_ready : (h k : ℕ) → h < 2 → IsReady (layout_of g) h k w0 → IsReady (layout_of g) h k w1
      run_ready h k is_half ready =
          ready_beside {p = image_part area} {i = from} (λ same. omega (arith, same, is_half)) (omega (arith, place, inside, image_sized (layout_of g) area is_area)) touched ready

  pub run_written : (from : ℕ) (bytes : List ℕ) (w0 w1 : Medium) → from + length bytes ≤ image_size g → device_size (layout_of g) ≤ length w0.now
      → w1.now ≡ overlaid w0.now (start + from) bytes → image_in g area w1 ≡ overlaid (image_in g area w0) from bytes
  run_written from bytes w0 w1 inside whole is =
      let lies : LiesIn (layout_of g) (image_part area) from (length bytes) (start + from) = omega (arith, place, inside, image_sized (layout_of g) area is_area) in
      ap (λ (l : List ℕ). part_bytes (layout_of g) (image_part area) l) is ∙ part_overlaid bytes w0.now lies whole

-- an empty run
pub nothing_written : (xs : List ℕ) (from n : ℕ) (bytes : List ℕ) → n ≡ 0 → xs ≡ overlaid xs from (slice bytes from n)
nothing_written xs from n bytes none = subst (λ (k : ℕ). xs ≡ overlaid xs from (slice bytes from k)) (sym none) (sym (nothing_over xs from))
