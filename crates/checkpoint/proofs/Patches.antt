-- How the dirty extents of an image are written, one run after another.
use Rattle.std.proofs.Common.{◌≡◌, ◌≢◌, ⊎_elim, ℕ, suc, ◌+◌, ◌-◌, ◌<◌, ◌≤◌, Bool, true, false, List, ◌++◌, length, take, drop, get_or, refl, sym, ◌∙◌, ap, subst, arith, length-drop}
use Rattle.std.proofs.lemmas.Bool.{cases_lt}
use Rattle.std.proofs.lemmas.List.{drop-drop, take_all, length-take-le}
use Rattle.std.proofs.Math.Seq.{take-add}
use Rattle.affinity.specs.declared.geometry.Geometry.{Geometry}
use Rattle.disk.specs.Device.{Medium, SameOutside, overlaid, synced}
use Rattle.disk.proofs.Overlays.{take-overlaid, drop-overlaid, overlaid_outside, range-overlaid}
use Rattle.disk.proofs.SameOutside.{same_before, same_behind}
use Rattle.image.specs.Pieces.{piece_count}
use Rattle.checkpoint.specs.Extents.{AgreeOnClean, extent_at, extent_size}
use Rattle.checkpoint.specs.Images.{Imaged, IsPatchedAt, image_in}
use Rattle.checkpoint.proofs.ExtentLemmas.{extent_inside, extent_next, extent_rises}
use Rattle.checkpoint.proofs.PieceRuns.{part_begun, part_then}
use Rattle.disk.specs.CrashImages.{CrashesChangeOnly}
use Rattle.oplog.specs.Changes.{IsSameBut}
use Rattle.device_map.specs.Layout.{slice, layout_of, image_part, image_size, part_at, part_size, device_size}
use Rattle.oplog.proofs.PartLemmas.{same_but_both, same_but_none, image_sized, part_inside}

-- ---- lists of bytes

-- the first `from` bytes are written, and the others are as they were
pub record UpTo (from : ℕ) (bytes old new : List ℕ) : Type 0 where
  pub done : take from new ≡ take from bytes
  pub rest : drop from new ≡ drop from old

run_up : {from : ℕ} → (d : ℕ) → {bytes old now new : List ℕ} → from + d ≤ length bytes → from + d ≤ length now → UpTo from bytes old now → new
    ≡ overlaid now from (take d (drop from bytes)) → UpTo (from + d) bytes old new
run_up {from} d {bytes} {old} {now} {new} few inside so_far is =
    let items : List ℕ = take d (drop from bytes) in
    let long : length items ≡ d = length-take-le d (drop from bytes) (omega (arith, length-drop from bytes, few)) in
    let front : take from new ≡ take from bytes = ap (λ (l : List ℕ). take from l) is ∙ take-overlaid now from items ∙ so_far.done in
    let middle : take d (drop from new) ≡ items =
    ap (λ (l : List ℕ). take d (drop from l)) is ∙ ap (λ (k : ℕ). take k (drop from (overlaid now from items))) (sym long) ∙ range-overlaid now from items (omega (arith, long, inside)) in
    let behind : drop (from + d) new ≡ drop (from + d) now =
    ap (λ (l : List ℕ). drop (from + d) l) is ∙ subst (λ (k : ℕ). drop (from + k) (overlaid now from items) ≡ drop (from + k) now) long (drop-overlaid now from items) in
    record {
      done = take-add from d new ∙ (λ i. front i ++ middle i) ∙ sym (take-add from d bytes);
      rest = behind ∙ sym (drop-drop d from now) ∙ ap (λ (l : List ℕ). drop d l) so_far.rest ∙ drop-drop d from old;
    }

pub run_done : {from at : ℕ} {bytes old now new : List ℕ} → from ≤ at → at ≤ length bytes → at ≤ length now → UpTo from bytes old now → new
    ≡ overlaid now from (slice bytes from (at - from)) → UpTo at bytes old new
run_done {from} {at} {bytes} {old} {new} order few inside so_far is =
    let end : from + (at - from) ≡ at = omega (arith, order) in
    subst (λ (k : ℕ). UpTo k bytes old new) end (run_up (at - from) (omega (arith, order, few)) (omega (arith, order, inside)) so_far is)

-- n bytes that are there already
pub there_already : {at end : ℕ} → (n : ℕ) → {bytes old new : List ℕ} → end ≡ at + n → UpTo at bytes old new → slice old at n ≡ slice bytes at n → UpTo end bytes old new
there_already {at} n {bytes} {old} {new} ends so_far same =
    let by : UpTo (at + n) bytes old new = record {
      done =
          take-add at n new ∙ (λ i. so_far.done i ++ (ap (λ (l : List ℕ). take n l) so_far.rest ∙ same) i)
          ∙ sym (take-add at n bytes);
      rest = sym (drop-drop n at new) ∙ ap (λ (l : List ℕ). drop n l) so_far.rest ∙ drop-drop n at old;
    } in
    subst (λ (k : ℕ). UpTo k bytes old new) (sym ends) by

pub none_yet : (bytes old : List ℕ) → UpTo 0 bytes old old
none_yet bytes old = record { done = refl; rest = refl }

pub all_done : (n : ℕ) (bytes old new : List ℕ) → length bytes ≡ n → length new ≡ n → UpTo n bytes old new → new ≡ bytes
all_done n bytes old new long long' so_far = sym (take_all n new (omega (arith, long'))) ∙ so_far.done ∙ take_all n bytes (omega (arith, long))

-- ---- a device

-- how long an image is
pub image_long : (g : Geometry) (area : ℕ) (m : Medium) → area < 2 → device_size (layout_of g) ≤ length m.now → length (image_in g area m) ≡ image_size g
image_long g area m is_area whole =
    let sized = image_sized (layout_of g) area is_area in
    length-take-le (part_size (layout_of g) (image_part area)) (drop (part_at (layout_of g) (image_part area)) m.now)
    (omega (arith, part_inside (layout_of g) (image_part area), whole, length-drop (part_at (layout_of g) (image_part area)) m.now)) ∙ sized

-- The first `from` bytes of the image are written, and nothing else has changed.
pub record IsPatched (g : Geometry) (area from : ℕ) (bytes : List ℕ) (old new : Medium) : Type 0 where
  pub moments : CrashesChangeOnly old new (IsSameBut (layout_of g) (image_part area))
  pub same : IsSameBut (layout_of g) (image_part area) old.now new.now
  pub up_to : UpTo from bytes (image_in g area old) (image_in g area new)

pub patch_begun : (g : Geometry) (area : ℕ) (bytes : List ℕ) (m : Medium) → IsPatched g area 0 bytes m m
patch_begun g area bytes m =
    assumption (part_begun (layout_of g) (image_part area) m, same_but_none (layout_of g) (image_part area) m.now, none_yet bytes (image_in g area m))

module _ {g : Geometry} {area from : ℕ} {bytes : List ℕ} {w0 w w1 : Medium} (so_far : IsPatched g area from bytes w0 w)
    (moments : CrashesChangeOnly w w1 (IsSameBut (layout_of g) (image_part area))) where
  pub patch_moments : CrashesChangeOnly w0 w1 (IsSameBut (layout_of g) (image_part area))
  patch_moments = part_then (layout_of g) (image_part area) w0 w w1 so_far.moments moments

  module _ {at : ℕ} (is_area : area < 2) (size : length bytes ≡ image_size g) (whole : device_size (layout_of g) ≤ length w0.now)
      (order : from ≤ at) (inside : at ≤ image_size g) (same : IsSameBut (layout_of g) (image_part area) w.now w1.now)
      (written : image_in g area w1 ≡ overlaid (image_in g area w) from (slice bytes from (at - from))) where
    pub patched : IsPatched g area at bytes w0 w1
    patched =
        let long = image_long g area w is_area (omega (arith, whole, so_far.same.size)) in
        record {
          moments = patch_moments;
          same = same_but_both (layout_of g) (image_part area) w0.now w.now w1.now so_far.same same;
          up_to = run_done order (omega (arith, inside, size)) (omega (arith, inside, long)) so_far.up_to written;
        }

-- one extent more, that is there already
pub patch_passed : {g : Geometry} {area at end : ℕ} → (n : ℕ) (dirty : List Bool) → {bytes : List ℕ} {w0 w : Medium}
    → AgreeOnClean g dirty (image_in g area w0) bytes → n < piece_count g → get_or dirty n true ≡ false → at ≡ extent_at g n → end
    ≡ at + extent_size g n → IsPatched g area at bytes w0 w → IsPatched g area end bytes w0 w
patch_passed {g} {area} n dirty {bytes} {w0} {w} agree few clean is ends so_far =
    record {
      moments = so_far.moments;
      same = so_far.same;
      up_to = there_already (extent_size g n) ends so_far.up_to
          (subst (λ (a : ℕ). slice (image_in g area w0) a (extent_size g n) ≡ slice bytes a (extent_size g n)) (sym is) (agree n few clean));
    }

-- all of the image is written, and then synced
pub patch_synced : {g : Geometry} {area : ℕ} {bytes : List ℕ} {w0 w w1 : Medium} → area < 2 → length bytes ≡ image_size g
    → device_size (layout_of g) ≤ length w0.now → IsPatched g area (image_size g) bytes w0 w → w1 ≡ synced w → Imaged g area bytes w0 w1
patch_synced {g} {area} {bytes} {w0} {w} is_area size whole so_far syncs =
    subst (λ (m : Medium). Imaged g area bytes w0 m) (sym syncs)
    (record {
      same = so_far.same;
      is = all_done (image_size g) bytes (image_in g area w0) (image_in g area w) size (image_long g area w is_area (omega (arith, whole, so_far.same.size))) so_far.up_to;
      synced = refl;
    })

pub along_patch : {g : Geometry} {area from from' : ℕ} {bytes : List ℕ} {w0 w w' : Medium} → from' ≡ from → w' ≡ w → IsPatched g area from bytes w0 w → IsPatched g area from' bytes w0 w'
along_patch {g} {area} {from'} {bytes} {w0} {w} same still so_far = rw (still, same) so_far

-- ---- one extent

-- one extent is written over, and each other one stays
pub one_patched : {g : Geometry} {n at : ℕ} {bytes old new : List ℕ} → n < piece_count g → length bytes ≡ image_size g → length old ≡ image_size g
    → at ≡ extent_at g n → new ≡ overlaid old at (slice bytes at (extent_size g n)) → IsPatchedAt g n bytes old new
one_patched {g} {n} {at} {bytes} {old} {new} few size size' place is =
    let inside = extent_inside g n few in
    let items : List ℕ = slice bytes at (extent_size g n) in
    let long : length items ≡ extent_size g n = length-take-le (extent_size g n) (drop at bytes) (omega (arith, length-drop at bytes, size, place, inside)) in
    let same : SameOutside at (extent_size g n) old new =
    subst (λ (l : List ℕ). SameOutside at (extent_size g n) old l) (sym is) (subst (λ (k : ℕ). SameOutside at k old (overlaid old at items)) long (overlaid_outside old at items)) in
    record {
      is =
          ap (λ (a : ℕ). slice new a (extent_size g n)) (sym place) ∙ ap (λ (l : List ℕ). slice l at (extent_size g n)) is
          ∙ ap (λ (k : ℕ). slice (overlaid old at items) at k) (sym long) ∙ range-overlaid old at items (omega (arith, long, size', place, inside))
          ∙ ap (λ (a : ℕ). slice bytes a (extent_size g n)) place;
      others = λ i few' differs.
          ⊎_elim
          (λ (less : i < n).
          let before = extent_rises g (suc i) n (omega (arith, less)) in
          same_before at (extent_size g n) old new same (extent_at g i) (extent_size g i) (omega (arith, before, extent_next g i, place)))
          (λ (no_less : n ≤ i).
          let after = extent_rises g (suc n) i (apart i n differs no_less) in
          same_behind at (extent_size g n) old new same (extent_at g i) (extent_size g i) (omega (arith, after, extent_next g n, place)))
          (cases_lt i n);
    }
  where
    apart : (i n : ℕ) → i ≢ n → n ≤ i → suc n ≤ i
    apart i n differs no_less = ⊎_elim (λ (more : n < i). omega (arith, more)) (λ (no_more : i ≤ n). absurd (differs (omega (arith, no_less, no_more)))) (cases_lt n i)
