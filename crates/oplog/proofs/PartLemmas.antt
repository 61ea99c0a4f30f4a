-- Parts of a list and of a device, and what is left of the others where one of them is written.
use Rattle.std.proofs.Common.{◌≡◌, ◌≢◌, ℕ, min, zero, suc, ◌+◌, ◌-◌, ◌<◌, ◌≤◌, List, [], ◌∷◌, ◌++◌, length, take, drop, get_or, ⊎_elim, refl, sym, ◌∙◌, ap, subst, arith}
use Rattle.std.proofs.lemmas.Bool.{cases_lt}
use Rattle.std.proofs.lemmas.List.{take-take, take-append-drop, drop-drop, drop-take, length-take, length-take-le, length-drop}
use Rattle.disk.specs.Device.{SameOutside, overlaid}
use Rattle.disk.proofs.SameOutside.{same_before, same_behind, same_drop}
use Rattle.disk.proofs.Overlays.{overlaid_outside, overlaid_parts, range-overlaid}
use Rattle.device_map.specs.Layout.{Layout, slice, sizes, half_size, offset, part_bytes, part_at, part_size, device_size, half_part, image_part}
use Rattle.oplog.specs.Changes.{IsSameBut}

-- ---- a part of a part

slice_slice_by : (xs : List ℕ) (a i n r : ℕ) → n ≤ r → take n (drop i (take (i + r) (drop a xs))) ≡ slice xs (a + i) n
slice_slice_by xs a i n r fits =
    ap (λ (l : List ℕ). take n l) (drop-take i r (drop a xs)) ∙ take-take n r (drop i (drop a xs)) fits ∙ ap (λ (l : List ℕ). take n l) (drop-drop i a xs)

pub slice_slice : (xs : List ℕ) (a s i n : ℕ) → i + n ≤ s → slice (slice xs a s) i n ≡ slice xs (a + i) n
slice_slice xs a s i n fits =
    let whole : i + (s - i) ≡ s = omega (arith, fits) in
    subst (λ (k : ℕ). take n (drop i (take k (drop a xs))) ≡ slice xs (a + i) n) whole (slice_slice_by xs a i n (s - i) (omega (arith, fits)))

-- A change within a range is one of each part that holds the range.
module _ (a s i n : ℕ) (xs ys : List ℕ) (inside : i + n ≤ s) (same : SameOutside (a + i) n xs ys) where
  behind : (r : ℕ) → drop (i + n) (take (i + n + r) (drop a ys)) ≡ drop (i + n) (take (i + n + r) (drop a xs))
  behind r =
      drop-take (i + n) r (drop a ys) ∙ ap (λ (l : List ℕ). take r l) (drop-drop (i + n) a ys) ∙ same_behind (a + i) n xs ys same (a + (i + n)) r (omega arith)
      ∙ sym (ap (λ (l : List ℕ). take r l) (drop-drop (i + n) a xs)) ∙ sym (drop-take (i + n) r (drop a xs))

  pub within : SameOutside i n (slice xs a s) (slice ys a s)
  within =
      let whole : i + n + (s - (i + n)) ≡ s = omega (arith, inside) in
      record {
        before = take-take i s (drop a ys) (omega (arith, inside)) ∙ same_before (a + i) n xs ys same a i (omega arith) ∙ sym (take-take i s (drop a xs) (omega (arith, inside)));
        after = subst (λ (k : ℕ). drop (i + n) (take k (drop a ys)) ≡ drop (i + n) (take k (drop a xs))) whole (behind (s - (i + n)));
        size = length-take s (drop a ys) ∙ ap (λ (k : ℕ). min s k) (length-drop a ys ∙ ap (λ (k : ℕ). k - a) same.size ∙ sym (length-drop a xs)) ∙ sym (length-take s (drop a xs));
      }

-- ---- the parts of a device

-- a part ends where the next begins, or before
pub offset_below : (ss : List ℕ) (p q : ℕ) → p < q → offset ss p + get_or ss p 0 ≤ offset ss q
offset_below [] p q less = omega arith
offset_below (s ∷ ss) p zero less = absurd (omega (arith, less))
offset_below (s ∷ ss) zero (suc q) less = omega arith
offset_below (s ∷ ss) (suc p) (suc q) less = omega (arith, offset_below ss p q (omega (arith, less)))

-- a part ends where all of them end, or before
ends_below : (ss : List ℕ) (p : ℕ) → offset ss p + get_or ss p 0 ≤ offset ss (length ss)
ends_below [] p = omega arith
ends_below (s ∷ ss) zero = omega arith
ends_below (s ∷ ss) (suc p) = omega (arith, ends_below ss p)

-- a part lies on the device
pub part_inside : (g : Layout) (p : ℕ) → part_at g p + part_size g p ≤ device_size g
part_inside g p = ends_below (sizes g) p

-- no item, written anywhere
pub nothing_over : (xs : List ℕ) (at : ℕ) → overlaid xs at [] ≡ xs
nothing_over [] at = refl
nothing_over (x ∷ xs) zero = refl
nothing_over (x ∷ xs) (suc at) = ap (λ (l : List ℕ). x ∷ l) (nothing_over xs at)

-- The n items from `at` on are those from place i of part p on.
pub record LiesIn (g : Layout) (p i n at : ℕ) : Type 0 where
  pub place : at ≡ part_at g p + i
  pub inside : i + n ≤ part_size g p

-- A change within part p, of bytes or of marks, leaves each other part.
pub other_part : {X : Type 0} {g : Layout} {p i n at : ℕ} {xs ys : List X} (q : ℕ) → LiesIn g p i n at → q ≢ p
    → SameOutside at n xs ys → slice ys (part_at g q) (part_size g q) ≡ slice xs (part_at g q) (part_size g q)
other_part {g} {p} {n} {at} {xs} {ys} q lies differs same =
    ⊎_elim
    (λ (less : q < p). same_before at n xs ys same (part_at g q) (part_size g q) (omega (arith, lies, offset_below (sizes g) q p less)))
    (λ (no_less : p ≤ q).
    same_behind at n xs ys same (part_at g q) (part_size g q) (omega (arith, lies, offset_below (sizes g) p q (greater p q differs no_less))))
    (cases_lt q p)
  where
    greater : (p q : ℕ) → q ≢ p → p ≤ q → p < q
    greater p q differs no_less = ⊎_elim (λ (less : p < q). less) (λ (no_more : q ≤ p). absurd (differs (omega (arith, no_less, no_more)))) (cases_lt p q)

-- So nothing but that part differs.
pub same_but : {g : Layout} {p i n at : ℕ} {old c : List ℕ} → LiesIn g p i n at → SameOutside at n old c → IsSameBut g p old c
same_but {g} {p} {n} {at} {old} {c} lies same = record {
  size = same.size;
  others = λ q differs. other_part q lies differs same;
  rest = same_drop at n old c same (device_size g) (omega (arith, lies, part_inside g p));
}

-- Bytes that are written within a part are written into the part's own bytes.
pub part_overlaid : {g : Layout} {p i at : ℕ} (bytes old : List ℕ) → LiesIn g p i (length bytes) at → device_size g ≤ length old
    → part_bytes g p (overlaid old at bytes) ≡ overlaid (part_bytes g p old) i bytes
part_overlaid {g} {p} {i} {at} bytes old lies fits =
    let new = overlaid old at bytes in
    let same : SameOutside (part_at g p + i) (length bytes) old new = subst (λ (a : ℕ). SameOutside a (length bytes) old new) lies.place (overlaid_outside old at bytes) in
    let ends = part_inside g p in
    let written : slice (part_bytes g p new) i (length bytes) ≡ bytes =
    slice_slice new (part_at g p) (part_size g p) i (length bytes) lies.inside ∙ ap (λ (a : ℕ). slice new a (length bytes)) (sym lies.place)
    ∙ range-overlaid old at bytes (omega (arith, lies, fits, ends)) in
    let size : length (part_bytes g p old) ≡ part_size g p =
    length-take-le (part_size g p) (drop (part_at g p) old) (omega (arith, length-drop (part_at g p) old, fits, ends)) in
    put_in (part_bytes g p old) (part_bytes g p new) i bytes (omega (arith, lies, size)) (within (part_at g p) (part_size g p) i (length bytes) old new lies.inside same) written
  where
    put_in : (xs ys : List ℕ) (i : ℕ) (bytes : List ℕ) → i + length bytes ≤ length xs → SameOutside i (length bytes) xs ys → slice ys i (length bytes) ≡ bytes → ys ≡ overlaid xs i bytes
    put_in xs ys i bytes inside same written =
        let behind : drop (length bytes) (drop i ys) ≡ drop (length bytes) (drop i xs) = drop-drop (length bytes) i ys ∙ same.after ∙ sym (drop-drop (length bytes) i xs) in
        sym (take-append-drop i ys)
        ∙ ap (λ (l : List ℕ). take i ys ++ l) (sym (take-append-drop (length bytes) (drop i ys)))
        ∙ (λ j. same.before j ++ (written j ++ behind j))
        ∙ sym (overlaid_parts xs i bytes inside)

-- one change after another
pub same_but_both : (g : Layout) (p : ℕ) (xs ys zs : List ℕ) → IsSameBut g p xs ys → IsSameBut g p ys zs → IsSameBut g p xs zs
same_but_both g p xs ys zs first second = record {
  size = second.size ∙ first.size;
  others = λ q differs. second.others q differs ∙ first.others q differs;
  rest = second.rest ∙ first.rest;
}

pub same_but_none : (g : Layout) (p : ℕ) (xs : List ℕ) → IsSameBut g p xs xs
same_but_none g p xs = record { size = refl; others = λ q differs. refl; rest = refl }

-- the size of either image
pub image_sized : (g : Layout) (i : ℕ) → i < 2 → part_size g (image_part i) ≡ g.image
image_sized g zero is_image = refl
image_sized g (suc zero) is_image = refl
image_sized g (suc (suc i)) is_image = absurd (omega (arith, is_image))

-- the size of either half
pub half_sized : (g : Layout) (h : ℕ) → h < 2 → part_size g (half_part h) ≡ half_size g.capacity
half_sized g zero is_half = refl
half_sized g (suc zero) is_half = refl
half_sized g (suc (suc h)) is_half = absurd (omega (arith, is_half))

-- a half lies on the device
pub half_inside : (g : Layout) (h : ℕ) → h < 2 → part_at g (half_part h) + half_size g.capacity ≤ device_size g
half_inside g h is_half = omega (arith, offset_below (sizes g) (half_part h) 6 (omega (arith, is_half)), half_sized g h is_half)
