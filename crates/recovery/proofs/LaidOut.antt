-- What is on a device that is laid out, and what it recovers to once its format byte is set.
use Rattle.std.proofs.Common.{◌≡◌, ◌≢◌, ◌⊎◌, ℕ, zero, suc, ◌+◌, ◌-◌, ◌<◌, ◌≤◌, Bool, true, ◌&&◌, not, cond, eqb, List, [], ◌∷◌, ◌++◌, length, take, drop, get_or, replicate, Option, Some, None, inl, inr, ⊎_elim, sym, ◌∙◌, ap, subst, arith}
use Rattle.std.specs.Prelude.{nat_le, if◌then◌else◌}
use Rattle.std.proofs.lemmas.Slice.Eq.{bytes_eq-Decides}
use Rattle.std.proofs.lemmas.Bool.{cases_eq, le-leb}
use Rattle.std.proofs.lemmas.List.{length-replicate, get_or-take, get_or-drop, get_or-replicate, drop-replicate, take-replicate}
use Rattle.affinity.specs.declared.geometry.Geometry.{Geometry}
use Rattle.recovery.specs.Formatting.{HasBytesAt, IsAllButHeader, HasNoFormatByte}
use Rattle.recovery.specs.Header.{header_of, is_header}
use Rattle.recovery.specs.Recovery.{recovered_state, decoding}
use Rattle.recovery.specs.Version.{named_version}
use Rattle.recovery.proofs.EmptyImage.{empty_spelled}
use Rattle.disk.specs.Device.{SameOutside, overlaid}
use Rattle.disk.proofs.SameOutside.{same_before, same_behind}
use Rattle.disk.proofs.Overlays.{overlaid_outside, length-overlaid, range-overlaid}
use Rattle.image.specs.Image.{image_of, image_state, version_in}
use Rattle.image.proofs.ReadImage.{read_again}
use Rattle.image.specs.declared.layout.TheConstants.{VERSION}
use Rattle.oplog.proofs.PartLemmas.{nothing_over, slice_slice}
use Rattle.oplog.specs.HalfContent.{chain, front, gates, count_open, rows}
use Rattle.device_map.specs.Layout.{Layout, slice, layout_of, part_bytes, part_at, device_size, half_part, half_size, header_part, image_part, image_size}
use Rattle.protocol.specs.declared.sizes.TheConstants.{RECORD_SIZE}
use Rattle.oplog.specs.Recovery.{named_area, in_force, is_laid_out, run, recovers_by_area}
use Rattle.meaning.specs.State.{State, empty}
use Rattle.meaning.proofs.IsState.{empty_is_state}
use Rattle.oplog.proofs.Gates.{open_none}

-- What an empty device needs besides its first byte, the format byte.
pub record IsAllButFormatByte (g : Geometry) (c : List ℕ) : Type 0 where
  pub laid : IsAllButHeader g c
  pub header : HasBytesAt c 1 (drop 1 (header_of g))

-- ---- bytes that lie at an offset (`HasBytesAt`)

-- a change beside these bytes
pub has_kept : (a : ℕ) {at n : ℕ} {bytes c torn : List ℕ} → (a + length bytes ≤ at) ⊎ (at + n ≤ a) → SameOutside at n c torn → HasBytesAt c a bytes → HasBytesAt torn a bytes
has_kept a {at} {n} {bytes} {c} {torn} (inl before) same has = same_before at n c torn same a (length bytes) before ∙ has
has_kept a {at} {n} {bytes} {c} {torn} (inr behind) same has = same_behind at n c torn same a (length bytes) behind ∙ has

-- bytes that were written
pub has_put : (c : List ℕ) (at : ℕ) (bytes : List ℕ) → at + length bytes ≤ length c → HasBytesAt (overlaid c at bytes) at bytes
has_put c at bytes inside = range-overlaid c at bytes inside

-- one of n zeros
zero_there : (c : List ℕ) (at n i : ℕ) → HasBytesAt c at (replicate n 0) → i < n → get_or c (at + i) 0 ≡ 0
zero_there c at n i has few =
    sym (get_or-drop at c i 0) ∙ sym (get_or-take n (drop at c) i 0 few)
    ∙ ap (λ (k : ℕ). get_or (take k (drop at c)) i 0) (sym (length-replicate {A = ℕ} n 0))
    ∙ ap (λ (l : List ℕ). get_or l i 0) has ∙ get_or-replicate n i 0 0 few

zeros_there : (c : List ℕ) (at n i k : ℕ) → HasBytesAt c at (replicate n 0) → i + k ≤ n → slice c (at + i) k ≡ replicate k 0
zeros_there c at n i k has few =
    sym (slice_slice c at n i k few)
    ∙ ap (λ (m : ℕ). slice (slice c at m) i k) (sym (length-replicate {A = ℕ} n 0))
    ∙ ap (λ (l : List ℕ). slice l i k) has
    ∙ ap (λ (l : List ℕ). take k l) (drop-replicate i n 0)
    ∙ take-replicate k (n - i) 0 (omega (arith, few))

-- ---- an empty device

pub image_some : (g : Geometry) → 64 ≤ image_size g
unfolding image_size
image_some g = omega arith

-- the header, of its format byte and what comes after
pub header_there : (g : Geometry) (c : List ℕ) → get_or c 0 0 ≡ 1 → HasBytesAt c 1 (drop 1 (header_of g)) → slice c 0 64 ≡ header_of g
header_there g [] is_formatted has = absurd (omega (arith, is_formatted))
header_there g (x ∷ c) is_formatted has = λ i. is_formatted i ∷ has i

module _ (g : Geometry) (c : List ℕ) (laid : IsAllButHeader g c) where
  abbrev l : Layout
  l = layout_of g

  names_0 : named_area l c ≡ 0
  names_0 = ap (λ (bytes : List ℕ). cond (eqb (get_or bytes 0 0) 1) 1 0) (zeros_there c 64 (64 + (64 + g.half)) 0 64 laid.root (omega arith))

  no_chain_0 : chain l 0 c ≡ 0
  no_chain_0 = get_or-take (half_size g.half) (drop 128 c) 0 0 (omega arith) ∙ get_or-drop 128 c 0 0 ∙ zero_there c 64 (64 + (64 + g.half)) 64 laid.root (omega arith)

  shut_0 : gates l 0 c ≡ replicate g.half 0
  shut_0 = slice_slice c 128 (half_size g.half) 64 g.half (omega arith) ∙ zeros_there c 64 (64 + (64 + g.half)) 128 g.half laid.root (omega arith)

  no_front : front l 0 c ≡ []
  no_front = ap (λ (n : ℕ). rows RECORD_SIZE n (drop (64 + g.half) (part_bytes l (half_part 0) c))) (ap count_open shut_0 ∙ open_none g.half)

  image_there : part_bytes l (image_part 0) c ≡ image_of VERSION g empty
  image_there =
      let some = image_some g in
      let long : length {A = ℕ} (VERSION ∷ replicate {A = ℕ} (image_size g - 1) 0) ≡ image_size g = omega (arith, some, length-replicate {A = ℕ} (image_size g - 1) 0) in
      sym (ap (λ (n : ℕ). slice c (part_at l 4) n) long) ∙ laid.image ∙ sym (empty_spelled g)

  in_force_none : in_force l 0 c ≡ []
  in_force_none = ap (λ (b : ℕ). cond (eqb b 1) (front l 0 c ++ front l 1 c) (front l 0 c)) no_chain_0 ∙ no_front

-- Behind its header, an empty device recovers to the empty state once its format byte is set.
pub holds_empty : (g : Geometry) (c : List ℕ) → device_size (layout_of g) ≤ length c → IsAllButFormatByte g c → get_or c 0 0 ≡ 1 → recovered_state g c ≡ Some empty
holds_empty g c long headed is_formatted =
    let l : Layout = layout_of g in
    let laid = headed.laid in
    let head : is_header g (part_bytes l header_part c) ≡ true = (bytes_eq-Decides (part_bytes l header_part c) (header_of g)).1 (header_there g c is_formatted headed.header) in
    let whole : nat_le (device_size l) (length c) ≡ true = le-leb (device_size l) (length c) long in
    let one_chain : not (eqb (chain l 0 c) 1 && eqb (chain l 1 c) 1) ≡ true = ap (λ (b : ℕ). not (eqb b 1 && eqb (chain l 1 c) 1)) (no_chain_0 g c laid) in
    let laid_out : is_laid_out (decoding g) l c ≡ true = (λ i. head i && whole i && one_chain i) in
    ap (λ (n : ℕ). recovers_by_area (decoding g) l n c) (names_0 g c laid)
    ∙ ap (λ (t : Bool). if t then run (decoding g) (image_state g (part_bytes l (image_part 0) c)) (in_force l 0 c) else None) laid_out
    ∙ ap (λ (bytes : List ℕ). run (decoding g) (image_state g bytes) (in_force l 0 c)) (image_there g c laid)
    ∙ ap (λ (x : Option State). run (decoding g) x (in_force l 0 c)) (read_again g empty (empty_is_state g))
    ∙ ap (λ (rs : List (List ℕ)). run (decoding g) (Some empty) rs) (in_force_none g c laid)

-- Its image, which is named, has version 2.
pub version_empty : (g : Geometry) (c : List ℕ) → IsAllButHeader g c → named_version g c ≡ VERSION
version_empty g c laid =
    ap (λ (n : ℕ). version_in (part_bytes (layout_of g) (image_part n) c)) (names_0 g c laid) ∙ ap (λ (bytes : List ℕ). version_in bytes) (image_there g c laid)

-- ---- changes of an empty device

pub laid_kept : (g : Geometry) (at n : ℕ) (c torn : List ℕ) → at + n ≤ 64 → SameOutside at n c torn → IsAllButHeader g c → IsAllButHeader g torn
laid_kept g at n c torn before same laid = record {
  root = has_kept 64 (inr before) same laid.root;
  one = has_kept (part_at (layout_of g) 3) (inr (omega (arith, before))) same laid.one;
  image = has_kept (part_at (layout_of g) 4) (inr (omega (arith, before))) same laid.image;
}

pub headed_kept : (g : Geometry) (c torn : List ℕ) → SameOutside 0 1 c torn → IsAllButFormatByte g c → IsAllButFormatByte g torn
headed_kept g c torn same headed = record {
  laid = laid_kept g 0 1 c torn (omega arith) same headed.laid;
  header = has_kept 1 (inr (omega arith)) same headed.header;
}

-- The header's bytes behind its format byte are written.
pub headed : (g : Geometry) (c : List ℕ) (bytes : List ℕ) → bytes ≡ drop 1 (header_of g) → 64 ≤ length c → IsAllButHeader g c → IsAllButFormatByte g (overlaid c 1 bytes)
headed g c bytes are long laid = record {
  laid = laid_kept g 1 (length bytes) c (overlaid c 1 bytes) (omega (arith, ap (λ (l : List ℕ). length l) are)) (overlaid_outside c 1 bytes) laid;
  header = subst (λ (l : List ℕ). HasBytesAt (overlaid c 1 bytes) 1 l) are (has_put c 1 bytes (omega (arith, long, ap (λ (l : List ℕ). length l) are)));
}

-- The format byte is set behind a whole header: whatever a crash leaves, the device isn't formatted, or recovers to the empty state.
pub torn_open : (g : Geometry) (c torn : List ℕ) → device_size (layout_of g) ≤ length c → IsAllButFormatByte g c → SameOutside 0 1 c torn
    → HasNoFormatByte (length c) torn ⊎ (recovered_state g torn ≡ Some empty)
torn_open g c torn long headed same =
    ⊎_elim
    (λ (is_formatted : get_or torn 0 0 ≡ 1). inr (holds_empty g torn (omega (arith, long, same.size)) (headed_kept g c torn same headed) is_formatted))
    (λ (shut : get_or torn 0 0 ≢ 1). inl (record { size = same.size; first_byte = shut }))
    (cases_eq (get_or torn 0 0) 1)

-- one byte written over the first of a row of zeros
version_put : (n : ℕ) (c : List ℕ) (at : ℕ) → at + suc n ≤ length c → HasBytesAt c at (replicate (suc n) 0) → HasBytesAt (overlaid c at (VERSION ∷ [])) at (VERSION ∷ replicate n 0)
version_put n [] at inside has = absurd (omega (arith, inside))
version_put n (x ∷ c) zero inside has =
    let behind : take (length (replicate {A = ℕ} n 0)) c ≡ replicate n 0 = ap (λ (l : List ℕ). drop 1 l) has in
    ap (λ (l : List ℕ). VERSION ∷ take (length (replicate {A = ℕ} n 0)) l) (nothing_over c 0) ∙ ap (λ (l : List ℕ). VERSION ∷ l) behind
version_put n (x ∷ c) (suc at) inside has = version_put n c at (omega (arith, inside)) has

version_there : (g : Geometry) (c : List ℕ) (at : ℕ) → at + image_size g ≤ length c → HasBytesAt c at (replicate (image_size g) 0)
    → HasBytesAt (overlaid c at (VERSION ∷ [])) at (VERSION ∷ replicate (image_size g - 1) 0)
version_there g c at inside has =
    let some = image_some g in
    let count : image_size g ≡ suc (image_size g - 1) = omega (arith, some) in
    version_put (image_size g - 1) c at (omega (arith, inside, some)) (subst (λ (n : ℕ). HasBytesAt c at (replicate n 0)) count has)

-- the ranges of an empty device, written one after the other
pub laid_out : (g : Geometry) (c : List ℕ) → device_size (layout_of g) ≤ length c
    → IsAllButHeader g (overlaid (overlaid (overlaid (overlaid c 64 (replicate (64 + (64 + g.half)) 0)) (part_at (layout_of g) 3)
    (replicate (64 + g.half) 0)) (part_at (layout_of g) 4) (replicate (image_size g) 0)) (part_at (layout_of g) 4) (VERSION ∷ []))
laid_out g c long =
    let zeros_0 : List ℕ = replicate (64 + (64 + g.half)) 0 in
    let zeros_1 : List ℕ = replicate (64 + g.half) 0 in
    let zeros_2 : List ℕ = replicate (image_size g) 0 in
    let long_0 = length-replicate {A = ℕ} (64 + (64 + g.half)) 0 in
    let long_1 = length-replicate {A = ℕ} (64 + g.half) 0 in
    let at_1 : ℕ = part_at (layout_of g) 3 in
    let at_2 : ℕ = part_at (layout_of g) 4 in
    let c1 = overlaid c 64 zeros_0 in
    let c2 = overlaid c1 at_1 zeros_1 in
    let c3 = overlaid c2 at_2 zeros_2 in
    let c4 = overlaid c3 at_2 (VERSION ∷ []) in
    let size_1 : length c1 ≡ length c = length-overlaid c 64 zeros_0 in
    let size_2 : length c2 ≡ length c1 = length-overlaid c1 at_1 zeros_1 in
    let root_1 : HasBytesAt c1 64 zeros_0 = has_put c 64 zeros_0 (omega (arith, long, long_0)) in
    let root_2 : HasBytesAt c2 64 zeros_0 = has_kept 64 (inl (omega (arith, long_0))) (overlaid_outside c1 at_1 zeros_1) root_1 in
    let root_3 : HasBytesAt c3 64 zeros_0 = has_kept 64 (inl (omega (arith, long_0))) (overlaid_outside c2 at_2 zeros_2) root_2 in
    let one_2 : HasBytesAt c2 at_1 zeros_1 = has_put c1 at_1 zeros_1 (omega (arith, long, long_1, size_1)) in
    let one_3 : HasBytesAt c3 at_1 zeros_1 = has_kept at_1 (inl (omega (arith, long_1))) (overlaid_outside c2 at_2 zeros_2) one_2 in
    let image_3 : HasBytesAt c3 at_2 zeros_2 = has_put c2 at_2 zeros_2 (omega (arith, long, length-replicate {A = ℕ} (image_size g) 0, size_1, size_2)) in
    record {
      root = has_kept 64 (inl (omega (arith, long_0))) (overlaid_outside c3 at_2 (VERSION ∷ [])) root_3;
      one = has_kept at_1 (inl (omega (arith, long_1))) (overlaid_outside c3 at_2 (VERSION ∷ [])) one_3;
      image = version_there g c3 at_2 (omega (arith, long, size_1, size_2, length-overlaid c2 at_2 zeros_2)) image_3;
    }
