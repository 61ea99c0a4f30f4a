-- What the first bytes of a device and of an image show.
use Rattle.std.proofs.Common.{◌≡◌, ℕ, zero, suc, ◌<◌, ◌≤◌, ◌&&◌, List, [], ◌++◌, length, take, drop, get_or, replicate, sym, ◌∙◌, ap, subst, arith}
use Rattle.std.specs.List.{flat_map}
use Rattle.std.specs.Str.{bytes_eq}
use Rattle.std.proofs.lemmas.Grind.{same_number_lists}
use Rattle.std.proofs.lemmas.List.{get_or-take, take-take, take_all}
use Rattle.affinity.specs.declared.geometry.Geometry.{Geometry}
use Rattle.affinity.specs.Geometry.{numbers_of}
use Rattle.byteorder.specs.Endian.{IsRead, little_bytes, little_number}
use Rattle.recovery.specs.Header.{header_of, magic}
use Rattle.image.specs.Image.{has_head, image_head, is_version, version_in}
use Rattle.recovery.proofs.LaidOut.{image_some}
use Rattle.device_map.specs.Layout.{image_part, layout_of, part_bytes, part_at, part_size, slice}
use Rattle.oplog.proofs.PartLemmas.{image_sized}

-- ---- a header

pub two_bytes : (n : ℕ) (rest : List ℕ) → n < 65536 → little_number 2 (little_bytes 2 n ++ rest) ≡ n
two_bytes n rest small = omega (arith, small)

pub numbers_there : (g : Geometry) (header numbers : List ℕ) → header ≡ header_of g → length numbers ≡ 8 → IsRead little_number 2 (take 16 (drop 8 header)) numbers → numbers ≡ numbers_of g
numbers_there g header numbers is size read =
    let there : IsRead little_number 2 (take 16 (drop 8 (header_of g))) numbers = subst (λ (l : List ℕ). IsRead little_number 2 (take 16 (drop 8 l)) numbers) is read in
    same_number_lists numbers (numbers_of g) size (λ k few. by g numbers there k (subst (λ (n : ℕ). k < n) size few) few)
  where
    by : (g : Geometry) (numbers : List ℕ) → IsRead little_number 2 (take 16 (drop 8 (header_of g))) numbers → (k : ℕ) → k < 8 → k < length numbers → get_or numbers k 0 ≡ get_or (numbers_of g) k 0
    by g numbers there zero small few = there 0 few ∙ two_bytes g.aggregates [] (omega (arith, g.aggregates_range))
    by g numbers there (suc zero) small few = there 1 few ∙ two_bytes g.volumes [] (omega (arith, g.volumes_range))
    by g numbers there (suc (suc zero)) small few = there 2 few ∙ two_bytes g.stripes [] (omega (arith, g.stripes_range))
    by g numbers there (suc (suc (suc zero))) small few = there 3 few ∙ two_bytes g.width [] (omega (arith, g.width_range))
    by g numbers there (suc (suc (suc (suc zero)))) small few = there 4 few ∙ two_bytes g.files [] (omega (arith, g.files_range))
    by g numbers there (suc (suc (suc (suc (suc zero))))) small few = there 5 few ∙ two_bytes g.blocks [] (omega (arith, g.blocks_range))
    by g numbers there (suc (suc (suc (suc (suc (suc zero)))))) small few = there 6 few ∙ two_bytes g.quota [] (omega (arith, g.quota_range))
    by g numbers there (suc (suc (suc (suc (suc (suc (suc zero))))))) small few = there 7 few ∙ two_bytes g.half [] (omega (arith, g.half_range))
    by g numbers there (suc (suc (suc (suc (suc (suc (suc (suc k)))))))) small few = absurd (omega (arith, small))

-- geometries with the same numbers have the same header
pub same_header : (g h : Geometry) → numbers_of g ≡ numbers_of h → header_of g ≡ header_of h
same_header g h same = ap (λ (ns : List ℕ). magic ++ flat_map (little_bytes 2) ns ++ replicate 40 0) same

-- ---- the first bytes of a part

pub first_of_part : (now : List ℕ) (at n size : ℕ) → n ≤ size → slice now at n ≡ take n (slice now at size)
first_of_part now at n size fits = sym (take-take n size (drop at now) fits)

-- ---- the head of an image

pub head_whole : (bytes : List ℕ) → length bytes ≡ 64 → has_head bytes ≡ (is_version (version_in bytes) && bytes_eq bytes (image_head (version_in bytes)))
head_whole bytes size = ap (λ (l : List ℕ). is_version (version_in bytes) && bytes_eq l (image_head (version_in bytes))) (take_all 64 bytes (omega (arith, size)))

pub version_first : (bytes : List ℕ) → version_in (take 64 bytes) ≡ version_in bytes
version_first bytes = get_or-take 64 bytes 0 0 (omega arith)

pub has_head_first : (bytes : List ℕ) → has_head (take 64 bytes) ≡ has_head bytes
has_head_first bytes = λ i. is_version (version_first bytes i) && bytes_eq (take-take 64 64 bytes (omega arith) i) (image_head (version_first bytes i))

pub head_there : (g : Geometry) (n at : ℕ) (now out : List ℕ) → n < 2 → at ≡ part_at (layout_of g) (image_part n) → out ≡ slice now at 64 → out ≡ take 64 (part_bytes (layout_of g) (image_part n) now)
head_there g n at now out is_image place is =
    is ∙ ap (λ (a : ℕ). slice now a 64) place
    ∙ first_of_part now (part_at (layout_of g) (image_part n)) 64 (part_size (layout_of g) (image_part n)) (omega (arith, image_sized (layout_of g) n is_image, image_some g))
