-- A device that recovers to a state has the header of one geometry.
use Rattle.std.proofs.Common.{◌≡◌, ◌&&◌, nat_le, length, ℕ, zero, suc, Bool, true, false, cond, List, [], take, drop, Option, Some, None, refl, sym, ◌∙◌, arith}
use Rattle.std.proofs.lemmas.Slice.Eq.{bytes_eq-Decides}
use Rattle.affinity.specs.declared.geometry.Geometry.{Geometry}
use Rattle.affinity.specs.Geometry.{numbers_of}
use Rattle.affinity.proofs.GeometryLemmas.{geometry_same}
use Rattle.byteorder.specs.Endian.{IsRead, little_number}
use Rattle.recovery.specs.Header.{HasHeader, header_of, is_header}
use Rattle.recovery.specs.Recovery.{recovered_state, decoding}
use Rattle.recovery.proofs.Heads.{numbers_there, two_bytes}
use Rattle.device_map.specs.Layout.{device_size, header_part, layout_of, part_bytes}
use Rattle.oplog.specs.Recovery.{is_laid_out}
use Rattle.meaning.specs.State.{State}

numbers_again : (g : Geometry) → IsRead little_number 2 (take 16 (drop 8 (header_of g))) (numbers_of g)
numbers_again g zero few = sym (two_bytes g.aggregates [] (omega (arith, g.aggregates_range)))
numbers_again g (suc zero) few = sym (two_bytes g.volumes [] (omega (arith, g.volumes_range)))
numbers_again g (suc (suc zero)) few = sym (two_bytes g.stripes [] (omega (arith, g.stripes_range)))
numbers_again g (suc (suc (suc zero))) few = sym (two_bytes g.width [] (omega (arith, g.width_range)))
numbers_again g (suc (suc (suc (suc zero)))) few = sym (two_bytes g.files [] (omega (arith, g.files_range)))
numbers_again g (suc (suc (suc (suc (suc zero))))) few = sym (two_bytes g.blocks [] (omega (arith, g.blocks_range)))
numbers_again g (suc (suc (suc (suc (suc (suc zero)))))) few = sym (two_bytes g.quota [] (omega (arith, g.quota_range)))
numbers_again g (suc (suc (suc (suc (suc (suc (suc zero))))))) few = sym (two_bytes g.half [] (omega (arith, g.half_range)))
numbers_again g (suc (suc (suc (suc (suc (suc (suc (suc k)))))))) few = absurd (omega (arith, few))

pub same_geometry : (g h : Geometry) → header_of g ≡ header_of h → g ≡ h
same_geometry g h is = geometry_same g h (numbers_there h (header_of g) (numbers_of g) is refl (numbers_again g))

first_true : (a b c : Bool) → (a && b && c) ≡ true → a ≡ true
first_true true b c is = refl
first_true false b c is = is

pub laid_where : (t : Bool) (y : Option State) (x : State) → cond t y None ≡ Some x → t ≡ true
laid_where true y x is = refl
laid_where false y x is = cc

pub one_geometry : (g h : Geometry) (c : List ℕ) → HasHeader g c → (x : State) → recovered_state h c ≡ Some x → g ≡ h
one_geometry g h c head x is =
    let laid : is_laid_out (decoding h) (layout_of h) c ≡ true = laid_where (is_laid_out (decoding h) (layout_of h) c) _ x is in
    let there : is_header h (part_bytes (layout_of h) header_part c) ≡ true =
    first_true (is_header h (part_bytes (layout_of h) header_part c)) (nat_le (device_size (layout_of h)) (length c)) _ laid in
    same_geometry g h (sym head ∙ (bytes_eq-Decides (part_bytes (layout_of h) header_part c) (header_of h)).0 there)
