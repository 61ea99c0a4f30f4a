-- A device that recovers to a state isn't refused.
use Rattle.std.proofs.Common.{◌≡◌, ⊎_elim, ℕ, ◌≤◌, ◌==◌, ◌&&◌, ◌++◌, nat_le, not, true, false, List, length, Option, Some, None, is_some, refl, sym, ◌∙◌, ap}
use Rattle.std.proofs.lemmas.Bool.{and_parts, cases_Bool, cond-true, cond-false, leb-true, not-true}
use Rattle.std.proofs.lemmas.Slice.Eq.{bytes_eq-Decides}
use Rattle.affinity.specs.declared.geometry.Geometry.{Geometry}
use Rattle.recovery.specs.Header.{HasHeader, header_of, is_header}
use Rattle.recovery.specs.NamedHolds.{are_both_chained}
use Rattle.recovery.specs.OpenFaults.{image_fault}
use Rattle.recovery.specs.Recovery.{recovered_state, decoding}
use Rattle.recovery.specs.Refusals.{refused}
use Rattle.recovery.proofs.NamedHolds.{image_fine}
use Rattle.recovery.proofs.OneGeometry.{laid_where}
use Rattle.recovery.proofs.Refusals.{in_force_fault, alone_sound, both_sound, not_refused}
use Rattle.disk.specs.CrashImages.{AreBytes}
use Rattle.image.specs.Image.{image_state}
use Rattle.oplog.specs.HalfContent.{chain, front}
use Rattle.device_map.specs.Layout.{Layout, layout_of, device_size, header_part, image_part, other, part_bytes}
use Rattle.oplog.specs.Recovery.{in_force, is_laid_out, named_area, run}
use Rattle.oplog.proofs.SameRecovery.{named_area-below, run-append}
use Rattle.meaning.specs.State.{State}

-- Records lead to a state only from a state.
some_before : (g : Geometry) (o : Option State) (rs : List (List ℕ)) (x : State) → run (decoding g) o rs ≡ Some x → (y : State) × (o ≡ Some y)
some_before g None rs x ran = cc
some_before g (Some y) rs x ran = (y, refl)

module _ (g : Geometry) (c : List ℕ) (x : State) (are : AreBytes c) (recovered_before : recovered_state g c ≡ Some x) where
  abbrev l : Layout
  l = layout_of g

  abbrev n : ℕ
  n = named_area l c

  laid : is_laid_out (decoding g) l c ≡ true
  laid = laid_where (is_laid_out (decoding g) l c) _ x recovered_before

  tests : ((is_header g (part_bytes l header_part c) && nat_le (device_size l) (length c)) ≡ true) × (not (are_both_chained l c) ≡ true)
  tests = and_parts (is_header g (part_bytes l header_part c) && nat_le (device_size l) (length c)) (not (are_both_chained l c)) laid

  pub has_header : HasHeader g c
  has_header = (bytes_eq-Decides (part_bytes l header_part c) (header_of g)).0 (and_parts (is_header g (part_bytes l header_part c)) (nat_le (device_size l) (length c)) tests.0).0

  whole : device_size l ≤ length c
  whole = leb-true (device_size l) (length c) (and_parts (is_header g (part_bytes l header_part c)) (nat_le (device_size l) (length c)) tests.0).1

  one : are_both_chained l c ≡ false
  one = not-true (are_both_chained l c) tests.1

  ran : run (decoding g) (image_state g (part_bytes l (image_part n) c)) (in_force l n c) ≡ Some x
  ran = sym (cond-true (is_laid_out (decoding g) l c) (run (decoding g) (image_state g (part_bytes l (image_part n) c)) (in_force l n c)) None laid) ∙ recovered_before

  first : (y : State) × (image_state g (part_bytes l (image_part n) c) ≡ Some y)
  first = some_before g (image_state g (part_bytes l (image_part n) c)) (in_force l n c) x ran

  good : image_fault g (part_bytes l (image_part n) c) ≡ None
  good = image_fine g n c (named_area-below l c) whole are (ap (λ (o : Option State). is_some o) first.1)

  from_first : run (decoding g) (Some first.0) (in_force l n c) ≡ Some x
  from_first = ap (λ (o : Option State). run (decoding g) o (in_force l n c)) (sym first.1) ∙ ran

  in_force_fine : in_force_fault g first.0 n c ≡ None
  in_force_fine = ⊎_elim
      (λ (chained : (chain l n c == 1) ≡ true).
      let both : run (decoding g) (run (decoding g) (Some first.0) (front l n c)) (front l (other n) c) ≡ Some x =
      sym (run-append (decoding g) (Some first.0) (front l n c) (front l (other n) c))
      ∙ ap (λ (rs : List (List ℕ)). run (decoding g) (Some first.0) rs) (sym (cond-true (chain l n c == 1) (front l n c ++ front l (other n) c) (front l n c) chained))
      ∙ from_first in
      let mid = some_before g (run (decoding g) (Some first.0) (front l n c)) (front l (other n) c) x both in
      both_sound g first.0 n c mid.0 mid.1 chained x
      (ap (λ (o : Option State). run (decoding g) o (front l (other n) c)) (sym mid.1) ∙ both))
      (λ (alone : (chain l n c == 1) ≡ false).
      alone_sound g first.0 n c x
      (ap (λ (rs : List (List ℕ)). run (decoding g) (Some first.0) rs) (sym (cond-false (chain l n c == 1) (front l n c ++ front l (other n) c) (front l n c) alone)) ∙ from_first)
      alone)
      (cases_Bool (chain l n c == 1))

  pub is_not_refused : refused g c ≡ None
  is_not_refused = not_refused g c has_header whole n refl good first.0 first.1 one in_force_fine
