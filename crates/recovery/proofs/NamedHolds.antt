-- For which records in force a device is refused, if the image of its named area has no fault.
use Rattle.std.proofs.Common.{◌≡◌, ◌+◌, ◌<◌, ◌≤◌, ◌==◌, ◌&&◌, ℕ, Bool, true, false, not, List, [], length, Option, Some, None, is_some, refl, sym, ◌∙◌, ap, arith}
use Rattle.std.specs.Prelude.{nat_le}
use Rattle.std.proofs.lemmas.Bool.{le-leb}
use Rattle.std.proofs.lemmas.Slice.Eq.{bytes_eq-Decides}
use Rattle.affinity.specs.declared.geometry.Geometry.{Geometry}
use Rattle.recovery.specs.declared.fault.OpenFault.{OpenFault}
use Rattle.recovery.specs.declared.fault.OpenFault.TheVariants.{BadVersion, BadPiece, BadRecord}
use Rattle.recovery.specs.Header.{HasHeader, header_of, is_header}
use Rattle.recovery.specs.OpenFaults.{IsConsistentFault, image_fault, records_fault}
use Rattle.recovery.specs.NamedHolds.{NamedHolds}
use Rattle.recovery.specs.Recovery.{decoding, recovered_state}
use Rattle.recovery.specs.Refusals.{IsRefused, fault_if, fault_or_later, first_bad_piece, first_bad_record, refused}
use Rattle.recovery.proofs.Refusals.{alone_count, alone_ran, alone_sound, behind, both_count, both_ran, both_sound, named_sound, not_refused, one_not, other_refused, past_chain, records_refused, recovers_for}
use Rattle.recovery.proofs.Replays.{same_bytes}
use Rattle.recovery.proofs.PieceWalk.{image_bytes, no_bad_piece}
use Rattle.disk.specs.CrashImages.{AreBytes}
use Rattle.disk.specs.Device.{Medium, moments}
use Rattle.image.specs.Image.{image_state}
use Rattle.image.proofs.GoodPieces.{read_is_good}
use Rattle.oplog.specs.HalfContent.{chain, front}
use Rattle.device_map.specs.Layout.{device_size, header_part, image_part, layout_of, other, part_bytes}
use Rattle.oplog.specs.Recovery.{in_force, is_laid_out, named_area, run}
use Rattle.oplog.proofs.SameRecovery.{named_area-below}
use Rattle.meaning.specs.State.{State}

-- an image that can be read has no fault
pub image_fine : (g : Geometry) (number : ℕ) (now : List ℕ) → number < 2 → device_size (layout_of g) ≤ length now → AreBytes now
    → is_some (image_state g (part_bytes (layout_of g) (image_part number) now)) ≡ true
    → image_fault g (part_bytes (layout_of g) (image_part number) now) ≡ None
image_fine g number now is_image long are some =
    let bytes = part_bytes (layout_of g) (image_part number) now in
    let good = read_is_good g bytes (image_bytes g number now is_image long are) some in
    ap (λ (t : Bool). fault_if (not t) BadVersion (fault_or_later BadPiece (first_bad_piece g bytes) None)) good.0
    ∙ ap (λ (o : Option ℕ). fault_or_later BadPiece o None) (no_bad_piece g bytes good.1)

-- where the named half is chained, and its records can be run: for those of the other half
pub refused_behind : (g : Geometry) (c : List ℕ) (n : ℕ) (x : State) → NamedHolds g c n true x → refused g c ≡ records_fault g x (other n) (front (layout_of g) (other n) c)
refused_behind g c n x is =
    past_chain g c is.header is.long_enough n is.named is.sound is.first is.decoded is.one ∙ named_sound g is.first n c x is.ran
    ∙ ap (λ (t : Bool). behind g is.first n c t (Some x)) (sym is.chain)

none_behind : (g : Geometry) (h : ℕ) (o : Option State) → fault_or_later (BadRecord h) (first_bad_record g 0 o []) None ≡ None
none_behind g h None = refl
none_behind g h (Some x) = refl

-- where the named half isn't chained: for its own records
pub refused_alone : (g : Geometry) (c : List ℕ) {n : ℕ} {x : State} → HasHeader g c → device_size (layout_of g) ≤ length c → n ≡ named_area (layout_of g) c
    → image_fault g (part_bytes (layout_of g) (image_part n) c) ≡ None → image_state g (part_bytes (layout_of g) (image_part n) c) ≡ Some x
    → (chain (layout_of g) n c == 1) ≡ false → refused g c ≡ records_fault g x n (front (layout_of g) n c)
refused_alone g c {n} {x} head long named good decoded shut =
    past_chain g c head long n named good x decoded (one_not (layout_of g) c n (omega (arith, named, named_area-below (layout_of g) c)) shut)
    ∙ ap (λ (t : Bool). fault_or_later (BadRecord n) (first_bad_record g 0 (Some x) (front (layout_of g) n c)) (behind g x n c t (run (decoding g) (Some x) (front (layout_of g) n c)))) shut
    ∙ ap (λ (o : Option OpenFault). fault_or_later (BadRecord n) (first_bad_record g 0 (Some x) (front (layout_of g) n c)) o)
    (none_behind g (other n) (run (decoding g) (Some x) (front (layout_of g) n c)))

-- ---- where the named half has no chain

module _ (g : Geometry) (c : List ℕ) (n : ℕ) (x : State) (is : NamedHolds g c n false x) where
  shut : (chain (layout_of g) n c == 1) ≡ false
  shut = sym is.chain

  pub alone_holds : recovered_state g c ≡ Some x
  alone_holds = recovers_for g c is.header is.long_enough n is.named is.sound is.first is.decoded is.one x (alone_ran g is.first n c x is.ran shut)

  pub alone_fine : refused g c ≡ None
  alone_fine = not_refused g c is.header is.long_enough n is.named is.sound is.first is.decoded is.one (alone_sound g is.first n c x is.ran shut)

-- ---- where the named half has a chain

module _ (g : Geometry) (c : List ℕ) (n : ℕ) (x : State) (is : NamedHolds g c n true x) where
  pub follows : (chain (layout_of g) n c == 1) ≡ true
  follows = sym is.chain

  pub laid_out : is_laid_out (decoding g) (layout_of g) c ≡ true
  laid_out =
      let is_head : is_header g (part_bytes (layout_of g) header_part c) ≡ true = (bytes_eq-Decides (part_bytes (layout_of g) header_part c) (header_of g)).1 is.header in
      let whole : nat_le (device_size (layout_of g)) (length c) ≡ true = le-leb (device_size (layout_of g)) (length c) is.long_enough in
      λ i. is_head i && whole i && not (is.one i)

  pub behind_refused : (e : OpenFault) → IsConsistentFault (records_fault g x (other n) (front (layout_of g) (other n) c)) e → IsRefused c e
  behind_refused e fault =
      records_refused g c is.header is.long_enough n is.named is.sound is.first is.decoded is.one e (other_refused g is.first n c x is.ran follows e fault)

  module _ (y : State) (more : run (decoding g) (Some x) (front (layout_of g) (other n) c) ≡ Some y) where
    pub behind_holds : recovered_state g c ≡ Some y
    behind_holds = recovers_for g c is.header is.long_enough n is.named is.sound is.first is.decoded is.one y (both_ran g is.first n c x is.ran follows y more)

    pub behind_fine : refused g c ≡ None
    behind_fine = not_refused g c is.header is.long_enough n is.named is.sound is.first is.decoded is.one (both_sound g is.first n c x is.ran follows y more)

-- ---- the same by an equal geometry, on the device before it was only read

pub held_before : {g h : Geometry} {n : ℕ} {t : Bool} {x : State} → (w0 w1 : Medium) → h ≡ g → moments w1 ≡ moments w0 → NamedHolds h w1.now n t x → NamedHolds g w0.now n t x
held_before {h = h} {n = n} {t = t} {x = x} w0 w1 same only held = rw (← same, ← same_bytes w0 w1 only) held

-- ---- all records in force, once they were run

-- The device isn't refused and recovers to the state x, and `count` records are in force on the image of area n.
pub record HoldsInForce (g : Geometry) (c : List ℕ) (n count : ℕ) (x : State) : Type 0 where
  pub accepted : refused g c ≡ None
  pub held : recovered_state g c ≡ Some x
  pub counted : count ≡ length (in_force (layout_of g) n c)

pub alone_in_force : (g : Geometry) (c : List ℕ) (n : ℕ) (x : State) → NamedHolds g c n false x → HoldsInForce g c n (length (front (layout_of g) n c)) x
alone_in_force g c n x is = record { accepted = alone_fine g c n x is; held = alone_holds g c n x is; counted = alone_count g is.first n c x is.ran (sym is.chain) }

pub both_in_force : (g : Geometry) (c : List ℕ) (n : ℕ) (x : State) → NamedHolds g c n true x → (y : State) → run (decoding g) (Some x) (front (layout_of g) (other n) c) ≡ Some y
    → HoldsInForce g c n (length (front (layout_of g) n c) + length (front (layout_of g) (other n) c)) y
both_in_force g c n x is y more =
    assumption (behind_fine g c n x is y more, behind_holds g c n x is y more, both_count g is.first n c x is.ran (sym is.chain) y more)
