-- While a cut that was in progress is finished, a device that is refused is refused in the same way.
use Rattle.std.proofs.Common.{◌≡◌, ◌≢◌, ◌⊎◌, ◌<◌, ◌≤◌, ◌==◌, ◌&&◌, ℕ, zero, suc, Bool, true, false, List, length, get_or, Some, is_some, inl, inr, ⊎_elim, refl, sym, ◌∙◌, ap, subst, arith}
use Rattle.std.specs.Prelude.{if◌then◌else◌}
use Rattle.std.proofs.lemmas.Bool.{cases_eq}
use Rattle.affinity.specs.declared.geometry.Geometry.{Geometry}
use Rattle.recovery.specs.NamedHolds.{NamedHolds, are_both_chained}
use Rattle.recovery.specs.OpenFaults.{image_fault, records_fault}
use Rattle.recovery.specs.Recovery.{decoding}
use Rattle.recovery.specs.Refusals.{refused}
use Rattle.recovery.proofs.NamedHolds.{image_fine, refused_alone, refused_behind}
use Rattle.disk.specs.CrashImages.{AreBytes, CrashImagesAre, CrashesChangeOnly}
use Rattle.disk.specs.Device.{IsSynced, Medium}
use Rattle.disk.proofs.IsSynced.{synced_left}
use Rattle.disk.proofs.CrashImagesAre.{then, weaker}
use Rattle.image.specs.Image.{image_state}
use Rattle.checkpoint.specs.OpeningSteps.{IsRefusedAlike}
use Rattle.checkpoint.specs.Images.{Imaged}
use Rattle.oplog.specs.Changes.{IsSameBut, IsSameButRoot}
use Rattle.oplog.specs.HalfContent.{chain, chain_in, front, front_in}
use Rattle.device_map.specs.Layout.{device_size, half_part, header_part, image_part, layout_of, other, part_bytes, root_part}
use Rattle.oplog.specs.Recovery.{named_area, run}
use Rattle.oplog.proofs.SameRecovery.{named_area-below}
use Rattle.meaning.specs.State.{State}

-- Header, halves and one image are the same.
record AreSame (g : Geometry) (n : ℕ) (a c : List ℕ) : Type 0 where
  size : length c ≡ length a
  header : part_bytes (layout_of g) header_part c ≡ part_bytes (layout_of g) header_part a
  halves : (h : ℕ) → h < 2 → part_bytes (layout_of g) (half_part h) c ≡ part_bytes (layout_of g) (half_part h) a
  image : part_bytes (layout_of g) (image_part n) c ≡ part_bytes (layout_of g) (image_part n) a

module _ (g : Geometry) (n : ℕ) (is_area : n < 2) (a c : List ℕ) (same : AreSame g n a c) where
  chains_same : are_both_chained (layout_of g) c ≡ are_both_chained (layout_of g) a
  chains_same = λ i. (chain_in (same.halves 0 (omega arith) i) == 1) && (chain_in (same.halves 1 (omega arith) i) == 1)

  front_same : (h : ℕ) → h < 2 → front (layout_of g) h c ≡ front (layout_of g) h a
  front_same h is_half = ap (λ (l : List ℕ). front_in g.half l) (same.halves h is_half)

  held_same : (x : State) → named_area (layout_of g) c ≡ n → NamedHolds g a n true x → NamedHolds g c n true x
  held_same x names is = record {
    header = same.header ∙ is.header;
    long_enough = subst (λ (k : ℕ). device_size (layout_of g) ≤ k) (sym same.size) is.long_enough;
    named = sym names;
    chain = is.chain ∙ sym (ap (λ (l : List ℕ). chain_in l == 1) (same.halves n is_area));
    one = chains_same ∙ is.one;
    sound = ap (λ (l : List ℕ). image_fault g l) same.image ∙ is.sound;
    first = is.first;
    decoded = ap (λ (l : List ℕ). image_state g l) same.image ∙ is.decoded;
    ran = ap (λ rs. run (decoding g) (Some is.first) rs) (front_same n is_area) ∙ is.ran;
  }

  still_behind : (x : State) → named_area (layout_of g) c ≡ n → NamedHolds g a n true x → refused g c ≡ records_fault g x (other n) (front (layout_of g) (other n) a)
  still_behind x names is = refused_behind g c n x (held_same x names is) ∙ ap (λ rs. records_fault g x (other n) rs) (front_same (other n) (omega arith))

shut_other : (n : ℕ) (a b : Bool) → n < 2 → (a && b) ≡ false → (if n == 0 then a else b) ≡ true → (if n == 0 then b else a) ≡ false
shut_other zero true b is_area one here = one
shut_other (suc zero) false b is_area one here = refl
shut_other n a b is_area one here = absurd (first_of (cc, omega arith))

other_shut : (g : Geometry) (n : ℕ) (c : List ℕ) → n < 2 → are_both_chained (layout_of g) c ≡ false → (chain (layout_of g) n c == 1) ≡ true → (chain (layout_of g) (other n) c == 1) ≡ false
other_shut g zero c is_area one here = shut_other 0 (chain (layout_of g) 0 c == 1) (chain (layout_of g) 1 c == 1) is_area one here
other_shut g (suc zero) c is_area one here = shut_other 1 (chain (layout_of g) 0 c == 1) (chain (layout_of g) 1 c == 1) is_area one here
other_shut g (suc (suc n)) c is_area one here = absurd (omega (arith, is_area))

this_or_other : (n k : ℕ) → n < 2 → k < 2 → (k ≡ n) ⊎ (k ≡ other n)
this_or_other n k is_area below = ⊎_elim (λ (same : k ≡ n). inl same) (λ (differs : k ≢ n). inr (omega (arith, is_area, below, differs))) (cases_eq k n)

module _ (g : Geometry) (n : ℕ) (is_area : n < 2) (x : State) (w0 w1 : Medium) (synced : IsSynced w0) (is : NamedHolds g w0.now n true x) where
  beside : (a c : List ℕ) → IsSameBut (layout_of g) (image_part (other n)) a c → AreSame g n a c
  beside a c change = record {
    size = change.size;
    header = change.others header_part (λ same. omega (arith, same));
    halves = λ h is_half. change.others (half_part h) (λ same. omega (arith, same, is_half));
    image = change.others (image_part n) (λ same. omega (arith, same, is_area));
  }

  names_same : (a c : List ℕ) → IsSameBut (layout_of g) (image_part (other n)) a c → named_area (layout_of g) c ≡ named_area (layout_of g) a
  names_same a c change = ap (λ (l : List ℕ). if get_or l 0 0 == 1 then 1 else 0) (change.others root_part (λ same. omega (arith, same)))

  was : refused g w0.now ≡ records_fault g x (other n) (front (layout_of g) (other n) w0.now)
  was = refused_behind g w0.now n x is

  torn_image : (c : List ℕ) → IsSameBut (layout_of g) (image_part (other n)) w0.now c → IsRefusedAlike g w0.now c
  torn_image c change =
      let names = names_same w0.now c change ∙ sym is.named in
      let held = held_same g n is_area w0.now c (beside w0.now c change) x names is in
      record { header = held.header; refused = still_behind g n is_area w0.now c (beside w0.now c change) x names is ∙ sym was }

  pub image_alike : CrashesChangeOnly w0 w1 (IsSameBut (layout_of g) (image_part (other n))) → CrashImagesAre w0 w1 (IsRefusedAlike g w0.now)
  image_alike writes =
      weaker w0 w1 _ _ writes
      (λ c after. torn_image c (subst (λ (l : List ℕ). IsSameBut (layout_of g) (image_part (other n)) l c) (synced_left w0 after.old synced after.left) after.change))

  module _ (are : AreBytes w1.now) (bytes : List ℕ) (reads : image_state g bytes ≡ Some x) (imaged : Imaged g (other n) bytes w0 w1) where
    now_names : named_area (layout_of g) w1.now ≡ n
    now_names = names_same w0.now w1.now imaged.same ∙ sym is.named

    now_held : NamedHolds g w1.now n true x
    now_held = held_same g n is_area w0.now w1.now (beside w0.now w1.now imaged.same) x now_names is

    kept : (k : ℕ) (c : List ℕ) → k < 2 → IsSameButRoot (layout_of g) w1.now c → AreSame g k w1.now c
    kept k c is_image change = record {
      size = change.same.size;
      header = change.same.others header_part (λ same. omega (arith, same));
      halves = λ h is_half. change.same.others (half_part h) (λ same. omega (arith, same));
      image = change.same.others (image_part k) (λ same. omega (arith, same));
    }

    behind_same : front (layout_of g) (other n) w1.now ≡ front (layout_of g) (other n) w0.now
    behind_same = front_same g n is_area w0.now w1.now (beside w0.now w1.now imaged.same) (other n) (omega arith)

    by_named : (c : List ℕ) → IsSameButRoot (layout_of g) w1.now c → named_area (layout_of g) c ≡ n → refused g c ≡ refused g w0.now
    by_named c change names =
        still_behind g n is_area w1.now c (kept n c is_area change) x names now_held
        ∙ ap (λ rs. records_fault g x (other n) rs) behind_same ∙ sym was

    by_other : (c : List ℕ) → IsSameButRoot (layout_of g) w1.now c → named_area (layout_of g) c ≡ other n → refused g c ≡ refused g w0.now
    by_other c change names =
        let same = kept (other n) c (omega arith) change in
        let decoded : image_state g (part_bytes (layout_of g) (image_part (other n)) w1.now) ≡ Some x = ap (λ (l : List ℕ). image_state g l) imaged.is ∙ reads in
        let fine = image_fine g (other n) w1.now (omega arith) now_held.long_enough are (ap is_some decoded) in
        refused_alone g c (same.header ∙ now_held.header) (subst (λ (k : ℕ). device_size (layout_of g) ≤ k) (sym same.size) now_held.long_enough) (sym names)
        (ap (λ (l : List ℕ). image_fault g l) same.image ∙ fine) (ap (λ (l : List ℕ). image_state g l) same.image ∙ decoded)
        (ap (λ (l : List ℕ). chain_in l == 1) (same.halves (other n) (omega arith)) ∙ other_shut g n w1.now is_area now_held.one (sym now_held.chain))
        ∙ ap (λ rs. records_fault g x (other n) rs) (front_same g (other n) (omega arith) w1.now c same (other n) (omega arith) ∙ behind_same) ∙ sym was

    torn_root : (c : List ℕ) → IsSameButRoot (layout_of g) w1.now c → IsRefusedAlike g w0.now c
    torn_root c change = record {
      header = (kept n c is_area change).header ∙ now_held.header;
      refused = ⊎_elim (by_named c change) (by_other c change) (this_or_other n (named_area (layout_of g) c) is_area (named_area-below (layout_of g) c));
    }

    pub finish_alike : (w2 : Medium) → CrashesChangeOnly w0 w1 (IsSameBut (layout_of g) (image_part (other n))) → CrashesChangeOnly w1 w2 (IsSameButRoot (layout_of g))
        → CrashImagesAre w0 w2 (IsRefusedAlike g w0.now)
    finish_alike w2 writes flips =
        (then) w0 w1 w2 _ (image_alike writes)
        (weaker w1 w2 _ _ flips
        (λ c after. torn_root c (subst (λ (l : List ℕ). IsSameButRoot (layout_of g) l c) (synced_left w1 after.old imaged.synced after.left) after.change)))
