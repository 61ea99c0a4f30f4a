-- The tests of a device, one after the other, and what a device that passes all of them recovers to.
use Rattle.std.proofs.Common.{◌≡◌, ℕ, zero, suc, ◌+◌, ◌<◌, ◌≤◌, Bool, true, false, not, ◌&&◌, ◌==◌, List, [], ◌∷◌, ◌++◌, length, Option, Some, None, is_some, Result, Ok, Err, IfErr, inr, refl, sym, ◌∙◌, ap, arith, length-append}
use Rattle.std.specs.Prelude.{if◌then◌else◌, nat_le, nat_lt}
use Rattle.std.proofs.lemmas.Bool.{and_left, and_right, cond-false, cond-true, le-leb, le-ltb}
use Rattle.std.proofs.lemmas.Slice.Eq.{bytes_eq-Decides}
use Rattle.affinity.specs.declared.geometry.Geometry.{Geometry}
use Rattle.recovery.specs.declared.fault.OpenFault.{OpenFault}
use Rattle.recovery.specs.declared.fault.OpenFault.TheVariants.{Device, TooShort, NotFormatted, BadGeometry, OutOfMemory, BadVersion, BadPiece, BadChain, BadRecord}
use Rattle.recovery.specs.Header.{HasHeader, header_of, is_header}
use Rattle.recovery.specs.OpenFaults.{IsConsistentFault, IsOfHalf, IsOfHeader, image_fault, records_fault}
use Rattle.recovery.specs.NamedHolds.{are_both_chained}
use Rattle.recovery.specs.Recovery.{after_record, recovered_state, decoding}
use Rattle.recovery.specs.Refusals.{HasHeaderAndParts, IsRefused, fault_if, fault_or_later, first_bad_piece, first_bad_record, refused}
use Rattle.image.specs.Image.{has_head, image_state}
use Rattle.oplog.specs.HalfContent.{chain, front}
use Rattle.device_map.specs.Layout.{Layout, layout_of, device_size, header_part, image_part, other, part_bytes}
use Rattle.oplog.specs.Recovery.{in_force, is_laid_out, named_area, run}
use Rattle.oplog.proofs.SameRecovery.{run-append}
use Rattle.meaning.specs.State.{State}

-- If one test (o) gives only faults that several tests (p) give as well, an answer that is consistent with o is so with p.
pub fault_from : (o p : Option OpenFault) → ((e : OpenFault) → o ≡ Some e → p ≡ Some e) → (e : OpenFault) → IsConsistentFault o e → IsConsistentFault p e
fault_from o p gives Device is = tt
fault_from o p gives OutOfMemory is = tt
fault_from o p gives NotFormatted is = absurd is
fault_from o p gives BadGeometry is = absurd is
fault_from o p gives e is = gives e is

-- with area n named, the records in force are run on state x, one after the other: the fault of the first that can't be run
abbrev pub in_force_fault : Geometry → State → ℕ → List ℕ → Option OpenFault
in_force_fault g x n c =
    let l = layout_of g in
    fault_or_later (BadRecord n) (first_bad_record g 0 (Some x) (front l n c))
    (fault_or_later (BadRecord (other n))
    (first_bad_record g 0 (run (decoding g) (Some x) (front l n c)) (if chain l n c == 1 then front l (other n) c else [])) None)

-- ---- tests

first_if : (t : Bool) (f : OpenFault) (later : Option OpenFault) (e : OpenFault) → fault_if t f None ≡ Some e → fault_if t f later ≡ Some e
first_if true f later e is = is
first_if false f later e is = cc

first_of : (f : ℕ → OpenFault) (o : Option ℕ) (later : Option OpenFault) (e : OpenFault) → fault_or_later f o None ≡ Some e → fault_or_later f o later ≡ Some e
first_of f None later e is = cc
first_of f (Some n) later e is = is

two_first : (t : Bool) (f : OpenFault) (k : ℕ → OpenFault) (o : Option ℕ) (later : Option OpenFault) (e : OpenFault)
    → fault_if t f (fault_or_later k o None) ≡ Some e → fault_if t f (fault_or_later k o later) ≡ Some e
two_first true f k o later e is = is
two_first false f k o later e is = first_of k o later e is

two_none : (t : Bool) (f : OpenFault) (k : ℕ → OpenFault) (o : Option ℕ) (later : Option OpenFault) → fault_if t f (fault_or_later k o None) ≡ None → fault_if t f (fault_or_later k o later) ≡ later
two_none true f k o later is = cc
two_none false f k None later is = refl
two_none false f k (Some n) later is = cc

-- ---- the chain bytes

pub one_not : (l : Layout) (c : List ℕ) (n : ℕ) → n < 2 → (chain l n c == 1) ≡ false → are_both_chained l c ≡ false
one_not l c zero is_half is = and_left (chain l 0 c == 1) (chain l 1 c == 1) is
one_not l c (suc zero) is_half is = and_right (chain l 0 c == 1) (chain l 1 c == 1) is
one_not l c (suc (suc n)) is_half is = absurd (omega (arith, is_half))

pub both_are : (l : Layout) (c : List ℕ) (n : ℕ) → n < 2 → (chain l n c == 1) ≡ true → (chain l (other n) c == 1) ≡ true → are_both_chained l c ≡ true
both_are l c zero is_half here there = λ i. here i && there i
both_are l c (suc zero) is_half here there = λ i. there i && here i
both_are l c (suc (suc n)) is_half here there = absurd (omega (arith, is_half))

-- ---- the records in force

none_here : (g : Geometry) (rs : List (List ℕ)) (i : ℕ) (y : State) (o : Option State) → ((z : State) → run (decoding g) (Some z) rs ≡ Some y → first_bad_record g (suc i) (Some z) rs ≡ None)
    → run (decoding g) o rs ≡ Some y → (if is_some o then first_bad_record g (suc i) o rs else Some i) ≡ None
none_here g rs i y None later ran = cc
none_here g rs i y (Some z) later ran = later z ran

none_bad : (g : Geometry) (rs : List (List ℕ)) (i : ℕ) (o : Option State) (y : State) → run (decoding g) o rs ≡ Some y → first_bad_record g i o rs ≡ None
none_bad g rs i None y is = refl
none_bad g [] i (Some x) y is = refl
none_bad g (r ∷ rs) i (Some x) y is = none_here g rs i y (after_record g x r) (λ z ran. none_bad g rs (suc i) (Some z) y ran) is

module _ (g : Geometry) (x : State) (n : ℕ) (c : List ℕ) where
  abbrev l : Layout
  l = layout_of g

  abbrev pub behind : Bool → Option State → Option OpenFault
  behind chained o = fault_or_later (BadRecord (other n)) (first_bad_record g 0 o (if chained then front l (other n) c else [])) None

  pub named_refused : (e : OpenFault) → IsConsistentFault (records_fault g x n (front l n c)) e → IsConsistentFault (in_force_fault g x n c) e
  named_refused = fault_from _ _ (first_of (BadRecord n) (first_bad_record g 0 (Some x) (front l n c)) (behind (chain l n c == 1) (run (decoding g) (Some x) (front l n c))))

  -- once the records of the named half were run
  module _ (y : State) (ran : run (decoding g) (Some x) (front l n c) ≡ Some y) where
    pub named_sound : in_force_fault g x n c ≡ behind (chain l n c == 1) (Some y)
    named_sound =
        ap (λ (o : Option ℕ). fault_or_later (BadRecord n) o (behind (chain l n c == 1) (run (decoding g) (Some x) (front l n c)))) (none_bad g (front l n c) 0 (Some x) y ran)
        ∙ ap (λ (o : Option State). behind (chain l n c == 1) o) ran

    pub alone_sound : (chain l n c == 1) ≡ false → in_force_fault g x n c ≡ None
    alone_sound alone = named_sound ∙ ap (λ (t : Bool). behind t (Some y)) alone

    pub alone_count : (chain l n c == 1) ≡ false → length (front l n c) ≡ length (in_force l n c)
    alone_count alone = ap (λ (rs : List (List ℕ)). length rs) (sym (cond-false (chain l n c == 1) (front l n c ++ front l (other n) c) (front l n c) alone))

    pub alone_ran : (chain l n c == 1) ≡ false → run (decoding g) (Some x) (in_force l n c) ≡ Some y
    alone_ran alone = ap (λ (rs : List (List ℕ)). run (decoding g) (Some x) rs) (cond-false (chain l n c == 1) (front l n c ++ front l (other n) c) (front l n c) alone) ∙ ran

    pub other_refused : (chain l n c == 1) ≡ true → (e : OpenFault) → IsConsistentFault (records_fault g y (other n) (front l (other n) c)) e → IsConsistentFault (in_force_fault g x n c) e
    other_refused chained = fault_from _ _ (λ e is. named_sound ∙ ap (λ (t : Bool). behind t (Some y)) chained ∙ is)

    -- and then those of the other half
    module _ (chained : (chain l n c == 1) ≡ true) (z : State) (more : run (decoding g) (Some y) (front l (other n) c) ≡ Some z) where
      pub both_sound : in_force_fault g x n c ≡ None
      both_sound =
          named_sound ∙ ap (λ (t : Bool). behind t (Some y)) chained
          ∙ ap (λ (o : Option ℕ). fault_or_later (BadRecord (other n)) o None) (none_bad g (front l (other n) c) 0 (Some y) z more)

      both_there : in_force l n c ≡ front l n c ++ front l (other n) c
      both_there = cond-true (chain l n c == 1) (front l n c ++ front l (other n) c) (front l n c) chained

      pub both_count : length (front l n c) + length (front l (other n) c) ≡ length (in_force l n c)
      both_count = sym (ap (λ (rs : List (List ℕ)). length rs) both_there ∙ length-append (front l n c) (front l (other n) c))

      pub both_ran : run (decoding g) (Some x) (in_force l n c) ≡ Some z
      both_ran =
          ap (λ (rs : List (List ℕ)). run (decoding g) (Some x) rs) both_there ∙ run-append (decoding g) (Some x) (front l n c) (front l (other n) c)
          ∙ ap (λ (o : Option State). run (decoding g) o (front l (other n) c)) ran ∙ more

-- ---- an image

pub head_refused : (g : Geometry) (bytes : List ℕ) (e : OpenFault) → IsConsistentFault (fault_if (not (has_head bytes)) BadVersion None) e → IsConsistentFault (image_fault g bytes) e
head_refused g bytes = fault_from _ _ (first_if (not (has_head bytes)) BadVersion (fault_or_later BadPiece (first_bad_piece g bytes) None))

pub pieces_refused : (g : Geometry) (bytes : List ℕ) → has_head bytes ≡ true → (e : OpenFault)
    → IsConsistentFault (fault_or_later BadPiece (first_bad_piece g bytes) None) e → IsConsistentFault (image_fault g bytes) e
pieces_refused g bytes head = fault_from _ _ (λ e is. ap (λ (t : Bool). fault_if (not t) BadVersion (fault_or_later BadPiece (first_bad_piece g bytes) None)) head ∙ is)

-- ---- a device

pub refused_with : (g : Geometry) (c : List ℕ) → HasHeader g c → 128 ≤ length c → (e : OpenFault) → IsConsistentFault (refused g c) e → IsRefused c e
refused_with g c head long Device is = tt
refused_with g c head long OutOfMemory is = tt
refused_with g c head long NotFormatted is = absurd is
refused_with g c head long BadGeometry is = absurd is
refused_with g c head long TooShort is = inr (record { geometry = g; long = long; header = head; is = is })
refused_with g c head long e is = record { geometry = g; long = long; header = head; is = is }

module _ (g : Geometry) (c : List ℕ) (head : HasHeader g c) (long : device_size (layout_of g) ≤ length c) (n : ℕ) (names : n ≡ named_area (layout_of g) c) where
  abbrev bytes : List ℕ
  bytes = part_bytes (layout_of g) (image_part n) c

  records_of : ℕ → Option State → Option OpenFault
  records_of k o =
      fault_or_later (BadRecord k) (first_bad_record g 0 o (front (layout_of g) k c))
      (fault_or_later (BadRecord (other k)) (first_bad_record g 0 (run (decoding g) o (front (layout_of g) k c)) (if chain (layout_of g) k c == 1 then front (layout_of g) (other k) c else [])) None)

  behind_image : ℕ → Option OpenFault
  behind_image k = fault_if (are_both_chained (layout_of g) c) BadChain (records_of k (image_state g (part_bytes (layout_of g) (image_part k) c)))

  checks_of : ℕ → Option OpenFault
  checks_of k =
      fault_if (not (has_head (part_bytes (layout_of g) (image_part k) c))) BadVersion
      (fault_or_later BadPiece (first_bad_piece g (part_bytes (layout_of g) (image_part k) c)) (behind_image k))

  opened : refused g c ≡ checks_of n
  unfolding checks_of behind_image records_of
  opened = cond-false (nat_lt (length c) (device_size (layout_of g))) (Some TooShort) _ (le-ltb (length c) (device_size (layout_of g)) long) ∙ ap checks_of (sym names)

  enough : 128 ≤ length c
  enough = omega (arith, long)

  pub image_refused : (e : OpenFault) → IsConsistentFault (image_fault g bytes) e → IsRefused c e
  unfolding checks_of behind_image records_of
  image_refused e is =
      refused_with g c head enough e
      (fault_from _ _ (λ f it. opened ∙ two_first (not (has_head bytes)) BadVersion BadPiece (first_bad_piece g bytes) (behind_image n) f it) e is)

  -- once the image was read
  module _ (good : image_fault g bytes ≡ None) where
    past_image : refused g c ≡ behind_image n
    unfolding checks_of behind_image records_of
    past_image = opened ∙ two_none (not (has_head bytes)) BadVersion BadPiece (first_bad_piece g bytes) (behind_image n) good

    pub chain_refused : (e : OpenFault) → IsConsistentFault (fault_if (are_both_chained (layout_of g) c) BadChain None) e → IsRefused c e
    unfolding behind_image
    chain_refused e is =
        refused_with g c head enough e
        (fault_from _ _ (λ f it. past_image ∙ first_if (are_both_chained (layout_of g) c) BadChain (records_of n (image_state g bytes)) f it) e is)

    -- and no more than one half is chained
    module _ (x : State) (decoded : image_state g bytes ≡ Some x) (one : are_both_chained (layout_of g) c ≡ false) where
      pub past_chain : refused g c ≡ in_force_fault g x n c
      unfolding checks_of behind_image records_of
      past_chain = past_image ∙ cond-false (are_both_chained (layout_of g) c) (Some BadChain) (records_of n (image_state g bytes)) one ∙ ap (λ (o : Option State). records_of n o) decoded

      pub records_refused : (e : OpenFault) → IsConsistentFault (in_force_fault g x n c) e → IsRefused c e
      records_refused e is = refused_with g c head enough e (fault_from _ _ (λ f it. past_chain ∙ it) e is)

      pub not_refused : in_force_fault g x n c ≡ None → refused g c ≡ None
      not_refused is = past_chain ∙ is

      pub recovers_for : (y : State) → run (decoding g) (Some x) (in_force (layout_of g) n c) ≡ Some y → recovered_state g c ≡ Some y
      recovers_for y ran =
          let is_head : is_header g (part_bytes (layout_of g) header_part c) ≡ true = (bytes_eq-Decides (part_bytes (layout_of g) header_part c) (header_of g)).1 head in
          let whole : nat_le (device_size (layout_of g)) (length c) ≡ true = le-leb (device_size (layout_of g)) (length c) long in
          let laid_out : is_laid_out (decoding g) (layout_of g) c ≡ true = λ i. is_head i && whole i && not (one i) in
          ap (λ (k : ℕ). if is_laid_out (decoding g) (layout_of g) c
          then run (decoding g) (image_state g (part_bytes (layout_of g) (image_part k) c)) (in_force (layout_of g) k c) else None) (sym names)
          ∙ ap (λ (t : Bool). if t then run (decoding g) (image_state g bytes) (in_force (layout_of g) n c) else None) laid_out
          ∙ ap (λ (o : Option State). run (decoding g) o (in_force (layout_of g) n c)) decoded ∙ ran

-- ---- of which half a bad record is

-- the faults of the head and the pieces of an image name no record
pub image_half : (n : ℕ) (t : Bool) (o : Option ℕ) (e : OpenFault) → IsConsistentFault (fault_if t BadVersion (fault_or_later BadPiece o None)) e → IsOfHalf n e
image_half n true o (BadRecord h i) is = cc
image_half n false None (BadRecord h i) is = cc
image_half n false (Some k) (BadRecord h i) is = cc
image_half n t o e is = tt

-- nor is the fault of the chain bytes
pub chain_half : (n : ℕ) (t : Bool) (e : OpenFault) → IsConsistentFault (fault_if t BadChain None) e → IsOfHalf n e
chain_half n true (BadRecord h i) is = cc
chain_half n false (BadRecord h i) is = cc
chain_half n t e is = tt

-- a fault of the records of half n is of a record of half n
pub records_half : (n : ℕ) (o : Option ℕ) (e : OpenFault) → IsConsistentFault (fault_or_later (BadRecord n) o None) e → IsOfHalf n e
records_half n None (BadRecord h i) is = cc
records_half n (Some k) (BadRecord h i) is = sym (ap half_in is)
  where
    half_in : Option OpenFault → ℕ
    half_in (Some (BadRecord k j)) = k
    half_in _ = n
records_half n o e is = tt

-- the faults of the header name no record
pub header_half : (n : ℕ) (e : OpenFault) → IsOfHeader e → IsOfHalf n e
header_half n (BadRecord h i) is = absurd is
header_half n e is = tt

-- ---- no memory

-- Once the header was read, the device is known to have all its parts, even if memory lacks then.
pub behind_header : {T : Type 0} (r : Result T OpenFault) (keeps : Type 0) (c : List ℕ) → (keeps → HasHeaderAndParts c) → IfErr r (λ e. e ≡ OutOfMemory → keeps → HasHeaderAndParts c)
behind_header (Ok v) keeps c held = tt
behind_header (Err e) keeps c held = λ is. held
