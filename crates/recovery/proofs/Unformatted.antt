-- A device that isn't formatted, and the writes of the format byte.
use Rattle.std.proofs.Common.{◌≡◌, ◌≢◌, ◌⊎◌, ℕ, ◌+◌, ◌-◌, ◌<◌, ◌≤◌, List, [], ◌∷◌, length, take, drop, get_or, slice_range, inl, inr, ⊎_elim, refl, sym, ◌∙◌, ap, subst, arith}
use Rattle.std.proofs.lemmas.Bool.{cases_eq}
use Rattle.std.proofs.lemmas.List.{get_or-take}
use Rattle.recovery.specs.Formatting.{HasNoFormatByte, StaysUnformatted}
use Rattle.recovery.specs.Refusals.{IsUnformatted}
use Rattle.disk.specs.CrashImages.{AreBytes, IsCrashImage, CrashImagesAre, CrashesChangeOnly}
use Rattle.disk.specs.Device.{Medium, IsSynced, SameOutside, synced}
use Rattle.disk.proofs.IsSynced.{synced_left}
use Rattle.disk.proofs.IsTornFrom.{itself}
use Rattle.disk.proofs.CrashImagesAre.{started, then, weaker}
use Rattle.disk.proofs.SameOutside.{same_item}
use Rattle.disk.proofs.Overlays.{item-overlaid, length-overlaid}
use Rattle.disk.specs.Store.{Stored}

-- lists that differ at most in their first item, and have the same first item, are equal
pub same_first : (xs ys : List ℕ) → SameOutside 0 1 xs ys → get_or ys 0 0 ≡ get_or xs 0 0 → ys ≡ xs
same_first [] [] same first = refl
same_first [] (y ∷ ys) same first = absurd (omega (arith, same.size))
same_first (x ∷ xs) [] same first = absurd (omega (arith, same.size))
same_first (x ∷ xs) (y ∷ ys) same first = λ i. first i ∷ same.after i

-- A format byte of 1 is written over: the bytes are the old ones, or the first byte isn't 1.
pub torn_gate : (old c : List ℕ) → get_or old 0 0 ≡ 1 → SameOutside 0 1 old c → (c ≡ old) ⊎ HasNoFormatByte (length old) c
torn_gate old c was same =
    ⊎_elim
    (λ (is_formatted : get_or c 0 0 ≡ 1). inl (same_first old c same (is_formatted ∙ sym was)))
    (λ (shut : get_or c 0 0 ≢ 1). inr (record { size = same.size; first_byte = shut }))
    (cases_eq (get_or c 0 0) 1)

-- what a crash may leave of a device of which nothing is unsynced, and whose first byte is not 1
pub synced_shut : (n : ℕ) (m : Medium) → IsSynced m → length m.now ≡ n → get_or m.now 0 0 ≢ 1 → StaysUnformatted n m
synced_shut n m synced long shut c left =
    let is : c ≡ m.now = synced_left m c synced left in
    record { size = ap length is ∙ long; first_byte = λ is_formatted. shut (sym (ap (λ (l : List ℕ). get_or l 0 0) is) ∙ is_formatted) }

-- the format byte once 0 is stored there
pub stored_shut : (n : ℕ) (w0 w1 : Medium) → 0 < length w0.now → length w0.now ≡ n → Stored 0 (0 ∷ []) w0 w1 → StaysUnformatted n w1
stored_shut n w0 w1 some long stored =
    synced_shut n w1 stored.synced (ap length stored.now ∙ length-overlaid w0.now 0 (0 ∷ []) ∙ long)
    (λ is_formatted. let zero : get_or w1.now 0 0 ≡ 0 = ap (λ (l : List ℕ). get_or l 0 0) stored.now ∙ item-overlaid w0.now 0 0 0 [] some in absurd (omega (arith, zero, is_formatted)))

-- While a format byte of 1 is cleared, behind a sync: the old device, or one that isn't formatted.
pub shutting : {w0 w1 w2 : Medium} → AreBytes w0.now → IsSynced w1 → w1.now ≡ w0.now → get_or w1.now 0 0 ≡ 1
    → CrashImagesAre w0 w1 (λ c. IsCrashImage w0 c ⊎ HasNoFormatByte (length w0.now) c) → CrashesChangeOnly w1 w2 (SameOutside 0 1)
    → CrashImagesAre w0 w2 (λ c. IsCrashImage w0 c ⊎ HasNoFormatByte (length w0.now) c)
shutting {w0} {w1} {w2} are synced kept was begun moments =
    then w0 w1 w2 _ begun
    (weaker w1 w2 _ _ moments
    (λ c after.
    let is : after.old ≡ w0.now = synced_left w1 after.old synced after.left ∙ kept in
    ⊎_elim
    (λ (same : c ≡ w0.now). inl (subst (λ (l : List ℕ). IsCrashImage w0 l) (sym same) (itself w0.now w0.unsynced are)))
    (λ (shut : HasNoFormatByte (length w0.now) c). inr shut)
    (torn_gate w0.now c (sym (ap (λ (l : List ℕ). get_or l 0 0) kept) ∙ was) (subst (λ (l : List ℕ). SameOutside 0 1 l c) is after.change))))

-- What is written behind the format byte of a device that isn't formatted leaves it unformatted.
pub still_shut : (n : ℕ) (w0 w1 : Medium) (at k : ℕ) → 1 ≤ at → StaysUnformatted n w0 → CrashesChangeOnly w0 w1 (SameOutside at k) → CrashImagesAre w0 w1 (HasNoFormatByte n)
still_shut n w0 w1 at k behind shut moments =
    weaker w0 w1 _ _ moments
    (λ c after.
    let was = shut after.old after.left in
    record { size = after.change.size ∙ was.size; first_byte = λ is_formatted. was.first_byte (sym (same_item at k after.old c after.change 0 0 (omega (arith, behind))) ∙ is_formatted) })

pub shut_unformatted : (n : ℕ) (c : List ℕ) → 128 ≤ n → HasNoFormatByte n c → IsUnformatted c
shut_unformatted n c long shut =
    (omega (arith, long, shut.size), λ marks. shut.first_byte (sym (get_or-take 8 c 0 0 (omega arith)) ∙ ap (λ (l : List ℕ). get_or l 0 0) marks))

-- before the first call
pub begun : (m : Medium) → CrashImagesAre m m (λ c. IsCrashImage m c ⊎ HasNoFormatByte (length m.now) c)
begun m = started m _ (λ c left. inl left)

-- what one read of the first byte shows
pub first_read : (now out : List ℕ) → length out ≡ 1 → out ≡ slice_range now 0 (0 + length out) → get_or now 0 0 ≡ get_or out 0 0
first_read now out one is =
    sym (get_or-take 1 now 0 0 (omega arith)) ∙ sym (ap (λ (n : ℕ). get_or (take (0 + n - 0) (drop 0 now)) 0 0) one) ∙ sym (ap (λ (l : List ℕ). get_or l 0 0) is)

-- the device after a sync and a read of its first byte, both done
module _ (w0 m w1 : Medium) (out : List ℕ) (syncs : m ≡ synced w0) (reads : (w1 ≡ m) × (out ≡ slice_range m.now 0 (0 + length out))) (one : length out ≡ 1) where
  pub now_synced : IsSynced w1
  now_synced = subst (λ (m : Medium). IsSynced m) (sym (reads.0 ∙ syncs)) refl

  pub now_kept : w1.now ≡ w0.now
  now_kept = ap (λ (m : Medium). m.now) (reads.0 ∙ syncs)

  pub now_read : get_or w1.now 0 0 ≡ get_or out 0 0
  now_read = ap (λ (m : Medium). get_or m.now 0 0) reads.0 ∙ first_read m.now out one reads.1
