-- Sequences of calls that write ranges of a device.
use Rattle.std.proofs.Common.{◌≡◌, ℕ, zero, suc, ◌+◌, ◌≤◌, List, [], ◌∷◌, ◌++◌, length, take, replicate, refl, ◌∙◌, ap, arith}
use Rattle.std.proofs.lemmas.List.{length-replicate, replicate-append-replicate, take-replicate}
use Rattle.disk.specs.Device.{Medium, SameOutside, overlaid}
use Rattle.disk.proofs.CrashImagesAre.{leaves_now, started, then, weaker}
use Rattle.disk.proofs.SameOutside.{same_all, same_both, wider}
use Rattle.disk.specs.CrashImages.{CrashesChangeOnly}

-- What changes in a range changes in a wider one.
pub changed_within : {w0 w1 : Medium} {a k at n : ℕ} → a ≤ at → at + n ≤ a + k → CrashesChangeOnly w0 w1 (SameOutside at n) → CrashesChangeOnly w0 w1 (SameOutside a k)
changed_within {w0} {w1} {a} {k} {at} {n} below behind moments =
    weaker w0 w1 _ _ moments (λ c after. record { old = after.old; left = after.left; change = wider at n after.old c after.change a k below behind })

-- one sequence of calls after another
pub changed_then : {w0 w1 w2 : Medium} {a k : ℕ} → CrashesChangeOnly w0 w1 (SameOutside a k) → CrashesChangeOnly w1 w2 (SameOutside a k) → CrashesChangeOnly w0 w2 (SameOutside a k)
changed_then {w0} {w1} {w2} {a} {k} first second =
    then w0 w1 w2 _ first
    (weaker w1 w2 _ _ second
    (λ c after.
    let before = leaves_now w0 w1 _ first after.old after.left in
    record { old = before.old; left = before.left; change = same_both a k before.old after.old c before.change after.change }))

-- two writes, the second where the first one ends, are one write
overlaid-more : (xs : List ℕ) (at place : ℕ) (ys zs : List ℕ) → place ≡ at + length ys → overlaid (overlaid xs at ys) place zs ≡ overlaid xs at (ys ++ zs)
overlaid-more [] at place ys zs is = refl
overlaid-more (x ∷ xs) zero zero [] zs is = refl
overlaid-more (x ∷ xs) zero (suc place) (y ∷ ys) zs is = ap (λ (l : List ℕ). y ∷ l) (overlaid-more xs zero place ys zs (omega (arith, is)))
overlaid-more (x ∷ xs) (suc at) (suc place) ys zs is = ap (λ (l : List ℕ). x ∷ l) (overlaid-more xs at place ys zs (omega (arith, is)))
overlaid-more xs at place ys zs is = absurd (omega (arith, is))

pub zeros_more : (xs : List ℕ) (at done more : ℕ) → overlaid (overlaid xs at (replicate done 0)) (at + done) (replicate more 0) ≡ overlaid xs at (replicate (done + more) 0)
zeros_more xs at done more =
    overlaid-more xs at (at + done) (replicate done 0) (replicate more 0) (omega (arith, length-replicate {A = ℕ} done 0))
    ∙ ap (λ (l : List ℕ). overlaid xs at l) (replicate-append-replicate done more 0)

-- before the first call
pub nothing_changed : (m : Medium) (at n : ℕ) → CrashesChangeOnly m m (SameOutside at n)
nothing_changed m at n = started m _ (λ c left. record { old = c; left = left; change = same_all at n c })

-- the first of a row of zeros
pub some_zeros : (zeros : List ℕ) (n : ℕ) → zeros ≡ replicate (length zeros) 0 → n ≤ length zeros → take n zeros ≡ replicate n 0
some_zeros zeros n are few = ap (λ (l : List ℕ). take n l) are ∙ take-replicate n (length zeros) 0 few
