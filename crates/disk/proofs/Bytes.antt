-- A part of a list of bytes is a list of bytes again, and so is one over which bytes are written.
use Rattle.std.proofs.Common.{ℕ, zero, suc, ◌<◌, List, [], ◌∷◌, length, take, drop, get_or}
use Rattle.std.specs.List.{AllByRecursion}
use Rattle.std.proofs.lemmas.List.Elements.{All-cons, All-head, All-tail, All-take, All-drop, All-get_or, All-from_get_or, recursion_from_All}
use Rattle.disk.specs.CrashImages.{AreBytes}
use Rattle.disk.specs.Device.{overlaid}

-- a range of them
pub bytes-range : (at n : ℕ) (xs : List ℕ) → AreBytes xs → AreBytes (take n (drop at xs))
bytes-range at n xs are = All-take (λ b. b < 256) n (drop at xs) (All-drop (λ b. b < 256) at xs are)

-- one of them
pub byte-get_or : (xs : List ℕ) (i d : ℕ) → i < length xs → AreBytes xs → get_or xs i d < 256
byte-get_or xs i d inside are = All-get_or (λ b. b < 256) xs i d inside are

-- numbers that are below 256 at each index are bytes
pub bytes_fit : (xs : List ℕ) → ((i : ℕ) → get_or xs i 0 < 256) → AreBytes xs
bytes_fit xs fits = All-from_get_or (λ b. b < 256) xs 0 (λ i inside. fits i)

-- `AreBytes`, by recursion on the list
pub bytes_by_recursion : (xs : List ℕ) → AreBytes xs → AllByRecursion (λ b. b < 256) xs
bytes_by_recursion xs are = recursion_from_All (λ b. b < 256) xs are

-- bytes written over bytes
pub bytes-overlaid : (xs : List ℕ) (at : ℕ) (items : List ℕ) → AreBytes xs → AreBytes items → AreBytes (overlaid xs at items)
bytes-overlaid [] at items are new = are
bytes-overlaid (x ∷ xs) zero [] are new = are
bytes-overlaid (x ∷ xs) zero (y ∷ items) are new =
    All-cons (λ b. b < 256) y (overlaid xs zero items) (All-head (λ b. b < 256) y items new)
    (bytes-overlaid xs zero items (All-tail (λ b. b < 256) x xs are) (All-tail (λ b. b < 256) y items new))
bytes-overlaid (x ∷ xs) (suc at) items are new =
    All-cons (λ b. b < 256) x (overlaid xs at items) (All-head (λ b. b < 256) x xs are) (bytes-overlaid xs at items (All-tail (λ b. b < 256) x xs are) new)
