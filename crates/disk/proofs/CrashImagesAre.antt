-- What a crash leaves at any moment of a sequence of calls, as the sequence grows call by call.
use Rattle.std.proofs.lemmas.Grind.{common_steps}
use Rattle.std.proofs.Common.{◌≡◌, ◌≤◌, ℕ, List, [], ◌∷◌, length, inl, ⊎_elim, arith}
use Rattle.disk.specs.CrashImages.{AreBytes, IsCrashImage, LeftByMoments, left_since, CrashImagesAre}
use Rattle.disk.specs.Device.{Moment, Medium, moments, moment_number}

-- no moment comes after the newest
none_later : (ms : List Moment) (t : ℕ) (c : List ℕ) → length ms ≤ t → LeftByMoments ms t c → ⊥
none_later [] t c late since = since
none_later (m ∷ earlier) t c late since = grind (arith, common_steps, none_later earlier t c)

-- what a crash may leave now is among what one might have left since moment t, if t isn't later than now
pub counts_now : (m : Medium) (t : ℕ) (c : List ℕ) → t ≤ moment_number m → IsCrashImage m c → left_since m t c
counts_now m t c late left = inl (late, left)

-- what is left since the present moment is what a crash may leave now: there is no later moment
pub only_now : (m : Medium) (c : List ℕ) → left_since m (moment_number m) c → IsCrashImage m c
only_now m c since = ⊎_elim (λ (here : (moment_number m ≤ moment_number m) × IsCrashImage m c). here.1) (λ earlier. absurd (none_later m.past (moment_number m) c (omega arith) earlier)) since

-- before the first call
pub started : (m : Medium) (P : List ℕ → Type 0) → ((c : List ℕ) → IsCrashImage m c → P c) → CrashImagesAre m m P
started m P here = grind (arith, common_steps, only_now)

-- one call more, which adds a moment
pub next : (old mid new : Medium) (P : List ℕ → Type 0) → CrashImagesAre old mid P → new.past ≡ moments mid → ((c : List ℕ) → IsCrashImage new c → P c) → CrashImagesAre old new P
next old mid new P so_far past here = grind (arith, common_steps)

-- one call more, which adds no moment: what a crash leaves, now or earlier, is as before
pub same : (old mid new : Medium) (P : List ℕ → Type 0) → CrashImagesAre old mid P → moments new ≡ moments mid → CrashImagesAre old new P
same old mid new P so_far unchanged = grind (arith, common_steps)

-- what has P at each moment has Q, if P implies Q
pub weaker : (old new : Medium) (P Q : List ℕ → Type 0) → CrashImagesAre old new P → ((c : List ℕ) → P c → Q c) → CrashImagesAre old new Q
weaker old new P Q so_far enough = grind (arith, common_steps)

-- one sequence of calls after another
pub then : (old mid new : Medium) (P : List ℕ → Type 0) → CrashImagesAre old mid P → CrashImagesAre mid new P → CrashImagesAre old new P
then old mid new P first second = grind (arith, common_steps)

-- what a crash leaves at the end
pub leaves_now : (old new : Medium) (P : List ℕ → Type 0) → CrashImagesAre old new P → (c : List ℕ) → IsCrashImage new c → P c
leaves_now old new P so_far c left = so_far.each c (counts_now new (moment_number old) c so_far.later left)

some_bytes : (ms : List Moment) (t : ℕ) (c : List ℕ) → LeftByMoments ms t c → AreBytes c
some_bytes [] t c since = absurd since
some_bytes (m ∷ earlier) t c since = grind (arith, common_steps, some_bytes earlier t c)

-- what a crash leaves at any moment are bytes
pub bytes_since : (m : Medium) (t : ℕ) (c : List ℕ) → left_since m t c → AreBytes c
bytes_since m t c since = some_bytes (moments m) t c since
