-- Where nothing is unsynced, a crash leaves what a read gives.
use Rattle.std.proofs.lemmas.Grind.{common_steps}
use Rattle.std.proofs.Common.{◌≡◌, ℕ, ◌+◌, ◌≤◌, Bool, false, List, length, take, drop, replicate, subst, arith}
use Rattle.std.proofs.lemmas.List.{drop-replicate, take-replicate}
use Rattle.disk.specs.CrashImages.{SameButUnsynced, IsCrashImage}
use Rattle.disk.specs.Device.{IsSynced, Medium}
use Rattle.disk.proofs.IsTornFrom.{kept_same}

pub synced_left : (m : Medium) (c : List ℕ) → IsSynced m → IsCrashImage m c → c ≡ m.now
synced_left m c synced left = kept_same m.now (length m.now) c (omega arith) (subst (λ (l : List Bool). SameButUnsynced m.now l c) synced left.same)

-- where nothing is unsynced, nothing is in any range
pub synced_range : (at n : ℕ) (m : Medium) → IsSynced m → at + n ≤ length m.now → take n (drop at m.unsynced) ≡ replicate n false
synced_range at n m synced inside = grind (arith, common_steps, drop-replicate, take-replicate)
