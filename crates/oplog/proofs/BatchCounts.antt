-- How many batches of up to 64 records there are: `done` of `all` records are written, and the next batch goes up to record `end`.
use Rattle.std.proofs.Common.{◌≡◌, ◌≤◌, ◌<◌, ℕ, ◌+◌, ◌%◌, arith}
use Rattle.std.specs.Prelude.{min}
use Rattle.oplog.specs.Log.{batch_count}

-- the next batch adds one to the count
pub one_batch : (done end all : ℕ) → done < all → done % 64 ≡ 0 → end ≡ min all (done + 64) → batch_count end ≡ batch_count done + 1
one_batch done end all more whole is = omega (arith, more, whole, is)

-- The next batch has 64 records, unless it is the last one.
pub whole_batch : (done end all : ℕ) → done % 64 ≡ 0 → end ≡ min all (done + 64) → end < all → end % 64 ≡ 0
whole_batch done end all whole is more = let e : end ≡ done + 64 = omega (arith, is, more) in omega (arith, whole, e)

-- While records are left, the next batch is counted among those of all records.
pub batch_left : (done all : ℕ) → done < all → done % 64 ≡ 0 → batch_count done + 1 ≤ batch_count all
batch_left done all more whole = omega (arith, more, whole)
