-- What a write of a range leaves, done or failed.
use Rattle.std.proofs.Common.{arith, ℕ, ◌+◌, ◌≤◌, List, length, Result, Ok, Err, refl, sym, subst}
use Rattle.std.proofs.lemmas.Grind.{common_steps}
use Rattle.disk.specs.declared.fault.DiskFault.{DiskFault}
use Rattle.disk.specs.declared.fault.DiskFault.TheVariants.{OutOfRange, Device}
use Rattle.disk.specs.CrashImages.{AreBytes, CrashImagesAre, After}
use Rattle.disk.specs.Device.{Medium, SameOutside, Writes}
use Rattle.disk.proofs.Calls.{after_write}
use Rattle.disk.proofs.CrashImagesAre.{started}
use Rattle.disk.proofs.SameOutside.{same_all}
use Rattle.disk.proofs.Overlays.{overlaid_outside, marked_outside}
use Rattle.disk.specs.Store.{TouchesOnly}

module _ (w0 w1 : Medium) (at : ℕ) (bytes : List ℕ) where
  pub written : (r : Result (Unit {0}) DiskFault) → at + length bytes ≤ length w0.now → AreBytes w0.now → Writes at bytes r w0 w1
      → CrashImagesAre w0 w1 (After w0 (SameOutside {X = ℕ} at (length bytes)))
  written r inside are writes =
      after_write w0 w0 w1 _
      (started w0 _ (λ c left. record { old = c; left = left; change = same_all at (length bytes) c })) at bytes inside are r writes
      (λ c torn left same. record { old = c; left = left; change = same })

  -- done, or nothing done, or failed
  pub touched : (r : Result (Unit {0}) DiskFault) → at + length bytes ≤ length w0.now → Writes at bytes r w0 w1 → TouchesOnly at (length bytes) w0 w1
  touched (Ok u) inside writes =
      subst (λ (m : Medium). TouchesOnly at (length bytes) w0 m) (sym writes.ok) (record { now = overlaid_outside w0.now at bytes; unsynced = marked_outside w0.unsynced at (length bytes) })
  touched (Err OutOfRange) inside writes = grind (arith, common_steps)
  touched (Err Device) inside writes =
      let fails = writes.device refl in
      record { now = fails.bytes; unsynced = subst (λ l. SameOutside at (length bytes) w0.unsynced l) (sym fails.unsynced) (marked_outside w0.unsynced at (length bytes)) }
