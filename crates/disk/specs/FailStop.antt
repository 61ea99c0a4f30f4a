-- Inner: A device over another one, of which nothing more is asked once a call has failed.
use Rattle.std.specs.Prelude.{◌≡◌, ◌<◌, ◌^◌, length, List, ℕ}
use Rattle.disk.specs.declared.fail_stop.Below.{Below}
use Rattle.disk.specs.declared.fail_stop.Below.TheVariants.{Open, Shut}
use Rattle.disk.specs.declared.fail_stop.Refusals.{Refusals, Nothing, Other', Write'}
use Rattle.std.proofs.Common.{sym, subst}
use Rattle.disk.specs.CrashImages.{AreBytes}
use Rattle.disk.specs.Device.{Medium, failed}
use Rattle.disk.specs.GhostDevice.{failed_write}

-- the device after these calls were refused: each has failed
abbrev pub after_refusals : Refusals → Medium → Medium
after_refusals Nothing m = m
after_refusals (Other' _ before) m = failed (after_refusals before m)
after_refusals (Write' at n _ before) m = failed_write at n (after_refusals before m)

-- the device below, or what became of it
abbrev pub medium_below : {D : Type 0} → (D → Medium) → Below D → Medium
medium_below medium (Open disk) = medium disk
medium_below medium (Shut disk refused) = after_refusals refused (medium disk.value)

-- how often the device below has failed, as long as it is there; then as often as `first`
abbrev pub failures_while_open : {D : Type 0} → (D → Medium) → D → Below D → ℕ
failures_while_open medium first (Open disk) = (medium disk).faults
failures_while_open medium first (Shut disk refused) = (medium first).faults

-- It has the other one's bytes.
same_bytes : (r : Refusals) (m : Medium) → (after_refusals r m).now ≡ m.now
same_bytes Nothing m = λ i. m.now
same_bytes (Other' _ before) m = same_bytes before m
same_bytes (Write' at n _ before) m = same_bytes before m

pub fits_either_way : {D : Type 0} (medium : D → Medium) (b : Below D)
    → ((d : D) → length (medium d).now < 2 ^ 64) → length (medium_below medium b).now < 2 ^ 64
fits_either_way medium (Open disk) fits = fits disk
fits_either_way medium (Shut disk refused) fits =
    subst (λ (bytes : List ℕ). length bytes < 2 ^ 64) (sym (same_bytes refused (medium disk.value))) (fits disk.value)

pub are_bytes_either_way : {D : Type 0} (medium : D → Medium) (b : Below D)
    → ((d : D) → AreBytes (medium d).now) → AreBytes (medium_below medium b).now
are_bytes_either_way medium (Open disk) bytes = bytes disk
are_bytes_either_way medium (Shut disk refused) bytes = subst AreBytes (sym (same_bytes refused (medium disk.value))) (bytes disk.value)
