-- What a crash leaves while a device is used, call by call.
use Rattle.std.proofs.Common.{◌≡◌, ◌+◌, ◌≤◌, ℕ, Bool, List, length, Result, Ok, Err, refl, sym, ap, subst}
use Rattle.disk.specs.declared.fault.DiskFault.{DiskFault}
use Rattle.disk.specs.declared.fault.DiskFault.TheVariants.{OutOfRange, Device}
use Rattle.disk.specs.CrashImages.{AreBytes, IsTornFrom, IsCrashImage, CrashImagesAre}
use Rattle.disk.specs.Device.{Medium, SameOutside, moments, overlaid, synced, Reads, Writes, Syncs}
use Rattle.disk.proofs.Overlays.{overlaid_outside}
use Rattle.disk.proofs.IsTornFrom.{itself, put_back, undone, same_but_range}
use Rattle.disk.proofs.IsSynced.{synced_left}
use Rattle.disk.proofs.CrashImagesAre.{next, same, leaves_now}

module _ (old mid new : Medium) (P : List ℕ → Type 0) (so_far : CrashImagesAre old mid P) where
  -- A read changes nothing, whatever it answers.
  pub after_read : (at : ℕ) (out : List ℕ) (r : Result (Unit {0}) DiskFault) → Reads at out r mid new → CrashImagesAre old new P
  after_read at out (Ok _) reads = same old mid new P so_far (ap moments (reads.ok.0))
  after_read at out (Err OutOfRange) reads = same old mid new P so_far (ap moments (reads.outside refl))
  after_read at out (Err Device) reads = same old mid new P so_far (ap moments (reads.device refl))

  -- Whatever a sync answers, a crash after it leaves only what a crash before it might have left.
  pub after_sync : (r : Result (Unit {0}) DiskFault) → Syncs r mid new → CrashImagesAre old new P
  after_sync (Ok _) syncs =
      next old mid new P so_far (ap (λ (m : Medium). m.past) syncs.ok)
      (λ c left.
      let is : c ≡ mid.now = synced_left (synced mid) c refl (subst (λ (m : Medium). IsCrashImage m c) syncs.ok left) in
      subst P (sym is) (leaves_now old mid P so_far mid.now (itself mid.now mid.unsynced (subst AreBytes is left.bytes))))
  after_sync (Err OutOfRange) syncs = absurd (syncs.outside refl)
  after_sync (Err Device) syncs = same old mid new P so_far (ap moments (syncs.device refl))

  module _ (at : ℕ) (bytes : List ℕ) (inside : at + length bytes ≤ length mid.now) (are : AreBytes mid.now) where
    -- A write, whatever it answers: what a crash before it may leave, with anything in the range, has P.
    pub after_write : (r : Result (Unit {0}) DiskFault) → Writes at bytes r mid new
        → ((c torn : List ℕ) → IsCrashImage mid c → SameOutside at (length bytes) c torn → P torn) → CrashImagesAre old new P
    after_write (Ok _) writes here =
        next old mid new P so_far (ap (λ (m : Medium). m.past) writes.ok)
        (λ c left.
        let left' = subst (λ (m : Medium). IsCrashImage m c) writes.ok left in
        let outside = overlaid_outside mid.now at bytes in
        here (put_back at (length bytes) mid.now c) c (undone at (length bytes) mid.now (overlaid mid.now at bytes) mid.unsynced c inside outside are left')
        (same_but_range at (length bytes) mid.now (overlaid mid.now at bytes) mid.unsynced c inside outside are left'))
    after_write (Err OutOfRange) writes here = same old mid new P so_far (ap moments (writes.outside refl))
    after_write (Err Device) writes here =
        let fails = writes.device refl in
        next old mid new P so_far fails.past
        (λ c left.
        let left' = subst (λ (l : List Bool). IsTornFrom new.now l c) fails.unsynced left in
        here (put_back at (length bytes) mid.now c) c (undone at (length bytes) mid.now new.now mid.unsynced c inside fails.bytes are left')
        (same_but_range at (length bytes) mid.now new.now mid.unsynced c inside fails.bytes are left'))
