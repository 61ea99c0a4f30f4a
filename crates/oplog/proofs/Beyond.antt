-- What lies behind the parts of a device stays, call by call.
use Rattle.std.proofs.Common.{◌≡◌, ◌+◌, ◌-◌, ◌≤◌, ℕ, List, drop, Result, refl, ◌∙◌, ap, sym, arith}
use Rattle.std.proofs.lemmas.List.{drop-drop}
use Rattle.disk.specs.declared.fault.DiskFault.{DiskFault}
use Rattle.disk.specs.Device.{Medium, SameOutside, Syncs, moments}
use Rattle.disk.proofs.Calls.{after_sync}
use Rattle.disk.proofs.CrashImagesAre.{leaves_now, same, started, then, weaker}
use Rattle.oplog.specs.Beyond.{IsSameBeyond, KeepsBeyond}
use Rattle.disk.specs.CrashImages.{CrashesChangeOnly}
use Rattle.device_map.specs.Layout.{Layout, device_size}

module _ (g : Layout) where
  pub beyond : (w0 w1 : Medium) (Change : List ℕ → List ℕ → Type 0) → ((o c : List ℕ) → Change o c → IsSameBeyond g o c) → CrashesChangeOnly w0 w1 Change
      → KeepsBeyond g w0 w1
  beyond w0 w1 Change enough changes =
      weaker w0 w1 _ _ changes (λ c after. record { old = after.old; left = after.left; change = enough after.old c after.change })

  pub beyond_none : (w : Medium) → KeepsBeyond g w w
  beyond_none w = started w _ (λ c left. record { old = c; left = left; change = refl })

  pub beyond_then : (w0 w1 w2 : Medium) → KeepsBeyond g w0 w1 → KeepsBeyond g w1 w2 → KeepsBeyond g w0 w2
  beyond_then w0 w1 w2 first second =
      then w0 w1 w2 _ first
      (weaker w1 w2 _ _ second
      (λ c after.
      let before = leaves_now w0 w1 _ first after.old after.left in
      record { old = before.old; left = before.left; change = after.change ∙ before.change }))

  pub beyond_sync : (w0 w1 : Medium) (r : Result (Unit {0}) DiskFault) → Syncs r w0 w1 → KeepsBeyond g w0 w1
  beyond_sync w0 w1 r syncs = after_sync w0 w0 w1 _ (beyond_none w0) r syncs

  pub beyond_read : (w0 w1 : Medium) → moments w1 ≡ moments w0 → KeepsBeyond g w0 w1
  beyond_read w0 w1 only = same w0 w0 w1 _ (beyond_none w0) only

  -- a write that ends where the parts end, or before
  pub beyond_write : (at n : ℕ) (w0 w1 : Medium) → at + n ≤ device_size g → CrashesChangeOnly w0 w1 (SameOutside at n) → KeepsBeyond g w0 w1
  beyond_write at n w0 w1 before changes = beyond w0 w1 (SameOutside at n) behind changes
    where
      behind : (o c : List ℕ) → SameOutside at n o c → IsSameBeyond g o c
      behind o c outside =
          let whole : device_size g ≡ at + n + (device_size g - (at + n)) = omega (arith, before) in
          let all : (xs : List ℕ) → drop (device_size g) xs ≡ drop (device_size g - (at + n)) (drop (at + n) xs) =
          λ xs. ap (λ (k : ℕ). drop k xs) whole ∙ sym (drop-drop (device_size g - (at + n)) (at + n) xs) in
          all c ∙ ap (λ (l : List ℕ). drop (device_size g - (at + n)) l) outside.after ∙ sym (all o)
