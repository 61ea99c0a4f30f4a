-- The range that a sync looks at, after each call.
use Rattle.std.proofs.Common.{◌≡◌, ◌⊎◌, ℕ, ◌+◌, ◌-◌, ◌≤◌, false, List, length, replicate, sym, subst, arith}
use Rattle.disk.specs.Device.{Medium, SameOutside, overlaid, marked, written}
use Rattle.disk.specs.GhostDevice.{failed_write}
use Rattle.disk.specs.Span.{HoldsUnsynced}
use Rattle.disk.proofs.SameOutside.{covered, same_back, same_both, wider}
use Rattle.disk.proofs.Overlays.{length-overlaid, overlaid_outside, marked_outside}

-- A write of n bytes from `at` on: the range from a to e, outside which nothing is unsynced, grows to the one from b to f, which holds
-- them, too.
module _ (a e b f at n : ℕ) (m : Medium) (last_synced : List ℕ) (ordered : a ≤ e) (from : b ≤ at) (to : at + n ≤ f) (inside : f ≤ length m.now)
    (grows : (a ≡ e) ⊎ ((b ≤ a) × (e ≤ f))) (holds : HoldsUnsynced a e m last_synced) where
  marks : SameOutside b (f - b) (replicate (length m.now) false) (marked m.unsynced at n)
  marks =
      same_both b (f - b) (replicate (length m.now) false) m.unsynced (marked m.unsynced at n)
      (covered a e b f ordered grows holds.marks)
      (wider at n m.unsynced (marked m.unsynced at n) (marked_outside m.unsynced at n) b (f - b) from (omega (arith, from, to)))

  pub holds_failed_write : HoldsUnsynced b f (failed_write at n m) last_synced
  holds_failed_write = record {
    inside = inside;
    last_synced = covered a e b f ordered grows holds.last_synced;
    marks = marks;
  }

  pub holds_written : (bytes : List ℕ) → length bytes ≡ n → HoldsUnsynced b f (written at bytes m) last_synced
  holds_written bytes size =
      let over = overlaid m.now at bytes in
      let long : length over ≡ length m.now = length-overlaid m.now at bytes in
      record {
        inside = omega (arith, inside, long);
        last_synced = same_both b (f - b) over m.now last_synced
            (same_back b (f - b) m.now over (wider at (length bytes) m.now over (overlaid_outside m.now at bytes) b (f - b) from (omega (arith, from, to, size))))
            (covered a e b f ordered grows holds.last_synced);
        marks =
            subst (λ (k : ℕ). SameOutside b (f - b) (replicate k false) (marked m.unsynced at (length bytes))) (sym long)
            (subst (λ (k : ℕ). SameOutside b (f - b) (replicate (length m.now) false) (marked m.unsynced at k)) (sym size) marks);
      }
