-- What one write with its sync does to a half's gates or to the root zone.
use Rattle.std.proofs.Common.{◌≡◌, ℕ, zero, suc, ◌+◌, ◌-◌, ◌<◌, ◌≤◌, cond, eqb, List, [], ◌∷◌, length, take, drop, get_or, replicate, sym, ◌∙◌, ap, subst, arith}
use Rattle.std.proofs.lemmas.List.{length-replicate, take-take, drop-take, drop-replicate, get_or-take, get_or-drop, get_or-replicate}
use Rattle.disk.specs.Device.{Medium, SameOutside}
use Rattle.disk.specs.CrashImages.{CrashImagesAre, After}
use Rattle.disk.proofs.IsSynced.{synced_range}
use Rattle.disk.proofs.CrashImagesAre.{weaker}
use Rattle.disk.proofs.SameOutside.{same_drop}
use Rattle.disk.proofs.Overlays.{overlaid_outside, range-overlaid, length-overlaid, item-overlaid}
use Rattle.device_map.specs.Layout.{Layout, slice, part_bytes, part_at, part_size, half_part, root_part, device_size}
use Rattle.oplog.specs.HalfContent.{count_open, gates}
use Rattle.oplog.specs.Changes.{IsSameButChainAndGates, IsSameButChain, IsSameButRoot, Cleared, Chained, Flipped}
use Rattle.disk.specs.Store.{Stored}
use Rattle.oplog.proofs.PartLemmas.{LiesIn, within, same_but, half_sized, half_inside}
use Rattle.oplog.proofs.Gates.{open_none}

-- a store changes bytes of its range alone
pub changed : (w0 w1 : Medium) (at : ℕ) (bytes : List ℕ) → Stored at bytes w0 w1 → SameOutside at (length bytes) w0.now w1.now
changed w0 w1 at bytes stored = subst (λ (l : List ℕ). SameOutside at (length bytes) w0.now l) (sym stored.now) (overlaid_outside w0.now at bytes)

-- ---- zeros over what lies before the records of half h
module _ (g : Layout) (h : ℕ) (is_half : h < 2) where
  gates_alone : (old c : List ℕ) → SameOutside (part_at g (half_part h)) (64 + g.capacity) old c → IsSameButChainAndGates g h old c
  gates_alone old c same =
      let lies : LiesIn g (half_part h) 0 (64 + g.capacity) (part_at g (half_part h)) = omega (arith, half_sized g h is_half) in
      let same' = subst (λ (a : ℕ). SameOutside a (64 + g.capacity) old c) lies.place same in
      record {
        same = same_but lies same;
        records = same_drop 0 (64 + g.capacity) (part_bytes g (half_part h) old) (part_bytes g (half_part h) c)
            (within (part_at g (half_part h)) (part_size g (half_part h)) 0 (64 + g.capacity) old c lies.inside same') (64 + g.capacity) (omega arith);
      }

  pub clear_moments : (w0 w1 : Medium) → CrashImagesAre w0 w1 (After w0 (SameOutside {X = ℕ} (part_at g (half_part h)) (64 + g.capacity)))
      → CrashImagesAre w0 w1 (After w0 (IsSameButChainAndGates g h))
  clear_moments w0 w1 moments = weaker w0 w1 _ _ moments (λ c after. record { old = after.old; left = after.left; change = gates_alone after.old c after.change })

  module _ (w0 w1 : Medium) (fits : device_size g ≤ length w0.now) (stored : Stored (part_at g (half_part h)) (replicate (64 + g.capacity) 0) w0 w1) where
    few : length (replicate {A = ℕ} (64 + g.capacity) 0) ≡ 64 + g.capacity
    few = length-replicate (64 + g.capacity) 0

    zeros : take (64 + g.capacity) (part_bytes g (half_part h) w1.now) ≡ replicate (64 + g.capacity) 0
    zeros =
        take-take (64 + g.capacity) (part_size g (half_part h)) (drop (part_at g (half_part h)) w1.now) (omega (arith, half_sized g h is_half))
        ∙ ap (λ (n : ℕ). slice w1.now (part_at g (half_part h)) n) (sym few)
        ∙ ap (λ (l : List ℕ). slice l (part_at g (half_part h)) (length (replicate {A = ℕ} (64 + g.capacity) 0))) stored.now
        ∙ range-overlaid w0.now (part_at g (half_part h)) (replicate (64 + g.capacity) 0) (omega (arith, few, fits, half_inside g h is_half))

    shut : gates g h w1.now ≡ replicate g.capacity 0
    shut =
        let count : 64 + g.capacity - 64 ≡ g.capacity = omega arith in
        sym (drop-take 64 g.capacity (part_bytes g (half_part h) w1.now)) ∙ ap (λ (l : List ℕ). drop 64 l) zeros ∙ drop-replicate 64 (64 + g.capacity) 0 ∙ ap (λ (n : ℕ). replicate n 0) count

    long : length w1.now ≡ length w0.now
    long = ap length stored.now ∙ length-overlaid w0.now (part_at g (half_part h)) (replicate (64 + g.capacity) 0)

    pub cleared : Cleared g h w0 w1
    cleared = record {
      same = gates_alone w0.now w1.now (subst (λ (n : ℕ). SameOutside (part_at g (half_part h)) n w0.now w1.now) few (changed w0 w1 _ _ stored));
      zeros = zeros;
      chain = sym (get_or-take (64 + g.capacity) (part_bytes g (half_part h) w1.now) 0 0 (omega arith)) ∙ ap (λ (l : List ℕ). get_or l 0 0) zeros
          ∙ get_or-replicate (64 + g.capacity) 0 0 0 (omega arith);
      ready = record {
        used = ap count_open shut ∙ open_none g.capacity;
        shut = let all : g.capacity ≡ g.capacity - 0 = omega arith in shut ∙ ap (λ (n : ℕ). replicate n 0) all;
        synced = synced_range (part_at g (half_part h)) (part_size g (half_part h)) w1 stored.synced (omega (arith, long, fits, half_sized g h is_half, half_inside g h is_half));
      };
      synced = stored.synced;
    }

-- ---- the chain byte of half h
module _ (g : Layout) (h at : ℕ) (is_half : h < 2) (place : at ≡ part_at g (half_part h)) where
  chain_alone : (old c : List ℕ) → SameOutside at 1 old c → IsSameButChain g h old c
  chain_alone old c same =
      let lies : LiesIn g (half_part h) 0 1 at = omega (arith, place, half_sized g h is_half) in
      let same' = subst (λ (a : ℕ). SameOutside a 1 old c) lies.place same in
      record {
        same = same_but lies same;
        beside = same_drop 0 1 (part_bytes g (half_part h) old) (part_bytes g (half_part h) c) (within (part_at g (half_part h)) (part_size g (half_part h)) 0 1 old c lies.inside same') 1
            (omega arith);
      }

  pub chain_moments : (w0 w1 : Medium) → CrashImagesAre w0 w1 (After w0 (SameOutside {X = ℕ} at 1)) → CrashImagesAre w0 w1 (After w0 (IsSameButChain g h))
  chain_moments w0 w1 moments = weaker w0 w1 _ _ moments (λ c after. record { old = after.old; left = after.left; change = chain_alone after.old c after.change })

  pub chained : (w0 w1 : Medium) → device_size g ≤ length w0.now → Stored at (1 ∷ []) w0 w1 → Chained g h w0 w1
  chained w0 w1 fits stored = record {
    same = chain_alone w0.now w1.now (changed w0 w1 at (1 ∷ []) stored);
    chain =
        get_or-take (part_size g (half_part h)) (drop (part_at g (half_part h)) w1.now) 0 0 (omega (arith, half_sized g h is_half)) ∙ get_or-drop (part_at g (half_part h)) w1.now 0 0
        ∙ ap (λ (a : ℕ). get_or w1.now a 0) (omega (arith, place)) ∙ ap (λ (l : List ℕ). get_or l at 0) stored.now
        ∙ item-overlaid w0.now at 1 0 [] (omega (arith, place, fits, half_inside g h is_half));
    synced = stored.synced;
  }

-- ---- the first byte of the root zone
module _ (g : Layout) (n : ℕ) where
  root_alone : (old c : List ℕ) → SameOutside 64 1 old c → IsSameButRoot g old c
  root_alone old c same = record {
    same = same_but {i = 0} (omega arith) same;
    beside = same_drop 0 1 (part_bytes g root_part old) (part_bytes g root_part c) (within 64 64 0 1 old c (omega arith) same) 1 (omega arith);
  }

  pub root_moments : (w0 w1 : Medium) → CrashImagesAre w0 w1 (After w0 (SameOutside {X = ℕ} 64 1)) → CrashImagesAre w0 w1 (After w0 (IsSameButRoot g))
  root_moments w0 w1 moments = weaker w0 w1 _ _ moments (λ c after. record { old = after.old; left = after.left; change = root_alone after.old c after.change })

  named_by : (n b : ℕ) → n < 2 → b ≡ n → ◌≡◌ {A = ℕ} (cond (eqb b 1) 1 0) n
  named_by zero b is_area is = ap (λ (m : ℕ). cond (eqb m 1) 1 0) is
  named_by (suc zero) b is_area is = ap (λ (m : ℕ). cond (eqb m 1) 1 0) is
  named_by (suc (suc n)) b is_area is = absurd (omega (arith, is_area))

  pub named : (w0 w1 : Medium) → n < 2 → device_size g ≤ length w0.now → Stored 64 (n ∷ []) w0 w1 → Flipped g n w0 w1
  named w0 w1 is_area fits stored = record {
    same = root_alone w0.now w1.now (changed w0 w1 64 (n ∷ []) stored);
    named = named_by n (get_or (part_bytes g root_part w1.now) 0 0) is_area
        (get_or-take 64 (drop 64 w1.now) 0 0 (omega arith) ∙ get_or-drop 64 w1.now 0 0
        ∙ ap (λ (l : List ℕ). get_or l 64 0) stored.now ∙ item-overlaid w0.now 64 n 0 [] (omega (arith, fits)));
    synced = stored.synced;
  }
