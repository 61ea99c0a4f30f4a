-- Which records are in force, and how many there are.
use Rattle.std.proofs.Common.{◌≡◌, ◌≢◌, ◌<◌, ◌≤◌, ◌==◌, ◌+◌, ℕ, Bool, cond, eqb, List, ◌++◌, length, drop, Option, sym, ◌∙◌, ap, arith, length-take}
use Rattle.std.proofs.lemmas.List.Sums.{prefix_len-le-length}
use Rattle.affinity.specs.declared.geometry.Geometry.{Geometry}
use Rattle.recovery.specs.Recovery.{decoding}
use Rattle.disk.specs.Device.{IsSynced, Medium}
use Rattle.disk.specs.CrashImages.{IsCrashImage}
use Rattle.disk.proofs.IsSynced.{synced_left}
use Rattle.checkpoint.proofs.RecoversByArea.{open_by, shut_force}
use Rattle.oplog.specs.Changes.{HasAppended, IsReady, IsSameBut}
use Rattle.oplog.specs.Crash.{RecoversBy}
use Rattle.oplog.specs.HalfContent.{chain, front, gates, count_open}
use Rattle.device_map.specs.Layout.{Layout, half_part, layout_of, other, part_bytes, root_part}
use Rattle.oplog.specs.Recovery.{in_force, named_area, records_in}
use Rattle.oplog.proofs.AfterCrash.{no_chain_by}
use Rattle.oplog.proofs.SameRecovery.{grown_force, named_area-below, same_forced, same_named, named_kept}
use Rattle.oplog.proofs.RecordRows.{length-rows}
use Rattle.meaning.specs.State.{State}

-- ---- by one half, or by both

pub forced_alone : (g : Geometry) (n : ℕ) (x : Option State) (c : List ℕ) → n < 2 → RecoversBy (decoding g) (layout_of g) n n x c → records_in g c ≡ front (layout_of g) n c
forced_alone g n x c is_area recovered_before =
    ap (λ (k : ℕ). in_force (layout_of g) k c) recovered_before.named ∙ shut_force (layout_of g) n c (no_chain_by n (eqb (chain (layout_of g) n c) 1) is_area recovered_before.current)

pub forced_both : (g : Geometry) (n : ℕ) (x : Option State) (c : List ℕ) → n < 2 → RecoversBy (decoding g) (layout_of g) n (other n) x c
    → records_in g c ≡ front (layout_of g) n c ++ front (layout_of g) (other n) c
forced_both g n x c is_area recovered_before =
    ap (λ (k : ℕ). in_force (layout_of g) k c) recovered_before.named
    ∙ ap (λ (t : Bool). cond t (front (layout_of g) n c ++ front (layout_of g) (other n) c) (front (layout_of g) n c)) (open_by n (eqb (chain (layout_of g) n c) 1) is_area recovered_before.current)

-- ---- while something changes

-- records are added to the current half
pub forced_more : (g : Geometry) → {n h : ℕ} {x : Option State} {more : List (List ℕ)} {a c : List ℕ} → n < 2 → h < 2
    → RecoversBy (decoding g) (layout_of g) n h x a → HasAppended (layout_of g) h more a c → records_in g c ≡ records_in g a ++ more
forced_more g {n} {h} {more} {a} {c} is_area is_half recovered_before has =
    ap (λ (k : ℕ). in_force (layout_of g) k c) (same_named (decoding g) (layout_of g) h more a c is_half has ∙ recovered_before.named)
    ∙ grown_force (decoding g) (layout_of g) h more a c is_half has n is_area recovered_before.current
    ∙ ap (λ (k : ℕ). in_force (layout_of g) k a ++ more) (sym recovered_before.named)

-- a part other than the root zone and the halves is written
pub forced_kept : (g : Geometry) (p : ℕ) (a c : List ℕ) → root_part ≢ p → ((h : ℕ) → h < 2 → half_part h ≢ p) → IsSameBut (layout_of g) p a c → records_in g c ≡ records_in g a
forced_kept g p a c apart halves same =
    let n = named_area (layout_of g) a in
    let is_area : n < 2 = named_area-below (layout_of g) a in
    ap (λ (k : ℕ). in_force (layout_of g) k c) (named_kept (layout_of g) p a c apart same)
    ∙ same_forced (decoding g) (layout_of g) n a c (same.others (half_part n) (halves n is_area)) (same.others (half_part (other n)) (halves (other n) (omega arith)))

-- nothing is unsynced
pub forced_synced : (g : Geometry) (m : Medium) → IsSynced m → (c : List ℕ) → IsCrashImage m c → records_in g c ≡ records_in g m.now
forced_synced g m synced c left = ap (records_in g) (synced_left m c synced left)

-- ---- how many

pub front_count : (l : Layout) (h k : ℕ) (m : Medium) → IsReady l h k m → length (front l h m.now) ≡ k
front_count l h k m ready = length-rows (count_open (gates l h m.now)) (drop (64 + l.capacity) (part_bytes l (half_part h) m.now)) ∙ ready.used

pub used_most : (l : Layout) (h k : ℕ) (m : Medium) → IsReady l h k m → k ≤ l.capacity
used_most l h k m ready =
    let most : length (gates l h m.now) ≤ l.capacity = omega (arith, length-take l.capacity (drop 64 (part_bytes l (half_part h) m.now))) in
    omega (arith, prefix_len-le-length (λ gate. gate == 1) (gates l h m.now), most, ready.used)
