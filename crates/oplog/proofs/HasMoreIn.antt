-- What becomes of a half while records are added to it, on its own bytes.
use Rattle.std.proofs.Common.{◌≡◌, ℕ, ◌+◌, ◌-◌, ◌*◌, ◌≤◌, List, [], ◌++◌, length, take, drop, replicate, sym, ◌∙◌, ap, subst, arith}
use Rattle.std.specs.List.{concat}
use Rattle.std.proofs.lemmas.List.{append-nil, drop-drop, take-append-drop, take_all}
use Rattle.affinity.specs.declared.geometry.Geometry.{Geometry}
use Rattle.disk.specs.Device.{SameOutside}
use Rattle.disk.proofs.SameOutside.{same_take, same_drop, same_before}
use Rattle.device_map.specs.Layout.{slice}
use Rattle.protocol.specs.declared.sizes.TheConstants.{RECORD_SIZE}
use Rattle.oplog.specs.HalfContent.{count_open, rows, gates_in, front_in}
use Rattle.oplog.proofs.PartLemmas.{within, slice_slice}
use Rattle.oplog.proofs.Gates.{torn_gates, full_gates, still_shut}
use Rattle.oplog.proofs.RecordRows.{AreRows, rows_same, rows-add, rows_of}

-- what holds of a half, by its geometry and its number, holds by equal ones
pub of_half : (P : Geometry → ℕ → Type 0) {g h : Geometry} {n k : ℕ} → h ≡ g → k ≡ n → P h k → P g n
of_half P same is = subst (λ (t : Type 0). t) (λ i. P (same i) (is i))

-- The front has grown by these records, and what lies before the gates is as it was.
pub record HasMoreIn (capacity : ℕ) (more : List (List ℕ)) (old new : List ℕ) : Type 0 where
  pub chain_zone : take 64 new ≡ take 64 old
  pub front : front_in capacity new ≡ front_in capacity old ++ more

-- where the body of record k (its `RECORD_SIZE` bytes) begins
abbrev pub body_at : ℕ → ℕ → ℕ
body_at capacity k = 64 + capacity + k * RECORD_SIZE

-- Bodies are written behind a front of k records.
module _ (capacity k n : ℕ) (old new : List ℕ) (used : count_open (gates_in capacity old) ≡ k) (same : SameOutside (body_at capacity k) n old new) where
  same_gates : gates_in capacity new ≡ gates_in capacity old
  same_gates = same_before (body_at capacity k) n old new same 64 capacity (omega arith)

  pub same_rows : rows RECORD_SIZE k (drop (64 + capacity) new) ≡ rows RECORD_SIZE k (drop (64 + capacity) old)
  same_rows = rows_same k (drop (64 + capacity) old) (drop (64 + capacity) new) (same_before (body_at capacity k) n old new same (64 + capacity) (k * RECORD_SIZE) (omega arith))

  pub bodies_written : HasMoreIn capacity [] old new
  bodies_written = record {
    chain_zone = same_take (body_at capacity k) n old new same 64 (omega arith);
    front =
        ap (λ (gates : List ℕ). rows RECORD_SIZE (count_open gates) (drop (64 + capacity) new)) same_gates
        ∙ subst (λ (j : ℕ). rows RECORD_SIZE j (drop (64 + capacity) new) ≡ rows RECORD_SIZE j (drop (64 + capacity) old)) (sym used) same_rows
        ∙ sym (append-nil (front_in capacity old));
  }

-- Then their gates are written, from `mid` on.
module _ (capacity k : ℕ) (more : List (List ℕ)) (sized : AreRows more) (room : k + length more ≤ capacity) (old mid new : List ℕ)
    (used : count_open (gates_in capacity old) ≡ k) (shut : drop k (gates_in capacity old) ≡ replicate (capacity - k) 0)
    (bodies : SameOutside (body_at capacity k) (length more * RECORD_SIZE) old mid) (stand : slice mid (body_at capacity k) (length more * RECORD_SIZE) ≡ concat more)
    (gates : SameOutside (64 + k) (length more) mid new) where
  chain_zone : take 64 new ≡ take 64 old
  chain_zone = same_take (64 + k) (length more) mid new gates 64 (omega arith) ∙ same_take (body_at capacity k) (length more * RECORD_SIZE) old mid bodies 64 (omega arith)

  -- of the gates, at most those of these records have changed
  gates_changed : SameOutside k (length more) (gates_in capacity old) (gates_in capacity new)
  gates_changed =
      let before : gates_in capacity mid ≡ gates_in capacity old = same_before (body_at capacity k) (length more * RECORD_SIZE) old mid bodies 64 capacity (omega arith) in
      subst (λ (l : List ℕ). SameOutside k (length more) l (gates_in capacity new)) before (within 64 capacity k (length more) mid new room gates)

  -- if k + j gates are open before the first shut one, the front has grown by the first j records
  fronts : (j : ℕ) → j ≤ length more → count_open (gates_in capacity new) ≡ k + j → front_in capacity new ≡ front_in capacity old ++ take j more
  fronts j few opened =
      let records : drop (64 + capacity) new ≡ drop (64 + capacity) mid = same_drop (64 + k) (length more) mid new gates (64 + capacity) (omega (arith, room)) in
      let first : rows RECORD_SIZE k (drop (64 + capacity) mid) ≡ front_in capacity old = same_rows capacity k (length more * RECORD_SIZE) old mid used bodies
      ∙ sym (ap (λ (j : ℕ). rows RECORD_SIZE j (drop (64 + capacity) old)) used) in
      let behind : drop (k * RECORD_SIZE) (drop (64 + capacity) mid) ≡ concat more ++ drop (length more * RECORD_SIZE) (drop (body_at capacity k) mid) =
      drop-drop (k * RECORD_SIZE) (64 + capacity) mid ∙ sym (take-append-drop (length more * RECORD_SIZE) (drop (body_at capacity k) mid))
      ∙ ap (λ (l : List ℕ). l ++ drop (length more * RECORD_SIZE) (drop (body_at capacity k) mid)) stand in
      (λ i. rows RECORD_SIZE (opened i) (records i)) ∙ rows-add k j (drop (64 + capacity) mid)
      ∙ (λ i. first i ++ rows RECORD_SIZE j (behind i))
      ∙ ap (λ (l : List (List ℕ)). front_in capacity old ++ l) (rows_of more (drop (length more * RECORD_SIZE) (drop (body_at capacity k) mid)) j few sized)

  pub gates_torn : (j : ℕ) × (j ≤ length more) × HasMoreIn capacity (take j more) old new
  gates_torn =
      let torn = torn_gates k (length more) (capacity - k) (gates_in capacity old) (gates_in capacity new) used shut gates_changed in
      (torn.0, torn.1, record { chain_zone = chain_zone; front = fronts torn.0 torn.1 torn.2 })

  -- if the gates of all these records are open
  module _ (ones : slice new (64 + k) (length more) ≡ replicate (length more) 1) where
    pub now_used : count_open (gates_in capacity new) ≡ k + length more
    now_used = full_gates k (length more) (capacity - k) (gates_in capacity old) (gates_in capacity new) used shut gates_changed (slice_gates ∙ ones)
      where
        slice_gates : slice (gates_in capacity new) k (length more) ≡ slice new (64 + k) (length more)
        slice_gates = slice_slice new 64 capacity k (length more) room

    pub now_shut : drop (k + length more) (gates_in capacity new) ≡ replicate (capacity - (k + length more)) 0
    now_shut =
        let left : capacity - k - length more ≡ capacity - (k + length more) = omega arith in
        still_shut k (length more) (capacity - k) (gates_in capacity old) (gates_in capacity new) used shut gates_changed ∙ ap (λ (m : ℕ). replicate m 0) left

    pub gates_written : HasMoreIn capacity more old new
    gates_written = record
        { chain_zone = chain_zone; front = fronts (length more) (omega arith) now_used ∙ ap (λ (l : List (List ℕ)). front_in capacity old ++ l) (take_all (length more) more (omega arith)) }
