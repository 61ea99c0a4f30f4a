-- A batch of records, call by call.
use Rattle.std.proofs.Common.{◌≡◌, ℕ, ◌+◌, ◌<◌, ◌≤◌, List, length, replicate, subst}
use Rattle.std.specs.List.{concat}
use Rattle.disk.specs.CrashImages.{AreBytes, CrashImagesAre, After}
use Rattle.disk.specs.Device.{Medium, SameOutside}
use Rattle.disk.proofs.CrashImagesAre.{weaker, then}
use Rattle.device_map.specs.Layout.{Layout, part_at, half_part, device_size}
use Rattle.disk.specs.Store.{Stored}
use Rattle.oplog.specs.Changes.{HasAppendedPrefix, IsReady, HasAppendedAll}
use Rattle.oplog.proofs.RecordRows.{AreRows}
use Rattle.oplog.proofs.HasMoreIn.{body_at}
use Rattle.oplog.proofs.Batch.{first, second, third}

module _ (g : Layout) (h k : ℕ) (more : List (List ℕ)) (is_half : h < 2) (sized : AreRows more) (room : k + length more ≤ g.capacity) (w0 w1 : Medium)
    (fits : device_size g ≤ length w0.now) (are_bytes : AreBytes w0.now) (ready : IsReady g h k w0) (at : ℕ) (bytes : List ℕ)
    (place : at ≡ part_at g (half_part h) + body_at g.capacity k) (are : bytes ≡ concat more) where
  pub bodies_moments : CrashImagesAre w0 w1 (After w0 (SameOutside {X = ℕ} at (length bytes))) → CrashImagesAre w0 w1 (HasAppendedPrefix g h more w0)
  bodies_moments moments =
      let moments' = subst (λ (a : ℕ). CrashImagesAre w0 w1 (After w0 (SameOutside {X = ℕ} a (length (concat more))))) place
      (subst (λ (l : List ℕ). CrashImagesAre w0 w1 (After w0 (SameOutside {X = ℕ} at (length l)))) are moments) in
      weaker w0 w1 _ _ moments' (first g h k more is_half sized room w0 w1 fits are_bytes ready)

  module _ (bodies : Stored at bytes w0 w1) (w2 : Medium) (count : ℕ) (all : count ≡ length more) where
    stored : Stored (part_at g (half_part h) + body_at g.capacity k) (concat more) w0 w1
    stored = subst (λ (a : ℕ). Stored a (concat more) w0 w1) place (subst (λ (l : List ℕ). Stored at l w0 w1) are bodies)

    pub gates_moments : CrashImagesAre w0 w1 (After w0 (SameOutside {X = ℕ} at (length bytes)))
        → CrashImagesAre w1 w2 (After w1 (SameOutside {X = ℕ} (part_at g (half_part h) + (64 + k)) count)) → CrashImagesAre w0 w2 (HasAppendedPrefix g h more w0)
    gates_moments moments moments2 =
        let moments2' = subst (λ (n : ℕ). CrashImagesAre w1 w2 (After w1 (SameOutside {X = ℕ} (part_at g (half_part h) + (64 + k)) n))) all moments2 in
        then w0 w1 w2 _ (bodies_moments moments)
        (weaker w1 w2 _ _ moments2' (second g h k more is_half sized room w0 w1 fits are_bytes ready stored))

    pub batch_added : Stored (part_at g (half_part h) + (64 + k)) (replicate count 1) w1 w2 → HasAppendedAll g h k more w0 w2
    batch_added gates =
        third g h k more is_half sized room w0 w1 fits are_bytes ready stored w2
        (subst (λ (n : ℕ). Stored (part_at g (half_part h) + (64 + k)) (replicate n 1) w1 w2) all gates)
