-- A batch of records: what a crash leaves while first their bodies (`RECORD_SIZE` bytes each) and then their gates are written, and what is there
-- at the end.
use Rattle.std.proofs.Common.{◌≡◌, ℕ, ◌+◌, ◌-◌, ◌*◌, ◌<◌, ◌≤◌, List, [], length, take, drop, replicate, sym, ◌∙◌, ap, subst, arith}
use Rattle.std.proofs.lemmas.List.{length-replicate}
use Rattle.std.specs.List.{concat}
use Rattle.disk.specs.CrashImages.{AreBytes, After}
use Rattle.disk.specs.Device.{Medium, SameOutside, overlaid}
use Rattle.disk.proofs.IsTornFrom.{itself, range_kept}
use Rattle.disk.proofs.IsSynced.{synced_left, synced_range}
use Rattle.disk.proofs.Overlays.{range-overlaid, length-overlaid}
use Rattle.device_map.specs.Layout.{Layout, slice, part_bytes, part_at, part_size, half_part, half_size, device_size}
use Rattle.protocol.specs.declared.sizes.TheConstants.{RECORD_SIZE}
use Rattle.oplog.specs.HalfContent.{gates_in, count_open}
use Rattle.oplog.specs.Changes.{IsSameBut, HasAppended, HasAppendedPrefix, IsReady, HasAppendedAll}
use Rattle.disk.specs.Store.{Stored}
use Rattle.oplog.proofs.PartLemmas.{within, slice_slice, same_but, same_but_both, half_sized, half_inside}
use Rattle.oplog.proofs.RecordRows.{AreRows, length-concat}
use Rattle.oplog.proofs.OneStore.{changed}
use Rattle.oplog.proofs.HasMoreIn.{HasMoreIn, body_at, bodies_written, gates_torn, gates_written, now_used, now_shut}

-- These records are added to half h behind k others. Places in the half count from its first byte.
module _ (g : Layout) (h k : ℕ) (more : List (List ℕ)) (is_half : h < 2) (sized : AreRows more) (room : k + length more ≤ g.capacity) (w0 w1 : Medium)
    (fits : device_size g ≤ length w0.now) (are_bytes : AreBytes w0.now) (ready : IsReady g h k w0) where
  size : part_size g (half_part h) ≡ half_size g.capacity
  size = half_sized g h is_half

  -- a range of the half
  change : (i n : ℕ) (old c : List ℕ) → i + n ≤ half_size g.capacity → SameOutside (part_at g (half_part h) + i) n old c → IsSameBut g (half_part h) old c
  change i n old c inside same = same_but {i = i} (omega (arith, inside, size)) same

  in_half : (i n : ℕ) (old c : List ℕ) → i + n ≤ half_size g.capacity → SameOutside (part_at g (half_part h) + i) n old c
      → SameOutside i n (part_bytes g (half_part h) old) (part_bytes g (half_part h) c)
  in_half i n old c inside same = within (part_at g (half_part h)) (part_size g (half_part h)) i n old c (omega (arith, inside, size)) same

  grown : (rs : List (List ℕ)) (old c : List ℕ) → IsSameBut g (half_part h) old c → HasMoreIn g.capacity rs (part_bytes g (half_part h) old) (part_bytes g (half_part h) c) → HasAppended g h rs old c
  grown rs old c same has = record { same = same; chain_zone = has.chain_zone; front = has.front }

  bytes : length (concat more) ≡ length more * RECORD_SIZE
  bytes = length-concat more sized

  -- ---- the bodies
  body_room : body_at g.capacity k + length more * RECORD_SIZE ≤ half_size g.capacity
  body_room = omega (arith, room)

  pub first : (c : List ℕ) → After w0 (SameOutside {X = ℕ} (part_at g (half_part h) + body_at g.capacity k) (length (concat more))) c → HasAppendedPrefix g h more w0 c
  first c after =
      let same = subst (λ (m : ℕ). SameOutside (part_at g (half_part h) + body_at g.capacity k) m after.old c) bytes after.change in
      let kept : part_bytes g (half_part h) after.old ≡ part_bytes g (half_part h) w0.now = range_kept (part_at g (half_part h)) (part_size g (half_part h)) w0 after.old ready.synced after.left in
      record {
        added = 0;
        at_most = omega arith;
        has = record {
          old = after.old;
          left = after.left;
          change = grown [] after.old c (change (body_at g.capacity k) (length more * RECORD_SIZE) after.old c body_room same)
              (bodies_written g.capacity k (length more * RECORD_SIZE) (part_bytes g (half_part h) after.old) (part_bytes g (half_part h) c)
              (ap (λ (l : List ℕ). count_open (gates_in g.capacity l)) kept ∙ ready.used)
              (in_half (body_at g.capacity k) (length more * RECORD_SIZE) after.old c body_room same));
        };
      }

  -- ---- the gates
  module _ (bodies : Stored (part_at g (half_part h) + body_at g.capacity k) (concat more) w0 w1) where
    put : SameOutside (part_at g (half_part h) + body_at g.capacity k) (length more * RECORD_SIZE) w0.now w1.now
    put = rw (← bytes) (changed w0 w1 _ _ bodies)

    stand : slice (part_bytes g (half_part h) w1.now) (body_at g.capacity k) (length more * RECORD_SIZE) ≡ concat more
    stand =
        slice_slice w1.now (part_at g (half_part h)) (part_size g (half_part h)) (body_at g.capacity k) (length more * RECORD_SIZE) (omega (arith, body_room, size))
        ∙ ap (λ (l : List ℕ). slice l (part_at g (half_part h) + body_at g.capacity k) (length more * RECORD_SIZE)) bodies.now
        ∙ ap (λ (m : ℕ). slice (overlaid w0.now (part_at g (half_part h) + body_at g.capacity k) (concat more)) (part_at g (half_part h) + body_at g.capacity k) m) (sym bytes)
        ∙ range-overlaid w0.now (part_at g (half_part h) + body_at g.capacity k) (concat more) (omega (arith, bytes, body_room, fits, half_inside g h is_half))

    gate_room : 64 + k + length more ≤ half_size g.capacity
    gate_room = omega (arith, room)

    module _ (c : List ℕ) (same : SameOutside (part_at g (half_part h) + (64 + k)) (length more) w1.now c) where
      bodies_in : SameOutside (body_at g.capacity k) (length more * RECORD_SIZE) (part_bytes g (half_part h) w0.now) (part_bytes g (half_part h) w1.now)
      bodies_in = in_half (body_at g.capacity k) (length more * RECORD_SIZE) w0.now w1.now body_room put

      gates_in_half : SameOutside (64 + k) (length more) (part_bytes g (half_part h) w1.now) (part_bytes g (half_part h) c)
      gates_in_half = in_half (64 + k) (length more) w1.now c gate_room same

      all_same : IsSameBut g (half_part h) w0.now c
      all_same =
          same_but_both g (half_part h) w0.now w1.now c (change (body_at g.capacity k) (length more * RECORD_SIZE) w0.now w1.now body_room put)
          (change (64 + k) (length more) w1.now c gate_room same)

      torn : (j : ℕ) × (j ≤ length more) × HasAppended g h (take j more) w0.now c
      torn =
          let t = gates_torn g.capacity k more sized room _ _ _ ready.used ready.shut bodies_in stand gates_in_half in
          (t.0, t.1, grown (take t.0 more) w0.now c all_same t.2)

      pub grew : HasAppendedPrefix g h more w0 c
      grew = record {
        added = torn.0;
        at_most = torn.1;
        has = record { old = w0.now; left = itself w0.now w0.unsynced are_bytes; change = torn.2 };
      }

      module _ (ones : slice c (part_at g (half_part h) + (64 + k)) (length more) ≡ replicate (length more) 1) where
        open_in : slice (part_bytes g (half_part h) c) (64 + k) (length more) ≡ replicate (length more) 1
        open_in = slice_slice c (part_at g (half_part h)) (part_size g (half_part h)) (64 + k) (length more) (omega (arith, gate_room, size)) ∙ ones

        pub has_all : HasAppended g h more w0.now c
        has_all = grown more w0.now c all_same (gates_written g.capacity k more sized room _ _ _ ready.used ready.shut bodies_in stand gates_in_half open_in)

        pub used_all : count_open (gates_in g.capacity (part_bytes g (half_part h) c)) ≡ k + length more
        used_all = now_used g.capacity k more sized room _ _ _ ready.used ready.shut bodies_in stand gates_in_half open_in

        pub shut_all : drop (k + length more) (gates_in g.capacity (part_bytes g (half_part h) c)) ≡ replicate (g.capacity - (k + length more)) 0
        shut_all = now_shut g.capacity k more sized room _ _ _ ready.used ready.shut bodies_in stand gates_in_half open_in

    pub second : (c : List ℕ) → After w1 (SameOutside {X = ℕ} (part_at g (half_part h) + (64 + k)) (length more)) c → HasAppendedPrefix g h more w0 c
    second c after = grew c (rw (← synced_left w1 after.old bodies.synced after.left) after.change)

    module _ (w2 : Medium) (gates : Stored (part_at g (half_part h) + (64 + k)) (replicate (length more) 1) w1 w2) where
      long : length w1.now ≡ length w0.now
      long = ap length bodies.now ∙ length-overlaid w0.now (part_at g (half_part h) + body_at g.capacity k) (concat more)

      wide : length {A = ℕ} (replicate (length more) 1) ≡ length more
      wide = length-replicate (length more) 1

      put_gates : SameOutside (part_at g (half_part h) + (64 + k)) (length more) w1.now w2.now
      put_gates = rw (← wide) (changed w1 w2 _ _ gates)

      are_ones : slice w2.now (part_at g (half_part h) + (64 + k)) (length more) ≡ replicate (length more) 1
      are_ones =
          ap (λ (l : List ℕ). slice l (part_at g (half_part h) + (64 + k)) (length more)) gates.now
          ∙ ap (λ (m : ℕ). slice (overlaid w1.now (part_at g (half_part h) + (64 + k)) (replicate (length more) 1)) (part_at g (half_part h) + (64 + k)) m) (sym wide)
          ∙ range-overlaid w1.now (part_at g (half_part h) + (64 + k)) (replicate (length more) 1) (omega (arith, wide, gate_room, long, fits, half_inside g h is_half))

      same_length : length w2.now ≡ length w0.now
      same_length = put_gates.size ∙ long

      pub third : HasAppendedAll g h k more w0 w2
      third = record {
        has = has_all w2.now put_gates are_ones;
        ready = record {
          used = used_all w2.now put_gates are_ones;
          shut = shut_all w2.now put_gates are_ones;
          synced = synced_range (part_at g (half_part h)) (part_size g (half_part h)) w2 gates.synced (omega (arith, size, same_length, fits, half_inside g h is_half));
        };
        left = λ c left. record {
          old = w0.now;
          left = itself w0.now w0.unsynced are_bytes;
          change = subst (HasAppended g h more w0.now) (sym (synced_left w2 c gates.synced left)) (has_all w2.now put_gates are_ones);
        };
        synced = λ _. gates.synced;
      }
