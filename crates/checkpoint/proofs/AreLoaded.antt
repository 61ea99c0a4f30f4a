-- What a device recovers to, once its named area was loaded.
use Rattle.std.proofs.Common.{◌≡◌, ◌==◌, ◌≤◌, ℕ, Bool, true, false, List, [], Option, Some, None, is_some, length, refl, sym, ◌∙◌, ap, subst, arith, true≢false}
use Rattle.affinity.specs.declared.geometry.Geometry.{Geometry}
use Rattle.recovery.specs.Header.{HasHeader}
use Rattle.recovery.specs.NamedHolds.{NamedHolds}
use Rattle.recovery.specs.Recovery.{recovered_state, decoding}
use Rattle.recovery.specs.Refusals.{refused}
use Rattle.recovery.specs.Version.{named_version}
use Rattle.recovery.proofs.NamedHolds.{alone_holds, follows, laid_out}
use Rattle.recovery.proofs.Replays.{same_bytes}
use Rattle.disk.specs.CrashImages.{AreBytes}
use Rattle.disk.specs.Device.{IsSynced, Medium, moments}
use Rattle.disk.proofs.IsSynced.{synced_left}
use Rattle.image.specs.Image.{image_of, image_state}
use Rattle.image.proofs.ReadImage.{read_again}
use Rattle.image.specs.declared.layout.TheConstants.{VERSION}
use Rattle.checkpoint.specs.declared.journal.Buffers.{Buffers}
use Rattle.checkpoint.specs.declared.opening.Parts.{Parts}
use Rattle.checkpoint.specs.Buffers.{FitBuffers, KeepsBuffers}
use Rattle.checkpoint.specs.Journal.{JournalView, journal_view_of}
use Rattle.checkpoint.specs.DirtyPieces.{opened_dirty, dirty_pieces_of}
use Rattle.checkpoint.specs.Opening.{IsOpened}
use Rattle.checkpoint.specs.OpeningSteps.{AreLoaded, AreUnloaded, IsMade, IsMadeOf}
use Rattle.checkpoint.specs.RecoversByArea.{RecoversByNamedAlone, run_on}
use Rattle.checkpoint.specs.PointAndCut.{IsPointed, IsCutUnfinished, pointed_log}
use Rattle.checkpoint.specs.Extents.{AreAllDirty}
use Rattle.checkpoint.proofs.JournalLemmas.{recoverable_of, sound_along}
use Rattle.checkpoint.proofs.PointOrCut.{HoldsAlone, pointed_sound, pointed_version}
use Rattle.checkpoint.proofs.RecoversByArea.{holds_now, shut_current}
use Rattle.oplog.specs.HalfContent.{chain, front}
use Rattle.device_map.specs.Layout.{layout_of, device_size, other}
use Rattle.oplog.specs.Log.{Log, new_log, with_half_named}
use Rattle.oplog.specs.Recovery.{named_area, records_in, recovers_by_area}
use Rattle.parcel.specs.Tree.{IsWholeTree, TreeView, state_in}
use Rattle.meaning.specs.State.{State, IsState}

pub alone_recovers : (log : Log) (m : Medium) (x : State) → NamedHolds log.geometry m.now log.named false x → IsSynced m → RecoversByNamedAlone log m
alone_recovers log m x is synced = record {
  some = ap is_some (alone_holds log.geometry m.now log.named x is);
  recovers = λ c left.
      let same = synced_left m c synced left in
      record {
        named = ap (λ (l : List ℕ). named_area (layout_of log.geometry) l) same ∙ sym is.named;
        current = shut_current (layout_of log.geometry) log.named c (ap (λ (l : List ℕ). chain (layout_of log.geometry) log.named l == 1) same ∙ sym is.chain);
        is = λ i. recovers_by_area (decoding log.geometry) (layout_of log.geometry) (is.named i) (same i);
      };
}

pub unfinished_cut : (log : Log) (m : Medium) (x : State) (bytes : List ℕ) → NamedHolds log.geometry m.now log.named true x → IsSynced m
    → IsState log.geometry x → bytes ≡ image_of VERSION log.geometry x → IsCutUnfinished log bytes m
unfinished_cut log m x bytes is synced is_state spelled = record {
  synced = synced;
  laid = laid_out log.geometry m.now log.named x is;
  named = sym is.named;
  chained = follows log.geometry m.now log.named x is;
  reads =
      ap (image_state log.geometry) spelled ∙ read_again log.geometry x is_state
      ∙ sym (ap (λ (o : Option State). run_on log.geometry o (front (layout_of log.geometry) log.named m.now)) is.decoded ∙ is.ran);
}

-- ---- the same by the log's geometry and named half, on the device after it was only read

abbrev pub loaded_log : Geometry → ℕ → Log
loaded_log g n = with_half_named n (new_log g)

pub held_after : {g : Geometry} {log : Log} {n : ℕ} {t u : Bool} {x : State} → (w0 w1 : Medium) → log ≡ loaded_log g n → t ≡ u → moments w1
    ≡ moments w0 → NamedHolds g w0.now n t x → NamedHolds log.geometry w1.now log.named u x
held_after {g} {n} {t} {u} {x} w0 w1 is chained only held = rw (is, ← chained, same_bytes w0 w1 only) held

-- ---- the parts

pub kept_then : (p q r : Buffers) → KeepsBuffers p q → KeepsBuffers q r → KeepsBuffers p r
kept_then p q r first second = record { size = second.size ∙ first.size; flags = second.flags ∙ ap (λ (b : Buffers). record b { snapshot = r.snapshot }) first.flags }

-- Buffers of the sizes that this geometry asks for, where all flags of the other image are set.
pub record HasRoom (g : Geometry) (b : Buffers) : Type 0 where
  pub fit : FitBuffers g b
  pub all : AreAllDirty g b.other_dirty.items

room_kept : {g : Geometry} {p q : Buffers} → KeepsBuffers p q → HasRoom g p → HasRoom g q
room_kept {g} kept room = record {
  fit = record {
    snapshot = kept.size ∙ room.fit.snapshot;
    named_dirty = (λ i. length (kept.flags i).named_dirty.items) ∙ room.fit.named_dirty;
    other_dirty = (λ i. length (kept.flags i).other_dirty.items) ∙ room.fit.other_dirty;
    pending = (λ i. length (kept.flags i).pending.items) ∙ room.fit.pending;
  };
  all = subst (λ (row : List Bool). AreAllDirty g row) (sym (λ i. (kept.flags i).other_dirty.items)) room.all;
}

-- parts q are loaded, with this log, if they keep buffers that have the sizes that the log's geometry asks for
pub are_loaded : {b : Buffers} {q : Parts} {log : Log} {m : Medium} → q.halves ≡ log → log.failed ≡ false → log.current ≡ log.named → IsWholeTree q.tree
    → q.tree.geometry ≡ log.geometry → KeepsBuffers b q.buffers → HasRoom log.geometry b → device_size (layout_of log.geometry) ≤ length m.now → AreLoaded q m
are_loaded {q} {log} {m} is_log not_failed current_is_named tree geometry kept room long_enough =
    let same : q.halves.geometry ≡ log.geometry = ap (λ (l : Log). l.geometry) is_log in
    let own = subst (λ (h : Geometry). HasRoom h q.buffers) (sym same) (room_kept kept room) in
    record {
      tree = tree;
      geometry = geometry ∙ sym same;
      usable = record {
        not_failed = ap (λ (l : Log). l.failed) is_log ∙ not_failed;
        long_enough = subst (λ (h : Geometry). device_size (layout_of h) ≤ length m.now) (sym same) long_enough;
      };
      current_is_named = ap (λ (l : Log). l.current) is_log ∙ current_is_named ∙ sym (ap (λ (l : Log). l.named) is_log);
      fit = own.fit;
      all = own.all;
    }

-- once the point that ends an opening is made
pub made : {p q r : Parts} {w2 w3 : Medium} → AreUnloaded p → q.halves.geometry ≡ p.tree.geometry → KeepsBuffers p.buffers q.buffers → AreLoaded q w2
    → KeepsBuffers q.buffers r.buffers → r.tree ≡ q.tree → r.halves ≡ pointed_log q.halves → length w3.now ≡ length w2.now → IsMade r w3
made {p} {q} {r} {w3} taken same room loaded room' tree log long =
    let is : r.halves.geometry ≡ q.halves.geometry = ap (λ (l : Log). l.geometry) log in
    let kept = kept_then p.buffers q.buffers r.buffers room room' in
    record {
      loaded = are_loaded {b = q.buffers} {q = r} log loaded.usable.not_failed refl (subst (λ (t : TreeView). IsWholeTree t) (sym tree) loaded.tree)
          ((λ i. (tree i).geometry) ∙ loaded.geometry) room' (record { fit = loaded.fit; all = loaded.all }) (omega (arith, long, loaded.usable.long_enough));
      used = ap (λ (l : Log). l.used) log;
      dirty = (λ i. dirty_pieces_of (kept.flags i)) ∙ taken.dirty ∙ sym (ap opened_dirty (is ∙ same));
    }

-- ---- in the words of contracts

pub opened : (p : Parts) (old m : Medium) (j : JournalView) → IsMade p m → IsMadeOf old.now p m → j
    ≡ journal_view_of p.halves p.buffers.named_dirty.items p.buffers.other_dirty.items None m → IsOpened old j (state_in p.tree)
opened p old m j made is same =
    subst (λ (h : JournalView). IsOpened old h (state_in p.tree)) (sym same)
    (record {
      header = subst (λ (g : Geometry). HasHeader g old.now) made.loaded.geometry is.header;
      accepted = sym (ap (λ (g : Geometry). refused g old.now) made.loaded.geometry) ∙ is.accepted;
      was = sym (ap (λ (g : Geometry). recovered_state g old.now) made.loaded.geometry) ∙ is.was;
      is = is.is;
      version = is.version;
      recoverable = recoverable_of is.sound;
      emptied = is.emptied;
      dirty = made.dirty;
      state = subst (λ (g : Geometry). IsState g (state_in p.tree)) made.loaded.geometry made.loaded.tree.state;
    })

-- A device with these bytes is one of this geometry, isn't refused, and recovers to this state.
pub record RecoversTo (g : Geometry) (c : List ℕ) (x : State) : Type 0 where
  pub header : HasHeader g c
  pub accepted : refused g c ≡ None
  pub was : recovered_state g c ≡ Some x

pub made_of : {p : Parts} {log : Log} {c : List ℕ} {w2 w3 : Medium} → AreBytes w3.now → RecoversTo p.tree.geometry c (state_in p.tree)
    → p.halves ≡ pointed_log log → p.tree.geometry ≡ log.geometry → p.buffers.snapshot.items ≡ image_of VERSION p.tree.geometry (state_in p.tree)
    → AreAllDirty log.geometry p.buffers.other_dirty.items → HoldsAlone log (state_in p.tree) w2 → IsPointed log p.buffers.snapshot.items w2 w3 → IsMadeOf c p w3
made_of {p} {log} {w2} {w3} are before is_log geometry spelled all alone made =
    let same : p.halves.geometry ≡ log.geometry = ap (λ (l : Log). l.geometry) is_log in
    let spelled' = spelled ∙ ap (λ (g : Geometry). image_of VERSION g (state_in p.tree)) geometry in
    record {
      header = before.header;
      accepted = before.accepted;
      was = before.was;
      is = ap (λ (g : Geometry). recovered_state g w3.now) same ∙ holds_now log.geometry (other log.named) (other log.named) (recovered_state log.geometry w2.now) w3 are made.at.recovers ∙ alone.is;
      version = ap (λ (g : Geometry). named_version g w3.now) same ∙ pointed_version log p.buffers.snapshot.items w2 w3 (state_in p.tree) are spelled' made;
      emptied = subst (λ (g : Geometry). records_in g w3.now ≡ []) (sym same) made.emptied;
      sound = sound_along is_log refl refl refl refl
          (pointed_sound alone spelled' are made (λ z is n few clean. absurd (true≢false (sym (all n few) ∙ clean))));
    }
