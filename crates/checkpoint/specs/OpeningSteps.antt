-- Inner: The steps of an opening: what they ask, and what they leave.
use Rattle.std.specs.Prelude.{◌≡◌, ℕ, List, [], Some, None}
use Rattle.affinity.specs.declared.geometry.Geometry.{Geometry}
use Rattle.recovery.specs.declared.fault.OpenFault.{OpenFault}
use Rattle.recovery.specs.declared.fault.OpenFault.TheVariants.{Device, BadRecord}
use Rattle.recovery.specs.Header.{HasHeader}
use Rattle.recovery.specs.Recovery.{recovered_state}
use Rattle.recovery.specs.Refusals.{refused}
use Rattle.recovery.specs.Version.{named_version}
use Rattle.disk.specs.Device.{Medium}
use Rattle.image.specs.declared.layout.TheConstants.{VERSION}
use Rattle.checkpoint.specs.declared.opening.Parts.{Parts}
use Rattle.checkpoint.specs.Buffers.{FitBuffers}
use Rattle.checkpoint.specs.IsSoundJournal.{IsSoundJournal}
use Rattle.checkpoint.specs.DirtyPieces.{opened_dirty, dirty_pieces_of}
use Rattle.checkpoint.specs.Opening.{IsBadAfterCut}
use Rattle.checkpoint.specs.Extents.{AreAllDirty}
use Rattle.oplog.specs.Calls.{IsUsable}
use Rattle.oplog.specs.Log.{new_log}
use Rattle.oplog.specs.Recovery.{records_in}
use Rattle.parcel.specs.Tree.{IsWholeTree, state_in}
use Rattle.meaning.specs.State.{empty}

-- The fault is that the device failed; or that a record is bad in `half`, the half whose front followed that of the named half,
-- and in that case the cut was finished first.
abbrev pub IsFaultAfterCut : Geometry → ℕ → Medium → Medium → OpenFault → Type 0
IsFaultAfterCut g half old new Device = Unit {0}
IsFaultAfterCut g half old new (BadRecord h i) = (h ≡ half) × IsBadAfterCut g h i old new
IsFaultAfterCut g half old new fault = ⊥

-- These bytes have the header of this geometry, and are refused for the same fault as those before, if they were.
pub record IsRefusedAlike (g : Geometry) (before c : List ℕ) : Type 0 where
  pub header : HasHeader g c
  pub refused : refused g c ≡ refused g before

-- The parts as they are taken: an empty tree, a log of which nothing is known, room for an image, and the flags of each
-- piece. Each has the size that the tree's geometry asks for.
pub record AreUnloaded (p : Parts) : Type 0 where
  pub tree : IsWholeTree p.tree
  pub empty : state_in p.tree ≡ empty
  pub log : p.halves ≡ new_log p.tree.geometry
  pub fit : FitBuffers p.tree.geometry p.buffers
  pub dirty : dirty_pieces_of p.buffers ≡ opened_dirty p.tree.geometry
  pub all : AreAllDirty p.tree.geometry p.buffers.other_dirty.items

-- The parts once a device is loaded: the log hasn't failed, and the half of the named area is current; no part of the tree is
-- lent; and the other image is dirty in all its pieces, so that it is written whole.
pub record AreLoaded (p : Parts) (m : Medium) : Type 0 where
  pub tree : IsWholeTree p.tree
  pub geometry : p.tree.geometry ≡ p.halves.geometry
  pub usable : IsUsable p.halves m
  pub current_is_named : p.halves.current ≡ p.halves.named
  pub fit : FitBuffers p.halves.geometry p.buffers
  pub all : AreAllDirty p.halves.geometry p.buffers.other_dirty.items

-- What a journal is made of: besides, the log has no record and all its room, and the named image has no dirty piece.
pub record IsMade (p : Parts) (m : Medium) : Type 0 where
  pub loaded : AreLoaded p m
  pub used : p.halves.used ≡ 0
  pub dirty : dirty_pieces_of p.buffers ≡ opened_dirty p.halves.geometry

-- The parts were opened from a device with these bytes, and the tree holds the state to which they recover.
pub record IsMadeOf (c : List ℕ) (p : Parts) (m : Medium) : Type 0 where
  pub header : HasHeader p.tree.geometry c
  pub accepted : refused p.tree.geometry c ≡ None
  pub was : recovered_state p.tree.geometry c ≡ Some (state_in p.tree)
  pub is : recovered_state p.halves.geometry m.now ≡ Some (state_in p.tree)
  pub version : named_version p.halves.geometry m.now ≡ VERSION
  pub emptied : records_in p.halves.geometry m.now ≡ []
  pub sound : IsSoundJournal p.halves p.buffers.snapshot.items p.buffers.named_dirty.items p.buffers.other_dirty.items
      p.buffers.pending.items None m
