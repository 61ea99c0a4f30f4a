-- A core in a step of a checkpoint.
use Rattle.std.proofs.Common.{◌≡◌, ℕ, ◌+◌, ◌-◌, ◌≤◌, Bool, true, false, [], map, length, Option, Some, None, Result, Ok, Err, refl, ap, sym, subst, ◌∙◌, arith}
use Rattle.std.specs.Prelude.{if◌then◌else◌, is_some, nat_lt, option_map, IfSome, OnOk, OnErr}
use Rattle.std.proofs.lemmas.Bool.{ltb-false, true≢false}
use Rattle.std.proofs.lemmas.List.{nil_from_length}
use Rattle.affinity.specs.declared.geometry.Geometry.{Geometry}
use Rattle.recovery.specs.Recovery.{recovered_state}
use Rattle.disk.specs.CrashImages.{CrashImagesAre}
use Rattle.image.specs.Pieces.{piece_count}
use Rattle.checkpoint.specs.Journal.{JournalView, after_call, committed}
use Rattle.checkpoint.specs.DirtyPieces.{DirtyPieces, count_dirty, cut_dirty, flipped_dirty, pointed_dirty}
use Rattle.histories.specs.Events.{point_refusal}
use Rattle.histories.specs.CoreState.{CoreState, held}
use Rattle.histories.specs.declared.outcomes.Outcome.TheVariants as outcomes
use Rattle.histories.specs.declared.outcomes.PointRefusal.{PointRefusal}
use Rattle.histories.specs.declared.outcomes.PointRefusal.TheVariants as points
use Rattle.histories.specs.declared.outcomes.Step.TheVariants as steps
use Rattle.oplog.specs.declared.halves.LogFault.{LogFault}
use Rattle.parcel.proofs.TreeHolds.{whole_holds}
use Rattle.parcel.specs.TreeHolds.{TreeHolds, nowhere}
use Rattle.parcel.specs.Tree.{IsIn, IsWholeTree, tree_nodes, state_in}
use Rattle.parcel.specs.Nodes.{tree_state}
use Rattle.meaning.specs.State.{IsState}
use Rattle.scheduler.proofs.IsCallEvent.{cut_called, point_called}
use Rattle.scheduler.proofs.UnloggedChanges.{held_count}
use Rattle.scheduler.proofs.JournalKeepsCore.{IsSoundIn, called_sound, step_core, step_throughout, with_journal}
use Rattle.scheduler.specs.CoreView.{CoreView, RecoversThroughout, core_state_of}
use Rattle.scheduler.specs.View.{parts, core_view_of, core_state_in}
use Rattle.scheduler.specs.IsCore.{IsSoundCore, IsCore, is_below, reached}
use Rattle.scheduler.specs.declared.server_core.Core.TheInside.{Inside}
use Rattle.scheduler.specs.Parts.{Parts}
use Rattle.scheduler.specs.Slots.{entry_of}

-- ---- where a checkpoint may begin: no message is held, no other one is in progress, the device works

past : (b : Bool) (why : PointRefusal) (o : Option PointRefusal) → (if b then Some why else o) ≡ None → (b ≡ false) × (o ≡ None)
past true why o e = absurd (true≢false (ap is_some e))
past false why o e = (refl, e)

-- the answer of `Core::point_refusal`, about the parts of the core
pub not_refused : {inside now : CoreView} {why : Option PointRefusal} → inside ≡ now → why ≡ point_refusal (core_state_of now) → why ≡ None → point_refusal (core_state_of inside) ≡ None
not_refused view answer none = ap (λ (o : CoreView). point_refusal (core_state_of o)) view ∙ sym answer ∙ none

module _ (keeps : Type 0) (p : Parts) (k : IsCore keeps p) (why : point_refusal (core_state_in p) ≡ None) where
  pub point_works : p.journal.failed ≡ false
  point_works = (past p.journal.failed points.Failed _ why).0

  running : (if is_some p.journal.pieces_left then Some points.Running else (if nat_lt 0 (length (held (core_state_in p))) then Some points.Held else None)) ≡ None
  running = (past p.journal.failed points.Failed _ why).1

  none_held : length p.phases.logged + (length p.phases.ran + length p.phases.in_flight) ≡ 0
  none_held =
      let none = (past (nat_lt 0 (length (held (core_state_in p)))) points.Held None (past (is_some p.journal.pieces_left) points.Running _ running).1).0 in
      let few = ltb-false 0 (length (held (core_state_in p))) none in
      let count = held_count p in
      omega (arith, few, count)

  none_in_flight : p.phases.in_flight ≡ []
  none_in_flight = nil_from_length p.phases.in_flight (let none = none_held in omega (arith, none))

  none_ran : p.phases.ran ≡ []
  none_ran = nil_from_length p.phases.ran (let none = none_held in omega (arith, none))

  whole_tree : TreeHolds p.journal.geometry nowhere (tree_nodes p.tree) (core_state_in p).committed
  whole_tree =
      subst (λ os. TreeHolds p.journal.geometry (is_below p.journal.geometry (map entry_of os)) (tree_nodes p.tree) (core_state_in p).committed) none_in_flight
      (subst (λ rs. TreeHolds p.journal.geometry (is_below p.journal.geometry (map entry_of p.phases.in_flight)) (tree_nodes p.tree)
      (reached p.journal.geometry (core_state_in (record p { phases = record p.phases { ran = rs } })))) none_ran k.tree)

  pub point_whole : IsWholeTree p.tree
  point_whole =
      let whole = whole_holds p.journal.geometry (tree_nodes p.tree) (core_state_in p).committed whole_tree in
      record {
        all_in = subst (λ (g : Geometry). IsIn g [] (tree_nodes p.tree)) (sym k.geometry) whole.0;
        state = subst (λ (g : Geometry). IsState g (tree_state g (tree_nodes p.tree))) (sym k.geometry) (subst (IsState p.journal.geometry) (sym whole.1) whole_tree.state);
      }

  pub point_state : keeps → committed p.journal ≡ Some (state_in p.tree)
  point_state keep =
      k.is_committed keep point_works
      ∙ ap Some (sym (whole_holds p.journal.geometry (tree_nodes p.tree) (core_state_in p).committed whole_tree).1)
      ∙ ap (λ (g : Geometry). Some (tree_state g (tree_nodes p.tree))) (sym k.geometry)

-- ---- a step that was made, or at which the device failed

-- the step has changed the journal alone
pub called_core : {D : Type 0} {keeps : Type 0} {core : Inside D} {new : JournalView} → IsSoundCore keeps core → IsCore keeps (record (parts core) { journal = new })
    → IsSoundCore keeps (record core { journal = new })
called_core is made = record { chains = is.chains; core = made; batch = is.batch; replies = is.replies; ran = is.ran }

module _ (keeps : Type 0) (p : Parts) (k : IsCore keeps p) (works : p.journal.failed ≡ false) (new : JournalView)
    (any : keeps → CrashImagesAre p.journal.medium new.medium (λ c. recovered_state p.journal.geometry c ≡ committed p.journal)) where
  pub made_core : (room : ℕ) (pieces_left : Option ℕ) (dirty : DirtyPieces) → new ≡ record p.journal { room = room; pieces_left = pieces_left; dirty = dirty; medium = new.medium }
      → (keeps → committed new ≡ committed p.journal) → IsSoundIn (with_journal p room pieces_left p.journal.failed dirty new.medium)
      → IsCore keeps (record p { journal = new })
  made_core room pieces_left dirty is same sound = subst (λ (j : JournalView). IsCore keeps (record p { journal = j })) (sym is)
      (step_core keeps p k works new.medium any room pieces_left p.journal.failed dirty sound (λ keep fine. sym (ap committed is) ∙ same keep))

  pub broken_core : new ≡ record p.journal { failed = true; medium = new.medium }
      → IsSoundIn (with_journal p p.journal.room p.journal.pieces_left true p.journal.dirty new.medium) → IsCore keeps (record p { journal = new })
  broken_core is sound = subst (λ (j : JournalView). IsCore keeps (record p { journal = j })) (sym is)
      (step_core keeps p k works new.medium any p.journal.room p.journal.pieces_left true p.journal.dirty sound (λ keep fine. absurd (true≢false fine)))

  pub step_moment : {self : CoreView} → core_view_of p ≡ self → keeps → RecoversThroughout [] self (core_view_of (record p { journal = new }))
  step_moment view keep = subst (λ o. RecoversThroughout [] o (core_view_of (record p { journal = new }))) view
      (step_throughout keeps p k works new.medium any (core_view_of (record p { journal = new })) refl keep)

module _ (keeps : Type 0) (p : Parts) (k : IsCore keeps p) (new : JournalView)
    (any : keeps → CrashImagesAre p.journal.medium new.medium (λ c. recovered_state p.journal.geometry c ≡ committed p.journal)) where
  abbrev g : Geometry
  g = p.journal.geometry

  abbrev w : CoreState
  w = core_state_in p

  -- if the device fails, the core state stays sound
  failed_sound : IsSoundIn (with_journal p p.journal.room p.journal.pieces_left true p.journal.dirty new.medium)
  failed_sound = (assumption k.sound, k.few_pieces)

  pointed_sound : point_refusal (core_state_in p) ≡ None → IsSoundIn (with_journal p g.half p.journal.pieces_left p.journal.failed new.dirty new.medium)
  pointed_sound why = (
    called_sound g w (record w { room = g.half }) steps.Point outcomes.Pointed false (point_called g w (record w { room = g.half }) (Ok tt) (why, refl)) k.sound,
    k.few_pieces,
  )

  cut_sound : point_refusal (core_state_in p) ≡ None → (n : ℕ) → n ≤ piece_count g → IsSoundIn (with_journal p g.half (Some n) p.journal.failed new.dirty new.medium)
  cut_sound why n few = (
    called_sound g w (record w { room = g.half; pieces_left = Some n }) steps.Cut outcomes.Cut false
        (cut_called g w (record w { room = g.half; pieces_left = Some n }) (Ok tt) (why, (n, few, refl))) k.sound,
    few,
  )

  -- with no more pieces left to write than there are, the core state stays sound
  left_sound : (pieces_left : Option ℕ) (dirty : DirtyPieces) → IfSome pieces_left (λ n. n ≤ piece_count g)
      → IsSoundIn (with_journal p p.journal.room pieces_left p.journal.failed dirty new.medium)
  left_sound pieces_left dirty few = (assumption k.sound, few)

  fewer : (pieces_left : Option ℕ) → IfSome pieces_left (λ n. n ≤ piece_count g) → IfSome (option_map (λ l. l - 1) pieces_left) (λ n. n ≤ piece_count g)
  fewer None few = tt
  fewer (Some n) few = omega (arith, few)

  made_or_broken : {T : Type 0} (result : Result T LogFault) → p.journal.failed ≡ false → OnOk result (keeps → committed new ≡ committed p.journal)
      → (room : ℕ) (pieces_left : Option ℕ) (dirty : DirtyPieces)
      → IsSoundIn (with_journal p room pieces_left p.journal.failed dirty new.medium)
      → new ≡ after_call result (record p.journal { room = room; pieces_left = pieces_left; dirty = dirty; medium = new.medium }) p.journal
      → IsCore keeps (record p { journal = new })
  made_or_broken (Ok x) works same room pieces_left dirty sound is = made_core keeps p k works new any room pieces_left dirty is same sound
  made_or_broken (Err e) works same room pieces_left dirty sound is = broken_core keeps p k works new any is failed_sound

  module _ (result : Result (Unit {0}) LogFault) (why : point_refusal (core_state_in p) ≡ None) (settles : OnOk result (keeps → committed new ≡ committed p.journal)) where
    pub point_core : new ≡ after_call result (record p.journal { room = p.journal.geometry.half; dirty = pointed_dirty p.journal.dirty; medium = new.medium }) p.journal
        → IsCore keeps (record p { journal = new })
    point_core is = made_or_broken result (point_works keeps p k why) settles g.half p.journal.pieces_left (pointed_dirty p.journal.dirty)
        (pointed_sound why) is

    abbrev pub cut_journal : JournalView
    cut_journal = record p.journal { room = g.half; pieces_left = Some (count_dirty p.journal.dirty.other); dirty = cut_dirty p.journal.dirty; medium = new.medium }

    pub cut_core : OnOk result (new ≡ cut_journal) → OnOk result (count_dirty p.journal.dirty.other ≤ piece_count g)
        → OnErr result (new ≡ record p.journal { failed = true; medium = new.medium }) → IsCore keeps (record p { journal = new })
    cut_core begun few broken = by result begun few broken settles
      where
        by : (r : Result (Unit {0}) LogFault) → OnOk r (new ≡ cut_journal) → OnOk r (count_dirty p.journal.dirty.other ≤ piece_count g)
            → OnErr r (new ≡ record p.journal { failed = true; medium = new.medium }) → OnOk r (keeps → committed new ≡ committed p.journal)
            → IsCore keeps (record p { journal = new })
        by (Ok u) begun few broken same =
            made_core keeps p k (point_works keeps p k why) new any g.half (Some (count_dirty p.journal.dirty.other)) (cut_dirty p.journal.dirty)
            begun same (cut_sound why (count_dirty p.journal.dirty.other) few)
        by (Err e) begun few broken same = broken_core keeps p k (point_works keeps p k why) new any broken failed_sound

  module _ (result : Result ℕ LogFault) (works : p.journal.failed ≡ false)
      (settles : OnOk result (keeps → committed new ≡ committed p.journal)) where
    pub piece_core : new ≡ after_call result (record p.journal { pieces_left = option_map (λ l. l - 1) p.journal.pieces_left; medium = new.medium }) p.journal
        → IsCore keeps (record p { journal = new })
    piece_core is = made_or_broken result works settles p.journal.room (option_map (λ l. l - 1) p.journal.pieces_left) p.journal.dirty
        (left_sound _ p.journal.dirty (fewer p.journal.pieces_left k.few_pieces)) is

  module _ (result : Result (Unit {0}) LogFault) (works : p.journal.failed ≡ false)
      (settles : OnOk result (keeps → committed new ≡ committed p.journal)) where
    pub flip_core : new ≡ after_call result (record p.journal { pieces_left = None; dirty = flipped_dirty p.journal.dirty; medium = new.medium }) p.journal → IsCore keeps (record p { journal = new })
    flip_core is = made_or_broken result works settles p.journal.room None (flipped_dirty p.journal.dirty) (left_sound None (flipped_dirty p.journal.dirty) tt) is
