-- Records that are run one after the other, from the state after those that were run already.
use Rattle.std.proofs.Common.{◌≡◌, ℕ, suc, ◌+◌, ◌<◌, List, [], ◌∷◌, length, drop, Option, Some, None, is_none, is_some, refl, sym, ◌∙◌, ap, subst, add-one}
use Rattle.std.specs.Prelude.{if◌then◌else◌}
use Rattle.std.proofs.lemmas.List.{drop_more}
use Rattle.affinity.specs.declared.geometry.Geometry.{Geometry}
use Rattle.recovery.specs.declared.fault.OpenFault.{OpenFault}
use Rattle.recovery.specs.declared.fault.OpenFault.TheVariants.{BadRecord}
use Rattle.recovery.specs.OpenFaults.{IsConsistentFault, record_fault, records_fault}
use Rattle.recovery.specs.Recovery.{after_record, decoding}
use Rattle.recovery.specs.Refusals.{fault_if, fault_or_later, first_bad_record}
use Rattle.disk.specs.Device.{Medium, Moment, moments}
use Rattle.oplog.specs.HalfContent.{front, record_at}
use Rattle.device_map.specs.Layout.{Layout}
use Rattle.oplog.specs.Log.{Log, layout_of_log}
use Rattle.oplog.specs.Recovery.{run}
use Rattle.oplog.proofs.PartsRead.{front_record}
use Rattle.meaning.specs.State.{State}
use Rattle.recovery.proofs.Refusals.{fault_from}

-- ---- what a read leaves

now_in : List Moment → List ℕ
now_in [] = []
now_in (m ∷ ms) = m.now

pub same_bytes : (old new : Medium) → moments new ≡ moments old → new.now ≡ old.now
unfolding now_in
same_bytes old new same = ap (λ (ms : List Moment). now_in ms) same

-- ---- faults

-- ---- one record of several

module _ (g : Geometry) (h i : ℕ) (x : State) (r : List ℕ) (rs : List (List ℕ)) where
  bad_here : (e : OpenFault) → record_fault g x h i r ≡ Some e → fault_or_later (BadRecord h) (first_bad_record g i (Some x) (r ∷ rs)) None ≡ Some e
  bad_here e is = by (after_record g x r) is
    where
      by : (o : Option State) → fault_if (is_none o) (BadRecord h i) None ≡ Some e → fault_or_later (BadRecord h) (if is_some o then first_bad_record g (suc i) o rs else Some i) None ≡ Some e
      by None is = is
      by (Some y) is = cc

  runs : (y : State) → after_record g x r ≡ Some y → run (decoding g) (Some x) (r ∷ rs) ≡ run (decoding g) (Some y) rs
  runs y is = ap (λ (o : Option State). run (decoding g) o rs) is

  good_here : (y : State) → after_record g x r ≡ Some y → first_bad_record g i (Some x) (r ∷ rs) ≡ first_bad_record g (i + 1) (Some y) rs
  good_here y is =
      ap (λ (o : Option State). if is_some o then first_bad_record g (suc i) o rs else Some i) is
      ∙ ap (λ (k : ℕ). first_bad_record g k (Some y) rs) (sym (add-one i))

-- ---- the front of a half, of which i records were run

module _ (g : Geometry) (l : Layout) (h : ℕ) (c : List ℕ) (x0 : State) where
  -- running the records that are left, on the state x, gives what running all of them on x0 gives
  pub record IsAt (i : ℕ) (x : State) : Type 0 where
    pub ran : run (decoding g) (Some x0) (front l h c) ≡ run (decoding g) (Some x) (drop i (front l h c))
    pub first : first_bad_record g 0 (Some x0) (front l h c) ≡ first_bad_record g i (Some x) (drop i (front l h c))

  next : (i : ℕ) → i < length (front l h c) → drop i (front l h c) ≡ record_at l h i c ∷ drop (i + 1) (front l h c)
  next i few = drop_more (front l h c) i [] few ∙ ap (λ (r : List ℕ). r ∷ drop (i + 1) (front l h c)) (front_record l h i c few)

  pub at_first : IsAt 0 x0
  at_first = record { ran = refl; first = refl }

  pub at_next : (i : ℕ) (x y : State) → i < length (front l h c) → after_record g x (record_at l h i c) ≡ Some y → IsAt i x → IsAt (i + 1) y
  at_next i x y few is before = record {
    ran = before.ran ∙ ap (λ (rs : List (List ℕ)). run (decoding g) (Some x) rs) (next i few) ∙ runs g h i x (record_at l h i c) (drop (i + 1) (front l h c)) y is;
    first = before.first ∙ ap (λ (rs : List (List ℕ)). first_bad_record g i (Some x) rs) (next i few) ∙ good_here g h i x (record_at l h i c) (drop (i + 1) (front l h c)) y is;
  }

  pub bad_at : (i : ℕ) (x : State) → i < length (front l h c) → IsAt i x → (e : OpenFault)
      → IsConsistentFault (record_fault g x h i (record_at l h i c)) e → IsConsistentFault (records_fault g x0 h (front l h c)) e
  bad_at i x few before =
      fault_from _ _
      (λ e is.
      ap (λ (o : Option ℕ). fault_or_later (BadRecord h) o None) (before.first ∙ ap (λ (rs : List (List ℕ)). first_bad_record g i (Some x) rs) (next i few))
      ∙ bad_here g h i x (record_at l h i c) (drop (i + 1) (front l h c)) e is)

-- ---- the same by the geometry of a tree, a log and bytes that are equal to these

module _ {a b : Log} (log : b ≡ a) {c d : List ℕ} (bytes : d ≡ c) (half : ℕ) {g h : Geometry} (geometry : h ≡ g) (x : State) (i : ℕ) where
  pub apply_same : after_record h x (record_at (layout_of_log b) half i d) ≡ after_record g x (record_at (layout_of_log a) half i c)
  apply_same = λ j. after_record (geometry j) x (record_at (layout_of_log (log j)) half i (bytes j))

  pub record_fault_same : (e : OpenFault) → IsConsistentFault (record_fault h x half i (record_at (layout_of_log b) half i d)) e
      → IsConsistentFault (record_fault g x half i (record_at (layout_of_log a) half i c)) e
  record_fault_same e = subst (λ (o : Option OpenFault). IsConsistentFault o e) (λ j. record_fault (geometry j) x half i (record_at (layout_of_log (log j)) half i (bytes j)))
