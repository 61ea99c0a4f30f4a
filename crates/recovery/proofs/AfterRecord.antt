-- What becomes of a state by a record that was read.
use Rattle.std.proofs.Common.{◌≡◌, ℕ, Bool, true, false, ◌&&◌, List, length, Option, Some, None, is_none, Err, refl, sym, ◌∙◌, ap, subst}
use Rattle.std.specs.Prelude.{if◌then◌else◌}
use Rattle.std.specs.Str.{bytes_eq}
use Rattle.std.proofs.lemmas.Bool.{and_parts, and_right, false_from_ne_true}
use Rattle.std.proofs.lemmas.Slice.Eq.{bytes_eq-Decides}
use Rattle.affinity.specs.declared.geometry.Geometry.{Geometry}
use Rattle.affinity.specs.Kind.{is_changing}
use Rattle.recovery.specs.declared.fault.OpenFault.TheVariants as faults
use Rattle.recovery.specs.OpenFaults.{IsConsistentFault, fault_of_log, record_fault}
use Rattle.recovery.specs.Recovery.{after_record, apply_decoded, is_record_there}
use Rattle.recovery.specs.Refusals.{fault_if}
use Rattle.protocol.specs.declared.sizes.TheConstants.{RECORD_SIZE}
use Rattle.disk.specs.CrashImages.{AreBytes}
use Rattle.protocol.specs.declared.messages.Msg.{Msg}
use Rattle.protocol.specs.declared.replies.Reply.{Reply}
use Rattle.protocol.specs.declared.replies.Reply.TheVariants.{Done}
use Rattle.protocol.specs.Messages.{IsMessage, is_in_range, kind}
use Rattle.message.specs.Records.{message_in_fields, record_of}
use Rattle.message.proofs.RecordLemmas.{record_says}
use Rattle.oplog.specs.declared.halves.LogFault.{LogFault}
use Rattle.oplog.specs.declared.halves.LogFault.TheVariants.{Device, BadRecord}
use Rattle.oplog.specs.Log.{NamesRecord, IsOfRecord}
use Rattle.oplog.specs.ChangeRecords.{IsChangeInRange, IsNoChangeRecord}
use Rattle.oplog.proofs.ChangeRecords.{no_record_says_none}
use Rattle.meaning.specs.Step.{is_done, is_recorded, next_state, reply_to}
use Rattle.meaning.specs.State.{State}

not_done : (r : Reply) → (r ≡ Done → ⊥) → is_done r ≡ false
not_done Done differs = absurd (differs refl)
not_done _ differs = refl

-- a record of a message that is a change in range
module _ (g : Geometry) (x : State) (m : Msg) (bytes : List ℕ) (whole : IsMessage m) (logged : IsChangeInRange g m) (are : bytes ≡ record_of m) where
  decoded : after_record g x bytes ≡ apply_decoded g x bytes (Some m)
  decoded = ap (λ (o : Option Msg). apply_decoded g x bytes o) (ap message_in_fields are ∙ record_says g m whole logged.1)

  -- if the message is carried out, its record leads to the state after it
  pub carried : reply_to g x m ≡ Done → after_record g x bytes ≡ Some (next_state g x m)
  carried done =
      let same : bytes_eq bytes (record_of m) ≡ true = (bytes_eq-Decides bytes (record_of m)).1 are in
      decoded ∙ (λ i. if same i && logged.1 i && (logged.0 i && is_done (done i)) then Some (next_state g x m) else None)

  -- if it isn't, its record can't be run
  pub not_carried : (reply_to g x m ≡ Done → ⊥) → after_record g x bytes ≡ None
  not_carried differs =
      decoded ∙ ap (λ (b : Bool). if b then Some (next_state g x m) else None)
      (and_right (bytes_eq bytes (record_of m) && is_in_range g m) (is_recorded m (reply_to g x m)) (and_right (is_changing (kind m)) (is_done (reply_to g x m)) (not_done (reply_to g x m) differs)))

-- bytes that are the record of no change in range
pub no_record : (g : Geometry) (x : State) (bytes : List ℕ) → length bytes ≡ RECORD_SIZE → AreBytes bytes → IsNoChangeRecord g bytes → after_record g x bytes ≡ None
no_record g x bytes size are none = by (message_in_fields bytes) refl
  where
    by : (o : Option Msg) → message_in_fields bytes ≡ o → apply_decoded g x bytes o ≡ None
    by None is = refl
    by (Some m) is =
        ap (λ (b : Bool). if b then Some (next_state g x m) else None)
        (false_from_ne_true (is_record_there g x bytes m)
        (λ there.
        let first = and_parts (bytes_eq bytes (record_of m) && is_in_range g m) (is_recorded m (reply_to g x m)) there in
        let second = and_parts (bytes_eq bytes (record_of m)) (is_in_range g m) first.0 in
        let third = and_parts (is_changing (kind m)) (is_done (reply_to g x m)) first.1 in
        no_record_says_none g bytes size are none m is (third.0, second.1) ((bytes_eq-Decides bytes (record_of m)).0 second.0)))

module _ {g h : Geometry} (same : h ≡ g) (x : State) (half i : ℕ) (bytes : List ℕ) where
  -- The fault of a record that couldn't be read is consistent with its bytes.
  pub read_fault : length bytes ≡ RECORD_SIZE → AreBytes bytes → (e : LogFault) → IsOfRecord h bytes (Err e) → NamesRecord half i (Err e)
      → IsConsistentFault (record_fault g x half i bytes) (fault_of_log e)
  read_fault size are Device of_it about = tt
  read_fault size are (BadRecord a b) of_it about =
      ap (λ (o : Option State). fault_if (is_none o) (faults.BadRecord half i) None) (no_record g x bytes size are (subst (λ (k : Geometry). IsNoChangeRecord k bytes) same of_it))
      ∙ (λ j. Some (faults.BadRecord (sym about.0 j) (sym about.1 j)))

  -- A record whose message isn't carried out is a bad one.
  pub not_run : (m : Msg) → IsMessage m → IsChangeInRange h m → bytes ≡ record_of m → (reply_to g x m ≡ Done → ⊥) → record_fault g x half i bytes ≡ Some (faults.BadRecord half i)
  not_run m whole logged are differs =
      ap (λ (o : Option State). fault_if (is_none o) (faults.BadRecord half i) None) (not_carried g x m bytes whole (subst (λ (k : Geometry). IsChangeInRange k m) same logged) are differs)
