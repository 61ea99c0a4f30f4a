-- Calls that only read, one after the other, and a fault that a caller passes on: what either does to the device.
use Rattle.std.proofs.Common.{◌≡◌, ℕ, Result, Ok, Err, ◌∙◌, subst}
use Rattle.recovery.specs.declared.fault.OpenFault.{OpenFault}
use Rattle.recovery.specs.declared.fault.OpenFault.TheVariants.{Device}
use Rattle.recovery.specs.OpenFaults.{CountsOpenFault}
use Rattle.recovery.specs.OpeningCalls.{IsOpeningCall, IsReadingCall}
use Rattle.disk.specs.Device.{Medium}
use Rattle.recovery.proofs.Replays.{same_bytes}

pub unwritten : {R keeps : Type 0} {r : Result R OpenFault} {a b : Medium} → IsReadingCall keeps r a b → keeps → b.now ≡ a.now
unwritten {a = a} {b = b} call k = same_bytes a b (call.untouched k)

pub after : {R S keeps : Type 0} {r : R} {s : Result S OpenFault} {a b c : Medium} → IsReadingCall keeps (Ok r) a b → IsReadingCall keeps s b c → IsReadingCall keeps s a c
after {s = s} {c = c} first next = record {
  counts = subst (λ (n : ℕ). CountsOpenFault s n c.faults) first.counts next.counts;
  len = next.len ∙ first.len;
  untouched = λ k. next.untouched k ∙ first.untouched k;
  never_out_of_memory = next.never_out_of_memory;
}

counted : (S T : Type 0) (e : OpenFault) (old new : ℕ) → CountsOpenFault {T = S} (Err e) old new → CountsOpenFault {T = T} (Err e) old new
counted S T Device old new is = is
counted S T _ old new is = is

pub passed_on : {S T keeps : Type 0} {e : OpenFault} {a b : Medium} → IsReadingCall {T = S} keeps (Err e) a b → IsReadingCall {T = T} keeps (Err e) a b
passed_on {S = S} {T = T} {e = e} {a = a} {b = b} is =
    record { counts = counted S T e a.faults b.faults is.counts; len = is.len; untouched = is.untouched; never_out_of_memory = is.never_out_of_memory }

pub opening_failed : {S keeps : Type 0} (T : Type 0) {e : OpenFault} {a b : Medium} → IsReadingCall {T = S} keeps (Err e) a b → IsOpeningCall {T = T} (Err e) a b
opening_failed {S = S} T {e = e} {a = a} {b = b} is = (counted S T e a.faults b.faults is.counts, is.len)

pub returned : {R T keeps : Type 0} {r : R} {t : T} {a b : Medium} → IsReadingCall keeps (Ok r) a b → IsReadingCall keeps (Ok t) a b
returned is = record { counts = is.counts; len = is.len; untouched = is.untouched; never_out_of_memory = tt }
