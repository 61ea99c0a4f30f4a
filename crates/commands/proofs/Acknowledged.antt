-- What was sent is kept: from the run behind it, and what the core promises of its device at the end.
use Rattle.std.proofs.Common.{ℕ, List, Option, subst}
use Rattle.std.specs.Prelude.{Result, Err}
use Rattle.disk.specs.CrashImages.{IsCrashImage}
use Rattle.disk.specs.Device.{Medium}
use Rattle.serving.proofs.HoldsSent.{holds_sent}
use Rattle.scheduler.specs.CoreView.{CoreView}
use Rattle.serving.specs.Ends.{EndsWith, committed_in}
use Rattle.serving.specs.Exchange.{Exchange}
use Rattle.serving.specs.Restart.{IsMeant}
use Rattle.serving.specs.Serve.{failed_at}
use Rattle.serving.specs.declared.server.ServeFault.{ServeFault}
use Rattle.serving.specs.declared.server.ServeFault.TheVariants as faults
use Rattle.commands.proofs.ServedDevice.{is_idle}
use Rattle.commands.specs.Faults.{command_result}
use Rattle.commands.specs.Acknowledged.{HoldsAcknowledged}
use Rattle.commands.specs.Promise.{HoldsOfAll}
use Rattle.commands.specs.ServedDevice.{HasServedBy, RecoveredTo}
use Rattle.commands.specs.declared.faults.Fault.{Fault}
use Rattle.commands.specs.declared.faults.Fault.TheVariants as ends
use Rattle.commands.specs.declared.serve_options.ServeOptions.{ServeOptions}

module _ {keeps : Type 0} {s : ServeOptions} {old new : Medium} {end : Result (Unit {0}) ServeFault} {streams : Exchange}
    (h : HasServedBy keeps s old new end streams) where
  -- of all that was to be written
  pub held : keeps → (c : List ℕ) → IsCrashImage new c → HoldsAcknowledged h.served.run.unanswered old streams.input streams.before h.served.run.all c
  held keep c leaves =
      let n = h.served.run.unanswered in
      let sent = holds_sent (is_idle s.slots h.start h.fresh) h.served.run.served n h.served.run.few h.fresh.no_doubt keep c (rw h.given_back at leaves) in
      let before : RecoveredTo (Unit {0}) old h.start.geometry (committed_in h.start) =
      record { header = λ _. h.recovered_before.header keep; recovered_before = λ _. h.recovered_before.recovered_before keep } in
      search (before, rw h.fresh.next at sent)

-- what holds of all that the server was to write, in words of a command
module _ (P : ℕ → Option (List ℕ) → Type 0) (slots left : ℕ) (old new : CoreView) (x : Exchange) (all : Option (List ℕ)) where
  holds_of_all : (end : Result (Unit {0}) ServeFault) → IsMeant (failed_at end) slots left x.before x.written all → EndsWith old new x end → P left all
      → HoldsOfAll (command_result end) slots x.before x.written P
  holds_of_all (Err faults.NoWorkers) is ends h = (left, all, (is, ends.2), h)
  holds_of_all (Err faults.OutOfMemory) is ends h = (left, all, (is, ends.2), h)
  holds_of_all end is ends h = (left, all, is, h)

-- what was sent is kept, whatever the end
pub keeps_acknowledged : {keeps : Type 0} {s : ServeOptions} {old new : Medium} (end : Result (Unit {0}) ServeFault) {x : Exchange} → HasServedBy keeps s old new end x
    → HoldsOfAll (command_result end) s.slots x.before x.written (λ left all. keeps → (c : List ℕ) → IsCrashImage new c → HoldsAcknowledged left old x.input x.before all c)
keeps_acknowledged {keeps} {s} {old} {new} end {x} h =
    let left = h.served.run.unanswered in
    let all = h.served.run.all in
    holds_of_all (λ left all. keeps → (c : List ℕ) → IsCrashImage new c → HoldsAcknowledged left old x.input x.before all c) s.slots left h.start h.now x all end
    (subst (λ (n : ℕ). IsMeant (failed_at end) n left x.before x.written all) h.fresh.slots_are h.served.run.meant) h.served.ends (held h)

-- if P implies Q, what has P has Q
pub all_then : {P Q : ℕ → Option (List ℕ) → Type 0} (end : Result (Unit {0}) Fault) (slots : ℕ) (before written : Option (List ℕ))
    → ((left : ℕ) (all : Option (List ℕ)) → P left all → Q left all) → HoldsOfAll end slots before written P → HoldsOfAll end slots before written Q
all_then (Err (ends.Open fault)) slots before written f h = h
all_then end slots before written f h = (h.0, h.1, h.2, f h.0 h.1 h.3)
