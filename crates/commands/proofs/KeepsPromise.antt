-- A run keeps its promise, by what is proved of it with its ends told apart.
use Rattle.std.proofs.Common.{◌≡◌, ◌≤◌, ℕ, ◌+◌, false, List, [], ◌++◌, Option, Some, None, ap, refl, sym, ◌∙◌, subst, append-nil, ⊎_elim, arith}
use Rattle.std.specs.Prelude.{IfSome, Result, Ok, Err, OnOk}
use Rattle.std.specs.Result.{is_ok}
use Rattle.std.specs.Io.KnownBytes.{Appends}
use Rattle.std.specs.Option.{option_map}
use Rattle.std.proofs.KnownBytes.{Appends-nil}
use Rattle.std.proofs.lemmas.Option.{same_Some}
use Rattle.affinity.specs.declared.geometry.Geometry.{Geometry}
use Rattle.checkpoint.specs.Opening.{OpeningCrashImages}
use Rattle.disk.specs.CrashImages.{AreBytes, IsCrashImage, left_since}
use Rattle.disk.specs.Device.{IsSynced, Medium, moment_number}
use Rattle.protocol.specs.Lines.{lines}
use Rattle.recovery.specs.Recovery.{recovered_state}
use Rattle.recovery.specs.declared.fault.OpenFault.{OpenFault}
use Rattle.meaning.specs.Output.{joined, output_lines, state_after_lines}
use Rattle.meaning.specs.State.{State}
use Rattle.meaning.specs.ClosedPart.{are_in_conflict}
use Rattle.protocol.proofs.Newlines.{newlines}
use Rattle.scheduler.specs.CoreView.{CoreView}
use Rattle.serving.specs.AnyRuns.{KeepsPromise, Run, Server}
use Rattle.serving.specs.Ends.{committed_in}
use Rattle.serving.specs.Exchange.{Exchange}
use Rattle.serving.specs.Restart.{RecoversTo, WritesBeginning}
use Rattle.serving.specs.SerialServer.{server_in, server_of, server_on}
use Rattle.serving.proofs.KeepsPromise.{grown_once, keeps_written, serves, serves_known}
use Rattle.commands.specs.Acknowledged.{HoldsAcknowledged}
use Rattle.commands.specs.Promise.{HasRunFrom, HoldsOfAll, IsWritten, LeavesRun, OpensUnlessFailed}
use Rattle.commands.specs.ServedDevice.{EndsOnDevice, RecoveredTo}
use Rattle.commands.specs.declared.faults.Fault.{Fault}
use Rattle.commands.specs.declared.faults.Fault.TheVariants as ends
use Rattle.commands.specs.declared.serve_options.ServeOptions.{ServeOptions}
use Rattle.commands.proofs.Promise.{crashed_since, ends_so, opened_or, opened_so, opens_so, silent}

-- Where bytes hold a server, they recover to its state.
pub server_held : (g : Geometry) (o : Option State) (server : Server) → option_map (server_in g) o ≡ Some server → (x : State) × (o ≡ Some x) × (server_in g x ≡ server)
server_held g None server h = cc
server_held g (Some x) server h = (x, refl, same_Some _ _ h)

-- ---- what came out

-- What came out of the answers, and what of them is missing.
abbrev ComesOut : ℕ → ℕ → Option (List ℕ) → Option (List ℕ) → List ℕ → Type 0
ComesOut slots left before written answers = (out : List ℕ) × (missing : List ℕ) × Appends before written out × (answers ≡ out ++ missing)
    × (newlines missing + left ≤ slots)

-- The output holds a beginning of all that was to be written.
begun_out : (slots left : ℕ) (before written all : Option (List ℕ)) (answers : List ℕ) → Appends before all answers
    → WritesBeginning slots left before written all → ComesOut slots left before written answers
begun_out slots left None written all answers grown h = let few = h.3 in (answers, [], tt, sym (append-nil answers), omega (arith, few))
begun_out slots left (Some held) written all answers grown h =
    let few = h.3 in (h.2.0, h.2.1, h.2.3, grown_once held all answers h.0 grown h.1 ∙ h.2.2, omega (arith, few))

module _ (slots left : ℕ) (before written all : Option (List ℕ)) (answers : List ℕ) (grown : Appends before all answers) where
  whole_out : written ≡ all → left ≤ slots → ComesOut slots left before written answers
  whole_out is few = (answers, [], subst (λ (w : Option (List ℕ)). Appends before w answers) (sym is) grown, sym (append-nil answers), omega (arith, few))

  came_out : (end : Result (Unit {0}) Fault) → IsWritten end slots left before written all → ComesOut slots left before written answers
  came_out (Err ends.Write) h = begun_out slots left before written all answers grown h
  came_out (Err ends.Device) h = let few = h.1 in whole_out h.0 (omega (arith, few))
  came_out (Err ends.NoWorkers) h = let none = h.0.1 in whole_out h.0.0 (omega (arith, none))
  came_out (Err ends.OutOfMemory) h = let none = h.0.1 in whole_out h.0.0 (omega (arith, none))
  came_out (Err (ends.Open fault)) h = let none = h.0.1 in whole_out h.0.0 (omega (arith, none))
  came_out end h = let none = h.1 in whole_out h.0 (omega (arith, none))

-- The output of a service has grown.
module _ {keeps : Type 0} (keep : keeps) (slots : ℕ) (old new : Medium) (input before written : Option (List ℕ)) (c : List ℕ) (leaves : IsCrashImage new c) where
  has_grown : (end : Result (Unit {0}) Fault) → HoldsOfAll end slots before written (λ left all. keeps → (c : List ℕ) → IsCrashImage new c
      → HoldsAcknowledged left old input before all c) → (out : List ℕ) × Appends before written out
  has_grown end kept = ⊎_elim
      (λ (why : (fault : OpenFault) × (end ≡ Err (ends.Open fault))).
      let unwritten : written ≡ before = rw why.1 at kept in
      ([], subst (λ (w : Option (List ℕ)). Appends before w []) (sym unwritten) (Appends-nil before)))
      (λ h.
      let sent = (h.3 keep c leaves).holds in
      let came = came_out slots h.0 before written h.1 (joined sent.lines) sent.output end h.2 in
      (came.0, came.2))
      (opened_or _ end slots before written kept)

-- ---- one run

module _ (g : Geometry) (slots : ℕ) (x : State) (before written : Option (List ℕ)) (c : List ℕ) where
  abbrev pub KeepsFrom : Option (List ℕ) → Result (Unit {0}) Fault → Type 0
  KeepsFrom input end = KeepsPromise (server_on g) (are_in_conflict g) (server_in g x) slots input (is_ok end) before written c

  abbrev RunsFrom : Option (List ℕ) → Result (Unit {0}) Fault → Type 0
  RunsFrom input end = HasRunFrom g slots x end input before written (λ now. recovered_state g c ≡ Some now)

  abbrev run_of : List ℕ → Result (Unit {0}) Fault → List ℕ → Run
  run_of input end out = record { slots = slots; input = input; out = out; finished = is_ok end; left = c }

  -- a state that the serial server has reached with all of an input
  all_of : (input : List ℕ) → RecoversTo g 0 x (state_after_lines g x (lines input)) input (joined (output_lines g x (lines input)))
  all_of input = record {
    acknowledged = lines input;
    unacknowledged = [];
    first = sym (append-nil (lines input));
    answers = refl;
    part = [];
    closed = refl;
    state = ap (state_after_lines g x) (sym (append-nil (lines input)));
  }

  keeps_from : (input : Option (List ℕ)) (end : Result (Unit {0}) Fault) → RunsFrom input end → (out : List ℕ) × Appends before written out
      → OnOk end (IfSome input (λ bytes. recovered_state g c ≡ Some (state_after_lines g x (lines bytes)))) → KeepsFrom input end
  unfolding all_of
  keeps_from None end h grown whole = record {
    out = grown.0;
    grown = grown.1;
    now = server_in g h.now;
    holds = ap (option_map (server_in g)) h.goes_on;
    serves = λ bytes is. cc is;
  }
  keeps_from (Some input) (Ok done) h grown whole =
      let out = h.all_answered.0 in
      record {
        out = out;
        grown = h.all_answered.1;
        now = server_in g h.now;
        holds = ap (option_map (server_in g)) h.goes_on;
        serves = serves_known g x (run_of input (Ok done) out) (serves g x (run_of input (Ok done) out) (all_of input) []
            (sym h.all_answered.2 ∙ sym (append-nil out)) (omega arith) (λ ends. (refl, refl)) whole);
      }
  keeps_from (Some input) (Err fault) h grown whole =
      let came = came_out slots h.unanswered before written h.all h.recovers.0 h.recovers.1 (Err fault) h.written in
      record {
        out = came.0;
        grown = came.2;
        now = server_in g h.now;
        holds = ap (option_map (server_in g)) h.goes_on;
        serves = serves_known g x (run_of input (Err fault) came.0) (serves g x (run_of input (Err fault) came.0) h.recovers.2 came.1 came.3 came.4 (λ ends. cc ends) h.goes_on);
      }

-- ---- a run on a device that held a server

module _ {keeps : Type 0} (keep : keeps) (g : Geometry) (server : Server) (old : Medium) (held : server_on g old.now ≡ Some server) where
  -- The device is opened, unless it fails or memory is wanting.
  pub opens_server : (s : ServeOptions) (new : Medium) (end : Result (Unit {0}) Fault) (streams : Exchange) → AreBytes old.now
      → EndsOnDevice keeps s old new end streams → OpensUnlessFailed end
  opens_server s new end streams bytes = opens_so keep g s old new end streams bytes (server_held g (recovered_state g old.now) server held).1

  -- Its server is that of the core which was opened.
  pub opened_server : (core : CoreView) → RecoveredTo keeps old core.geometry (committed_in core) → (core.geometry ≡ g) × (server_of core ≡ server)
  opened_server core recovered_before =
      let own = server_held g (recovered_state g old.now) server held in
      let same = opened_so keep own.1 recovered_before in
      (same.0, (λ i. server_in (same.0 i) (same.1 i)) ∙ own.2)

  module _ (synced : IsSynced old) (c : List ℕ) where
    -- A run was killed while it opened the device.
    pub opening_keeps_promise : (slots : ℕ) (new : Medium) (input before : Option (List ℕ)) → OpeningCrashImages old new → left_since new (moment_number old) c
        → KeepsPromise (server_on g) (are_in_conflict g) server slots input false before before c
    opening_keeps_promise slots new input before opening since =
        let own = server_held g (recovered_state g old.now) server held in
        let same = crashed_since g old new own.1 synced c since opening in
        subst (λ (s : Server). KeepsPromise (server_on g) (are_in_conflict g) s slots input false before before c) own.2
        (keeps_written g slots own.0 c input before before
        (slots, before, ([], Appends-nil before, ([], [], refl, Appends-nil before), omega arith), silent slots input before before c same refl))

    -- A run returned, and a crash came then.
    module _ (s : ServeOptions) (new : Medium) (end : Result (Unit {0}) Fault) (streams : Exchange) (leaves : IsCrashImage new c) where
      pub run_keeps_promise : EndsOnDevice keeps s old new end streams
          → HoldsOfAll end s.slots streams.before streams.written (λ left all. keeps → (c : List ℕ) → IsCrashImage new c → HoldsAcknowledged left old streams.input streams.before all c)
          → LeavesRun g (recovered_state g) s.slots old new end streams.input streams.before streams.written
          → KeepsPromise (server_on g) (are_in_conflict g) server s.slots streams.input (is_ok end) streams.before streams.written c
      run_keeps_promise e kept ran =
          let own = server_held g (recovered_state g old.now) server held in
          subst (λ (s' : Server). KeepsPromise (server_on g) (are_in_conflict g) s' s.slots streams.input (is_ok end) streams.before streams.written c) own.2
          (keeps_from g s.slots own.0 streams.before streams.written c streams.input end ((ran own.0 (own.1, synced)).1 c leaves)
          (has_grown keep s.slots old new streams.input streams.before streams.written c leaves end kept)
          (ends_so keep g old own.1 s new end streams e c leaves))
