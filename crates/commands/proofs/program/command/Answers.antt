-- For each kind of request: refused arguments do nothing, and all others end as the run of their request.
use Rattle.std.proofs.Common.{map, string_bytes, inr, inl, refl, Ok, Err}
use Rattle.commands.proofs.Exits.{exits_for_memory, formatted, helped, is_refused, is_reported, nothing_written, numbers_fit, refused_by, served, served_on, shown}
use Rattle.disk.specs.declared.fault.FileFault.TheVariants as file
use Rattle.arguments.proofs.Asks.{ask_for_nothing}
use Rattle.arguments.proofs.Examples.{asks_alone}
use Rattle.affinity.specs.Geometry.{default_geometry}
use Rattle.commands.proofs.program.command.Goals as goal

pub returns-in-Err-clause-served_plain : goal.returns-in-Err-clause-served_plain
returns-in-Err-clause-served_plain g c = λ geometry asks.
    rw c.report_refusal.ensures (exits_for_memory (map string_bytes c.args.arguments.now) c.in-Err.refusal asks.0 c.in-Err.ensures.err
    (numbers_fit geometry (map string_bytes c.args.arguments.now) asks.2) (nothing_written geometry _ _))

pub returns-in-Ok-run-clause-served_plain : goal.returns-in-Ok-run-clause-served_plain
returns-in-Ok-run-clause-served_plain g c = λ geometry asks.
    served (map string_bytes c.args.arguments.now) c.in-Ok.request (Ok c.in-Ok-run.field-0) c.in-Ok.ensures.ok asks c.in-Ok-run.ensures

pub returns-in-Err-run-clause-served_plain : goal.returns-in-Err-run-clause-served_plain
returns-in-Err-run-clause-served_plain g c = λ geometry asks.
    rw c.report.ensures (served (map string_bytes c.args.arguments.now) c.in-Ok.request (Err c.in-Err-run.fault) c.in-Ok.ensures.ok asks c.in-Err-run.ensures)

-- a device is made

pub returns-in-Err-clause-formatted : goal.returns-in-Err-clause-formatted
returns-in-Err-clause-formatted g c = λ path geometry asks.
    rw c.report_refusal.ensures (
      exits_for_memory (map string_bytes c.args.arguments.now) c.in-Err.refusal asks.0 c.in-Err.ensures.err
          (numbers_fit geometry (map string_bytes c.args.arguments.now) asks.3) refl,
      refl {a = g.R.Read.remaining c.args.r.now},
    )

pub returns-in-Ok-run-clause-formatted : goal.returns-in-Ok-run-clause-formatted
returns-in-Ok-run-clause-formatted g c = λ path geometry asks.
    formatted (map string_bytes c.args.arguments.now) c.in-Ok.request geometry (Ok c.in-Ok-run.field-0) c.in-Ok.ensures.ok asks c.in-Ok-run.ensures

pub returns-in-Err-run-clause-formatted : goal.returns-in-Err-run-clause-formatted
returns-in-Err-run-clause-formatted g c = λ path geometry asks.
    rw c.report.ensures (formatted (map string_bytes c.args.arguments.now) c.in-Ok.request geometry (Err c.in-Err-run.fault) c.in-Ok.ensures.ok asks c.in-Err-run.ensures)

-- a device is shown

pub returns-in-Err-clause-shown : goal.returns-in-Err-clause-shown
returns-in-Err-clause-shown g c = λ path asks.
    rw c.report_refusal.ensures (
      exits_for_memory (map string_bytes c.args.arguments.now) c.in-Err.refusal asks.0 c.in-Err.ensures.err
          (λ wrong. wrong.1.0 asks.1) refl,
      refl {a = g.R.Read.remaining c.args.r.now},
    )

pub returns-in-Ok-run-clause-shown : goal.returns-in-Ok-run-clause-shown
returns-in-Ok-run-clause-shown g c = λ path asks.
    shown (map string_bytes c.args.arguments.now) c.in-Ok.request (Ok c.in-Ok-run.field-0) c.in-Ok.ensures.ok asks c.in-Ok-run.ensures

pub returns-in-Err-run-clause-shown : goal.returns-in-Err-run-clause-shown
returns-in-Err-run-clause-shown g c = λ path asks.
    rw c.report.ensures (shown (map string_bytes c.args.arguments.now) c.in-Ok.request (Err c.in-Err-run.fault) c.in-Ok.ensures.ok asks c.in-Err-run.ensures)

-- a device is served

pub returns-in-Err-clause-served : goal.returns-in-Err-clause-served
returns-in-Err-clause-served g c = λ path s asks.
    rw c.report_refusal.ensures (exits_for_memory (map string_bytes c.args.arguments.now) c.in-Err.refusal asks.0 c.in-Err.ensures.err
    (λ wrong. wrong.1.1 asks.1)
    (inl (record { why = file.OutOfMemory; ends = refl; unread = refl; unwritten = refl })))

pub returns-in-Ok-run-clause-served : goal.returns-in-Ok-run-clause-served
returns-in-Ok-run-clause-served g c = λ path s asks.
    served_on (map string_bytes c.args.arguments.now) c.in-Ok.request (Ok c.in-Ok-run.field-0) c.in-Ok.ensures.ok asks c.in-Ok-run.ensures

pub returns-in-Err-run-clause-served : goal.returns-in-Err-run-clause-served
returns-in-Err-run-clause-served g c = λ path s asks.
    rw c.report.ensures (served_on (map string_bytes c.args.arguments.now) c.in-Ok.request (Err c.in-Err-run.fault) c.in-Ok.ensures.ok asks c.in-Err-run.ensures)

-- arguments that are refused ask for nothing

pub returns-in-Ok-run-clause-refused : goal.returns-in-Ok-run-clause-refused
returns-in-Ok-run-clause-refused g c = λ wrong. absurd (ask_for_nothing (map string_bytes c.args.arguments.now) c.in-Ok.request c.in-Ok.ensures.ok wrong)

pub returns-in-Err-run-clause-refused : goal.returns-in-Err-run-clause-refused
returns-in-Err-run-clause-refused g c = λ wrong. absurd (ask_for_nothing (map string_bytes c.args.arguments.now) c.in-Ok.request c.in-Ok.ensures.ok wrong)

-- arguments that ask for no command

pub returns-in-Err-clause-unserved : goal.returns-in-Err-clause-unserved
returns-in-Err-clause-unserved g c = λ no_service. rw c.report_refusal.ensures (inr (refused_by c.in-Err.refusal, refl, refl))

pub returns-in-Ok-run-clause-unserved : goal.returns-in-Ok-run-clause-unserved
returns-in-Ok-run-clause-unserved g c = λ no_service.
    inl (helped (map string_bytes c.args.arguments.now) c.in-Ok.request (Ok c.in-Ok-run.field-0) _ no_service c.in-Ok.ensures.ok c.in-Ok-run.ensures)

pub returns-in-Err-run-clause-unserved : goal.returns-in-Err-run-clause-unserved
returns-in-Err-run-clause-unserved g c = λ no_service.
    rw c.report.ensures (inl (helped (map string_bytes c.args.arguments.now) c.in-Ok.request (Err c.in-Err-run.fault) _ no_service c.in-Ok.ensures.ok c.in-Err-run.ensures))

-- the word `plain` alone asks for the default geometry

pub returns-in-Err-clause-plain : goal.returns-in-Err-clause-plain
returns-in-Err-clause-plain g c = λ program are. returns-in-Err-clause-served_plain g c default_geometry (asks_alone (map string_bytes c.args.arguments.now) program are)

pub returns-in-Ok-run-clause-plain : goal.returns-in-Ok-run-clause-plain
returns-in-Ok-run-clause-plain g c = λ program are. returns-in-Ok-run-clause-served_plain g c default_geometry (asks_alone (map string_bytes c.args.arguments.now) program are)

pub returns-in-Err-run-clause-plain : goal.returns-in-Err-run-clause-plain
returns-in-Err-run-clause-plain g c = λ program are. returns-in-Err-run-clause-served_plain g c default_geometry (asks_alone (map string_bytes c.args.arguments.now) program are)

-- no fault has status 0, and no refusal

pub returns-in-Err-clause-quiet : goal.returns-in-Err-clause-quiet
returns-in-Err-clause-quiet g c = λ none. absurd (is_refused c.in-Err.refusal (rw c.report_refusal.ensures at none))

pub returns-in-Err-run-clause-quiet : goal.returns-in-Err-run-clause-quiet
returns-in-Err-run-clause-quiet g c = λ none. absurd (is_reported c.in-Err-run.fault (rw c.report.ensures at none))
