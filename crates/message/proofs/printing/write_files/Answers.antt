-- The lowest bit of those that are left is the next file; where none is left, all files are listed.
use Rattle.std.proofs.lemmas.Grind.{common_steps}
use Rattle.std.proofs.Common.{◌/◌, ◌^◌, ◌<◌, arith}
use Rattle.message.proofs.AppendsText.{appends_more, appends_same}
use Rattle.message.proofs.FilesText.{all_files, files_end, next_file}
use Rattle.message.proofs.printing.write_files.Goals as goal

pub loop-from-init : goal.loop-from-init
loop-from-init c = record { text = c.append-end.ensures; bound = omega (arith, c.append-end.ensures.ends); within = omega arith }

pub loop-from-preserved : goal.loop-from-preserved
loop-from-preserved c =
    let from = c.loop-from.from in
    let left = c.if-left-eq0.false in
    let some : 0 < c.args.files / 2 ^ from = omega arith in
    let next = next_file c.args.files from (omega arith) some in
    let last = next.bound in
    let more = c.append_number-end.ensures.bound in
    record {
      text = appends_same next.text (appends_more c.loop-from.invariant.text c.append_number-end.ensures.text);
      bound = omega arith;
      within = omega arith;
    }

pub returns-then-left-eq0-clause-text : goal.returns-then-left-eq0-clause-text
returns-then-left-eq0-clause-text c = grind (arith, common_steps, appends_same, files_end)

pub returns-clause-text : goal.returns-clause-text
returns-clause-text c = grind (arith, common_steps, appends_same, all_files)
