-- A message runs alike in states with one subtree and standing at its path; its effect changes only what lies there and below.
use Rattle.meaning.proofs.Commute.{changes_only}
use Rattle.meaning.proofs.SubtreeLaws.{run_from_subtree}
use Rattle.meaning.proofs.laws.step_reads_and_changes_only.Goals as goal

pub returns-clause-reads : goal.returns-clause-reads
returns-clause-reads c = run_from_subtree

pub returns-clause-changes : goal.returns-clause-changes
returns-clause-changes c = changes_only
