-- Agreement at and below a path is that of the subtrees, and above it that of the standings.
use Rattle.meaning.proofs.SubtreeLaws.{agree_from_subtree}
use Rattle.parcel.specs.Shown.{shown_state}
use Rattle.parcel.proofs.SerialRuns.{shown_subtree, shown_standing}
use Rattle.parcel.proofs.laws.shown_is_subtree_and_standing.Goals as goal

pub returns-clause-has_subtree : goal.returns-clause-has_subtree
returns-clause-has_subtree c = shown_subtree

pub returns-clause-has_standing : goal.returns-clause-has_standing
returns-clause-has_standing c = shown_standing

pub returns-clause-shows : goal.returns-clause-shows
returns-clause-shows c = λ g p t l x. agree_from_subtree g p (shown_state g p t l) x
