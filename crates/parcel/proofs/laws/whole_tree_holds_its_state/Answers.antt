-- Where no path is out, all nodes are in, and the state agrees with theirs everywhere.
use Rattle.parcel.proofs.TreeHolds.{holds_whole, whole_holds}
use Rattle.parcel.proofs.laws.whole_tree_holds_its_state.Goals as goal

pub returns-clause-start : goal.returns-clause-start
returns-clause-start c = holds_whole

pub returns-clause-whole : goal.returns-clause-whole
returns-clause-whole c = whole_holds
