-- Outside the path each node stays the same, and a state at a path is read off the nodes there.
use Rattle.parcel.proofs.TreeState.{taken_leaves, put_leaves}
use Rattle.parcel.proofs.laws.tree_agrees_elsewhere.Goals as goal

pub returns-clause-taken_leaves : goal.returns-clause-taken_leaves
returns-clause-taken_leaves c = taken_leaves

pub returns-clause-put_leaves : goal.returns-clause-put_leaves
returns-clause-put_leaves c = put_leaves
