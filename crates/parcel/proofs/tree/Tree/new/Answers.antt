-- A new tree holds the empty state, and all of it is in.
use Rattle.parcel.proofs.NewTree.{root_new, new_all_in, new_state}
use Rattle.parcel.proofs.tree.Tree.new.Goals as goal

pub invariant_of-result : goal.invariant_of-result
invariant_of-result c = (root_new c.args.g c.in_ok-root.root c.in_ok-root.ensures).0

pub returns-clause-empty : goal.returns-clause-empty
returns-clause-empty c = new_state c.args.g c.in_ok-root.root c.in_ok-root.ensures

pub returns-clause-all_in : goal.returns-clause-all_in
returns-clause-all_in c = new_all_in c.args.g c.in_ok-root.root c.in_ok-root.ensures
