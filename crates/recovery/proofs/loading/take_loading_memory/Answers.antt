-- A new tree is whole: nothing of it is out, and the empty state is a state of its geometry.
use Rattle.std.proofs.Common.{[], sym, subst}
use Rattle.affinity.specs.declared.geometry.Geometry.{Geometry}
use Rattle.parcel.specs.Tree.{IsIn, tree_nodes}
use Rattle.meaning.specs.State.{IsState, State}
use Rattle.meaning.proofs.IsState.{empty_is_state}
use Rattle.recovery.proofs.loading.take_loading_memory.Goals as goal

pub returns-clause-whole : goal.returns-clause-whole
returns-clause-whole c = record {
  all_in = subst (λ (h : Geometry). IsIn h [] (tree_nodes c.in_ok-tree.tree)) (sym c.in_ok-tree.ensures.geometry) c.in_ok-tree.ensures.all_in;
  state = subst (λ (x : State). IsState c.in_ok-tree.tree.geometry x) (sym c.in_ok-tree.ensures.empty) (empty_is_state c.in_ok-tree.tree.geometry);
}
