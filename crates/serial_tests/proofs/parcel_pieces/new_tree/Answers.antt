-- The empty state is a state of each geometry.
use Rattle.std.proofs.Common.{[], sym, ◌∙◌, ap, subst}
use Rattle.affinity.specs.Geometry.{numbers_of}
use Rattle.affinity.specs.declared.geometry.Geometry.{Geometry}
use Rattle.meaning.specs.State.{IsState}
use Rattle.meaning.proofs.IsState.{empty_is_state}
use Rattle.parcel.specs.Tree.{TreeView, IsIn, tree_nodes}
use Rattle.serial_tests.proofs.parcel_pieces.new_tree.Goals as goal

pub returns : goal.returns
returns c =
    let t : TreeView = c.in_ok-new-2.field-0 in
    let made = c.in_ok-new-2.ensures in
    record {
      small = record {
        numbers = ap numbers_of made.geometry ∙ c.in_ok-new.ensures.same_numbers;
        whole = record {
          all_in = subst (λ (g : Geometry). IsIn g [] (tree_nodes t)) (sym made.geometry) made.all_in;
          state = subst (IsState t.geometry) (sym made.empty) (empty_is_state t.geometry);
        };
      };
      empty = made.empty;
    }
