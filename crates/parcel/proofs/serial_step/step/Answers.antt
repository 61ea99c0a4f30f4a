-- Nothing of the tree is out, so the parcels at the message's affinity are lent; after the run they are restored, and the state has made
-- the serial step.
use Rattle.std.proofs.Common.{[], sym, ◌∙◌, subst}
use Rattle.affinity.specs.declared.geometry.Geometry.{Geometry}
use Rattle.parcel.specs.Nodes.{tree_state}
use Rattle.parcel.specs.Tree.{IsIn, tree_nodes}
use Rattle.meaning.specs.State.{IsState}
use Rattle.parcel.proofs.LendRunRestore.{placed, fits_there, goes, stepped, all_in_again, state_again}
use Rattle.parcel.proofs.serial_step.step.Goals as goal

pub restore-requires-clause-fits : goal.restore-requires-clause-fits
restore-requires-clause-fits c =
    fits_there c.new.ensures (placed c.args.m c.kind.ensures c.numbers.ensures c.in-Some.ensures.placed) c.run-done.ensures c.geometry-g.ensures
    c.in-Some-lend.ensures.some (c.geometry-g.ensures ∙ sym c.lend.ensures.geometry) c.into_parcels.ensures

pub unreachable-requires-in_default-restore : goal.unreachable-requires-in_default-restore
unreachable-requires-in_default-restore c =
    goes c.new.ensures (placed c.args.m c.kind.ensures c.numbers.ensures c.in-Some.ensures.placed) c.run-done.ensures c.geometry-g.ensures
    c.in-Some-lend.ensures.some (c.geometry-g.ensures ∙ sym c.lend.ensures.geometry) c.into_parcels.ensures c.in_default-restore.ensures.err

pub returns-clause-reply : goal.returns-clause-reply
returns-clause-reply c =
    c.reply-reply.ensures
    ∙ (stepped c.new.ensures (placed c.args.m c.kind.ensures c.numbers.ensures c.in-Some.ensures.placed) c.run-done.ensures c.geometry-g.ensures
    c.in-Some-lend.ensures.some (c.geometry-g.ensures ∙ sym c.lend.ensures.geometry) c.into_parcels.ensures c.in-Ok.ensures.ok).reply

pub returns-clause-state : goal.returns-clause-state
returns-clause-state c =
    let same = c.restore.ensures.geometry ∙ c.lend.ensures.geometry in
    rw same (stepped c.new.ensures (placed c.args.m c.kind.ensures c.numbers.ensures c.in-Some.ensures.placed) c.run-done.ensures c.geometry-g.ensures
    c.in-Some-lend.ensures.some (c.geometry-g.ensures ∙ sym c.lend.ensures.geometry) c.into_parcels.ensures c.in-Ok.ensures.ok).state

pub returns-clause-whole : goal.returns-clause-whole
returns-clause-whole c =
    let same = c.restore.ensures.geometry ∙ c.lend.ensures.geometry in
    record {
      all_in = subst (λ (i : Geometry). IsIn i [] (tree_nodes c.restore.new.self)) (sym same)
          (all_in_again c.new.ensures (placed c.args.m c.kind.ensures c.numbers.ensures c.in-Some.ensures.placed) c.run-done.ensures c.geometry-g.ensures
          c.in-Some-lend.ensures.some (c.geometry-g.ensures ∙ sym c.lend.ensures.geometry) c.into_parcels.ensures c.in-Ok.ensures.ok c.requires.whole.all_in);
      state = subst (λ (i : Geometry). IsState i (tree_state i (tree_nodes c.restore.new.self))) (sym same)
          (state_again c.new.ensures (placed c.args.m c.kind.ensures c.numbers.ensures c.in-Some.ensures.placed) c.run-done.ensures c.geometry-g.ensures
          c.in-Some-lend.ensures.some (c.geometry-g.ensures ∙ sym c.lend.ensures.geometry) c.into_parcels.ensures c.in-Ok.ensures.ok c.know_message.ensures c.requires.whole.state);
    }
