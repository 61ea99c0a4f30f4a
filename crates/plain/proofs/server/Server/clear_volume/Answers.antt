-- Each iteration removes one block; where the volume has none left, leaving out its blocks changes nothing.
use Rattle.std.proofs.lemmas.Grind.{common_steps}
use Rattle.std.proofs.Common.{arith, ap, sym, ◌∙◌, subst}
use Rattle.meaning.specs.State.{IsState, is_block_of, is_block}
use Rattle.plain.specs.Server.{server_state}
use Rattle.meaning.specs.Removals.{without_blocks}
use Rattle.meaning.proofs.IsState.{clearing_kept}
use Rattle.plain.proofs.Removals.{block_before_volume, nothing_cleared}
use Rattle.plain.proofs.server.Server.clear_volume.Goals as goal

pub loop-f-preserved : goal.loop-f-preserved
loop-f-preserved c =
    let x = server_state c.loop-f.self in
    record {
      sound = record {
        state = subst (IsState c.args.g.now) (sym c.remove_block.ensures.state) (clearing_kept c.args.g.now (is_block c.args.a c.args.v c.in-Some.f c.in-Some.b) x c.loop-f.invariant.sound.state);
        counted = c.remove_block.ensures.counted;
      };
      same = ap (without_blocks (is_block_of c.args.a c.args.v)) c.remove_block.ensures.state ∙ block_before_volume x c.args.a c.args.v c.in-Some.f c.in-Some.b ∙ c.loop-f.invariant.same;
    }

pub loop-f-smaller : goal.loop-f-smaller
loop-f-smaller c = grind (arith, common_steps)

pub returns-clause-state : goal.returns-clause-state
returns-clause-state c = sym (nothing_cleared (is_block_of c.args.a c.args.v) (server_state c.loop-f.self) c.in_default.ensures.none) ∙ c.loop-f.invariant.same
