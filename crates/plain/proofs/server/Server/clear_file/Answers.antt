-- Each iteration removes one block; where the file has none left, leaving out its blocks changes nothing.
use Rattle.std.proofs.lemmas.Grind.{common_steps}
use Rattle.std.proofs.Common.{arith, ap, sym, ◌∙◌, subst}
use Rattle.meaning.specs.State.{IsState, is_block_of_file, is_block}
use Rattle.plain.specs.Server.{server_state}
use Rattle.meaning.specs.Removals.{without_blocks}
use Rattle.meaning.proofs.IsState.{clearing_kept}
use Rattle.plain.proofs.Removals.{block_before_others, nothing_cleared}
use Rattle.plain.proofs.server.Server.clear_file.Goals as goal

pub loop-b-preserved : goal.loop-b-preserved
loop-b-preserved c =
    let x = server_state c.loop-b.self in
    record {
      sound = record {
        state = subst (IsState c.args.g.now) (sym c.remove_block.ensures.state) (clearing_kept c.args.g.now (is_block c.args.a c.args.v c.args.f c.in-Some.b) x c.loop-b.invariant.sound.state);
        counted = c.remove_block.ensures.counted;
      };
      same = ap (without_blocks (is_block_of_file c.args.a c.args.v c.args.f)) c.remove_block.ensures.state ∙ block_before_others x c.args.a c.args.v c.args.f c.in-Some.b ∙ c.loop-b.invariant.same;
    }

pub loop-b-smaller : goal.loop-b-smaller
loop-b-smaller c = grind (arith, common_steps)

pub returns-clause-state : goal.returns-clause-state
returns-clause-state c = sym (nothing_cleared (is_block_of_file c.args.a c.args.v c.args.f) (server_state c.loop-b.self) c.in_default.ensures.none) ∙ c.loop-b.invariant.same
