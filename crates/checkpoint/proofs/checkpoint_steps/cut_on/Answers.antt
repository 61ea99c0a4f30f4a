-- The other half is cleared, and then put in force while it is empty: what a crash leaves recovers to the same. Records go there next.
use Rattle.std.proofs.Common.{◌<◌, subst, arith}
use Rattle.std.proofs.lemmas.Result.{on_ok_weaker}
use Rattle.oplog.proofs.Results.{err_is}
use Rattle.disk.specs.CrashImages.{CrashesChangeOnly}
use Rattle.oplog.specs.Changes.{Chained, IsSameButChain}
use Rattle.oplog.specs.Log.{Log, layout_of_log}
use Rattle.checkpoint.proofs.IsCutBegun.{begun, chain_beyond, chain_moments}
use Rattle.checkpoint.proofs.RecoversByArea.{named_below}
use Rattle.checkpoint.proofs.IsPointed.{clear_beyond, clear_moments}
use Rattle.checkpoint.proofs.checkpoint_steps.cut_on.Given.{Over}
use Rattle.checkpoint.proofs.checkpoint_steps.cut_on.Goals.{After-open_chain}
use Rattle.checkpoint.proofs.checkpoint_steps.cut_on.Goals as goal

chains : (g : Over) (c : After-open_chain g) → g.D.Disk.keeps
    → CrashesChangeOnly (g.D.Disk.medium c.clear_other.new.disk) (g.D.Disk.medium c.open_chain.new.disk) (IsSameButChain (layout_of_log c.args.halves.now) c.args.halves.now.named)
chains g c k =
    subst (λ (log : Log). CrashesChangeOnly (g.D.Disk.medium c.clear_other.new.disk) (g.D.Disk.medium c.open_chain.new.disk) (IsSameButChain (layout_of_log log) log.named))
    c.in_ok-clear_other.ensures.log (c.open_chain.ensures.any_moment k)

is_area : (g : Over) (c : After-open_chain g) → g.D.Disk.keeps → c.args.halves.now.named < 2
is_area g c k = named_below c.args.halves.now.geometry c.args.halves.now.named _ _ (g.D.Disk.medium c.args.disk.now) (g.met.D.Disk.bytes c.args.disk.now) (c.requires.alone k).recovers

pub returns-in_err-clear_other-clause-any_moment : goal.returns-in_err-clear_other-clause-any_moment
returns-in_err-clear_other-clause-any_moment g c = λ k.
    clear_moments c.args.halves.now (named_below c.args.halves.now.geometry c.args.halves.now.named _ _ (g.D.Disk.medium c.args.disk.now) (g.met.D.Disk.bytes c.args.disk.now)
    (c.requires.alone k).recovers) _ _ (c.requires.alone k) (c.clear_other.ensures.any_moment k)

pub returns-in_err-clear_other-clause-beyond : goal.returns-in_err-clear_other-clause-beyond
returns-in_err-clear_other-clause-beyond g c = λ k.
    clear_beyond c.args.halves.now (named_below c.args.halves.now.geometry c.args.halves.now.named _ _ (g.D.Disk.medium c.args.disk.now) (g.met.D.Disk.bytes c.args.disk.now)
    (c.requires.alone k).recovers) _ _ (c.requires.alone k) (c.clear_other.ensures.any_moment k)

pub returns-clause-any_moment : goal.returns-clause-any_moment
returns-clause-any_moment g c = λ k.
    let here = (goal.at.returns-clause-any_moment g c).After-open_chain in
    chain_moments c.args.halves.now _ (is_area g here k) _ _ (c.requires.alone k) (c.clear_other.ensures.any_moment k) (c.in_ok-clear_other.ensures.cleared k) (chains g here k)

pub returns-clause-beyond : goal.returns-clause-beyond
returns-clause-beyond g c = λ k.
    let here = (goal.at.returns-clause-beyond g c).After-open_chain in
    chain_beyond c.args.halves.now _ (is_area g here k) _ _ (c.requires.alone k) (c.clear_other.ensures.any_moment k) (c.in_ok-clear_other.ensures.cleared k) (chains g here k)

pub returns-clause-begun : goal.returns-clause-begun
returns-clause-begun g c =
    let here = (goal.at.returns-clause-begun g c).After-open_chain in
    on_ok_weaker c.open_chain.result
    (λ chained k.
    begun c.args.halves.now _ (is_area g here k) _ _ (c.requires.alone k) (c.clear_other.ensures.any_moment k) (c.in_ok-clear_other.ensures.cleared k) (chains g here k)
    (g.met.D.Disk.bytes c.clear_other.new.disk) c.requires.usable.long_enough
    (subst (λ (log : Log). Chained (layout_of_log log) log.named (g.D.Disk.medium c.clear_other.new.disk) (g.D.Disk.medium c.open_chain.new.disk)) c.in_ok-clear_other.ensures.log
    (chained k))
    (g.met.D.Disk.bytes c.args.disk.now) (g.met.D.Disk.bytes c.open_chain.new.disk))
    c.open_chain.ensures.chained

pub returns-in_err-clear_other-clause-costs : goal.returns-in_err-clear_other-clause-costs
returns-in_err-clear_other-clause-costs g c =
    rw (err_is c.from_residual.ensures.1) (λ k. omega (arith, c.in_err-clear_other.ensures.costs k))
