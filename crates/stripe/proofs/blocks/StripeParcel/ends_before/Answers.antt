-- All blocks come before this one exactly if its position in the index is behind all of them.
use Rattle.std.proofs.Common.{◌≡◌, ◌∙◌, subst, sym, arith, length}
use Rattle.std.specs.List.{AllByRecursion}
use Rattle.std.proofs.lemmas.Bool.{eqb-true, eq-eqb}
use Rattle.std.proofs.lemmas.List.{take_all}
use Rattle.stripe.specs.Stripe.{PrecedesBlock}
use Rattle.stripe.specs.Index.{IsSplit}
use Rattle.stripe.proofs.EntriesRead.{all_split}
use Rattle.stripe.proofs.blocks.StripeParcel.ends_before.Goals as goal

pub returns : goal.returns
returns c =
    let parts : IsSplit c.args.self.now.entries c.args.file c.args.block c.count_before.result = rw (← c.from.ensures, ← c.from-2.ensures) c.count_before.ensures.parts in (
      λ is.
          let last : c.count_before.result ≡ length c.args.self.now.entries = eqb-true c.count_before.result c.len.result is ∙ c.len.ensures.count in
          subst (AllByRecursion (λ e. PrecedesBlock e.file e.block c.args.file c.args.block)) (take_all c.count_before.result c.args.self.now.entries (omega (arith, last))) parts.before,
      λ all.
          eq-eqb c.count_before.result c.len.result
          (all_split (λ e. PrecedesBlock e.file e.block c.args.file c.args.block) c.args.self.now.entries c.count_before.result parts.within all parts.behind ∙ sym c.len.ensures.count),
    )
