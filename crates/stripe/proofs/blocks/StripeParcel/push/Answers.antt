-- The bytes are the entry, which goes in behind all others.
use Rattle.std.proofs.Common.{◌≡◌, ◌-◌, ◌≤◌, ℕ, true, List, ap, refl, take, get_or, ◌+◌, ◌*◌, sym, ◌∙◌, length, subst, arith, drop}
use Rattle.std.specs.List.{AllByRecursion, insert}
use Rattle.std.proofs.lemmas.Bool.{true≢false}
use Rattle.std.proofs.lemmas.List.{drop_all, get_or-drop, length-drop, take_all}
use Rattle.std.proofs.lemmas.List.Edits.{insert_end}
use Rattle.stripe.specs.Entries.{entry_in, fits_stripe}
use Rattle.stripe.specs.Stripe.{BlockEntry, PrecedesBlock}
use Rattle.stripe.proofs.EntriesRead.{row_spelled}
use Rattle.stripe.proofs.blocks.StripeParcel.push.Goals as goal

block_in : (row : List ℕ) {b : ℕ} → b ≡ get_or row 2 0 + get_or row 3 0 * 256 → b ≡ (entry_in row).block
block_in row is = omega (arith, is, get_or-drop 2 row 0 0, get_or-drop 2 row 1 0)

pub returns-clause-pushed : goal.returns-clause-pushed
returns-clause-pushed c is =
    let blank = c.is_blank_between.ensures.0 c.if-not-is_blank_between.false in
    let stands : c.fits_stripe.result ≡ true = c.if-not-fits_stripe.false in
    let before = c.ends_before.ensures.0 c.if-not-ends_before.false in
    let file_is : c.from-file.result ≡ (entry_in c.args.row.now).file = c.from-file.ensures in
    let block_is : c.from_le_bytes-block.result ≡ (entry_in c.args.row.now).block = block_in c.args.row.now c.from_le_bytes-block.ensures in
    let rest : length (drop 8 c.args.row.now) ≤ length c.args.row.now - 8 = omega (arith, length-drop 8 c.args.row.now) in
    let content_is : c.copy_from_slice.new.self ≡ drop 8 c.args.row.now = c.copy_from_slice.ensures.after ∙ take_all (length c.args.row.now - 8) (drop 8 c.args.row.now) rest in (
      record {
        spelled = row_spelled c.args.row.now c.requires.row c.requires.marked blank (c.type_inv.row 2).fits (c.type_inv.row 3).fits;
        fits = (λ i. fits_stripe c.args.g.now c.args.files c.args.s (sym file_is i) (sym block_is i)) ∙ sym c.fits_stripe.ensures ∙ stands;
        behind = subst (λ (f : ℕ). AllByRecursion (λ e. PrecedesBlock e.file e.block f (entry_in c.args.row.now).block) c.args.self.now.entries) file_is
            (subst (λ (b : ℕ). AllByRecursion (λ e. PrecedesBlock e.file e.block c.from-file.result b) c.args.self.now.entries) block_is before);
      },
      c.insert.ensures
          ∙ (λ i. record {
            quota = c.args.self.now.quota;
            entries = insert c.args.self.now.entries (c.len-n.ensures.count i) (record { file = file_is i; block = block_is i; content = record { 0 = content_is i } });
          })
          ∙ ap (λ (es : List BlockEntry). record { quota = c.args.self.now.quota; entries = es }) (insert_end c.args.self.now.entries (entry_in c.args.row.now)),
    )

pub returns-then-not-is_blank_between-clause-refused : goal.returns-then-not-is_blank_between-clause-refused
returns-then-not-is_blank_between-clause-refused c is =
    (refl, λ next. true≢false (sym (c.is_blank_between.ensures.1 (ap (λ (l : List ℕ). take 4 (drop 4 l)) next.spelled)) ∙ c.if-not-is_blank_between.true))

pub returns-then-not-fits_stripe-clause-refused : goal.returns-then-not-fits_stripe-clause-refused
returns-then-not-fits_stripe-clause-refused c is =
    let block_is : c.from_le_bytes-block.result ≡ (entry_in c.args.row.now).block = block_in c.args.row.now c.from_le_bytes-block.ensures in (
      refl,
      λ next. true≢false (sym next.fits ∙ (λ i. fits_stripe c.args.g.now c.args.files c.args.s (sym c.from-file.ensures i) (sym block_is i))
          ∙ sym c.fits_stripe.ensures ∙ c.if-not-fits_stripe.true),
    )

pub returns-then-not-ends_before-clause-refused : goal.returns-then-not-ends_before-clause-refused
returns-then-not-ends_before-clause-refused c is =
    let block_is : c.from_le_bytes-block.result ≡ (entry_in c.args.row.now).block = block_in c.args.row.now c.from_le_bytes-block.ensures in
    (refl, λ next. true≢false (sym (c.ends_before.ensures.1 (rw (c.from-file.ensures, block_is) next.behind)) ∙ c.if-not-ends_before.true))

pub insert-requires-clause-gap : goal.insert-requires-clause-gap
insert-requires-clause-gap c =
    rw c.len-n.ensures.count (record {
      within = omega arith;
      before = rw (take_all (length c.args.self.now.entries) c.args.self.now.entries (omega arith)) (c.ends_before.ensures.0 c.if-not-ends_before.false);
      behind = rw (drop_all (length c.args.self.now.entries) c.args.self.now.entries (omega arith)) tt;
    })
