-- Stripes that are emptied fit, and are whole where they were, and no file is left.
use Rattle.std.proofs.Common.{◌≡◌, None, ◌∙◌, length, arith}
use Rattle.meaning.proofs.FileBits.{none_below}
use Rattle.parcel.specs.Removes.{is_removed}
use Rattle.parcel.proofs.StripeRows.{row_fits, row_whole}
use Rattle.parcel.proofs.running.at_aggregate.clear_files.Goals as goal

pub returns-clause-fits : goal.returns-clause-fits
returns-clause-fits c =
    let old = c.args.logical.now.stripes in
    let new = c.remove_blocks.new.stripes in
    let same : length new.items ≡ length old.items = omega (arith, c.remove_blocks.ensures.count, old.ok.0, new.ok.0) in
    λ g fits. record {
      files = none_below g.files;
      count = same ∙ fits.count;
      stripes = row_fits (is_removed None) g 0 old.items new.items same (λ s lt. c.remove_blocks.ensures.each s (omega (arith, lt, old.ok.0))) fits.stripes;
    }

pub returns-clause-whole : goal.returns-clause-whole
returns-clause-whole c =
    let old = c.args.logical.now.stripes in
    let new = c.remove_blocks.new.stripes in
    let same : length new.items ≡ length old.items = omega (arith, c.remove_blocks.ensures.count, old.ok.0, new.ok.0) in
    row_whole (is_removed None) old.items new.items same (λ s lt. c.remove_blocks.ensures.each s (omega (arith, lt, old.ok.0)))
