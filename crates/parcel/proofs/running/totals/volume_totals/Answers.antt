-- Files are counted by their bits and blocks by the stripes, where these are in; a volume that is made counts one.
use Rattle.std.proofs.Common.{◌≡◌, ap, sym, subst, ◌∙◌}
use Rattle.std.specs.Prelude.{count_ones, IfSome}
use Rattle.parcel.proofs.PieceBytes.{mark_byte}
use Rattle.affinity.specs.declared.geometry.Geometry.{Geometry}
use Rattle.meaning.specs.State.{count_below}
use Rattle.meaning.proofs.FileNumber.{count_back}
use Rattle.parcel.specs.Fits.{FitsLogical}
use Rattle.parcel.specs.Shown.{files_in, blocks_below, has_file}
use Rattle.parcel.specs.declared.parts.Logical.{Logical}
use Rattle.parcel.specs.Totals.{block_total}
use Rattle.meaning.proofs.Sums.{sum_zero, one_if}
use Rattle.parcel.proofs.StripeTotals.{no_blocks}
use Rattle.parcel.proofs.running.totals.volume_totals.Goals as goal
use Rattle.parcel.proofs.running.totals.volume_totals.Goals.{in-Some, in-None}

-- the bits of a volume's files are of files that the geometry has
files_counted : (g : Geometry) (l : Logical) → FitsLogical g l → count_ones l.files ≡ count_below g.files (has_file l.files)
files_counted g l fits = sym (count_back g.files l.files fits.files)

pub returns : goal.returns
returns c =
    let g = c.args.g.now in
    let w = c.args.volume.now in
    let made : c.from.result ≡ one_if w.made = c.from.ensures ∙ mark_byte w.made in
    let both : (c.match-volume.files.0 ≡ count_below g.files (files_in w.logical)) × (c.match-volume.files.1 ≡ block_total g (blocks_below g w.logical)) =
    elim c.match-volume.branch [
      | in-Some b ↦ (
        ap (λ p. p.0) b.files-is ∙ files_counted g b.in-Some.logical (subst (λ o. IfSome o (FitsLogical g)) b.in-Some.is c.requires.logical)
            ∙ ap (λ o. count_below g.files (files_in o)) (sym b.in-Some.is),
        ap (λ p. p.1) b.files-is ∙ b.block_count.ensures ∙ ap (λ o. block_total g (blocks_below g o)) (sym b.in-Some.is),
      )
      | in-None b ↦ (
        ap (λ p. p.0) b.files-is ∙ sym (sum_zero g.files) ∙ ap (λ o. count_below g.files (files_in o)) (sym b.in-None.is),
        ap (λ p. p.1) b.files-is ∙ sym (no_blocks g) ∙ ap (λ o. block_total g (blocks_below g o)) (sym b.in-None.is),
      )
    ] in
    λ i. record { volumes = made i; files = both.0 i; blocks = both.1 i }
