-- What was run fits where it was lent.
use Rattle.std.proofs.Common.{◌≡◌, subst, sym}
use Rattle.affinity.specs.declared.geometry.Geometry.{Geometry}
use Rattle.affinity.specs.Interval.{IsAffinityOf}
use Rattle.affinity.specs.Path.{Path}
use Rattle.affinity.specs.Place.{path_of_kind}
use Rattle.protocol.specs.Messages.{kind, path_of}
use Rattle.parcel.specs.Fits.{Fits, IsKindOf, IsRunnable}
use Rattle.parcel.specs.JobRun.{JobView}
use Rattle.parcel.proofs.RunFits.{fits_where_lent}
use Rattle.serial_tests.proofs.parcel_lines.serve.Goals as goal

pub restore-requires-clause-fits : goal.restore-requires-clause-fits
restore-requires-clause-fits c =
    let g = c.geometry-g.result in
    let m = c.args.message.now in
    let same : g ≡ c.lend.new.self.geometry = cc in
    let runnable : IsRunnable g m c.run-done.result.parcels = subst (λ (j : JobView). IsRunnable j.geometry j.message c.run-done.result.parcels) c.new.ensures c.run-done.ensures.runnable in
    let there : IsAffinityOf g (path_of g m) c.in-Some.a =
    subst (λ n. IsAffinityOf g (path_of_kind g (kind m) n) c.in-Some.a) c.numbers.ensures
    (subst (λ k. IsAffinityOf g (path_of_kind g k c.numbers.result) c.in-Some.a) c.kind.ensures c.in-Some.ensures.placed) in
    subst (λ l. (q : Path) → IsAffinityOf c.lend.new.self.geometry q c.in-Some.a → IsKindOf q l → Fits c.lend.new.self.geometry q l) (sym c.into_parcels.ensures)
    (subst (λ (h : Geometry). (q : Path) → IsAffinityOf h q c.in-Some.a → IsKindOf q c.run-done.result.parcels → Fits h q c.run-done.result.parcels) same
    (fits_where_lent there runnable))
