-- Statement for engineers: The content of a cell, from its two vectors.
use Rattle.std.specs.Prelude.{List, [], ◌∷◌, Option, None, Some}
use Rattle.parcel.specs.JobRun.{JobView}
use Rattle.parcel.specs.declared.job.Done.{Done}
use Rattle.workers.specs.declared.job_cell.CellContent.{CellContent}
use Rattle.workers.specs.declared.job_cell.CellContent.TheVariants.{Offered, Delivered}

-- what a cell holds: the job or the result that one of its vectors has
abbrev pub content_of : List JobView → List Done → Option CellContent
content_of (job ∷ jobs) results = Some (Offered job)
content_of [] (done ∷ results) = Some (Delivered done)
content_of [] [] = None
