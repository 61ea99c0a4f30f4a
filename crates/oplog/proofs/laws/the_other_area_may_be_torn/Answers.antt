-- Recovery reads neither the image that isn't named nor a half that isn't in force.
use Rattle.oplog.proofs.AfterCrash.{clear_by_area, image_by_area}
use Rattle.oplog.proofs.laws.the_other_area_may_be_torn.Goals as goal

pub returns-clause-half : goal.returns-clause-half
returns-clause-half g c = clear_by_area

pub returns-clause-image : goal.returns-clause-image
returns-clause-image g c = image_by_area
