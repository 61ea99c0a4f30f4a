-- Each line that is sent again brings the state nearer to the one that there would be without a crash.
use Rattle.meaning.proofs.SendingAgain.{nothing_is_new, quota_is_large, sending_again_heals}
use Rattle.meaning.proofs.StripeSizes.{stripe_size_is_bounded}
use Rattle.meaning.proofs.laws.sending_again_heals.Goals as goal

pub returns-clause-heals : goal.returns-clause-heals
returns-clause-heals c = sending_again_heals

pub returns-clause-large_quota : goal.returns-clause-large_quota
returns-clause-large_quota c = quota_is_large

pub returns-clause-nothing_new : goal.returns-clause-nothing_new
returns-clause-nothing_new c = nothing_is_new

pub returns-clause-stripe_size : goal.returns-clause-stripe_size
returns-clause-stripe_size c = stripe_size_is_bounded
