-- Both claims, that it has the header and that it isn't refused, are lemmas of `NotRefused`.
use Rattle.recovery.proofs.NotRefused.{has_header, is_not_refused}
use Rattle.recovery.proofs.laws.a_device_that_recovers_is_not_refused.Goals as goal

pub returns : goal.returns
returns c g bytes x are recovered_before = (has_header g bytes x are recovered_before, is_not_refused g bytes x are recovered_before)
