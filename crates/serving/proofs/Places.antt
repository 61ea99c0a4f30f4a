-- How many places are free.
use Rattle.std.proofs.Common.{◌≡◌, ℕ, ◌+◌, Bool, List, Option, Some, None, ap, get_or, set, arith}
use Rattle.std.specs.Prelude.{cond, count_by, is_none, position}
use Rattle.std.proofs.lemmas.List.Quantifiers.{position-Some}
use Rattle.std.proofs.lemmas.List.Sums.{sum_by-set}
use Rattle.parcel.specs.JobRun.{JobView}

-- Once a job is lent at the first free place, one place less is free.
pub fewer_free : (lent : List (Option JobView)) (k : ℕ) (job : JobView) → position is_none lent ≡ Some k
    → count_by is_none (set lent k (Some job)) + 1 ≡ count_by is_none lent
fewer_free lent k job first =
    let at = position-Some is_none lent k None first in
    let change = sum_by-set (λ (o : Option JobView). cond (is_none o) 1 0) lent k (Some job) None at.0 in
    let one : cond (is_none (get_or lent k None)) 1 0 ≡ 1 = ap (λ (b : Bool). cond {A = ℕ} b 1 0) at.1 in
    omega (arith, change, one)
