-- What the flags of a dispatcher's seat show of its places.
use Rattle.std.proofs.Common.{◌≡◌, ℕ, zero, suc, ◌+◌, Bool, false, List, [], ◌∷◌, map, length, not, cond, nat_lt, replicate, position, Option, None, Some, is_some, is_none, refl, sym, ap, ◌∙◌}
use Rattle.std.specs.List.{list_any, prefix_len}
use Rattle.parcel.specs.JobRun.{JobView}
use Rattle.workers.specs.Rule.{LentJobs}
use Rattle.workers.proofs.OfferAndCollect.{counted}

lent_before_free : (ls : LentJobs) → prefix_len (λ b. not (not b)) (map is_some ls) ≡ prefix_len (λ o. not (is_none o)) ls
lent_before_free [] = refl
lent_before_free (None ∷ ls) = refl
lent_before_free (Some job ∷ ls) = ap (λ n. 1 + n) (lent_before_free ls)

-- the first flag that is down is that of the first place where nothing is lent
pub first_free_is_down : (fs : List Bool) (ls : LentJobs) → fs ≡ map is_some ls → position not fs ≡ position is_none ls
first_free_is_down fs ls e =
    let long = counted fs ls e in
    let before = ap (prefix_len (λ b. not (not b))) e ∙ lent_before_free ls in
    λ i. cond (nat_lt (before i) (long i)) (Some (before i)) None

abbrev up : List Bool → Bool
up = list_any (λ b. b)

none_lent : (ls : LentJobs) → up (map is_some ls) ≡ false → ls ≡ replicate (length ls) None
none_lent [] e = refl
none_lent (None ∷ ls) e = ap (λ l. None ∷ l) (none_lent ls e)
none_lent (Some job ∷ ls) e = absurd (cc)

all_down : (n : ℕ) → up (map is_some (replicate {A = Option JobView} n None)) ≡ false
all_down zero = refl
all_down (suc n) = all_down n

pub down_is_empty : (fs : List Bool) (ls : LentJobs) → fs ≡ map is_some ls → list_any (λ b. b) fs ≡ false → ls ≡ replicate (length ls) None
down_is_empty fs ls e off = none_lent ls (sym (ap up e) ∙ off)

pub empty_is_down : (fs : List Bool) (ls : LentJobs) → fs ≡ map is_some ls → ls ≡ replicate (length ls) None → list_any (λ b. b) fs ≡ false
empty_is_down fs ls e none = ap up e ∙ (ap (λ l. up (map is_some l)) none ∙ all_down (length ls))
