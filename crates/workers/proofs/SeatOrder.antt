-- The dispatcher's seat has a list of slots: the job cell of each place where nothing is lent. It reaches only the first, so the list is
-- rotated.
use Rattle.std.proofs.lemmas.Grind.{common_steps}
use Rattle.std.proofs.Common.{◌≡◌, ℕ, zero, suc, ◌+◌, ◌<◌, Bool, true, false, List, [], ◌∷◌, ◌++◌, length, get_or, set, take, drop, Option, None, Some, is_some, refl, sym, ap, ◌∙◌, arith, drop-cons}
use Rattle.std.proofs.lemmas.List.{take-set, drop-set-lt, get_or-set_same, length-set}
use Rattle.atomic_table.specs.Table.{turned}
use Rattle.parcel.specs.JobRun.{JobView}
use Rattle.workers.specs.Rule.{LentJobs, lent_at}
use Rattle.workers.specs.Seats.{empty_slots, empty_slots_from}
use Rattle.workers.specs.declared.job_cell.CellContent.{CellContent}

append_none : (xs : List (ℕ × Option CellContent)) → xs ++ [] ≡ xs
append_none [] = refl
append_none (x ∷ xs) = ap (λ ys. x ∷ ys) (append_none xs)

drop_all : (ls : LentJobs) → drop (length ls) ls ≡ []
drop_all [] = refl
drop_all (x ∷ xs) = drop_all xs

take_all : (ls : LentJobs) → take (length ls) ls ≡ ls
take_all [] = refl
take_all (x ∷ xs) = ap (λ ys. x ∷ ys) (take_all xs)

pub spare_from_end : (n : ℕ) (ls : LentJobs) → n ≡ length ls → empty_slots_from n ls ≡ empty_slots 0 ls
spare_from_end n ls e = ap (λ m. empty_slots_from m ls) e ∙ λ i. empty_slots (length ls) (drop_all ls i) ++ empty_slots 0 (take_all ls i)

spare_one : (i : ℕ) (o : Option JobView) (ls : LentJobs) → o ≡ None → empty_slots i (o ∷ ls) ≡ (i, None) ∷ empty_slots (suc i) ls
spare_one i o ls e = ap (λ x. empty_slots i (x ∷ ls)) e

spare_none : (i : ℕ) (o : Option JobView) (ls : LentJobs) (job : JobView) → o ≡ Some job → empty_slots i (o ∷ ls) ≡ empty_slots (suc i) ls
spare_none i o ls job e = ap (λ x. empty_slots i (x ∷ ls)) e

-- the empty slots of the first k + 1 places are those of the first k and that of place k, if it has one
spare_take : (i k : ℕ) (ls : LentJobs) → k < length ls → empty_slots i (take (suc k) ls) ≡ empty_slots i (take k ls) ++ empty_slots (i + k) (get_or ls k None ∷ [])
spare_take i k [] h = absurd (omega arith)
spare_take i zero (x ∷ xs) h = let e : i ≡ i + 0 = omega arith in ap (λ m. empty_slots m (x ∷ [])) e
spare_take i (suc k) (None ∷ xs) h = grind (arith, common_steps, spare_take (suc i) k xs)
spare_take i (suc k) (Some job ∷ xs) h = grind (arith, common_steps, spare_take (suc i) k xs)

spare_before : (k : ℕ) (ls : LentJobs) → k < length ls → empty_slots 0 (take (suc k) ls) ≡ empty_slots 0 (take k ls) ++ empty_slots k (get_or ls k None ∷ [])
spare_before k ls h = let e : 0 + k ≡ k = omega arith in spare_take 0 k ls h ∙ ap (λ m. empty_slots 0 (take k ls) ++ empty_slots m (get_or ls k None ∷ [])) e

-- the slots of all other places where nothing is lent, from the next place on
abbrev pub others : ℕ → LentJobs → List (ℕ × Option CellContent)
others k ls = empty_slots (suc k) (drop (suc k) ls) ++ empty_slots 0 (take k ls)

-- the list begins with the slot of a place where nothing is lent
pub spare_from_empty : (k : ℕ) (ls : LentJobs) → k < length ls → lent_at ls k ≡ None → empty_slots_from k ls ≡ (k, None) ∷ (empty_slots (suc k) (drop (suc k) ls) ++ empty_slots 0 (take k ls))
spare_from_empty k ls h e = ap (λ ys. ys ++ empty_slots 0 (take k ls)) (ap (empty_slots k) (drop-cons ls k None h) ∙ spare_one k _ _ e)

spare_from_lent : (k : ℕ) (ls : LentJobs) (job : JobView) → k < length ls → lent_at ls k ≡ Some job → empty_slots_from k ls ≡ empty_slots (suc k) (drop (suc k) ls) ++ empty_slots 0 (take k ls)
spare_from_lent k ls job h e = ap (λ ys. ys ++ empty_slots 0 (take k ls)) (ap (empty_slots k) (drop-cons ls k None h) ∙ spare_none k _ _ job e)

pub turns : (k : ℕ) (ls : LentJobs) → k < length ls → lent_at ls k ≡ None → turned (empty_slots_from k ls) ≡ empty_slots_from (k + 1) ls
turns k ls h e = grind (arith, common_steps, spare_from_empty, spare_before)

passes_job : (k : ℕ) (ls : LentJobs) (job : JobView) → k < length ls → lent_at ls k ≡ Some job → empty_slots_from k ls ≡ empty_slots_from (k + 1) ls
passes_job k ls job h e = let one : suc k ≡ k + 1 = omega arith in
    spare_from_lent k ls job h e ∙ (ap (λ ys. empty_slots (suc k) (drop (suc k) ls) ++ ys)
    (sym (spare_before k ls h ∙ (ap (λ o. empty_slots 0 (take k ls) ++ empty_slots k (o ∷ [])) e ∙ append_none (empty_slots 0 (take k ls)))))
    ∙ ap (λ m. empty_slots_from m ls) one)

is_job : (o : Option JobView) → is_some o ≡ true → (job : JobView) × (o ≡ Some job)
is_job None e = absurd (cc)
is_job (Some job) e = (job, refl)

is_nothing : (o : Option JobView) → is_some o ≡ false → o ≡ None
is_nothing None e = refl
is_nothing (Some job) e = absurd (cc)

pub passes : (k : ℕ) (ls : LentJobs) (flag : Bool) → k < length ls → flag ≡ is_some (lent_at ls k) → flag ≡ true → empty_slots_from k ls ≡ empty_slots_from (k + 1) ls
passes k ls flag h e on = let t = is_job (lent_at ls k) (sym e ∙ on) in passes_job k ls t.0 h t.1

pub turns_empty : (k : ℕ) (ls : LentJobs) (flag : Bool) → k < length ls → flag ≡ is_some (lent_at ls k) → flag ≡ false → turned (empty_slots_from k ls) ≡ empty_slots_from (k + 1) ls
turns_empty k ls flag h e off = turns k ls h (is_nothing (lent_at ls k) (sym e ∙ off))

-- what is left once a job was offered in the slot of place k
pub lent_rest : (k : ℕ) (ls : LentJobs) (job : JobView) → k < length ls → empty_slots (suc k) (drop (suc k) ls) ++ empty_slots 0 (take k ls) ≡ empty_slots_from (k + 1) (set ls k (Some job))
lent_rest k ls job h = grind (arith, common_steps, length-set, drop-set-lt, spare_before, get_or-set_same, append_none, take-set)

-- the list once the seat has the slot of place k again
pub back_rest : (k : ℕ) (ls : LentJobs) (job : JobView) → k < length ls → lent_at ls k ≡ Some job → (k, None) ∷ empty_slots_from k ls ≡ empty_slots_from k (set ls k None)
back_rest k ls job h e = grind (arith, common_steps)
