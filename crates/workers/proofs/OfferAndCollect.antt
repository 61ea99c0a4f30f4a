-- The dispatcher's seat from one step of an offer or a collection to the next.
use Rattle.std.proofs.lemmas.Grind.{common_steps}
use Rattle.std.proofs.Common.{◌≡◌, ℕ, zero, suc, false, replicate, ◌+◌, ◌<◌, Bool, List, [], ◌∷◌, map, length, set, Option, None, Some, is_some, refl, sym, ap, ◌∙◌, arith}
use Rattle.std.proofs.lemmas.List.{map-set}
use Rattle.atomic_table.specs.Table.{rest}
use Rattle.atomic_table.specs.Seated.{TableId}
use Rattle.parcel.specs.JobRun.{JobView}
use Rattle.parcel.specs.declared.job.Done.{Done}
use Rattle.workers.specs.Rule.{LentJobs, lent_at}
use Rattle.workers.specs.Steps.{SeatState, Offers, job_on}
use Rattle.workers.specs.Seats.{IsBench, IsDispatchSeat, places_of, lent_of, empty_slots, empty_slots_from}
use Rattle.workers.specs.declared.job_cell.CellContent.{CellContent}
use Rattle.workers.specs.declared.job_cell.CellContent.TheVariants.{Offered, Delivered}
use Rattle.workers.specs.declared.seats.SeatRole.TheVariants.{Dispatcher, Claimed}
use Rattle.workers.proofs.SeatOrder.{others, spare_from_end, spare_from_empty, lent_rest, back_rest}

-- a list that begins with x
pub headed : {xs : List (ℕ × Option CellContent)} {x : ℕ × Option CellContent} {r : List (ℕ × Option CellContent)} → xs ≡ x ∷ r → xs ≡ x ∷ rest xs
headed {x = x} e = e ∙ ap (λ ys. x ∷ rest ys) (sym e)

abbrev first_of : List (ℕ × Option CellContent) → Option CellContent
first_of [] = None
first_of (x ∷ xs) = x.1

pub same_head : {xs r s : List (ℕ × Option CellContent)} {k : ℕ} {x y : Option CellContent} → xs ≡ (k, x) ∷ r → xs ≡ (k, y) ∷ s → x ≡ y
same_head e f = ap first_of (sym e ∙ f)

-- the seat after its list of slots was rotated to place k
pub turned_to : {m n : SeatState} {ls : LentJobs} {xs ys : List (ℕ × Option CellContent)} → m ≡ (Dispatcher 0 ls, xs) → n ≡ (m.0, ys) → n ≡ (Dispatcher 0 ls, ys)
turned_to {ys = ys} e f = f ∙ λ i. ((e i).0, ys)

-- the seat after a job was laid into the slot of place k
pub filled : {k : ℕ} {ls : LentJobs} {x : Option CellContent} {m n : SeatState} → m ≡ (Dispatcher 0 ls, empty_slots_from k ls) → n ≡ (m.0, (k, x) ∷ rest m.1) → k < length ls → lent_at ls k ≡ None
    → n ≡ (Dispatcher 0 ls, (k, x) ∷ others k ls)
filled {k} {ls} {x} e f near empty = f ∙ (ap (λ (y : SeatState). (y.0, (k, x) ∷ rest y.1)) e ∙ λ i. (Dispatcher 0 ls, (k, x) ∷ rest (spare_from_empty k ls near empty i)))

pub lends : {k : ℕ} {ls : LentJobs} {job : JobView} {m n : SeatState} → m ≡ (Dispatcher 0 ls, (k, Some (Offered job)) ∷ others k ls) → Offers k m n → k < length ls
    → n ≡ (Dispatcher 0 (set ls k (Some job)), empty_slots_from (k + 1) (set ls k (Some job)))
lends {k} {ls} {job} e f near = f ∙ (ap (λ (y : SeatState). (Dispatcher 0 (set (lent_of y.0) k (job_on y.1)), rest y.1)) e ∙ λ i. (Dispatcher 0 (set ls k (Some job)), lent_rest k ls job near i))

-- the seat after the result was taken out of the slot of place k
pub comes_back : {k : ℕ} (ls : LentJobs) {job : JobView} {done : Done} {m n : SeatState} → m ≡ (Dispatcher 0 (set ls k None), (k, Some (Delivered done)) ∷ empty_slots_from k ls) → n
    ≡ (m.0, (k, None) ∷ rest m.1)
    → k < length ls → lent_at ls k ≡ Some job → n ≡ (Dispatcher 0 (set ls k None), empty_slots_from k (set ls k None))
comes_back {k} ls {job} e f near is = f ∙ (ap (λ (y : SeatState). (y.0, (k, None) ∷ rest y.1)) e ∙ λ i. (Dispatcher 0 (set ls k None), back_rest k ls job near is i))

pub held_at : (j : ℕ) {m : SeatState} {ls : LentJobs} → m ≡ (Dispatcher 0 ls, empty_slots_from j ls) → m.1 ≡ empty_slots_from j (lent_of m.0)
held_at j e = ap (λ (n : SeatState). n.1) e ∙ sym (ap (λ (n : SeatState). empty_slots_from j (lent_of n.0)) e)

pub flags_of : {fs : List Bool} {m : SeatState} {ls : LentJobs} {xs : List (ℕ × Option CellContent)} → fs ≡ map is_some ls → m ≡ (Dispatcher 0 ls, xs) → fs ≡ map is_some (lent_of m.0)
flags_of e f = e ∙ sym (ap (λ (n : SeatState). map is_some (lent_of n.0)) f)

pub flag_set : (fs : List Bool) (k : ℕ) (ls : LentJobs) (o : Option JobView) → fs ≡ map is_some ls → set fs k (is_some o) ≡ map is_some (set ls k o)
flag_set fs k ls o e = ap (λ gs. set gs k (is_some o)) e ∙ sym (map-set is_some ls k o)

-- the seat after its list was rotated to the end: the slots are in order again
pub rotated_to_end : (j : ℕ) {n : ℕ} {ls : LentJobs} {m w : SeatState} → m ≡ (Dispatcher 0 ls, empty_slots_from j ls) → w ≡ (m.0, empty_slots_from n (lent_of m.0)) → n ≡ length ls → w
    ≡ (Dispatcher 0 ls, empty_slots 0 ls)
rotated_to_end j {n} {ls} e f long = f ∙ (ap (λ (y : SeatState). (y.0, empty_slots_from n (lent_of y.0))) e ∙ λ i. (Dispatcher 0 ls, spare_from_end n ls long i))

pub dispatch_seat_of : {z : TableId} {m : SeatState} {fs : List Bool} {ls : LentJobs} → IsBench z → m ≡ (Dispatcher 0 ls, empty_slots 0 ls) → fs ≡ map is_some ls → length fs ≡ places_of z
    → IsDispatchSeat z m fs
dispatch_seat_of bench e f long = grind (arith, common_steps)

mapped_length : (ls : LentJobs) → length (map is_some ls) ≡ length ls
mapped_length [] = refl
mapped_length (x ∷ xs) = ap suc (mapped_length xs)

-- as many flags as places
pub counted : (fs : List Bool) (ls : LentJobs) → fs ≡ map is_some ls → length fs ≡ length ls
counted fs ls e = ap length e ∙ mapped_length ls

pub within : {z : TableId} {m : SeatState} {fs : List Bool} (k : ℕ) → IsDispatchSeat z m fs → k < places_of z → k < length (lent_of m.0)
within {m = m} {fs = fs} k d h = let e = counted fs (lent_of m.0) d.flagged in let p = d.places in omega arith

pub one_result : (a b : Done) → Some (Delivered a) ≡ Some (Delivered b) → a ≡ b
one_result a b e = cc

pub one_job : (a b : JobView) → Some (Offered a) ≡ Some (Offered b) → a ≡ b
one_job a b e = cc

-- a worker puts the result into the slot from which it took the job
pub answered : {k : ℕ} {job : JobView} {x y z : Option CellContent} {m n w : SeatState} → m ≡ (Claimed k job, (k, x) ∷ []) → n ≡ (m.0, (k, y) ∷ rest m.1)
    → w ≡ (n.0, (k, z) ∷ rest n.1) → w ≡ (Claimed k job, (k, z) ∷ [])
answered {k} {y = y} {z = z} e f g = g ∙ ap (λ (u : SeatState). (u.0, (k, z) ∷ rest u.1)) (f ∙ ap (λ (u : SeatState). (u.0, (k, y) ∷ rest u.1)) e)

pub no_flags : (n : ℕ) → replicate n false ≡ map is_some (replicate {A = Option JobView} n None)
no_flags zero = refl
no_flags (suc n) = ap (λ fs. false ∷ fs) (no_flags n)
