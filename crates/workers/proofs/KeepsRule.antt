-- Each kind of step keeps the rule of the bench (`BenchRule`).
use Rattle.std.proofs.lemmas.Grind.{common_steps}
use Rattle.std.proofs.Common.{◌≡◌, ◌≢◌, ℕ, zero, suc, ◌+◌, ◌<◌, ◌≤◌, List, [], ◌∷◌, map, length, get_or, set, replicate, Option, None, Some, eqb, sym, refl, ap, ◌∙◌, subst, ⊎_elim, arith, length-set, get_or-set_other, get_or-set_same}
use Rattle.std.proofs.lemmas.List.{set-get_or, length-replicate, get_or-replicate}
use mathlib.Core.Option.{none, some, some-injective, some-ne-none}
use lib.ListN.{get_elem?}
use prog.Atomic.{either}
use Rattle.atomic_table.specs.Table.{Step, step, Act, keeps, takes, gives, Valid, carried_after, stepped, opening, Allows, Splits}
use Rattle.atomic_table.proofs.Lists.{at_set, at_longer, at_snoc, set_else, set_again, exchanged}
use Rattle.parcel.specs.JobRun.{JobView, IsJobRun}
use Rattle.parcel.specs.declared.job.Done.{Done}
use Rattle.workers.specs.Rule.{BenchTable, SlotState, LentJobs, lent_at, word_index, PlaceState, is_empty, is_offered, is_claimed, is_delivered, BenchRule}
use Rattle.workers.specs.Steps.{SeatState, TakesSlot, Offers, Claims, Delivers, Collects, OfPlace}
use Rattle.workers.specs.Seats.{idle}
use Rattle.workers.specs.declared.job_cell.CellContent.{CellContent}
use Rattle.workers.specs.declared.job_cell.CellContent.TheVariants.{Offered, Delivered}
use Rattle.workers.specs.declared.seats.SeatRole.{SeatRole}
use Rattle.workers.specs.declared.seats.SeatRole.TheVariants.{Dispatcher, Idle, Claimed}
use Rattle.workers.specs.declared.words.TheConstants.{FIRST_PLACE, EMPTY, OFFERED, CLAIMED, DELIVERED}
use Rattle.workers.proofs.Rows.{set_at, there}

-- A dispatcher's view is never that of a worker with a claim.
dispatch_seat_is_no_claim : (r k : ℕ) (l : LentJobs) (job : JobView) → Dispatcher r l ≡ Claimed k job → ⊥
dispatch_seat_is_no_claim r k l job e = cc

-- a worker's view, which isn't that of the dispatcher
abbrev pub IsWorker : SeatRole → Type 0
IsWorker v = (r : ℕ) (l : LentJobs) → v ≡ Dispatcher r l → ⊥

idle_is_worker : IsWorker Idle
idle_is_worker r l e = cc

claim_is_worker : (k : ℕ) (job : JobView) → IsWorker (Claimed k job)
claim_is_worker k job r l e = cc

idle_is_no_claim : (k : ℕ) (job : JobView) → Idle ≡ Claimed k job → ⊥
idle_is_no_claim k job e = cc

one_claimed : (k i : ℕ) (job other : JobView) → Claimed k job ≡ Claimed i other → (k ≡ i) × (job ≡ other)
one_claimed k i job other e = ((cc), (cc))

-- The state of a place is as before where its word, what is lent and whether its slot was taken are as before.
stands_still : {r q k word word' : ℕ} {o o' : Option JobView} {slot : SlotState} → PlaceState r k word o slot
    → (k < q → k < r) → (q ≤ k → r ≤ k) → word' ≡ word → o' ≡ o → PlaceState q k word' o' slot
stands_still (is_empty w l before after) less more ew eo = is_empty (ew ∙ w) (eo ∙ l) (λ h. before (less h)) (λ h. after (more h))
stands_still (is_offered job w l at) less more ew eo = is_offered job (ew ∙ w) (eo ∙ l) at
stands_still (is_claimed job w l at) less more ew eo = is_claimed job (ew ∙ w) (eo ∙ l) at
stands_still (is_delivered job done w l at run) less more ew eo = is_delivered job done (ew ∙ w) (eo ∙ l) at run

-- the dispatcher's seat knows what the rule says
the_dispatch_seat : (s : BenchTable) (h : BenchRule s) (id r : ℕ) (l : LentJobs) → get_elem? s.views id ≡ some (Dispatcher r l) → (id ≡ h.dispatch_seat) × (r ≡ h.untaken) × (l ≡ h.lent)
the_dispatch_seat s h id r l me = grind (arith, common_steps)

-- The dispatcher changes place k, which nobody has claimed.
pub dispatch_seat_moves : {s : BenchTable} (h : BenchRule s) (id k : ℕ) {n r q : ℕ} {o : Option JobView} {l : LentJobs} {slot : SlotState}
    → get_elem? s.views id ≡ some (Dispatcher r l) → k < length s.homes
    → ((seat : ℕ) (job : JobView) → get_elem? s.views seat ≡ some (Claimed k job) → ⊥)
    → ((i : ℕ) → i ≢ k → ((i < q → i < r) × (q ≤ i → r ≤ i)))
    → PlaceState q k n o slot
    → BenchRule record { words = set s.words (word_index k) n; homes = set s.homes k slot; views = set s.views id (Dispatcher q (set l k o)) }
dispatch_seat_moves {s} h id k {n} {r} {q} {o} {l} {slot} me near free slot_taken stands =
    let d = the_dispatch_seat s h id r l me in
    let lent_length : length l ≡ length s.homes = ap length d.2 ∙ h.lent_length in
    let wide : word_index k < length s.words = let w = h.words in omega arith in
    record {
      dispatch_seat = id;
      untaken = q;
      lent = set l k o;
      words = length-set s.words (word_index k) n ∙ (h.words ∙ ap word_index (sym (length-set s.homes k slot)));
      lent_length = length-set l k o ∙ (lent_length ∙ sym (length-set s.homes k slot));
      dispatcher = set_at s.views id (Dispatcher r l) (Dispatcher q (set l k o)) me;
      no_other = λ seat p m at. ⊎_elim (λ t. t.0) (λ t. h.no_other seat p m t.1 ∙ sym d.0) (at_set s.views id seat (Dispatcher q (set l k o)) (Dispatcher p m) at);
      claims = λ seat i job at. ⊎_elim
          (λ t. absurd (dispatch_seat_is_no_claim q i (set l k o) job t.1))
          (λ t. let c = h.claims seat i job t.1 in let apart : i ≢ k = λ e. free seat job (subst (λ x. get_elem? s.views seat ≡ some (Claimed x job)) e t.1) in
          (get_or-set_other s.words (word_index k) (word_index i) n 0 (λ e. apart (omega arith)) ∙ c.0, get_or-set_other l k i o None apart ∙ (ap (λ x. lent_at x i) d.2 ∙ c.1)))
          (at_set s.views id seat (Dispatcher q (set l k o)) (Claimed i job) at);
      one_claim = λ seat other i job job' at at'. ⊎_elim
          (λ t. absurd (dispatch_seat_is_no_claim q i (set l k o) job t.1))
          (λ t. ⊎_elim
          (λ u. absurd (dispatch_seat_is_no_claim q i (set l k o) job' u.1))
          (λ u. h.one_claim seat other i job job' t.1 u.1)
          (at_set s.views id other (Dispatcher q (set l k o)) (Claimed i job') at'))
          (at_set s.views id seat (Dispatcher q (set l k o)) (Claimed i job) at);
      places = λ i x at. ⊎_elim
          (λ t. subst (λ j. PlaceState q j (get_or (set s.words (word_index k) n) (word_index j) 0) (lent_at (set l k o) j) x) (sym t.0)
          (subst (λ y. PlaceState q k (get_or (set s.words (word_index k) n) (word_index k) 0) (lent_at (set l k o) k) y) t.1
          (stands_still stands (λ a. a) (λ a. a) (get_or-set_same s.words (word_index k) n 0 wide) (get_or-set_same l k o None (omega arith)))))
          (λ t. let apart = t.0 in stands_still (h.places i x t.1)
          (λ a. let b = (slot_taken i apart).0 a in let e = d.1 in omega arith) (λ a. let b = (slot_taken i apart).1 a in let e = d.1 in omega arith)
          (get_or-set_other s.words (word_index k) (word_index i) n 0 (λ e. apart (omega arith))) (get_or-set_other l k i o None apart ∙ ap (λ y. lent_at y i) d.2))
          (at_set s.homes k i slot x at);
    }

-- A worker changes place k, which no other has claimed. Afterwards it has no claim but one of k.
pub worker_moves : {s : BenchTable} (h : BenchRule s) (id : ℕ) {k n : ℕ} {v w : SeatRole} {slot : SlotState}
    → get_elem? s.views id ≡ some v → k < length s.homes → IsWorker v × IsWorker w
    → ((seat : ℕ) (job : JobView) → seat ≢ id → get_elem? s.views seat ≡ some (Claimed k job) → ⊥)
    → ((i : ℕ) (job : JobView) → w ≡ Claimed i job → (i ≡ k) × (n ≡ CLAIMED) × (lent_at h.lent k ≡ Some job))
    → PlaceState h.untaken k n (lent_at h.lent k) slot
    → BenchRule record { words = set s.words (word_index k) n; homes = set s.homes k slot; views = set s.views id w }
worker_moves {s} h id {k} {n} {v} {w} {slot} me near workers free mine stands =
    let wide : word_index k < length s.words = let e = h.words in omega arith in
    let not_dispatch_seat : h.dispatch_seat ≢ id = λ e. workers.0 h.untaken h.lent (some-injective _ _ (sym me ∙ (ap (λ i. get_elem? s.views i) (sym e) ∙ h.dispatcher))) in
    record {
      dispatch_seat = h.dispatch_seat;
      untaken = h.untaken;
      lent = h.lent;
      words = length-set s.words (word_index k) n ∙ (h.words ∙ ap word_index (sym (length-set s.homes k slot)));
      lent_length = h.lent_length ∙ sym (length-set s.homes k slot);
      dispatcher = set_else s.views id h.dispatch_seat w not_dispatch_seat ∙ h.dispatcher;
      no_other = λ seat p m at. ⊎_elim (λ t. absurd (workers.1 p m t.1)) (λ t. h.no_other seat p m t.1) (at_set s.views id seat w (Dispatcher p m) at);
      claims = λ seat i job at. ⊎_elim
          (λ t. let c = mine i job t.1 in let here : k ≡ i = sym c.0 in
          (ap (λ j. get_or (set s.words (word_index k) n) (word_index j) 0) c.0 ∙ (get_or-set_same s.words (word_index k) n 0 wide ∙ c.1), ap (λ j. lent_at h.lent j) c.0 ∙ c.2))
          (λ t. let c = h.claims seat i job t.1 in let apart : i ≢ k = λ e. free seat job t.0 (subst (λ x. get_elem? s.views seat ≡ some (Claimed x job)) e t.1) in
          (get_or-set_other s.words (word_index k) (word_index i) n 0 (λ e. apart (omega arith)) ∙ c.0, c.1))
          (at_set s.views id seat w (Claimed i job) at);
      one_claim = λ seat other i job job' at at'. ⊎_elim
          (λ t. ⊎_elim
          (λ u. t.0 ∙ sym u.0)
          (λ u. absurd (free other job' u.0 (subst (λ x. get_elem? s.views other ≡ some (Claimed x job')) (mine i job t.1).0 u.1)))
          (at_set s.views id other w (Claimed i job') at'))
          (λ t. ⊎_elim
          (λ u. absurd (free seat job t.0 (subst (λ x. get_elem? s.views seat ≡ some (Claimed x job)) (mine i job' u.1).0 t.1)))
          (λ u. h.one_claim seat other i job job' t.1 u.1)
          (at_set s.views id other w (Claimed i job') at'))
          (at_set s.views id seat w (Claimed i job) at);
      places = λ i x at. ⊎_elim
          (λ t. subst (λ j. PlaceState h.untaken j (get_or (set s.words (word_index k) n) (word_index j) 0) (lent_at h.lent j) x) (sym t.0)
          (subst (λ y. PlaceState h.untaken k (get_or (set s.words (word_index k) n) (word_index k) 0) (lent_at h.lent k) y) t.1
          (stands_still stands (λ a. a) (λ a. a) (get_or-set_same s.words (word_index k) n 0 wide) refl)))
          (λ t. let apart = t.0 in stands_still (h.places i x t.1) (λ a. a) (λ a. a)
          (get_or-set_other s.words (word_index k) (word_index i) n 0 (λ e. apart (omega arith))) refl)
          (at_set s.homes k i slot x at);
    }

-- A step that leaves each place's word as it is keeps the rule.
aside : (s : BenchTable) (h : BenchRule s) (id : ℕ) (v : SeatRole) (ws : List ℕ) → get_elem? s.views id ≡ some v
    → length ws ≡ length s.words → ((k : ℕ) → get_or ws (word_index k) 0 ≡ get_or s.words (word_index k) 0)
    → BenchRule record { words = ws; homes = s.homes; views = set s.views id v }
aside s h id v ws me long same = subst (λ vs. BenchRule record { words = ws; homes = s.homes; views = vs }) (sym (set_again s.views id v me)) record {
  dispatch_seat = h.dispatch_seat;
  untaken = h.untaken;
  lent = h.lent;
  words = long ∙ h.words;
  lent_length = h.lent_length;
  dispatcher = h.dispatcher;
  no_other = h.no_other;
  claims = λ seat k job at. let c = h.claims seat k job at in (same k ∙ c.0, c.1);
  one_claim = h.one_claim;
  places = λ k x at. stands_still (h.places k x at) (λ a. a) (λ a. a) (same k) refl;
}

-- an event count is signaled, or the bench is stopped
pub bookkeeping_keeps : (slots id : ℕ) (me : SeatState) (i : ℕ) (f : ℕ → ℕ) → i < FIRST_PLACE → Allows BenchRule slots id me i f (λ n w. w ≡ me)
bookkeeping_keeps slots id me i f low s h long at fits =
    (me.0, keeps, tt, aside s h id me.0 _ at (length-set s.words i _) (λ k. get_or-set_other s.words i (word_index k) _ 0 (λ e. omega arith)), refl)

-- a try that found another number than it looked for
fails : (s : BenchTable) (h : BenchRule s) (id i : ℕ) (v : SeatRole) → get_elem? s.views id ≡ some v → BenchRule (stepped s i (get_or s.words i 0) id [] v keeps)
fails s h id i v me = aside s h id v _ me (length-set s.words i _) (λ k. ap (λ ws. get_or ws (word_index k) 0) (set-get_or s.words i 0))

-- the state of a place by its word
at_offered : {r k word : ℕ} {o : Option JobView} {slot : SlotState} → PlaceState r k word o slot → word ≡ OFFERED
    → (job : JobView) × (o ≡ Some job) × (slot ≡ some (Some (Offered job)))
at_offered (is_empty w l b a) e = absurd (omega arith)
at_offered (is_offered job w l at) e = (job, l, at)
at_offered (is_claimed job w l at) e = absurd (omega arith)
at_offered (is_delivered job done w l at run) e = absurd (omega arith)

at_answered : {r k word : ℕ} {o : Option JobView} {slot : SlotState} → PlaceState r k word o slot → word ≡ DELIVERED
    → (job : JobView) × (done : Done) × (o ≡ Some job) × (slot ≡ some (Some (Delivered done))) × IsJobRun job done
at_answered (is_empty w l b a) e = absurd (omega arith)
at_answered (is_offered job w l at) e = absurd (omega arith)
at_answered (is_claimed job w l at) e = absurd (omega arith)
at_answered (is_delivered job done w l at run) e = (job, done, l, at, run)

none_is_no_job : {o : Option JobView} {job : JobView} → o ≡ None → o ≡ Some job → ⊥
none_is_no_job e f = cc

-- the state of a place where nothing is lent
at_empty : {r k word : ℕ} {o : Option JobView} {slot : SlotState} → PlaceState r k word o slot → o ≡ None
    → (word ≡ EMPTY) × (k < r → slot ≡ some (None))
at_empty (is_empty w l b a) e = (w, b)
at_empty (is_offered job w l at) e = absurd (none_is_no_job e l)
at_empty (is_claimed job w l at) e = absurd (none_is_no_job e l)
at_empty (is_delivered job done w l at run) e = absurd (none_is_no_job e l)

-- nobody has claimed a place whose word isn't `CLAIMED`
unclaimed : {s : BenchTable} (h : BenchRule s) {k n : ℕ} → get_or s.words (word_index k) 0 ≡ n → n ≢ CLAIMED → (seat : ℕ) (job : JobView) → get_elem? s.views seat ≡ some (Claimed k job) → ⊥
unclaimed h {k} e ne seat job at = ne (sym e ∙ (h.claims seat k job at).0)

-- a step on the word of place k that the relation allows for place k is allowed by `OfPlace`, too: the word belongs to no other place
of_place : (relation : ℕ → SeatState → ℕ → SeatState → Type 0) {slots : ℕ} (id k : ℕ) (me : SeatState) (f : ℕ → ℕ) (st : Step (Option CellContent)) → st.word ≡ word_index k
    → Allows BenchRule slots id me (word_index k) f (λ n w. relation k me n w) → Allows BenchRule slots id me (word_index k) f (λ n w. OfPlace relation st me n w)
of_place relation id k me f st here allowed s h long at fits = grind (arith, common_steps)

takes_slot_at : (slots id k : ℕ) (lent : LentJobs) (held : List (ℕ × Option CellContent)) → k < slots → lent_at lent k ≡ None
    → Allows BenchRule slots id (Dispatcher (k + 1) lent, held) (word_index k) (λ _. EMPTY) (λ n w. TakesSlot k (Dispatcher (k + 1) lent, held) w)
takes_slot_at slots id k lent held near empty s h long at fits =
    let d = the_dispatch_seat s h id (k + 1) lent at in let t = there s.homes k (omega arith) in
    let e = at_empty (h.places k t.0 t.1) (ap (λ l. lent_at l k) (sym d.2) ∙ empty) in
    let same : set lent k None ≡ lent = ap (set lent k) (sym empty) ∙ set-get_or lent k None in (
      Dispatcher k lent,
      takes k None,
      t.1 ∙ ap some (e.1 (let r = d.1 in omega arith)),
      subst (λ l. BenchRule record { words = set s.words (word_index k) EMPTY; homes = set s.homes k none; views = set s.views id (Dispatcher k l) }) same
          (dispatch_seat_moves h id k at (omega arith) (unclaimed h e.0 (λ x. omega arith))
          (λ i apart. ((λ a. omega arith), (λ a. omega arith)))
          (is_empty refl refl (λ a. absurd (omega arith)) (λ a. refl))),
      refl,
    )

pub takes_slot : {slots : ℕ} (id : ℕ) {k : ℕ} {me : SeatState} {lent : LentJobs} {held : List (ℕ × Option CellContent)} → me ≡ (Dispatcher (k + 1) lent, held) → k < slots → lent_at lent k ≡ None
    → Allows BenchRule slots id me (word_index k) (λ _. EMPTY) (λ n w. OfPlace {F = Option CellContent} (λ i m _. TakesSlot i m) (step slots (word_index k) EMPTY 0 none) me EMPTY w)
takes_slot {slots} id {k} {me} {lent} {held} is near empty = of_place (λ i m _. TakesSlot i m) id k me (λ _. EMPTY) (step slots (word_index k) EMPTY 0 none) refl
    (subst (λ m. Allows BenchRule slots id m (word_index k) (λ _. EMPTY) (λ n w. TakesSlot k m w)) (sym is) (takes_slot_at slots id k lent held near empty))

offers_at : (slots id k : ℕ) (lent : LentJobs) (job : JobView) (held : List (ℕ × Option CellContent)) → k < slots → lent_at lent k ≡ None
    → Allows BenchRule slots id (Dispatcher 0 lent, (k, Some (Offered job)) ∷ held) (word_index k) (λ _. OFFERED) (λ n w. Offers k (Dispatcher 0 lent, (k, Some (Offered job)) ∷ held) w)
offers_at slots id k lent job held near empty s h long at fits =
    let d = the_dispatch_seat s h id 0 lent at in let t = there s.homes k (omega arith) in
    let e = at_empty (h.places k t.0 t.1) (ap (λ l. lent_at l k) (sym d.2) ∙ empty) in (
      Dispatcher 0 (set lent k (Some job)),
      gives,
      tt,
      dispatch_seat_moves h id k at (omega arith) (unclaimed h e.0 (λ x. omega arith))
          (λ i apart. ((λ a. a), (λ a. a))) (is_offered job refl refl refl),
      refl,
    )

pub offers : {slots : ℕ} (id : ℕ) {k : ℕ} {me : SeatState} {lent : LentJobs} {job : JobView} {held : List (ℕ × Option CellContent)}
    → me ≡ (Dispatcher 0 lent, (k, Some (Offered job)) ∷ held) → k < slots → lent_at lent k ≡ None
    → Allows BenchRule slots id me (word_index k) (λ _. OFFERED) (λ n w. OfPlace {F = Option CellContent} (λ i m _. Offers i m) (step slots (word_index k) OFFERED 0 none) me OFFERED w)
offers {slots} id {k} {me} {lent} {job} {held} is near empty = of_place (λ i m _. Offers i m) id k me (λ _. OFFERED) (step slots (word_index k) OFFERED 0 none) refl
    (subst (λ m. Allows BenchRule slots id m (word_index k) (λ _. OFFERED) (λ n w. Offers k m w)) (sym is) (offers_at slots id k lent job held near empty))

claims_at : (slots id k : ℕ) → k < slots → Allows BenchRule slots id idle (word_index k) (λ n. either (eqb n OFFERED) CLAIMED n) (λ n w. Claims k idle n w)
claims_at slots id k near s h long at fits =
    let n = get_or s.words (word_index k) 0 in let t = there s.homes k (omega arith) in
    let F : ℕ → Type 0 = λ m. (w : SeatRole) × (a : Act (Option CellContent)) × Valid s.homes [] a × BenchRule (stepped s (word_index k) m id [] w a) × Claims k idle n (w, carried_after [] a) in
    exchanged n OFFERED CLAIMED F
    (λ e. let o = at_offered (h.places k t.0 t.1) e in (
      Claimed k o.0,
      takes k (Some (Offered o.0)),
      t.1 ∙ ap some o.2,
      worker_moves h id at (omega arith) (idle_is_worker, claim_is_worker k o.0) (λ seat j _ c. unclaimed h e (λ x. omega arith) seat j c)
          (λ i j c. let q = one_claimed k i o.0 j c in (sym q.0, refl, o.1 ∙ ap Some q.1)) (is_claimed o.0 refl o.1 refl),
      ((λ _. (o.0, refl)), (λ ne. absurd (ne e))),
    ))
    (λ ne. (Idle, keeps, tt, fails s h id (word_index k) Idle at, ((λ e. absurd (ne e)), (λ _. refl))))

pub claims : {slots : ℕ} (id : ℕ) {k : ℕ} {me : SeatState} → me ≡ idle → k < slots
    → Allows BenchRule slots id me (word_index k) (λ n. either (eqb n OFFERED) CLAIMED n) (λ n w. OfPlace {F = Option CellContent} Claims (step slots (word_index k) OFFERED CLAIMED none) me n w)
claims {slots} id {k} {me} is near = of_place Claims id k me (λ n. either (eqb n OFFERED) CLAIMED n) (step slots (word_index k) OFFERED CLAIMED none) refl
    (subst (λ m. Allows BenchRule slots id m (word_index k) (λ n. either (eqb n OFFERED) CLAIMED n) (λ n w. Claims k m n w)) (sym is) (claims_at slots id k near))

delivers_at : (slots id k : ℕ) (job : JobView) (done : Done) → k < slots → IsJobRun job done
    → Allows BenchRule slots id (Claimed k job, (k, Some (Delivered done)) ∷ []) (word_index k) (λ _. DELIVERED) (λ n w. Delivers (Claimed k job, (k, Some (Delivered done)) ∷ []) w)
delivers_at slots id k job done near run s h long at fits =
    let c = h.claims id k job at in (
      Idle,
      gives,
      tt,
      worker_moves h id at (omega arith) (claim_is_worker k job, idle_is_worker) (λ seat j ne other. ne (h.one_claim seat id k j job other at))
          (λ i j e. absurd (idle_is_no_claim i j e)) (is_delivered job done refl c.1 refl run),
      refl,
    )

pub delivers : {slots : ℕ} (id : ℕ) {k : ℕ} {me : SeatState} {job : JobView} {done : Done} → me ≡ (Claimed k job, (k, Some (Delivered done)) ∷ []) → k < slots → IsJobRun job done
    → Allows BenchRule slots id me (word_index k) (λ _. DELIVERED) (λ n w. OfPlace {F = Option CellContent} (λ _ m _. Delivers m) (step slots (word_index k) DELIVERED 0 none) me DELIVERED w)
delivers {slots} id {k} {me} {job} {done} is near run = of_place (λ _ m _. Delivers m) id k me (λ _. DELIVERED) (step slots (word_index k) DELIVERED 0 none) refl
    (subst (λ m. Allows BenchRule slots id m (word_index k) (λ _. DELIVERED) (λ n w. Delivers m w)) (sym is) (delivers_at slots id k job done near run))

collects_at : (slots id k : ℕ) (lent : LentJobs) (held : List (ℕ × Option CellContent)) → k < slots
    → Allows BenchRule slots id (Dispatcher 0 lent, held) (word_index k) (λ n. either (eqb n DELIVERED) EMPTY n) (λ n w. Collects k (Dispatcher 0 lent, held) n w)
collects_at slots id k lent held near s h long at fits =
    let n = get_or s.words (word_index k) 0 in let t = there s.homes k (omega arith) in let d = the_dispatch_seat s h id 0 lent at in
    let F : ℕ → Type 0 = λ m. (w : SeatRole) × (a : Act (Option CellContent)) × Valid s.homes held a × BenchRule (stepped s (word_index k) m id held w a)
    × Collects k (Dispatcher 0 lent, held) n (w, carried_after held a) in
    exchanged n DELIVERED EMPTY F
    (λ e. let o = at_answered (h.places k t.0 t.1) e in (
      Dispatcher 0 (set lent k None),
      takes k (Some (Delivered o.1)),
      t.1 ∙ ap some o.3,
      dispatch_seat_moves h id k at (omega arith) (unclaimed h e (λ x. omega arith))
          (λ i apart. ((λ a. a), (λ a. a))) (is_empty refl refl (λ a. absurd (omega arith)) (λ a. refl)),
      ((λ _. (o.0, o.1, ap (λ l. lent_at l k) d.2 ∙ o.2, o.4, refl)), (λ ne. absurd (ne e))),
    ))
    (λ ne. (Dispatcher 0 lent, keeps, tt, fails s h id (word_index k) (Dispatcher 0 lent) at, ((λ e. absurd (ne e)), (λ _. refl))))

pub collects : {slots : ℕ} (id : ℕ) {k : ℕ} {me : SeatState} {lent : LentJobs} {held : List (ℕ × Option CellContent)} → me ≡ (Dispatcher 0 lent, held) → k < slots
    → Allows BenchRule slots id me (word_index k) (λ n. either (eqb n DELIVERED) EMPTY n) (λ n w. OfPlace {F = Option CellContent} Collects (step slots (word_index k) DELIVERED EMPTY none) me n w)
collects {slots} id {k} {me} {lent} {held} is near = of_place Collects id k me (λ n. either (eqb n DELIVERED) EMPTY n) (step slots (word_index k) DELIVERED EMPTY none) refl
    (subst (λ m. Allows BenchRule slots id m (word_index k) (λ n. either (eqb n DELIVERED) EMPTY n) (λ n w. Collects k m n w)) (sym is) (collects_at slots id k lent held near))

-- A worker's seat is split off.
pub splits : (id : ℕ) (v : SeatRole) → Splits BenchRule id v v Idle
splits id v s h me = grind (arith, common_steps, set_again, at_longer, idle_is_worker, at_snoc, claims, idle_is_no_claim)

-- The table at the start: all words 0, all slots in the table and empty, and one seat.
only_one : (v w : SeatRole) (i : ℕ) → get_elem? (v ∷ []) i ≡ some w → (i ≡ 0) × (v ≡ w)
only_one v w zero e = (refl, some-injective v w e)
only_one v w (suc i) e = absurd (some-ne-none w (sym e))

at_vacant : (n k : ℕ) (slot : SlotState) → get_elem? (map some (replicate {A = Option CellContent} n None)) k ≡ some slot → (slot ≡ some None) × (k < n)
at_vacant zero k slot e = absurd (some-ne-none slot (sym e))
at_vacant (suc n) zero slot e = (sym (some-injective _ slot e), omega arith)
at_vacant (suc n) (suc k) slot e = let t = at_vacant n k slot e in (t.0, omega arith)

abbrev zeros : ℕ → List ℕ
zeros n = replicate n 0

zero_at : (n i : ℕ) → get_or (zeros n) i 0 ≡ 0
zero_at zero i = refl
zero_at (suc n) zero = refl
zero_at (suc n) (suc i) = zero_at n i

vacant_length : (n : ℕ) → length (map some (replicate {A = Option CellContent} n None)) ≡ n
vacant_length zero = refl
vacant_length (suc n) = ap suc (vacant_length n)

opens : (n : ℕ) (ws : List ℕ) → length ws ≡ word_index n → ((i : ℕ) → get_or ws i 0 ≡ 0) → BenchRule (opening ws (replicate n None) (Dispatcher n (replicate n None)))
opens n ws long zeros =
    let slots = vacant_length n in
    record {
      dispatch_seat = 0;
      untaken = n;
      lent = replicate n None;
      words = long ∙ ap word_index (sym slots);
      lent_length = length-replicate n None ∙ sym slots;
      dispatcher = refl;
      no_other = λ seat r l at. (only_one (Dispatcher n (replicate n None)) (Dispatcher r l) seat at).0;
      claims = λ seat k job at. absurd (dispatch_seat_is_no_claim n k (replicate n None) job (only_one (Dispatcher n (replicate n None)) (Claimed k job) seat at).1);
      one_claim = λ seat other k job job' at at'. absurd (dispatch_seat_is_no_claim n k (replicate n None) job (only_one (Dispatcher n (replicate n None)) (Claimed k job) seat at).1);
      places = λ k slot at. let t = at_vacant n k slot at in
          is_empty (zeros (word_index k)) (get_or-replicate n k None None t.1) (λ _. t.0) (λ more. absurd (let less = t.1 in omega arith));
    }

pub opens_empty : (n : ℕ) (ws : List ℕ) → ws ≡ replicate (word_index n) 0 → BenchRule (opening ws (replicate n None) (Dispatcher n (replicate n None)))
opens_empty n ws e = grind (arith, common_steps, opens, length-replicate, zero_at)
