-- The number of messages in flight grows and falls with that of full hands.
use Rattle.std.proofs.Common.{◌≡◌, ℕ, ◌+◌, ◌≤◌, Bool, false, List, [], ◌∷◌, Some, refl, ap, length, arith}
use Rattle.std.specs.Prelude.{not, cond, count_by, set, slice_get}
use Rattle.std.proofs.lemmas.List.{length-append, nil_from_length}
use Rattle.std.proofs.lemmas.List.Sums.{sum_by-set}
use Rattle.std.proofs.lemmas.Option.{get_or_from_slice_get, slice_get_within}
use Rattle.affinity.specs.declared.geometry.Geometry.{Geometry}
use Rattle.histories.specs.MachineState.{Hand, MachineState, Empty, Job, Result, is_empty, full_hands}
use Rattle.histories.specs.Events.{Event, IsAllowed}
use Rattle.histories.specs.Runs.{IsLegal, end_state}
use Rattle.histories.proofs.Lists.{sum_by-each, length-picked}
use Rattle.histories.proofs.Room.{at_most_one}
use Rattle.histories.proofs.Ways.{Passed, Way, Grants, Runs, Backs, ways}

-- Where a hand is set to something else, the count of the hands that pass a test loses the old one and gets the new one.
pub hands-set : (p : Hand → Bool) (hands : List Hand) (i : ℕ) (was now : Hand) → slice_get hands i ≡ Some was
    → count_by p (set hands i now) + cond (p was) 1 0 ≡ count_by p hands + cond (p now) 1 0
hands-set p hands i was now e =
    let counted = sum_by-set (λ hand. cond (p hand) 1 0) hands i now was (slice_get_within hands i was e) in
    let same = ap {B = ℕ} (λ hand. cond (p hand) 1 0) (get_or_from_slice_get hands i was was e) in
    omega (arith, counted, same)

-- the hands that pass a test which no empty hand passes are no more than those that aren't empty
pub few_hands : (p : Hand → Bool) → p Empty ≡ false → (hands : List Hand) → count_by p hands ≤ full_hands hands
few_hands p none hands = sum_by-each _ _ fewer hands
  where
    fewer : (hand : Hand) → cond (p hand) 1 0 ≤ cond (not (is_empty hand)) 1 0
    fewer Empty = let no = ap {B = ℕ} (λ b. cond b 1 0) none in omega (arith, no)
    fewer (Job ticket) = at_most_one (p (Job ticket))
    fewer (Result ticket) = at_most_one (p (Result ticket))

-- The number of messages in flight has changed by as much as that of full hands.
abbrev pub Tallies : MachineState → MachineState → Type 0
Tallies old new = length new.core.in_flight + full_hands old.hands ≡ length old.core.in_flight + full_hands new.hands

pub event_tallies : (g : Geometry) (old : MachineState) (event : Event) → IsAllowed g old event → Tallies old event.state_after
event_tallies g old event allowed = by (ways g old event allowed)
  where
    by : {event : Event} {p : Passed} → Way g old event p → Tallies old event.state_after
    by (Grants hand found works free first) =
        let counted = hands-set (λ hand. not (is_empty hand)) old.hands hand Empty (Job found.0.0) free in
        let more = length-append old.core.in_flight (found.0 ∷ []) in
        omega (arith, counted, more)
    by (Runs i ticket job) = let k = hands-set (λ hand. not (is_empty hand)) old.hands i (Job ticket) (Result ticket) job in omega (arith, k)
    by (Backs i ticket found result one_out) =
        let k = hands-set (λ hand. not (is_empty hand)) old.hands i (Result ticket) Empty result in
        let fewer = length-picked _ old.core.in_flight found one_out in
        omega (arith, k, fewer)
    by _ = refl

pub last_tallies : (g : Geometry) (old : MachineState) (events : List Event) → IsLegal g old events → Tallies old (end_state old events)
last_tallies g old [] legal = refl
last_tallies g old (event ∷ events) legal =
    let first = event_tallies g old event legal.0 in
    let rest = last_tallies g event.state_after events legal.1 in
    omega (arith, first, rest)

-- If nothing was in flight at the start, and no hand is full at the end, nothing is in flight at the end.
pub last_none_out : (g : Geometry) (old : MachineState) (events : List Event) → IsLegal g old events → old.core.in_flight ≡ []
    → full_hands (end_state old events).hands ≡ 0 → (end_state old events).core.in_flight ≡ []
last_none_out g old events legal before after =
    let tallies = last_tallies g old events legal in
    let none = ap length before in
    nil_from_length _ (omega (arith, tallies, none, after))
