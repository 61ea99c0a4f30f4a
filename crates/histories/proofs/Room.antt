-- What is dispatched and what ran has room in the log.
use Rattle.std.proofs.Common.{◌≡◌, ℕ, ◌+◌, ◌≤◌, Bool, true, false, List, Some, ap, sym, ◌∙◌, take, drop, length, arith}
use Rattle.std.specs.Prelude.{◌&&◌, ◌||◌, not, nat_lt, cond, count_by}
use Rattle.std.proofs.lemmas.Bool.{and_parts, ltb-true}
use Rattle.std.proofs.lemmas.List.{length-map, take-append-drop}
use Rattle.std.proofs.lemmas.List.Sums.{sum_by-append, sum_by_push, length-filter}
use Rattle.affinity.specs.declared.geometry.Geometry.{Geometry}
use Rattle.protocol.specs.declared.messages.Msg.{Msg}
use Rattle.meaning.specs.Step.{reply_to, is_recorded, is_done}
use Rattle.histories.specs.CoreState.{Entry, Replied, CoreState}
use Rattle.histories.specs.Eligible.{changes, unlogged_changes, is_conflict_free, has_room, is_eligible, next_eligible}
use Rattle.histories.specs.Events.{batch, find_in_flight, give_back, grant, log}
use Rattle.histories.proofs.Lists.{picked, sum_by-each, sum_by-picked}

abbrev one : Msg → ℕ
one m = cond (changes m) 1 0

abbrev ran_count : List Replied → ℕ
ran_count as' = count_by (λ a. changes a.1) as'

pub at_most_one : (b : Bool) → cond b 1 0 ≤ 1
at_most_one true = omega arith
at_most_one false = omega arith

-- the messages that get a record are no more than those of a changing kind
logged_few : (as' : List Replied) → count_by (λ a. is_recorded a.1 a.2) as' ≤ ran_count as'
logged_few as' = sum_by-each _ _ (λ (a : Replied). few (changes a.1) (is_done a.2)) as'
  where
    few : (b c : Bool) → cond (b && c) 1 0 ≤ cond b 1 0
    few true c = at_most_one c
    few false c = omega arith

pub batch_few : (w : CoreState) (n : ℕ) → length (batch w n) ≤ ran_count (take n w.ran)
batch_few w n =
    let l : length (batch w n) ≡ count_by (λ a. is_recorded a.1 a.2) (take n w.ran) = length-map _ _ ∙ length-filter
    (λ a. is_recorded a.1 a.2) (take n w.ran) in
    omega (arith, l, logged_few (take n w.ran))

ran_split : (w : CoreState) (n : ℕ) → ran_count (take n w.ran) + ran_count (drop n w.ran) ≡ ran_count w.ran
ran_split w n = sym (sum_by-append _ (take n w.ran) (drop n w.ran)) ∙ ap ran_count (take-append-drop n w.ran)

-- Whatever a log step appends, the log has room for it.
pub log_has_room : (w : CoreState) (n : ℕ) → unlogged_changes w ≤ w.room → length (batch w n) ≤ w.room
log_has_room w n h = omega (arith, h, batch_few w n, ran_split w n)

module _ (g : Geometry) (old : CoreState) (h : unlogged_changes old ≤ old.room) where
  pub grant_room : (found : Entry × List Entry) → next_eligible g old ≡ Some found → unlogged_changes (grant old found) ≤ old.room
  grant_room found first =
      let k = picked (is_eligible g old) old.waiting found first in
      let roomy = (and_parts (is_conflict_free g old found.0) (has_room old found.0) k.passes).1 in
      let now = sum_by_push (λ (e : Entry). one e.1) old.in_flight found.0 in
      let fits = enough (changes found.0.1) (unlogged_changes old) old.room h roomy in
      omega (arith, now, fits)
    where
      enough : (b : Bool) (n room : ℕ) → n ≤ room → (not b || nat_lt n room) ≡ true → n + cond b 1 0 ≤ room
      enough true n room h r = let lt = ltb-true n room r in omega (arith, lt)
      enough false n room h r = omega arith

  pub back_room : (ticket : ℕ) (found : Entry × List Entry) → find_in_flight old ticket ≡ Some found → unlogged_changes (give_back g old found) ≤ old.room
  back_room ticket found one_out =
      let fewer = sum_by-picked (λ (e : Entry). one e.1) _ old.in_flight found one_out in
      let more = sum_by_push (λ (a : Replied). one a.1) old.ran (found.0.0, found.0.1, reply_to g old.committed found.0.1) in
      omega (arith, h, fewer, more)

  pub log_room : (n : ℕ) → unlogged_changes (log g old n) ≤ (log g old n).room
  log_room n = omega (arith, h, batch_few old n, ran_split old n)
