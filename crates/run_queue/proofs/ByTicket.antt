-- Which message is dispatched next, by tickets: where the tickets ascend, the first one that is conflict-free and has room.
use Rattle.std.proofs.lemmas.Grind.{common_steps}
use Rattle.std.proofs.Common.{◌≡◌, ◌∙◌, ◌<◌, Bool, false, not, ◌&&◌, List, [], ◌∷◌, ◌++◌, Some, refl, ap, sym, arith, append_assoc}
use Rattle.std.specs.Prelude.{if◌then◌else◌}
use Rattle.std.specs.List.{list_any, find, AllByRecursion}
use Rattle.std.proofs.lemmas.List.Folds.{list_any-append}
use Rattle.std.proofs.Math.Bool.{or-false}
use Rattle.run_queue.specs.RunQueue.{are_related_intervals, is_free_of, has_room, first_dispatchable, next_queued, CameBefore}
pub use Rattle.run_queue.specs.Order.{Ascend, waits_for, is_conflict_free}
use Rattle.run_queue.specs.declared.queued_message.QueuedMessage.{QueuedMessage}

-- of messages that all came before t, those that keep it back are those at related affinities
all_early : (t : QueuedMessage) (ts : List QueuedMessage) → CameBefore t.ticket ts
    → list_any (waits_for t) ts ≡ list_any (λ d. are_related_intervals t.affinity d.affinity) ts
all_early t [] before = refl
all_early t (d ∷ ts) before = grind (arith, common_steps, all_early t ts before.1)

-- a message that has no smaller ticket than t, as t itself, doesn't keep t back
not_less : (t d : QueuedMessage) → (d.ticket < t.ticket → ⊥) → waits_for t d ≡ false
not_less t d h = grind (arith, common_steps)

none_late : (t : QueuedMessage) (ts : List QueuedMessage) → AllByRecursion (λ d. t.ticket < d.ticket) ts → list_any (waits_for t) ts ≡ false
none_late t [] after = refl
none_late t (d ∷ ts) after = grind (arith, common_steps, none_late t ts after.1)

only_early : (t : QueuedMessage) (earlier later : List QueuedMessage) → CameBefore t.ticket earlier → AllByRecursion (λ d. t.ticket < d.ticket) later
    → list_any (waits_for t) (earlier ++ t ∷ later) ≡ list_any (λ d. are_related_intervals t.affinity d.affinity) earlier
only_early t earlier later before after = grind (arith, common_steps, list_any-append, not_less, none_late, or-false, all_early)

all_came : (earlier : List QueuedMessage) (t : QueuedMessage) (later : List QueuedMessage) → AllByRecursion (λ d. CameBefore d.ticket earlier) later
    → AllByRecursion (λ d. t.ticket < d.ticket) later → AllByRecursion (λ d. CameBefore d.ticket (earlier ++ t ∷ [])) later
all_came earlier t [] before after = tt
all_came earlier t (d ∷ later) before after = grind (arith, common_steps, all_came earlier t later before.1 after.1)

first_from : (room : Bool) (held waiting earlier later : List QueuedMessage) → waiting ≡ earlier ++ later
    → AllByRecursion (λ d. CameBefore d.ticket earlier) later → Ascend later
    → first_dispatchable room held earlier later ≡ find (λ t. has_room room t && is_conflict_free held waiting t) later
first_from room held waiting earlier [] whole before ascends = refl
first_from room held waiting earlier (t ∷ later) whole before ascends =
    let early = ap (list_any (waits_for t)) whole ∙ only_early t earlier later before.0 ascends.0 in
    let same = ap (λ b. has_room room t && (is_free_of held t && not b)) (sym early) in
    let deeper = first_from room held waiting (earlier ++ t ∷ []) later (whole ∙ sym (append_assoc earlier (t ∷ []) later))
    (all_came earlier t later before.1 ascends.0) ascends.1 in
    ap (λ b. if b then Some t else first_dispatchable room held (earlier ++ t ∷ []) later) same
    ∙ ap (λ o. if has_room room t && is_conflict_free held waiting t then Some t else o) deeper

none_before : (ts : List QueuedMessage) → AllByRecursion (λ d. CameBefore d.ticket []) ts
none_before [] = tt
none_before (t ∷ ts) = (tt, none_before ts)

pub next_is_first : (room : Bool) (held waiting : List QueuedMessage) → Ascend waiting
    → next_queued room held waiting ≡ find (λ t. has_room room t && is_conflict_free held waiting t) waiting
next_is_first room held waiting ascends = first_from room held waiting [] waiting refl (none_before waiting) ascends
