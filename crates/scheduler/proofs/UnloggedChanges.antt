-- How many messages there are, and how many changing ones are in flight or ran.
use Rattle.std.proofs.Common.{◌≡◌, Bool, ℕ, ◌+◌, List, [], ◌∷◌, ◌++◌, map, length, refl, ap, sym, ◌∙◌}
use Rattle.std.specs.Prelude.{cond, count_by}
use Rattle.std.proofs.lemmas.List.{length-map}
use Rattle.std.proofs.lemmas.List.Sums.{sum_by-append, sum_by-cons}
use Rattle.histories.specs.Eligible.{changes, unlogged_changes}
use Rattle.histories.specs.CoreState.{Entry, Replied, held}
use Rattle.histories.proofs.Held.{length_held}
use Rattle.run_queue.specs.declared.queued_message.QueuedMessage.{QueuedMessage}
use Rattle.std.specs.List.{list_any}
use Rattle.scheduler.specs.Parts.{Parts}
use Rattle.scheduler.specs.View.{core_state_in}
use Rattle.scheduler.specs.Slots.{SlotView, held_any, entry_of, replied_of}

-- how many of the messages in these slots are of a changing kind
abbrev pub changing : List SlotView → ℕ
changing xs = count_by (λ x. changes x.1.message) xs

abbrev pub one_for : SlotView → ℕ
one_for x = cond (changes x.1.message) 1 0

pub changing-append : (xs ys : List SlotView) → changing (xs ++ ys) ≡ changing xs + changing ys
changing-append xs ys = sum_by-append (λ (x : SlotView). cond (changes x.1.message) 1 0) xs ys

pub changing-cons : (x : SlotView) (xs : List SlotView) → changing (x ∷ xs) ≡ one_for x + changing xs
changing-cons x xs = sum_by-cons (λ (x : SlotView). cond (changes x.1.message) 1 0) x xs

pub count-map : {X Y : Type 0} (p : Y → Bool) (f : X → Y) (xs : List X) → count_by p (map f xs) ≡ count_by (λ x. p (f x)) xs
count-map p f [] = refl
count-map p f (x ∷ xs) = sum_by-cons (λ y. cond (p y) 1 0) (f x) (map f xs)
    ∙ ap (λ n. cond (p (f x)) 1 0 + n) (count-map p f xs) ∙ sym (sum_by-cons (λ x. cond (p (f x)) 1 0) x xs)

pub unlogged_of : (p : Parts) → unlogged_changes (core_state_in p) ≡ changing p.phases.in_flight + changing p.phases.ran
unlogged_of p = λ i. count-map (λ (e : Entry). changes e.1) entry_of p.phases.in_flight i + count-map (λ (a : Replied). changes a.1) replied_of p.phases.ran i

-- what a core keeps true of its slots and of its run queue's held messages
abbrev pub AreClaimed : Parts → Type 0
AreClaimed p = p.free + (length p.phases.waiting + (length p.phases.logged + (length p.phases.ran + length p.phases.in_flight))) ≡ p.capacity

abbrev pub HasHeld : Parts → Type 0
HasHeld p = (test : QueuedMessage → Bool) → list_any test p.queue.held ≡ held_any test p.phases

-- how many messages wait or are held
pub messages_counted : (p : Parts) → length (core_state_in p).waiting + length (held (core_state_in p))
    ≡ length p.phases.waiting + (length p.phases.logged + (length p.phases.ran + length p.phases.in_flight))
messages_counted p = λ i. length-map p.phases.waiting entry_of i + (length_held (core_state_in p)
    ∙ (λ j. length-map p.phases.logged replied_of j + (length-map p.phases.ran replied_of j + length-map p.phases.in_flight entry_of j))) i

pub held_count : (p : Parts) → length (held (core_state_in p)) ≡ length p.phases.logged + (length p.phases.ran + length p.phases.in_flight)
held_count p = length_held (core_state_in p)
    ∙ (λ j. length-map p.phases.logged replied_of j + (length-map p.phases.ran replied_of j + length-map p.phases.in_flight entry_of j))
