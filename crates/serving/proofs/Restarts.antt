-- Worked examples: which lines are related, which part of some lines may be there, and which states a restart may go on from.
use Rattle.std.proofs.Common.{◌≡◌, ℕ, Bool, List, [], ◌∷◌, ◌++◌, true, false, refl, sym, ◌∙◌, ap, inl, inr, ⊎_elim, arith}
use Rattle.std.specs.Prelude.{codes, get_or, length, take}
use Rattle.std.proofs.lemmas.Bool.{true≢false}
use Rattle.affinity.proofs.GeometryLemmas.{small}
use Rattle.protocol.specs.Grammar.{kind_named, message_of}
use Rattle.protocol.specs.Lines.{lines}
use Rattle.protocol.specs.Words.{number_in_word}
use Rattle.meaning.specs.ClosedPart.{IsClosedPart, are_related_lines}
use Rattle.meaning.specs.Output.{joined, output_lines, state_after_lines}
use Rattle.meaning.specs.State.{State, empty}
use Rattle.serving.specs.Restart.{RecoversTo}

abbrev make : List ℕ
make = codes "makevol 0 0"

abbrev create : List ℕ
create = codes "create 0 0 0"

abbrev delete : List ℕ
delete = codes "delete 0 0 0"

-- two lines: one for a block, and one for a block of the other stripe
abbrev punch : List ℕ
punch = codes "punch 0 0 0 0"

abbrev other : List ℕ
other = codes "punch 0 0 0 1"

-- ---- related lines

abbrev related : List ℕ → List ℕ → Bool
related line other = are_related_lines small (message_of line) (message_of other)

a_file_is_related_to_its_volume : related make create ≡ true
unfolding message_of kind_named number_in_word
a_file_is_related_to_its_volume = refl

a_block_is_related_to_its_file : related create punch ≡ true
unfolding message_of kind_named number_in_word
a_block_is_related_to_its_file = refl

a_file_is_related_to_itself : related create delete ≡ true
unfolding message_of kind_named number_in_word
a_file_is_related_to_itself = refl

blocks_of_two_stripes_are_not : related punch other ≡ false
unfolding message_of kind_named number_in_word
blocks_of_two_stripes_are_not = refl

one_out_of_range_is_not : related create (codes "punch 0 0 9 0") ≡ false
unfolding message_of kind_named number_in_word
one_out_of_range_is_not = refl

no_message_is_not : related (codes "hello") make ≡ false
unfolding message_of kind_named number_in_word
no_message_is_not = refl

-- ---- closed parts

none_of_them : IsClosedPart small [] (make ∷ create ∷ punch ∷ [])
none_of_them = inr (tt, inr (tt, inr (tt, refl)))

all_of_them : IsClosedPart small (make ∷ create ∷ punch ∷ []) (make ∷ create ∷ punch ∷ [])
all_of_them = inl (create ∷ punch ∷ [], refl, inl (punch ∷ [], refl, inl ([], refl, refl)))

-- A line may be there without one of another stripe before it, and without one that is no message.
the_other_stripe_alone : IsClosedPart small (other ∷ []) (punch ∷ codes "hello" ∷ other ∷ [])
unfolding message_of kind_named number_in_word
the_other_stripe_alone = inr ((refl, tt), inr ((refl, tt), inl ([], refl, refl)))

abbrev first_byte : List (List ℕ) → ℕ
first_byte ls = get_or (get_or ls 0 []) 0 0

-- No line is there without a related one before it.
not_behind_a_gap : (first second : List ℕ) → related first second ≡ true → (first_byte (first ∷ []) ≡ first_byte (second ∷ []) → ⊥)
    → IsClosedPart small (second ∷ []) (first ∷ second ∷ []) → ⊥
not_behind_a_gap first second related differ h = ⊎_elim
    (λ k. differ (sym (ap first_byte k.1)))
    (λ k. true≢false (sym related ∙ k.0.0)) h

-- An older change isn't lost where a newer one of the file is there.
no_older_change_is_lost : IsClosedPart small (delete ∷ []) (create ∷ delete ∷ []) → ⊥
no_older_change_is_lost h = not_behind_a_gap create delete a_file_is_related_to_itself (λ same. absurd (omega (arith, same))) h

-- No file is missing under its block.
no_file_is_missing : IsClosedPart small (punch ∷ []) (create ∷ punch ∷ []) → ⊥
no_file_is_missing h = not_behind_a_gap create punch a_block_is_related_to_its_file (λ same. absurd (omega (arith, same))) h

-- The lines of a closed part are in their order.
not_out_of_order : IsClosedPart small (create ∷ make ∷ []) (make ∷ create ∷ []) → ⊥
unfolding message_of kind_named number_in_word
not_out_of_order h = ⊎_elim
    (λ k. let same = ap first_byte k.1 in absurd (omega (arith, same)))
    (λ k. true≢false k.0.0) h

-- A server with one slot has no second line of those without an answer.
no_more_than_the_slots : IsClosedPart small (make ∷ create ∷ []) (take 1 (make ∷ create ∷ [])) → ⊥
no_more_than_the_slots h =
    let many = λ (ls : List (List ℕ)). length ls in
    ⊎_elim
    (λ k. let two : length (make ∷ create ∷ []) ≡ 1 = ap many k.1 ∙ ap (λ (ls : List (List ℕ)). length (make ∷ ls)) k.2 in absurd (omega (arith, two)))
    (λ k. let two : length (make ∷ create ∷ []) ≡ 0 = ap many k.1 in absurd (omega (arith, two))) h

-- ---- where a restart goes on

abbrev input : List ℕ
input = codes "makevol 0 0\ncreate 0 0 0\n"

abbrev after : List (List ℕ) → State
after ls = state_after_lines small empty ls

they_are_two_lines : lines input ≡ make ∷ create ∷ []
they_are_two_lines = refl

-- No line was acknowledged, and the state is that after both.
more_may_be_there : RecoversTo small 2 empty (after (make ∷ create ∷ [])) input []
more_may_be_there = record {
  acknowledged = [];
  unacknowledged = make ∷ create ∷ [];
  first = they_are_two_lines;
  answers = refl;
  part = make ∷ create ∷ [];
  closed = inl (create ∷ [], refl, inl ([], refl, refl));
  state = refl;
}

-- The first line was acknowledged, and the state is that after it alone.
what_was_acknowledged_is_there : RecoversTo small 2 empty (after (make ∷ [])) input (codes "done\n")
unfolding message_of kind_named number_in_word
what_was_acknowledged_is_there = record {
  acknowledged = make ∷ [];
  unacknowledged = create ∷ [];
  first = they_are_two_lines;
  answers = refl;
  part = [];
  closed = inr (tt, refl);
  state = refl;
}

-- Where a line was acknowledged, the state isn't empty.
too_many : (a b c : List ℕ) (ls : List (List ℕ)) → a ∷ [] ≡ b ∷ c ∷ ls → ⊥
too_many a b c ls same = cc

it_is_there : (first unacknowledged part : List (List ℕ)) → make ∷ [] ≡ first ++ unacknowledged → codes "done\n" ≡ joined (output_lines small empty first)
    → IsClosedPart small part (take 2 unacknowledged) → empty ≡ after (first ++ part) → ⊥
unfolding message_of kind_named number_in_word
it_is_there [] unacknowledged part is answers closed state = cc
it_is_there (line ∷ []) [] part is answers closed state =
    let same : line ≡ make = ap (λ ls. get_or ls 0 []) (sym is) in
    let goes : empty ≡ after (make ∷ []) = state ∙ ap (λ l. after (l ∷ part)) same ∙ ap (λ p. after (make ∷ p)) closed in
    true≢false (sym (ap (λ x. x.made (0, 0)) goes))
it_is_there (line ∷ []) (b ∷ unacknowledged) part is answers closed state = too_many make line b unacknowledged is
it_is_there (line ∷ k ∷ ls) unacknowledged part is answers closed state = too_many make line k (ls ++ unacknowledged) is

what_was_acknowledged_is_not_missing : RecoversTo small 2 empty empty (codes "makevol 0 0\n") (codes "done\n") → ⊥
what_was_acknowledged_is_not_missing h = it_is_there h.acknowledged h.unacknowledged h.part h.first h.answers h.closed h.state
