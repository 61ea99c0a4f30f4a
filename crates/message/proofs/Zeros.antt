-- The zeros at the end of a block.
use Rattle.std.proofs.lemmas.Grind.{common_steps}
use Rattle.std.proofs.Common.{◌≡◌, ℕ, ◌-◌, ◌<◌, ◌≤◌, List, [], ◌∷◌, ◌++◌, length, get_or, take, refl, ap, ◌∙◌, arith}
use Rattle.std.proofs.lemmas.Bool.{ne_eqb, cond-false}
use Rattle.std.proofs.lemmas.List.{take_more}
use Rattle.protocol.specs.Replies.{prepended, without_trailing_zeros, at_least_one}

zero_goes : (xs : List ℕ) → without_trailing_zeros (xs ++ 0 ∷ []) ≡ without_trailing_zeros xs
zero_goes [] = refl
zero_goes (b ∷ xs) = ap (prepended b) (zero_goes xs)

before_some : (b c : ℕ) (xs : List ℕ) → prepended b (xs ++ c ∷ []) ≡ b ∷ xs ++ c ∷ []
before_some b c [] = refl
before_some b c (x ∷ xs) = refl

other_stays : (xs : List ℕ) (b : ℕ) → (b ≡ 0 → ⊥) → without_trailing_zeros (xs ++ b ∷ []) ≡ xs ++ b ∷ []
other_stays [] b h = cond-false _ _ _ (ne_eqb b 0 h)
other_stays (c ∷ xs) b h = ap (prepended c) (other_stays xs b h) ∙ before_some c b xs

some_stays : (xs : List ℕ) (b : ℕ) → at_least_one (xs ++ b ∷ []) ≡ xs ++ b ∷ []
some_stays [] b = refl
some_stays (x ∷ xs) b = refl

-- one byte fewer, which is a zero
pub one_fewer : (xs : List ℕ) (n : ℕ) → 0 < n → n ≤ length xs → get_or xs (n - 1) 0 ≡ 0 → without_trailing_zeros (take n xs) ≡ without_trailing_zeros (take (n - 1) xs)
one_fewer xs n some h e = grind (arith, common_steps, take_more, zero_goes)

-- no byte fewer where the last isn't a zero
pub last_stays : (xs : List ℕ) (n : ℕ) → 0 < n → n ≤ length xs → (get_or xs (n - 1) 0 ≡ 0 → ⊥) → at_least_one (without_trailing_zeros (take n xs)) ≡ take n xs
last_stays xs n some h other = grind (arith, common_steps, take_more, other_stays, some_stays)
