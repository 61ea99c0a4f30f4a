-- What holds of all elements of a list, or of one of them, for the crates above.
use Rattle.std.proofs.Common.{arith, ◌≡◌, ℕ, zero, suc, ◌<◌, Bool, List, [], ◌∷◌, ◌++◌, take, drop, get_or, refl}
use Rattle.std.proofs.lemmas.Grind.{common_steps}
use Rattle.std.specs.List.{AllByRecursion, list_any}

module _ {A : Type 0} (P : A → Type 0) where
  pub all_join : (xs ys : List A) → AllByRecursion P xs → AllByRecursion P ys → AllByRecursion P (xs ++ ys)
  all_join [] ys h j = j
  all_join (x ∷ xs) ys h j = (h.0, all_join xs ys h.1 j)

  pub all_take : (n : ℕ) (xs : List A) → AllByRecursion P xs → AllByRecursion P (take n xs)
  all_take zero xs h = tt
  all_take (suc n) [] h = tt
  all_take (suc n) (x ∷ xs) h = (h.0, all_take n xs h.1)

  pub all_drop : (n : ℕ) (xs : List A) → AllByRecursion P xs → AllByRecursion P (drop n xs)
  all_drop zero xs h = h
  all_drop (suc n) [] h = tt
  all_drop (suc n) (x ∷ xs) h = all_drop n xs h.1

  pub all_weaker : (Q : A → Type 0) → ((x : A) → P x → Q x) → (xs : List A) → AllByRecursion P xs → AllByRecursion Q xs
  all_weaker Q f [] h = tt
  all_weaker Q f (x ∷ xs) h = (f x h.0, all_weaker Q f xs h.1)

-- bytes that are below 256 at each place are so all
pub all_bytes : (bytes : List ℕ) → ((i : ℕ) → get_or bytes i 0 < 256) → AllByRecursion (λ b. b < 256) bytes
all_bytes [] h = tt
all_bytes (b ∷ bytes) h = (h zero, all_bytes bytes (λ i. h (suc i)))

-- whether one passes, where one of them moves to the front
pub any_moved : {A : Type 0} (p : A → Bool) (us : List A) (e : A) (vs : List A) → list_any p (us ++ e ∷ vs) ≡ list_any p (e ∷ (us ++ vs))
any_moved p [] e vs = refl
any_moved p (u ∷ us) e vs = grind (arith, common_steps, any_moved p us e vs)
