-- Lists: their first elements, one more at a time, and what tests find in them.
use Rattle.std.proofs.Common.{◌≡◌, ℕ, zero, suc, ◌<◌, List, [], ◌∷◌, ◌++◌, length, take, drop, refl, ap, arith, ◌+◌, Some, ◌∙◌, Bool, map, true, false, Option, None}
use Rattle.std.proofs.lemmas.List.{length-drop, length-map}
use Rattle.std.proofs.lemmas.Option.{none-some, same_Some}
use Rattle.arena.specs.Lists.{first_of}
use Rattle.std.specs.Prelude.{◌||◌, ◌&&◌, cond, filter, not, if◌then◌else◌, position, nat_lt}
use Rattle.std.specs.List.{AllByRecursion, list_any, position_or_len}
use Rattle.run_queue.specs.declared.queued_message.QueuedMessage.{QueuedMessage}

pub take_more : {X : Type 0} (n : ℕ) (xs : List X) → take n xs ++ take 1 (drop n xs) ≡ take (suc n) xs
take_more zero xs = refl
take_more (suc n) [] = refl
take_more (suc n) (x ∷ xs) = ap (λ l. x ∷ l) (take_more n xs)

pub drop_more : {X : Type 0} (n : ℕ) (xs : List X) → drop 1 (drop n xs) ≡ drop (suc n) xs
drop_more zero xs = refl
drop_more (suc n) [] = refl
drop_more (suc n) (x ∷ xs) = drop_more n xs

pub left_over : {X : Type 0} (n : ℕ) (xs : List X) → n < length xs → 0 < length (drop n xs)
left_over n xs low = simp length-drop (omega (arith, low))

pub cut_at : (n i : ℕ) (xs : List ℕ) → first_of (drop n xs) ≡ Some i → xs ≡ take n xs ++ i ∷ drop (suc n) xs
cut_at zero i [] e = absurd (none-some i e)
cut_at zero i (x ∷ xs) e = ap (λ (z : ℕ). z ∷ xs) (same_Some x i e)
cut_at (suc n) i [] e = absurd (none-some i e)
cut_at (suc n) i (x ∷ xs) e = ap (λ (l : List ℕ). x ∷ l) (cut_at n i xs e)

take_next : (n i : ℕ) (xs : List ℕ) → first_of (drop n xs) ≡ Some i → take (suc n) xs ≡ take n xs ++ i ∷ []
take_next zero i [] e = absurd (none-some i e)
take_next zero i (x ∷ xs) e = ap (λ (z : ℕ). z ∷ []) (same_Some x i e)
take_next (suc n) i [] e = absurd (none-some i e)
take_next (suc n) i (x ∷ xs) e = ap (λ (l : List ℕ). x ∷ l) (take_next n i xs e)

pub take_one : (n i : ℕ) (xs : List ℕ) → first_of (drop n xs) ≡ Some i → take (n + 1) xs ≡ take n xs ++ i ∷ []
take_one n i xs e = let count : n + 1 ≡ suc n = omega arith in ap (λ (m : ℕ). take m xs) count ∙ take_next n i xs e

pub any_map : {X Y : Type 0} (f : X → Y) (p : Y → Bool) (xs : List X) → list_any p (map f xs) ≡ list_any (λ x. p (f x)) xs
any_map f p [] = refl
any_map f p (x ∷ xs) = ap (λ b. p (f x) || b) (any_map f p xs)

pub any_same : {X : Type 0} (P : X → Type 0) (f h : X → Bool) → ((x : X) → P x → f x ≡ h x) → (xs : List X) → AllByRecursion P xs → list_any f xs ≡ list_any h xs
any_same P f h same [] all = refl
any_same P f h same (x ∷ xs) all = λ i. same x all.0 i || any_same P f h same xs all.1 i

pub any_filter : (test q : QueuedMessage → Bool) (ts : List QueuedMessage) → list_any test (filter q ts) ≡ list_any (λ t. q t && test t) ts
any_filter test q [] = refl
any_filter test q (t ∷ ts) = by (q t) (any_filter test q ts)
  where
    by : (b : Bool) → list_any test (filter q ts) ≡ list_any (λ t. q t && test t) ts
        → list_any test (cond b (t ∷ filter q ts) (filter q ts)) ≡ ((b && test t) || list_any (λ t. q t && test t) ts)
    by true rest = ap (λ b. test t || b) rest
    by false rest = rest

-- A test of the images of a list's elements passes first where a test of the elements does, if the two give the same answers.
pub position_map : {A B : Type 0} (f : A → B) (p : B → Bool) (q : A → Bool) → ((x : A) → p (f x) ≡ q x) → (xs : List A) → position p (map f xs) ≡ position q xs
position_map {A} f p q same xs = λ i. of (at xs i) (length-map xs f i)
  where
    of : ℕ → ℕ → Option ℕ
    of n m = if nat_lt n m then Some n else None

    at : (xs : List A) → position_or_len p (map f xs) ≡ position_or_len q xs
    at [] = refl
    at (x ∷ xs) = λ i. if not (same x i) then 1 + at xs i else 0
