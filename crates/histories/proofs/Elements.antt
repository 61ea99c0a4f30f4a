-- Elements of a list: `IsIn`, which goes down it, and `Contains`, which gives an index; what holds of all holds of each.
use Rattle.std.proofs.Common.{◌≡◌, ℕ, ◌<◌, zero, suc, length, get_or, List, [], ◌∷◌, sym, subst, inl, inr, ⊎_elim, arith, ◌++◌, ◌⊎◌}
use Rattle.std.specs.List.{AllByRecursion, Contains}
use Rattle.histories.specs.CoreState.{EachBefore}
use Rattle.histories.proofs.Lists.{all_back}

abbrev pub IsIn : {A : Type 0} → A → List A → Type 0
IsIn a [] = ⊥
IsIn a (b ∷ bs) = (a ≡ b) ⊎ IsIn a bs

in_at : {A : Type 0} (xs : List A) (x : A) (k : ℕ) → k < length xs → get_or xs k x ≡ x → IsIn x xs
in_at [] x k lt e = absurd (omega arith)
in_at (y ∷ ys) x zero lt e = inl (sym e)
in_at (y ∷ ys) x (suc k) lt e = inr (in_at ys x k (omega arith) e)

pub in_contained : {A : Type 0} (xs : List A) (x : A) → Contains xs x → IsIn x xs
in_contained xs x h = in_at xs x h.0 h.1 h.2

pub contains_in : {A : Type 0} (xs : List A) (x : A) → IsIn x xs → Contains xs x
contains_in [] x h = absurd h
contains_in (y ∷ ys) x h = ⊎_elim (λ e. (0, omega arith, sym e)) (λ r. let c = contains_in ys x r in (suc c.0, omega (arith, c.1), c.2)) h

-- What holds of all elements of a list holds of each.
pub holds_of : {A : Type 0} (P : A → Type 0) (xs : List A) → AllByRecursion P xs → (x : A) → IsIn x xs → P x
holds_of P [] all x h = absurd h
holds_of P (y ∷ ys) all x h = ⊎_elim (λ (e : x ≡ y). subst P (sym e) all.0) (λ r. holds_of P ys all.1 x r) h

module _ {A : Type 0} (a : A) where
  pub in_left : (bs cs : List A) → IsIn a bs → IsIn a (bs ++ cs)
  in_left [] cs h = absurd h
  in_left (b ∷ bs) cs h = ⊎_elim (λ e. inl e) (λ k. inr (in_left bs cs k)) h

  pub in_right : (bs cs : List A) → IsIn a cs → IsIn a (bs ++ cs)
  in_right [] cs h = h
  in_right (b ∷ bs) cs h = inr (in_right bs cs h)

  pub in_either : (bs cs : List A) → IsIn a (bs ++ cs) → IsIn a bs ⊎ IsIn a cs
  in_either [] cs h = inr h
  in_either (b ∷ bs) cs h = ⊎_elim (λ e. inl (inl e)) (λ k. ⊎_elim (λ l. inl (inr l)) (λ r. inr r) (in_either bs cs k)) h

pub all_at : {A : Type 0} (P : A → Type 0) (xs : List A) (x : A) → AllByRecursion P xs → IsIn x xs → P x
all_at P xs x h is = holds_of P xs h x is

-- `R` holds between each element of xs and an element y that comes later
pub before_in : {A : Type 0} (R : A → A → Type 0) (xs ys : List A) (y : A) → EachBefore R (xs ++ ys) → IsIn y ys
    → AllByRecursion (λ x. R x y) xs
before_in R [] ys y h is = tt
before_in R (x ∷ xs) ys y h is = (all_at (R x) ys y (all_back (R x) xs ys h.0) is, before_in R xs ys y h.1 is)
