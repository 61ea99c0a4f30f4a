-- What `find` finds in a list of messages.
use Rattle.std.proofs.Common.{◌≡◌, ◌∙◌, Bool, true, false, List, [], ◌∷◌, find, Some, refl, sym, subst, inl, inr, None, ◌++◌, arith}
use Rattle.std.proofs.lemmas.Bool.{cases_Bool, or_left, or_right}
use Rattle.std.proofs.lemmas.Grind.{common_steps}
use Rattle.std.proofs.lemmas.Option.{none-some}
use Rattle.std.specs.List.{list_any, AllByRecursion}
use Rattle.run_queue.specs.declared.queued_message.QueuedMessage.{QueuedMessage}

pub find-cons : (p : QueuedMessage → Bool) (t : QueuedMessage) (ts : List QueuedMessage) → p t ≡ true → find p (t ∷ ts) ≡ Some t
find-cons p t ts k = rw k refl

pub find-skip : (p : QueuedMessage → Bool) (t : QueuedMessage) (ts : List QueuedMessage) → p t ≡ false → find p (t ∷ ts) ≡ find p ts
find-skip p t ts k = rw k refl

pub find-all : (P : QueuedMessage → Type 0) (p : QueuedMessage → Bool) (ts : List QueuedMessage) (t : QueuedMessage) → AllByRecursion P ts → find p ts ≡ Some t → P t
find-all P p [] t all found = absurd (cc)
find-all P p (d ∷ ts) t all found = elim (cases_Bool (p d)) [
  | inl k ↦ (let is = sym (find-cons p d ts k) ∙ found in let same : d ≡ t = cc in subst (λ (u : QueuedMessage). P u) same all.0)
  | inr k ↦ find-all P p ts t all.1 (sym (find-skip p d ts k) ∙ found)
]

pub find-passes : (p : QueuedMessage → Bool) (ts : List QueuedMessage) (t : QueuedMessage) → find p ts ≡ Some t → p t ≡ true
find-passes p [] t found = absurd (cc)
find-passes p (d ∷ ts) t found = elim (cases_Bool (p d)) [
  | inl k ↦ (let is = sym (find-cons p d ts k) ∙ found in let same : d ≡ t = cc in subst (λ (u : QueuedMessage). p u ≡ true) same k)
  | inr k ↦ find-passes p ts t (sym (find-skip p d ts k) ∙ found)
]

pub any-found : (p q : QueuedMessage → Bool) (ts : List QueuedMessage) (t : QueuedMessage) → find p ts ≡ Some t → q t ≡ true → list_any q ts ≡ true
any-found p q [] t found good = absurd (cc)
any-found p q (d ∷ ts) t found good = elim (cases_Bool (p d)) [
  | inl k ↦ (let is = sym (find-cons p d ts k) ∙ found in let same : d ≡ t = cc in
      or_left _ _ (subst (λ (u : QueuedMessage). q u ≡ true) (sym same) good))
  | inr k ↦ or_right _ _ (any-found p q ts t (sym (find-skip p d ts k) ∙ found) good)
]

pub find-same : (p q : QueuedMessage → Bool) → ((t : QueuedMessage) → p t ≡ q t) → (ts : List QueuedMessage) → find p ts ≡ find q ts
find-same p q same [] = refl
find-same p q same (t ∷ ts) = elim (cases_Bool (q t)) [
  | inl k ↦ find-cons p t ts (same t ∙ k) ∙ sym (find-cons q t ts k)
  | inr k ↦ find-skip p t ts (same t ∙ k) ∙ find-same p q same ts ∙ sym (find-skip q t ts k)
]

pub find-none : (p : QueuedMessage → Bool) → ((t : QueuedMessage) → p t ≡ false) → (ts : List QueuedMessage) → find p ts ≡ None
find-none p never [] = refl
find-none p never (t ∷ ts) = find-skip p t ts (never t) ∙ find-none p never ts

pub find-last_other : (p : QueuedMessage → Bool) (ts : List QueuedMessage) (t : QueuedMessage) → p t ≡ false → find p (ts ++ t ∷ []) ≡ find p ts
find-last_other p [] t other = find-skip p t [] other
find-last_other p (d ∷ ts) t other = grind (arith, common_steps, find-last_other p ts t other)

pub find-last_found : (p : QueuedMessage → Bool) (ts : List QueuedMessage) (t f : QueuedMessage) → find p ts ≡ Some f → find p (ts ++ t ∷ []) ≡ find p ts
find-last_found p [] t f found = absurd (none-some f found)
find-last_found p (d ∷ ts) t f found = grind (arith, common_steps, find-last_found p ts t f)
