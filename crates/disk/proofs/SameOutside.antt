-- Lists that differ at most in a range.
use Rattle.std.proofs.lemmas.Grind.{common_steps}
use Rattle.std.proofs.Common.{◌≡◌, ◌⊎◌, ℕ, ◌+◌, ◌-◌, ◌<◌, ◌≤◌, List, ◌++◌, take, drop, get_or, inl, inr, refl, sym, ◌∙◌, ap, subst, arith}
use Rattle.std.proofs.lemmas.List.{take-append-drop, take-take, drop-drop, drop-take, get_or-take}
use borrow.Rule.Slice.PartMut.{put_mid}
use Rattle.disk.specs.Device.{SameOutside}

pub same_all : {X : Type 0} (at n : ℕ) (xs : List X) → SameOutside at n xs xs
same_all at n xs = record { before = refl; after = refl; size = refl }

pub same_both : {X : Type 0} (at n : ℕ) (xs ys zs : List X) → SameOutside at n xs ys → SameOutside at n ys zs → SameOutside at n xs zs
same_both at n xs ys zs e f = record { before = f.before ∙ e.before; after = f.after ∙ e.after; size = f.size ∙ e.size }

pub same_back : {X : Type 0} (at n : ℕ) (xs ys : List X) → SameOutside at n xs ys → SameOutside at n ys xs
same_back at n xs ys e = record { before = sym e.before; after = sym e.after; size = sym e.size }

module _ {X : Type 0} (at n : ℕ) (xs ys : List X) (same : SameOutside at n xs ys) where
  -- the lists before a place that lies no further than the range
  pub same_take : (a : ℕ) → a ≤ at → take a ys ≡ take a xs
  same_take a below = sym (take-take a at ys below) ∙ ap (λ (l : List X). take a l) same.before ∙ take-take a at xs below

  -- the lists from a place on that lies behind the range
  pub same_drop : (a : ℕ) → at + n ≤ a → drop a ys ≡ drop a xs
  same_drop a behind =
      let far : at + n + (a - (at + n)) ≡ a = omega (arith, behind) in
      let same_far : drop (at + n + (a - (at + n))) ys ≡ drop (at + n + (a - (at + n))) xs =
      sym (drop-drop (a - (at + n)) (at + n) ys) ∙ ap (λ (l : List X). drop (a - (at + n)) l) same.after ∙ drop-drop (a - (at + n)) (at + n) xs in
      subst (λ (k : ℕ). drop k ys ≡ drop k xs) far same_far

  -- k items before the range
  pub same_before : (a k : ℕ) → a + k ≤ at → take k (drop a ys) ≡ take k (drop a xs)
  same_before a k below = sym (drop-take a k ys) ∙ ap (λ (l : List X). drop a l) (same_take (a + k) below) ∙ drop-take a k xs

  -- k items behind it
  pub same_behind : (a k : ℕ) → at + n ≤ a → take k (drop a ys) ≡ take k (drop a xs)
  same_behind a k behind = ap (λ (l : List X). take k l) (same_drop a behind)

  -- an item before it
  pub same_item : (i : ℕ) (d : X) → i < at → get_or ys i d ≡ get_or xs i d
  same_item i d below = sym (get_or-take at ys i d below) ∙ ap (λ (l : List X). get_or l i d) same.before ∙ get_or-take at xs i d below

  -- a wider range
  pub wider : (a k : ℕ) → a ≤ at → at + n ≤ a + k → SameOutside a k xs ys
  wider a k below behind = record { before = same_take a below; after = same_drop (a + k) behind; size = same.size }

-- lists that differ in no place are one list
pub same_none : {X : Type 0} (at : ℕ) (xs ys : List X) → SameOutside at 0 xs ys → ys ≡ xs
same_none {X} at xs ys same =
    let rest : drop at ys ≡ drop at xs = same_drop at 0 xs ys same at (omega arith) in
    sym (take-append-drop at ys) ∙ ap (λ (l : List X). l ++ drop at ys) same.before ∙ ap (λ (l : List X). take at xs ++ l) rest ∙ take-append-drop at xs

-- Lists that differ at most from a to e differ at most from b to f, if that range holds the first one, or the first one is empty.
pub covered : {X : Type 0} (a e b f : ℕ) {xs ys : List X} → a ≤ e → (a ≡ e) ⊎ ((b ≤ a) × (e ≤ f)) → SameOutside a (e - a) xs ys → SameOutside b (f - b) xs ys
covered {X} a e b f {xs} {ys} ordered (inl empty) same = grind (arith, common_steps, same_none, same_all)
covered a e b f {xs} {ys} ordered (inr holds) same = wider a (e - a) xs ys same b (f - b) holds.0 (omega (arith, ordered, holds))

-- lists that differ at most in a range: with the new items put there, the old list becomes the new one
pub refreshed : {X : Type 0} (at n : ℕ) (new old part : List X) → SameOutside at n new old → part ≡ take n (drop at new) → put_mid at n old part ≡ new
refreshed {X} at n new old part same is =
    let rest : drop n (drop at old) ≡ drop n (drop at new) = drop-drop n at old ∙ same.after ∙ sym (drop-drop n at new) in
    ap (λ (l : List X). l ++ (part ++ drop n (drop at old))) same.before
    ∙ ap (λ (l : List X). take at new ++ (part ++ l)) rest
    ∙ ap (λ (l : List X). take at new ++ (l ++ drop n (drop at new))) is
    ∙ ap (λ (l : List X). take at new ++ l) (take-append-drop n (drop at new))
    ∙ take-append-drop at new
