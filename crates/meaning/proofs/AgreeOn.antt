-- States that agree at some paths.
use Rattle.std.proofs.Common.{◌≡◌, ℕ, Bool, true, false, ◌∷◌, Option, refl, ap, sym, ◌∙◌, ⊎_elim}
use Rattle.std.specs.Prelude.{◌&&◌, ◌||◌, if◌then◌else◌, None}
use Rattle.std.proofs.lemmas.Bool.{or_cases, true≢false}
use Rattle.affinity.specs.declared.geometry.Geometry.{Geometry}
use Rattle.affinity.specs.Geometry.{stripe_of}
use Rattle.affinity.specs.Path.{Path, volume, logical, stripe, label}
use Rattle.meaning.specs.State.{State}
use Rattle.meaning.specs.Facts.{Fact, OfMade, OfSealed, OfLabel, OfFile, OfBlock, path_in_volume, value}
use Rattle.meaning.specs.Subtrees.{AgreeOn, restricted}

module _ {g : Geometry} {R : Path → Bool} where
  pub agree-refl : (x : State) → AgreeOn g R x x
  agree-refl x = record { same = λ a v fact r. refl }

  pub agree-sym : {x y : State} → AgreeOn g R x y → AgreeOn g R y x
  agree-sym h = record { same = λ a v fact r. sym (h.same a v fact r) }

  pub agree-trans : {x y z : State} → AgreeOn g R x y → AgreeOn g R y z → AgreeOn g R x z
  agree-trans h j = record { same = λ a v fact r. h.same a v fact r ∙ j.same a v fact r }

  -- at fewer paths
  pub agree_within : {S : Path → Bool} {x y : State} → ((q : Path) → S q ≡ true → R q ≡ true) → AgreeOn g R x y → AgreeOn g S x y
  agree_within fewer h = record { same = λ a v fact r. h.same a v fact (fewer _ r) }

  -- everywhere
  pub agree_everywhere : {x y : State} → ((q : Path) → R q ≡ true) → AgreeOn g R x y → x ≡ y
  agree_everywhere all h i = record {
    made = λ k. h.same k.0 k.1 OfMade (all _) i;
    sealed = λ k. h.same k.0 k.1 OfSealed (all _) i;
    files = λ k. h.same k.0 k.1 (OfFile k.2) (all _) i;
    blocks = λ k. h.same k.0 k.1 (OfBlock k.2 k.3) (all _) i;
    labels = λ k. h.same k.0 k.1 OfLabel (all _) i;
  }

-- at the paths of either test
pub agree_either : {g : Geometry} {R S : Path → Bool} {x y : State} → AgreeOn g R x y → AgreeOn g S x y → AgreeOn g (λ q. R q || S q) x y
agree_either {g} {R} {S} h j = record { same = λ a v fact r. ⊎_elim (h.same a v fact) (j.same a v fact) (or_cases (R (a ∷ v ∷ path_in_volume g fact)) (S (a ∷ v ∷ path_in_volume g fact)) r) }

-- ---- a part as a value: two states have the same part exactly where they agree on it

pub same_and : (t b c : Bool) → (t ≡ true → b ≡ c) → (t && b) ≡ (t && c)
same_and true b c h = h refl
same_and false b c h = refl

and_same : (t b c : Bool) → t ≡ true → (t && b) ≡ (t && c) → b ≡ c
and_same true b c r h = h
and_same false b c r h = absurd (true≢false (sym r))

pub same_if : {X : Type 0} (t : Bool) (o p : Option X) → (t ≡ true → o ≡ p) → (if t then o else None) ≡ (if t then p else None)
same_if true o p h = h refl
same_if false o p h = refl

if_same : {X : Type 0} (t : Bool) (o p : Option X) → t ≡ true → (if t then o else None) ≡ (if t then p else None) → o ≡ p
if_same true o p r h = h
if_same false o p r h = absurd (true≢false (sym r))

module _ (g : Geometry) (R : Path → Bool) where
  pub part_from_agree : (x y : State) → AgreeOn g R x y → restricted g R x ≡ restricted g R y
  part_from_agree x y h i = record {
    made = λ k. same_and (R (volume k.0 k.1)) _ _ (h.same k.0 k.1 OfMade) i;
    sealed = λ k. same_and (R (volume k.0 k.1)) _ _ (h.same k.0 k.1 OfSealed) i;
    files = λ k. same_and (R (logical k.0 k.1)) _ _ (h.same k.0 k.1 (OfFile k.2)) i;
    blocks = λ k. same_if (R (stripe k.0 k.1 (stripe_of g k.2 k.3))) _ _ (h.same k.0 k.1 (OfBlock k.2 k.3)) i;
    labels = λ k. same_if (R (label k.0 k.1)) _ _ (h.same k.0 k.1 OfLabel) i;
  }

  pub agree_from_part : (x y : State) → restricted g R x ≡ restricted g R y → AgreeOn g R x y
  agree_from_part x y e = record { same = by }
    where
      by : (a v : ℕ) (fact : Fact) → R (a ∷ v ∷ path_in_volume g fact) ≡ true → value x a v fact ≡ value y a v fact
      by a v OfMade r = and_same (R (volume a v)) _ _ r (ap (λ z. z.made (a, v)) e)
      by a v OfSealed r = and_same (R (volume a v)) _ _ r (ap (λ z. z.sealed (a, v)) e)
      by a v OfLabel r = if_same (R (label a v)) _ _ r (ap (λ z. z.labels (a, v)) e)
      by a v (OfFile f) r = and_same (R (logical a v)) _ _ r (ap (λ z. z.files (a, v, f)) e)
      by a v (OfBlock f b) r = if_same (R (stripe a v (stripe_of g f b))) _ _ r (ap (λ z. z.blocks (a, v, f, b)) e)
