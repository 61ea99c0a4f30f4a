-- An effect changes single facts of the state, and only those at its message's path and below.
use Rattle.std.proofs.Common.{arith, ◌≡◌, ℕ, Bool, true, false, [], ◌∷◌, refl, ap, sym, ◌∙◌}
use Rattle.std.specs.Prelude.{◌&&◌, ◌||◌, not, ◌==◌, if◌then◌else◌, Some, None}
use Rattle.std.proofs.lemmas.Bool.{and_parts, and_from, not-true, true≢false}
use Rattle.affinity.specs.declared.geometry.Geometry.{Geometry}
use Rattle.affinity.specs.Geometry.{stripe_of}
use Rattle.affinity.specs.Path.{Path, is_prefix, aggregate, logical, stripe}
use Rattle.protocol.specs.declared.messages.Msg.{Msg}
use Rattle.protocol.specs.declared.messages.Msg.TheVariants.{MakeVol, DropVol, Create, Delete, Seal, Unseal, Write, Punch, SetLabel}
use Rattle.protocol.specs.Messages.{path_of}
use Rattle.meaning.specs.State.{State, BlockKey, FileKey, is_volume, is_file, is_block}
use Rattle.meaning.specs.Step.{effect, no_label}
use Rattle.meaning.specs.Facts.{Fact, OfMade, OfSealed, OfLabel, OfFile, OfBlock, path_in_volume, value}
use Rattle.meaning.specs.Subtrees.{AgreeOn}
use Rattle.meaning.specs.Commute.{outside}

-- ---- fact by fact

pub effect_agrees : (g : Geometry) (R : Path → Bool) (x y : State) → AgreeOn g R x y → (m : Msg) → AgreeOn g R (effect x m) (effect y m)
effect_agrees g R x y h m = record { same = by m }
  where
    by : (m : Msg) (i j : ℕ) (fact : Fact) → R (i ∷ j ∷ path_in_volume g fact) ≡ true → value (effect x m) i j fact ≡ value (effect y m) i j fact
    by (MakeVol a v) i j OfMade r = ap (λ b. is_volume a v (i, j) || b) (h.same i j OfMade r)
    by (MakeVol a v) i j OfLabel r = ap (λ o. if is_volume a v (i, j) then Some no_label else o) (h.same i j OfLabel r)
    by (DropVol a v) i j OfMade r = ap (λ b. not (is_volume a v (i, j)) && b) (h.same i j OfMade r)
    by (DropVol a v) i j OfSealed r = ap (λ b. not (is_volume a v (i, j)) && b) (h.same i j OfSealed r)
    by (DropVol a v) i j OfLabel r = ap (λ o. if is_volume a v (i, j) then None else o) (h.same i j OfLabel r)
    by (DropVol a v) i j (OfFile k) r = ap (λ b. not (is_volume a v (i, j)) && b) (h.same i j (OfFile k) r)
    by (DropVol a v) i j (OfBlock k l) r = ap (λ o. if is_volume a v (i, j) then None else o) (h.same i j (OfBlock k l) r)
    by (Create a v f) i j (OfFile k) r = ap (λ b. is_file a v f (i, j, k) || b) (h.same i j (OfFile k) r)
    by (Delete a v f) i j (OfFile k) r = ap (λ b. not (is_file a v f (i, j, k)) && b) (h.same i j (OfFile k) r)
    by (Delete a v f) i j (OfBlock k l) r = ap (λ o. if is_file a v f (i, j, k) then None else o) (h.same i j (OfBlock k l) r)
    by (Seal a v) i j OfSealed r = ap (λ b. is_volume a v (i, j) || b) (h.same i j OfSealed r)
    by (Unseal a v) i j OfSealed r = ap (λ b. not (is_volume a v (i, j)) && b) (h.same i j OfSealed r)
    by (Write a v f b content) i j (OfBlock k l) r = ap (λ o. if is_block a v f b (i, j, k, l) then Some content else o) (h.same i j (OfBlock k l) r)
    by (Punch a v f b) i j (OfBlock k l) r = ap (λ o. if is_block a v f b (i, j, k, l) then None else o) (h.same i j (OfBlock k l) r)
    by (SetLabel a v bytes) i j OfLabel r = ap (λ o. if is_volume a v (i, j) then Some bytes else o) (h.same i j OfLabel r)
    by _ i j fact r = h.same i j fact r

-- ---- only at the place and below

-- what isn't under the place isn't picked
unpicked : (selected under : Bool) → (selected ≡ true → under ≡ true) → not under ≡ true → selected ≡ false
unpicked true under in_place r = absurd (true≢false (sym (in_place refl) ∙ not-true under r))
unpicked false under in_place r = refl

-- what is picked lies under the place
in_aggregate : (a v x y : ℕ) (rest : Path) → ((a == x) && (v == y)) ≡ true → is_prefix (aggregate a) (x ∷ y ∷ rest) ≡ true
in_aggregate a v x y rest e = and_from (a == x) true (and_parts (a == x) (v == y) e).0 refl

in_volume : (a v x y : ℕ) (p q : Path) → is_prefix p q ≡ true → ((a == x) && (v == y)) ≡ true → is_prefix (a ∷ v ∷ p) (x ∷ y ∷ q) ≡ true
in_volume a v x y p q below e = grind arith

in_logical : (a v f : ℕ) (k : FileKey) (q : Path) → is_prefix (0 ∷ []) q ≡ true → is_file a v f k ≡ true → is_prefix (logical a v) (k.0 ∷ k.1 ∷ q) ≡ true
in_logical a v f k q below e = in_volume a v k.0 k.1 (0 ∷ []) q below (and_parts ((a == k.0) && (v == k.1)) (f == k.2) e).0

in_stripe : (g : Geometry) (a v f b : ℕ) (k : BlockKey) → is_block a v f b k ≡ true → is_prefix (stripe a v (stripe_of g f b)) (stripe k.0 k.1 (stripe_of g k.2 k.3)) ≡ true
in_stripe g a v f b k e = grind arith

pub effect_only : (g : Geometry) (x : State) (m : Msg) → AgreeOn g (outside (path_of g m)) (effect x m) x
effect_only g x m = record { same = by m }
  where
    by : (m : Msg) (i j : ℕ) (fact : Fact) → outside (path_of g m) (i ∷ j ∷ path_in_volume g fact) ≡ true → value (effect x m) i j fact ≡ value x i j fact
    by (MakeVol a v) i j OfMade r = ap (λ b. b || x.made (i, j)) (unpicked _ _ (in_aggregate a v i j []) r)
    by (MakeVol a v) i j OfLabel r = ap (λ b. if b then Some no_label else x.labels (i, j)) (unpicked _ _ (in_aggregate a v i j (1 ∷ [])) r)
    by (DropVol a v) i j OfMade r = ap (λ b. not b && x.made (i, j)) (unpicked _ _ (in_aggregate a v i j []) r)
    by (DropVol a v) i j OfSealed r = ap (λ b. not b && x.sealed (i, j)) (unpicked _ _ (in_aggregate a v i j []) r)
    by (DropVol a v) i j OfLabel r = ap (λ b. if b then None else x.labels (i, j)) (unpicked _ _ (in_aggregate a v i j (1 ∷ [])) r)
    by (DropVol a v) i j (OfFile k) r = ap (λ b. not b && x.files (i, j, k)) (unpicked _ _ (in_aggregate a v i j (0 ∷ [])) r)
    by (DropVol a v) i j (OfBlock k l) r = ap (λ b. if b then None else x.blocks (i, j, k, l)) (unpicked _ _ (in_aggregate a v i j (0 ∷ stripe_of g k l ∷ [])) r)
    by (Create a v f) i j (OfFile k) r = ap (λ b. b || x.files (i, j, k)) (unpicked _ _ (in_logical a v f (i, j, k) (0 ∷ []) refl) r)
    by (Delete a v f) i j (OfFile k) r = ap (λ b. not b && x.files (i, j, k)) (unpicked _ _ (in_logical a v f (i, j, k) (0 ∷ []) refl) r)
    by (Delete a v f) i j (OfBlock k l) r = ap (λ b. if b then None else x.blocks (i, j, k, l)) (unpicked _ _ (in_logical a v f (i, j, k) (0 ∷ stripe_of g k l ∷ []) refl) r)
    by (Seal a v) i j OfSealed r = ap (λ b. b || x.sealed (i, j)) (unpicked _ _ (in_volume a v i j [] [] refl) r)
    by (Unseal a v) i j OfSealed r = ap (λ b. not b && x.sealed (i, j)) (unpicked _ _ (in_volume a v i j [] [] refl) r)
    by (Write a v f b content) i j (OfBlock k l) r = ap (λ t. if t then Some content else x.blocks (i, j, k, l)) (unpicked _ _ (in_stripe g a v f b (i, j, k, l)) r)
    by (Punch a v f b) i j (OfBlock k l) r = ap (λ t. if t then None else x.blocks (i, j, k, l)) (unpicked _ _ (in_stripe g a v f b (i, j, k, l)) r)
    by (SetLabel a v bytes) i j OfLabel r = ap (λ b. if b then Some bytes else x.labels (i, j)) (unpicked _ _ (in_volume a v i j (1 ∷ []) (1 ∷ []) refl) r)
    by _ i j fact r = refl
