-- A row is the list of a node's children: what is known of each of them, and what the nodes are once one was written.
use Rattle.std.proofs.Common.{◌≡◌, ℕ, zero, suc, ◌+◌, ◌<◌, Bool, true, false, List, [], ◌∷◌, length, Option, refl, sym, ap, subst, ◌∙◌, arith}
use Rattle.std.specs.Prelude.{◌==◌, None, IfSome, slice_index_or, slice_set, if◌then◌else◌}
use Rattle.std.specs.List.{AllByRecursion}
use Rattle.std.proofs.lemmas.Bool.{eqb-true, eq-eqb, true≢false}
use Rattle.std.proofs.lemmas.List.{get_or-set_same, get_or-set_other}
use Rattle.affinity.specs.Path.{Path}
use Rattle.parcel.specs.Fits.{EachFits}
use Rattle.parcel.specs.Whole.{IsWholeChild}
use Rattle.parcel.specs.Nodes.{Node, Nodes, child_nodes, children_nodes, PutsBack}

-- ---- each of a row fits

pub each_at : {X : Type 0} (Fits : ℕ → X → Type 0) (i k : ℕ) (xs : List (Option X)) → EachFits Fits i xs → IfSome (slice_index_or xs k None) (Fits (i + k))
each_at Fits i k [] h = tt
each_at Fits i zero (x ∷ xs) h = subst (λ n. IfSome x (Fits n)) (omega arith) h.0
each_at Fits i (suc k) (x ∷ xs) h = subst (λ n. IfSome (slice_index_or xs k None) (Fits n)) (omega arith) (each_at Fits (suc i) k xs h.1)

pub each_set : {X : Type 0} (Fits : ℕ → X → Type 0) (i k : ℕ) (xs : List (Option X)) (y : Option X) → EachFits Fits i xs → IfSome y (Fits (i + k)) → EachFits Fits i (slice_set xs k y)
each_set Fits i k [] y h here = h
each_set Fits i zero (x ∷ xs) y h here = (subst (λ n. IfSome y (Fits n)) (omega arith) here, h.1)
each_set Fits i (suc k) (x ∷ xs) y h here = (h.0, each_set Fits (suc i) k xs y h.1 (subst (λ n. IfSome y (Fits n)) (omega arith) here))

-- what lies at a place of a row fits there
pub fits_in_place : {X : Type 0} (Fits : ℕ → X → Type 0) (row : List (Option X)) → EachFits Fits 0 row → (k : ℕ) (place : Option X) → slice_index_or row k None ≡ place → IfSome place (Fits k)
fits_in_place {X} Fits row h k place at =
    let same : 0 + k ≡ k = omega arith in
    subst (λ (o : Option X). IfSome o (Fits k)) at (subst (λ (n : ℕ). IfSome (slice_index_or row k None) (Fits n)) same (each_at Fits 0 k row h))

pub child_whole_at : {X : Type 0} (IsWhole : X → Type 0) (xs : List (Option X)) (i : ℕ) → i < length xs → AllByRecursion (IsWholeChild IsWhole) xs → IsWholeChild IsWhole (slice_index_or xs i None)
child_whole_at IsWhole [] i below h = absurd (omega arith)
child_whole_at IsWhole (x ∷ xs) zero below h = h.0
child_whole_at IsWhole (x ∷ xs) (suc i) below h = child_whole_at IsWhole xs i (omega arith) h.1

-- ---- a row after a write

module _ {X : Type 0} (nodes : X → Nodes) (own : Node) (xs : List (Option X)) (i : ℕ) (y : Option X) (there : i < length xs) where
  cell_put : (j : ℕ) (q : Path) (b : Bool) → (i == j) ≡ b
      → child_nodes nodes (slice_index_or (slice_set xs i y) j None) q ≡ (if b then child_nodes nodes y q else child_nodes nodes (slice_index_or xs j None) q)
  cell_put j q true e = ap (λ k. child_nodes nodes (slice_index_or (slice_set xs i y) k None) q) (sym (eqb-true i j e)) ∙ ap (λ c. child_nodes nodes c q) (get_or-set_same xs i y None there)
  cell_put j q false e = ap (λ c. child_nodes nodes c q) (get_or-set_other xs i j y None (λ (s : j ≡ i). true≢false (sym (eq-eqb i j (sym s)) ∙ e)))

  pub row_put : PutsBack (i ∷ []) (child_nodes nodes y) (children_nodes nodes own xs) (children_nodes nodes own (slice_set xs i y))
  row_put [] = refl
  row_put (j ∷ q) = cell_put j q (i == j) refl
