-- Lending or restoring at a path leaves the state as it is everywhere else.
use Rattle.std.proofs.Common.{◌≡◌, ℕ, Bool, true, false, [], ◌∷◌, Option, refl, sym, ap, ◌∙◌}
use Rattle.std.specs.Prelude.{◌&&◌, ◌==◌, None, if◌then◌else◌}
use Rattle.std.proofs.lemmas.Bool.{cond-false, not-true, true≢false}
use Rattle.affinity.specs.declared.geometry.Geometry.{Geometry}
use Rattle.affinity.specs.Path.{Path, is_prefix}
use Rattle.meaning.specs.Facts.{Fact, OfMade, OfSealed, OfLabel, OfFile, OfBlock, Value, value, path_in_volume}
use Rattle.meaning.specs.Subtrees.{AgreeOn}
use Rattle.meaning.specs.Commute.{outside}
use Rattle.parcel.specs.Nodes.{Node, Nodes, node_made, node_sealed, node_has_file, node_block, node_label, tree_state, put_at, TakesOut, PutsBack}

-- what a node says of a fact; the state of the nodes says it of them all
abbrev pub node_value : Option Node → (fact : Fact) → Value fact
node_value o OfMade = node_made o
node_value o OfSealed = node_sealed o
node_value o OfLabel = node_label o
node_value o (OfFile f) = node_has_file o f
node_value o (OfBlock f b) = node_block o f b

pub tree_value : (g : Geometry) (n : Nodes) (a v : ℕ) (fact : Fact) → value (tree_state g n) a v fact ≡ node_value (n (a ∷ v ∷ path_in_volume g fact)) fact
tree_value g n a v OfMade = refl
tree_value g n a v _ = refl

-- nodes that are the same at the paths that a test picks hold the same state there
pub agree_where_same : (g : Geometry) (R : Path → Bool) (m n : Nodes) → ((q : Path) → R q ≡ true → m q ≡ n q) → AgreeOn g R (tree_state g m) (tree_state g n)
agree_where_same g R m n same = record { same = λ a v fact r. tree_value g m a v fact ∙ ap (λ o. node_value o fact) (same (a ∷ v ∷ path_in_volume g fact) r) ∙ sym (tree_value g n a v fact) }

pub taken_leaves : (g : Geometry) (p : Path) (old new : Nodes) → TakesOut p old new → AgreeOn g (outside p) (tree_state g new) (tree_state g old)
taken_leaves g p old new h = agree_where_same g (outside p) new old (λ q r. h q ∙ cond-false (is_prefix p q) None (old q) (not-true (is_prefix p q) r))

put_elsewhere : (b : Bool) (p q : Path) (part below : Nodes) → (b && is_prefix p q) ≡ false
    → (is_prefix p q ≡ false → put_at p part below q ≡ below q) → (if b then put_at p part below q else below q) ≡ below q
put_elsewhere true p q part below h step = step h
put_elsewhere false p q part below h step = refl

pub put_outside : (p : Path) (part old : Nodes) (q : Path) → is_prefix p q ≡ false → put_at p part old q ≡ old q
put_outside [] part old q h = absurd (true≢false h)
put_outside (x ∷ p) part old [] h = refl
put_outside (x ∷ p) part old (y ∷ q) h = put_elsewhere (x == y) p q part (λ r. old (y ∷ r)) h (put_outside p part (λ r. old (y ∷ r)) q)

pub put_leaves : (g : Geometry) (p : Path) (part old new : Nodes) → PutsBack p part old new → AgreeOn g (outside p) (tree_state g new) (tree_state g old)
put_leaves g p part old new h = agree_where_same g (outside p) new old (λ q r. h q ∙ put_outside p part old q (not-true (is_prefix p q) r))
