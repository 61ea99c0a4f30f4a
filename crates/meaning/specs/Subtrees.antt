-- Statement for engineers: The subtree of a state at a path, and its standing: what a message there sees of the nodes above.
use Rattle.std.specs.Prelude.{◌≡◌, ℕ, Bool, true, not, ◌&&◌, ◌∷◌, if◌then◌else◌, None}
use Rattle.affinity.specs.declared.geometry.Geometry.{Geometry}
use Rattle.affinity.specs.Geometry.{stripe_of}
use Rattle.affinity.specs.Path.{Path, is_prefix, volume, logical, stripe, label}
use Rattle.meaning.specs.State.{State}
use Rattle.meaning.specs.Facts.{Fact, value, path_in_volume}

-- the state with nothing but what lies at the selected paths
abbrev pub restricted : Geometry → (Path → Bool) → State → State
restricted g selected x = record {
  made = λ k. selected (volume k.0 k.1) && x.made k;
  sealed = λ k. selected (volume k.0 k.1) && x.sealed k;
  files = λ k. selected (logical k.0 k.1) && x.files k;
  blocks = λ k. if selected (stripe k.0 k.1 (stripe_of g k.2 k.3)) then x.blocks k else None;
  labels = λ k. if selected (label k.0 k.1) then x.labels k else None;
}

-- the subtree at a path: all of the state that lies there or below
abbrev pub subtree : Geometry → Path → State → State
subtree g p x = restricted g (is_prefix p) x

-- the standing at a path: all of the state that lies above it
abbrev pub standing : Geometry → Path → State → State
standing g p x = restricted g (λ q. is_prefix q p && not (is_prefix p q)) x

-- Two states hold the same at each selected path.
pub record AgreeOn (g : Geometry) (selected : Path → Bool) (x y : State) : Type 0 where
  pub same : (a v : ℕ) (fact : Fact) → selected (a ∷ v ∷ path_in_volume g fact) ≡ true → value x a v fact ≡ value y a v fact
