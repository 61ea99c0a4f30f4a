-- Statement for engineers: The state that parcels show, together with their standing. Of what lies neither at their affinity, nor below or
-- above it, they show nothing.
use Rattle.std.specs.Prelude.{ℕ, Bool, false, ◌==◌, List, [], ◌∷◌, slice_index_or, Option, None}
use Rattle.std.specs.Option.{option_and_then, option_map_or}
use Rattle.affinity.specs.declared.geometry.Geometry.{Geometry}
use Rattle.affinity.specs.Geometry.{stripe_of}
use Rattle.affinity.specs.Path.{Path, are_related}
use Rattle.protocol.specs.declared.messages.Block.{Block}
pub use Rattle.protocol.specs.Replies.{has_file}
use Rattle.meaning.specs.State.{State}
use Rattle.meaning.specs.Subtrees.{AgreeOn}
use Rattle.stripe.specs.Stripe.{StripePart, content_at}
use Rattle.parcel.specs.Volume.{VolumeFacts, no_facts, facts_if, state_with, one_volume}
use Rattle.parcel.specs.declared.parts.Label.{Label}
use Rattle.parcel.specs.declared.parts.Logical.{Logical}
use Rattle.parcel.specs.declared.parts.Vol.{Vol}
use Rattle.parcel.specs.declared.parts.Aggr.{Aggr}
use Rattle.parcel.specs.declared.parts.Root.{Root}
use Rattle.parcel.specs.declared.parts.Parcels.{Parcels}
use Rattle.parcel.specs.declared.parts.Parcels.TheVariants as parcels
use Rattle.parcel.specs.declared.parts.Standing.{Standing}

-- the blocks of a stripe, where it is in
abbrev pub blocks_in : Option StripePart → ℕ → ℕ → Option Block
blocks_in o f b = option_and_then (λ p. content_at p.entries f b) o

-- the blocks of a volume's list of stripes: each is looked up in the stripe in which it lies
abbrev pub blocks_of : Geometry → List (Option StripePart) → ℕ → ℕ → Option Block
blocks_of g row f b = blocks_in (slice_index_or row (stripe_of g f b) None) f b

-- ---- the facts of one volume (what can be asked of it), by a parcel of it and the standing

abbrev pub stripe_facts : Standing → StripePart → VolumeFacts
stripe_facts t p = record { made = t.made; sealed = t.sealed; files = has_file t.files; blocks = content_at p.entries; label = None }

abbrev pub logical_facts : Geometry → Standing → Logical → VolumeFacts
logical_facts g t l =
    record { made = t.made; sealed = t.sealed; files = has_file l.files; blocks = blocks_of g l.stripes.items; label = None }

abbrev pub label_facts : Standing → Label → VolumeFacts
label_facts t l = record { made = t.made; sealed = t.sealed; files = λ f. false; blocks = λ f b. None; label = l.bytes }

abbrev pub files_in : Option Logical → ℕ → Bool
files_in o f = option_map_or (λ l. has_file l.files f) o false

abbrev pub blocks_below : Geometry → Option Logical → ℕ → ℕ → Option Block
blocks_below g o f b = option_and_then (λ l. blocks_of g l.stripes.items f b) o

abbrev pub shown_label : Option Label → Option (List ℕ)
shown_label o = option_and_then (λ l. l.bytes) o

abbrev pub volume_facts : Geometry → Vol → VolumeFacts
volume_facts g w = record {
  made = w.made;
  sealed = w.sealed;
  files = files_in w.logical;
  blocks = blocks_below g w.logical;
  label = shown_label w.label;
}

-- the facts of a child, and `no_facts` where it is out
abbrev pub child_facts : {X : Type 0} → (X → VolumeFacts) → Option X → VolumeFacts
child_facts facts o = option_map_or facts o no_facts

-- the facts of volume v of an aggregate
abbrev pub aggregate_facts : Geometry → Aggr → ℕ → VolumeFacts
aggregate_facts g r v = child_facts (volume_facts g) (slice_index_or r.volumes.items v None)

-- the facts of volume v of aggregate a
abbrev pub root_facts : Geometry → Root → ℕ → ℕ → VolumeFacts
root_facts g r a v = child_facts (λ x. aggregate_facts g x v) (slice_index_or r.aggregates.items a None)

-- ---- the state

-- the first two numbers of a path, the aggregate and the volume
abbrev pub path_aggregate : Path → ℕ
path_aggregate [] = 0
path_aggregate (a ∷ p) = a

abbrev pub path_volume : Path → ℕ
path_volume [] = 0
path_volume (a ∷ p) = path_aggregate p

-- the state that parcels at path p show, together with their standing
abbrev pub shown_state : Geometry → Path → Standing → Parcels → State
shown_state g p t (parcels.Stripe s) = one_volume (path_aggregate p) (path_volume p) (stripe_facts t s)
shown_state g p t (parcels.Label l) = one_volume (path_aggregate p) (path_volume p) (label_facts t l)
shown_state g p t (parcels.Logical l) = one_volume (path_aggregate p) (path_volume p) (logical_facts g t l)
shown_state g p t (parcels.Vol w) = one_volume (path_aggregate p) (path_volume p) (volume_facts g w)
shown_state g p t (parcels.Aggr r) = state_with (λ a v. facts_if (path_aggregate p == a) (aggregate_facts g r v))
shown_state g p t (parcels.Root r) = state_with (root_facts g r)

-- The parcels and the standing show what a state has at a path: the parcels what lies there and below, the standing what is seen of the
-- nodes above.
abbrev pub Shows : Geometry → Path → Standing → Parcels → State → Type 0
Shows g p t parcels x = AgreeOn g (are_related p) (shown_state g p t parcels) x
