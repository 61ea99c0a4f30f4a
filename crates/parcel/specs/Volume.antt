-- Statement for engineers: The facts of a volume (what can be asked of it), and the state that has given facts for each volume.
use Rattle.std.specs.Prelude.{ℕ, Bool, true, false, ◌&&◌, ◌==◌, List, Option, Some, None, ◌≡◌}
use Rattle.protocol.specs.declared.messages.Block.{Block}
use Rattle.meaning.specs.State.{State}
use Rattle.meaning.specs.Step.{no_label}
use Rattle.meaning.specs.Facts.{Fact, OfMade, OfSealed, OfLabel, OfFile, OfBlock, Value, value}

-- what one volume has
pub record VolumeFacts : Type 0 where
  pub made : Bool
  pub sealed : Bool
  pub files : ℕ → Bool
  pub blocks : ℕ → ℕ → Option Block
  pub label : Option (List ℕ)

-- what they say of a fact
abbrev pub fact_of : VolumeFacts → (fact : Fact) → Value fact
fact_of h OfMade = h.made
fact_of h OfSealed = h.sealed
fact_of h OfLabel = h.label
fact_of h (OfFile f) = h.files f
fact_of h (OfBlock f b) = h.blocks f b

-- the facts of a volume that isn't made, or that is out
abbrev pub no_facts : VolumeFacts
no_facts = record { made = false; sealed = false; files = λ f. false; blocks = λ f b. None; label = None }

-- the facts of a volume once it is made: it gets a label of zeros
abbrev pub with_made : VolumeFacts → VolumeFacts
with_made h = record h { made = true; label = Some no_label }

-- these facts where the test holds, else nothing
abbrev pub facts_if : Bool → VolumeFacts → VolumeFacts
facts_if true h = h
facts_if false h = no_facts

-- the state in which volume v of aggregate a has the facts h a v, for each a and v
abbrev pub state_with : (ℕ → ℕ → VolumeFacts) → State
state_with h = record {
  made = λ k. (h k.0 k.1).made;
  sealed = λ k. (h k.0 k.1).sealed;
  files = λ k. (h k.0 k.1).files k.2;
  blocks = λ k. (h k.0 k.1).blocks k.2 k.3;
  labels = λ k. (h k.0 k.1).label;
}

-- the state in which volume v of aggregate a has these facts, and no other volume has anything
abbrev pub one_volume : ℕ → ℕ → VolumeFacts → State
one_volume a v h = state_with (λ x y. facts_if ((a == x) && (v == y)) h)

-- Volume v of aggregate a has these facts in state x.
abbrev pub HasFacts : State → ℕ → ℕ → VolumeFacts → Type 0
HasFacts x a v h = (fact : Fact) → value x a v fact ≡ fact_of h fact
