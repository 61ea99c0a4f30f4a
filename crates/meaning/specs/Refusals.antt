-- Statement for clients: Which checks a message has to pass, and why it is refused.
use Rattle.std.specs.Prelude.{[], ℕ, Bool, false, not, ◌||◌, nat_lt, List, ◌∷◌, find, Option, is_some, true}
use Rattle.affinity.specs.declared.geometry.Geometry.{Geometry}
use Rattle.affinity.specs.Geometry.{stripe_of}
use Rattle.affinity.specs.declared.kinds.Kind.{Kind}
use Rattle.affinity.specs.declared.kinds.Kind.TheVariants as kinds
use Rattle.affinity.specs.Place.{is_in_range}
use Rattle.protocol.specs.declared.messages.Msg.{Msg}
use Rattle.protocol.specs.declared.replies.Refusal.{Refusal}
use Rattle.protocol.specs.declared.replies.Refusal.TheVariants.{Range, Volume, Exists, Sealed, File, Space}
use Rattle.protocol.specs.Messages.{kind, four_numbers}
use Rattle.protocol.specs.declared.replies.Reply.{Reply}
use Rattle.protocol.specs.declared.replies.Reply.TheVariants.{Refused}
use Rattle.meaning.specs.State.{State, BlockKey, blocks_in_stripe, key_of}

-- the checks that a message of the kind has to pass, in order, each named by the refusal that it gives
abbrev pub checks : Kind → List Refusal
checks kinds.MakeVol = Range ∷ Exists ∷ []
checks kinds.DropVol = Range ∷ Volume ∷ Sealed ∷ []
checks kinds.Create = Range ∷ Volume ∷ Sealed ∷ Exists ∷ []
checks kinds.Delete = Range ∷ Volume ∷ Sealed ∷ File ∷ []
checks kinds.Seal = Range ∷ Volume ∷ []
checks kinds.Unseal = Range ∷ Volume ∷ []
checks kinds.Write = Range ∷ Volume ∷ Sealed ∷ File ∷ Space ∷ []
checks kinds.Punch = Range ∷ Volume ∷ Sealed ∷ File ∷ []
checks kinds.Read = Range ∷ Volume ∷ File ∷ []
checks kinds.List = Range ∷ Volume ∷ []
checks kinds.Usage = Range ∷ Volume ∷ []
checks kinds.Summary = []
checks kinds.SetLabel = Range ∷ Volume ∷ Sealed ∷ []
checks kinds.Label = Range ∷ Volume ∷ []

-- whether what a message of the kind makes is there already, by the key that it names
abbrev pub exists : State → Kind → BlockKey → Bool
exists x kinds.MakeVol n = x.made (n.0, n.1)
exists x kinds.DropVol n = false
exists x kinds.Create n = x.files (n.0, n.1, n.2)
exists x kinds.Delete n = false
exists x kinds.Seal n = false
exists x kinds.Unseal n = false
exists x kinds.Write n = false
exists x kinds.Punch n = false
exists x kinds.Read n = false
exists x kinds.List n = false
exists x kinds.Usage n = false
exists x kinds.Summary n = false
exists x kinds.SetLabel n = false
exists x kinds.Label n = false

-- whether a message of the kind with these four numbers passes a check
abbrev pub passes : Geometry → State → Kind → List ℕ → Refusal → Bool
passes g x k ns Range = is_in_range g k ns
passes g x k ns Volume = let n = key_of ns in x.made (n.0, n.1)
passes g x k ns Exists = not (exists x k (key_of ns))
passes g x k ns Sealed = let n = key_of ns in not (x.sealed (n.0, n.1))
passes g x k ns File = let n = key_of ns in x.files (n.0, n.1, n.2)
passes g x k ns Space = let n = key_of ns in is_some (x.blocks n) || nat_lt (blocks_in_stripe g x n.0 n.1 (stripe_of g n.2 n.3)) g.quota

-- why a message of the kind with these four numbers is refused: the first check that fails, if one does
abbrev pub refusal_by : Geometry → State → Kind → List ℕ → Option Refusal
refusal_by g x k ns = find (λ test. not (passes g x k ns test)) (checks k)

-- why the message is refused, if it is
abbrev pub refusal : Geometry → State → Msg → Option Refusal
refusal g x m = refusal_by g x (kind m) (four_numbers m)

abbrev pub is_refused : Reply → Bool
is_refused (Refused why) = true
is_refused _ = false
