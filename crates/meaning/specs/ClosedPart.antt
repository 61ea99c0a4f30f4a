-- Statement for clients: Which lines are in conflict, and which of some lines a crash may leave carried out.
use Rattle.std.specs.Prelude.{◌≡◌, ◌⊎◌, ℕ, Bool, false, ◌&&◌, List, [], ◌∷◌, Option, Some}
use Rattle.std.specs.List.{AllByRecursion}
use Rattle.affinity.specs.Path.{are_related}
use Rattle.affinity.specs.declared.geometry.Geometry.{Geometry}
use Rattle.protocol.specs.Grammar.{message_of}
use Rattle.protocol.specs.Messages.{is_in_range, path_of}
use Rattle.protocol.specs.declared.messages.Msg.{Msg}

-- Two lines are in conflict if the messages that they encode are in range and related: the path of one's affinity begins the other's.
abbrev pub are_related_lines : Geometry → Option Msg → Option Msg → Bool
are_related_lines g (Some m) (Some n) = is_in_range g m && is_in_range g n && are_related (path_of g m) (path_of g n)
are_related_lines g _ _ = false

-- the same of two lines
abbrev pub are_in_conflict : Geometry → List ℕ → List ℕ → Bool
are_in_conflict g line other = are_related_lines g (message_of line) (message_of other)

-- The part has some of the lines, in their order. Where a line is left out, so is each later one that is in conflict with it.
abbrev pub IsPartOf : (List ℕ → List ℕ → Bool) → List (List ℕ) → List (List ℕ) → Type 0
IsPartOf conflict part [] = part ≡ []
IsPartOf conflict part (line ∷ ls) = ((rest : List (List ℕ)) × (part ≡ line ∷ rest) × IsPartOf conflict rest ls)
    ⊎ (AllByRecursion (λ other. conflict line other ≡ false) part × IsPartOf conflict part ls)

abbrev pub IsClosedPart : Geometry → List (List ℕ) → List (List ℕ) → Type 0
IsClosedPart g part ls = IsPartOf (are_in_conflict g) part ls
