-- Statement for operators: The blocks of one stripe of a volume, as contracts see them.
use Rattle.std.specs.Prelude.{◌≡◌, ◌⊎◌, ℕ, ◌<◌, ◌≤◌, ◌&&◌, ◌==◌, if◌then◌else◌, List, [], ◌∷◌, length, Option, Some, None}
use Rattle.std.specs.List.{AllByRecursion}
use Rattle.protocol.specs.declared.messages.Block.{Block}

-- a block of a file, and what it holds
pub record BlockEntry : Type 0 where
  pub file : ℕ
  pub block : ℕ
  pub content : Block

-- what contracts see of a `StripeParcel`: how many blocks it may have, and its blocks
pub record StripePart : Type 0 where
  pub quota : ℕ
  pub entries : List BlockEntry

-- what a block holds, if it is there
abbrev pub content_at : List BlockEntry → ℕ → ℕ → Option Block
content_at [] f b = None
content_at (e ∷ es) f b = if (f == e.file) && (b == e.block) then Some e.content else content_at es f b

-- block j of file i comes before block b of file f
abbrev pub PrecedesBlock : ℕ → ℕ → ℕ → ℕ → Type 0
PrecedesBlock i j f b = (i < f) ⊎ ((i ≡ f) × (j < b))

-- entry d comes before entry e
abbrev pub ComesBefore : BlockEntry → BlockEntry → Type 0
ComesBefore d e = PrecedesBlock d.file d.block e.file e.block

-- each entry comes before those after it, so no block is there twice
abbrev pub IsAscending : List BlockEntry → Type 0
IsAscending [] = Unit {0}
IsAscending (e ∷ es) = AllByRecursion (ComesBefore e) es × IsAscending es

-- the invariant of a stripe: its blocks ascend, and are at most its quota
pub record StripeRule (p : StripePart) : Type 0 where
  pub ascending : IsAscending p.entries
  pub within : length p.entries ≤ p.quota

-- What a call made of a stripe: the quota stays, and block b of file f holds `wanted f b` (`None` where it isn't there).
pub record HoldsContent (old new : StripePart) (wanted : ℕ → ℕ → Option Block) : Type 0 where
  pub quota : new.quota ≡ old.quota
  pub content : (f b : ℕ) → content_at new.entries f b ≡ wanted f b
