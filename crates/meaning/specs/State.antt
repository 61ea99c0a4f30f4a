-- Statement for clients: What a server keeps. A set is the function that tests whether a key is in it, a map the one that looks a key up.
use Rattle.std.specs.Prelude.{◌≡◌, ℕ, zero, suc, ◌+◌, ◌<◌, ◌≤◌, Bool, true, false, not, ◌&&◌, ◌||◌, ◌==◌, List, if◌then◌else◌, Option, Some, None, is_some, IfSome, slice_index}
use Rattle.affinity.specs.declared.geometry.Geometry.{Geometry}
use Rattle.affinity.specs.Geometry.{stripe_of}
use Rattle.protocol.specs.declared.sizes.TheConstants.{LABEL_SIZE}
use Rattle.protocol.specs.declared.messages.Block.{Block}
use Rattle.protocol.specs.Messages.{IsBlock, AreSizedBytes, four_numbers}
use Rattle.protocol.specs.declared.messages.Msg.{Msg}

-- ---- sets and maps

abbrev pub Set : Type 0 → Type 0
Set K = K → Bool

abbrev pub Map : Type 0 → Type 0 → Type 0
Map K X = K → Option X

-- the set with the keys that the test picks added, or taken out
abbrev pub adding : {K : Type 0} → (K → Bool) → Set K → Set K
adding selected s k = selected k || s k

abbrev pub dropping : {K : Type 0} → (K → Bool) → Set K → Set K
dropping selected s k = not (selected k) && s k

-- the map with this value at the keys that the test picks, or with none there
abbrev pub setting : {K X : Type 0} → (K → Bool) → X → Map K X → Map K X
setting selected value m k = if selected k then Some value else m k

abbrev pub clearing : {K X : Type 0} → (K → Bool) → Map K X → Map K X
clearing selected m k = if selected k then None else m k

-- ---- keys: a volume (a, v), a file (a, v, f), a block (a, v, f, b)

abbrev pub VolumeKey : Type 0
VolumeKey = ℕ × ℕ

abbrev pub FileKey : Type 0
FileKey = ℕ × ℕ × ℕ

abbrev pub BlockKey : Type 0
BlockKey = ℕ × ℕ × ℕ × ℕ

-- the key of a block by a list of four numbers: its aggregate, volume, file and number
abbrev pub key_of : List ℕ → BlockKey
key_of ns = (slice_index ns 0, slice_index ns 1, slice_index ns 2, slice_index ns 3)

-- the key (aggregate, volume, file, block) that a message names; a number that it doesn't have is 0
abbrev pub key : Msg → BlockKey
key m = key_of (four_numbers m)

abbrev pub is_volume : ℕ → ℕ → VolumeKey → Bool
is_volume a v k = (a == k.0) && (v == k.1)

abbrev pub is_file : ℕ → ℕ → ℕ → FileKey → Bool
is_file a v f k = (a == k.0) && (v == k.1) && (f == k.2)

abbrev pub is_block : ℕ → ℕ → ℕ → ℕ → BlockKey → Bool
is_block a v f b k = (a == k.0) && (v == k.1) && (f == k.2) && (b == k.3)

-- whether a file is of the volume (a, v), a block of that volume, a block of its file f
abbrev pub is_file_of : ℕ → ℕ → FileKey → Bool
is_file_of a v k = (a == k.0) && (v == k.1)

abbrev pub is_block_of : ℕ → ℕ → BlockKey → Bool
is_block_of a v k = (a == k.0) && (v == k.1)

abbrev pub is_block_of_file : ℕ → ℕ → ℕ → BlockKey → Bool
is_block_of_file a v f k = (a == k.0) && (v == k.1) && (f == k.2)

-- ---- the state: which volumes are made, which are sealed, which files there are, the blocks, and the labels of the volumes

pub record State : Type 0 where
  pub made : Set VolumeKey
  pub sealed : Set VolumeKey
  pub files : Set FileKey
  pub blocks : Map BlockKey Block
  pub labels : Map VolumeKey (List ℕ)

-- the state in which there is nothing
abbrev pub empty : State
empty = record { made = λ k. false; sealed = λ k. false; files = λ k. false; blocks = λ k. None; labels = λ k. None }

-- ---- counts

-- the sum over the numbers below n
abbrev pub sum_below : ℕ → (ℕ → ℕ) → ℕ
sum_below zero f = 0
sum_below (suc n) f = sum_below n f + f n

-- how many numbers below n pass the test
abbrev pub count_below : ℕ → (ℕ → Bool) → ℕ
count_below n passes = sum_below n (λ i. if passes i then 1 else 0)

-- how many files a volume has, how many blocks, and how many blocks in one of its stripes
abbrev pub file_count : Geometry → State → ℕ → ℕ → ℕ
file_count g x a v = count_below g.files (λ f. x.files (a, v, f))

abbrev pub block_count : Geometry → State → ℕ → ℕ → ℕ
block_count g x a v = sum_below g.files (λ f. count_below g.blocks (λ b. is_some (x.blocks (a, v, f, b))))

abbrev pub blocks_in_stripe : Geometry → State → ℕ → ℕ → ℕ → ℕ
blocks_in_stripe g x a v s = sum_below g.files (λ f. count_below g.blocks (λ b. (stripe_of g f b == s) && is_some (x.blocks (a, v, f, b))))

-- the sum over all volumes
abbrev pub sum_over_volumes : Geometry → (ℕ → ℕ → ℕ) → ℕ
sum_over_volumes g f = sum_below g.aggregates (λ a. sum_below g.volumes (λ v. f a v))

-- ---- which states there are

-- All numbers are in range; only volumes that are made are sealed or have files, and each of them has a label; only files have blocks; a
-- block is `BLOCK_SIZE` bytes and a label `LABEL_SIZE`; and no stripe has more blocks than its quota.
pub record IsState (g : Geometry) (x : State) : Type 0 where
  pub made : (k : VolumeKey) → x.made k ≡ true → (k.0 < g.aggregates) × (k.1 < g.volumes)
  pub sealed : (k : VolumeKey) → x.sealed k ≡ true → x.made k ≡ true
  pub files : (k : FileKey) → x.files k ≡ true → (k.2 < g.files) × (x.made (k.0, k.1) ≡ true)
  pub blocks : (k : BlockKey) → is_some (x.blocks k) ≡ true → (k.3 < g.blocks) × (x.files (k.0, k.1, k.2) ≡ true)
  pub labels : (k : VolumeKey) → is_some (x.labels k) ≡ x.made k
  pub content : (k : BlockKey) → IfSome (x.blocks k) IsBlock
  pub label_content : (k : VolumeKey) → IfSome (x.labels k) (AreSizedBytes LABEL_SIZE)
  pub quota : (a v s : ℕ) → blocks_in_stripe g x a v s ≤ g.quota
