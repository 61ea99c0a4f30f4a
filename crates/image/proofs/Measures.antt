-- How long the pieces of a state are, where what it has is of the right size.
use Rattle.std.proofs.Common.{◌≡◌, ℕ, zero, suc, ◌*◌, ◌-◌, ◌<◌, ◌≤◌, Bool, true, false, ◌&&◌, List, length, replicate, IfSome, Option, Some, None, refl, arith, length-append}
use Rattle.std.specs.Prelude.{◌==◌}
use Rattle.std.specs.List.{AllByRecursion, flat_map}
use Rattle.std.proofs.lemmas.List.{length-replicate}
use Rattle.affinity.specs.Geometry.{stripe_of}
use Rattle.affinity.specs.declared.geometry.Geometry.{Geometry}
use Rattle.device_map.specs.declared.layout.TheConstants.{BLOCK_ENTRY_SIZE}
use Rattle.protocol.specs.declared.sizes.TheConstants.{LABEL_SIZE}
use Rattle.protocol.specs.Messages.{IsBlock, AreSizedBytes}
use Rattle.protocol.specs.declared.messages.Block.{Block}
use Rattle.stripe.specs.Stripe.{BlockEntry}
use Rattle.affinity.proofs.Elements.{all_join}
use Rattle.meaning.specs.State.{State, VolumeKey, BlockKey, IsState, sum_below, blocks_in_stripe}
use Rattle.stripe.specs.Entries.{entry_bytes, stripe_bytes}
use Rattle.image.specs.Pieces.{joined_below, entry_if, stripe_entries, volume_piece, label_bytes, part_piece, piece_part_size, piece_of, piece_size, part_of, aggregate_of, volume_of}
use Rattle.stripe.proofs.EntryBytes.{IsSpellable, length-entries}

-- Blocks and labels are of their size, and no stripe has more than its quota, whatever else holds of the state.
pub record IsMeasured (g : Geometry) (x : State) : Type 0 where
  pub content : (k : BlockKey) → IfSome (x.blocks k) IsBlock
  pub label_content : (k : VolumeKey) → IfSome (x.labels k) (AreSizedBytes LABEL_SIZE)
  pub quota : (a v s : ℕ) → length (stripe_entries g x a v s) ≤ g.quota

-- ---- lists of the numbers below n

pub all_joined : {X : Type 0} (P : X → Type 0) (n : ℕ) (f : ℕ → List X) → ((i : ℕ) → i < n → AllByRecursion P (f i)) → AllByRecursion P (joined_below n f)
all_joined P zero f each = tt
all_joined P (suc n) f each = all_join P (joined_below n f) (f n) (all_joined P n f (λ i below. each i (omega (arith, below)))) (each n (omega arith))

pub length-joined : {X : Type 0} (n : ℕ) (f : ℕ → List X) (size : ℕ → ℕ) → ((i : ℕ) → i < n → length (f i) ≡ size i) → length (joined_below n f) ≡ sum_below n size
length-joined zero f size each = refl
length-joined (suc n) f size each = omega (arith, length-append (joined_below n f) (f n), length-joined n f size (λ i below. each i (omega (arith, below))), each n (omega arith))

length-joined-le : {X : Type 0} (n : ℕ) (f : ℕ → List X) (most : ℕ → ℕ) → ((i : ℕ) → length (f i) ≤ most i) → length (joined_below n f) ≤ sum_below n most
length-joined-le zero f most each = omega arith
length-joined-le (suc n) f most each = omega (arith, length-append (joined_below n f) (f n), length-joined-le n f most each, each n)

-- ---- the entries of a stripe

pub entries_most : (g : Geometry) (x : State) (a v s : ℕ) → length (stripe_entries g x a v s) ≤ blocks_in_stripe g x a v s
entries_most g x a v s = grind (arith, length-joined-le)

good_entry : (g : Geometry) (p : Bool) (f b : ℕ) (o : Option Block) → b < g.blocks → IfSome o IsBlock → AllByRecursion IsSpellable (entry_if p f b o)
good_entry g true f b (Some content) below is = let most = g.blocks_range.1 in (record { long = is.0; small = omega (arith, below, most) }, tt)
good_entry g true f b None below is = tt
good_entry g false f b o below is = tt

pub entries_good : (g : Geometry) (x : State) → IsMeasured g x → (a v s : ℕ) → AllByRecursion IsSpellable (stripe_entries g x a v s)
entries_good g x is a v s =
    all_joined IsSpellable g.files _
    (λ f in_files.
    all_joined IsSpellable g.blocks _ (λ b below. good_entry g (x.files (a, v, f) && (stripe_of g f b == s)) f b (x.blocks (a, v, f, b)) below (is.content (a, v, f, b))))

pub state_is_measured : (g : Geometry) (x : State) → IsState g x → IsMeasured g x
state_is_measured g x is = record {
  content = is.content;
  label_content = is.label_content;
  quota = λ a v s. let most = entries_most g x a v s in let quota = is.quota a v s in omega (arith, most, quota);
}

-- ---- the pieces

pub length-stripe_bytes : (quota : ℕ) (es : List BlockEntry) → AllByRecursion IsSpellable es → length es ≤ quota → length (stripe_bytes quota es) ≡ quota * BLOCK_ENTRY_SIZE
length-stripe_bytes quota es good most =
    let long = length-entries es good in
    omega (
      arith,
      long,
      most,
      length-append (flat_map entry_bytes es) (replicate (quota * BLOCK_ENTRY_SIZE - length (flat_map entry_bytes es)) 0),
      length-replicate {A = ℕ} (quota * BLOCK_ENTRY_SIZE - length (flat_map entry_bytes es)) 0,
    )

pub length-volume_piece : (version : ℕ) (g : Geometry) (x : State) → IsMeasured g x → (a v : ℕ) → length (volume_piece version g x a v) ≡ 64
length-volume_piece version g x is a v =
    grind (arith, length-append (label_bytes version (x.labels (a, v))) (replicate 16 0))

pub length-piece : (version : ℕ) (g : Geometry) (x : State) → IsMeasured g x → (n : ℕ) → length (piece_of version g x n) ≡ piece_size g n
length-piece version g x is n = by (part_of g n)
  where
    by : (p : ℕ) → length (part_piece version g x (aggregate_of g n) (volume_of g n) p) ≡ piece_part_size g p
    by zero = length-volume_piece version g x is (aggregate_of g n) (volume_of g n)
    by (suc s) = length-stripe_bytes g.quota _ (entries_good g x is (aggregate_of g n) (volume_of g n) s) (is.quota (aggregate_of g n) (volume_of g n) s)
