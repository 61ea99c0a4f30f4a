-- The image of the empty state is a version byte and zeros.
use Rattle.std.proofs.Common.{◌≡◌, ℕ, zero, suc, ◌+◌, ◌-◌, ◌*◌, List, [], ◌∷◌, ◌++◌, length, replicate, refl, ◌∙◌, ap, arith}
use Rattle.std.proofs.lemmas.List.{replicate-append-replicate}
use Rattle.std.specs.List.{flat_map}
use Rattle.affinity.specs.declared.geometry.Geometry.{Geometry}
use Rattle.image.specs.Image.{image_of}
use Rattle.image.specs.Pieces.{joined_below, part_of, part_piece, piece_part_size, piece_count, piece_of, piece_size, aggregate_of, volume_of, stripe_entries}
use Rattle.image.proofs.JoinedPieces.{length-pieces}
use Rattle.image.specs.declared.layout.TheConstants.{VERSION}
use Rattle.device_map.specs.Layout.{image_size}
use Rattle.device_map.specs.declared.layout.TheConstants.{BLOCK_ENTRY_SIZE}
use Rattle.meaning.specs.State.{empty, sum_below}
use Rattle.stripe.specs.Entries.{entry_bytes}
use Rattle.stripe.specs.Stripe.{BlockEntry}

none_joined : {X : Type 0} (n : ℕ) (f : ℕ → List X) → ((i : ℕ) → f i ≡ []) → joined_below n f ≡ []
none_joined zero f none = refl
none_joined {X} (suc n) f none = λ i. none_joined n f none i ++ none n i

zeros_joined : (n : ℕ) (f : ℕ → List ℕ) (size : ℕ → ℕ) → ((i : ℕ) → f i ≡ replicate (size i) 0) → joined_below n f ≡ replicate (sum_below n size) 0
zeros_joined zero f size are = refl
zeros_joined (suc n) f size are = (λ i. zeros_joined n f size are i ++ are n i) ∙ replicate-append-replicate (sum_below n size) (size n) 0

no_entries : (g : Geometry) (a v s : ℕ) → stripe_entries g empty a v s ≡ []
no_entries g a v s = none_joined g.files _ (λ f. none_joined g.blocks _ (λ b. refl))

blank_part : (g : Geometry) (a v p : ℕ) → part_piece VERSION g empty a v p ≡ replicate (piece_part_size g p) 0
blank_part g a v zero = refl
blank_part g a v (suc s) =
    ap (λ (es : List BlockEntry). flat_map entry_bytes es ++ replicate (g.quota * BLOCK_ENTRY_SIZE - length (flat_map entry_bytes es)) 0) (no_entries g a v s)
    ∙ (let all : g.quota * BLOCK_ENTRY_SIZE - 0 ≡ g.quota * BLOCK_ENTRY_SIZE = omega arith in ap (λ (n : ℕ). replicate n 0) all)

pub empty_spelled : (g : Geometry) → image_of VERSION g empty ≡ VERSION ∷ replicate (image_size g - 1) 0
unfolding image_size
empty_spelled g =
    let sum : ℕ = sum_below (piece_count g) (piece_size g) in
    let pieces : joined_below (piece_count g) (piece_of VERSION g empty) ≡ replicate sum 0 =
    zeros_joined (piece_count g) (piece_of VERSION g empty) (piece_size g) (λ n. blank_part g (aggregate_of g n) (volume_of g n) (part_of g n)) in
    let long : 63 + sum ≡ 64 + g.aggregates * g.volumes * (64 + g.stripes * (g.quota * BLOCK_ENTRY_SIZE)) - 1 = omega (arith, length-pieces g) in
    ap (λ (l : List ℕ). VERSION ∷ (replicate 63 0 ++ l)) pieces
    ∙ ap (λ (l : List ℕ). VERSION ∷ l) (replicate-append-replicate 63 sum 0)
    ∙ ap (λ (n : ℕ). VERSION ∷ replicate n 0) long
