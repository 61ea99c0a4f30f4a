-- What a piece of a state is made of: states that agree there have the same piece.
use Rattle.std.proofs.Common.{◌≡◌, ℕ, zero, suc, ◌+◌, Bool, true, false, ◌&&◌, List, [], Option, None, refl, sym, ◌∙◌, ap}
use Rattle.std.specs.Prelude.{◌==◌, if◌then◌else◌}
use Rattle.std.proofs.lemmas.Bool.{eqb-true}
use Rattle.std.proofs.Math.Bool.{and-true}
use Rattle.affinity.specs.Geometry.{stripe_of}
use Rattle.affinity.specs.declared.geometry.Geometry.{Geometry}
use Rattle.protocol.specs.declared.messages.Block.{Block}
use Rattle.meaning.specs.State.{State}
use Rattle.stripe.specs.Entries.{stripe_bytes}
use Rattle.image.specs.Pieces.{piece_of, part_piece, aggregate_of, volume_of, part_of, volume_piece_number, stripe_piece_number, has_volume, volume_piece, stripe_piece, stripe_entries, entry_if, joined_below, has_file_in, block_in, decoded_by}
use Rattle.image.proofs.PieceNumbers.{number_there}

no_entry_if : (p : Bool) (f b : ℕ) (o : Option Block) → entry_if (p && false) f b o ≡ []
no_entry_if true f b o = refl
no_entry_if false f b o = refl

pub no_entry_of_none : (p : Bool) (f b : ℕ) → entry_if p f b None ≡ []
no_entry_of_none true f b = refl
no_entry_of_none false f b = refl

-- the entries of a stripe, by what there is of each block that lies in it
pub entries_same : (g : Geometry) (x y : State) (a v s : ℕ) → ((f b : ℕ) → stripe_of g f b ≡ s → entry_if (x.files (a, v, f)) f b (x.blocks (a, v, f, b))
    ≡ entry_if (y.files (a, v, f)) f b (y.blocks (a, v, f, b)))
    → stripe_entries g x a v s ≡ stripe_entries g y a v s
entries_same g x y a v s same = λ i. joined_below g.files (λ f. joined_below g.blocks (λ b. each f b (stripe_of g f b == s) refl i))
  where
    -- a block that lies in the stripe has the same entry, and one that lies in another has none on either side
    each : (f b : ℕ) (t : Bool) → (stripe_of g f b == s) ≡ t → entry_if (x.files (a, v, f) && t) f b (x.blocks (a, v, f, b)) ≡ entry_if (y.files (a, v, f) && t) f b (y.blocks (a, v, f, b))
    each f b true on =
        ap (λ (t : Bool). entry_if t f b (x.blocks (a, v, f, b))) (and-true (x.files (a, v, f))) ∙ same f b (eqb-true (stripe_of g f b) s on)
        ∙ sym (ap (λ (t : Bool). entry_if t f b (y.blocks (a, v, f, b))) (and-true (y.files (a, v, f))))
    each f b false off = no_entry_if (x.files (a, v, f)) f b (x.blocks (a, v, f, b)) ∙ sym (no_entry_if (y.files (a, v, f)) f b (y.blocks (a, v, f, b)))

-- ---- what pieces decode to

module _ (version : ℕ) (g : Geometry) (ps qs : ℕ → List ℕ) where
  volume_same : (a v : ℕ) → ps (volume_piece_number g a v) ≡ qs (volume_piece_number g a v)
      → volume_piece version g (decoded_by version g ps) a v ≡ volume_piece version g (decoded_by version g qs) a v
  volume_same a v same = ap (λ (l : List ℕ). volume_piece version g (decoded_by version g (λ j. l)) a v) same

  stripe_same : (a v s : ℕ) → ps (volume_piece_number g a v) ≡ qs (volume_piece_number g a v) → ps (stripe_piece_number g a v s) ≡ qs (stripe_piece_number g a v s)
      → stripe_piece g (decoded_by version g ps) a v s ≡ stripe_piece g (decoded_by version g qs) a v s
  stripe_same a v s first here =
      ap (stripe_bytes g.quota)
      (entries_same g (decoded_by version g ps) (decoded_by version g qs) a v s
      (λ f b on i. entry_if (has_volume g (a, v) && has_file_in (first i) f) f b (if has_volume g (a, v) then block_in g (its_piece f b on i) f b else None)))
    where
      -- the piece from which a block of this stripe is decoded
      its_piece : (f b : ℕ) → stripe_of g f b ≡ s → ps (stripe_piece_number g a v (stripe_of g f b)) ≡ qs (stripe_piece_number g a v (stripe_of g f b))
      its_piece f b on = ap (λ (j : ℕ). ps (stripe_piece_number g a v j)) on ∙ here ∙ sym (ap (λ (j : ℕ). qs (stripe_piece_number g a v j)) on)

  -- a piece depends on what it and its volume's piece decode to
  pub piece_same : (n : ℕ) → ps (volume_piece_number g (aggregate_of g n) (volume_of g n)) ≡ qs (volume_piece_number g (aggregate_of g n) (volume_of g n)) → ps n ≡ qs n
      → piece_of version g (decoded_by version g ps) n ≡ piece_of version g (decoded_by version g qs) n
  piece_same n first here = by (part_of g n) refl
    where
      by : (p : ℕ) → part_of g n ≡ p → part_piece version g (decoded_by version g ps) (aggregate_of g n) (volume_of g n) p
          ≡ part_piece version g (decoded_by version g qs) (aggregate_of g n) (volume_of g n) p
      by zero part = volume_same (aggregate_of g n) (volume_of g n) first
      by (suc s) part =
          let number : stripe_piece_number g (aggregate_of g n) (volume_of g n) s ≡ n =
          sym (ap (λ (p : ℕ). volume_piece_number g (aggregate_of g n) (volume_of g n) + p) part) ∙ number_there g n in
          stripe_same (aggregate_of g n) (volume_of g n) s first (ap ps number ∙ here ∙ sym (ap qs number))
