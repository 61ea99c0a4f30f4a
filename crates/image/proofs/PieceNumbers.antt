-- What a piece is of, by its number, and back.
use Rattle.std.proofs.Common.{◌≡◌, ℕ, ◌+◌, ◌*◌, ◌/◌, ◌%◌, ◌<◌, ◌∙◌, ap, arith, mod-lt, div-lt_iff_lt-mul, div-add-mod'}
use Rattle.std.proofs.lemmas.Nat.{div-mul-add, mod-mul-add}
use Rattle.affinity.specs.declared.geometry.Geometry.{Geometry}
use Rattle.image.specs.Pieces.{pieces_of_volume, piece_count, volume_piece_number, aggregate_of, volume_of, part_of, piece_part_size, piece_size}

module _ (g : Geometry) (a v p : ℕ) (part : p < pieces_of_volume g) where
  volume_number : (volume_piece_number g a v + p) / pieces_of_volume g ≡ a * g.volumes + v
  volume_number = div-mul-add (a * g.volumes + v) (pieces_of_volume g) p part

  pub part_there : part_of g (volume_piece_number g a v + p) ≡ p
  part_there = mod-mul-add (a * g.volumes + v) (pieces_of_volume g) p part

  pub size_there : piece_size g (volume_piece_number g a v + p) ≡ piece_part_size g p
  size_there = ap (piece_part_size g) part_there

  pub aggregate_there : v < g.volumes → aggregate_of g (volume_piece_number g a v + p) ≡ a
  aggregate_there in_volumes = ap (λ (k : ℕ). k / g.volumes) volume_number ∙ div-mul-add a g.volumes v in_volumes

  pub volume_there : v < g.volumes → volume_of g (volume_piece_number g a v + p) ≡ v
  volume_there in_volumes = ap (λ (k : ℕ). k % g.volumes) volume_number ∙ mod-mul-add a g.volumes v in_volumes

module _ (g : Geometry) (n : ℕ) where
  pub number_there : volume_piece_number g (aggregate_of g n) (volume_of g n) + part_of g n ≡ n
  number_there = ap (λ (k : ℕ). k * pieces_of_volume g + n % pieces_of_volume g) (div-add-mod' (n / pieces_of_volume g) g.volumes) ∙ div-add-mod' n (pieces_of_volume g)

  pub in_parts : part_of g n < pieces_of_volume g
  in_parts = mod-lt n (omega arith)

  pub in_volumes : volume_of g n < g.volumes
  in_volumes = mod-lt (n / pieces_of_volume g) g.volumes_range.0

  pub in_aggregates : n < piece_count g → aggregate_of g n < g.aggregates
  in_aggregates below =
      (div-lt_iff_lt-mul {k = g.volumes} {x = n / pieces_of_volume g} {y = g.aggregates} g.volumes_range.0).1
      ((div-lt_iff_lt-mul {k = pieces_of_volume g} {x = n} {y = g.aggregates * g.volumes} (omega arith)).1 below)
