-- The sizes that definitions cite, and the map of a device of a small server: one volume of two stripes that hold two blocks each, and
-- four records in a half.
use Rattle.std.proofs.Common.{◌≡◌, refl}
use Rattle.affinity.proofs.GeometryLemmas.{small}
use Rattle.device_map.specs.Layout.{image_size, layout_of, part_at, device_size, half_part, image_part}
use Rattle.device_map.specs.declared.layout.TheConstants.{HEADER_SIZE, ROOT_ZONE_SIZE, CHAIN_ZONE_SIZE, IMAGE_HEAD_SIZE, VOLUME_PIECE_SIZE, BLOCK_ENTRY_SIZE}

zones : (HEADER_SIZE ≡ 64) × (ROOT_ZONE_SIZE ≡ 64) × (CHAIN_ZONE_SIZE ≡ 64)
zones = (refl, refl, refl)

pieces : (IMAGE_HEAD_SIZE ≡ 64) × (VOLUME_PIECE_SIZE ≡ 64) × (BLOCK_ENTRY_SIZE ≡ 520)
pieces = (refl, refl, refl)

image_of_small : image_size small ≡ 2208
unfolding image_size
image_of_small = refl

size_of_small : device_size (layout_of small) ≡ 8840
unfolding image_size
size_of_small = refl

halves_of_small : (part_at (layout_of small) (half_part 0) ≡ 128) × (part_at (layout_of small) (half_part 1) ≡ 2276)
halves_of_small = (refl, refl)

images_of_small : (part_at (layout_of small) (image_part 0) ≡ 4424) × (part_at (layout_of small) (image_part 1) ≡ 6632)
unfolding image_size
images_of_small = (refl, refl)
