-- Worked examples of the definitions.
use Rattle.std.proofs.Common.{lit≤, ◌≡◌, true, false, [], ◌∷◌, map, refl}
use Rattle.affinity.specs.Geometry.{default_geometry, stripe_of}
use Rattle.affinity.proofs.GeometryLemmas.{small}
use Rattle.affinity.specs.Interval.{interval}
use Rattle.affinity.specs.Kind.{number_count}
use Rattle.affinity.specs.declared.geometry.Geometry.{Geometry}
use Rattle.affinity.specs.Path.{are_related, serial, aggregate, volume, logical, stripe, label}
use Rattle.affinity.specs.Place.{is_in_range, path_of_kind}
use Rattle.affinity.specs.declared.kinds.Kind.TheVariants.{MakeVol, DropVol, Create, Delete, Seal, Unseal, Write, Punch, Read, List as ListFiles, Usage, Summary, SetLabel, Label}
use Rattle.affinity.specs.declared.limits.TheConstants.{MOST_AGGREGATES, MOST_VOLUMES, MOST_STRIPES, MOST_WIDTH, MOST_FILES, MOST_BLOCKS, MOST_QUOTA, LEAST_RECORDS, MOST_RECORDS, MOST_WORKERS, MOST_SLOTS, VOLUME_AFFINITIES, AGGREGATE_AFFINITIES, MOST_AFFINITIES, MOST_PIECES}

-- the stripes of some blocks, at the small geometry and at the default one
first_block : stripe_of small 0 0 ≡ 0
first_block = refl

second_block : stripe_of small 0 1 ≡ 1
second_block = refl

second_file : stripe_of small 1 0 ≡ 1
second_file = refl

end_of_run : stripe_of default_geometry 0 3 ≡ 0
end_of_run = refl

next_run : stripe_of default_geometry 0 4 ≡ 1
next_run = refl

round_again : stripe_of default_geometry 3 7 ≡ 0
round_again = refl

-- in range or not: a number that the kind has must be below its limit, one that it doesn't have may be anything
block_behind : is_in_range small Write (0 ∷ 0 ∷ 0 ∷ 4 ∷ []) ≡ false
block_behind = refl

last_block : is_in_range small Write (0 ∷ 0 ∷ 1 ∷ 3 ∷ []) ≡ true
last_block = refl

file_unused : is_in_range small Seal (0 ∷ 0 ∷ 9 ∷ 9 ∷ []) ≡ true
file_unused = refl

file_behind : is_in_range small Create (0 ∷ 0 ∷ 2 ∷ 0 ∷ []) ≡ false
file_behind = refl

all_unused : is_in_range small Summary (9 ∷ 9 ∷ 9 ∷ 9 ∷ []) ≡ true
all_unused = refl

-- how many of the four numbers each kind has
numbers_of_kinds :
    map number_count (MakeVol ∷ DropVol ∷ Create ∷ Delete ∷ Seal ∷ Unseal ∷ Write ∷ Punch ∷ Read ∷ ListFiles ∷ Usage ∷ Summary ∷ SetLabel ∷ Label ∷ [])
    ≡ 2 ∷ 2 ∷ 3 ∷ 3 ∷ 2 ∷ 2 ∷ 4 ∷ 4 ∷ 4 ∷ 2 ∷ 2 ∷ 0 ∷ 2 ∷ 2 ∷ []
numbers_of_kinds = refl

-- where a message of each kind belongs, on a server of two aggregates with two volumes each
abbrev two_of_each : Geometry
two_of_each = record small {
  aggregates = 2;
  volumes = 2;
  aggregates_range = (lit≤ tt, lit≤ tt);
  volumes_range = (lit≤ tt, lit≤ tt);
}

place_of_makevol : path_of_kind two_of_each MakeVol (1 ∷ 0 ∷ 9 ∷ 9 ∷ []) ≡ aggregate 1
place_of_makevol = refl

place_of_dropvol : path_of_kind two_of_each DropVol (0 ∷ 1 ∷ 9 ∷ 9 ∷ []) ≡ aggregate 0
place_of_dropvol = refl

place_of_create : path_of_kind two_of_each Create (0 ∷ 1 ∷ 1 ∷ 9 ∷ []) ≡ logical 0 1
place_of_create = refl

place_of_delete : path_of_kind two_of_each Delete (1 ∷ 0 ∷ 1 ∷ 9 ∷ []) ≡ logical 1 0
place_of_delete = refl

place_of_seal : path_of_kind two_of_each Seal (0 ∷ 1 ∷ 9 ∷ 9 ∷ []) ≡ volume 0 1
place_of_seal = refl

place_of_unseal : path_of_kind two_of_each Unseal (1 ∷ 0 ∷ 9 ∷ 9 ∷ []) ≡ volume 1 0
place_of_unseal = refl

place_of_write : path_of_kind two_of_each Write (0 ∷ 1 ∷ 1 ∷ 2 ∷ []) ≡ stripe 0 1 1
place_of_write = refl

place_of_punch : path_of_kind two_of_each Punch (1 ∷ 0 ∷ 0 ∷ 3 ∷ []) ≡ stripe 1 0 1
place_of_punch = refl

place_of_read : path_of_kind two_of_each Read (1 ∷ 1 ∷ 1 ∷ 3 ∷ []) ≡ stripe 1 1 0
place_of_read = refl

place_of_list : path_of_kind two_of_each ListFiles (1 ∷ 0 ∷ 9 ∷ 9 ∷ []) ≡ logical 1 0
place_of_list = refl

place_of_usage : path_of_kind two_of_each Usage (0 ∷ 1 ∷ 9 ∷ 9 ∷ []) ≡ volume 0 1
place_of_usage = refl

place_of_summary : path_of_kind two_of_each Summary (9 ∷ 9 ∷ 9 ∷ 9 ∷ []) ≡ serial
place_of_summary = refl

place_of_setlabel : path_of_kind two_of_each SetLabel (0 ∷ 1 ∷ 9 ∷ 9 ∷ []) ≡ label 0 1
place_of_setlabel = refl

place_of_label : path_of_kind two_of_each Label (1 ∷ 0 ∷ 9 ∷ 9 ∷ []) ≡ label 1 0
place_of_label = refl

-- which affinities are related: a label is unrelated to the files and blocks of its volume, and related to the volume itself
label_beside_files : are_related (label 0 0) (logical 0 0) ≡ false
label_beside_files = refl

label_beside_blocks : are_related (stripe 0 0 1) (label 0 0) ≡ false
label_beside_blocks = refl

label_under_volume : are_related (label 0 0) (volume 0 0) ≡ true
label_under_volume = refl

stripes_apart : are_related (stripe 0 0 0) (stripe 0 0 1) ≡ false
stripes_apart = refl

same_stripe : are_related (stripe 0 0 1) (stripe 0 0 1) ≡ true
same_stripe = refl

serial_above_all : are_related (stripe 0 0 1) serial ≡ true
serial_above_all = refl

aggregates_apart : are_related (aggregate 0) (volume 1 0) ≡ false
aggregates_apart = refl

-- the numbers of a small server's affinities, and of some of a larger one
serial_numbers : interval small serial ≡ record { number = 0; end = 7 }
serial_numbers = refl

aggregate_numbers : interval small (aggregate 0) ≡ record { number = 1; end = 7 }
aggregate_numbers = refl

volume_numbers : interval small (volume 0 0) ≡ record { number = 2; end = 7 }
volume_numbers = refl

logical_numbers : interval small (logical 0 0) ≡ record { number = 3; end = 6 }
logical_numbers = refl

first_stripe_numbers : interval small (stripe 0 0 0) ≡ record { number = 4; end = 5 }
first_stripe_numbers = refl

second_stripe_numbers : interval small (stripe 0 0 1) ≡ record { number = 5; end = 6 }
second_stripe_numbers = refl

label_numbers : interval small (label 0 0) ≡ record { number = 6; end = 7 }
label_numbers = refl

last_volume_numbers : interval two_of_each (volume 1 1) ≡ record { number = 18; end = 23 }
last_volume_numbers = refl

last_label_numbers : interval two_of_each (label 1 1) ≡ record { number = 22; end = 23 }
last_label_numbers = refl

-- ---- the limits, and what follows from them
most_aggregates : MOST_AGGREGATES ≡ 4
most_aggregates = refl

most_volumes : MOST_VOLUMES ≡ 8
most_volumes = refl

most_stripes : MOST_STRIPES ≡ 8
most_stripes = refl

most_width : MOST_WIDTH ≡ 64
most_width = refl

most_files : MOST_FILES ≡ 64
most_files = refl

most_blocks : MOST_BLOCKS ≡ 256
most_blocks = refl

most_quota : MOST_QUOTA ≡ 64
most_quota = refl

least_records : LEAST_RECORDS ≡ 4
least_records = refl

most_records : MOST_RECORDS ≡ 1024
most_records = refl

most_workers : MOST_WORKERS ≡ 64
most_workers = refl

most_slots : MOST_SLOTS ≡ 1024
most_slots = refl

volume_affinities : VOLUME_AFFINITIES ≡ 11
volume_affinities = refl

aggregate_affinities : AGGREGATE_AFFINITIES ≡ 89
aggregate_affinities = refl

most_affinities : MOST_AFFINITIES ≡ 357
most_affinities = refl

most_pieces : MOST_PIECES ≡ 288
most_pieces = refl
