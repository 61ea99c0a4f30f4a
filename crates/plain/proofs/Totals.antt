-- The totals that `plain` keeps of a volume and of the whole server are those of the state, and fit in their integers.
use Rattle.std.proofs.Common.{◌≡◌, ℕ, ◌*◌, ◌^◌, ◌<◌, ◌≤◌, true, refl, ap, sym, ◌∙◌, arith}
use Rattle.std.specs.Prelude.{if◌then◌else◌, None, Some, count_ones}
use Rattle.std.specs.BTreeMap as map
use Rattle.std.proofs.lemmas.Nat.{mul-le}
use Rattle.affinity.specs.declared.geometry.Geometry.{Geometry}
use Rattle.protocol.specs.declared.messages.Block.{Block}
use Rattle.protocol.specs.Replies.{has_file}
use Rattle.plain.specs.declared.server.Server.{Server}
use Rattle.plain.specs.declared.server.Volume.{Volume}
use Rattle.meaning.specs.State.{State, Map, VolumeKey, BlockKey, IsState, sum_below, count_below, file_count, block_count, sum_over_volumes}
use Rattle.meaning.specs.Step.{file_bits}
use Rattle.meaning.specs.KeyOrders.{volume_order, block_order}
use Rattle.plain.specs.Server.{server_state, state_of, volume_has_file}
use Rattle.meaning.proofs.FileBits.{few_bits}
use Rattle.meaning.proofs.FileNumber.{number_within, below_within, count_within}
use Rattle.meaning.proofs.Sums.{one_if-le, sum_same, sum_zero, one_if}
use Rattle.meaning.proofs.Counts.{file_count-le, block_count-le, sum_over_volumes-le}
use Rattle.plain.proofs.Walks.{total}
use Rattle.plain.proofs.Lengths.{found_worth, volumes_length, volumes_worth, blocks_length}

-- ---- one volume

-- how many files a volume has
abbrev pub file_number : Volume → ℕ
file_number w = count_ones w.files

pub blocks-few_in_volume : (g : Geometry) (x : State) (a v : ℕ) → block_count g x a v ≤ 16384
blocks-few_in_volume g x a v =
    let few = block_count-le g x a v in
    let range : g.files * g.blocks ≤ 64 * 256 = mul-le g.files g.blocks 64 256 g.files_range.1 g.blocks_range.1 in
    omega arith

-- what a volume of this state has as its files
module _ (g : Geometry) (volumes : Map VolumeKey Volume) (blocks : Map BlockKey Block) (is : IsState g (state_of volumes blocks)) (a v : ℕ) where
  within : {w : Volume} → volumes (a, v) ≡ Some w → (f : ℕ) → has_file w.files f ≡ true → f < g.files
  within there f has = (is.files (a, v, f) (ap (λ o. volume_has_file o f) there ∙ has)).0

  -- its files, as a set of bits, fit in 64
  pub files_fit : {w : Volume} → volumes (a, v) ≡ Some w → w.files < 2 ^ 64
  files_fit {w} there = few_bits g.files w.files (below_within g.files w.files (within there)) g.files_range.1

  pub listed : {w : Volume} → volumes (a, v) ≡ Some w → file_bits g (state_of volumes blocks) a v ≡ w.files
  listed {w} there = ap (λ o. sum_below g.files (λ f. if volume_has_file o f then 2 ^ f else 0)) there ∙ number_within g.files w.files (within there)

  pub none_listed : volumes (a, v) ≡ None → file_bits g (state_of volumes blocks) a v ≡ 0
  none_listed none = ap (λ o. sum_below g.files (λ f. if volume_has_file o f then 2 ^ f else 0)) none ∙ sum_zero g.files

  pub files_counted : {w : Volume} → volumes (a, v) ≡ Some w → file_count g (state_of volumes blocks) a v ≡ count_ones w.files
  files_counted {w} there = ap (λ o. count_below g.files (volume_has_file o)) there ∙ count_within g.files w.files (within there)

  pub none_counted : volumes (a, v) ≡ None → file_count g (state_of volumes blocks) a v ≡ 0
  none_counted none = ap (λ o. count_below g.files (volume_has_file o)) none ∙ sum_zero g.files

  -- the number of files of the volume, or 0 if there is no volume, is the state's file count
  pub files_found : found_worth file_number (volumes (a, v)) ≡ file_count g (state_of volumes blocks) a v
  files_found = elim (volumes (a, v)) as (λ o. volumes (a, v) ≡ o → found_worth file_number o ≡ file_count g (state_of volumes blocks) a v) [
    | None ↦ λ none. sym (none_counted none)
    | Some w ↦ λ there. sym (files_counted there)
  ] refl

-- ---- the whole server

small : (g : Geometry) (c : ℕ) → g.aggregates * (g.volumes * c) ≤ 4 * (8 * c)
small g c = mul-le g.aggregates (g.volumes * c) 4 (8 * c) g.aggregates_range.1 (mul-le g.volumes c 8 c g.volumes_range.1 (omega arith))

module _ (g : Geometry) (server : Server) (is : IsState g (server_state server)) where
  pub volumes_total : map.IsOrdered volume_order server.volumes → map.btree_map_len server.volumes ≡ sum_over_volumes g (λ a v. one_if ((server_state server).made (a, v)))
  volumes_total ordered = sym (volumes_length g server.volumes ordered is.made)

  pub files_total : map.IsOrdered volume_order server.volumes → total file_number (map.values server.volumes) ≡ sum_over_volumes g (file_count g (server_state server))
  files_total ordered = sym (volumes_worth g file_number server.volumes ordered is.made)
      ∙ sum_same g.aggregates _ _ (λ a. sum_same g.volumes _ _ (λ v. files_found g (map.get volume_order server.volumes) (map.get block_order server.blocks) is a v))

  pub blocks_total : map.IsOrdered block_order server.blocks → map.btree_map_len server.blocks ≡ sum_over_volumes g (block_count g (server_state server))
  blocks_total ordered = sym (blocks_length g server.blocks ordered (λ k has.
      let there = is.blocks k has in
      let file = is.files (k.0, k.1, k.2) there.1 in
      let volume = is.made (k.0, k.1) file.1 in
      (volume.0, volume.1, file.0, there.0)))

pub volumes-few : (g : Geometry) (x : State) → sum_over_volumes g (λ a v. one_if (x.made (a, v))) < 2 ^ 32
volumes-few g x = let most = sum_over_volumes-le g 1 (λ a v. one_if (x.made (a, v))) (λ a v. one_if-le (x.made (a, v))) in let range = small g 1 in omega arith

pub files-few : (g : Geometry) (x : State) → sum_over_volumes g (file_count g x) < 2 ^ 32
files-few g x =
    let most = sum_over_volumes-le g 64 (file_count g x) (λ a v. let few = file_count-le g x a v in let range = g.files_range in omega arith) in
    let range = small g 64 in
    omega arith

pub blocks-few : (g : Geometry) (x : State) → sum_over_volumes g (block_count g x) < 2 ^ 32
blocks-few g x =
    let most = sum_over_volumes-le g 16384 (block_count g x) (blocks-few_in_volume g x) in
    let range = small g 16384 in
    omega arith
