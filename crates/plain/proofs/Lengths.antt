-- The length of a map whose keys are all in range, and what its values are worth, as a sum of its look-ups.
use Rattle.std.proofs.lemmas.Grind.{common_steps}
use Rattle.std.proofs.Common.{◌≡◌, ℕ, zero, suc, ◌+◌, ◌<◌, Bool, true, false, cond, List, [], ◌∷◌, length, refl, ap, sym, ◌∙◌, arith}
use Rattle.std.specs.Prelude.{◌&&◌, ◌||◌, ◌==◌, Option, None, Some, is_some}
use Rattle.std.specs.List.{AllByRecursion, list_any, IsDistinct}
use Rattle.std.specs.Map.{lookup, keys_of, values_of}
use Rattle.std.specs.Ordering.{eq_by_cmp}
use Rattle.std.specs.BTreeMap as map
use Rattle.std.specs.BTreeMap.{BTreeMap, is_at}
use Rattle.std.proofs.lemmas.Bool.{or_left, or_right}
use Rattle.std.proofs.lemmas.Map.Keys.{IsDistinct-from_sorted, IsDistinct-head, IsDistinct-tail}
use Rattle.std.proofs.lemmas.Map.Made.{is_some-lookup}
use Rattle.std.proofs.lemmas.Map.Entries.{length-keys_of}
use Rattle.affinity.specs.declared.geometry.Geometry.{Geometry}
use Rattle.meaning.specs.State.{VolumeKey, FileKey, BlockKey, sum_below, is_volume, is_file, is_block}
use Rattle.meaning.specs.KeyOrders.{volume_order, block_order}
use Rattle.meaning.proofs.Keys.{at_volume, at_block, the_volume, the_block, picks_volume, picks_block}
use Rattle.plain.proofs.Walks.{total}
use Rattle.meaning.proofs.Sums.{sum_same, sum_below-add, sum_zero, sum_pick, one_if}

-- ---- a list of keys, by a sum over all keys that are in range

-- a sum over the keys in range: it adds up, and each key in range is in it once
record IsWhole {K : Type 0} (same : K → K → Bool) (IsIn : K → Type 0) (whole : (K → ℕ) → ℕ) : Type 0 where
  pub nothing : whole (λ k. 0) ≡ 0
  pub adds : (f h : K → ℕ) → whole (λ k. f k + h k) ≡ whole f + whole h
  pub once : (e : K) → IsIn e → whole (λ k. one_if (same k e)) ≡ 1
  pub itself : (k : K) → same k k ≡ true
  pub exact : (j k : K) → same j k ≡ true → j ≡ k

module _ {K : Type 0} (same : K → K → Bool) (IsIn : K → Type 0) (whole : (K → ℕ) → ℕ) (w : IsWhole same IsIn whole) where
  absent : (k : K) (ks : List K) → AllByRecursion (λ j. same k j ≡ false) ks → list_any (same k) ks ≡ false
  absent k [] h = refl
  absent k (j ∷ ks) h = (λ i. h.0 i || list_any (same k) ks) ∙ absent k ks h.1

  -- a key in front is one more
  in_front : (e : K) (ks : List K) → AllByRecursion (λ j. same e j ≡ false) ks → (k : K) → one_if (same k e || list_any (same k) ks) ≡ one_if (same k e) + one_if (list_any (same k) ks)
  in_front e ks apart k = elim (same k e) as (λ t. same k e ≡ t → one_if (t || list_any (same k) ks) ≡ one_if t + one_if (list_any (same k) ks)) [
    | false ↦ λ other. omega arith
    | true ↦ λ is. let none = ap one_if (ap (λ j. list_any (same j) ks) (w.exact k e is) ∙ absent e ks apart) in omega (arith, none)
  ] refl

  counted : (ks : List K) → IsDistinct same ks → ((k : K) → list_any (same k) ks ≡ true → IsIn k) → whole (λ k. one_if (list_any (same k) ks)) ≡ length ks
  counted [] d h = w.nothing
  counted (e ∷ ks) d h =
      let front : whole (λ k. one_if (same k e || list_any (same k) ks))
      ≡ whole (λ k. one_if (same k e) + one_if (list_any (same k) ks)) = λ i. whole (λ k. in_front e ks (IsDistinct-head same e ks d) k i) in
      let split = w.adds (λ k. one_if (same k e)) (λ k. one_if (list_any (same k) ks)) in
      let one = w.once e (h e (or_left (same e e) (list_any (same e) ks) (w.itself e))) in
      let rest = counted ks (IsDistinct-tail same e ks d) (λ k is. h k (or_right (same k e) (list_any (same k) ks) is)) in
      omega (arith, front, split, one, rest)

-- the worth of what a look-up found, 0 where it found nothing
abbrev pub found_worth : {X : Type 0} → (X → ℕ) → Option X → ℕ
found_worth worth None = 0
found_worth worth (Some x) = worth x

module _ {K : Type 0} (same : K → K → Bool) (IsIn : K → Type 0) (whole : (K → ℕ) → ℕ) (w : IsWhole same IsIn whole) where
  -- a number at one key, and 0 at the others
  abbrev at_key : K → ℕ → K → ℕ
  at_key e n k = cond (same k e) n 0

  at_one : (e : K) → IsIn e → (n : ℕ) → whole (at_key e n) ≡ n
  at_one e h zero = grind (arith, common_steps)
  at_one e h (suc n) =
      let split : whole (at_key e (suc n)) ≡ whole (λ k. one_if (same k e) + at_key e n k) = λ i. whole (λ k. more (same k e) i) in
      let adds = w.adds (λ k. one_if (same k e)) (at_key e n) in
      let one = w.once e h in
      let rest = at_one e h n in
      omega (arith, split, adds, one, rest)
    where
      more : (t : Bool) → cond t (suc n) 0 ≡ one_if t + cond t n 0
      more true = omega arith
      more false = omega arith

  module _ {X : Type 0} (worth : X → ℕ) where
    none_found : (k : K) (es : List (K × X)) → AllByRecursion (λ j. same k j ≡ false) (keys_of es) → found_worth worth (lookup (same k) es) ≡ 0
    none_found k [] h = refl
    none_found k (e ∷ es) h = (λ i. found_worth worth (cond (h.0 i) (Some e.1) (lookup (same k) es))) ∙ none_found k es h.1

    entry_in_front : (e : K × X) (es : List (K × X)) → AllByRecursion (λ j. same e.0 j ≡ false) (keys_of es) → (k : K)
        → found_worth worth (cond (same k e.0) (Some e.1) (lookup (same k) es)) ≡ at_key e.0 (worth e.1) k + found_worth worth (lookup (same k) es)
    entry_in_front e es apart k = elim (same k e.0) as (λ t. same k e.0 ≡ t
        → found_worth worth (cond t (Some e.1) (lookup (same k) es)) ≡ cond t (worth e.1) 0 + found_worth worth (lookup (same k) es)) [
          | false ↦ λ other. omega arith
          | true ↦ λ is. let none = ap (λ j. found_worth worth (lookup (same j) es)) (w.exact k e.0 is) ∙ none_found e.0 es apart in omega (arith, none)
        ] refl

    weighed : (es : List (K × X)) → IsDistinct same (keys_of es) → ((k : K) → list_any (same k) (keys_of es) ≡ true → IsIn k)
        → whole (λ k. found_worth worth (lookup (same k) es)) ≡ total worth (values_of es)
    weighed [] d h = w.nothing
    weighed (e ∷ es) d h =
        let front : whole (λ k. found_worth worth (cond (same k e.0) (Some e.1) (lookup (same k) es)))
        ≡ whole (λ k. at_key e.0 (worth e.1) k + found_worth worth (lookup (same k) es))
        = λ i. whole (λ k. entry_in_front e es (IsDistinct-head same e.0 (keys_of es) d) k i) in
        let split = w.adds (at_key e.0 (worth e.1)) (λ k. found_worth worth (lookup (same k) es)) in
        let one = at_one e.0 (h e.0 (or_left (same e.0 e.0) (list_any (same e.0) (keys_of es)) (w.itself e.0))) (worth e.1) in
        let rest = weighed es (IsDistinct-tail same e.0 (keys_of es) d) (λ k is. h k (or_right (same k e.0) (list_any (same k) (keys_of es)) is)) in
        omega (arith, front, split, one, rest)

-- ---- the keys of a server

abbrev pub sum_over_volumes : Geometry → (VolumeKey → ℕ) → ℕ
sum_over_volumes g f = sum_below g.aggregates (λ a. sum_below g.volumes (λ v. f (a, v)))

abbrev pub over_blocks : Geometry → (BlockKey → ℕ) → ℕ
over_blocks g f = sum_below g.aggregates (λ a. sum_below g.volumes (λ v. sum_below g.files (λ n. sum_below g.blocks (λ b. f (a, v, n, b)))))

abbrev pub IsVolumeIn : Geometry → VolumeKey → Type 0
IsVolumeIn g k = (k.0 < g.aggregates) × (k.1 < g.volumes)

abbrev pub IsFileIn : Geometry → FileKey → Type 0
IsFileIn g k = (k.0 < g.aggregates) × (k.1 < g.volumes) × (k.2 < g.files)

abbrev pub IsBlockIn : Geometry → BlockKey → Type 0
IsBlockIn g k = (k.0 < g.aggregates) × (k.1 < g.volumes) × (k.2 < g.files) × (k.3 < g.blocks)

module _ (g : Geometry) where
  one_volume : (e : VolumeKey) → IsVolumeIn g e → sum_over_volumes g (λ k. one_if (is_volume k.0 k.1 e)) ≡ 1
  one_volume e h = sum_same g.aggregates _ _ (λ a. sum_pick g.volumes e.1 h.1 (a == e.0)) ∙ sum_pick g.aggregates e.0 h.0 true

  one_file : (e : FileKey) → IsFileIn g e → sum_below g.aggregates (λ a. sum_below g.volumes (λ v. sum_below g.files (λ f. one_if (is_file a v f e)))) ≡ 1
  one_file e h = sum_same g.aggregates _ _ (λ a. sum_same g.volumes _ _ (λ v. sum_pick g.files e.2 h.2 ((a == e.0) && (v == e.1)))) ∙ one_volume (e.0, e.1) (h.0, h.1)

  one_block : (e : BlockKey) → IsBlockIn g e → over_blocks g (λ k. one_if (is_block k.0 k.1 k.2 k.3 e)) ≡ 1
  one_block e h = sum_same g.aggregates _ _ (λ a. sum_same g.volumes _ _
      (λ v. sum_same g.files _ _ (λ f. sum_pick g.blocks e.3 h.3 ((a == e.0) && (v == e.1) && (f == e.2)))))
      ∙ one_file (e.0, e.1, e.2) (h.0, h.1, h.2)

  volumes : IsWhole (eq_by_cmp volume_order) (IsVolumeIn g) (sum_over_volumes g)
  volumes = record {
    nothing = sum_same g.aggregates _ _ (λ a. sum_zero g.volumes) ∙ sum_zero g.aggregates;
    adds = λ f h. sum_same g.aggregates _ _ (λ a. sum_below-add g.volumes (λ v. f (a, v)) (λ v. h (a, v))) ∙ sum_below-add g.aggregates _ _;
    once = λ e h. (λ i. sum_over_volumes g (λ k. one_if (at_volume k.0 k.1 e i))) ∙ one_volume e h;
    itself = λ k. at_volume k.0 k.1 k ∙ picks_volume k.0 k.1;
    exact = λ j k e. the_volume j.0 j.1 k (sym (at_volume j.0 j.1 k) ∙ e);
  }

  blocks : IsWhole (eq_by_cmp block_order) (IsBlockIn g) (over_blocks g)
  blocks = record {
    nothing = sum_same g.aggregates _ _ (λ a. sum_same g.volumes _ _ (λ v. sum_same g.files _ _ (λ f. sum_zero g.blocks) ∙ sum_zero g.files) ∙ sum_zero g.volumes) ∙ sum_zero g.aggregates;
    adds = λ f h. sum_same g.aggregates _ _ (λ a. sum_same g.volumes _ _
        (λ v. sum_same g.files _ _ (λ n. sum_below-add g.blocks (λ b. f (a, v, n, b)) (λ b. h (a, v, n, b))) ∙ sum_below-add g.files _ _)
        ∙ sum_below-add g.volumes _ _) ∙ sum_below-add g.aggregates _ _;
    once = λ e h. (λ i. over_blocks g (λ k. one_if (at_block k.0 k.1 k.2 k.3 e i))) ∙ one_block e h;
    itself = λ k. at_block k.0 k.1 k.2 k.3 k ∙ picks_block k.0 k.1 k.2 k.3;
    exact = λ j k e. the_block j.0 j.1 j.2 j.3 k (sym (at_block j.0 j.1 j.2 j.3 k) ∙ e);
  }

  -- a map of volumes and one of blocks have as many keys as look-ups that find something
  pub volumes_length : {X : Type 0} (m : BTreeMap VolumeKey X) → map.IsOrdered volume_order m → ((k : VolumeKey) → is_some (map.get volume_order m k) ≡ true → IsVolumeIn g k)
      → sum_over_volumes g (λ k. one_if (is_some (map.get volume_order m k))) ≡ map.btree_map_len m
  volumes_length m o h =
      (λ i. sum_over_volumes g (λ k. one_if (is_some-lookup (is_at (volume_order k)) m.entries i)))
      ∙ counted (eq_by_cmp volume_order) (IsVolumeIn g) (sum_over_volumes g) volumes (map.keys m)
      (IsDistinct-from_sorted volume_order (map.keys m) o) (λ k e. h k (is_some-lookup (is_at (volume_order k)) m.entries ∙ e))
      ∙ length-keys_of m.entries

  pub blocks_length : {X : Type 0} (m : BTreeMap BlockKey X) → map.IsOrdered block_order m → ((k : BlockKey) → is_some (map.get block_order m k) ≡ true → IsBlockIn g k)
      → over_blocks g (λ k. one_if (is_some (map.get block_order m k))) ≡ map.btree_map_len m
  blocks_length m o h =
      (λ i. over_blocks g (λ k. one_if (is_some-lookup (is_at (block_order k)) m.entries i)))
      ∙ counted (eq_by_cmp block_order) (IsBlockIn g) (over_blocks g) blocks (map.keys m)
      (IsDistinct-from_sorted block_order (map.keys m) o) (λ k e. h k (is_some-lookup (is_at (block_order k)) m.entries ∙ e))
      ∙ length-keys_of m.entries

  -- what the values of a map of volumes are worth adds up to what is found at each key
  pub volumes_worth : {X : Type 0} (worth : X → ℕ) (m : BTreeMap VolumeKey X) → map.IsOrdered volume_order m → ((k : VolumeKey) → is_some (map.get volume_order m k) ≡ true → IsVolumeIn g k)
      → sum_over_volumes g (λ k. found_worth worth (map.get volume_order m k)) ≡ total worth (map.values m)
  volumes_worth worth m o h =
      weighed (eq_by_cmp volume_order) (IsVolumeIn g) (sum_over_volumes g) volumes worth m.entries (IsDistinct-from_sorted volume_order (map.keys m) o)
      (λ k e. h k (is_some-lookup (is_at (volume_order k)) m.entries ∙ e))
