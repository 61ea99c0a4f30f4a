-- What a walk over the keys of one volume, in their order, adds up to.
use Rattle.std.proofs.lemmas.Grind.{common_steps}
use Rattle.std.proofs.Common.{◌≡◌, ℕ, ◌+◌, ◌<◌, Bool, true, false, cond, List, [], ◌∷◌, refl, ap, sym, ◌∙◌, subst, arith}
use Rattle.std.specs.Prelude.{◌&&◌, not, map as map_list, filter, Some, unwrap_or}
use Rattle.std.specs.Ordering.{nat_cmp, ordering_then, is_eq, is_le, eq_by_cmp}
use Rattle.std.specs.List.{AllByRecursion, IsDistinct}
use Rattle.std.specs.Map.{lookup}
use Rattle.std.specs.declared.cmp.Ordering.{Ordering}
use Rattle.std.specs.declared.cmp.Ordering.TheVariants.{Less, Equal, Greater}
use Rattle.std.specs.declared.ops.Bound.TheVariants.{Included, Excluded}
use Rattle.std.specs.BTreeMap as map
use Rattle.std.specs.BTreeMap.{is_at}
use Rattle.std.specs.BTreeMap.Range.{range_contains, entries_between}
use Rattle.std.proofs.lemmas.Bool.{true≢false, false_from_ne_true}
use Rattle.std.proofs.lemmas.Map.Keys.{IsDistinct-from_sorted, IsDistinct-head, IsDistinct-tail}
use Rattle.affinity.specs.declared.geometry.Geometry.{Geometry}
use Rattle.plain.specs.declared.server.Server.{Server}
use Rattle.meaning.specs.State.{FileKey, is_file, sum_below, block_count}
use Rattle.meaning.specs.KeyOrders.{volume_order, file_order}
use Rattle.plain.specs.Server.{server_state, HasRightCounts}
use Rattle.meaning.proofs.Keys.{at_volume, at_file, the_file, picks_volume, picks_file}
use Rattle.meaning.proofs.Counts.{block_count-by_stripe}
use Rattle.meaning.proofs.Sums.{sum_same, sum_zero, sum_below-same, sum_below_changed}

-- what the elements of a list add up to, each by its weight
abbrev pub total : {E : Type 0} → (E → ℕ) → List E → ℕ
total weight [] = 0
total weight (e ∷ es) = weight e + total weight es

-- ---- the keys from (a, v, 0) on, up to (a, v, n)

tied_not_past : (r s t : Ordering) → is_eq r ≡ true → is_le s ≡ true → is_le t ≡ false → (is_le (ordering_then r s) && not (is_le (ordering_then r t))) ≡ true
tied_not_past Less s t e from past = absurd (true≢false (sym e))
tied_not_past Equal s t e from past = λ i. from i && not (past i)
tied_not_past Greater s t e from past = absurd (true≢false (sym e))

zero_up_to : (i : ℕ) → is_le (nat_cmp 0 i) ≡ true
zero_up_to i = grind (arith, common_steps)

from_below : (n i : ℕ) → i < n → is_le (nat_cmp n i) ≡ false
from_below n i lt = grind (arith, common_steps)

module _ (a v n : ℕ) where
  abbrev pub is_between : FileKey → Bool
  is_between = range_contains file_order (Included (a, v, 0)) (Excluded (a, v, n))

  inside : (k : FileKey) → is_between k ≡ true → (◌≡◌ {A = FileKey} (a, v, k.2) k) × (k.2 < n)
  inside k e = grind (arith, common_steps)

  between : (i : ℕ) → i < n → is_between (a, v, i) ≡ true
  between i lt = tied_not_past (volume_order (a, v) (a, v)) (nat_cmp 0 i) (nat_cmp n i) (at_volume a v (a, v) ∙ picks_volume a v) (zero_up_to i) (from_below n i lt)

-- ---- the elements with those keys add up to what lies at each number below n

module _ {E : Type 0} (key : E → FileKey) (weight : E → ℕ) (a v n : ℕ) where
  -- what lies at the key (a, v, i)
  abbrev at : ℕ → List E → ℕ
  at i [] = 0
  at i (e ∷ es) = cond (is_at (file_order (a, v, i)) (key e)) (weight e) (at i es)

  nothing_at : (i : ℕ) (es : List E) → AllByRecursion (λ k. is_at (file_order (a, v, i)) k ≡ false) (map_list key es) → at i es ≡ 0
  nothing_at i [] h = refl
  nothing_at i (e ∷ es) h = ap (λ t. cond t (weight e) (at i es)) h.0 ∙ nothing_at i es h.1

  this_key : (i : ℕ) (k : FileKey) → is_at (file_order (a, v, i)) k ≡ true → ◌≡◌ {A = FileKey} (a, v, i) k
  this_key i k is = the_file a v i k (sym (at_file a v i k) ∙ is)

  walked : (es : List E) → IsDistinct (eq_by_cmp file_order) (map_list key es) → total weight (filter (λ e. is_between a v n (key e)) es) ≡ sum_below n (λ i. at i es)
  walked [] d = sym (sum_zero n)
  walked (e ∷ es) d =
      let others = filter (λ e. is_between a v n (key e)) es in
      let rest = walked es (IsDistinct-tail (eq_by_cmp file_order) (key e) (map_list key es) d) in
      elim (is_between a v n (key e)) as (λ t. is_between a v n (key e) ≡ t → total weight (cond t (e ∷ others) others) ≡ sum_below n (λ i. at i (e ∷ es))) [
        | true ↦ λ is.
            let j = (key e).2 in
            let here = inside a v n (key e) is in
            let changed = sum_below_changed n j (λ i. at i es) (λ i. at i (e ∷ es)) here.1
            (λ i ne. ap (λ t. cond t (weight e) (at i es)) (false_from_ne_true _ (λ is. ne (ap (λ k. k.2) (this_key i (key e) is))))) in
            let none = nothing_at j es (subst (λ (k : FileKey). AllByRecursion (λ d. is_at (file_order k) d ≡ false) (map_list key es)) (sym here.0)
            (IsDistinct-head (eq_by_cmp file_order) (key e) (map_list key es) d)) in
            let own : at j (e ∷ es) ≡ weight e = ap (λ t. cond t (weight e) (at j es)) (at_file a v j (key e) ∙ ap (λ k. is_file a v j k) (sym here.0) ∙ picks_file a v j) in
            omega (arith, changed, none, own, rest)
        | false ↦ λ other. rest ∙ sum_below-same n _ _ (λ i lt. sym (ap (λ t. cond t (weight e) (at i es))
            (false_from_ne_true _ (λ is. true≢false (sym (between a v n i lt) ∙ ap (is_between a v n) (this_key i (key e) is) ∙ other)))))
      ] refl

-- ---- the blocks that are noted for the stripes

in_map : (a v n i : ℕ) (es : List (FileKey × ℕ)) → at (λ (e : FileKey × ℕ). e.0) (λ (e : FileKey × ℕ). e.1) a v n i es ≡ unwrap_or (lookup (is_at (file_order (a, v, i))) es) 0
in_map a v n i [] = refl
in_map a v n i (e ∷ es) = elim (is_at (file_order (a, v, i)) e.0) as (λ t. cond t e.1
    (at (λ (e : FileKey × ℕ). e.0) (λ (e : FileKey × ℕ). e.1) a v n i es) ≡ unwrap_or (cond t (Some e.1) (lookup (is_at (file_order (a, v, i))) es)) 0) [
      | true ↦ refl
      | false ↦ in_map a v n i es
    ]

pub blocks_walked : (g : Geometry) (server : Server) (a v : ℕ) → HasRightCounts g server → map.IsOrdered file_order server.block_counts
    → total (λ (e : FileKey × ℕ). e.1) (entries_between file_order (Included (a, v, 0)) (Excluded (a, v, g.stripes)) server.block_counts.entries) ≡ block_count g (server_state server) a v
blocks_walked g server a v counted ordered =
    walked (λ (e : FileKey × ℕ). e.0) (λ (e : FileKey × ℕ). e.1) a v g.stripes server.block_counts.entries (IsDistinct-from_sorted file_order (map.keys server.block_counts) ordered)
    ∙ sum_same g.stripes _ _ (λ s. in_map a v g.stripes s server.block_counts.entries ∙ counted (a, v, s))
    ∙ sym (block_count-by_stripe g (server_state server) a v)
