-- The keys of a file, or of a volume, are next to each other in the order of the keys.
use Rattle.std.proofs.lemmas.Grind.{common_steps}
use Rattle.std.proofs.Common.{◌≡◌, ℕ, true, false, List, ◌∷◌, refl, sym, ◌∙◌, subst, arith}
use Rattle.std.specs.Prelude.{is_some}
use Rattle.std.specs.Ordering.{nat_cmp, ordering_then, is_eq, is_gt}
use Rattle.std.specs.declared.cmp.Ordering.{Ordering}
use Rattle.std.specs.declared.cmp.Ordering.TheVariants.{Less, Equal, Greater}
use Rattle.std.specs.declared.ops.Bound.TheVariants.{Included, Unbounded}
use Rattle.std.specs.BTreeMap as map
use Rattle.std.specs.BTreeMap.{BTreeMap}
use Rattle.std.specs.BTreeMap.Range.{IsLeBy, IsRangeOf}
use Rattle.std.proofs.lemmas.Bool.{true≢false, false_from_ne_true}
use Rattle.meaning.specs.State.{VolumeKey, FileKey, BlockKey, is_block_of, is_block_of_file}
use Rattle.meaning.specs.KeyOrders.{file_order, block_order}
use Rattle.meaning.proofs.Keys.{at_file, the_volume, the_file}

-- ---- an order by a first part, and then by a second one

none_below_zero : (n : ℕ) → is_gt (nat_cmp 0 n) ≡ false
none_below_zero n = grind (arith, common_steps)

from_tied : (r : Ordering) (n : ℕ) → is_eq r ≡ true → is_gt (ordering_then r (nat_cmp 0 n)) ≡ false
from_tied Less n e = refl
from_tied Equal n e = none_below_zero n
from_tied Greater n e = absurd (true≢false (sym e))

-- ---- the blocks of a file

-- the first key that a file can have is at most the key of each block of the file
first_of_file : (a v f : ℕ) (q : BlockKey) → is_block_of_file a v f q ≡ true → IsLeBy block_order (a, v, f, 0) q
first_of_file a v f q e = from_tied (file_order (a, v, f) (q.0, q.1, q.2)) q.3 (at_file a v f (q.0, q.1, q.2) ∙ e)

-- a key between that first key and a block of the file is a block of the file
within_file : (a v f : ℕ) (k q : BlockKey) → IsLeBy block_order (a, v, f, 0) k → IsLeBy block_order k q → is_block_of_file a v f q ≡ true → is_block_of_file a v f k ≡ true
within_file a v f k q from to e = grind (arith, common_steps)

-- where the first key in a map from (a, v, f, 0) on is no block of the file, the file has no block in it
pub no_block_of_file : {X : Type 0} (m : BTreeMap BlockKey X) {r rest : List (BlockKey × X)} {a v f : ℕ} {k : BlockKey} {x : X}
    → IsRangeOf block_order (Included (a, v, f, 0)) Unbounded m r → r ≡ (k, x) ∷ rest
    → (◌≡◌ {A = FileKey} (a, v, f) (k.0, k.1, k.2) → ⊥) → (q : BlockKey) → is_block_of_file a v f q ≡ true → is_some (map.get block_order m q) ≡ false
no_block_of_file m {a = a} {v} {f} {k} h e other q of = false_from_ne_true _ (λ there.
    let at = subst (IsRangeOf block_order (Included (a, v, f, 0)) Unbounded m) e h in
    other (the_file a v f (k.0, k.1, k.2) (within_file a v f k q at.1.0.0 (at.2 q (first_of_file a v f q of, tt) there) of)))

-- ---- the blocks of a volume

first_of_volume : (a v : ℕ) (q : BlockKey) → is_block_of a v q ≡ true → IsLeBy block_order (a, v, 0, 0) q
first_of_volume a v q e = grind (arith, common_steps)

within_volume : (a v : ℕ) (k q : BlockKey) → IsLeBy block_order (a, v, 0, 0) k → IsLeBy block_order k q → is_block_of a v q ≡ true → is_block_of a v k ≡ true
within_volume a v k q from to e = grind (arith, common_steps)

-- where the first key in a map from (a, v, 0, 0) on is no block of the volume, the volume has no block in it
pub no_block_of_volume : {X : Type 0} (m : BTreeMap BlockKey X) {r rest : List (BlockKey × X)} {a v : ℕ} {k : BlockKey} {x : X}
    → IsRangeOf block_order (Included (a, v, 0, 0)) Unbounded m r → r ≡ (k, x) ∷ rest
    → (◌≡◌ {A = VolumeKey} (a, v) (k.0, k.1) → ⊥) → (q : BlockKey) → is_block_of a v q ≡ true → is_some (map.get block_order m q) ≡ false
no_block_of_volume m {a = a} {v} {k} h e other q of = false_from_ne_true _ (λ there.
    let at = subst (IsRangeOf block_order (Included (a, v, 0, 0)) Unbounded m) e h in
    other (the_volume a v (k.0, k.1) (within_volume a v k q at.1.0.0 (at.2 q (first_of_volume a v q of, tt) there) of)))
