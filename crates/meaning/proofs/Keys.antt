-- The orders of the keys, and the tests that pick them.
use Rattle.std.proofs.Common.{arith, ◌≡◌, ℕ, true, false, cond, Some, None, refl, ap, sym, ◌∙◌}
use Rattle.std.specs.Prelude.{◌&&◌, ◌==◌}
use Rattle.std.specs.Ordering.{ordering_then, is_eq}
use Rattle.std.specs.declared.cmp.Ordering.{Ordering}
use Rattle.std.specs.declared.cmp.Ordering.TheVariants.{Less, Equal, Greater}
use Rattle.std.specs.Cmp.{unsigned_tied}
use Rattle.std.specs.BTreeMap.{is_at}
use Rattle.std.proofs.lemmas.Bool.{and_parts, eqb-true, eq-eqb, false_from_ne_true}
use Rattle.meaning.specs.State.{VolumeKey, FileKey, BlockKey, Map, setting, clearing, is_volume, is_file, is_block}
use Rattle.meaning.specs.KeyOrders.{volume_order, file_order, block_order}

then_eq : (r s : Ordering) → is_eq (ordering_then r s) ≡ (is_eq r && is_eq s)
then_eq Less s = refl
then_eq Equal s = refl
then_eq Greater s = refl

-- ---- a key ties in its order with the keys that its test picks

pub at_volume : (a v : ℕ) (k : VolumeKey) → is_at (volume_order (a, v)) k ≡ is_volume a v k
at_volume a v k = then_eq _ _ ∙ (λ i. unsigned_tied a k.0 i && unsigned_tied v k.1 i)

pub at_file : (a v f : ℕ) (k : FileKey) → is_at (file_order (a, v, f)) k ≡ is_file a v f k
at_file a v f k = then_eq _ _ ∙ (λ i. at_volume a v (k.0, k.1) i && unsigned_tied f k.2 i)

pub at_block : (a v f b : ℕ) (k : BlockKey) → is_at (block_order (a, v, f, b)) k ≡ is_block a v f b k
at_block a v f b k = then_eq _ _ ∙ (λ i. at_file a v f (k.0, k.1, k.2) i && unsigned_tied b k.3 i)

-- ---- a test picks one key

pub the_volume : (a v : ℕ) (k : VolumeKey) → is_volume a v k ≡ true → (a, v) ≡ k
the_volume a v k e = let p = and_parts (a == k.0) (v == k.1) e in λ i. (eqb-true a k.0 p.0 i, eqb-true v k.1 p.1 i)

pub the_file : (a v f : ℕ) (k : FileKey) → is_file a v f k ≡ true → (a, v, f) ≡ k
the_file a v f k e = grind arith

pub the_block : (a v f b : ℕ) (k : BlockKey) → is_block a v f b k ≡ true → (a, v, f, b) ≡ k
the_block a v f b k e = grind arith

pub itself : (n : ℕ) → (n == n) ≡ true
itself n = eq-eqb n n refl

pub picks_volume : (a v : ℕ) → is_volume a v (a, v) ≡ true
picks_volume a v = λ i. itself a i && itself v i

pub picks_file : (a v f : ℕ) → is_file a v f (a, v, f) ≡ true
picks_file a v f = λ i. picks_volume a v i && itself f i

pub picks_block : (a v f b : ℕ) → is_block a v f b (a, v, f, b) ≡ true
picks_block a v f b = λ i. picks_file a v f i && itself b i

pub other_file : (a v f b : ℕ) (k : BlockKey) → (k.2 ≡ f → ⊥) → is_block a v f b k ≡ false
other_file a v f b k ne = false_from_ne_true _ (λ e. ne (ap (λ (q : BlockKey). q.2) (sym (the_block a v f b k e))))

pub other_place : (a v f b : ℕ) (k : BlockKey) → (k.3 ≡ b → ⊥) → is_block a v f b k ≡ false
other_place a v f b k ne = false_from_ne_true _ (λ e. ne (ap (λ (q : BlockKey). q.3) (sym (the_block a v f b k e))))

-- ---- a set or map whose look-ups are those after an insert or a removal is the old one with the key put in or taken out

pub no_block : {X : Type 0} (m n : Map BlockKey X) (a v f b : ℕ) → ((k : BlockKey) → n k ≡ cond (is_at (block_order (a, v, f, b)) k) None (m k)) → n ≡ clearing (is_block a v f b) m
no_block m n a v f b h i k = (h k ∙ ap (λ t. cond t None (m k)) (at_block a v f b k)) i

pub one_block : {X : Type 0} (m n : Map BlockKey X) (a v f b : ℕ) (value : X)
    → ((k : BlockKey) → n k ≡ cond (is_at (block_order (a, v, f, b)) k) (Some value) (m k)) → n ≡ setting (is_block a v f b) value m
one_block m n a v f b value h i k = (h k ∙ ap (λ t. cond t (Some value) (m k)) (at_block a v f b k)) i
