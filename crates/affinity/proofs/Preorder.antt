-- The numbers of affinities follow the tree: the interval of an affinity contains the number of another exactly where the other is the
-- same affinity or lies below it.
use Rattle.std.proofs.lemmas.Grind.{common_steps}
use Rattle.std.proofs.Common.{◌≡◌, ℕ, zero, suc, ◌+◌, ◌*◌, ◌<◌, ◌≤◌, Bool, ◌&&◌, nat_lt, [], ◌∷◌, refl, arith, ◌==◌, subst, ◌∙◌, sym, ap, false}
use Rattle.std.specs.Prelude.{nat_le, ◌||◌, ◌-◌, ◌/◌, ◌%◌, if◌then◌else◌}
use Rattle.std.proofs.lemmas.Bool.{cases_order}
use Rattle.std.proofs.lemmas.Bool.Decides.{nat_tests}
use Rattle.std.proofs.lemmas.Nat.{row_fits}
use Rattle.affinity.specs.Path.{Path, is_prefix, are_related, serial, aggregate, volume, logical, stripe, label, IsPath}
use Rattle.affinity.specs.Interval.{IsAffinityOf, Interval, interval, contains, preorder_number, subtree_size, volume_number, volume_size, aggregate_size, affinity_count}
use Rattle.affinity.specs.declared.geometry.Geometry.{Geometry}

-- ---- among the paths of one volume

in_volume : (g : Geometry) (a v : ℕ) (p q : Path) → IsPath g (a ∷ v ∷ p) → IsPath g (a ∷ v ∷ q) → is_prefix p q ≡ contains (interval g (a ∷ v ∷ p)) (preorder_number g (a ∷ v ∷ q))
in_volume g a v (zero ∷ s ∷ x ∷ p) q h k = absurd h
in_volume g a v (suc zero ∷ x ∷ p) q h k = absurd h
in_volume g a v (suc (suc n) ∷ p) q h k = absurd h
in_volume g a v p (zero ∷ t ∷ x ∷ q) h k = absurd k
in_volume g a v p (suc zero ∷ x ∷ q) h k = absurd k
in_volume g a v p (suc (suc n) ∷ q) h k = absurd k
in_volume g a v _ _ h k = grind (arith, nat_tests)

-- an interval lies in another: `count` numbers from `first` on, at least one, are among the `space` numbers from `from` on
pub record FitsIn (from space : ℕ) (first count : ℕ) : Type 0 where
  pub low : from ≤ first
  pub some : 0 < count
  pub high : first + count ≤ from + space

fits_in_volume : (g : Geometry) (a v : ℕ) (p : Path) → IsPath g (a ∷ v ∷ p) → FitsIn (volume_number g a v) (volume_size g) (preorder_number g (a ∷ v ∷ p)) (subtree_size g (a ∷ v ∷ p))
fits_in_volume g a v (zero ∷ s ∷ x ∷ p) h = absurd h
fits_in_volume g a v (suc zero ∷ x ∷ p) h = absurd h
fits_in_volume g a v (suc (suc n) ∷ p) h = absurd h
fits_in_volume g a v _ h = record { low = omega arith; some = omega arith; high = omega arith }

-- ---- among children of one size

-- the child with a smaller number ends before the other one begins
earlier : (v w e : ℕ) → v < w → v * e + e ≤ w * e
earlier v w e h = row_fits v e w e h (omega arith)

children : (base v w other : ℕ) {e first count : ℕ} {r : Bool} → FitsIn (base + v * e) e first count → base + w * e ≤ other → other < base + w * e + e
    → (v ≡ w → r ≡ (nat_le first other && nat_lt other (first + count))) → ((v == w) && r) ≡ (nat_le first other && nat_lt other (first + count))
children base v w other {e} {first} {count} {r} fits low high same = grind (arith, common_steps, nat_tests, earlier, cases_order)

-- ---- among the paths of one aggregate

among_volumes : (g : Geometry) (a v w : ℕ) (p q : Path) → IsPath g (a ∷ v ∷ p) → IsPath g (a ∷ w ∷ q) → is_prefix (v ∷ p) (w ∷ q) ≡ contains (interval g (a ∷ v ∷ p)) (preorder_number g (a ∷ w ∷ q))
among_volumes g a v w p q h k =
    let fits = fits_in_volume g a w q k in
    let same : v ≡ w → is_prefix p q ≡ contains (interval g (a ∷ v ∷ p)) (preorder_number g (a ∷ w ∷ q)) =
    λ e. subst (λ (x : ℕ). IsPath g (a ∷ x ∷ q) → is_prefix p q ≡ contains (interval g (a ∷ v ∷ p)) (preorder_number g (a ∷ x ∷ q))) e (in_volume g a v p q h) k in
    children (2 + a * aggregate_size g) v w (preorder_number g (a ∷ w ∷ q)) (fits_in_volume g a v p h) fits.low (omega arith) same

-- the numbers of a path's aggregate and volume are below their limits
pub volume_there : (g : Geometry) (a v : ℕ) (p : Path) → IsPath g (a ∷ v ∷ p) → (a < g.aggregates) × (v < g.volumes)
volume_there g a v (zero ∷ s ∷ []) h = (h.0, h.1)
volume_there g a v (zero ∷ s ∷ x ∷ p) h = absurd h
volume_there g a v (suc zero ∷ x ∷ p) h = absurd h
volume_there g a v (suc (suc n) ∷ p) h = absurd h
volume_there g a v _ h = h

pub aggregate_there : (g : Geometry) (a : ℕ) (p : Path) → IsPath g (a ∷ p) → a < g.aggregates
aggregate_there g a [] h = h
aggregate_there g a (v ∷ p) h = (volume_there g a v p h).0

fits_in_aggregate : (g : Geometry) (a : ℕ) (p : Path) → IsPath g (a ∷ p) → FitsIn (1 + a * aggregate_size g) (aggregate_size g) (preorder_number g (a ∷ p)) (subtree_size g (a ∷ p))
fits_in_aggregate g a [] h = record { low = omega arith; some = omega arith; high = omega arith }
fits_in_aggregate g a (v ∷ p) h =
    let fits = fits_in_volume g a v p h in
    let space : v * volume_size g + volume_size g ≤ g.volumes * volume_size g = earlier v g.volumes (volume_size g) (volume_there g a v p h).1 in
    record { low = omega arith; some = omega arith; high = omega arith }

in_aggregate : (g : Geometry) (a : ℕ) (p q : Path) → IsPath g (a ∷ p) → IsPath g (a ∷ q) → is_prefix p q ≡ contains (interval g (a ∷ p)) (preorder_number g (a ∷ q))
in_aggregate g a [] q h k = let fits = fits_in_aggregate g a q k in grind (arith, nat_tests)
in_aggregate g a (v ∷ p) [] h k = let fits = fits_in_volume g a v p h in grind (arith, nat_tests)
in_aggregate g a (v ∷ p) (w ∷ q) h k = among_volumes g a v w p q h k

-- ---- among all paths of a server

among_aggregates : (g : Geometry) (a b : ℕ) (p q : Path) → IsPath g (a ∷ p) → IsPath g (b ∷ q) → is_prefix (a ∷ p) (b ∷ q) ≡ contains (interval g (a ∷ p)) (preorder_number g (b ∷ q))
among_aggregates g a b p q h k =
    let fits = fits_in_aggregate g b q k in
    let same : a ≡ b → is_prefix p q ≡ contains (interval g (a ∷ p)) (preorder_number g (b ∷ q)) =
    λ e. subst (λ (x : ℕ). IsPath g (x ∷ q) → is_prefix p q ≡ contains (interval g (a ∷ p)) (preorder_number g (x ∷ q))) e (in_aggregate g a p q h) k in
    children 1 a b (preorder_number g (b ∷ q)) (fits_in_aggregate g a p h) fits.low (omega arith) same

fits_in_server : (g : Geometry) (p : Path) → IsPath g p → FitsIn 0 (affinity_count g) (preorder_number g p) (subtree_size g p)
fits_in_server g [] h = record { low = omega arith; some = omega arith; high = omega arith }
fits_in_server g (a ∷ p) h =
    let fits = fits_in_aggregate g a p h in
    let space : a * aggregate_size g + aggregate_size g ≤ g.aggregates * aggregate_size g = earlier a g.aggregates (aggregate_size g) (aggregate_there g a p h) in
    record { low = omega arith; some = omega arith; high = omega arith }

-- A path begins another one exactly where its interval contains the other's number.
pub is_prefix-contains : (g : Geometry) (p q : Path) → IsPath g p → IsPath g q → is_prefix p q ≡ contains (interval g p) (preorder_number g q)
is_prefix-contains g [] q h k = let fits = fits_in_server g q k in grind (arith, nat_tests)
is_prefix-contains g (a ∷ p) [] h k = let fits = fits_in_aggregate g a p h in grind (arith, nat_tests)
is_prefix-contains g (a ∷ p) (b ∷ q) h k = among_aggregates g a b p q h k

-- Affinities are related as their paths are.
pub are_related-contains : (g : Geometry) (p q : Path) (a b : Interval) → IsAffinityOf g p a → IsAffinityOf g q b → (contains a b.number || contains b a.number) ≡ are_related p q
are_related-contains g p q a b h k = grind (arith, common_steps, is_prefix-contains)

-- ---- back from a number to its path

pub in_volume_at : Geometry → ℕ → ℕ → ℕ → Path
in_volume_at g a v r = if r == 0 then volume a v else (if r == 1 then logical a v else (if nat_lt r (2 + g.stripes) then stripe a v (r - 2) else label a v))

pub in_aggregate_at : Geometry → ℕ → ℕ → Path
in_aggregate_at g a r = if r == 0 then aggregate a else in_volume_at g a ((r - 1) / volume_size g) ((r - 1) % volume_size g)

-- the path with a number
pub path_at : Geometry → ℕ → Path
path_at g n = if n == 0 then serial else in_aggregate_at g ((n - 1) / aggregate_size g) ((n - 1) % aggregate_size g)

-- the number that is n above a node's own lies in the subtree of its child `child`, at offset `rest`; each child's subtree has w numbers
pub record Splits (w child rest n : ℕ) : Type 0 where
  pub more : (n == 0) ≡ false
  pub child_is : (n - 1) / w ≡ child
  pub rest_is : (n - 1) % w ≡ rest

splits : (w child rest n : ℕ) → rest < w → n ≡ 1 + child * w + rest → Splits w child rest n
splits w child rest n h e = grind (arith, common_steps)

in_aggregate_at-volume : (g : Geometry) (a v r : ℕ) → r < volume_size g → in_aggregate_at g a (1 + v * volume_size g + r) ≡ in_volume_at g a v r
unfolding in_aggregate_at
in_aggregate_at-volume g a v r h =
    let s = splits (volume_size g) v r (1 + v * volume_size g + r) h refl in
    rw (s.more, s.child_is, s.rest_is) refl

path_at-aggregate : (g : Geometry) (a r : ℕ) → r < aggregate_size g → path_at g (1 + a * aggregate_size g + r) ≡ in_aggregate_at g a r
unfolding path_at
path_at-aggregate g a r h =
    let s = splits (aggregate_size g) a r (1 + a * aggregate_size g + r) h refl in
    rw (s.more, s.child_is, s.rest_is) refl

in_volume_at-offset : (g : Geometry) (a v : ℕ) (p : Path) → IsPath g (a ∷ v ∷ p) → (r : ℕ) → preorder_number g (a ∷ v ∷ p) ≡ volume_number g a v + r → in_volume_at g a v r ≡ a ∷ v ∷ p
unfolding in_volume_at
in_volume_at-offset g a v [] h r e = let zero_is : r ≡ 0 = omega arith in rw zero_is refl
in_volume_at-offset g a v (zero ∷ []) h r e = let one_is : r ≡ 1 = omega arith in rw one_is refl
in_volume_at-offset g a v (zero ∷ s ∷ []) h r e = grind (arith, common_steps)
in_volume_at-offset g a v (suc zero ∷ []) h r e = grind (arith, common_steps)
in_volume_at-offset g a v _ h r e = absurd h

in_aggregate_at-offset : (g : Geometry) (a : ℕ) (p : Path) → IsPath g (a ∷ p) → (r : ℕ) → preorder_number g (a ∷ p) ≡ 1 + a * aggregate_size g + r → in_aggregate_at g a r ≡ a ∷ p
unfolding in_aggregate_at
in_aggregate_at-offset g a [] h r e = let zero_is : r ≡ 0 = omega arith in rw zero_is refl
in_aggregate_at-offset g a (v ∷ p) h r e =
    let fits = fits_in_volume g a v p h in
    let rest : ℕ = preorder_number g (a ∷ v ∷ p) - volume_number g a v in
    let r_is : r ≡ 1 + v * volume_size g + rest = omega arith in
    let less : rest < volume_size g = omega arith in
    let number_is : preorder_number g (a ∷ v ∷ p) ≡ volume_number g a v + rest = omega arith in
    rw r_is (in_aggregate_at-volume g a v rest less) ∙ in_volume_at-offset g a v p h rest number_is

path_at-zero : (g : Geometry) → path_at g 0 ≡ serial
unfolding path_at
path_at-zero g = refl

-- From a path's number `path_at` finds that path.
pub path_at-number : (g : Geometry) (p : Path) → IsPath g p → path_at g (preorder_number g p) ≡ p
path_at-number g [] h = path_at-zero g
path_at-number g (a ∷ p) h =
    let fits = fits_in_aggregate g a p h in
    let rest : ℕ = preorder_number g (a ∷ p) - (1 + a * aggregate_size g) in
    let number_is : preorder_number g (a ∷ p) ≡ 1 + a * aggregate_size g + rest = omega arith in
    let less : rest < aggregate_size g = omega arith in
    ap (path_at g) number_is ∙ path_at-aggregate g a rest less ∙ in_aggregate_at-offset g a p h rest number_is

-- An affinity has one path.
pub path_unique : (g : Geometry) (p q : Path) (a : Interval) → IsAffinityOf g p a → IsAffinityOf g q a → p ≡ q
path_unique g p q a h k =
    sym (path_at-number g p h.path)
    ∙ ap (path_at g) (sym (ap (λ i. i.number) h.interval) ∙ ap (λ i. i.number) k.interval)
    ∙ path_at-number g q k.path

-- ---- from a number to its path, by the steps of `Affinity::place`

-- if q is the path that is found from the number of affinity a, then a is the affinity at q
pub found : (g : Geometry) (n : ℕ) (a : Interval) (q : Path) → ((p : Path) × IsAffinityOf g p a) → n ≡ a.number → path_at g n ≡ q → IsAffinityOf g q a
found g n a q h e at = grind (arith, common_steps, path_at, path_at-number)

pub path_at-in_aggregate : (g : Geometry) (n d : ℕ) → (n ≡ 0 → ⊥) → d ≡ aggregate_size g → path_at g n ≡ in_aggregate_at g ((n - 1) / d) ((n - 1) % d)
unfolding path_at
path_at-in_aggregate g n d h e = let more : (n == 0) ≡ false = grind (arith, nat_tests) in rw (e, more) refl

pub in_aggregate_at-self : (g : Geometry) (a r : ℕ) → r ≡ 0 → in_aggregate_at g a r ≡ aggregate a
unfolding in_aggregate_at
in_aggregate_at-self g a r e = rw e refl

in_aggregate_at-in_volume : (g : Geometry) (a r e : ℕ) → (r ≡ 0 → ⊥) → e ≡ volume_size g → in_aggregate_at g a r ≡ in_volume_at g a ((r - 1) / e) ((r - 1) % e)
unfolding in_aggregate_at
in_aggregate_at-in_volume g a r e h k = let more : (r == 0) ≡ false = grind (arith, nat_tests) in rw (k, more) refl

pub path_at-in_volume : (g : Geometry) (n d e : ℕ) → (n ≡ 0 → ⊥) → d ≡ aggregate_size g → ((n - 1) % d ≡ 0 → ⊥) → e ≡ volume_size g
    → path_at g n ≡ in_volume_at g ((n - 1) / d) (((n - 1) % d - 1) / e) (((n - 1) % d - 1) % e)
path_at-in_volume g n d e not_serial size not_aggregate size' =
    path_at-in_aggregate g n d not_serial size ∙ in_aggregate_at-in_volume g ((n - 1) / d) ((n - 1) % d) e not_aggregate size'

pub in_volume_at-self : (g : Geometry) (a v r : ℕ) → r ≡ 0 → in_volume_at g a v r ≡ volume a v
unfolding in_volume_at
in_volume_at-self g a v r e = rw e refl

pub in_volume_at-logical : (g : Geometry) (a v r : ℕ) → r ≡ 1 → in_volume_at g a v r ≡ logical a v
unfolding in_volume_at
in_volume_at-logical g a v r e = rw e refl

pub in_volume_at-stripe : (g : Geometry) (a v r : ℕ) → (r ≡ 0 → ⊥) → (r ≡ 1 → ⊥) → r < 2 + g.stripes → in_volume_at g a v r ≡ stripe a v (r - 2)
unfolding in_volume_at
in_volume_at-stripe g a v r h k l = grind (arith, common_steps)

pub in_volume_at-label : (g : Geometry) (a v r : ℕ) → 2 + g.stripes ≤ r → in_volume_at g a v r ≡ label a v
unfolding in_volume_at
in_volume_at-label g a v r h = grind (arith, common_steps)
