-- Totals of volumes, added up.
use Rattle.std.proofs.Common.{◌≡◌, ℕ, ◌+◌, ◌*◌, ◌≤◌, ap, add-one, arith}
use Rattle.std.specs.Prelude.{is_some}
use Rattle.std.proofs.lemmas.Nat.{mul-le}
use Rattle.affinity.specs.declared.geometry.Geometry.{Geometry}
use Rattle.meaning.specs.State.{sum_below, count_below}
use Rattle.meaning.proofs.Sums.{one_if-le, count_below-le, sum_below-le_times}
use Rattle.parcel.specs.Totals.{totals_of, sum_totals}
use Rattle.parcel.specs.Volume.{VolumeFacts}
use Rattle.parcel.specs.declared.running.totals.Totals.{Totals}

-- a sum, one number further
pub sum_step : (n : ℕ) (h : ℕ → ℕ) → sum_below (n + 1) h ≡ sum_below n h + h n
sum_step n h = ap (λ k. sum_below k h) (add-one n)

-- at most what n volumes can hold: 64 files each, of 256 blocks
pub record IsFew (n : ℕ) (t : Totals) : Type 0 where
  pub volumes : t.volumes ≤ n
  pub files : t.files ≤ n * 64
  pub blocks : t.blocks ≤ n * 16384

pub few_of_one : (g : Geometry) (h : VolumeFacts) → IsFew 1 (totals_of g h)
few_of_one g h = record {
  volumes = one_if-le h.made;
  files = let few = count_below-le g.files h.files in let most = g.files_range.1 in omega arith;
  blocks =
      let few : sum_below g.files (λ f. count_below g.blocks (λ b. is_some (h.blocks f b))) ≤ g.files * g.blocks = sum_below-le_times g.files
      g.blocks _ (λ f lt. count_below-le g.blocks (λ b. is_some (h.blocks f b))) in
      let most : g.files * g.blocks ≤ 64 * 256 = mul-le g.files g.blocks 64 256 g.files_range.1 g.blocks_range.1 in
      omega arith;
}

pub few_of_sum : (n c : ℕ) (each : ℕ → Totals) → c ≤ 8 → ((i : ℕ) → IsFew c (each i)) → IsFew (n * 8) (sum_totals n each)
few_of_sum n c each le few = record {
  volumes = sum_below-le_times n 8 _ (λ i lt. let h = (few i).volumes in omega (arith, h, le));
  files = let most : sum_below n (λ i. (each i).files) ≤ n * 512 = sum_below-le_times n 512 _ (λ i lt. let h = (few i).files in omega (arith, h, le)) in omega (arith, most);
  blocks = let most : sum_below n (λ i. (each i).blocks) ≤ n * 131072 = sum_below-le_times n 131072 _ (λ i lt. let h = (few i).blocks in omega (arith, h, le)) in omega (arith, most);
}

-- the totals of one more number, added to the sum
pub sum_totals_step : (n : ℕ) (each : ℕ → Totals) (t u r : Totals) → t ≡ sum_totals n each → u ≡ each n → r
    ≡ record { volumes = t.volumes + u.volumes; files = t.files + u.files; blocks = t.blocks + u.blocks } → r ≡ sum_totals (n + 1) each
sum_totals_step n each t u r before here added = grind arith

pub few_of_aggregates : (g : Geometry) (n : ℕ) (facts : ℕ → ℕ → VolumeFacts) → IsFew (n * 64) (sum_totals n (λ a. sum_totals g.volumes (λ v. totals_of g (facts a v))))
few_of_aggregates g n facts = record {
  volumes = let most : sum_below n (λ a. sum_below g.volumes (λ v. (totals_of g (facts a v)).volumes)) ≤ n * 64 = sum_below-le_times n 64 _
      (λ a lt. let h = (each a).volumes in omega (arith, h, range)) in most;
  files = let most : sum_below n (λ a. sum_below g.volumes (λ v. (totals_of g (facts a v)).files)) ≤ n * 4096 = sum_below-le_times n 4096 _
      (λ a lt. let h = (each a).files in omega (arith, h, range)) in omega (arith, most);
  blocks = let most : sum_below n (λ a. sum_below g.volumes (λ v. (totals_of g (facts a v)).blocks)) ≤ n * 1048576 = sum_below-le_times n 1048576 _
      (λ a lt. let h = (each a).blocks in omega (arith, h, range)) in omega (arith, most);
}
  where
    each : (a : ℕ) → IsFew (g.volumes * 8) (sum_totals g.volumes (λ v. totals_of g (facts a v)))
    each a = few_of_sum g.volumes 1 (λ v. totals_of g (facts a v)) (omega arith) (λ v. few_of_one g (facts a v))

    range : g.volumes ≤ 8
    range = g.volumes_range.1
