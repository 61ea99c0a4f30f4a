-- The number has a 1 in each bit below the number of files.
use Rattle.std.proofs.Common.{◌≡◌, ℕ, ◌-◌, ◌≤◌, ◌^◌, ◌∙◌, ap, arith}
use Rattle.std.proofs.lemmas.Nat.Bits.{ones_shr}
use Rattle.parcel.proofs.pieces.volumes.all_files.Goals as goal

pub returns : goal.returns
returns c =
    let n : ℕ = c.args.g.now.files in
    let most : n ≤ 64 = c.args.g.now.files_range.1 in
    let back : 64 - (64 - n) ≡ n = omega (arith, most) in
    ones_shr 64 (64 - n) (omega arith) ∙ ap (λ (k : ℕ). 2 ^ k - 1) back
