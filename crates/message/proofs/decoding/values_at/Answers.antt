-- A value more is stored, and the greatest is the larger of it and the greatest before.
use Rattle.std.proofs.Common.{◌≡◌, ◌∙◌, ◌+◌, inl, inr, slice_index, sym, ap, arith}
use Rattle.std.proofs.Math.ListN.{set}
use Rattle.std.proofs.lemmas.Bool.{cases_eq, cases_lt}
use Rattle.std.proofs.lemmas.List.{get_or-set_same, get_or-set_other}
use Rattle.message.specs.Digits.{value_of}
use Rattle.message.proofs.decoding.values_at.Goals as goal

pub loop-k-preserved : goal.loop-k-preserved
loop-k-preserved c =
    let k = c.loop-k.k in
    let xs = c.loop-k.values in
    let v = c.digit_value-value.result in
    let last : slice_index (set xs k v) k ≡ v = get_or-set_same xs k v 0 (omega arith) in
    record {
      each = λ j low. elim (cases_eq j k) [
        | inl same ↦ ap (λ n. slice_index (set xs k v) n) same ∙ last ∙ c.digit_value-value.ensures ∙ ap (λ n. value_of (slice_index c.args.digits.now (c.args.at + n))) (sym same)
        | inr other ↦ get_or-set_other xs k j v 0 other ∙ c.loop-k.invariant.each j (omega (arith, low, other))
      ];
      bound = λ j low. elim (cases_eq j k) [
        | inl same ↦ omega (arith, ap (λ n. slice_index (set xs k v) n) same, last, c.max-greatest.ensures)
        | inr other ↦ omega (arith, get_or-set_other xs k j v 0 other, c.loop-k.invariant.bound j (omega (arith, low, other)), c.max-greatest.ensures)
      ];
      met = λ large. elim (cases_lt c.loop-k.greatest 16) [
        | inl below ↦ (c.args.at + k, omega arith, omega (arith, large, below, c.max-greatest.ensures, c.digit_value-value.ensures))
        | inr over ↦ c.loop-k.invariant.met over
      ];
    }
