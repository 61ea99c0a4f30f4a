-- Each pair of hexadecimal digits gives one byte, and the greatest value so far is 16 or more exactly if some character is no digit.
use Rattle.std.proofs.Common.{◌+◌, ◌*◌, arith, sym, ◌∙◌, inl, inr}
use Rattle.std.proofs.lemmas.List.{get_or-set_other, length-set}
use Rattle.message.proofs.DigitLoop.{byte_read, greatest_other, greatest_small, read_more}
use Rattle.message.proofs.decoding.decode_from.Goals as goal

pub loop-i-preserved : goal.loop-i-preserved
loop-i-preserved c =
    let digits = c.args.digits.now in
    let out = c.loop-i.out in
    let i = c.loop-i.i in
    let high = c.digit_value-high.ensures in
    let low = c.digit_value-low.ensures in
    let first = c.max.ensures in
    let second = c.max-greatest.ensures in
    record {
      size = length-set out i _ ∙ c.loop-i.invariant.size;
      before = λ j less. get_or-set_other out i j _ 0 (λ same. omega (arith, same, less, c.loop-i.auto.i)) ∙ c.loop-i.invariant.before j less;
      read = λ small.
          let each = greatest_small c.loop-i.greatest c.digit_value-high.result c.digit_value-low.result (rw (sym first, sym second) small) in
          let h = each.1 in
          let l = each.2 in
          read_more digits out c.args.from i _
          (rw (high, low) (byte_read digits out i (omega arith) (rw (sym high) h) (rw (sym low) l)))
          (c.loop-i.invariant.read each.0);
      other = λ great. elim (greatest_other c.loop-i.greatest c.digit_value-high.result c.digit_value-low.result (rw (sym first, sym second) great)) [
        | inl before ↦ c.loop-i.invariant.other before
        | inr here ↦ elim here [
          | inl h ↦ (2 * i, omega arith, rw (sym high) h)
          | inr l ↦ (2 * i + 1, omega arith, rw (sym low) l)
        ]
      ];
    }
