-- Each group puts its bytes behind those before it, and `decode_from` puts the bytes behind the last group.
use Rattle.std.proofs.lemmas.Grind.{common_steps}
use Rattle.std.proofs.Common.{◌≡◌, ℕ, ◌+◌, ◌*◌, ◌<◌, ⊎_elim, max, ap, arith, length, slice_index, sym, ◌∙◌, subst}
use Rattle.std.proofs.Math.Nat.{le-max_left, le-max_right}
use Rattle.message.specs.Digits.{AreDecoded, value_of}
use Rattle.message.proofs.DigitLoop.{IsGroup, decoded, group_read, not_decoded, one_other, read_both, read_still}
use Rattle.message.proofs.decoding.decode_all.Goals as goal

pub loop-n-preserved : goal.loop-n-preserved
loop-n-preserved c =
    let digits = c.args.digits.now in
    let n = c.loop-n.n in
    let most = c.max-greatest.ensures in
    let left = le-max_left c.loop-n.greatest c.values_at-most.result in
    let right = le-max_right c.loop-n.greatest c.values_at-most.result in
    record {
      size = c.put_pairs.ensures.size ∙ c.loop-n.invariant.size;
      read = λ small.
          let both : max c.loop-n.greatest c.values_at-most.result < 16 = rw (sym most) small in
          let group : IsGroup digits c.loop-n.out c.put_pairs.new.out c.values_at-most.new.values (16 * n) = record {
            each = λ k few.
                let same : 2 * 16 * n + k ≡ 2 * (16 * n) + k = omega arith in
                c.values_at-most.ensures.each k few ∙ ap (λ (i : ℕ). value_of (slice_index digits i)) same;
            small = λ k few. let at_most = c.values_at-most.ensures.bound k few in omega (arith, at_most, right, both);
            pairs = c.put_pairs.ensures.pairs;
            before = c.put_pairs.ensures.before;
          } in
          let next : 16 * n + 16 ≡ 16 * (n + 1) = omega arith in
          subst (AreDecoded digits c.put_pairs.new.out 0) next
          (group_read digits c.loop-n.out c.put_pairs.new.out c.values_at-most.new.values (16 * n) group
          (c.loop-n.invariant.read (omega (arith, left, both))));
      other = λ great. ⊎_elim c.loop-n.invariant.other c.values_at-most.ensures.met
          (one_other c.loop-n.greatest c.values_at-most.result (rw (sym most) great));
    }

pub returns-clause-digits : goal.returns-clause-digits
returns-clause-digits c = λ small.
    let digits = c.args.digits.now in
    let out = c.decode_from-most.new.out in
    let both : max c.loop-n.greatest c.decode_from-most.result < 16 = rw (sym c.max.ensures) small in
    let left = le-max_left c.loop-n.greatest c.decode_from-most.result in
    let right = le-max_right c.loop-n.greatest c.decode_from-most.result in
    let size = c.decode_from-most.ensures.size ∙ c.loop-n.invariant.size in
    decoded digits out (omega (arith, size, c.requires))
    (read_both digits out _ (length out)
    (read_still digits c.loop-n.out out _ c.decode_from-most.ensures.before
    (λ i least less. c.loop-n.invariant.read (omega (arith, left, both)) i least (omega (arith, less, c.loop-n-test.false))))
    (c.decode_from-most.ensures.read (omega (arith, right, both))))

pub returns-clause-other : goal.returns-clause-other
returns-clause-other c = grind (arith, common_steps, not_decoded, one_other)
