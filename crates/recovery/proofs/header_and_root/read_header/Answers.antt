-- A refusal is for the first test that the bytes fail: the length, the magic, the geometry, or the length for that geometry.
use Rattle.std.proofs.Common.{not, Some, length, take, inr, sym, ◌∙◌, ap, arith, ℕ, List}
use Rattle.std.proofs.lemmas.Bool.{cond-true, lt-ltb, not-false, true≢false}
use Rattle.std.proofs.lemmas.List.{take-take}
use Rattle.std.proofs.lemmas.Slice.Eq.{bytes_eq-Decides}
use Rattle.std.specs.Prelude.{nat_lt}
use Rattle.recovery.specs.Header.{magic}
use Rattle.recovery.specs.declared.fault.OpenFault.TheVariants.{TooShort}
use Rattle.device_map.specs.Layout.{device_size, layout_of}
use Rattle.recovery.proofs.header_and_root.read_header.Goals as goal

pub returns-then-ne-clause-refused : goal.returns-then-ne-clause-refused
returns-then-ne-clause-refused g c = λ k.
    let marks = ap (λ (l : List ℕ). take 8 l) (c.in_ok-read_bytes.ensures.bytes k) ∙ take-take 8 64 (g.D.Disk.medium c.args.disk.now).now (omega arith) in (
      omega (arith, c.if-len.false, c.len.ensures),
      λ are. true≢false (c.if-ne.ensures {u = tt} ∙ ap not ((bytes_eq-Decides (take 8 c.read_bytes.new.out) magic).1 (marks ∙ are))),
    )

pub returns-in_default-clause-refused : goal.returns-in_default-clause-refused
returns-in_default-clause-refused g c = λ k.
    let marks = ap (λ (l : List ℕ). take 8 l) (c.in_ok-read_bytes.ensures.bytes k) ∙ take-take 8 64 (g.D.Disk.medium c.args.disk.now).now (omega arith) in (
      omega (arith, c.if-len.false, c.len.ensures),
      sym marks ∙ (bytes_eq-Decides (take 8 c.read_bytes.new.out) magic).0 (not-false _ (sym (c.if-ne.ensures {u = tt}))),
      λ h is. c.in_default.ensures.none h (c.in_ok-read_bytes.ensures.bytes k ∙ is),
    )

pub returns-then-len-device_len-clause-refused : goal.returns-then-len-device_len-clause-refused
returns-then-len-device_len-clause-refused g c = λ k.
    let now = (g.D.Disk.medium c.args.disk.now).now in
    inr (record {
      geometry = c.in-Some.g;
      long = omega (arith, c.if-len.false, c.len.ensures);
      header = sym (c.in_ok-read_bytes.ensures.bytes k) ∙ c.in-Some.ensures.some;
      is = cond-true (nat_lt (length now) (device_size (layout_of c.in-Some.g))) (Some TooShort) _
          (lt-ltb (length now) (device_size (layout_of c.in-Some.g)) (omega (arith, c.if-len-device_len.true, c.len-2.ensures, c.device_len.ensures, c.read_bytes.ensures.call.len)));
    })
