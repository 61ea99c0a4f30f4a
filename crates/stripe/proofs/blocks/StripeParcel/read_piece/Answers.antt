-- What was read so far, with what comes next.
use Rattle.std.proofs.Common.{◌≡◌, ◌*◌, ◌+◌, ◌-◌, ◌<◌, ℕ, suc, List, [], ◌∷◌, ◌++◌, length, take, drop, get_or, arith, ap, sym, ◌∙◌, subst}
use Rattle.std.specs.Prelude.{◌==◌}
use Rattle.std.specs.List.{list_all}
use Rattle.std.proofs.lemmas.List.{get_or-drop, length-append, take_rest}
use Rattle.device_map.specs.declared.layout.TheConstants.{BLOCK_ENTRY_SIZE}
use Rattle.stripe.specs.Entries.{entry_in, IsNextEntry}
use Rattle.stripe.specs.Stripe.{BlockEntry, StripePart}
use Rattle.stripe.proofs.EntriesRead.{HasRead, zeros_behind, are_zeros, next_read, is_next, zeros_by_test, test_of_zeros}
use Rattle.stripe.proofs.blocks.StripeParcel.read_piece.Goals as goal

-- the first byte of what is left
first_left : (bytes : List ℕ) (at : ℕ) → get_or (drop at bytes) 0 0 ≡ get_or bytes at 0
first_left bytes at = get_or-drop at bytes 0 0 ∙ (let same : at + 0 ≡ at = omega arith in ap (λ (k : ℕ). get_or bytes k 0) same)

pub returns-then-bytes-at-ne1-clause-good : goal.returns-then-bytes-at-ne1-clause-good
returns-then-bytes-at-ne1-clause-good c is =
    let bytes : List ℕ = c.args.bytes.now in
    let at : ℕ = c.loop-n.n * BLOCK_ENTRY_SIZE in
    let few : c.loop-n.n < c.args.g.now.quota = subst (λ (k : ℕ). c.loop-n.n < k) c.from-n-end.ensures c.loop-n-test.true in
    let zeros = zeros_by_test (drop at bytes) (sym (ap (λ (l : List ℕ). list_all (λ byte. byte == 0) l) (take_rest bytes at)) ∙ sym c.are_zeros.ensures ∙ is) in
    let done = zeros_behind c.args.g.now c.args.files c.args.s bytes c.requires.size c.loop-n.n few c.loop-n.self.entries c.loop-n.invariant.read
    (λ marked. c.if-bytes-at-ne1.true (sym (first_left bytes at) ∙ marked)) zeros in
    (done.0, λ i. record { quota = c.loop-n.invariant.quota i; entries = done.1 i })

pub returns-then-bytes-at-ne1-clause-bad : goal.returns-then-bytes-at-ne1-clause-bad
returns-then-bytes-at-ne1-clause-bad c off is = grind (arith, are_zeros, first_left, take_rest, test_of_zeros)

-- an entry as the loop cuts it out
one_row : (bytes : List ℕ) (at : ℕ) → take (at + BLOCK_ENTRY_SIZE - at) (drop at bytes) ≡ take BLOCK_ENTRY_SIZE (drop at bytes)
one_row bytes at = let width : at + BLOCK_ENTRY_SIZE - at ≡ BLOCK_ENTRY_SIZE = omega arith in ap (λ (k : ℕ). take k (drop at bytes)) width

pub returns-then-not-push-clause-bad : goal.returns-then-not-push-clause-bad
returns-then-not-push-clause-bad c off is = grind (arith, is_next, first_left, one_row)

pub loop-n-preserved : goal.loop-n-preserved
loop-n-preserved c =
    let bytes : List ℕ = c.args.bytes.now in
    let at : ℕ = c.loop-n.n * BLOCK_ENTRY_SIZE in
    let few : c.loop-n.n < c.args.g.now.quota = subst (λ (k : ℕ). c.loop-n.n < k) c.from-n-end.ensures c.loop-n-test.true in
    let pushed = c.push.ensures.pushed c.if-not-push.false in
    let e : BlockEntry = entry_in (take BLOCK_ENTRY_SIZE (drop at bytes)) in
    let entries_are : c.push.new.self.entries ≡ c.loop-n.self.entries ++ e ∷ [] =
    ap (λ (p : StripePart). p.entries) pushed.1 ∙ ap (λ (row : List ℕ). c.loop-n.self.entries ++ entry_in row ∷ []) (one_row bytes at) in
    let next = subst (IsNextEntry c.args.g.now c.args.files c.args.s c.loop-n.self.entries) (one_row bytes at) pushed.0 in
    let read = next_read c.args.g.now c.args.files c.args.s bytes c.requires.size c.loop-n.n few c.loop-n.self.entries c.loop-n.invariant.read (first_left bytes at ∙ c.if-bytes-at-ne1.false) next in
    let more : suc c.loop-n.n ≡ c.loop-n.n + 1 = omega arith in record {
      quota = ap (λ (p : StripePart). p.quota) pushed.1 ∙ c.loop-n.invariant.quota;
      count = ap length entries_are ∙ length-append c.loop-n.self.entries (e ∷ []) ∙ ap (λ (k : ℕ). k + 1) c.loop-n.invariant.count;
      read = subst (λ (k : ℕ). HasRead c.args.g.now c.args.files c.args.s bytes c.push.new.self.entries k) more
          (subst (λ (es : List BlockEntry). HasRead c.args.g.now c.args.files c.args.s bytes es (suc c.loop-n.n)) (sym entries_are) read);
    }
