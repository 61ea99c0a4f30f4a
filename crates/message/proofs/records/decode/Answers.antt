-- A record has one message: the one that its fields encode, where head and data are that message's and it is in range.
use Rattle.std.proofs.Common.{◌≡◌, Bool, List, ℕ, Some, None, ap, sym, ◌∙◌, refl}
use Rattle.std.proofs.lemmas.Bool.{true≢false}
use Rattle.std.proofs.lemmas.Option.{same_Some}
use Rattle.affinity.specs.declared.kinds.Kind.{Kind}
use Rattle.affinity.specs.declared.geometry.Geometry.{Geometry}
use Rattle.affinity.specs.Place.{is_in_range as are_in_range}
use Rattle.protocol.specs.declared.messages.Msg.{Msg}
use Rattle.protocol.specs.Messages.{kind, four_numbers, is_in_range}
use Rattle.message.specs.Records.{record_of}
use Rattle.message.proofs.RecordLemmas.{data_there, decodes_none, decodes_some, head_there, record_by_parts, whole_if_decoded, room_if_decoded}
use Rattle.message.proofs.records.decode.Goals as goal
use Rattle.message.proofs.records.decode.Goals.{else-has_head_of-via-then-has_head_of+else-has_data_of, else-has_head_of-via-else-has_head_of}

-- a message in range, or not, by its kind and numbers
tested : (g : Geometry) (m : Msg) (k : Kind) (n : List ℕ) (t : Bool) → k ≡ kind m → n ≡ four_numbers m → t ≡ are_in_range g k n → is_in_range g m ≡ t
tested g m k n t ek en e = (λ i. are_in_range g (sym ek i) (sym en i)) ∙ sym e

pub has_head_of-requires : goal.has_head_of-requires
has_head_of-requires c = room_if_decoded c.args.bytes.now c.in_ok-m.m c.told-bytes c.fits-bytes (sym c.in_ok-m.ensures)

pub returns-in_err-m-clause-exact : goal.returns-in_err-m-clause-exact
returns-in_err-m-clause-exact c = decodes_none c.args.g.now c.args.bytes.now _ c.from_residual.ensures (λ m says is there. let f : None ≡ Some m = c.in_err-m.ensures ∙ says in cc f)

pub returns-then-not-is_in_range-clause-exact : goal.returns-then-not-is_in_range-clause-exact
returns-then-not-is_in_range-clause-exact c =
    let g = c.args.g.now in
    let out = tested g c.in_ok-m.m c.kind.result c.numbers.result c.is_in_range.result c.kind.ensures c.numbers.ensures c.is_in_range.ensures
    ∙ c.if-not-is_in_range.true in
    decodes_none g c.args.bytes.now None refl (λ m says is there.
    let same : c.in_ok-m.m ≡ m = same_Some c.in_ok-m.m m (c.in_ok-m.ensures ∙ says) in
    true≢false (sym there ∙ sym (ap (is_in_range g) same) ∙ out))

pub returns-then-has_data_of-clause-exact : goal.returns-then-has_data_of-clause-exact
returns-then-has_data_of-clause-exact c =
    let g = c.args.g.now in
    let bytes = c.args.bytes.now in
    let m = c.in_ok-m.m in
    let there = tested g m c.kind.result c.numbers.result c.is_in_range.result c.kind.ensures c.numbers.ensures c.is_in_range.ensures
    ∙ c.if-not-is_in_range.false in
    let head = c.has_head_of.ensures.0 c.if-has_head_of.true in
    decodes_some g bytes m (sym c.in_ok-m.ensures) (record_by_parts bytes m head (c.has_data_of.ensures.0 c.if-has_data_of.true)) there

pub returns-then-has_data_of-clause-whole : goal.returns-then-has_data_of-clause-whole
returns-then-has_data_of-clause-whole c = whole_if_decoded c.args.bytes.now c.in_ok-m.m c.told-bytes c.fits-bytes (sym c.in_ok-m.ensures)

pub returns-else-has_head_of-clause-exact : goal.returns-else-has_head_of-clause-exact
returns-else-has_head_of-clause-exact c =
    let bytes = c.args.bytes.now in
    let m = c.in_ok-m.m in
    decodes_none c.args.g.now bytes None refl (λ n says is there.
    let same : m ≡ n = same_Some m n (c.in_ok-m.ensures ∙ says) in
    let record_is : bytes ≡ record_of m = is ∙ ap record_of (sym same) in
    elim c.else-has_head_of.branch [
      | else-has_head_of-via-then-has_head_of+else-has_data_of w ↦ true≢false (sym (w.has_data_of.ensures.1 (data_there bytes m record_is)) ∙ w.if-has_data_of.false)
      | else-has_head_of-via-else-has_head_of w ↦ true≢false (sym (c.has_head_of.ensures.1 (head_there bytes m record_is)) ∙ w.if-has_head_of.false)
    ])
