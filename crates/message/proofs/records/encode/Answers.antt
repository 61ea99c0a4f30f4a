-- Head and data are written one behind the other: a block, a label with zeros, or zeros alone.
use Rattle.std.proofs.Common.{◌≡◌, ◌+◌, ◌-◌, ℕ, List, length, ◌++◌, replicate, refl, ap, sym, ◌∙◌}
use Rattle.protocol.specs.declared.sizes.TheConstants.{BLOCK_SIZE, LABEL_SIZE}
use Rattle.message.specs.Records.{record_head, data_of}
use Rattle.message.proofs.RecordLemmas.{put_together, put_label, length_head, length_behind, length_label, length_zeros, data_of_write, data_of_setlabel, zeros_else}
use borrow.Rule.Slice.PartMut.{put_mid, post_of}
use Rattle.message.proofs.records.encode.Goals as goal

pub returns-in-Write : goal.returns-in-Write
returns-in-Write c =
    let m = c.args.m.now in
    let head : c.copy_from_slice.new.self ≡ record_head m = c.copy_from_slice.ensures.after ∙ c.head_of.ensures in
    let eight : length c.copy_from_slice.new.self ≡ 8 = ap length head ∙ length_head m in
    let long = length_behind c.args.out.now c.copy_from_slice.new.self c.told-out eight in
    let behind : c.copy_from_slice-in-Write.new.self ≡ data_of m = c.copy_from_slice-in-Write.ensures.after ∙ sym (data_of_write m c.in-Write.is) in
    put_together c.args.out.now _ _ BLOCK_SIZE c.told-out eight (c.copy_from_slice-in-Write.ensures.len ∙ long) refl ∙ (λ i. head i ++ behind i)

pub returns-in-SetLabel : goal.returns-in-SetLabel
returns-in-SetLabel c =
    let m = c.args.m.now in
    let s = c.in-SetLabel in
    let out = c.args.out.now in
    let written = c.copy_from_slice.new.self in
    let label = c.copy_from_slice-in-SetLabel.new.self in
    let head : written ≡ record_head m = c.copy_from_slice.ensures.after ∙ c.head_of.ensures in
    let eight : length written ≡ 8 = ap length head ∙ length_head m in
    let same : label ≡ s.label = c.copy_from_slice-in-SetLabel.ensures.after in
    let size : length label ≡ LABEL_SIZE = c.copy_from_slice-in-SetLabel.ensures.len ∙ length_label out written c.told-out eight in
    let zeros : c.fill.new.self ≡ replicate (BLOCK_SIZE - LABEL_SIZE) 0 = c.fill.ensures.after (λ y is. is) ∙ ap (λ (n : ℕ). replicate n 0) (length_zeros out written label c.told-out eight size) in
    ap (λ (ys : List ℕ). put_mid (8 + LABEL_SIZE) (BLOCK_SIZE - LABEL_SIZE) (put_mid 8 LABEL_SIZE (written ++ post_of 0 8 out) label) ys) zeros
    ∙ put_label out written label c.told-out eight size
    ∙ (λ i. head i ++ (same i ++ replicate (BLOCK_SIZE - LABEL_SIZE) 0))
    ∙ ap (λ (ys : List ℕ). record_head m ++ ys) (sym (data_of_setlabel m s.is))

pub returns-in_default : goal.returns-in_default
returns-in_default c =
    let m = c.args.m.now in
    let head : c.copy_from_slice.new.self ≡ record_head m = c.copy_from_slice.ensures.after ∙ c.head_of.ensures in
    let eight : length c.copy_from_slice.new.self ≡ 8 = ap length head ∙ length_head m in
    let long = length_behind c.args.out.now c.copy_from_slice.new.self c.told-out eight in
    let behind : c.fill-in_default.new.self ≡ data_of m = c.fill-in_default.ensures.after (λ y is. is) ∙ ap (λ (n : ℕ). replicate n 0) long
    ∙ sym (zeros_else m c.in_default.not-Write c.in_default.not-SetLabel) in
    put_together c.args.out.now _ _ BLOCK_SIZE c.told-out eight (c.fill-in_default.ensures.len ∙ long) refl ∙ (λ i. head i ++ behind i)
