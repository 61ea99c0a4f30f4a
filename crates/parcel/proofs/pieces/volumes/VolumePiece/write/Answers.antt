-- The parts of the piece, one behind the other.
use Rattle.std.proofs.Common.{◌≡◌, ℕ, List, ◌∷◌, ◌++◌, length, replicate, ◌∙◌, ap, sym, arith}
use Rattle.byteorder.specs.Endian.{little_bytes}
use Rattle.parcel.proofs.PieceBytes.{four_parts, eight_for_eight, mark_byte, spelled_made}
use Rattle.parcel.proofs.pieces.volumes.VolumePiece.write.Goals as goal

pub returns : goal.returns
returns c =
    let marks : List ℕ = 1 ∷ c.from.result ∷ replicate 6 0 in
    let files : List ℕ = little_bytes 8 c.args.self.now.files in
    let marks_are : c.copy_from_slice.new.self ≡ marks = c.copy_from_slice.ensures.after in
    let files_are : c.write_u64.new.buf ≡ files = c.write_u64.ensures ∙ eight_for_eight files _ in
    let label_is : c.copy_from_slice-2.new.self ≡ c.args.self.now.label = c.copy_from_slice-2.ensures.after in
    let rest : length c.fill-2.new.self ≡ 16 = omega (arith, c.fill-2.ensures.len, c.requires.size, ap length marks_are, ap length files_are, ap length label_is) in
    let blank_is : c.fill-2.new.self ≡ replicate 16 0 = c.fill-2.ensures.after (λ y is. is) ∙ ap (λ (n : ℕ). replicate n 0) (sym c.fill-2.ensures.len ∙ rest) in
    four_parts c.args.out.now c.copy_from_slice.new.self c.write_u64.new.buf c.copy_from_slice-2.new.self c.fill-2.new.self
    (ap length marks_are) (ap length files_are) (omega arith)
    ∙ (λ i. ((marks_are i ++ files_are i) ++ label_is i) ++ blank_is i)
    ∙ spelled_made c.args.self.now c.from.result c.if-not-self.false (c.from.ensures ∙ mark_byte c.args.self.now.sealed)
