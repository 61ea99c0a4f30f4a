-- The bytes of a volume's piece, written one behind the other.
use Rattle.std.proofs.Common.{◌≡◌, ℕ, ◌-◌, Bool, true, List, [], ◌∷◌, ◌++◌, length, take, drop, replicate, sym, ◌∙◌, ap, arith, append_assoc, append-nil, length-append, length-take}
use Rattle.std.proofs.lemmas.List.{take_at, drop_at, drop_all}
use Rattle.byteorder.specs.Endian.{little_bytes}
use Rattle.protocol.specs.declared.sizes.TheConstants.{LABEL_SIZE}
use Rattle.meaning.proofs.Sums.{one_if}
use Rattle.parcel.specs.Pieces.{spelled}
use Rattle.parcel.specs.declared.pieces.volumes.VolumePiece.{VolumePiece}
use mir.Val.{bool_byte}
use borrow.Rule.Slice.PartMut.{put_mid}

put_next : (at k : ℕ) (front rest ys : List ℕ) → length front ≡ at → put_mid at k (front ++ rest) ys ≡ (front ++ ys) ++ drop k rest
put_next at k front rest ys long =
    (λ i. take_at front rest at long i ++ (ys ++ drop k (drop_at front rest at long i))) ∙ sym (append_assoc front ys (drop k rest))

-- flags, files, a label and zeros
pub four_parts : (out marks files label blank : List ℕ) → length marks ≡ 8 → length files ≡ 8 → length label ≡ LABEL_SIZE
    → let three = put_mid 16 LABEL_SIZE (put_mid 8 8 (marks ++ drop 8 out) files) label in put_mid 48 (length three - 48) three blank ≡ ((marks ++ files) ++ label) ++ blank
four_parts out marks files label blank m f l =
    let left : List ℕ = drop LABEL_SIZE (drop 8 (drop 8 out)) in
    let two : put_mid 8 8 (marks ++ drop 8 out) files ≡ (marks ++ files) ++ drop 8 (drop 8 out) = put_next 8 8 marks (drop 8 out) files m in
    let three : put_mid 16 LABEL_SIZE (put_mid 8 8 (marks ++ drop 8 out) files) label ≡ ((marks ++ files) ++ label) ++ left =
    ap (λ (xs : List ℕ). put_mid 16 LABEL_SIZE xs label) two ∙ put_next 16 LABEL_SIZE (marks ++ files) (drop 8 (drop 8 out)) label (omega (arith, m, f, length-append marks files)) in
    let front : length ((marks ++ files) ++ label) ≡ 48 = omega (arith, m, f, l, length-append marks files, length-append (marks ++ files) label) in
    let k : ℕ = length (((marks ++ files) ++ label) ++ left) - 48 in
    let four : put_mid 48 k (((marks ++ files) ++ label) ++ left) blank ≡ (((marks ++ files) ++ label) ++ blank) ++ drop k left = put_next 48 k ((marks ++ files) ++ label) left blank front in
    let none : drop k left ≡ [] = drop_all k left (omega (arith, front, length-append ((marks ++ files) ++ label) left)) in
    ap (λ (xs : List ℕ). put_mid 48 (length xs - 48) xs blank) three ∙ four
    ∙ ap (λ (xs : List ℕ). (((marks ++ files) ++ label) ++ blank) ++ xs) none ∙ append-nil (((marks ++ files) ++ label) ++ blank)

-- eight bytes in the place of eight
pub eight_for_eight : (files xs : List ℕ) → files ++ drop 8 (take 8 xs) ≡ files
eight_for_eight files xs = ap (λ (rest : List ℕ). files ++ rest) (drop_all 8 (take 8 xs) (omega (arith, length-take 8 xs))) ∙ append-nil files

-- a flag as a byte
pub mark_byte : (b : Bool) → bool_byte b ≡ one_if b
mark_byte b = grind arith

pub spelled_made : (p : VolumePiece) (mark : ℕ) → p.made ≡ true → mark ≡ one_if p.sealed
    → (1 ∷ mark ∷ [] ++ replicate 6 0 ++ little_bytes 8 p.files ++ p.label ++ replicate 16 0) ≡ spelled p
spelled_made p mark made is = grind arith
