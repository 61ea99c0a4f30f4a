-- Messages and their records.
use Rattle.std.proofs.lemmas.Grind.{common_steps}
use Rattle.std.proofs.Common.{◌≡◌, ℕ, lit≤, zero, suc, true, ◌+◌, ◌-◌, ◌<◌, ◌≤◌, List, [], ◌∷◌, ◌++◌, length, length-append, length-drop, length-take-le, get_or, take, drop, replicate, Option, Some, None, refl, ap, sym, subst, ◌∙◌, append_assoc, arith}
use Rattle.std.specs.Prelude.{option_map, slice_index, nat_lt, ◌↔◌, ◌&&◌}
use Rattle.std.specs.List.{AllByRecursion}
use Rattle.std.proofs.lemmas.List.{take_at, drop_at, drop-drop, drop_all, append-nil, take-append-drop}
use Rattle.std.proofs.lemmas.Option.{same_Some}
use Rattle.byteorder.specs.Endian.{little_bytes, little_number}
use Rattle.affinity.specs.declared.kinds.Kind.{Kind}
use Rattle.affinity.specs.declared.kinds.Kind.TheVariants as kinds
use Rattle.affinity.specs.declared.geometry.Geometry.{Geometry}
use Rattle.protocol.specs.declared.sizes.TheConstants.{BLOCK_SIZE, LABEL_SIZE, RECORD_SIZE}
use Rattle.protocol.specs.declared.messages.Block.{Block}
use Rattle.protocol.specs.declared.messages.Msg.{Msg}
use Rattle.protocol.specs.declared.messages.Msg.TheVariants.{Create, Delete, Write, Punch, Read, Summary, SetLabel}
use Rattle.protocol.specs.Messages.{kind, numbers, four_numbers, is_in_range, AreSizedBytes, IsMessage}
use Rattle.message.specs.Records.{FitsRecord, assembled, data_of, message_in_fields, record_head, kind_number, kind_numbered, record_of}
use borrow.Rule.Slice.PartMut.{put_mid, post_of}
use Rattle.affinity.proofs.Elements.{all_bytes}

-- ---- the numbers of a message in range

-- the numbers of a message in range fit the fields of its record
record Fits (n : List ℕ) : Type 0 where
  pub room : AllByRecursion (λ x. x < 256) (take 3 n)
  pub block : get_or n 3 0 < 65536

two_fit : (g : Geometry) (a v : ℕ) → nat_lt a g.aggregates && (nat_lt v g.volumes && true) ≡ true → Fits (a ∷ v ∷ 0 ∷ 0 ∷ [])
two_fit g a v h = grind (arith, common_steps)

three_fit : (g : Geometry) (a v f : ℕ) → nat_lt a g.aggregates && (nat_lt v g.volumes && (nat_lt f g.files && true)) ≡ true → Fits (a ∷ v ∷ f ∷ 0 ∷ [])
three_fit g a v f h = grind (arith, common_steps)

four_fit : (g : Geometry) (a v f b : ℕ) → nat_lt a g.aggregates && (nat_lt v g.volumes && (nat_lt f g.files && (nat_lt b g.blocks && true))) ≡ true → Fits (a ∷ v ∷ f ∷ b ∷ [])
four_fit g a v f b h = grind (arith, common_steps)

fits : (g : Geometry) (m : Msg) → is_in_range g m ≡ true → Fits (four_numbers m)
fits g (Create a v f) h = three_fit g a v f h
fits g (Delete a v f) h = three_fit g a v f h
fits g (Write a v f b content) h = four_fit g a v f b h
fits g (Punch a v f b) h = four_fit g a v f b h
fits g (Read a v f b) h = four_fit g a v f b h
fits g Summary h = record { room = (lit≤ tt, (lit≤ tt, (lit≤ tt, tt))); block = lit≤ tt }
fits g _ h = two_fit g _ _ h

-- what encoding asks for holds of each message in range
pub in_range_has_room : (g : Geometry) (m : Msg) → is_in_range g m ≡ true → FitsRecord m
in_range_has_room g m h = (fits g m h).room

-- ---- a record gives its message back

kind_again : (k : Kind) → kind_numbered (kind_number k) ≡ Some k
unfolding kind_numbered
kind_again kinds.MakeVol = refl
kind_again _ = refl

-- a message is the one that its own kind, numbers and data make
made_again : (m : Msg) → IsMessage m → assembled (kind m) (get_or (four_numbers m) 0 0) (get_or (four_numbers m) 1 0) (get_or (four_numbers m) 2 0) (get_or (four_numbers m) 3 0) (data_of m) ≡ m
unfolding data_of
made_again (SetLabel a v bytes) h = ap (SetLabel a v) (take_at bytes (replicate (BLOCK_SIZE - LABEL_SIZE) 0) LABEL_SIZE h.0)
made_again _ h = refl

low_byte : (b : ℕ) → b < 65536 → little_number 2 (little_bytes 2 b) ≡ b
low_byte b h = omega arith

-- the head of a record by its first byte and its four numbers
abbrev head_with : ℕ → List ℕ → List ℕ
head_with k ns = k ∷ take 3 ns ++ little_bytes 2 (slice_index ns 3) ++ 0 ∷ 0 ∷ []

fields_decoded : (k : Kind) {n : List ℕ} (bytes : List ℕ) {a v f b : ℕ} → b < 65536 → n ≡ a ∷ v ∷ f ∷ b ∷ [] → message_in_fields (head_with (kind_number k) n ++ bytes)
    ≡ Some (assembled k a v f b bytes)
unfolding message_in_fields
fields_decoded k bytes {a} {v} {f} {b} h e = grind (arith, common_steps, low_byte, kind_again)

-- four numbers: those of the list, and zeros after them
abbrev pub filled : List ℕ → List ℕ
filled ns = take 4 (ns ++ replicate 4 0)

four : (ns : List ℕ) → filled ns ≡ get_or (filled ns) 0 0 ∷ get_or (filled ns) 1 0 ∷ get_or (filled ns) 2 0 ∷ get_or (filled ns) 3 0 ∷ []
four (a ∷ v ∷ f ∷ b ∷ more) = refl
four _ = refl

-- the fields of a record encode its message
pub record_says : (g : Geometry) (m : Msg) → IsMessage m → is_in_range g m ≡ true → message_in_fields (record_of m) ≡ Some m
record_says g m whole h =
    fields_decoded (kind m) (data_of m) (fits g m h).block (four (numbers m)) ∙ ap Some (made_again m whole)

-- ---- a record put together in a buffer

pub zeros_else : (m : Msg) → ((a v f b : ℕ) (content : Block) → m ≡ Write a v f b content → ⊥) → ((a v : ℕ) (bytes : List ℕ) → m ≡ SetLabel a v bytes → ⊥) → data_of m ≡ replicate BLOCK_SIZE 0
unfolding data_of
zeros_else (Write a v f b content) no_write no_setlabel = absurd (no_write a v f b content refl)
zeros_else (SetLabel a v bytes) no_write no_setlabel = absurd (no_setlabel a v bytes refl)
zeros_else _ no_write no_setlabel = refl

pub put_together : (out head bytes : List ℕ) (k : ℕ) → length out ≡ RECORD_SIZE → length head ≡ 8 → length bytes ≡ BLOCK_SIZE → k ≡ BLOCK_SIZE
    → put_mid 8 k (head ++ post_of 0 8 out) bytes ≡ head ++ bytes
put_together out head bytes k room h d n =
    let front : take 8 (head ++ drop 8 out) ≡ head = take_at head (drop 8 out) 8 h in
    let behind : drop k (drop 8 (head ++ drop 8 out)) ≡ [] = ap (drop k) (drop_at head (drop 8 out) 8 h) ∙ drop-drop k 8 out ∙ drop_all (8 + k) out (omega arith) in
    (λ i. front i ++ (bytes ++ behind i)) ∙ ap (λ (xs : List ℕ). head ++ xs) (append-nil bytes)

-- a label is written behind the head, and then zeros behind the label
pub put_label : (out head label : List ℕ) → length out ≡ RECORD_SIZE → length head ≡ 8 → length label ≡ LABEL_SIZE
    → put_mid (8 + LABEL_SIZE) (BLOCK_SIZE - LABEL_SIZE) (put_mid 8 LABEL_SIZE (head ++ post_of 0 8 out) label) (replicate (BLOCK_SIZE - LABEL_SIZE) 0)
    ≡ head ++ (label ++ replicate (BLOCK_SIZE - LABEL_SIZE) 0)
put_label out head label room h l =
    let xs = head ++ drop 8 out in
    let rest = drop LABEL_SIZE (drop 8 xs) in
    let zeros : List ℕ = replicate (BLOCK_SIZE - LABEL_SIZE) 0 in
    let first : put_mid 8 LABEL_SIZE xs label ≡ (head ++ label) ++ rest = (λ i. take_at head (drop 8 out) 8 h i ++ (label ++ rest)) ∙ sym (append_assoc head label rest) in
    let both : length (head ++ label) ≡ 8 + LABEL_SIZE = omega (arith, length-append head label, h, l) in
    let behind_head : drop 8 xs ≡ drop 8 out = drop_at head (drop 8 out) 8 h in
    let long : length rest ≤ BLOCK_SIZE - LABEL_SIZE = omega (arith, length-drop LABEL_SIZE (drop 8 xs), ap length behind_head, length-drop 8 out, room) in
    let front : take (8 + LABEL_SIZE) ((head ++ label) ++ rest) ≡ head ++ label = take_at (head ++ label) rest (8 + LABEL_SIZE) both in
    let behind : drop (BLOCK_SIZE - LABEL_SIZE) (drop (8 + LABEL_SIZE) ((head ++ label) ++ rest)) ≡ [] = ap (drop (BLOCK_SIZE - LABEL_SIZE)) (drop_at (head ++ label) rest (8 + LABEL_SIZE) both)
    ∙ drop_all (BLOCK_SIZE - LABEL_SIZE) rest long in
    ap (λ (ys : List ℕ). put_mid (8 + LABEL_SIZE) (BLOCK_SIZE - LABEL_SIZE) ys zeros) first ∙ (λ i. front i ++ (zeros ++ behind i))
    ∙ ap (λ (ys : List ℕ). (head ++ label) ++ ys) (append-nil zeros) ∙ append_assoc head label zeros

-- ---- what is decoded is a message

dropped_fit : (n : ℕ) (bytes : List ℕ) → AllByRecursion (λ b. b < 256) bytes → AllByRecursion (λ b. b < 256) (drop n bytes)
dropped_fit zero bytes h = h
dropped_fit (suc n) [] h = tt
dropped_fit (suc n) (b ∷ bytes) h = dropped_fit n bytes h.1

taken_fit : (n : ℕ) (bytes : List ℕ) → AllByRecursion (λ b. b < 256) bytes → AllByRecursion (λ b. b < 256) (take n bytes)
taken_fit zero bytes h = tt
taken_fit (suc n) [] h = tt
taken_fit (suc n) (b ∷ bytes) h = (h.0, taken_fit n bytes h.1)

assembled_whole : (k : Kind) (a v f b : ℕ) (bytes : List ℕ) → AreSizedBytes BLOCK_SIZE bytes → IsMessage (assembled k a v f b bytes)
assembled_whole kinds.Write a v f b bytes h = h
assembled_whole kinds.SetLabel a v f b bytes h = (length-take-le LABEL_SIZE bytes (let len = h.0 in omega arith), taken_fit LABEL_SIZE bytes h.1)
assembled_whole _ a v f b bytes h = tt

assembled_room : (k : Kind) {a v f : ℕ} (b : ℕ) (bytes : List ℕ) → a < 256 → v < 256 → f < 256 → FitsRecord (assembled k a v f b bytes)
assembled_room kinds.Create b bytes a_fits v_fits f_fits = (a_fits, (v_fits, (f_fits, tt)))
assembled_room kinds.Delete b bytes a_fits v_fits f_fits = (a_fits, (v_fits, (f_fits, tt)))
assembled_room kinds.Write b bytes a_fits v_fits f_fits = (a_fits, (v_fits, (f_fits, tt)))
assembled_room kinds.Punch b bytes a_fits v_fits f_fits = (a_fits, (v_fits, (f_fits, tt)))
assembled_room kinds.Read b bytes a_fits v_fits f_fits = (a_fits, (v_fits, (f_fits, tt)))
assembled_room kinds.Summary b bytes a_fits v_fits f_fits = (lit≤ tt, (lit≤ tt, (lit≤ tt, tt)))
assembled_room _ b bytes a_fits v_fits f_fits = (a_fits, (v_fits, (lit≤ tt, tt)))

kind_assembled : (k : Kind) (a v f b : ℕ) (bytes : List ℕ) → kind (assembled k a v f b bytes) ≡ k
kind_assembled kinds.MakeVol a v f b bytes = refl
kind_assembled _ a v f b bytes = refl

-- a message that is made of an optional kind is made of a kind
made : (o : Option Kind) (make : Kind → Msg) (m : Msg) → option_map make o ≡ Some m → (k : Kind) × (m ≡ make k)
made (Some k) make m h = (k, sym (same_Some _ m h))
made None make m h = cc h

module _ (bytes : List ℕ) (m : Msg) (size : length bytes ≡ RECORD_SIZE) (fit : (i : ℕ) → get_or bytes i 0 < 256) (fields_decoded : message_in_fields bytes ≡ Some m) where
  its_kind : (k : Kind) × (m ≡ assembled k (slice_index bytes 1) (slice_index bytes 2) (slice_index bytes 3) (little_number 2 (take 2 (drop 4 bytes))) (drop 8 bytes))
  unfolding message_in_fields
  its_kind = made (kind_numbered (slice_index bytes 0)) (λ k. assembled k (slice_index bytes 1) (slice_index bytes 2) (slice_index bytes 3)
      (little_number 2 (take 2 (drop 4 bytes))) (drop 8 bytes)) m fields_decoded

  pub whole_if_decoded : IsMessage m
  whole_if_decoded =
      let long : length (drop 8 bytes) ≡ BLOCK_SIZE = omega (arith, length-drop 8 bytes) in
      subst IsMessage (sym its_kind.1) (assembled_whole its_kind.0 _ _ _ _ (drop 8 bytes) (long, dropped_fit 8 bytes (all_bytes bytes fit)))

  pub room_if_decoded : FitsRecord m
  room_if_decoded = subst FitsRecord (sym its_kind.1) (assembled_room its_kind.0 _ (drop 8 bytes) (fit 1) (fit 2) (fit 3))

  by_kind : (k : Kind) → kind m ≡ k → m ≡ assembled k (slice_index bytes 1) (slice_index bytes 2) (slice_index bytes 3) (little_number 2 (take 2 (drop 4 bytes))) (drop 8 bytes)
  by_kind k is = its_kind.1 ∙ ap (λ k. assembled k (slice_index bytes 1) (slice_index bytes 2) (slice_index bytes 3)
      (little_number 2 (take 2 (drop 4 bytes))) (drop 8 bytes)) (sym (kind_assembled its_kind.0 _ _ _ _ _) ∙ ap kind (sym its_kind.1) ∙ is)

  pub write_if_decoded : kind m ≡ kinds.Write → drop 8 bytes ≡ data_of m
  unfolding data_of
  write_if_decoded is = sym (ap data_of (by_kind kinds.Write is))

  setlabel_if_decoded : kind m ≡ kinds.SetLabel → data_of m ≡ take LABEL_SIZE (drop 8 bytes) ++ replicate (BLOCK_SIZE - LABEL_SIZE) 0
  unfolding data_of
  setlabel_if_decoded is = ap data_of (by_kind kinds.SetLabel is)

  -- the bytes behind the head are the data of the `setlabel` exactly if those behind its label are zeros
  pub label_if_decoded : kind m ≡ kinds.SetLabel → (drop (8 + LABEL_SIZE) bytes ≡ replicate (BLOCK_SIZE - LABEL_SIZE) 0) ↔ (drop 8 bytes ≡ data_of m)
  label_if_decoded is =
      let rest = drop 8 bytes in
      let long : length rest ≡ BLOCK_SIZE = omega (arith, length-drop 8 bytes) in
      let behind : drop LABEL_SIZE rest ≡ drop (8 + LABEL_SIZE) bytes = drop-drop LABEL_SIZE 8 bytes in
      let label : length (take LABEL_SIZE rest) ≡ LABEL_SIZE = length-take-le LABEL_SIZE rest (omega arith) in (
        (λ zeros. sym (take-append-drop LABEL_SIZE rest) ∙ ap (λ (xs : List ℕ). take LABEL_SIZE rest ++ xs) (behind ∙ zeros) ∙ sym (setlabel_if_decoded is)),
        (λ there. sym behind ∙ ap (drop LABEL_SIZE) (there ∙ setlabel_if_decoded is) ∙ drop_at (take LABEL_SIZE rest) (replicate (BLOCK_SIZE - LABEL_SIZE) 0) LABEL_SIZE label),
      )

-- ---- the message in range with a record

-- nothing is decoded where the bytes are no record of a message in range
abbrev IsDecoded : Geometry → List ℕ → Option Msg → Type 0
IsDecoded g bytes r = (m : Msg) → IsMessage m → (r ≡ Some m) ↔ ((bytes ≡ record_of m) × (is_in_range g m ≡ true))

pub decodes_none : (g : Geometry) (bytes : List ℕ) (r : Option Msg) → r ≡ None → ((m : Msg) → message_in_fields bytes ≡ Some m → bytes ≡ record_of m → is_in_range g m ≡ true → ⊥) → IsDecoded g bytes r
decodes_none g bytes r none h m whole = (
  (λ is. let none : None ≡ Some m = sym none ∙ is in cc none),
  (λ held. absurd (h m (ap message_in_fields held.0 ∙ record_says g m whole held.1) held.0 held.1)),
)

pub decodes_some : (g : Geometry) (bytes : List ℕ) (n : Msg) → message_in_fields bytes ≡ Some n → bytes ≡ record_of n → is_in_range g n ≡ true → IsDecoded g bytes (Some n)
decodes_some g bytes n says is there m whole = (
  (λ e. let same : n ≡ m = same_Some n m e in (is ∙ ap record_of same, ap (is_in_range g) (sym same) ∙ there)),
  (λ held. sym says ∙ ap message_in_fields held.0 ∙ record_says g m whole held.1),
)

-- ---- the fields as the code reads them

pub no_fields : (bytes : List ℕ) → None ≡ kind_numbered (slice_index bytes 0) → None ≡ message_in_fields bytes
unfolding message_in_fields
no_fields bytes h = grind (arith, common_steps)

pub some_fields : (bytes : List ℕ) (k : Kind) (m : Msg) → Some k ≡ kind_numbered (slice_index bytes 0)
    → m ≡ assembled k (slice_index bytes 1) (slice_index bytes 2) (slice_index bytes 3) (little_number 2 (take 2 (drop 4 bytes))) (drop 8 bytes) → Some m ≡ message_in_fields bytes
unfolding message_in_fields
some_fields bytes k m h e = grind (arith, common_steps)

length_filled : (k : ℕ) (ns : List ℕ) → length (head_with k (filled ns)) ≡ 8
length_filled k (a ∷ v ∷ f ∷ b ∷ more) = refl
length_filled k _ = refl

pub length_head : (m : Msg) → length (record_head m) ≡ 8
length_head m = length_filled (kind_number (kind m)) (numbers m)

pub data_of_write : (m : Msg) {a v f b : ℕ} {content : Block} → m ≡ Write a v f b content → data_of m ≡ content.0
unfolding data_of
data_of_write m is = ap data_of is

pub data_of_setlabel : (m : Msg) {a v : ℕ} {bytes : List ℕ} → m ≡ SetLabel a v bytes → data_of m ≡ bytes ++ replicate (BLOCK_SIZE - LABEL_SIZE) 0
unfolding data_of
data_of_setlabel m is = ap data_of is

pub length_behind : (out head : List ℕ) → length out ≡ RECORD_SIZE → length head ≡ 8 → length (take BLOCK_SIZE (drop 8 (head ++ drop 8 out))) ≡ BLOCK_SIZE
length_behind out head room h =
    let rest = length-drop 8 (head ++ drop 8 out) in
    let both = length-append head (drop 8 out) in
    let behind = length-drop 8 out in
    length-take-le BLOCK_SIZE (drop 8 (head ++ drop 8 out)) (omega arith)

-- the places of a label and of the zeros behind it
pub length_label : (out head : List ℕ) → length out ≡ RECORD_SIZE → length head ≡ 8 → length (take LABEL_SIZE (drop 8 (head ++ drop 8 out))) ≡ LABEL_SIZE
length_label out head room h =
    let rest = length-drop 8 (head ++ drop 8 out) in
    let both = length-append head (drop 8 out) in
    let behind = length-drop 8 out in
    length-take-le LABEL_SIZE (drop 8 (head ++ drop 8 out)) (omega arith)

pub length_zeros : (out head label : List ℕ) → length out ≡ RECORD_SIZE → length head ≡ 8 → length label ≡ LABEL_SIZE
    → length (take (BLOCK_SIZE - LABEL_SIZE) (drop (8 + LABEL_SIZE) (put_mid 8 LABEL_SIZE (head ++ post_of 0 8 out) label))) ≡ BLOCK_SIZE - LABEL_SIZE
length_zeros out head label room h l =
    let xs : List ℕ = head ++ drop 8 out in
    let all : List ℕ = put_mid 8 LABEL_SIZE xs label in
    let both = length-append head (drop 8 out) in
    let behind = length-drop 8 out in
    let front = length-take-le 8 xs (omega (arith, both, behind, room, h)) in
    let whole = length-append (take 8 xs) (label ++ drop LABEL_SIZE (drop 8 xs)) in
    let after = length-append label (drop LABEL_SIZE (drop 8 xs)) in
    let later = length-drop LABEL_SIZE (drop 8 xs) in
    let sooner = length-drop 8 xs in
    let rest = length-drop (8 + LABEL_SIZE) all in
    length-take-le (BLOCK_SIZE - LABEL_SIZE) (drop (8 + LABEL_SIZE) all) (omega (arith, both, behind, room, h, l, front, whole, after, later, sooner, rest))

-- ---- the head and the data of a record

pub record_by_parts : (bytes : List ℕ) (m : Msg) → take 8 bytes ≡ record_head m → drop 8 bytes ≡ data_of m → bytes ≡ record_of m
record_by_parts bytes m head rest = sym (take-append-drop 8 bytes) ∙ (λ i. head i ++ rest i)

pub head_there : (bytes : List ℕ) (m : Msg) → bytes ≡ record_of m → take 8 bytes ≡ record_head m
head_there bytes m is = ap (take 8) is ∙ take_at (record_head m) (data_of m) 8 (length_head m)

pub data_there : (bytes : List ℕ) (m : Msg) → bytes ≡ record_of m → drop 8 bytes ≡ data_of m
data_there bytes m is = ap (drop 8) is ∙ drop_at (record_head m) (data_of m) 8 (length_head m)
