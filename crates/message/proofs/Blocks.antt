-- What a word encodes as bytes, a block or a label.
use Rattle.std.proofs.lemmas.Grind.{common_steps}
use Rattle.std.proofs.Common.{◌≡◌, ℕ, ◌-◌, ◌*◌, ◌/◌, ◌<◌, ◌≤◌, true, List, [], ◌∷◌, ◌++◌, length, length-take-le, take, drop, replicate, Option, Some, None, Result, Ok, Err, refl, ap, sym, ◌∙◌, arith}
use Rattle.std.specs.Prelude.{MatchResult, option_map}
use Rattle.std.specs.Result.{result_ok}
use Rattle.std.proofs.lemmas.Bool.{ne_eqb, true≢false}
use Rattle.std.proofs.lemmas.Option.{same_Some}
use Rattle.std.proofs.lemmas.List.{drop-replicate, length-replicate}
use Rattle.std.proofs.lemmas.List.Elements.{All-head, All-tail}
use Rattle.std.specs.List.{AllPass}
use Rattle.hex.specs.Hex.{decode_of, decode_sized, is_hex_digit}
use Rattle.hex.specs.declared.error.FromHexError.{FromHexError}
use Rattle.hex.proofs.HexLemmas.{decode_of-ok}
use Rattle.protocol.specs.declared.sizes.TheConstants.{BLOCK_SIZE, LABEL_SIZE}
use Rattle.protocol.specs.declared.messages.Block.{Block}
use Rattle.protocol.specs.Words.{bytes_in_word, block_in_word, label_in_word, padded}
use Rattle.message.proofs.Words.{HasNoSpace}

-- w is the hexadecimal digits of `bytes`, of which there are 1 to `size`
pub record IsDigits (size : ℕ) (w bytes : List ℕ) : Type 0 where
  pub low : 2 ≤ length w
  pub high : length w ≤ 2 * size
  pub decoded : decode_of w ≡ Ok bytes

pub bytes_parts : (size : ℕ) (w whole : List ℕ) → bytes_in_word size w ≡ Some whole → (bytes : List ℕ) × IsDigits size w bytes × (whole ≡ padded size bytes)
unfolding bytes_in_word
bytes_parts size w whole h = grind (arith, common_steps)

pub bytes_from : (size : ℕ) (w bytes : List ℕ) → IsDigits size w bytes → bytes_in_word size w ≡ Some (padded size bytes)
unfolding bytes_in_word
bytes_from size w bytes h = grind (arith, common_steps)

pub no_bytes : (size : ℕ) (w : List ℕ) → ((bytes : List ℕ) → IsDigits size w bytes → ⊥) → bytes_in_word size w ≡ None
no_bytes size w h = elim (bytes_in_word size w) as (λ o. bytes_in_word size w ≡ o → o ≡ None) [ None ↦ λ e. refl | Some whole ↦ λ e. let p = bytes_parts size w whole e in absurd (h p.0 p.1) ] refl

block_made : (o : Option (List ℕ)) (content : Block) → option_map (λ bytes. record { 0 = bytes }) o ≡ Some content → o ≡ Some content.0
block_made (Some bytes) content h = ap Some (ap (λ (b : Block). b.0) (same_Some _ content h))
block_made None content h = cc h

-- a block by its bytes
pub block_bytes : (w : List ℕ) (content : Block) → block_in_word w ≡ Some content → bytes_in_word BLOCK_SIZE w ≡ Some content.0
unfolding block_in_word
block_bytes w content h = block_made (bytes_in_word BLOCK_SIZE w) content h

pub bytes_block : (w : List ℕ) (content : Block) → bytes_in_word BLOCK_SIZE w ≡ Some content.0 → block_in_word w ≡ Some content
unfolding block_in_word
bytes_block w content h = ap (λ (o : Option (List ℕ)). option_map (λ bytes. record { 0 = bytes }) o) h

pub no_block : (w : List ℕ) → bytes_in_word BLOCK_SIZE w ≡ None → block_in_word w ≡ None
unfolding block_in_word
no_block w h = ap (λ (o : Option (List ℕ)). option_map (λ bytes. record { 0 = bytes }) o) h

pub label_bytes : (w : List ℕ) → label_in_word w ≡ bytes_in_word LABEL_SIZE w
unfolding label_in_word
label_bytes w = refl

-- ---- no digit is a space

no_space : (w : List ℕ) → AllPass is_hex_digit w → HasNoSpace w
no_space [] h = tt
no_space (c ∷ w) h =
    let digit : is_hex_digit c ≡ true = All-head (λ c. is_hex_digit c ≡ true) c w h in
    (ne_eqb c 32 (λ e. absurd (true≢false (sym digit ∙ ap is_hex_digit e))), no_space w (All-tail (λ c. is_hex_digit c ≡ true) c w h))

pub bytes_no_space : (size : ℕ) (w whole : List ℕ) → bytes_in_word size w ≡ Some whole → HasNoSpace w
bytes_no_space size w whole h = let p = bytes_parts size w whole h in no_space w (decode_of-ok w p.0 p.1.decoded).1

pub block_no_space : (w : List ℕ) (content : Block) → block_in_word w ≡ Some content → HasNoSpace w
block_no_space w content h = bytes_no_space BLOCK_SIZE w content.0 (block_bytes w content h)

pub label_no_space : (w bytes : List ℕ) → label_in_word w ≡ Some bytes → HasNoSpace w
label_no_space w bytes h = bytes_no_space LABEL_SIZE w bytes (sym (label_bytes w) ∙ h)

-- ---- decoding into half the length

pub decode_sized-half : (w : List ℕ) (n : ℕ) → n ≡ length w / 2 → decode_sized w n ≡ decode_of w
decode_sized-half w n half = grind (arith, common_steps)

-- what decoding into a slice showed
abbrev pub Decoded : List ℕ → ℕ → Option (Unit {0}) → List ℕ → Type 0
Decoded w n r out = MatchResult (decode_sized w n) (λ bytes. (r ≡ Some tt) × (out ≡ bytes)) (λ e. r ≡ None)

told_ok : (d : Result (List ℕ) FromHexError) (r : Result (Unit {0}) FromHexError) (out : List ℕ) → MatchResult d (λ bytes. (r ≡ Ok tt) × (out ≡ bytes)) (λ e. r ≡ Err e)
    → MatchResult d (λ bytes. (result_ok r ≡ Some tt) × (out ≡ bytes)) (λ e. result_ok r ≡ None)
told_ok (Ok bytes) r out h = (ap result_ok h.0, h.1)
told_ok (Err x) r out h = ap result_ok h

-- what the decoding of the crate `hex` showed, its error left out
pub decoded_by_hex : (w : List ℕ) (n : ℕ) (r : Result (Unit {0}) FromHexError) (o : Option (Unit {0})) (out : List ℕ)
    → MatchResult (decode_sized w n) (λ bytes. (r ≡ Ok tt) × (out ≡ bytes)) (λ e. r ≡ Err e) → o ≡ result_ok r → Decoded w n o out
decoded_by_hex w n r o out h e = rw e (told_ok (decode_sized w n) r out h)

decoded_ok : (d : Result (List ℕ) FromHexError) (r : Option (Unit {0})) (out : List ℕ) (u : Unit {0}) → MatchResult d (λ bytes. (r ≡ Some tt) × (out ≡ bytes)) (λ e. r ≡ None) → Some u ≡ r → d ≡ Ok out
decoded_ok (Ok bytes) r out u h e = ap Ok (sym h.1)
decoded_ok (Err x) r out u h e = let f : Some u ≡ None = e ∙ h in cc f

decoded_err : (d : Result (List ℕ) FromHexError) (r : Option (Unit {0})) (out bytes : List ℕ) → MatchResult d (λ bytes. (r ≡ Some tt) × (out ≡ bytes)) (λ e. r ≡ None) → None ≡ r → d ≡ Ok bytes → ⊥
decoded_err (Ok bs) r out bytes h e ok = let f : None ≡ Some tt = e ∙ h.0 in cc f
decoded_err (Err x) r out bytes h e ok = cc ok

room_is : (size n : ℕ) → n ≤ size → length {A = ℕ} (take n (replicate size 0)) ≡ n
room_is size n h = length-take-le n (replicate size 0) (let e : length {A = ℕ} (replicate size 0) ≡ size = length-replicate {A = ℕ} size 0 in omega arith)

pub bytes_decoded : (size : ℕ) (w : List ℕ) {n : ℕ} {r : Option (Unit {0})} (out : List ℕ) {u : Unit {0}} → n ≡ length w / 2 → 0 < n → n ≤ size
    → Decoded w (length {A = ℕ} (take n (replicate size 0))) r out → Some u ≡ r
    → bytes_in_word size w ≡ Some (out ++ drop n (replicate size 0))
bytes_decoded size w {n} {r} out {u} half some most told ok =
    let room : ℕ = length {A = ℕ} (take n (replicate size 0)) in
    let decoded : decode_of w ≡ Ok out = sym (decode_sized-half w room (room_is size n most ∙ half)) ∙ decoded_ok (decode_sized w room) r out u told ok in
    let parts = decode_of-ok w out decoded in
    let len = parts.2 in
    let same : n ≡ length out = omega arith in
    let rest : drop {A = ℕ} n (replicate size 0) ≡ replicate (size - length out) 0 = rw same (drop-replicate (length out) size 0) in
    bytes_from size w out (record { low = omega arith; high = omega arith; decoded = decoded }) ∙ ap (λ (behind : List ℕ). Some (out ++ behind)) (sym rest)

pub bytes_not_decoded : (size : ℕ) (w : List ℕ) {n : ℕ} {r : Option (Unit {0})} (out : List ℕ) → n ≡ length w / 2 → n ≤ size
    → Decoded w (length {A = ℕ} (take n (replicate size 0))) r out → None ≡ r → bytes_in_word size w ≡ None
bytes_not_decoded size w {n} {r} out half most told err = grind (arith, common_steps, no_bytes, decoded_err, decode_sized-half, room_is)
