-- A text put behind a text in the front of a buffer.
use Rattle.std.proofs.Common.{◌≡◌, ℕ, ◌+◌, ◌-◌, ◌*◌, ◌≤◌, List, ◌++◌, length, length-append, length-take-le, take, drop, refl, ap, sym, subst, ◌∙◌, arith}
use Rattle.std.proofs.lemmas.List.{append_assoc, take_at, drop_at, drop-drop}
use Rattle.hex.specs.Hex.{encode_lower, lower_digits}
use Rattle.hex.proofs.HexLemmas.{length-encode_with}
use Rattle.protocol.specs.Replies.{AppendsText, at_least_one, without_trailing_zeros, shown}
use borrow.Rule.Slice.PartMut.{put_mid}

-- a text behind a text
pub appends_more : {old mid new : List ℕ} {at k end : ℕ} {t u : List ℕ} → AppendsText old mid at k t → AppendsText mid new k end u → AppendsText old new at end (t ++ u)
appends_more {old} {mid} {new} {at} {k} {end} {t} {u} first second =
    let one = first.ends in
    let two = second.ends in
    let len : length (t ++ u) ≡ length t + length u = length-append t u in
    let gap : end ≡ k + (end - k) = omega arith in
    let behind : (xs : List ℕ) → drop end xs ≡ drop (end - k) (drop k xs) = λ xs. ap (λ n. drop n xs) gap ∙ sym (drop-drop (end - k) k xs) in
    record {
      ends = omega arith;
      front = second.front ∙ ap (λ (xs : List ℕ). xs ++ u) first.front ∙ append_assoc (take at old) t u;
      rest = second.rest ∙ behind mid ∙ ap (drop (end - k)) first.rest ∙ sym (behind old);
    }

-- the same text in other words
pub appends_same : {old new : List ℕ} {at end : ℕ} {t u : List ℕ} → t ≡ u → AppendsText old new at end t → AppendsText old new at end u
appends_same {old} {new} {at} {end} e h = subst (λ (t : List ℕ). AppendsText old new at end t) e h

-- a text that takes the place of as many bytes
pub appends_from : (old text : List ℕ) (at : ℕ) → at + length text ≤ length old → AppendsText old (take at old ++ (text ++ drop (length text) (drop at old))) at (at + length text) text
appends_from old text at room =
    let rest : drop (length text) (drop at old) ≡ drop (at + length text) old = drop-drop (length text) at old ∙ ap (λ n. drop n old) (omega arith) in
    let front : length (take at old ++ text) ≡ at + length text = length-append (take at old) text ∙ ap (λ n. n + length text) (length-take-le at old (omega arith)) in
    let whole : take at old ++ (text ++ drop (length text) (drop at old)) ≡ (take at old ++ text) ++ drop (at + length text) old =
    sym (append_assoc (take at old) text _) ∙ ap (λ (xs : List ℕ). (take at old ++ text) ++ xs) rest in
    record {
      ends = refl;
      front = ap (take (at + length text)) whole ∙ take_at (take at old ++ text) _ (at + length text) front;
      rest = ap (drop (at + length text)) whole ∙ drop_at (take at old ++ text) _ (at + length text) front;
    }

pub appends_put : {old new text : List ℕ} {at end : ℕ} → at + length text ≤ length old → new ≡ take at old ++ (text ++ drop (length text) (drop at old)) → end ≡ at + length text
    → AppendsText old new at end text
appends_put {old} {text = text} {at} room e ends = rw (e, ends) (appends_from old text at room)

-- a text in a part of the buffer that is as long
pub appends_part : {old part text : List ℕ} {at k end : ℕ} → at + length text ≤ length old → part ≡ text → k ≡ length text → end ≡ at + length text
    → AppendsText old (put_mid at k old part) at end text
appends_part {old} {text = text} {at} {k} room same len ends = appends_put room (ap (put_mid at k old) same ∙ ap (λ n. put_mid at n old text) len) ends

-- ---- the digits that show some bytes

pub length-lower : (bytes : List ℕ) → length (encode_lower bytes) ≡ 2 * length bytes
length-lower bytes = length-encode_with lower_digits bytes

pub shown_by : (bytes front : List ℕ) → front ≡ at_least_one (without_trailing_zeros bytes) → encode_lower front ≡ shown bytes
unfolding shown
shown_by bytes front e = ap encode_lower e
