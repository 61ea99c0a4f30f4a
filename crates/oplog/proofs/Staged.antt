-- One more record in a row of staged ones.
use Rattle.std.proofs.Common.{◌≡◌, ℕ, ◌+◌, ◌*◌, ◌<◌, ◌≤◌, List, [], ◌∷◌, ◌++◌, length, take, get_or, sym, ◌∙◌, ap, subst, arith}
use Rattle.std.specs.List.{concat}
use Rattle.std.proofs.lemmas.List.{append-nil, append_assoc, map-append, take_more}
use Rattle.std.proofs.lemmas.Slice.{take-put_mid}
use borrow.Rule.Slice.PartMut.{put_mid}
use Rattle.protocol.specs.declared.sizes.TheConstants.{RECORD_SIZE}
use Rattle.protocol.specs.declared.messages.Msg.{Msg}
use Rattle.message.specs.Records.{record_of}
use Rattle.oplog.specs.ChangeRecords.{records_of}
use Rattle.oplog.proofs.RecordRows.{AreRows}

concat-push : (rs : List (List ℕ)) (r : List ℕ) → concat (rs ++ r ∷ []) ≡ concat rs ++ r
concat-push [] r = append-nil r
concat-push (x ∷ rs) r = ap (λ (l : List ℕ). x ++ l) (concat-push rs r) ∙ sym (append_assoc x (concat rs) r)

AreRows-push : (rs : List (List ℕ)) (r : List ℕ) → AreRows rs → length r ≡ RECORD_SIZE → AreRows (rs ++ r ∷ [])
AreRows-push [] r sized size = (size, tt)
AreRows-push (x ∷ rs) r sized size = (sized.0, AreRows-push rs r sized.1 size)

module _ (messages : List Msg) (i : ℕ) (d : Msg) (within : i < length messages) where
  records_more : records_of (take (i + 1) messages) ≡ records_of (take i messages) ++ record_of (get_or messages i d) ∷ []
  records_more =
      ap records_of (take_more messages i d within) ∙ map-append record_of (take i messages) (get_or messages i d ∷ [])

  pub staged_more : (k : ℕ) (out place : List ℕ) → place ≡ record_of (get_or messages i d) → length place ≡ RECORD_SIZE → length messages * RECORD_SIZE ≤ length out
      → take (i * RECORD_SIZE) out ≡ concat (records_of (take i messages)) → take ((i + 1) * RECORD_SIZE) (put_mid (i * RECORD_SIZE) k out place)
      ≡ concat (records_of (take (i + 1) messages))
  staged_more k out place put size long so_far =
      take-put_mid (i * RECORD_SIZE) k out place ((i + 1) * RECORD_SIZE) (omega (arith, size)) (omega (arith, long, within))
      ∙ (λ j. so_far j ++ put j) ∙ sym (ap concat records_more ∙ concat-push (records_of (take i messages)) (record_of (get_or messages i d)))

  pub sized_more : (place : List ℕ) → place ≡ record_of (get_or messages i d) → length place ≡ RECORD_SIZE → AreRows (records_of (take i messages)) → AreRows (records_of (take (i + 1) messages))
  sized_more place put size sized =
      subst AreRows (sym records_more) (AreRows-push (records_of (take i messages)) (record_of (get_or messages i d)) sized (ap length (sym put) ∙ size))
