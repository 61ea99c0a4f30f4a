-- No two held messages are at related places: what a dispatch, a return and a log step do to them.
use Rattle.std.proofs.Common.{◌≡◌, ℕ, true, false, List, [], ◌∷◌, ◌++◌, Some, ap, sym, ◌∙◌, subst, append_assoc}
use Rattle.std.specs.Prelude.{◌&&◌, ◌==◌, not, nat_lt}
use Rattle.std.specs.List.{AllByRecursion, list_any}
use Rattle.std.proofs.lemmas.Bool.{and_parts, not-true}
use Rattle.affinity.specs.declared.geometry.Geometry.{Geometry}
use Rattle.affinity.proofs.Paths.{unrelated_turned}
use Rattle.affinity.proofs.Elements.{all_weaker}
use Rattle.protocol.specs.Messages.{path_of}
use Rattle.meaning.specs.Step.{reply_to}
use Rattle.histories.specs.CoreState.{Entry, CoreState, entries, held, are_related_entries, AreUnrelated}
use Rattle.histories.specs.Eligible.{is_conflict_free, has_room, is_eligible, next_eligible}
use Rattle.histories.specs.Events.{grant, give_back, find_in_flight}
use Rattle.histories.proofs.Lists.{all_none, before_push, before_moved, picked}
use Rattle.histories.proofs.Entries.{entries-append}
use Rattle.histories.proofs.Held.{held_grant}

pub apart_turned : (g : Geometry) (e d : Entry) → are_related_entries g e d ≡ false → are_related_entries g d e ≡ false
apart_turned g e d h = unrelated_turned (path_of g e.1) (path_of g d.1) h

module _ (g : Geometry) (w : CoreState) (found : Entry × List Entry) (first : next_eligible g w ≡ Some found) where
  clear : (not (list_any (are_related_entries g found.0) (held w)) ≡ true)
      × (not (list_any (λ d. nat_lt d.0 found.0.0 && are_related_entries g found.0 d) w.waiting) ≡ true)
  clear = and_parts (not (list_any (are_related_entries g found.0) (held w))) _
      (and_parts (is_conflict_free g w found.0) (has_room w found.0) (picked (is_eligible g w) w.waiting found first).passes).0

  -- what is dispatched is at a place unrelated to those of all that are held
  pub granted_is_free : AllByRecursion (λ d. are_related_entries g found.0 d ≡ false) (held w)
  granted_is_free = all_none (are_related_entries g found.0) (held w) (not-true _ clear.0)

  -- and to those of the waiting messages with smaller tickets
  pub granted_is_first : AllByRecursion (λ d. (nat_lt d.0 found.0.0 && are_related_entries g found.0 d) ≡ false) w.waiting
  granted_is_first = all_none (λ d. nat_lt d.0 found.0.0 && are_related_entries g found.0 d) w.waiting (not-true _ clear.1)

pub grant_apart : (g : Geometry) (w : CoreState) (found : Entry × List Entry) → next_eligible g w ≡ Some found → AreUnrelated g (held w)
    → AreUnrelated g (held (grant w found))
grant_apart g w found h apart =
    let e = found.0 in
    subst (AreUnrelated g) (sym (held_grant w found))
    (before_push (λ e d. are_related_entries g e d ≡ false) (held w) e apart (all_weaker (λ d. are_related_entries g e d ≡ false) (λ d. are_related_entries g d e ≡ false)
    (λ d. apart_turned g e d) (held w) (granted_is_free g w found h)))

pub back_apart : (g : Geometry) (w : CoreState) (ticket : ℕ) (found : Entry × List Entry) → find_in_flight w ticket ≡ Some found
    → AreUnrelated g (held w) → AreUnrelated g (held (give_back g w found))
back_apart g w ticket found h apart =
    let k = picked (λ d. d.0 == ticket) w.in_flight found h in
    let e = found.0 in
    let L = entries w.logged in
    let R = entries w.ran in
    let split : held w ≡ (L ++ R) ++ (k.before ++ e ∷ k.behind) = ap (λ o. L ++ (R ++ o)) k.whole ∙ sym (append_assoc L R _) in
    let moved = before_moved (λ e d. are_related_entries g e d ≡ false) (apart_turned g) (L ++ R) k.before e k.behind
    (subst (AreUnrelated g) split apart) in
    subst (AreUnrelated g)
    (append_assoc L R _ ∙ ap (λ l. L ++ l) (sym (append_assoc R (e ∷ []) (k.before ++ k.behind)) ∙
    (λ i. sym (entries-append w.ran ((e.0, e.1, reply_to g w.committed e.1) ∷ [])) i ++ sym k.rest i)))
    moved
