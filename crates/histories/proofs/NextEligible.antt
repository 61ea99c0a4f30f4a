-- A message that is dispatched is at a place unrelated to those of the waiting messages with smaller tickets.
use Rattle.std.proofs.Common.{◌≡◌, ◌<◌, true, false, List, [], ◌∷◌, Some, ap, sym, ◌∙◌, subst, ⊎_elim, true≢false}
use Rattle.std.specs.Prelude.{◌&&◌, nat_lt}
use Rattle.std.specs.List.{AllByRecursion}
use Rattle.std.proofs.lemmas.Bool.{lt-ltb}
use Rattle.affinity.specs.declared.geometry.Geometry.{Geometry}
use Rattle.histories.specs.CoreState.{Entry, CoreState, are_related_entries, AreAscending}
use Rattle.histories.specs.Eligible.{is_eligible, next_eligible}
use Rattle.histories.specs.IsSoundCoreState.{IsSoundCoreState}
use Rattle.histories.proofs.AreUnrelated.{apart_turned, granted_is_first}
use Rattle.histories.proofs.Elements.{holds_of, IsIn, in_either}
use Rattle.histories.proofs.Lists.{all_front, before_back, before_one, picked}

module _ (g : Geometry) where
  -- if no message of us is related to e and has a smaller ticket, and all have smaller tickets, none is related to e
  free_of : (e : Entry) (us : List Entry) → AllByRecursion (λ d. (nat_lt d.0 e.0 && are_related_entries g e d) ≡ false) us
      → AllByRecursion (λ d. d.0 < e.0) us → AllByRecursion (λ d. are_related_entries g e d ≡ false) us
  free_of e [] h j = tt
  free_of e (u ∷ us) h j = (ap (λ b. b && are_related_entries g e u) (sym (lt-ltb u.0 e.0 j.0)) ∙ h.0, free_of e us h.1 j.1)

  pub earlier_free : (w : CoreState) (found : Entry × List Entry) → IsSoundCoreState g w → (first : next_eligible g w ≡ Some found)
      → AllByRecursion (λ d. are_related_entries g found.0 d ≡ false) (picked (is_eligible g w) w.waiting found first).before
  earlier_free w found h first =
      let k = picked (is_eligible g w) w.waiting found first in
      let one = found.0 in
      free_of one k.before (all_front (λ d. (nat_lt d.0 one.0 && are_related_entries g one d) ≡ false) k.before (one ∷ k.behind)
      (subst (AllByRecursion (λ d. (nat_lt d.0 one.0 && are_related_entries g one d) ≡ false)) k.whole (granted_is_first g w found first)))
      (before_one (λ e d. e.0 < d.0) k.before one k.behind (subst AreAscending k.whole h.ascending))

  -- If a message e that goes on waiting is related to the one that is dispatched, that one has the smaller ticket.
  pub goes_first : (e : Entry) (w : CoreState) (found : Entry × List Entry) → IsSoundCoreState g w → next_eligible g w ≡ Some found → IsIn e found.1
      → are_related_entries g e found.0 ≡ true → nat_lt found.0.0 e.0 ≡ true
  goes_first e w found h first is touching =
      let k = picked (is_eligible g w) w.waiting found first in
      ⊎_elim
      (λ before. absurd (true≢false (sym touching ∙ apart_turned g found.0 e (holds_of _ k.before (earlier_free w found h first) e before))))
      (λ behind. lt-ltb found.0.0 e.0 (holds_of (λ d. found.0.0 < d.0) k.behind (before_back (λ e d. e.0 < d.0) k.before (found.0 ∷ k.behind)
      (subst AreAscending k.whole h.ascending)).0 e behind))
      (in_either e k.before k.behind (subst (IsIn e) k.rest is))
