-- Lists of messages: their replies, and what stays where a message moves past unrelated ones.
use Rattle.std.proofs.Common.{◌≡◌, ℕ, true, false, List, [], ◌∷◌, ◌++◌, refl, ap, sym, ◌∙◌, subst, map, inl, inr, ⊎_elim}
use Rattle.std.specs.Prelude.{filter, cond}
use Rattle.std.specs.List.{AllByRecursion}
use Rattle.affinity.specs.declared.geometry.Geometry.{Geometry}
use Rattle.protocol.specs.declared.messages.Msg.{Msg}
use Rattle.protocol.specs.declared.replies.Reply.{Reply}
use Rattle.meaning.specs.State.{State}
use Rattle.meaning.specs.Step.{reply_to, next_state, state_after_all, is_recorded}
use Rattle.meaning.specs.TicketOrder.{serial_replies, messages_of}
use Rattle.meaning.proofs.Commute.{commute, same_reply}
use Rattle.meaning.proofs.IsRecorded.{unrecorded_changes_nothing}
use Rattle.histories.specs.CoreState.{Entry, Replied, entry, entries, are_related_entries, AreUnrelated}
use Rattle.histories.specs.Events.{recorded}
use Rattle.histories.specs.IsSoundCoreState.{HaveRepliesAt}
use Rattle.histories.specs.IsSerialHistory.{ticket_replies}
use Rattle.histories.proofs.AreUnrelated.{apart_turned}
use Rattle.histories.proofs.Elements.{IsIn, in_left, in_right, in_either}

-- ---- lists after one another

pub state_after_all-append : (g : Geometry) (x : State) (es fs : List Entry)
    → state_after_all g x (messages_of (es ++ fs)) ≡ state_after_all g (state_after_all g x (messages_of es)) (messages_of fs)
state_after_all-append g x [] fs = refl
state_after_all-append g x (e ∷ es) fs = state_after_all-append g (next_state g x e.1) es fs

pub state_after_all-joined : (g : Geometry) (x : State) (ms ns : List Msg) → state_after_all g x (ms ++ ns) ≡ state_after_all g (state_after_all g x ms) ns
state_after_all-joined g x [] ns = refl
state_after_all-joined g x (m ∷ ms) ns = state_after_all-joined g (next_state g x m) ms ns

pub serial_replies-append : (g : Geometry) (x : State) (es fs : List Entry) → serial_replies g x (es ++ fs) ≡ serial_replies g x es ++ serial_replies g (state_after_all g x (messages_of es)) fs
serial_replies-append g x [] fs = refl
serial_replies-append g x (e ∷ es) fs = ap (λ l. (e.0, reply_to g x e.1) ∷ l) (serial_replies-append g (next_state g x e.1) es fs)

pub ticket_replies-append : (as' bs : List Replied) → ticket_replies (as' ++ bs) ≡ ticket_replies as' ++ ticket_replies bs
ticket_replies-append [] bs = refl
ticket_replies-append (a ∷ as') bs = ap (λ l. (a.0, a.2) ∷ l) (ticket_replies-append as' bs)

-- ---- messages in a row

module _ (g : Geometry) where
  pub still_replied : (x : State) (a : Replied) (as' : List Replied) → AllByRecursion (λ d. are_related_entries g (entry a) d ≡ false) (entries as')
      → HaveRepliesAt g x as' → HaveRepliesAt g (next_state g x a.1) as'
  still_replied x a [] apart h = tt
  still_replied x a (d ∷ as') apart h =
      (h.0 ∙ sym (same_reply g x d.1 a.1 (apart_turned g (entry a) (entry d) apart.0)), still_replied x a as' apart.1 h.1)

  -- The messages `first` have the replies at state x also if they run one after the other, the changes among them lead to the same state as
  -- all, and the replies of `rest`, which were those at x, are those at that state. It is so if no two messages are related.
  pub record InARow (x : State) (first rest : List Replied) : Type 0 where
    pub reply_pairs : serial_replies g x (entries first) ≡ ticket_replies first
    pub logs : state_after_all g x (recorded first) ≡ state_after_all g x (messages_of (entries first))
    pub still : HaveRepliesAt g (state_after_all g x (messages_of (entries first))) rest

  pub in_a_row : (x : State) (first rest : List Replied) → AreUnrelated g (entries (first ++ rest)) → HaveRepliesAt g x (first ++ rest)
      → InARow x first rest
  in_a_row x [] rest apart h = record { reply_pairs = refl; logs = refl; still = h }
  in_a_row x (a ∷ first) rest apart h =
      let k = in_a_row (next_state g x a.1) first rest apart.1 (still_replied x a (first ++ rest) apart.0 h.1) in
      record {
        reply_pairs = λ i. (a.0, sym h.0 i) ∷ k.reply_pairs i;
        logs = elim (is_recorded a.1 a.2) as
            (λ b. is_recorded a.1 a.2 ≡ b → state_after_all g x (map
            (λ (a : Replied). a.1) (cond b (a ∷ filter (λ a. is_recorded a.1 a.2) first) (filter (λ a. is_recorded a.1 a.2) first)))
            ≡ state_after_all g (next_state g x a.1) (messages_of (entries first))) [
              | true ↦ λ e. k.logs
              | false ↦ λ e. ap (λ y. state_after_all g y (recorded first)) (sym (unrecorded_changes_nothing g x a.1 (ap (is_recorded a.1) (sym h.0)
                  ∙ e))) ∙ k.logs
            ] refl;
        still = k.still;
      }

-- ---- one list as good as another

-- The list es leads to the state to which fs leads, and has each reply that fs has.
pub record IsAsGood (g : Geometry) (x : State) (es fs : List Entry) : Type 0 where
  pub state : state_after_all g x (messages_of es) ≡ state_after_all g x (messages_of fs)
  pub tells : (p : ℕ × Reply) → IsIn p (serial_replies g x fs) → IsIn p (serial_replies g x es)

module _ (g : Geometry) where
  pub good_itself : (x : State) (es : List Entry) → IsAsGood g x es es
  good_itself x es = record { state = refl; tells = λ p h. h }

  pub good_on : (x : State) (es fs ds : List Entry) → IsAsGood g x es fs → IsAsGood g x fs ds → IsAsGood g x es ds
  good_on x es fs ds h j = record { state = h.state ∙ j.state; tells = λ p r. h.tells p (j.tells p r) }

  pub good_push : (x : State) (es fs : List Entry) (e : Entry) → IsAsGood g x es fs → IsAsGood g x (es ++ e ∷ []) (fs ++ e ∷ [])
  good_push x es fs e h = record {
    state = state_after_all-append g x es (e ∷ []) ∙ ap (λ y. next_state g y e.1) h.state ∙ sym (state_after_all-append g x fs (e ∷ []));
    tells = λ p r. subst (IsIn p) (sym (serial_replies-append g x es (e ∷ [])))
        (⊎_elim (λ l. in_left p (serial_replies g x es) _ (h.tells p l))
        (λ k. in_right p (serial_replies g x es) _ (subst (λ y. IsIn p (serial_replies g y (e ∷ []))) (sym h.state) k))
        (in_either p (serial_replies g x fs) _ (subst (IsIn p) (serial_replies-append g x fs (e ∷ [])) r)));
  }

  -- message e moves to the front, past unrelated ones
  good_first : (x : State) (us : List Entry) (e : Entry) (vs : List Entry) → AllByRecursion (λ d. are_related_entries g e d ≡ false) us
      → IsAsGood g x (us ++ e ∷ vs) (e ∷ (us ++ vs))
  good_first x [] e vs h = good_itself x (e ∷ vs)
  good_first x (u ∷ us) e vs h =
      let k = good_first (next_state g x u.1) us e vs h.1 in
      let c = commute g x e.1 u.1 h.0 in
      record {
        state = k.state ∙ ap (λ y. state_after_all g y (messages_of (us ++ vs))) (sym c.state);
        tells = λ p r. ⊎_elim
            (λ is. inr (k.tells p (inl (is ∙ ap (λ r. (e.0, r)) (sym c.first)))))
            (λ r. ⊎_elim (λ is. inl (is ∙ ap (λ r. (u.0, r)) c.second))
            (λ t. inr (k.tells p (inr (subst (λ y. IsIn p (serial_replies g y (us ++ vs))) c.state t)))) r)
            r;
      }

  good_after : (x : State) (ps es fs : List Entry) → ((y : State) → IsAsGood g y es fs) → IsAsGood g x (ps ++ es) (ps ++ fs)
  good_after x [] es fs h = h x
  good_after x (p' ∷ ps) es fs h =
      let k = good_after (next_state g x p'.1) ps es fs h in
      record { state = k.state; tells = λ p r. ⊎_elim (λ is. inl is) (λ t. inr (k.tells p t)) r }

  pub good_moved : (x : State) (ps us : List Entry) (e : Entry) (vs : List Entry) → AllByRecursion (λ d. are_related_entries g e d ≡ false) us
      → IsAsGood g x (ps ++ (us ++ e ∷ vs)) (ps ++ e ∷ (us ++ vs))
  good_moved x ps us e vs h = good_after x ps _ _ (λ y. good_first y us e vs h)
