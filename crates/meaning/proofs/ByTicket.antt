-- In any order that keeps related messages in ticket order, each gets the reply that it gets in ticket order, and the state is the same.
use Rattle.std.proofs.Common.{◌≡◌, ℕ, ◌<◌, true, false, List, [], ◌∷◌, refl, ap, sym, ◌∙◌, arith}
use Rattle.std.specs.Prelude.{nat_lt, if◌then◌else◌, IsPermutation}
use Rattle.std.specs.List.{AllByRecursion}
use Rattle.std.proofs.lemmas.Bool.{lt-ltb, true≢false, false_from_ne_true}
use Rattle.std.proofs.lemmas.List.Sorted.{IsPermutation-refl, IsPermutation-cons, IsPermutation-middle, IsPermutation-trans}
use Rattle.affinity.specs.declared.geometry.Geometry.{Geometry}
use Rattle.affinity.specs.Path.{are_related}
use Rattle.affinity.proofs.Elements.{all_weaker}
use Rattle.protocol.specs.declared.messages.Msg.{Msg}
use Rattle.protocol.specs.Messages.{path_of}
use Rattle.meaning.specs.State.{State}
use Rattle.meaning.specs.Step.{reply_to, next_state, state_after_all}
use Rattle.meaning.specs.TicketOrder.{serial_replies, messages_of, inserted_by_ticket, by_ticket, InOrderIfRelated, KeepsOrder, SameByTicket, AreInOrder}
use Rattle.meaning.proofs.Commute.{commute}

module _ {A : Type 0} (P : ℕ × A → Type 0) where
  all-put : (e : ℕ × A) (ds : List (ℕ × A)) → P e → AllByRecursion P ds → AllByRecursion P (inserted_by_ticket e ds)
  all-put e [] p h = (p, h)
  all-put e (d ∷ ds) p h = elim (nat_lt e.0 d.0) as (λ b. AllByRecursion P (if b then e ∷ d ∷ ds else d ∷ inserted_by_ticket e ds)) [ true ↦ (p, h) | false ↦ (h.0, all-put e ds p h.1) ]

  pub all-by_ticket : (es : List (ℕ × A)) → AllByRecursion P es → AllByRecursion P (by_ticket es)
  all-by_ticket [] h = h
  all-by_ticket (e ∷ es) h = all-put e (by_ticket es) h.0 (all-by_ticket es h.1)

-- each ticket is less than those after it
abbrev pub AreAscending : {A : Type 0} → List (ℕ × A) → Type 0
AreAscending [] = Unit {0}
AreAscending (e ∷ es) = AllByRecursion (λ d. e.0 < d.0) es × AreAscending es

-- ---- the order by ticket is an order, of the same elements

module _ {A : Type 0} where
  in_order-put : (e : ℕ × A) (ds : List (ℕ × A)) → AreInOrder ds → AreInOrder (inserted_by_ticket e ds)
  in_order-put e [] h = (tt, tt)
  in_order-put e (d ∷ ds) h = grind (arith, in_order-put e ds h.1, all_weaker, all-put)

  pub in_order-by_ticket : (es : List (ℕ × A)) → AreInOrder (by_ticket es)
  in_order-by_ticket [] = tt
  in_order-by_ticket (e ∷ es) = in_order-put e (by_ticket es) (in_order-by_ticket es)

  permutation-put : (e : ℕ × A) (ds : List (ℕ × A)) → IsPermutation (e ∷ ds) (inserted_by_ticket e ds)
  permutation-put e [] = IsPermutation-refl (e ∷ [])
  permutation-put e (d ∷ ds) =
      elim (nat_lt e.0 d.0) as (λ b. IsPermutation (e ∷ d ∷ ds) (if b then e ∷ d ∷ ds else d ∷ inserted_by_ticket e ds)) [
        | true ↦ IsPermutation-refl (e ∷ d ∷ ds)
        | false ↦ IsPermutation-trans (e ∷ d ∷ ds) (d ∷ e ∷ ds) (d ∷ inserted_by_ticket e ds) (IsPermutation-middle (e ∷ []) d ds)
            (IsPermutation-cons d (e ∷ ds) (inserted_by_ticket e ds) (permutation-put e ds))
      ]

  pub permutation-by_ticket : (es : List (ℕ × A)) → IsPermutation es (by_ticket es)
  permutation-by_ticket [] = IsPermutation-refl []
  permutation-by_ticket (e ∷ es) =
      IsPermutation-trans (e ∷ es) (e ∷ by_ticket es) (inserted_by_ticket e (by_ticket es)) (IsPermutation-cons e es (by_ticket es) (permutation-by_ticket es)) (permutation-put e (by_ticket es))

  -- a list that is in order already
  put_first : (e : ℕ × A) (ds : List (ℕ × A)) → AllByRecursion (λ d. e.0 < d.0) ds → inserted_by_ticket e ds ≡ e ∷ ds
  put_first e [] h = refl
  put_first e (d ∷ ds) h = ap (λ b. if b then e ∷ d ∷ ds else d ∷ inserted_by_ticket e ds) (lt-ltb e.0 d.0 h.0)

  pub by_ticket-ascending : (es : List (ℕ × A)) → AreAscending es → by_ticket es ≡ es
  by_ticket-ascending [] h = refl
  by_ticket-ascending (e ∷ es) h = ap (inserted_by_ticket e) (by_ticket-ascending es h.1) ∙ put_first e es h.0

-- ---- the replies

-- where e comes before d, and in order if they are related, but has no smaller ticket, the two are at unrelated places
unrelated : (g : Geometry) (e d : ℕ × Msg) → InOrderIfRelated g e d → nat_lt e.0 d.0 ≡ false → are_related (path_of g e.1) (path_of g d.1) ≡ false
unrelated g e d h late = false_from_ne_true _ (λ r. true≢false (sym (lt-ltb e.0 d.0 (h r)) ∙ late))

module _ (g : Geometry) (e : ℕ × Msg) where
  -- the replies are the same if the first message comes later, where its ticket puts it
  pub serial_replies-put : (x : State) (ds : List (ℕ × Msg)) → AllByRecursion (InOrderIfRelated g e) ds → serial_replies g x (inserted_by_ticket e ds)
      ≡ inserted_by_ticket (e.0, reply_to g x e.1) (serial_replies g (next_state g x e.1) ds)
  serial_replies-put x [] h = refl
  serial_replies-put x (d ∷ ds) h =
      let rest = serial_replies-put (next_state g x d.1) ds h.1 in
      elim (nat_lt e.0 d.0) as (λ b. nat_lt e.0 d.0 ≡ b
      → serial_replies g x (if b then e ∷ d ∷ ds else d ∷ inserted_by_ticket e ds)
      ≡ (if b then (e.0, reply_to g x e.1) ∷ serial_replies g (next_state g x e.1) (d ∷ ds) else (d.0, reply_to g (next_state g x e.1) d.1)
      ∷ inserted_by_ticket (e.0, reply_to g x e.1) (serial_replies g (next_state g (next_state g x e.1) d.1) ds))) [
        | true ↦ λ late. refl
        | false ↦ λ late.
            let c = commute g x e.1 d.1 (unrelated g e d h.0 late) in
            λ i. ◌∷◌ (d.0, (sym c.second) i) ((rest ∙ (λ j. inserted_by_ticket (e.0, c.first j) (serial_replies g (sym c.state j) ds))) i)
      ] refl

  pub state_after_all-put : (x : State) (ds : List (ℕ × Msg)) → AllByRecursion (InOrderIfRelated g e) ds → state_after_all g x (messages_of (inserted_by_ticket e ds))
      ≡ state_after_all g (next_state g x e.1) (messages_of ds)
  state_after_all-put x [] h = refl
  state_after_all-put x (d ∷ ds) h =
      elim (nat_lt e.0 d.0) as
      (λ b. nat_lt e.0 d.0 ≡ b → state_after_all g x (messages_of (if b then e ∷ d ∷ ds else d ∷ inserted_by_ticket e ds))
      ≡ state_after_all g (next_state g (next_state g x e.1) d.1) (messages_of ds)) [
        | true ↦ λ late. refl
        | false ↦ λ late. state_after_all-put (next_state g x d.1) ds h.1 ∙ ap (λ y. state_after_all g y (messages_of ds)) (sym (commute g x e.1 d.1 (unrelated g e d h.0 late)).state)
      ] refl

pub serial_replies-by_ticket : (g : Geometry) (x : State) (es : List (ℕ × Msg)) → KeepsOrder g es → serial_replies g x (by_ticket es) ≡ by_ticket (serial_replies g x es)
serial_replies-by_ticket g x [] h = refl
serial_replies-by_ticket g x (e ∷ es) h = serial_replies-put g e x (by_ticket es) (all-by_ticket (InOrderIfRelated g e) es h.0)
    ∙ ap (inserted_by_ticket (e.0, reply_to g x e.1)) (serial_replies-by_ticket g (next_state g x e.1) es h.1)

pub state_after_all-by_ticket : (g : Geometry) (x : State) (es : List (ℕ × Msg)) → KeepsOrder g es → state_after_all g x (messages_of (by_ticket es)) ≡ state_after_all g x (messages_of es)
state_after_all-by_ticket g x [] h = refl
state_after_all-by_ticket g x (e ∷ es) h = state_after_all-put g e x (by_ticket es) (all-by_ticket (InOrderIfRelated g e) es h.0) ∙ state_after_all-by_ticket g (next_state g x e.1) es h.1

pub same_by_ticket : (g : Geometry) (x : State) (es : List (ℕ × Msg)) → KeepsOrder g es → SameByTicket g x es
same_by_ticket g x es h = record { replies = serial_replies-by_ticket g x es h; state = state_after_all-by_ticket g x es h }
