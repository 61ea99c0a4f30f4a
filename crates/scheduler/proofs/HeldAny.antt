-- Tests of the held messages, as messages arrive, are dispatched, given back and answered.
use Rattle.std.proofs.Common.{◌≡◌, Bool, true, false, List, [], ◌∷◌, ◌++◌, refl, ap, sym, ◌∙◌}
use Rattle.std.specs.Prelude.{◌&&◌, ◌||◌}
use Rattle.std.specs.List.{AllByRecursion, list_any}
use Rattle.std.proofs.lemmas.List.Folds.{list_any-append}
use Rattle.scheduler.specs.Slots.{Phases, SlotView, held_any, queued_of}
use Rattle.run_queue.specs.declared.queued_message.QueuedMessage.{QueuedMessage}
use Rattle.std.proofs.Math.Bool.{or-false, or-true, or_assoc}

or_last : (t l r o : Bool) → (t || (l || (r || o))) ≡ (l || (r || (o || (t || false))))
or_last true l r o = simp or-true
or_last false l r o = simp or-false

or_back : (l r b t c : Bool) → (l || (r || (b || (t || c)))) ≡ (l || ((r || (t || false)) || (b || c)))
or_back l r true t c = simp or-true
or_back l r false t c = simp (or-false, or_assoc)

or_logged : (l f s o : Bool) → (l || ((f || s) || o)) ≡ ((l || f) || (s || o))
or_logged l f s o = simp or_assoc

module _ (test : QueuedMessage → Bool) where
  abbrev t : SlotView → Bool
  t x = test (queued_of x)

  pub any_granted : (l : Phases) (waiting : List SlotView) (x : SlotView)
      → (test (queued_of x) || held_any test l) ≡ held_any test (record l { waiting = waiting; in_flight = l.in_flight ++ x ∷ [] })
  any_granted l waiting x =
      or_last (t x) (list_any t l.logged) (list_any t l.ran) (list_any t l.in_flight)
      ∙ ap (λ b. list_any t l.logged || (list_any t l.ran || b)) (sym (list_any-append t l.in_flight (x ∷ [])))

  pub any_back : (l : Phases) (before : List SlotView) (x y : SlotView) (behind : List SlotView) → l.in_flight ≡ before ++ x ∷ behind → queued_of y ≡ queued_of x
      → held_any test l ≡ held_any test (record l { in_flight = before ++ behind; ran = l.ran ++ y ∷ [] })
  any_back l before x y behind out same =
      ap (λ b. list_any t l.logged || (list_any t l.ran || b)) (ap (list_any t) out ∙ list_any-append t before (x ∷ behind))
      ∙ or_back (list_any t l.logged) (list_any t l.ran) (list_any t before) (t x) (list_any t behind)
      ∙ (λ i. list_any t l.logged || ((list_any t l.ran || (test (sym same i) || false)) || sym (list_any-append t before behind) i))
      ∙ ap (λ b. list_any t l.logged || (b || list_any t (before ++ behind))) (sym (list_any-append t l.ran (y ∷ [])))

  pub any_logged : (l : Phases) (first rest : List SlotView) → l.ran ≡ first ++ rest
      → held_any test l ≡ held_any test (record l { ran = rest; logged = l.logged ++ first })
  any_logged l first rest ran =
      ap (λ b. list_any t l.logged || (b || list_any t l.in_flight)) (ap (list_any t) ran ∙ list_any-append t first rest)
      ∙ or_logged (list_any t l.logged) (list_any t first) (list_any t rest) (list_any t l.in_flight)
      ∙ ap (λ b. b || (list_any t rest || list_any t l.in_flight)) (sym (list_any-append t l.logged first))

-- ---- those that are left of a list

-- where all messages pass the test q, any passes q and `test` exactly if any passes `test`
pub any_passing : (test q : QueuedMessage → Bool) (xs : List SlotView) → AllByRecursion (λ x. q (queued_of x) ≡ true) xs
    → list_any (λ x. q (queued_of x) && test (queued_of x)) xs ≡ list_any (λ x. test (queued_of x)) xs
any_passing test q [] all = refl
any_passing test q (x ∷ xs) all = λ i. (all.0 i && test (queued_of x)) || any_passing test q xs all.1 i

-- the oldest logged message is gone, and the held messages are those without it
pub any_answered : (test q : QueuedMessage → Bool) (l : Phases) {x : SlotView} {behind : List SlotView} → l.logged ≡ x ∷ behind → q (queued_of x) ≡ false
    → AllByRecursion (λ x. q (queued_of x) ≡ true) behind → AllByRecursion (λ x. q (queued_of x) ≡ true) l.ran → AllByRecursion (λ x. q (queued_of x) ≡ true) l.in_flight
    → held_any (λ t. q t && test t) l ≡ held_any test (record l { logged = behind })
any_answered test q l {x} {behind} logged first behinds rans outs =
    (λ i. list_any (λ x. q (queued_of x) && test (queued_of x)) (logged i) || (any_passing test q l.ran rans i || any_passing test q l.in_flight outs i))
    ∙ (λ i. ((first i && test (queued_of x)) || any_passing test q behind behinds i) || (list_any (λ x. test (queued_of x)) l.ran || list_any (λ x. test (queued_of x)) l.in_flight))
