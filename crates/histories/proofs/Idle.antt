-- A core state in which nothing waits and nothing is held is sound.
use Rattle.std.proofs.Common.{◌≡◌, ◌<◌, List, [], ◌∷◌, ◌++◌, refl, ap, sym, subst, length, arith}
use Rattle.std.specs.List.{AllByRecursion}
use Rattle.affinity.specs.declared.geometry.Geometry.{Geometry}
use Rattle.histories.specs.CoreState.{Replied, CoreState, entries, AreUnrelated, AreAscending, HaveDistinctTickets, IsIdle}
use Rattle.histories.specs.Eligible.{unlogged_changes}
use Rattle.histories.specs.IsSoundCoreState.{HaveRepliesAt, IsSoundCoreState}

-- if a list is empty, so is its second part
pub none_behind : {A : Type 0} (xs ys : List A) → xs ++ ys ≡ [] → ys ≡ []
none_behind [] ys e = e
none_behind (x ∷ xs) ys e = cc

none_before : {A : Type 0} (xs ys : List A) → xs ++ ys ≡ [] → xs ≡ []
none_before [] ys e = refl
none_before (x ∷ xs) ys e = cc

none_replied : (as' : List Replied) → entries as' ≡ [] → as' ≡ []
none_replied [] e = refl
none_replied (a ∷ as') e = cc

module _ (w : CoreState) (h : IsIdle w) where
  pub none_in_flight : w.in_flight ≡ []
  none_in_flight = none_behind (entries w.ran) w.in_flight (none_behind (entries w.logged) _ h.none_held)

  pub none_ran : w.ran ≡ []
  none_ran = none_replied w.ran (none_before (entries w.ran) w.in_flight (none_behind (entries w.logged) _ h.none_held))

  pub none_logged : w.logged ≡ []
  none_logged = none_replied w.logged (none_before (entries w.logged) (entries w.ran ++ w.in_flight) h.none_held)

  none_to_come : w.in_flight ++ w.waiting ≡ []
  none_to_come = λ i. none_in_flight i ++ h.none_waits i

  pub few : unlogged_changes w ≡ 0
  few = λ i. unlogged_changes (record w { in_flight = none_in_flight i; ran = none_ran i })

  pub idle_sound : (g : Geometry) → IsSoundCoreState g w
  idle_sound g =
      let none = few in
      let waits = ap length h.none_waits in
      let holds = ap length h.none_held in
      record {
        apart = subst (AreUnrelated g) (sym h.none_held) tt;
        replied = subst (HaveRepliesAt g w.committed) (sym none_ran) tt;
        ascending = subst AreAscending (sym h.none_waits) tt;
        once = subst HaveDistinctTickets (sym none_to_come) tt;
        given = subst (AllByRecursion (λ e. e.0 < w.next)) (sym none_to_come) tt;
        room = omega (arith, none);
        fits = omega (arith, waits, holds);
      }
