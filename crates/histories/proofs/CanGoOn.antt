-- Something can always be done: if nothing is held, the message with the least ticket lacks at most room in the log.
use Rattle.std.proofs.Common.{◌≡◌, ℕ, ◌<◌, ◌≤◌, zero, suc, true, false, List, [], ◌∷◌, ◌++◌, Option, Some, None, refl, ap, sym, ◌∙◌, subst, length, inl, inr, ◌⊎◌, ⊎_elim, arith}
use Rattle.std.specs.Prelude.{◌&&◌, ◌||◌, not, if◌then◌else◌, is_none, is_some, nat_lt}
use Rattle.std.specs.List.{list_any}
use Rattle.std.proofs.lemmas.Bool.{ltb-true, lt-ltb, false_from_ne_true}
use Rattle.std.proofs.Math.Bool.{or-true}
use Rattle.affinity.specs.declared.geometry.Geometry.{Geometry}
use Rattle.histories.specs.declared.outcomes.Outcome.TheVariants as outcomes
use Rattle.histories.specs.declared.outcomes.PointRefusal.TheVariants as points
use Rattle.histories.specs.CoreState.{Entry, Replied, CoreState, entries, held, are_related_entries, AreAscending, IsIdle}
use Rattle.histories.specs.Eligible.{changes, has_room, is_conflict_free, is_eligible, lacks_only_room, next_eligible, pick, unlogged_changes}
use Rattle.histories.specs.Events.{grant_refusal, point_refusal, unfinished_refusal, unless_refused}
use Rattle.histories.specs.IsSoundCoreState.{IsSoundCoreState}
use Rattle.histories.specs.Progress.{CanGoOn, CanReturn, CanLog, CanAnswer, CanDispatch, CanMakeRoom, CanEndCheckpoint, IsBusy, MayGoOn, NeedsCheckpoint}
use Rattle.affinity.proofs.Elements.{all_weaker}
use Rattle.histories.proofs.Lists.{any_none, pick_first, pick_none}
use Rattle.histories.proofs.Idle.{few}

pub not_less : (a b : ℕ) → a ≤ b → nat_lt b a ≡ false
not_less a b h = false_from_ne_true (nat_lt b a) (λ e. let less = ltb-true b a e in absurd (omega (arith, h, less)))

module _ (g : Geometry) where
  -- The waiting message with the least ticket is conflict-free if nothing is held.
  pub least_is_free : (w : CoreState) (e : Entry) (rest : List Entry) → IsSoundCoreState g w → held w ≡ [] → w.waiting ≡ e ∷ rest
      → is_conflict_free g w e ≡ true
  least_is_free w e rest sound none front =
      let ascending : AreAscending (e ∷ rest) = subst AreAscending front sound.ascending in
      let first = ap (λ b. (b && are_related_entries g e e) || list_any (λ d. nat_lt d.0 e.0 && are_related_entries g e d) rest)
      (not_less e.0 e.0 (omega arith)) ∙ any_none _ rest (all_weaker (λ d. e.0 < d.0) _
      (λ d less. ap (λ b. b && are_related_entries g e d) (not_less e.0 d.0 (omega (arith, less)))) rest ascending.0) in
      (λ i. not (list_any (are_related_entries g e) (none i)) && not (list_any (λ d. nat_lt d.0 e.0 && are_related_entries g e d) (front i)))
      ∙ ap not first

  -- Nothing that is in flight or ran needs a record if nothing is held.
  none_unlogged : (w : CoreState) → held w ≡ [] → unlogged_changes w ≡ 0
  none_unlogged w none = few (record w { waiting = [] }) (record { none_waits = refl; none_held = none })

  module _ (w : CoreState) (e : Entry) (rest : List Entry) (sound : IsSoundCoreState g w) (none : held w ≡ []) (front : w.waiting ≡ e ∷ rest) where
    -- with a half of the log free, the message with the least ticket is eligible
    pub eligible_with_half : is_some (next_eligible g (record w { room = g.half })) ≡ true
    eligible_with_half =
        let fresh : CoreState = record w { room = g.half } in
        let free = least_is_free w e rest sound none front in
        let roomy : has_room fresh e ≡ true = ap (λ n. not (changes e.1) || nat_lt n g.half) (none_unlogged w none)
        ∙ ap (λ b. not (changes e.1) || b) (lt-ltb 0 g.half (omega (arith, g.half_range.0))) ∙ or-true (not (changes e.1)) in
        let both : is_eligible g fresh e ≡ true = λ i. free i && roomy i in
        ap (λ l. is_some (pick (is_eligible g fresh) l)) front ∙ ap is_some (pick_first (is_eligible g fresh) e rest both)

    -- where nothing is eligible, it lacks room
    lacks_room : next_eligible g w ≡ None → grant_refusal g w ≡ outcomes.NoRoom
    lacks_room nothing =
        let free = least_is_free w e rest sound none front in
        let kept : is_eligible g w e ≡ false = pick_none (is_eligible g w) e rest (ap (pick (is_eligible g w)) (sym front) ∙ nothing) in
        let roomless : has_room w e ≡ false = ap (λ b. b && has_room w e) (sym free) ∙ kept in
        let lacks : lacks_only_room g w e ≡ true = λ i. free i && not (roomless i) in
        ap (λ l. if list_any (lacks_only_room g w) l then outcomes.NoRoom else outcomes.NoneEligible) front
        ∙ ap (λ b. if b || list_any (lacks_only_room g w) rest then outcomes.NoRoom else outcomes.NoneEligible) lacks

    -- where no checkpoint is in progress, the next one makes room
    pub needs : w.failed ≡ false → next_eligible g w ≡ None → NeedsCheckpoint g (record w { pieces_left = None })
    needs works nothing =
        let ended : CoreState = record w { pieces_left = None } in
        let may_begin : point_refusal ended ≡ None =
        λ i. if works i then Some points.Failed else if nat_lt 0 (length (none i)) then Some points.Held else None in
        record {
          none = nothing;
          no_room = lacks_room nothing;
          may_begin = may_begin;
          after_point = subst (λ r. is_some (next_eligible g (unless_refused ended r (outcomes.Pointed, record ended { room = g.half })).1) ≡ true)
              (sym may_begin) eligible_with_half;
          after_cut = λ n. subst
              (λ r. is_some (next_eligible g (unless_refused ended r (outcomes.Cut, record ended { room = g.half; pieces_left = Some n })).1) ≡ true)
              (sym may_begin) eligible_with_half;
        }

  module _ (w : CoreState) (sound : IsSoundCoreState g w) (works : w.failed ≡ false) where
    pub may_go_on : (n : ℕ) → w.pieces_left ≡ Some n → MayGoOn w (Some n)
    may_go_on zero e = λ i. if works i then Some points.Failed else unfinished_refusal (e i)
    may_go_on (suc n) e = λ i. if works i then Some points.Failed else if is_none (e i) then Some points.NotRunning else None

    -- Something waits, and nothing is held.
    unheld : (found : Option (Entry × List Entry)) (pieces_left : Option ℕ) (e : Entry) (rest : List Entry) → next_eligible g w ≡ found
        → w.pieces_left ≡ pieces_left → held w ≡ [] → w.waiting ≡ e ∷ rest → CanGoOn g w
    unheld (Some found) pieces_left e rest first is none front = CanDispatch (ap is_some first)
    unheld None None e rest first is none front =
        CanMakeRoom (subst (NeedsCheckpoint g) (λ i. record w { pieces_left = sym is i }) (needs w e rest sound none front works first))
    unheld None (Some n) e rest first is none front =
        CanEndCheckpoint (subst (MayGoOn w) (sym is) (may_go_on n is)) (needs w e rest sound none front works first)

    by_lists : (logged ran : List Replied) (in_flight waiting : List Entry) → w.logged ≡ logged → w.ran ≡ ran → w.in_flight ≡ in_flight
        → w.waiting ≡ waiting → IsIdle w ⊎ CanGoOn g w
    by_lists (a ∷ as') ran in_flight waiting l r f v = inr (CanAnswer (subst (λ l. 0 < length l) (sym l) (omega arith)))
    by_lists [] (a ∷ as') in_flight waiting l r f v = inr (CanLog (subst (λ l. 0 < length l) (sym r) (omega arith)))
    by_lists [] [] (e ∷ es) waiting l r f v = inr (CanReturn (subst (λ l. 0 < length l) (sym f) (omega arith)))
    by_lists [] [] [] (e ∷ rest) l r f v =
        inr (unheld (next_eligible g w) w.pieces_left e rest refl refl (λ i. entries (l i) ++ (entries (r i) ++ f i)) v)
    by_lists [] [] [] [] l r f v = inl (record { none_waits = v; none_held = λ i. entries (l i) ++ (entries (r i) ++ f i) })

    -- Nothing waits and nothing is held, or something can be done.
    pub idle_or_goes_on : IsIdle w ⊎ CanGoOn g w
    idle_or_goes_on = by_lists w.logged w.ran w.in_flight w.waiting refl refl refl refl

  pub can_go_on : (w : CoreState) → IsSoundCoreState g w → w.failed ≡ false → IsBusy w → CanGoOn g w
  can_go_on w sound works busy =
      ⊎_elim (λ (idle : IsIdle w). let waits = ap length idle.none_waits in let holds = ap length idle.none_held in absurd (omega (arith, waits, holds, busy)))
      (λ can. can) (idle_or_goes_on w sound works)
