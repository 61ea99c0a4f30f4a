-- The messages that ran: one after the other on their chain, and moved to the chain of those that are logged.
use Rattle.std.proofs.Common.{◌≡◌, ◌≢◌, ℕ, suc, ◌+◌, ◌<◌, List, [], ◌∷◌, ◌++◌, length, take, drop, Some, None, sym, ap, subst, ◌∙◌, arith, append_assoc, rules}
use Rattle.arena.specs.Lists.{first_of, without}
use Rattle.arena.specs.ArenaView.{ArenaView, IsPartitioned, after_move, chain_at, front_of}
use Rattle.arena.proofs.ArenaLemmas.{chain-front}
use Rattle.scheduler.proofs.Chains.{chain_joined, chain_left, chain_stays, four_moved, arena_moved}
use Rattle.scheduler.proofs.Lists.{take_more, drop_more}
use Rattle.scheduler.specs.HasLogged.{HasLogged}
use Rattle.scheduler.specs.Slots.{HasChains}
use Rattle.scheduler.specs.declared.core_memory.Slot.{Slot}
use Rattle.scheduler.specs.declared.core_memory.TheConstants.{WAITING, IN_FLIGHT, RAN, LOGGED}
use Rattle.std.proofs.lemmas.List.{append-nil}

-- ---- one more of the first ones

-- ---- what ran is logged

pub none_logged : (arena : ArenaView Slot) → HasChains arena → HasLogged 0 arena arena
none_logged arena is = let logged = sym (append-nil (chain_at arena LOGGED)) in search (rules, logged, is)

pub some_first : (xs : List ℕ) → 0 < length xs → first_of xs ≡ None → ⊥
some_first [] some none = omega (arith, some)
some_first (x ∷ xs) some none = absurd (cc)

pub first_is_there : (arena : ArenaView Slot) → 0 < length (chain_at arena RAN) → front_of arena RAN ≡ None → ⊥
first_is_there arena some none = some_first (chain_at arena RAN) some none

module _ (arena : ArenaView Slot) (is : HasChains arena) (i : ℕ) (first : front_of arena RAN ≡ Some i) (partitioned : IsPartitioned (after_move arena i LOGGED)) where
  whole : chain_at arena RAN ≡ [] ++ i ∷ without i (chain_at arena RAN)
  whole = chain-front arena i RAN is.partitioned first

  there : LOGGED < length arena.chains
  there = let chain_count = is.chain_count in omega (arith, chain_count)

  other : ◌≢◌ {A = ℕ} LOGGED RAN
  other same = omega (arith, same)

  pub first_logged : HasLogged 1 arena (after_move arena i LOGGED)
  first_logged = record {
    ran = chain_left arena is.partitioned i RAN LOGGED there other [] (without i (chain_at arena RAN)) whole ∙ sym (ap (λ (l : List ℕ). drop 1 l) whole);
    logged = chain_joined arena is.partitioned i RAN LOGGED there other [] (without i (chain_at arena RAN)) whole ∙ sym (ap (λ (l : List ℕ). chain_at arena LOGGED ++ take 1 l) whole);
    waiting = chain_stays arena is.partitioned i RAN LOGGED there other [] (without i (chain_at arena RAN)) whole WAITING (λ same. omega (arith, same)) (λ same. omega (arith, same));
    in_flight = chain_stays arena is.partitioned i RAN LOGGED there other [] (without i (chain_at arena RAN)) whole IN_FLIGHT (λ same. omega (arith, same)) (λ same. omega (arith, same));
    values = ap (λ (r : ArenaView Slot). r.values) (arena_moved arena is.partitioned i RAN LOGGED there other [] (without i (chain_at arena RAN)) whole);
    free = ap (λ (r : ArenaView Slot). r.free) (arena_moved arena is.partitioned i RAN LOGGED there other [] (without i (chain_at arena RAN)) whole);
    chains = record { partitioned = partitioned; chain_count = four_moved arena is.partitioned i RAN LOGGED there other [] (without i (chain_at arena RAN)) whole ∙ is.chain_count };
  }

pub one_more_logged : (n : ℕ) (a b c : ArenaView Slot) → HasLogged n a b → HasLogged 1 b c → HasLogged (n + 1) a c
one_more_logged n a b c h k =
    let count : suc n ≡ n + 1 = omega arith in
    subst (λ (m : ℕ). HasLogged m a c) count (record {
      ran = k.ran ∙ ap (λ (l : List ℕ). drop 1 l) h.ran ∙ drop_more n (chain_at a RAN);
      logged = k.logged ∙ (λ i. h.logged i ++ take 1 (h.ran i)) ∙ append_assoc (chain_at a LOGGED) (take n (chain_at a RAN)) (take 1 (drop n (chain_at a RAN)))
          ∙ ap (λ (l : List ℕ). chain_at a LOGGED ++ l) (take_more n (chain_at a RAN));
      waiting = k.waiting ∙ h.waiting;
      in_flight = k.in_flight ∙ h.in_flight;
      values = k.values ∙ h.values;
      free = k.free ∙ h.free;
      chains = k.chains;
    })
