-- The blocks of each stripe, counted, where one block comes or goes.
use Rattle.std.proofs.Common.{◌≡◌, ℕ, ◌+◌, ◌<◌, Bool, true, false, cond, Some, refl, ap, sym, ◌∙◌, subst, arith}
use Rattle.std.specs.Prelude.{◌&&◌, ◌==◌, Option, None, is_some, unwrap_or}
use Rattle.std.specs.BTreeMap.{is_at}
use Rattle.std.proofs.lemmas.Bool.{eqb-true, true≢false, false_from_ne_true, and_right}
use Rattle.affinity.specs.declared.geometry.Geometry.{Geometry}
use Rattle.affinity.specs.Geometry.{stripe_of}
use Rattle.meaning.specs.State.{State, BlockKey, sum_below, count_below, blocks_in_stripe, is_block}
use Rattle.meaning.specs.KeyOrders.{file_order}
use Rattle.plain.specs.Server.{StripeKey, is_stripe}
use Rattle.meaning.proofs.Keys.{at_file, the_file, the_block, itself, picks_file, other_file, other_place}
use Rattle.meaning.proofs.Sums.{sum_same, sum_one_more, sum_zero, one_if}

-- states that have blocks at the same keys count alike
pub same_counts : (g : Geometry) (x y : State) → ((k : BlockKey) → is_some (y.blocks k) ≡ is_some (x.blocks k)) → (a v s : ℕ) → blocks_in_stripe g y a v s ≡ blocks_in_stripe g x a v s
same_counts g x y same a v s = λ i. sum_below g.files (λ f. count_below g.blocks (λ b. (stripe_of g f b == s) && same (a, v, f, b) i))

-- y has one block more than x, at (a, v, f, b)
module _ (g : Geometry) (x y : State) (a v f b : ℕ) (others : (k : BlockKey) → is_block a v f b k ≡ false → is_some (y.blocks k) ≡ is_some (x.blocks k)) where
  abbrev counted : State → ℕ → ℕ → ℕ → ℕ → ℕ → ℕ
  counted z a' v' s f' b' = one_if ((stripe_of g f' b' == s) && is_some (z.blocks (a', v', f', b')))

  -- each key but (a, v, f, b) counts as before
  elsewhere : (a' v' s f' b' : ℕ) → is_block a v f b (a', v', f', b') ≡ false → counted y a' v' s f' b' ≡ counted x a' v' s f' b'
  elsewhere a' v' s f' b' other = λ i. one_if ((stripe_of g f' b' == s) && others (a', v', f', b') other i)

  -- so does each key in another stripe
  in_other_stripe : (a' v' s f' b' : ℕ) → is_stripe a v (stripe_of g f b) (a', v', s) ≡ false → counted y a' v' s f' b' ≡ counted x a' v' s f' b'
  in_other_stripe a' v' s f' b' other =
      elim (stripe_of g f' b' == s) as (λ t. (stripe_of g f' b' == s) ≡ t → one_if (t && is_some (y.blocks (a', v', f', b'))) ≡ one_if (t && is_some (x.blocks (a', v', f', b')))) [
        -- a block that isn't in stripe s doesn't count there
        | false ↦ λ off. refl
        -- one that is in s is another block than (a, v, f, b), whose stripe is another
        | true ↦ λ on i. one_if (others (a', v', f', b') (another on) i)
      ] refl
    where
      another : (stripe_of g f' b' == s) ≡ true → is_block a v f b (a', v', f', b') ≡ false
      another on = false_from_ne_true _ (λ is.
          let same = the_block a v f b (a', v', f', b') is in
          let same_stripe : (a, v, stripe_of g f b) ≡ (a', v', s) =
          (λ i. ((same i).0, (same i).1, stripe_of g (same i).2 (same i).3)) ∙ (λ i. (a', v', eqb-true (stripe_of g f' b') s on i)) in
          true≢false (sym (picks_file a v (stripe_of g f b)) ∙ ap (is_stripe a v (stripe_of g f b)) same_stripe ∙ other))

  at_its_stripe : f < g.files → b < g.blocks → is_some (x.blocks (a, v, f, b)) ≡ false → is_some (y.blocks (a, v, f, b)) ≡ true
      → blocks_in_stripe g y a v (stripe_of g f b) ≡ blocks_in_stripe g x a v (stripe_of g f b) + 1
  at_its_stripe in_files in_blocks absent there =
      let s = stripe_of g f b in
      sum_one_more g.files f _ _ in_files
      (λ f' ne. sum_same g.blocks _ _ (λ b'. elsewhere a v s f' b' (other_file a v f b (a, v, f', b') ne)))
      (sum_one_more g.blocks b _ _ in_blocks (λ b' ne. elsewhere a v s f b' (other_place a v f b (a, v, f, b') ne))
      ((λ i. one_if (itself s i && there i)) ∙ (λ i. one_if (sym (itself s) i && sym absent i) + 1)))

  -- its stripe has one block more, and each other stripe as many
  pub one_more : f < g.files → b < g.blocks → is_some (x.blocks (a, v, f, b)) ≡ false → is_some (y.blocks (a, v, f, b)) ≡ true
      → (k : StripeKey) → blocks_in_stripe g y k.0 k.1 k.2 ≡ blocks_in_stripe g x k.0 k.1 k.2 + one_if (is_stripe a v (stripe_of g f b) k)
  one_more in_files in_blocks absent there k =
      elim (is_stripe a v (stripe_of g f b) k) as (λ t. is_stripe a v (stripe_of g f b) k ≡ t → blocks_in_stripe g y k.0 k.1 k.2 ≡ blocks_in_stripe g x k.0 k.1 k.2 + one_if t) [
        | false ↦ λ other.
            let same : blocks_in_stripe g y k.0 k.1 k.2 ≡ blocks_in_stripe g x k.0 k.1 k.2 = sum_same g.files _ _ (λ f'. sum_same g.blocks _ _ (λ b'. in_other_stripe k.0 k.1 k.2 f' b' other)) in
            omega (arith, same)
        | true ↦ λ is. subst (λ (k : StripeKey). blocks_in_stripe g y k.0 k.1 k.2 ≡ blocks_in_stripe g x k.0 k.1 k.2 + 1) (the_file a v (stripe_of g f b) k is)
            (at_its_stripe in_files in_blocks absent there)
      ] refl

-- ---- the numbers that are noted

module _ (old new : StripeKey → Option ℕ) (a v s count : ℕ) (updates : (k : StripeKey) → new k ≡ cond (is_at (file_order (a, v, s)) k) (Some count) (old k)) where
  -- what is noted now: the count at the key, and elsewhere what was noted before
  now_noted : (k : StripeKey) → unwrap_or (new k) 0 ≡ cond (is_stripe a v s k) count (unwrap_or (old k) 0)
  now_noted k = ap (λ o. unwrap_or o 0) (updates k ∙ ap (λ t. cond t (Some count) (old k)) (at_file a v s k)) ∙ split (is_stripe a v s k)
    where
      split : (t : Bool) → unwrap_or (cond t (Some count) (old k)) 0 ≡ cond t count (unwrap_or (old k) 0)
      split true = refl
      split false = refl

  -- if the number that was noted at the key is noted there again, nothing changes
  pub noted_again : count ≡ unwrap_or (old (a, v, s)) 0 → (k : StripeKey) → unwrap_or (new k) 0 ≡ unwrap_or (old k) 0
  noted_again same k = now_noted k ∙ elim (is_stripe a v s k) as (λ t. is_stripe a v s k ≡ t → cond t count (unwrap_or (old k) 0) ≡ unwrap_or (old k) 0) [
    | false ↦ λ off. refl
    | true ↦ λ on. same ∙ ap (λ k. unwrap_or (old k) 0) (the_file a v s k on)
  ] refl

  -- one more is noted at the key
  pub noted_one_more : count ≡ unwrap_or (old (a, v, s)) 0 + 1 → (k : StripeKey) → unwrap_or (new k) 0 ≡ unwrap_or (old k) 0 + one_if (is_stripe a v s k)
  noted_one_more more k = now_noted k ∙ elim (is_stripe a v s k) as (λ t. is_stripe a v s k ≡ t → cond t count (unwrap_or (old k) 0) ≡ unwrap_or (old k) 0 + one_if t) [
    | false ↦ λ off. omega arith
    | true ↦ λ on. more ∙ ap (λ k. unwrap_or (old k) 0 + 1) (the_file a v s k on)
  ] refl

-- where there is no block, none is counted
pub none_counted : (g : Geometry) (x : State) → ((k : BlockKey) → x.blocks k ≡ None) → (a v s : ℕ) → blocks_in_stripe g x a v s ≡ 0
none_counted g x none a v s =
    sum_same g.files _ (λ f. 0) (λ f. sum_same g.blocks _ (λ b. 0) (λ b. (λ i. one_if ((stripe_of g f b == s) && is_some (none (a, v, f, b) i)))
    ∙ ap one_if (and_right (stripe_of g f b == s) false refl)) ∙ sum_zero g.blocks) ∙ sum_zero g.files
