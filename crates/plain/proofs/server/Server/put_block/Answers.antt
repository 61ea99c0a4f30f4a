-- A block in another's place leaves the counts; a new one adds one to its stripe, unless that is full.
use Rattle.std.proofs.Common.{rules, refl, IsSome, ◌≡◌, ℕ, ◌+◌, Bool, cond, true, false, None, Some, Option, List, ap, sym, ◌∙◌, subst}
use Rattle.std.specs.Prelude.{◌||◌, nat_lt, is_some, unwrap_or, if◌then◌else◌}
use Rattle.std.specs.Option.{option_copied_mut}
use Rattle.std.specs.BTreeMap as map
use Rattle.std.specs.BTreeMap.{is_at}
use Rattle.std.specs.Map.{lookup}
use Rattle.std.proofs.lemmas.Bool.{le-ltb, lt-ltb}
use Rattle.affinity.specs.declared.geometry.Geometry.{Geometry}
use Rattle.protocol.specs.declared.messages.Block.{Block}
use Rattle.protocol.specs.declared.messages.Msg.TheVariants.{Write}
use Rattle.protocol.specs.declared.replies.Refusal.TheVariants.{Space}
use Rattle.meaning.specs.State.{State, BlockKey, blocks_in_stripe}
use Rattle.meaning.proofs.Sums.{one_if}
use Rattle.meaning.specs.KeyOrders.{file_order, block_order}
use Rattle.meaning.specs.Step.{effect}
use Rattle.meaning.proofs.Keys.{one_block}
use Rattle.plain.specs.Server.{StripeKey, is_stripe, server_state, noted}
use Rattle.plain.proofs.ServerCounts.{noted_again, noted_one_more}
use Rattle.plain.proofs.Writes.{AreCounts, replaced_counts, added_counts}
use Rattle.plain.proofs.server.Server.put_block.Goals as goal

-- the counts of entries with the same blocks
same_counted : (g : Geometry) (x : State) (es : List (BlockKey × Block)) (notes : StripeKey → ℕ) → ((k : BlockKey) → lookup (is_at (block_order k)) es ≡ x.blocks k)
    → AreCounts g notes x → AreCounts g notes (record x { blocks = λ k. lookup (is_at (block_order k)) es })
same_counted g x es notes h counts = subst (AreCounts g notes) (λ i. record x { blocks = λ k. sym (h k) i }) counts

-- what is noted in a map is what is noted in its entries
as_noted : (es fs : List (StripeKey × ℕ)) (wanted : StripeKey → ℕ) → es ≡ fs
    → ((k : StripeKey) → unwrap_or (lookup (is_at (file_order k)) fs) 0 ≡ wanted k) → (k : StripeKey) → unwrap_or (lookup (is_at (file_order k)) es) 0
    ≡ wanted k
as_noted es fs wanted e h k = ap (λ es. unwrap_or (lookup (is_at (file_order k)) es) 0) e ∙ h k

-- what is found in a map is what is found in its entries
as_found : (es fs : List (BlockKey × Block)) (wanted : BlockKey → Option Block) → es ≡ fs → ((k : BlockKey) → lookup (is_at (block_order k)) fs ≡ wanted k)
    → (k : BlockKey) → lookup (is_at (block_order k)) es ≡ wanted k
as_found es fs wanted e h k = ap (λ es. lookup (is_at (block_order k)) es) e ∙ h k

-- entries that have one block more, or another content there, hold the state after the write
written : (x : State) (a v f b : ℕ) (content : Block) (es : List (BlockKey × Block))
    → ((k : BlockKey) → lookup (is_at (block_order k)) es ≡ cond (is_at (block_order (a, v, f, b)) k) (Some content) (x.blocks k))
    → record x { blocks = λ k. lookup (is_at (block_order k)) es } ≡ effect x (Write a v f b content)
written x a v f b content es updates =
    λ i. record x { blocks = one_block x.blocks (λ k. lookup (is_at (block_order k)) es) a v f b content updates i }

-- no block is there, so the stripe decides
by_stripe : {n count : ℕ} {there : Bool} (quota : ℕ) (t : Bool) → there ≡ false → count ≡ n → nat_lt count quota ≡ t → (there || nat_lt n quota) ≡ t
by_stripe {n} {count} quota t absent same h = ap (λ (b : Bool). b || nat_lt n quota) absent ∙ ap (λ n. nat_lt n quota) (sym same) ∙ h

pub returns-then-count-g-clause-room : goal.returns-then-count-g-clause-room
returns-then-count-g-clause-room c = ap (λ t. if t then None else Some Space) (sym (by_stripe c.args.g.now.quota false
    (ap is_some (sym c.get_mut.ensures.value) ∙ ap (λ r. is_some (option_copied_mut r)) c.in_default.is)
    (c.or_insert-count.ensures.value ∙ ap (λ o. unwrap_or o 0) c.in_ok-self.ensures.value ∙ c.requires.counted (c.args.a, c.args.v, c.group_of.result)
    ∙ ap (blocks_in_stripe c.args.g.now (server_state c.args.self.now) c.args.a c.args.v) c.group_of.ensures.value) (le-ltb _ _ c.if-count-g.true)))

pub returns-clause-room : goal.returns-clause-room
returns-clause-room c = ap (λ t. if t then None else Some Space) (sym (by_stripe c.args.g.now.quota true
    (ap is_some (sym c.get_mut.ensures.value) ∙ ap (λ r. is_some (option_copied_mut r)) c.in_default.is)
    (c.or_insert-count.ensures.value ∙ ap (λ o. unwrap_or o 0) c.in_ok-self.ensures.value ∙ c.requires.counted (c.args.a, c.args.v, c.group_of.result)
    ∙ ap (blocks_in_stripe c.args.g.now (server_state c.args.self.now) c.args.a c.args.v) c.group_of.ensures.value) (lt-ltb _ _ c.if-count-g.false)))

pub returns-in-Some-clause-state : goal.returns-in-Some-clause-state
returns-in-Some-clause-state c = λ i. record (server_state c.args.self.now) {
  blocks = one_block (map.get block_order c.args.self.now.blocks) (map.get block_order (c.get_mut.follows.lender c.args.content.now)) c.args.a c.args.v
      c.args.f c.args.b c.args.content.now ((c.get_mut.follows.holds c.args.content.now).3
      (subst IsSome c.get_mut.ensures.value (subst (λ r. IsSome (option_copied_mut r)) (sym c.in-Some.is) refl))).0 i;
}

pub returns-in-Some-clause-counted : goal.returns-in-Some-clause-counted
returns-in-Some-clause-counted c =
    let x = server_state c.args.self.now in
    let was : is_some (x.blocks (c.args.a, c.args.v, c.args.f, c.args.b)) ≡ true = ap is_some (sym c.get_mut.ensures.value) ∙ ap (λ r. is_some (option_copied_mut r)) c.in-Some.is in
    subst (AreCounts c.args.g.now (noted c.args.self.now)) (sym (returns-in-Some-clause-state c))
    (replaced_counts x c.args.a c.args.v c.args.f c.args.b c.args.content.now c.args.g.now (noted c.args.self.now) c.requires.counted was)

pub returns-then-count-g-clause-counted : goal.returns-then-count-g-clause-counted
returns-then-count-g-clause-counted c =
    same_counted c.args.g.now (server_state c.args.self.now) _ _ (λ k. ap (λ m. map.get block_order m k) c.get_mut.follows.holds-at-none)
    (as_noted _ _ _ (search rules)
    (λ k. noted_again (map.get file_order c.args.self.now.block_counts) (λ k. lookup (is_at (file_order k)) _) c.args.a c.args.v c.group_of.result c.or_insert-count.result.now
    (λ k. (c.in_ok-self.ensures.update.0 c.or_insert-count.result.now).0 k)
    (c.or_insert-count.ensures.value ∙ ap (λ o. unwrap_or o 0) c.in_ok-self.ensures.value) k ∙ c.requires.counted k))

pub returns-in_err-self-2-clause-counted : goal.returns-in_err-self-2-clause-counted
returns-in_err-self-2-clause-counted c =
    same_counted c.args.g.now (server_state c.args.self.now) _ _ (λ k. search rules)
    (as_noted _ _ _ (search rules)
    (λ k. noted_again (map.get file_order c.args.self.now.block_counts) (λ k. lookup (is_at (file_order k)) _) c.args.a c.args.v c.group_of.result c.or_insert-count.result.now
    (λ k. (c.in_ok-self.ensures.update.0 c.or_insert-count.result.now).0 k)
    (c.or_insert-count.ensures.value ∙ ap (λ o. unwrap_or o 0) c.in_ok-self.ensures.value) k ∙ c.requires.counted k))

pub returns-clause-state : goal.returns-clause-state
returns-clause-state c =
    let key : BlockKey = (c.args.a, c.args.v, c.args.f, c.args.b) in
    let kept = c.get_mut.follows.holds-at-none in
    let absent = ap (λ m. map.get block_order m key) kept ∙ sym c.get_mut.ensures.value ∙ ap option_copied_mut c.in_default.is in
    let content = c.or_insert.ensures.value ∙ ap (λ o. unwrap_or o c.args.content.now) (c.in_ok-self-2.ensures.value ∙ absent) in
    written (server_state c.args.self.now) c.args.a c.args.v c.args.f c.args.b c.args.content.now _ (as_found _ _ _ (search rules)
    (λ k. (c.in_ok-self-2.ensures.update.0 c.or_insert.result.now).0 k
    ∙ (λ i. cond (is_at (block_order key) k) (Some (content i)) (map.get block_order (kept i) k))))

pub returns-clause-counted : goal.returns-clause-counted
returns-clause-counted c =
    let x = server_state c.args.self.now in
    let absent : is_some (x.blocks (c.args.a, c.args.v, c.args.f, c.args.b)) ≡ false = ap is_some (sym c.get_mut.ensures.value) ∙ ap (λ r. is_some (option_copied_mut r)) c.in_default.is in
    let count = c.or_insert-count.result.now + 1 in
    let more : StripeKey → ℕ = λ k. noted c.args.self.now k + one_if (is_stripe c.args.a c.args.v c.group_of.result k) in
    λ k. as_noted _ _ more (search rules)
    (noted_one_more (map.get file_order c.args.self.now.block_counts) (λ k. lookup (is_at (file_order k)) _) c.args.a c.args.v c.group_of.result count
    (λ k. (c.in_ok-self.ensures.update.0 count).0 k)
    (ap (λ n. n + 1) c.or_insert-count.ensures.value ∙ ap (λ o. unwrap_or o 0 + 1) c.in_ok-self.ensures.value)) k
    ∙ subst (AreCounts c.args.g.now more) (sym (returns-clause-state c))
    (added_counts x c.args.a c.args.v c.args.f c.args.b c.args.content.now c.args.g.now (noted c.args.self.now) c.requires.counted c.group_of.result
    c.group_of.ensures.value c.requires.file c.requires.block absent) k
