-- Each step keeps the invariant of states, `IsState`.
use Rattle.std.proofs.Common.{◌≡◌, ℕ, zero, suc, ◌+◌, ◌<◌, ◌≤◌, Bool, true, false, List, [], ◌∷◌, Option, refl, ap, sym, subst, ◌⊎◌, inl, inr, ⊎_elim, arith, lit<}
use Rattle.std.specs.Prelude.{◌&&◌, ◌||◌, not, ◌==◌, nat_lt, if◌then◌else◌, cond, Some, None, find, is_some, IfSome, replicate}
use Rattle.std.specs.List.{AllByRecursion}
use Rattle.std.proofs.lemmas.Bool.{and_parts, and_from, or_cases, or_right, eqb-true, ltb-true, true≢false, not_from_false, and_right}
use Rattle.std.specs.Option.{option_map_or}
use Rattle.affinity.specs.declared.geometry.Geometry.{Geometry}
use Rattle.affinity.specs.Geometry.{stripe_of}
use Rattle.affinity.specs.Path.{is_prefix, stripe}
use Rattle.affinity.specs.Place.{are_below, limits}
use Rattle.affinity.specs.declared.kinds.Kind.TheVariants as kinds
use Rattle.protocol.specs.declared.sizes.TheConstants.{LABEL_SIZE}
use Rattle.protocol.specs.declared.messages.Block.{Block}
use Rattle.protocol.specs.declared.messages.Msg.{Msg}
use Rattle.protocol.specs.declared.messages.Msg.TheVariants.{MakeVol, DropVol, Create, Delete, Seal, Unseal, Write, Punch, Read, SetLabel}
use Rattle.protocol.specs.declared.replies.Refusal.{Refusal}
use Rattle.protocol.specs.declared.replies.Refusal.TheVariants.{Space}
use Rattle.protocol.specs.Messages.{AreSizedBytes, IsBlock, IsMessage, kind, four_numbers}
use Rattle.meaning.specs.State.{State, IsState, empty, VolumeKey, FileKey, BlockKey, is_volume, is_file, is_block, is_file_of, is_block_of, is_block_of_file, blocks_in_stripe}
use Rattle.meaning.specs.Refusals.{checks, passes, refusal}
use Rattle.meaning.specs.Step.{effect, next_state, state_after_all, no_label}
use Rattle.meaning.specs.Commute.{outside}
use Rattle.meaning.specs.Removals.{without_blocks}
use Rattle.meaning.proofs.Effects.{effect_only}
use Rattle.meaning.proofs.Commute.{same_group_count}
use Rattle.meaning.proofs.Keys.{the_volume, the_file, the_block, other_file, other_place}
use Rattle.meaning.proofs.Sums.{sum_below-le, sum_below_one_more, sum_below-zero, one_if-le, one_if_from, one_if}

pub empty_is_state : (g : Geometry) → IsState g empty
empty_is_state g = record {
  made = λ k e. absurd (true≢false (sym e));
  sealed = λ k e. absurd (true≢false (sym e));
  files = λ k e. absurd (true≢false (sym e));
  blocks = λ k e. absurd (true≢false (sym e));
  labels = λ k. refl;
  content = λ k. tt;
  label_content = λ k. tt;
  quota = none;
}
  where
    none : (a v s : ℕ) → blocks_in_stripe g empty a v s ≤ g.quota
    none a v s = omega (arith, sum_below-zero g.files _ (λ f. sum_below-zero g.blocks _ (λ b. ap one_if (and_right (stripe_of g f b == s) false refl))))

-- ---- what is known of a message that passes its checks

-- a message that isn't refused passes each of its checks
pub passed : (p : Refusal → Bool) (ts : List Refusal) → find (λ t. not (p t)) ts ≡ None → AllByRecursion (λ t. p t ≡ true) ts
passed p [] h = tt
passed p (t ∷ ts) h =
    elim (p t) as (λ b. p t ≡ b → cond (not b) (Some t) (find (λ t. not (p t)) ts) ≡ None → (p t ≡ true) × AllByRecursion (λ t. p t ≡ true) ts) [
      | true ↦ λ e h. (e, passed p ts h)
      | false ↦ λ e h. absurd (true≢false (ap is_some h))
    ] refl h

-- the first two numbers are in range, and so are the others
pub two_below : (g : Geometry) (a v : ℕ) (rest : List ℕ) → are_below (a ∷ v ∷ rest) (limits g) ≡ true → (a < g.aggregates) × (v < g.volumes) × (are_below rest (g.files ∷ g.blocks ∷ []) ≡ true)
two_below g a v rest e =
    let p = and_parts (nat_lt a g.aggregates) _ e in
    let q = and_parts (nat_lt v g.volumes) (are_below rest (g.files ∷ g.blocks ∷ [])) p.1 in
    (ltb-true _ _ p.0, ltb-true _ _ q.0, q.1)

-- ---- one key of a set or map that an effect changed

-- what is there after clearing was not picked, and was there
pub not_cleared : {X : Type 0} (b : Bool) (o : Option X) → is_some (if b then None else o) ≡ true → (not b ≡ true) × (is_some o ≡ true)
not_cleared true o e = absurd (true≢false (sym e))
not_cleared false o e = (refl, e)

pub was_set : {X : Type 0} (b : Bool) (value : X) (o : Option X) → is_some (if b then Some value else o) ≡ true → (b ≡ true) ⊎ (is_some o ≡ true)
was_set true value o e = inl refl
was_set false value o e = inr e

-- something is at a key that was set, nothing at one that was cleared, and at the others what was there
some_where_set : {X : Type 0} (b c : Bool) (value : X) (o : Option X) → is_some o ≡ c → is_some (if b then Some value else o) ≡ (b || c)
some_where_set true c value o e = refl
some_where_set false c value o e = e

some_where_cleared : {X : Type 0} (b c : Bool) (o : Option X) → is_some o ≡ c → is_some (if b then None else o) ≡ (not b && c)
some_where_cleared true c o e = refl
some_where_cleared false c o e = e

-- so what holds of the new value and of all old ones holds of all that is there
holds_where_set : {X : Type 0} (P : X → Type 0) (b : Bool) (value : X) (o : Option X) → P value → IfSome o P → IfSome (if b then Some value else o) P
holds_where_set P true value o new old = new
holds_where_set P false value o new old = old

holds_where_cleared : {X : Type 0} (P : X → Type 0) (b : Bool) (o : Option X) → IfSome o P → IfSome (if b then None else o) P
holds_where_cleared P true o old = tt
holds_where_cleared P false o old = old

pub zeros_are_bytes : (n : ℕ) → AllByRecursion (λ b. b < 256) (replicate n 0)
zeros_are_bytes zero = tt
zeros_are_bytes (suc n) = (lit< tt, zeros_are_bytes n)

no_label_is_bytes : AreSizedBytes LABEL_SIZE no_label
no_label_is_bytes = (refl, zeros_are_bytes LABEL_SIZE)

-- ---- the quota

-- fewer blocks, no greater counts
pub fewer : (g : Geometry) (x y : State) → ((k : BlockKey) → is_some (y.blocks k) ≡ true → is_some (x.blocks k) ≡ true) → (a v s : ℕ) → blocks_in_stripe g y a v s ≤ blocks_in_stripe g x a v s
fewer g x y h a v s = sum_below-le g.files _ _ (λ f lt. sum_below-le g.blocks _ _ (λ b lt. one_if_from _ _ (also_before f b)))
  where
    also_before : (f b : ℕ) → ((stripe_of g f b == s) && is_some (y.blocks (a, v, f, b))) ≡ true → ((stripe_of g f b == s) && is_some (x.blocks (a, v, f, b))) ≡ true
    also_before f b e =
        let p = and_parts (stripe_of g f b == s) (is_some (y.blocks (a, v, f, b))) e in
        and_from (stripe_of g f b == s) (is_some (x.blocks (a, v, f, b))) p.0 (h (a, v, f, b) p.1)

module _ (g : Geometry) (x : State) (a v f b : ℕ) (content : Block) where
  abbrev written : State
  written = effect x (Write a v f b content)

  -- another block counts as before
  other_block : (s f' b' : ℕ) → is_block a v f b (a, v, f', b') ≡ false
      → one_if ((stripe_of g f' b' == s) && is_some (written.blocks (a, v, f', b'))) ≤ one_if ((stripe_of g f' b' == s) && is_some (x.blocks (a, v, f', b')))
  other_block s f' b' e = one_if_from _ _ (λ h. subst (λ t. ((stripe_of g f' b' == s) && is_some (if t then Some content else x.blocks (a, v, f', b'))) ≡ true) e h)

  -- a write adds one block at most to its stripe
  one_more : (s : ℕ) → blocks_in_stripe g written a v s ≤ blocks_in_stripe g x a v s + 1
  one_more s = sum_below_one_more g.files f _ _
      (λ f' ne. sum_below-le g.blocks _ _ (λ b' lt. other_block s f' b' (other_file a v f b (a, v, f', b') ne)))
      (sum_below_one_more g.blocks b _ _ (λ b' ne. other_block s f b' (other_place a v f b (a, v, f, b') ne))
      (omega (arith, one_if-le ((stripe_of g f b == s) && is_some (written.blocks (a, v, f, b))))))

  keeps_quota : ((a v s : ℕ) → blocks_in_stripe g x a v s ≤ g.quota) → passes g x kinds.Write (a ∷ v ∷ f ∷ b ∷ []) Space ≡ true → (a' v' s' : ℕ) → blocks_in_stripe g written a' v' s' ≤ g.quota
  keeps_quota h space a' v' s' =
      let s = stripe_of g f b in
      elim (is_prefix (stripe a v s) (stripe a' v' s')) as (λ t. is_prefix (stripe a v s) (stripe a' v' s') ≡ t → blocks_in_stripe g written a' v' s' ≤ g.quota) [
        | false ↦ λ e.
            let same = same_group_count g (outside (stripe a v s)) written x (effect_only g x (Write a v f b content)) a' v' s' (not_from_false (is_prefix (stripe a v s) (stripe a' v' s')) e) in
            omega (arith, same, h a' v' s')
        | true ↦ λ e.
            let p = and_parts (a == a') ((v == v') && ((0 == 0) && ((s == s') && true))) e in
            let q = and_parts (v == v') ((0 == 0) && ((s == s') && true)) p.1 in
            let r = and_parts (s == s') true q.1 in
            let there : blocks_in_stripe g written a v s ≤ g.quota = ⊎_elim
            (λ already. let few = fewer g x written (λ k e. ⊎_elim (λ is. subst (λ k. is_some (x.blocks k) ≡ true) (the_block a v f b k is) already)
            (λ was. was) (was_set (is_block a v f b k) content (x.blocks k) e)) a v s in
            omega (arith, few, h a v s))
            (λ room. let more = one_more s in let lt = ltb-true (blocks_in_stripe g x a v s) g.quota room in omega (arith, more, lt))
            (or_cases (is_some (x.blocks (a, v, f, b))) (nat_lt (blocks_in_stripe g x a v s) g.quota) space) in
            subst (λ (n : ℕ × ℕ × ℕ). blocks_in_stripe g written n.0 n.1 n.2 ≤ g.quota) (λ i. (eqb-true a a' p.0 i, eqb-true v v' q.0 i, eqb-true s s' r.0 i)) there
      ] refl

-- where blocks were cleared, the quota still holds
quota_fewer : (g : Geometry) (x y : State) → IsState g x → ((k : BlockKey) → is_some (y.blocks k) ≡ true → is_some (x.blocks k) ≡ true) → (a v s : ℕ) → blocks_in_stripe g y a v s ≤ g.quota
quota_fewer g x y h less a v s = let few = fewer g x y less a v s in omega (arith, few, h.quota a v s)

-- ---- blocks and files that are taken out

pub clearing_kept : (g : Geometry) (selected : BlockKey → Bool) (x : State) → IsState g x → IsState g (without_blocks selected x)
clearing_kept g selected x h = record {
  made = h.made;
  sealed = h.sealed;
  files = h.files;
  blocks = λ k e. h.blocks k (was_there k e);
  labels = h.labels;
  content = λ k. holds_where_cleared IsBlock (selected k) (x.blocks k) (h.content k);
  label_content = h.label_content;
  quota = quota_fewer g x (without_blocks selected x) h was_there;
}
  where
    was_there : (k : BlockKey) → is_some ((without_blocks selected x).blocks k) ≡ true → is_some (x.blocks k) ≡ true
    was_there k e = (not_cleared (selected k) (x.blocks k) e).1

pub delete_kept : (g : Geometry) (x : State) (a v f : ℕ) → IsState g x → IsState g (effect x (Delete a v f))
delete_kept g x a v f h =
    let cleared = clearing_kept g (is_block_of_file a v f) x h in
    record {
      made = h.made;
      sealed = h.sealed;
      files = λ k e. h.files k (and_parts (not (is_file a v f k)) (x.files k) e).1;
      blocks = λ k e. let q = not_cleared (is_block_of_file a v f k) (x.blocks k) e in ((h.blocks k q.1).0, and_from (not (is_block_of_file a v f k)) (x.files (k.0, k.1, k.2)) q.0 (h.blocks k q.1).1);
      labels = h.labels;
      content = cleared.content;
      label_content = h.label_content;
      quota = cleared.quota;
    }

-- ---- each kind

module _ (g : Geometry) (x : State) (h : IsState g x) (a v : ℕ) where
  -- The volume has its numbers in range and gets a label. What was made still is.
  make_kept : a < g.aggregates → v < g.volumes → IsState g (effect x (MakeVol a v))
  make_kept in_aggregates in_volumes = record {
    made = λ k e. ⊎_elim (in_range k) (h.made k) (or_cases (is_volume a v k) (x.made k) e);
    sealed = λ k e. still_made k (h.sealed k e);
    files = λ k e. let was = h.files k e in (was.0, still_made (k.0, k.1) was.1);
    blocks = h.blocks;
    labels = λ k. some_where_set (is_volume a v k) (x.made k) no_label (x.labels k) (h.labels k);
    content = h.content;
    label_content = λ k. holds_where_set (AreSizedBytes LABEL_SIZE) (is_volume a v k) no_label (x.labels k) no_label_is_bytes (h.label_content k);
    quota = h.quota;
  }
    where
      in_range : (k : VolumeKey) → is_volume a v k ≡ true → (k.0 < g.aggregates) × (k.1 < g.volumes)
      in_range k is = subst (λ (k : VolumeKey). (k.0 < g.aggregates) × (k.1 < g.volumes)) (the_volume a v k is) (in_aggregates, in_volumes)

      still_made : (k : VolumeKey) → x.made k ≡ true → (is_volume a v k || x.made k) ≡ true
      still_made k was = or_right (is_volume a v k) (x.made k) was

  -- What is left was there and is of another volume, which is left, too; and so is the file of a block that is left.
  drop_kept : IsState g (effect x (DropVol a v))
  drop_kept = record {
    made = λ k e. h.made k (and_parts (not (is_volume a v k)) (x.made k) e).1;
    sealed = λ k e. let left = and_parts (not (is_volume a v k)) (x.sealed k) e in volume_left k left.0 (h.sealed k left.1);
    files = λ k e.
        let left = and_parts (not (is_file_of a v k)) (x.files k) e in
        let was = h.files k left.1 in
        (was.0, volume_left (k.0, k.1) left.0 was.1);
    blocks = λ k e.
        let left = not_cleared (is_block_of a v k) (x.blocks k) e in
        let was = h.blocks k left.1 in
        (was.0, file_left (k.0, k.1, k.2) left.0 was.1);
    labels = λ k. some_where_cleared (is_volume a v k) (x.made k) (x.labels k) (h.labels k);
    content = λ k. holds_where_cleared IsBlock (is_block_of a v k) (x.blocks k) (h.content k);
    label_content = λ k. holds_where_cleared (AreSizedBytes LABEL_SIZE) (is_volume a v k) (x.labels k) (h.label_content k);
    quota = quota_fewer g x (effect x (DropVol a v)) h (λ k e. (not_cleared (is_block_of a v k) (x.blocks k) e).1);
  }
    where
      volume_left : (k : VolumeKey) → not (is_volume a v k) ≡ true → x.made k ≡ true → (not (is_volume a v k) && x.made k) ≡ true
      volume_left k other was = and_from (not (is_volume a v k)) (x.made k) other was

      file_left : (k : FileKey) → not (is_file_of a v k) ≡ true → x.files k ≡ true → (not (is_file_of a v k) && x.files k) ≡ true
      file_left k other was = and_from (not (is_file_of a v k)) (x.files k) other was

  -- The file is of a volume that is made. What was a file still is.
  create_kept : (f : ℕ) → f < g.files → x.made (a, v) ≡ true → IsState g (effect x (Create a v f))
  create_kept f in_files made = record {
    made = h.made;
    sealed = h.sealed;
    files = λ k e. ⊎_elim (of_a_volume k) (h.files k) (or_cases (is_file a v f k) (x.files k) e);
    blocks = λ k e. let was = h.blocks k e in (was.0, or_right (is_file a v f (k.0, k.1, k.2)) (x.files (k.0, k.1, k.2)) was.1);
    labels = h.labels;
    content = h.content;
    label_content = h.label_content;
    quota = h.quota;
  }
    where
      of_a_volume : (k : FileKey) → is_file a v f k ≡ true → (k.2 < g.files) × (x.made (k.0, k.1) ≡ true)
      of_a_volume k is = subst (λ (k : FileKey). (k.2 < g.files) × (x.made (k.0, k.1) ≡ true)) (the_file a v f k is) (in_files, made)

  -- The volume that is sealed is made.
  seal_kept : x.made (a, v) ≡ true → IsState g (effect x (Seal a v))
  seal_kept made = record {
    made = h.made;
    sealed = λ k e. ⊎_elim (λ is. subst (λ k. x.made k ≡ true) (the_volume a v k is) made) (h.sealed k) (or_cases (is_volume a v k) (x.sealed k) e);
    files = h.files;
    blocks = h.blocks;
    labels = h.labels;
    content = h.content;
    label_content = h.label_content;
    quota = h.quota;
  }

  -- What is still sealed was sealed.
  unseal_kept : IsState g (effect x (Unseal a v))
  unseal_kept = record {
    made = h.made;
    sealed = λ k e. h.sealed k (and_parts (not (is_volume a v k)) (x.sealed k) e).1;
    files = h.files;
    blocks = h.blocks;
    labels = h.labels;
    content = h.content;
    label_content = h.label_content;
    quota = h.quota;
  }

  -- The block is of a file that is there, and its stripe has space for it.
  write_kept : (f b : ℕ) (content : Block) → b < g.blocks → x.files (a, v, f) ≡ true → passes g x kinds.Write (a ∷ v ∷ f ∷ b ∷ []) Space ≡ true → IsBlock content
      → IsState g (effect x (Write a v f b content))
  write_kept f b content in_blocks file space sized = record {
    made = h.made;
    sealed = h.sealed;
    files = h.files;
    blocks = λ k e. ⊎_elim (of_a_file k) (h.blocks k) (was_set (is_block a v f b k) content (x.blocks k) e);
    labels = h.labels;
    content = λ k. holds_where_set IsBlock (is_block a v f b k) content (x.blocks k) sized (h.content k);
    label_content = h.label_content;
    quota = keeps_quota g x a v f b content h.quota space;
  }
    where
      of_a_file : (k : BlockKey) → is_block a v f b k ≡ true → (k.3 < g.blocks) × (x.files (k.0, k.1, k.2) ≡ true)
      of_a_file k is = subst (λ (k : BlockKey). (k.3 < g.blocks) × (x.files (k.0, k.1, k.2) ≡ true)) (the_block a v f b k is) (in_blocks, file)

  -- The volume that gets the label is made, so it had one before; the others keep theirs.
  label_kept : (bytes : List ℕ) → x.made (a, v) ≡ true → AreSizedBytes LABEL_SIZE bytes → IsState g (effect x (SetLabel a v bytes))
  label_kept bytes made sized = record {
    made = h.made;
    sealed = h.sealed;
    files = h.files;
    blocks = h.blocks;
    labels = labelled;
    content = h.content;
    label_content = λ k. holds_where_set (AreSizedBytes LABEL_SIZE) (is_volume a v k) bytes (x.labels k) sized (h.label_content k);
    quota = h.quota;
  }
    where
      labelled : (k : VolumeKey) → is_some (if is_volume a v k then Some bytes else x.labels k) ≡ x.made k
      labelled k = elim (is_volume a v k) as (λ t. is_volume a v k ≡ t → is_some (if t then Some bytes else x.labels k) ≡ x.made k) [
        | true ↦ λ is. sym (subst (λ k. x.made k ≡ true) (the_volume a v k is) made)
        | false ↦ λ other. h.labels k
      ] refl

-- `p` has what each check of the kind says, in their order: the numbers are in range, the volume is made, it isn't sealed, the file is there,
-- there is space.
effect_kept : (g : Geometry) (x : State) → IsState g x → (m : Msg) → IsMessage m → AllByRecursion (λ t. passes g x (kind m) (four_numbers m) t ≡ true) (checks (kind m)) → IsState g (effect x m)
effect_kept g x h (MakeVol a v) w p = let r = two_below g a v [] p.0 in make_kept g x h a v r.0 r.1
effect_kept g x h (DropVol a v) w p = drop_kept g x h a v
effect_kept g x h (Create a v f) w p =
    let r = two_below g a v (f ∷ []) p.0 in
    create_kept g x h a v f (ltb-true f g.files (and_parts (nat_lt f g.files) true r.2).0) p.1.0
effect_kept g x h (Delete a v f) w p = delete_kept g x a v f h
effect_kept g x h (Seal a v) w p = seal_kept g x h a v p.1.0
effect_kept g x h (Unseal a v) w p = unseal_kept g x h a v
effect_kept g x h (Write a v f b content) w p =
    let r = two_below g a v (f ∷ b ∷ []) p.0 in
    let in_blocks = and_parts (nat_lt b g.blocks) true (and_parts (nat_lt f g.files) _ r.2).1 in
    write_kept g x h a v f b content (ltb-true b g.blocks in_blocks.0) p.1.1.1.0 p.1.1.1.1.0 w
effect_kept g x h (Punch a v f b) w p = clearing_kept g (is_block a v f b) x h
effect_kept g x h (SetLabel a v bytes) w p = label_kept g x h a v bytes p.1.0 w
effect_kept g x h (Read a v f b) w p = h
effect_kept g x h _ w p = h

pub step_kept : (g : Geometry) (x : State) (m : Msg) → IsState g x → IsMessage m → IsState g (next_state g x m)
step_kept g x m h w = by (refusal g x m) refl
  where
    by : (r : Option Refusal) → refusal g x m ≡ r → IsState g (option_map_or (λ why. x) r (effect x m))
    by None e = effect_kept g x h m w (passed (passes g x (kind m) (four_numbers m)) (checks (kind m)) e)
    by (Some why) e = h

pub fold_kept : (g : Geometry) (x : State) (ms : List Msg) → IsState g x → AllByRecursion IsMessage ms → IsState g (state_after_all g x ms)
fold_kept g x [] h w = h
fold_kept g x (m ∷ ms) h w = fold_kept g (next_state g x m) ms (step_kept g x m h w.0) w.1
