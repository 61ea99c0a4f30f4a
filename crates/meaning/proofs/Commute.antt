-- A step reads only the subtree and the standing at its path, and changes only that subtree. So steps at unrelated paths commute.
use Rattle.std.proofs.Common.{arith, ◌≡◌, ℕ, ◌^◌, Bool, true, false, List, [], ◌∷◌, Option, refl, ap, sym, ◌∙◌}
use Rattle.std.specs.Prelude.{◌&&◌, ◌||◌, not, ◌==◌, nat_lt, if◌then◌else◌, cond, Some, None, find, is_some, unwrap_or}
use Rattle.std.specs.List.{AllByRecursion}
use Rattle.std.proofs.lemmas.Bool.{and_parts, and_from, eqb-true, eq-eqb, true≢false, not_from_false, or_left}
use Rattle.std.specs.Option.{option_map_or}
use Rattle.affinity.specs.declared.geometry.Geometry.{Geometry}
use Rattle.affinity.specs.Geometry.{stripe_of}
use Rattle.affinity.specs.Path.{Path, is_prefix, are_related, volume, logical, stripe, label}
use Rattle.affinity.proofs.Paths.{is_prefix-refl, are_related-refl, beginnings_related, unrelated_below, unrelated_turned}
use Rattle.protocol.specs.declared.messages.Msg.{Msg}
use Rattle.protocol.specs.declared.messages.Msg.TheVariants.{MakeVol, DropVol, Create, Delete, Seal, Unseal, Write, Punch, Read, List as ListFiles, Usage as AskUsage, Summary as AskSummary, SetLabel, Label as AskLabel}
use Rattle.protocol.specs.declared.replies.Refusal.{Refusal}
use Rattle.protocol.specs.declared.replies.Refusal.TheVariants.{Volume, Sealed, File, Space}
use Rattle.protocol.specs.declared.replies.Reply.TheVariants.{Hole, Block as Found, Files, Usage, Summary, Label}
use Rattle.protocol.specs.Messages.{kind, four_numbers, path_of}
use Rattle.meaning.specs.State.{State, sum_below, blocks_in_stripe, sum_over_volumes, key}
use Rattle.meaning.proofs.Sums.{one_if}
use Rattle.meaning.specs.Refusals.{checks, passes, refusal}
use Rattle.meaning.specs.Step.{effect, accepted_reply, reply_to, next_state, no_label}
use Rattle.meaning.specs.Facts.{OfMade, OfSealed, OfLabel, OfFile, OfBlock}
use Rattle.meaning.specs.Subtrees.{AgreeOn}
use Rattle.meaning.specs.Commute.{outside, Commute}
use Rattle.meaning.proofs.AgreeOn.{agree-refl, agree-sym, agree-trans, agree_within, agree_everywhere, agree_either}
use Rattle.meaning.proofs.Effects.{effect_agrees, effect_only}

-- ---- where the parts of the state lie that a message may look at

-- where in its volume a message goes: to the label, or towards its block
abbrev in_volume : Geometry → Msg → Path
in_volume g (SetLabel a v bytes) = 1 ∷ []
in_volume g (AskLabel a v) = 1 ∷ []
in_volume g m = let n = key m in 0 ∷ stripe_of g n.2 n.3 ∷ []

-- the whole path of what the message is about: its label, or its stripe
abbrev full : Geometry → Msg → Path
full g m = let n = key m in n.0 ∷ n.1 ∷ in_volume g m

one : (a : ℕ) (b : Bool) → b ≡ true → ((a == a) && b) ≡ true
one a b e = and_from (a == a) b (eq-eqb a a refl) e

-- a message's place is a prefix of that path, or the whole of it
place_begins : (g : Geometry) (m : Msg) → is_prefix (path_of g m) (full g m) ≡ true
place_begins g (MakeVol a v) = one a true refl
place_begins g (DropVol a v) = one a true refl
place_begins g (Create a v f) = one a _ (one v true refl)
place_begins g (Delete a v f) = one a _ (one v true refl)
place_begins g (Seal a v) = one a _ (one v true refl)
place_begins g (Unseal a v) = one a _ (one v true refl)
place_begins g (Write a v f b content) = is_prefix-refl (stripe a v (stripe_of g f b))
place_begins g (Punch a v f b) = is_prefix-refl (stripe a v (stripe_of g f b))
place_begins g (Read a v f b) = is_prefix-refl (stripe a v (stripe_of g f b))
place_begins g (ListFiles a v) = one a _ (one v true refl)
place_begins g (AskUsage a v) = one a _ (one v true refl)
place_begins g AskSummary = refl
place_begins g (SetLabel a v bytes) = is_prefix-refl (label a v)
place_begins g (AskLabel a v) = is_prefix-refl (label a v)

-- so the place is related to each prefix of that path: to where the volume's marks (made, sealed), its files, and the block or label lie
related_to : (g : Geometry) (m : Msg) (q : Path) → is_prefix q (full g m) ≡ true → are_related (path_of g m) q ≡ true
related_to g m q h = beginnings_related (path_of g m) q (full g m) (place_begins g m) h

related_in_volume : (g : Geometry) (m : Msg) (q : Path) → is_prefix q (in_volume g m) ≡ true → let n = key m in are_related (path_of g m) (n.0 ∷ n.1 ∷ q) ≡ true
related_in_volume g m q h = let n = key m in related_to g m (n.0 ∷ n.1 ∷ q) (one n.0 _ (one n.1 _ h))

marks_related : (g : Geometry) (m : Msg) → let n = key m in are_related (path_of g m) (volume n.0 n.1) ≡ true
marks_related g m = related_in_volume g m [] refl

same_find : (p q : Refusal → Bool) (ts : List Refusal) → AllByRecursion (λ t. p t ≡ q t) ts → find (λ t. not (p t)) ts ≡ find (λ t. not (q t)) ts
same_find p q [] h = refl
same_find p q (t ∷ ts) h = λ i. cond (not (h.0 i)) (Some t) (same_find p q ts h.1 i)

-- ---- the same checks and replies, where the states agree

module _ (g : Geometry) (R : Path → Bool) (x y : State) (h : AgreeOn g R x y) where
  -- a block counts alike in both states, if R selects its stripe
  same_in_group : (a v s f b : ℕ) → R (stripe a v s) ≡ true → ((stripe_of g f b == s) && is_some (x.blocks (a, v, f, b))) ≡ ((stripe_of g f b == s) && is_some (y.blocks (a, v, f, b)))
  same_in_group a v s f b r =
      elim (stripe_of g f b == s) as (λ t. (stripe_of g f b == s) ≡ t → (t && is_some (x.blocks (a, v, f, b))) ≡ (t && is_some (y.blocks (a, v, f, b)))) [
        | true ↦ λ e. ap is_some (h.same a v (OfBlock f b) (ap (λ j. R (stripe a v j)) (eqb-true (stripe_of g f b) s e) ∙ r))
        | false ↦ λ e. refl
      ] refl

  pub same_group_count : (a v s : ℕ) → R (stripe a v s) ≡ true → blocks_in_stripe g x a v s ≡ blocks_in_stripe g y a v s
  same_group_count a v s r i = sum_below g.files (λ f. sum_below g.blocks (λ b. one_if (same_in_group a v s f b r i)))

  abbrev test : State → Msg → Refusal → Bool
  test w m = passes g w (kind m) (four_numbers m)

  module _ (m : Msg) (covers : (q : Path) → are_related (path_of g m) q ≡ true → R q ≡ true) where
    same_volume : test x m Volume ≡ test y m Volume
    same_volume = h.same _ _ OfMade (covers _ (marks_related g m))

    same_sealed : test x m Sealed ≡ test y m Sealed
    same_sealed = ap not (h.same _ _ OfSealed (covers _ (marks_related g m)))

    -- of a message that goes to the files
    same_file : is_prefix (0 ∷ []) (in_volume g m) ≡ true → test x m File ≡ test y m File
    same_file goes = h.same _ _ (OfFile _) (covers _ (related_in_volume g m (0 ∷ []) goes))

    same_space : let n = key m in is_prefix (0 ∷ stripe_of g n.2 n.3 ∷ []) (in_volume g m) ≡ true → test x m Space ≡ test y m Space
    same_space goes =
        let n = key m in
        let r = covers (stripe n.0 n.1 (stripe_of g n.2 n.3)) (related_in_volume g m (0 ∷ stripe_of g n.2 n.3 ∷ []) goes) in
        λ i. is_some (h.same n.0 n.1 (OfBlock n.2 n.3) r i) || nat_lt (same_group_count n.0 n.1 (stripe_of g n.2 n.3) r i) g.quota

  -- each check of a message has the same result in both states
  same_tests : (m : Msg) → ((q : Path) → are_related (path_of g m) q ≡ true → R q ≡ true) → AllByRecursion (λ t. test x m t ≡ test y m t) (checks (kind m))
  same_tests (MakeVol a v) c = (refl, (ap not (h.same a v OfMade (c _ (marks_related g (MakeVol a v)))), tt))
  same_tests (DropVol a v) c = (refl, (same_volume (DropVol a v) c, (same_sealed (DropVol a v) c, tt)))
  same_tests (Create a v f) c = (refl, (same_volume (Create a v f) c, (same_sealed (Create a v f) c, (ap not (h.same a v (OfFile f) (c _ (related_in_volume g (Create a v f) (0 ∷ []) refl))), tt))))
  same_tests (Delete a v f) c = (refl, (same_volume (Delete a v f) c, (same_sealed (Delete a v f) c, (same_file (Delete a v f) c refl, tt))))
  same_tests (Seal a v) c = (refl, (same_volume (Seal a v) c, tt))
  same_tests (Unseal a v) c = (refl, (same_volume (Unseal a v) c, tt))
  same_tests (Write a v f b d) c =
      let m = Write a v f b d in grind (arith, same_volume m c, same_sealed m c, same_file m c refl, same_space m c (one (stripe_of g f b) true refl))
  same_tests (Punch a v f b) c = (refl, (same_volume (Punch a v f b) c, (same_sealed (Punch a v f b) c, (same_file (Punch a v f b) c refl, tt))))
  same_tests (Read a v f b) c = (refl, (same_volume (Read a v f b) c, (same_file (Read a v f b) c refl, tt)))
  same_tests (ListFiles a v) c = (refl, (same_volume (ListFiles a v) c, tt))
  same_tests (AskUsage a v) c = (refl, (same_volume (AskUsage a v) c, tt))
  same_tests AskSummary c = tt
  same_tests (SetLabel a v bytes) c = (refl, (same_volume (SetLabel a v bytes) c, (same_sealed (SetLabel a v bytes) c, tt)))
  same_tests (AskLabel a v) c = (refl, (same_volume (AskLabel a v) c, tt))

  same_refusal : (m : Msg) → ((q : Path) → are_related (path_of g m) q ≡ true → R q ≡ true) → refusal g x m ≡ refusal g y m
  same_refusal m covers = same_find (test x m) (test y m) (checks (kind m)) (same_tests m covers)

  same_answer : (m : Msg) → ((q : Path) → are_related (path_of g m) q ≡ true → R q ≡ true) → accepted_reply g x m ≡ accepted_reply g y m
  same_answer (Read a v f b) covers = ap (λ o. option_map_or Found o Hole) (h.same a v (OfBlock f b) (covers _ (are_related-refl (stripe a v (stripe_of g f b)))))
  same_answer (ListFiles a v) covers = λ i. Files (sum_below g.files (λ f. if h.same a v (OfFile f) (covers (logical a v) (are_related-refl (logical a v))) i then 2 ^ f else 0))
  same_answer (AskUsage a v) covers =
      let below : (q : Path) → R (a ∷ v ∷ q) ≡ true = λ q. covers (a ∷ v ∷ q) (or_left _ _ (one a _ (one v true refl))) in
      λ i. Usage
      (sum_below g.files (λ f. one_if (h.same a v (OfFile f) (below (0 ∷ [])) i)))
      (sum_below g.files (λ f. sum_below g.blocks (λ b. one_if (is_some (h.same a v (OfBlock f b) (below (0 ∷ stripe_of g f b ∷ [])) i)))))
      (h.same a v OfSealed (below []) i)
  same_answer AskSummary covers = λ i. Summary
      (sum_over_volumes g (λ a v. one_if (h.same a v OfMade (covers (volume a v) refl) i)))
      (sum_over_volumes g (λ a v. sum_below g.files (λ f. one_if (h.same a v (OfFile f) (covers (logical a v) refl) i))))
      (sum_over_volumes g (λ a v. sum_below g.files (λ f. sum_below g.blocks (λ b. one_if (is_some (h.same a v (OfBlock f b) (covers (stripe a v (stripe_of g f b)) refl) i))))))
  same_answer (AskLabel a v) covers = ap (λ o. Label (unwrap_or o no_label)) (h.same a v OfLabel (covers _ (are_related-refl (label a v))))
  same_answer _ covers = refl

-- ---- the two laws

-- Two states that agree on what is related to the message's place: the replies are the same, and the new states agree as far as the old ones did.
pub reads_only : (g : Geometry) (R : Path → Bool) (x y : State) (m : Msg) → AgreeOn g R x y → ((q : Path) → are_related (path_of g m) q ≡ true → R q ≡ true)
    → (reply_to g x m ≡ reply_to g y m) × AgreeOn g R (next_state g x m) (next_state g y m)
reads_only g R x y m h covers = grind (arith, same_refusal g R x y h m covers, effect_agrees g R x y h m, same_answer)

-- A step changes nothing but what lies at its place or below.
pub changes_only : (g : Geometry) (x : State) (m : Msg) → AgreeOn g (outside (path_of g m)) (next_state g x m) x
changes_only g x m = by (refusal g x m)
  where
    by : (r : Option Refusal) → AgreeOn g (outside (path_of g m)) (option_map_or (λ why. x) r (effect x m)) x
    by None = effect_only g x m
    by (Some why) = agree-refl x

-- ---- steps at unrelated places commute

-- message n changes nothing that is related to the place of m, if their places are unrelated
pub left_alone : (g : Geometry) (x : State) (m n : Msg) → are_related (path_of g m) (path_of g n) ≡ false → AgreeOn g (are_related (path_of g m)) (next_state g x n) x
left_alone g x m n h = agree_within
    (λ q r. not_from_false (is_prefix (path_of g n) q) (elim (is_prefix (path_of g n) q) as (λ b. is_prefix (path_of g n) q ≡ b → b ≡ false) [
      | true ↦ λ e. absurd (true≢false (sym r ∙ unrelated_turned q (path_of g m) (unrelated_below (path_of g n) (path_of g m) q (unrelated_turned (path_of g m) (path_of g n) h) e)))
      | false ↦ λ e. refl
    ] refl))
    (changes_only g x n)

pub same_reply : (g : Geometry) (x : State) (m n : Msg) → are_related (path_of g m) (path_of g n) ≡ false → reply_to g (next_state g x n) m ≡ reply_to g x m
same_reply g x m n h = (reads_only g (are_related (path_of g m)) (next_state g x n) x m (left_alone g x m n h) (λ q r. r)).0

-- at the place of m and below, both orders of m and n leave the same
at_its_place : (g : Geometry) (x : State) (m n : Msg) → are_related (path_of g m) (path_of g n) ≡ false
    → AgreeOn g (is_prefix (path_of g m)) (next_state g (next_state g x m) n) (next_state g (next_state g x n) m)
at_its_place g x m n h =
    let related : (q : Path) → is_prefix (path_of g m) q ≡ true → are_related (path_of g m) q ≡ true = λ q r. or_left _ _ r in
    agree-trans (agree_within related (left_alone g (next_state g x m) m n h))
    (agree-sym (agree_within related (reads_only g (are_related (path_of g m)) (next_state g x n) x m (left_alone g x m n h) (λ q r. r)).1))

elsewhere : (g : Geometry) (x : State) (m n : Msg) → AgreeOn g (λ q. outside (path_of g m) q && outside (path_of g n) q) (next_state g (next_state g x m) n) x
elsewhere g x m n = agree-trans
    (agree_within (λ q r. (and_parts (outside (path_of g m) q) (outside (path_of g n) q) r).1) (changes_only g (next_state g x m) n))
    (agree_within (λ q r. (and_parts (outside (path_of g m) q) (outside (path_of g n) q) r).0) (changes_only g x m))

each_path : (a b : Bool) → ((a || b) || (not a && not b)) ≡ true
each_path true b = refl
each_path false true = refl
each_path false false = refl

swapped_outside : (g : Geometry) (m n : Msg) (q : Path) → (outside (path_of g m) q && outside (path_of g n) q) ≡ true → (outside (path_of g n) q && outside (path_of g m) q) ≡ true
swapped_outside g m n q r =
    let p = and_parts (outside (path_of g m) q) (outside (path_of g n) q) r in
    and_from (outside (path_of g n) q) (outside (path_of g m) q) p.1 p.0

same_state : (g : Geometry) (x : State) (m n : Msg) → are_related (path_of g m) (path_of g n) ≡ false → next_state g (next_state g x m) n ≡ next_state g (next_state g x n) m
same_state g x m n h = agree_everywhere {g = g} {R = λ q. (is_prefix (path_of g m) q || is_prefix (path_of g n) q) || (outside (path_of g m) q && outside (path_of g n) q)}
    (λ q. each_path (is_prefix (path_of g m) q) (is_prefix (path_of g n) q))
    (agree_either
    (agree_either (at_its_place g x m n h) (agree-sym (at_its_place g x n m (unrelated_turned (path_of g m) (path_of g n) h))))
    (agree-trans (elsewhere g x m n) (agree-sym (agree_within (swapped_outside g m n) (elsewhere g x n m)))))

pub commute : (g : Geometry) (x : State) (m n : Msg) → are_related (path_of g m) (path_of g n) ≡ false → Commute g x m n
commute g x m n h = assumption (same_reply g x m n h, same_reply g x n m (unrelated_turned (path_of g m) (path_of g n) h), same_state g x m n h)
