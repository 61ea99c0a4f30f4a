-- Sending again heals: each line that is sent again brings the state nearer to the one that there would be without a crash.
use Rattle.std.proofs.Common.{arith, ◌≡◌, ◌⊎◌, ℕ, ◌+◌, ◌<◌, ◌≤◌, Bool, true, false, List, [], ◌∷◌, ◌++◌, Option, Some, None, refl, ap, sym, ◌∙◌, subst, inl, ⊎_elim, append_assoc}
use Rattle.std.specs.Prelude.{◌&&◌, ◌||◌, not, ◌==◌, nat_lt, if◌then◌else◌, cond, find, is_some}
use Rattle.std.specs.List.{AllByRecursion}
use Rattle.std.proofs.lemmas.Bool.{and_parts, and_cases, and_from, and_left, or_right, or_cases, eq-eqb, ltb-true, lt-ltb, true≢false}
use Rattle.std.specs.Option.{option_map_or}
use Rattle.affinity.specs.Geometry.{stripe_of}
use Rattle.affinity.specs.Kind.{is_changing}
use Rattle.affinity.specs.Path.{are_related}
use Rattle.affinity.specs.declared.geometry.Geometry.{Geometry}
use Rattle.affinity.specs.declared.kinds.Kind.TheVariants as kinds
use Rattle.protocol.specs.Grammar.{message_of}
use Rattle.protocol.specs.Messages.{is_in_range, kind, four_numbers, path_of}
use Rattle.protocol.specs.declared.messages.Block.{Block}
use Rattle.protocol.specs.declared.messages.Msg.{Msg}
use Rattle.protocol.specs.declared.messages.Msg.TheVariants.{MakeVol, DropVol, Create, Delete, Seal, Unseal, Write, Punch, SetLabel, Summary as AskSummary}
use Rattle.protocol.specs.declared.replies.Refusal.{Refusal}
use Rattle.protocol.specs.declared.replies.Refusal.TheVariants.{Space}
use Rattle.meaning.specs.State.{State, IsState, BlockKey, VolumeKey, blocks_in_stripe, sum_below, is_volume, is_block}
use Rattle.meaning.specs.Refusals.{checks, is_refused, passes}
use Rattle.protocol.specs.declared.replies.Reply.{Reply}
use Rattle.protocol.specs.declared.replies.Reply.TheVariants.{Refused}
use Rattle.meaning.specs.Step.{accepted_reply, effect, next_state, reply_to}
use Rattle.meaning.specs.Output.{state_after_line, state_after_lines}
use Rattle.meaning.specs.ClosedPart.{IsClosedPart, are_related_lines}
use Rattle.meaning.specs.SendingAgain.{AreAccepted, AreTries, HaveSpace, IsAccepted, Try, WritesThere, lines_done, stripe_size, with_block, with_blocks}
use Rattle.meaning.proofs.Commute.{commute}
use Rattle.meaning.proofs.IsState.{fewer, not_cleared, two_below, was_set}
use Rattle.meaning.proofs.Keys.{other_file, other_place, picks_block, the_block, the_volume}
use Rattle.meaning.proofs.OutputLemmas.{state_after_lines-append}
use Rattle.meaning.proofs.Sums.{one_if_from, sum_below-le, sum_one_more, one_if}
use Rattle.meaning.proofs.HealingStep.{FindsRoom, SealsMade, SameVolume, HealsVolume, HealsFile, SameFile, FileHeals, Heal, all_pass, all_passed, heals, if_ran, next_is, runs}

-- ---- room

-- each block of the state is one of c's, too
abbrev Within : State → State → Type 0
Within c u = (k : BlockKey) → is_some (u.blocks k) ≡ true → is_some (c.blocks k) ≡ true

module _ (g : Geometry) (c w : State) (full : (a v s : ℕ) → blocks_in_stripe g c a v s ≤ g.quota) (within : Within c w) (a v f l : ℕ) (content : Block) where
  abbrev written : State
  written = effect w (Write a v f l content)

  abbrev counts : State → ℕ → ℕ → ℕ
  counts u f' l' = one_if ((stripe_of g f' l' == stripe_of g f l) && is_some (u.blocks (a, v, f', l')))

  written_within : is_some (c.blocks (a, v, f, l)) ≡ true → Within c written
  written_within there k e = ⊎_elim (λ is. subst (λ k. is_some (c.blocks k) ≡ true) (the_block a v f l k is) there) (within k)
      (was_set (is_block a v f l k) content (w.blocks k) e)

  unchanged : (f' l' : ℕ) → is_block a v f l (a, v, f', l') ≡ false → counts written f' l' ≡ counts w f' l'
  unchanged f' l' e i = one_if ((stripe_of g f' l' == stripe_of g f l) && is_some (if e i then Some content else w.blocks (a, v, f', l')))

  -- a block that is not there counts one when it is
  one_more : f < g.files → l < g.blocks → is_some (w.blocks (a, v, f, l)) ≡ false
      → blocks_in_stripe g written a v (stripe_of g f l) ≡ blocks_in_stripe g w a v (stripe_of g f l) + 1
  one_more in_files in_blocks none = sum_one_more g.files f _ _ in_files
      (λ f' ne i. sum_below g.blocks (λ l'. unchanged f' l' (other_file a v f l (a, v, f', l') ne) i))
      (sum_one_more g.blocks l _ _ in_blocks (λ l' ne. unchanged f l' (other_place a v f l (a, v, f, l') ne)) one_and_none)
    where
      one_and_none : counts written f l ≡ counts w f l + 1
      one_and_none =
          let here : (stripe_of g f l == stripe_of g f l) ≡ true = eq-eqb _ _ refl in
          let now : counts written f l ≡ 1 = λ i. one_if (here i && is_some (if picks_block a v f l i then Some content else w.blocks (a, v, f, l))) in
          let was : counts w f l ≡ 0 = λ i. one_if (here i && none i) in
          omega (arith, now, was)

  finds_room : is_some (c.blocks (a, v, f, l)) ≡ true → f < g.files → l < g.blocks → passes g w kinds.Write (a ∷ v ∷ f ∷ l ∷ []) Space ≡ true
  finds_room there in_files in_blocks =
      let s = stripe_of g f l in
      elim (is_some (w.blocks (a, v, f, l))) as (λ t. is_some (w.blocks (a, v, f, l)) ≡ t → (t || nat_lt (blocks_in_stripe g w a v s) g.quota) ≡ true) [
        | true ↦ λ e. refl
        | false ↦ λ e.
            let more = one_more in_files in_blocks e in
            let few = fewer g c written (written_within there) a v s in
            lt-ltb _ _ (omega (arith, more, few, full a v s))
      ] refl

module _ (g : Geometry) (c w z : State) (full : (a v s : ℕ) → blocks_in_stripe g c a v s ≤ g.quota) (within : Within c w) where
  room_for : (m : Msg) → WritesThere c (Some m) → runs g z m ≡ true → FindsRoom g w m
  room_for (Write a v f l content) there ran =
      let p = all_passed (passes g z kinds.Write (a ∷ v ∷ f ∷ l ∷ [])) (checks kinds.Write) ran in
      let r = two_below g a v (f ∷ l ∷ []) p.0 in
      let in_files = and_parts (nat_lt f g.files) (nat_lt l g.blocks && true) r.2 in
      finds_room g c w full within a v f l content there (ltb-true _ _ in_files.0) (ltb-true _ _ (and_parts (nat_lt l g.blocks) true in_files.1).0)
  room_for _ there ran = tt

-- ---- what each state on the way is

pub record Kept (c u : State) : Type 0 where
  pub seals : SealsMade u
  pub within : Within c u

seals_kept : (g : Geometry) (u : State) (m : Msg) → runs g u m ≡ true → SealsMade u → SealsMade (effect u m)
seals_kept g u (MakeVol a v) ran h k e = or_right (is_volume a v k) (u.made k) (h k e)
seals_kept g u (DropVol a v) ran h k e =
    let p = and_parts (not (is_volume a v k)) (u.sealed k) e in
    and_from (not (is_volume a v k)) (u.made k) p.0 (h k p.1)
seals_kept g u (Seal a v) ran h k e =
    let p = all_passed (passes g u kinds.Seal (a ∷ v ∷ 0 ∷ 0 ∷ [])) (checks kinds.Seal) ran in
    ⊎_elim (λ is. subst (λ k. u.made k ≡ true) (the_volume a v k is) p.1.0) (h k) (or_cases (is_volume a v k) (u.sealed k) e)
seals_kept g u (Unseal a v) ran h k e = h k (and_parts (not (is_volume a v k)) (u.sealed k) e).1
seals_kept g u _ ran h k e = h k e

within_kept : (c u : State) (m : Msg) → WritesThere c (Some m) → Within c u → Within c (effect u m)
within_kept c u (DropVol a v) there h k e = h k (not_cleared _ (u.blocks k) e).1
within_kept c u (Delete a v f) there h k e = h k (not_cleared _ (u.blocks k) e).1
within_kept c u (Punch a v f l) there h k e = h k (not_cleared _ (u.blocks k) e).1
within_kept c u (Write a v f l content) there h k e = ⊎_elim (λ is. subst (λ k. is_some (c.blocks k) ≡ true) (the_block a v f l k is) there) (h k) (was_set (is_block a v f l k) content (u.blocks k) e)
within_kept c u _ there h k e = h k e

kept_message : (g : Geometry) (c u : State) (m : Msg) → WritesThere c (Some m) → Kept c u → Kept c (next_state g u m)
kept_message g c u m there h = subst (Kept c) (sym (next_is g u m)) (elim (runs g u m) as (λ t. runs g u m ≡ t → Kept c (if_ran t u m)) [
  | true ↦ λ e. record { seals = seals_kept g u m e h.seals; within = within_kept c u m there h.within }
  | false ↦ λ e. h
] refl)

kept_line : (g : Geometry) (c u : State) (o : Option Msg) → WritesThere c o → Kept c u → Kept c (state_after_line g u o)
kept_line g c u None there h = h
kept_line g c u (Some m) there h = kept_message g c u m there h

abbrev AreWithin : State → List (List ℕ) → Type 0
AreWithin c ls = AllByRecursion (λ line. WritesThere c (message_of line)) ls

kept_lines : (g : Geometry) (c u : State) (ls : List (List ℕ)) → AreWithin c ls → Kept c u → Kept c (state_after_lines g u ls)
kept_lines g c u [] there h = h
kept_lines g c u (line ∷ ls) there h = kept_lines g c (state_after_line g u (message_of line)) ls there.1 (kept_line g c u (message_of line) there.0 h)

-- the blocks that the lines write, put into a state
stays : (x : State) (o : Option Msg) (k : BlockKey) → is_some (x.blocks k) ≡ true → is_some ((with_block x o).blocks k) ≡ true
stays x (Some (Write a v f l content)) k e = elim (is_block a v f l k) as (λ t. is_some (if t then Some content else x.blocks k) ≡ true) [
  | true ↦ refl
  | false ↦ e
]
stays x _ k e = e

all_stay : (x : State) (ls : List (List ℕ)) (k : BlockKey) → is_some (x.blocks k) ≡ true → is_some ((with_blocks x ls).blocks k) ≡ true
all_stay x [] k e = e
all_stay x (line ∷ ls) k e = all_stay (with_block x (message_of line)) ls k (stays x (message_of line) k e)

is_written : (x : State) (o : Option Msg) (c : State) → ((k : BlockKey) → is_some ((with_block x o).blocks k) ≡ true → is_some (c.blocks k) ≡ true) → WritesThere c o
is_written x (Some (Write a v f l content)) c h = h (a, v, f, l) (ap (λ t. is_some (if t then Some content else x.blocks (a, v, f, l))) (picks_block a v f l))
is_written x _ c h = tt

all_written : (x : State) (ls : List (List ℕ)) → AreWithin (with_blocks x ls) ls
all_written x [] = tt
all_written x (line ∷ ls) =
    (is_written x (message_of line) (with_blocks x (line ∷ ls)) (λ k e. all_stay (with_block x (message_of line)) ls k e), all_written (with_block x (message_of line)) ls)

within_part : (g : Geometry) (c : State) (part ls : List (List ℕ)) → IsClosedPart g part ls → AreWithin c ls → AreWithin c part
within_part g c part [] closed h = subst (AreWithin c) (sym closed) tt
within_part g c part (line ∷ ls) closed h = ⊎_elim
    (λ (k : (rest : List (List ℕ)) × (part ≡ line ∷ rest) × IsClosedPart g rest ls). subst (AreWithin c) (sym k.1) (h.0, within_part g c k.0 ls k.2 h.1))
    (λ (k : AllByRecursion (λ other. are_related_lines g (message_of line) (message_of other) ≡ false) part × IsClosedPart g part ls). within_part g c part ls k.1 h.1)
    closed

within_rest : (c : State) (first rest : List (List ℕ)) → AreWithin c (first ++ rest) → AreWithin c first × AreWithin c rest
within_rest c [] rest h = (tt, h)
within_rest c (line ∷ first) rest h = let r = within_rest c first rest h.1 in ((h.0, r.0), r.1)

accepted_rest : (g : Geometry) (z : State) (first rest : List (List ℕ)) → AreAccepted g z (first ++ rest) → AreAccepted g (state_after_lines g z first) rest
accepted_rest g z [] rest h = h
accepted_rest g z (line ∷ first) rest h = accepted_rest g (state_after_line g z (message_of line)) first rest h.1

-- ---- unrelated lines, one after the other

out_of_range : (g : Geometry) (u : State) (m : Msg) → is_in_range g m ≡ false → next_state g u m ≡ u
out_of_range g u AskSummary e = refl
out_of_range g u m e = next_is g u m ∙ ap (λ b. if_ran b u m) (and_left _ _ e)

turned : (g : Geometry) (u : State) (o p : Option Msg) → are_related_lines g o p ≡ false
    → state_after_line g (state_after_line g u o) p ≡ state_after_line g (state_after_line g u p) o
turned g u None p h = refl
turned g u (Some m) None h = refl
turned g u (Some m) (Some n) h = ⊎_elim
    (λ e. ⊎_elim
    (λ e. ap (λ x. next_state g x n) (out_of_range g u m e) ∙ sym (out_of_range g (next_state g u n) m e))
    (λ e. out_of_range g (next_state g u m) n e ∙ sym (ap (λ x. next_state g x m) (out_of_range g u n e)))
    (and_cases (is_in_range g m) (is_in_range g n) e))
    (λ e. (commute g u m n e).state)
    (and_cases (is_in_range g m && is_in_range g n) (are_related (path_of g m) (path_of g n)) h)

past_part : (g : Geometry) (u : State) (o : Option Msg) (part : List (List ℕ)) → AllByRecursion (λ other. are_related_lines g o (message_of other) ≡ false) part
    → state_after_lines g (state_after_line g u o) part ≡ state_after_line g (state_after_lines g u part) o
past_part g u o [] h = refl
past_part g u o (line ∷ part) h =
    ap (λ x. state_after_lines g x part) (turned g u o (message_of line) h.0) ∙ past_part g (state_after_line g u (message_of line)) o part h.1

-- ---- a line that is sent again

not_refused : (p : Refusal → Bool) (ts : List Refusal) (reply : Reply) → is_refused (option_map_or Refused (find (λ t. not (p t)) ts) reply) ≡ false → all_pass p ts ≡ true
not_refused p [] reply e = refl
not_refused p (t ∷ ts) reply e =
    elim (p t) as (λ c. is_refused (option_map_or Refused (cond (not c) (Some t) (find (λ t. not (p t)) ts)) reply) ≡ false → (c && all_pass p ts) ≡ true) [
      | true ↦ λ e. not_refused p ts reply e
      | false ↦ λ e. absurd (true≢false e)
    ] e

changes_nothing : (b : Bool) (u : State) (m : Msg) → is_changing (kind m) ≡ false → if_ran b u m ≡ u
changes_nothing false u m c = refl
changes_nothing true u (MakeVol a v) c = absurd (true≢false c)
changes_nothing true u (DropVol a v) c = absurd (true≢false c)
changes_nothing true u (Create a v f) c = absurd (true≢false c)
changes_nothing true u (Delete a v f) c = absurd (true≢false c)
changes_nothing true u (Seal a v) c = absurd (true≢false c)
changes_nothing true u (Unseal a v) c = absurd (true≢false c)
changes_nothing true u (Write a v f l content) c = absurd (true≢false c)
changes_nothing true u (Punch a v f l) c = absurd (true≢false c)
changes_nothing true u (SetLabel a v bytes) c = absurd (true≢false c)
changes_nothing true u _ c = refl

-- whether the message was carried out in y, too
module _ (g : Geometry) (c w z y : State) (full : (a v s : ℕ) → blocks_in_stripe g c a v s ≤ g.quota) (hw : Kept c w) (hz : Kept c z) where
  heal_message : (b : Bool) (m : Msg) → (b ≡ true → runs g y m ≡ true) → IsAccepted g z (Some m) → WritesThere c (Some m) → Heal w z y
      → Heal (next_state g w m) (next_state g z m) (if_ran b y m)
  heal_message b m ran accepted there h =
      elim (is_changing (kind m)) as (λ t. is_changing (kind m) ≡ t → Heal (next_state g w m) (next_state g z m) (if_ran b y m)) [
        | false ↦ λ e. subst (λ q. Heal q (next_state g z m) (if_ran b y m)) (sym (next_is g w m ∙ changes_nothing (runs g w m) w m e))
            (subst (λ q. Heal w q (if_ran b y m)) (sym (next_is g z m ∙ changes_nothing (runs g z m) z m e))
            (subst (λ q. Heal w z q) (sym (changes_nothing b y m e)) h))
        | true ↦ λ e.
            let in_z : runs g z m ≡ true = not_refused (passes g z (kind m) (four_numbers m)) (checks (kind m)) (accepted_reply g z m)
            (sym (ap (λ t. t && is_refused (reply_to g z m)) e) ∙ accepted) in
            subst (λ q. Heal q (next_state g z m) (if_ran b y m)) (sym (next_is g w m))
            (subst (λ q. Heal (if_ran (runs g w m) w m) q (if_ran b y m)) (sym (next_is g z m ∙ ap (λ t. if_ran t z m) in_z))
            (heals g w z y hw.seals hz.seals b m ran in_z (room_for g c w z full hw.within m there in_z) e h))
      ] refl

  -- what a crash left is as it was, or had the line carried out, too
  heal_kept : (o : Option Msg) → IsAccepted g z o → WritesThere c o → Heal w z y → Heal (state_after_line g w o) (state_after_line g z o) y
  heal_kept None accepted there h = h
  heal_kept (Some m) accepted there h = heal_message false m (λ e. absurd (true≢false (sym e))) accepted there h

  heal_both : (o : Option Msg) → IsAccepted g z o → WritesThere c o → Heal w z y → Heal (state_after_line g w o) (state_after_line g z o) (state_after_line g y o)
  heal_both None accepted there h = h
  heal_both (Some m) accepted there h = subst (λ q. Heal (next_state g w m) (next_state g z m) q) (sym (next_is g y m)) (heal_message (runs g y m) m (λ e. e) accepted there h)

-- ---- all lines, one after the other

either_way : {X : Type 0} {p q : X} → (p ≡ q) ⊎ (p ≡ q) → p ≡ q
either_way h = ⊎_elim (λ e. e) (λ e. e) h

healed : (w z : State) → Heal w z z → w ≡ z
healed w z h i = record {
  made = λ k. made_same k i;
  sealed = λ k. sealed_same k i;
  files = λ k. (file_same k.0 k.1 k.2).0 i;
  blocks = λ k. (file_same k.0 k.1 k.2).1 k.3 i;
  labels = λ k. label_same k i;
}
  where
    made_same : (k : VolumeKey) → w.made k ≡ z.made k
    made_same k = ⊎_elim (λ (s : SameVolume w z k.0 k.1). s.made) (λ (s : HealsVolume w z z k.0 k.1). s.made) (h k.0 k.1)

    sealed_same : (k : VolumeKey) → w.sealed k ≡ z.sealed k
    sealed_same k = ⊎_elim (λ (s : SameVolume w z k.0 k.1). s.sealed) (λ (s : HealsVolume w z z k.0 k.1). s.sealed) (h k.0 k.1)

    label_same : (k : VolumeKey) → w.labels k ≡ z.labels k
    label_same k = ⊎_elim (λ (s : SameVolume w z k.0 k.1). s.label) (λ (s : HealsVolume w z z k.0 k.1). either_way s.label) (h k.0 k.1)

    of_file : (a v f : ℕ) → FileHeals w z z a v f → SameFile w z a v f
    of_file a v f r = ⊎_elim (λ (s : SameFile w z a v f). s) (λ (s : HealsFile w z z a v f). (s.file, λ l. either_way (s.blocks l))) r

    file_same : (a v f : ℕ) → SameFile w z a v f
    file_same a v f = ⊎_elim (λ (s : SameVolume w z a v). s.files f) (λ (s : HealsVolume w z z a v). of_file a v f (s.files f)) (h a v)

-- From z each of the lines is accepted, and writes a block of c.
pub record CanBeSent (g : Geometry) (c z : State) (ls : List (List ℕ)) : Type 0 where
  pub kept : Kept c z
  pub there : AreWithin c ls
  pub accepted : AreAccepted g z ls

-- All lines lead from u to where they lead from z; a crash left a part of them, and w is on its way from there to z.
pub record AfterCrash (g : Geometry) (z u w : State) (ls part : List (List ℕ)) : Type 0 where
  pub same : state_after_lines g u ls ≡ state_after_lines g z ls
  pub closed : IsClosedPart g part ls
  pub heal : Heal w z (state_after_lines g u part)

module _ (g : Geometry) (c : State) (full : (a v s : ℕ) → blocks_in_stripe g c a v s ≤ g.quota) where
  one_sent : (z : State) (line : List ℕ) (ls : List (List ℕ)) → CanBeSent g c z (line ∷ ls) → CanBeSent g c (state_after_line g z (message_of line)) ls
  one_sent z line ls h = record { kept = kept_line g c z (message_of line) h.there.0 h.kept; there = h.there.1; accepted = h.accepted.1 }

  -- The lines lead from w to where they lead from z.
  heal_lines : (z u w : State) (ls part : List (List ℕ)) → CanBeSent g c z ls → Kept c w → AfterCrash g z u w ls part → state_after_lines g w ls ≡ state_after_lines g z ls
  heal_lines z u w [] part can kw h = healed w z (subst (Heal w z) (ap (state_after_lines g u) h.closed ∙ h.same) h.heal)
  heal_lines z u w (line ∷ ls) part can kw h =
      let o = message_of line in
      let goes_on = heal_lines (state_after_line g z o) (state_after_line g u o) (state_after_line g w o) ls in
      let can' = one_sent z line ls can in
      let kw' = kept_line g c w o can.there.0 kw in
      let y = state_after_lines g u part in
      ⊎_elim
      (λ (k : (rest : List (List ℕ)) × (part ≡ line ∷ rest) × IsClosedPart g rest ls). goes_on k.0 can' kw' (record {
        same = h.same;
        closed = k.2;
        heal = subst (Heal (state_after_line g w o) (state_after_line g z o)) (ap (state_after_lines g u) k.1)
            (heal_kept g c w z y full kw can.kept o can.accepted.0 can.there.0 h.heal);
      }))
      (λ (k : AllByRecursion (λ other. are_related_lines g o (message_of other) ≡ false) part × IsClosedPart g part ls). goes_on part can' kw' (record {
        same = h.same;
        closed = k.1;
        heal = subst (Heal (state_after_line g w o) (state_after_line g z o)) (sym (past_part g u o part k.0))
            (heal_both g c w z y full kw can.kept o can.accepted.0 can.there.0 h.heal);
      }))
      h.closed

  first_sent : (z : State) (first rest ls : List (List ℕ)) → ls ≡ first ++ rest → CanBeSent g c z ls → CanBeSent g c (state_after_lines g z first) rest
  first_sent z first rest ls e can =
      let parts = within_rest c first rest (subst (AreWithin c) e can.there) in
      record {
        kept = kept_lines g c z first parts.0 can.kept;
        there = parts.1;
        accepted = accepted_rest g z first rest (subst (AreAccepted g z) e can.accepted);
      }

  first_done : (x : State) (first rest ls : List (List ℕ)) → ls ≡ first ++ rest → state_after_lines g x ls ≡ state_after_lines g (state_after_lines g x first) rest
  first_done x first rest ls e = ap (state_after_lines g x) e ∙ state_after_lines-append g x first rest

  start : (z w : State) → Heal w z w
  start z w i j = inl (record { made = refl; sealed = refl; label = refl; files = λ k. (refl, λ l. refl) })

  heal_tries : (z u : State) (ls : List (List ℕ)) (tries : List Try) (left : List (List ℕ)) → CanBeSent g c z ls
      → Kept c u × (state_after_lines g u ls ≡ state_after_lines g z ls) → AreTries g tries ls left → state_after_lines g u (lines_done tries ++ left) ≡ state_after_lines g z ls
  heal_tries z u ls [] left can from h = ap (state_after_lines g u) h ∙ from.1
  heal_tries z u ls (t ∷ tries) left can from h =
      let rest = h.0 in
      let z' = state_after_lines g z t.answered in
      let u' = state_after_lines g u t.answered in
      let w = state_after_lines g u' t.part in
      let can' = first_sent z t.answered rest ls h.1 can in
      let parts = within_rest c t.answered rest (subst (AreWithin c) h.1 can.there) in
      let kw = kept_lines g c u' t.part (within_part g c t.part rest h.2 parts.1) (kept_lines g c u t.answered parts.0 from.0) in
      let same' : state_after_lines g u' rest ≡ state_after_lines g z' rest = sym (first_done u t.answered rest ls h.1) ∙ from.1 ∙ first_done z t.answered rest ls h.1 in
      let again : state_after_lines g w rest ≡ state_after_lines g z' rest
      = heal_lines z' u' w rest t.part can' kw (record { same = same'; closed = h.2; heal = start z' w }) in
      let all = lines_done tries ++ left in
      ap (state_after_lines g u) (append_assoc (t.answered ++ t.part) (lines_done tries) left) ∙ state_after_lines-append g u (t.answered ++ t.part) all
      ∙ ap (λ x. state_after_lines g x all) (state_after_lines-append g u t.answered t.part)
      ∙ heal_tries z' w rest tries left can' (kw, again) h.3 ∙ sym (first_done z t.answered rest ls h.1)

module _ (g : Geometry) (x : State) (ls : List (List ℕ)) where
  pub sending_again_heals : (tries : List Try) (left : List (List ℕ)) → IsState g x → AreAccepted g x ls → HaveSpace g x ls → AreTries g tries ls left
      → state_after_lines g x (lines_done tries ++ left) ≡ state_after_lines g x ls
  sending_again_heals tries left is accepted room h =
      let kept : Kept (with_blocks x ls) x = record { seals = is.sealed; within = all_stay x ls } in
      heal_tries g (with_blocks x ls) room x x ls tries left (record { kept = kept; there = all_written x ls; accepted = accepted }) (kept, refl) h

-- ---- where there is room

pub quota_is_large : (g : Geometry) (x : State) (ls : List (List ℕ)) → ((s : ℕ) → stripe_size g s ≤ g.quota) → HaveSpace g x ls
quota_is_large g x ls h a v s =
    let all : blocks_in_stripe g (with_blocks x ls) a v s ≤ stripe_size g s
    = sum_below-le g.files _ _ (λ f lt. sum_below-le g.blocks _ _ (λ b lt. one_if_from _ _ (λ e. (and_parts (stripe_of g f b == s) _ e).0))) in
    omega (arith, all, h s)

still_within : (x y : State) (ls : List (List ℕ)) → AreWithin x ls → Within x y → Within x (with_blocks y ls)
still_within x y [] there h = h
still_within x y (line ∷ ls) there h = still_within x (with_block y (message_of line)) ls there.1 (put_in (message_of line) there.0)
  where
    put_in : (o : Option Msg) → WritesThere x o → Within x (with_block y o)
    put_in (Some (Write a v f l content)) there = within_kept x y (Write a v f l content) there h
    put_in _ there = h

pub nothing_is_new : (g : Geometry) (x : State) (ls : List (List ℕ)) → IsState g x → AllByRecursion (λ line. WritesThere x (message_of line)) ls → HaveSpace g x ls
nothing_is_new g x ls is there a v s = let few = fewer g x (with_blocks x ls) (still_within x x ls there (λ k e. e)) a v s in omega (arith, few, is.quota a v s)
