-- Steps in a state in which one volume alone has anything.
use Rattle.std.proofs.Common.{◌≡◌, ℕ, Bool, true, false, Option, Some, None, refl, sym, ◌∙◌}
use Rattle.std.specs.Prelude.{◌&&◌, ◌||◌, ◌==◌, not, nat_lt, is_some, if◌then◌else◌}
use Rattle.std.proofs.lemmas.Bool.{eq-eqb}
use Rattle.std.specs.Option.{option_map_or}
use Rattle.affinity.specs.declared.geometry.Geometry.{Geometry}
use Rattle.affinity.specs.Geometry.{stripe_of}
use Rattle.protocol.specs.declared.messages.Block.{Block}
use Rattle.protocol.specs.declared.messages.Msg.{Msg}
use Rattle.protocol.specs.declared.messages.Msg.TheVariants.{Delete, Write, List as ListFiles, Usage as AskUsage}
use Rattle.protocol.specs.declared.replies.Refusal.{Refusal}
use Rattle.protocol.specs.declared.replies.Refusal.TheVariants.{Range, Volume, File, Space}
use Rattle.protocol.specs.declared.replies.Reply.{Reply}
use Rattle.protocol.specs.declared.replies.Reply.TheVariants.{Refused}
use Rattle.protocol.specs.Messages.{is_in_range}
use Rattle.meaning.specs.State.{State, blocks_in_stripe}
use Rattle.meaning.specs.Refusals.{refusal}
use Rattle.meaning.specs.Step.{effect, accepted_reply}
use Rattle.parcel.specs.JobRun.{IsSerialStep}
use Rattle.parcel.specs.VolumeStep.{guard, guard_open}
use Rattle.parcel.specs.Volume.{VolumeFacts, facts_if, one_volume}

-- ---- a step, by its refusal

pub refused : (g : Geometry) (x : State) (m : Msg) (why : Refusal) → refusal g x m ≡ Some why → IsSerialStep g x m (Refused why) x
refused g x m why e = record {
  reply = λ i. option_map_or Refused (sym e i) (accepted_reply g x m);
  state = λ i. option_map_or (λ why. x) (sym e i) (effect x m);
}

pub passed : (g : Geometry) (x : State) (m : Msg) (given : Reply) (y : State) → refusal g x m ≡ None → given ≡ accepted_reply g x m → y ≡ effect x m → IsSerialStep g x m given y
passed g x m given y e same new = record {
  reply = same ∙ (λ i. option_map_or Refused (sym e i) (accepted_reply g x m));
  state = new ∙ (λ i. option_map_or (λ why. x) (sym e i) (effect x m));
}

-- a check that leaves it to the later ones is passed
pub let_through : (passes : Bool) (why : Refusal) → guard passes why None ≡ None → passes ≡ true
let_through true why e = refl
let_through false why e = cc

-- ---- what the volume has

pub at_volume : (a v : ℕ) (h : VolumeFacts) → facts_if ((a == a) && (v == v)) h ≡ h
at_volume a v h = λ i. facts_if (eq-eqb a a refl i && eq-eqb v v refl i) h

module _ (g : Geometry) (a v : ℕ) where
  -- the tests of a write, where its stripe has n blocks
  pub write_tests : (f b : ℕ) (content : Block) (h : VolumeFacts) {n : ℕ} → is_in_range g (Write a v f b content) ≡ true → blocks_in_stripe g (one_volume a v h) a v (stripe_of g f b) ≡ n
      → refusal g (one_volume a v h) (Write a v f b content) ≡ guard_open h.made h.sealed (guard (h.files f) File (guard (is_some (h.blocks f b) || nat_lt n g.quota) Space None))
  write_tests f b content h range count =
      let at = at_volume a v h in
      λ i. guard (range i) Range (guard_open (at i).made (at i).sealed (guard ((at i).files f) File (guard (is_some ((at i).blocks f b) || nat_lt (count i) g.quota) Space None)))

  pub delete_tests : (f : ℕ) (h : VolumeFacts) → is_in_range g (Delete a v f) ≡ true
      → refusal g (one_volume a v h) (Delete a v f) ≡ guard_open h.made h.sealed (guard (h.files f) File None)
  delete_tests f h range = let at = at_volume a v h in λ i. guard (range i) Range (guard_open (at i).made (at i).sealed (guard ((at i).files f) File None))

  pub list_tests : (h : VolumeFacts) → is_in_range g (ListFiles a v) ≡ true → refusal g (one_volume a v h) (ListFiles a v) ≡ guard h.made Volume None
  list_tests h range = let at = at_volume a v h in λ i. guard (range i) Range (guard (at i).made Volume None)

  pub usage_tests : (h : VolumeFacts) → is_in_range g (AskUsage a v) ≡ true → refusal g (one_volume a v h) (AskUsage a v) ≡ guard h.made Volume None
  usage_tests h range = let at = at_volume a v h in λ i. guard (range i) Range (guard (at i).made Volume None)

-- ---- effects

module _ (h : VolumeFacts) where
  -- a part that the change leaves as it was
  same : {A : Type 0} (part : VolumeFacts → A) (k : VolumeFacts) → part k ≡ part h → (t : Bool) → part (facts_if t k) ≡ part (facts_if t h)
  same part k e true = e
  same part k e false = refl

  -- the volume gets other blocks, and keeps the rest
  module _ (a v : ℕ) (blocks' : ℕ → ℕ → Option Block) where
    abbrev with_blocks : VolumeFacts
    with_blocks = record h { blocks = blocks' }

    pub effect_write : (f b : ℕ) (content : Block) → ((i j : ℕ) → blocks' i j ≡ (if (f == i) && (b == j) then Some content else h.blocks i j))
        → one_volume a v with_blocks ≡ effect (one_volume a v h) (Write a v f b content)
    effect_write f b content e = λ i. record {
      made = λ k. same (λ x. x.made) with_blocks refl ((a == k.0) && (v == k.1)) i;
      sealed = λ k. same (λ x. x.sealed) with_blocks refl ((a == k.0) && (v == k.1)) i;
      files = λ k. same (λ x. x.files) with_blocks refl ((a == k.0) && (v == k.1)) i k.2;
      blocks = λ k. blocks ((a == k.0) && (v == k.1)) k.2 k.3 i;
      labels = λ k. same (λ x. x.label) with_blocks refl ((a == k.0) && (v == k.1)) i;
    }
      where
        blocks : (t : Bool) (i j : ℕ) → (facts_if t with_blocks).blocks i j ≡ (if t && (f == i) && (b == j) then Some content else (facts_if t h).blocks i j)
        blocks true i j = e i j
        blocks false i j = refl

  -- the volume gets other files and blocks, and keeps the rest
  module _ (a v : ℕ) (files' : ℕ → Bool) (blocks' : ℕ → ℕ → Option Block) where
    abbrev with_both : VolumeFacts
    with_both = record h { files = files'; blocks = blocks' }

    pub effect_delete : (f : ℕ) → ((i : ℕ) → files' i ≡ (not (f == i) && h.files i))
        → ((i j : ℕ) → blocks' i j ≡ (if f == i then None else h.blocks i j)) → one_volume a v with_both ≡ effect (one_volume a v h) (Delete a v f)
    effect_delete f e d = λ i. record {
      made = λ k. same (λ x. x.made) with_both refl ((a == k.0) && (v == k.1)) i;
      sealed = λ k. same (λ x. x.sealed) with_both refl ((a == k.0) && (v == k.1)) i;
      files = λ k. files ((a == k.0) && (v == k.1)) k.2 i;
      blocks = λ k. blocks ((a == k.0) && (v == k.1)) k.2 k.3 i;
      labels = λ k. same (λ x. x.label) with_both refl ((a == k.0) && (v == k.1)) i;
    }
      where
        files : (t : Bool) (j : ℕ) → (facts_if t with_both).files j ≡ (not (t && (f == j)) && (facts_if t h).files j)
        files true j = e j
        files false j = refl

        blocks : (t : Bool) (i j : ℕ) → (facts_if t with_both).blocks i j ≡ (if t && (f == i) then None else (facts_if t h).blocks i j)
        blocks true i j = d i j
        blocks false i j = refl
