-- The entries of a stripe ascend, so any ascending list that holds the same blocks is the same list.
use Rattle.std.proofs.Common.{◌≡◌, ℕ, zero, suc, ◌<◌, Bool, true, false, ◌&&◌, List, Option, Some, None, refl, sym, ◌∙◌, arith, inl, inr}
use Rattle.std.specs.Prelude.{◌==◌, if◌then◌else◌}
use Rattle.std.specs.List.{AllByRecursion}
use Rattle.affinity.specs.Geometry.{stripe_of}
use Rattle.affinity.specs.declared.geometry.Geometry.{Geometry}
use Rattle.affinity.proofs.Elements.{all_weaker}
use Rattle.protocol.specs.declared.messages.Block.{Block}
use Rattle.meaning.specs.State.{State, IsState}
use Rattle.stripe.specs.Stripe.{BlockEntry, content_at, ComesBefore, IsAscending}
use Rattle.stripe.proofs.EntryOrder.{ascending_same, ascending-append}
use Rattle.image.specs.Pieces.{stripe_entries, entry_if, joined_below}
use Rattle.image.proofs.Measures.{all_joined}
use Rattle.image.proofs.ReadImage.{entries_hold}
use Rattle.image.proofs.JoinedEntries.{none_joined}

-- A list of entries for each number: if entries of a smaller number come before those of a larger, the joined lists ascend.
module _ (Q : BlockEntry → Type 0) (number : BlockEntry → ℕ) (h : ℕ → List BlockEntry) (of : (n : ℕ) → AllByRecursion (λ e. Q e × (number e ≡ n)) (h n)) (ascend : (n : ℕ) → IsAscending (h n))
    (before : (d e : BlockEntry) → Q d → Q e → number d < number e → ComesBefore d e) where
  all_small : (n : ℕ) → AllByRecursion (λ e. Q e × (number e < n)) (joined_below n h)
  all_small n = all_joined (λ e. Q e × (number e < n)) n h (λ i few. all_weaker (λ e. Q e × (number e ≡ i)) (λ e. Q e × (number e < n)) (λ e is. (is.0, omega (arith, is.1, few))) (h i) (of i))

  all_before : (n : ℕ) (ds : List BlockEntry) → AllByRecursion (λ e. Q e × (number e < n)) ds → AllByRecursion (λ d. AllByRecursion (ComesBefore d) (h n)) ds
  all_before n = grind (arith, all_weaker)

  pub rows_ascend : (n : ℕ) → IsAscending (joined_below n h)
  rows_ascend zero = tt
  rows_ascend (suc n) = ascending-append (joined_below n h) (h n) (rows_ascend n) (ascend n) (all_before n (joined_below n h) (all_small n))

pub one_of : (P : BlockEntry → Type 0) (p : Bool) (f b : ℕ) (o : Option Block) → ((content : Block) → P (record { file = f; block = b; content = content })) → AllByRecursion P (entry_if p f b o)
one_of P true f b (Some content) is = (is content, tt)
one_of P true f b None is = tt
one_of P false f b o is = tt

one_ascends : (p : Bool) (f b : ℕ) (o : Option Block) → IsAscending (entry_if p f b o)
one_ascends true f b (Some content) = (tt, tt)
one_ascends true f b None = tt
one_ascends false f b o = tt

module _ (g : Geometry) (x : State) (a v s : ℕ) where
  abbrev row : ℕ → ℕ → List BlockEntry
  row f b = entry_if (x.files (a, v, f) && (stripe_of g f b == s)) f b (x.blocks (a, v, f, b))

  of_file : (f : ℕ) → AllByRecursion (λ (e : BlockEntry). Unit {0} × (e.file ≡ f)) (joined_below g.blocks (row f))
  of_file f = all_joined (λ (e : BlockEntry). Unit {0} × (e.file ≡ f)) g.blocks (row f)
      (λ b few. one_of (λ (e : BlockEntry). Unit {0} × (e.file ≡ f)) (x.files (a, v, f) && (stripe_of g f b == s)) f b (x.blocks (a, v, f, b))
      (λ content. (tt, refl)))

  file_ascends : (f : ℕ) → IsAscending (joined_below g.blocks (row f))
  file_ascends f =
      rows_ascend (λ (e : BlockEntry). e.file ≡ f) (λ (e : BlockEntry). e.block) (row f)
      (λ b. one_of (λ (e : BlockEntry). (e.file ≡ f) × (e.block ≡ b)) (x.files (a, v, f) && (stripe_of g f b == s)) f b (x.blocks (a, v, f, b)) (λ content. (refl, refl)))
      (λ b. one_ascends (x.files (a, v, f) && (stripe_of g f b == s)) f b (x.blocks (a, v, f, b)))
      (λ d e of_d of_e less. inr (of_d ∙ sym of_e, less))
      g.blocks

  pub entries_ascend : IsAscending (stripe_entries g x a v s)
  entries_ascend =
      rows_ascend (λ (e : BlockEntry). Unit {0}) (λ (e : BlockEntry). e.file) (λ f. joined_below g.blocks (row f)) of_file file_ascends (λ d e of_d of_e less. inl less) g.files

-- what the entries of a stripe hold for a given block
module _ (g : Geometry) (x : State) (is : IsState g x) (a v s f b : ℕ) where
  pub stripe_holds : content_at (stripe_entries g x a v s) f b ≡ (if stripe_of g f b == s then x.blocks (a, v, f, b) else None)
  stripe_holds = grind (arith, entries_hold g x is a v f b, none_joined)

-- Entries that ascend and hold the blocks of a stripe are those that spell it.
pub spelled : {g : Geometry} {x : State} → IsState g x → (a v s : ℕ) (es : List BlockEntry) → IsAscending es
    → ((f b : ℕ) → content_at es f b ≡ (if stripe_of g f b == s then x.blocks (a, v, f, b) else None)) → es ≡ stripe_entries g x a v s
spelled {g} {x} is a v s es up holds = ascending_same es (stripe_entries g x a v s) up (entries_ascend g x a v s) (λ f b. holds f b ∙ sym (stripe_holds g x is a v s f b))
