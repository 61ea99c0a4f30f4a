-- A stripe has as many entries as the state counts blocks in it.
use Rattle.std.proofs.Common.{◌≡◌, ℕ, ◌+◌, ◌<◌, Bool, true, false, List, [], ◌∷◌, Some, None, refl, ap, sym, ◌∙◌, length, arith, ⊎_elim}
use Rattle.std.specs.Prelude.{◌&&◌, ◌==◌, if◌then◌else◌, is_some}
use Rattle.std.specs.List.{AllByRecursion}
use Rattle.std.proofs.lemmas.Bool.{eqb-true, eq-eqb, ne_eqb, and_parts, false_from_ne_true, and_right}
use Rattle.affinity.specs.declared.geometry.Geometry.{Geometry}
use Rattle.affinity.specs.Geometry.{stripe_of}
use Rattle.meaning.specs.State.{State, sum_below, blocks_in_stripe}
use Rattle.meaning.proofs.Sums.{sum_same, sum_zero, sum_one_more, one_if}
use Rattle.parcel.specs.Fits.{FitsStripe}
use Rattle.stripe.specs.Stripe.{BlockEntry, StripePart, ComesBefore, IsAscending, StripeRule, content_at}

-- ---- no block has two entries

before_differs : (d e : BlockEntry) → ComesBefore d e → ((d.file == e.file) && (d.block == e.block)) ≡ false
before_differs d e h = false_from_ne_true ((d.file == e.file) && (d.block == e.block)) (λ is.
    let p = and_parts (d.file == e.file) (d.block == e.block) is in
    let same_file : d.file ≡ e.file = eqb-true d.file e.file p.0 in
    let same_block : d.block ≡ e.block = eqb-true d.block e.block p.1 in
    ⊎_elim (λ lt. omega (arith, same_file, lt)) (λ r. omega (arith, same_block, r.1)) h)

absent_behind : (e : BlockEntry) (es : List BlockEntry) → AllByRecursion (ComesBefore e) es → content_at es e.file e.block ≡ None
absent_behind e [] h = refl
absent_behind e (d ∷ es) h = ap (λ t. if t then Some d.content else content_at es e.file e.block) (before_differs e d h.0) ∙ absent_behind e es h.1

module _ (g : Geometry) (s : ℕ) where
  abbrev pub Lies : List BlockEntry → Type 0
  Lies es = (f b : ℕ) → is_some (content_at es f b) ≡ true → (f < g.files) × (b < g.blocks) × (stripe_of g f b ≡ s)

  pub lies_behind : (e : BlockEntry) (es : List BlockEntry) → Lies (e ∷ es) → Lies es
  lies_behind e es lies f b there = lies f b (still ((f == e.file) && (b == e.block)))
    where
      still : (t : Bool) → is_some (if t then Some e.content else content_at es f b) ≡ true
      still true = refl
      still false = there

  pub lies_first : (e : BlockEntry) (es : List BlockEntry) → Lies (e ∷ es) → (e.file < g.files) × (e.block < g.blocks) × (stripe_of g e.file e.block ≡ s)
  lies_first e es lies = lies e.file e.block (λ i. is_some (if eq-eqb e.file e.file refl i && eq-eqb e.block e.block refl i then Some e.content else content_at es e.file e.block))

  abbrev counted : List BlockEntry → ℕ → ℕ → ℕ
  counted es f b = one_if ((stripe_of g f b == s) && is_some (content_at es f b))

  abbrev all_counted : List BlockEntry → ℕ
  all_counted es = sum_below g.files (λ f. sum_below g.blocks (λ b. counted es f b))

  -- with one more entry in front of a list one more block is counted
  one_entry : (e : BlockEntry) (es : List BlockEntry) → AllByRecursion (ComesBefore e) es → Lies (e ∷ es) → all_counted (e ∷ es) ≡ all_counted es + 1
  one_entry e es before lies =
      let at = lies_first e es lies in
      let in_group : (stripe_of g e.file e.block == s) ≡ true = eq-eqb _ _ at.2 in
      let absent = absent_behind e es before in
      let file = eq-eqb e.file e.file refl in
      let block = eq-eqb e.block e.block refl in
      sum_one_more g.files e.file (λ f. sum_below g.blocks (λ b. counted es f b)) (λ f. sum_below g.blocks (λ b. counted (e ∷ es) f b)) at.0
      (λ f ne. sum_same g.blocks _ _ (λ b i. one_if ((stripe_of g f b == s) && is_some (if ne_eqb f e.file ne i && (b == e.block) then Some e.content else content_at es f b))))
      (sum_one_more g.blocks e.block (λ b. counted es e.file b) (λ b. counted (e ∷ es) e.file b) at.1
      (λ b ne i. one_if ((stripe_of g e.file b == s) && is_some (if file i && ne_eqb b e.block ne i then Some e.content else content_at es e.file b)))
      ((λ i. one_if (in_group i && is_some (if file i && block i then Some e.content else content_at es e.file e.block))) ∙ (λ i. one_if (sym in_group i && is_some (sym absent i)) + 1)))

  as_many : (es : List BlockEntry) → IsAscending es → Lies es → all_counted es ≡ length es
  as_many [] ascending lies = sum_same g.files _ (λ f. 0) (λ f. sum_same g.blocks _ (λ b. 0) (λ b. ap one_if (and_right (stripe_of g f b == s) false refl)) ∙ sum_zero g.blocks) ∙ sum_zero g.files
  as_many (e ∷ es) ascending lies = omega (arith, as_many es ascending.1 (lies_behind e es lies), one_entry e es ascending.0 lies)

  -- where a state has the blocks of the stripe
  pub count_is_length : (x : State) (a v : ℕ) (p : StripePart) → StripeRule p → FitsStripe g s p
      → ((f b : ℕ) → stripe_of g f b ≡ s → x.blocks (a, v, f, b) ≡ content_at p.entries f b) → blocks_in_stripe g x a v s ≡ length p.entries
  count_is_length x a v p kept fits same = sum_same g.files _ _ (λ f. sum_same g.blocks _ _ (λ b. at f b (stripe_of g f b == s) refl)) ∙ as_many p.entries kept.ascending fits.lies
    where
      -- a block of the stripe counts where it has an entry, and one of another stripe on neither side
      at : (f b : ℕ) (t : Bool) → (stripe_of g f b == s) ≡ t → one_if ((stripe_of g f b == s) && is_some (x.blocks (a, v, f, b))) ≡ counted p.entries f b
      at f b true on = ap (λ o. one_if ((stripe_of g f b == s) && is_some o)) (same f b (eqb-true _ _ on))
      at f b false off = (λ i. one_if (off i && is_some (x.blocks (a, v, f, b)))) ∙ (λ i. one_if (sym off i && is_some (content_at p.entries f b)))

  -- where a state has no block in the stripe
  pub count_is_none : (x : State) (a v : ℕ) → ((f b : ℕ) → stripe_of g f b ≡ s → x.blocks (a, v, f, b) ≡ None) → blocks_in_stripe g x a v s ≡ 0
  count_is_none x a v none = sum_same g.files _ (λ f. 0) (λ f. sum_same g.blocks _ (λ b. 0) (λ b. at f b (stripe_of g f b == s) refl) ∙ sum_zero g.blocks) ∙ sum_zero g.files
    where
      at : (f b : ℕ) (t : Bool) → (stripe_of g f b == s) ≡ t → one_if ((stripe_of g f b == s) && is_some (x.blocks (a, v, f, b))) ≡ 0
      at f b true on = λ i. one_if (on i && is_some (none f b (eqb-true _ _ on) i))
      at f b false off = λ i. one_if (off i && is_some (x.blocks (a, v, f, b)))
