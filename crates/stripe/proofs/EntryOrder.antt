-- Ascending entries are determined by what they hold of each block; and how entries that ascend are joined.
use Rattle.std.proofs.Common.{◌≡◌, ℕ, Bool, true, false, ◌&&◌, List, [], ◌∷◌, ◌++◌, Option, Some, None, refl, sym, ◌∙◌, ap, arith, ◌⊎◌, ⊎_elim}
use Rattle.std.specs.Prelude.{◌==◌, if◌then◌else◌}
use Rattle.std.specs.List.{AllByRecursion}
use Rattle.std.proofs.lemmas.Bool.{eqb-true, and_parts}
use Rattle.std.proofs.lemmas.Option.{same_Some}
use Rattle.stripe.specs.Stripe.{BlockEntry, content_at, ComesBefore, IsAscending, PrecedesBlock}
use Rattle.stripe.proofs.EntryLemmas.{before-before, content-later}

-- ---- what entries hold

content-head : (e : BlockEntry) (es : List BlockEntry) → content_at (e ∷ es) e.file e.block ≡ Some e.content
content-head e es = grind arith

all_behind : (f b : ℕ) (e : BlockEntry) (es : List BlockEntry) → PrecedesBlock f b e.file e.block → AllByRecursion (ComesBefore e) es → AllByRecursion (λ d. PrecedesBlock f b d.file d.block) es
all_behind f b e [] before rest = tt
all_behind f b e (d ∷ es) before rest = (before-before f b e.file e.block d.file d.block before rest.0, all_behind f b e es before rest.1)

which_first : (f b i j : ℕ) → PrecedesBlock f b i j ⊎ (PrecedesBlock i j f b ⊎ ((f ≡ i) × (b ≡ j)))
which_first f b i j = grind arith

some_is_not_none : {X : Type 0} (x : X) (o : Option X) → o ≡ Some x → o ≡ None → ⊥
some_is_not_none x None is off = cc
some_is_not_none x (Some y) is off = cc

-- ---- ascending lists that hold the same are the same

pub ascending_same : (ds es : List BlockEntry) → IsAscending ds → IsAscending es → ((f b : ℕ) → content_at ds f b ≡ content_at es f b) → ds ≡ es
ascending_same [] [] up rising same = refl
ascending_same [] (e ∷ es) up rising same = absurd (some_is_not_none e.content (content_at (e ∷ es) e.file e.block) (content-head e es) (sym (same e.file e.block)))
ascending_same (d ∷ ds) [] up rising same = absurd (some_is_not_none d.content (content_at (d ∷ ds) d.file d.block) (content-head d ds) (same d.file d.block))
ascending_same (d ∷ ds) (e ∷ es) up rising same =
    ⊎_elim
    (λ (first : PrecedesBlock d.file d.block e.file e.block).
    absurd (some_is_not_none d.content (content_at (d ∷ ds) d.file d.block) (content-head d ds)
    (same d.file d.block ∙ content-later d.file d.block (e ∷ es) (first, all_behind d.file d.block e es first rising.0))))
    (⊎_elim
    (λ (second : PrecedesBlock e.file e.block d.file d.block).
    absurd (some_is_not_none e.content (content_at (e ∷ es) e.file e.block) (content-head e es)
    (sym (same e.file e.block) ∙ content-later e.file e.block (d ∷ ds) (second, all_behind e.file e.block d ds second up.0))))
    (λ (both : (d.file ≡ e.file) × (d.block ≡ e.block)).
    let content : d.content ≡ e.content = same_Some d.content e.content (sym (content-head d ds) ∙ same d.file d.block ∙ (λ i. content_at (e ∷ es) (both.0 i) (both.1 i)) ∙ content-head e es) in
    let head : d ≡ e = λ i. record { file = both.0 i; block = both.1 i; content = content i } in
    let rest = ascending_same ds es up.1 rising.1 (behind both content) in
    (λ i. head i ∷ rest i)))
    (which_first d.file d.block e.file e.block)
  where
    behind : (d.file ≡ e.file) × (d.block ≡ e.block) → d.content ≡ e.content → (f b : ℕ) → content_at ds f b ≡ content_at es f b
    behind both content f b = by ((f == d.file) && (b == d.block)) refl
      where
        by : (t : Bool) → ((f == d.file) && (b == d.block)) ≡ t → content_at ds f b ≡ content_at es f b
        by false off =
            sym (ap (λ (t : Bool). if t then Some d.content else content_at ds f b) off) ∙ same f b
            ∙ ap (λ (t : Bool). if t then Some e.content else content_at es f b) ((λ i. (f == sym both.0 i) && (b == sym both.1 i)) ∙ off)
        by true on =
            let parts = and_parts (f == d.file) (b == d.block) on in
            let file : f ≡ d.file = eqb-true f d.file parts.0 in
            let block : b ≡ d.block = eqb-true b d.block parts.1 in
            (λ i. content_at ds (file i) (block i)) ∙ content-later d.file d.block ds up.0
            ∙ sym ((λ i. content_at es ((file ∙ both.0) i) ((block ∙ both.1) i)) ∙ content-later e.file e.block es rising.0)

-- ---- joining

pub ascending-append : (ds es : List BlockEntry) → IsAscending ds → IsAscending es → AllByRecursion (λ d. AllByRecursion (ComesBefore d) es) ds → IsAscending (ds ++ es)
ascending-append [] es up rising apart = rising
ascending-append (d ∷ ds) es up rising apart = (all_both ds up.0 apart.0, ascending-append ds es up.1 rising apart.1)
  where
    all_both : (cs : List BlockEntry) → AllByRecursion (ComesBefore d) cs → AllByRecursion (ComesBefore d) es → AllByRecursion (ComesBefore d) (cs ++ es)
    all_both [] first second = second
    all_both (c ∷ cs) first second = (first.0, all_both cs first.1 second)
