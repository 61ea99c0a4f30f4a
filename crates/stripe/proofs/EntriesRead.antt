-- Entries as they are read from a piece, one after the other.
use Rattle.std.proofs.lemmas.Bool.Decides.{nat_tests}
use Rattle.std.proofs.Common.{◌≡◌, ◌≢◌, ℕ, zero, suc, ◌+◌, ◌*◌, ◌-◌, ◌<◌, ◌≤◌, Bool, true, List, [], ◌∷◌, ◌++◌, length, take, drop, get_or, replicate, refl, sym, ◌∙◌, ap, subst, arith, append_assoc, append-nil}
use Rattle.std.specs.Prelude.{◌==◌, if◌then◌else◌}
use Rattle.std.specs.List.{AllByRecursion, flat_map, list_all}
use Rattle.std.proofs.lemmas.Bool.{eq-eqb, eqb-true, and_parts, and_from}
use Rattle.std.proofs.lemmas.Grind.{flat_map-append}
use Rattle.std.proofs.lemmas.List.{take_at, drop_at, drop-drop, take-append-drop, length-take-le, length-drop}
use Rattle.std.proofs.Math.Seq.{take-add}
use Rattle.affinity.specs.declared.geometry.Geometry.{Geometry}
use Rattle.device_map.specs.declared.layout.TheConstants.{BLOCK_ENTRY_SIZE}
use Rattle.stripe.specs.Entries.{entry_bytes, stripe_bytes, entry_in, entries_in, fits_stripe, IsStripePiece, IsNextEntry}
use Rattle.stripe.specs.Stripe.{BlockEntry, ComesBefore, IsAscending}
use Rattle.stripe.proofs.EntryOrder.{ascending-append}

-- ---- lists

pub all_split : (P : BlockEntry → Type 0) (es : List BlockEntry) (n : ℕ) → n ≤ length es → AllByRecursion P es → AllByRecursion (λ e. P e → ⊥) (drop n es) → n ≡ length es
all_split P [] n few all none = omega (arith, few)
all_split P (e ∷ es) zero few all none = absurd (none.0 all.0)
all_split P (e ∷ es) (suc n) few all none = ap suc (all_split P es n (omega (arith, few)) all.1 none)

all_back : (P : BlockEntry → Type 0) (xs ys : List BlockEntry) → AllByRecursion P (xs ++ ys) → AllByRecursion P ys
all_back P [] ys all = all
all_back P (x ∷ xs) ys all = all_back P xs ys all.1

all_push : (P : BlockEntry → Type 0) (xs : List BlockEntry) (e : BlockEntry) → AllByRecursion P xs → P e → AllByRecursion P (xs ++ e ∷ [])
all_push P [] e all is = (is, tt)
all_push P (x ∷ xs) e all is = (all.0, all_push P xs e all.1 is)

all_one : (e : BlockEntry) (es : List BlockEntry) → AllByRecursion (λ d. ComesBefore d e) es → AllByRecursion (λ d. AllByRecursion (ComesBefore d) (e ∷ [])) es
all_one e [] all = tt
all_one e (d ∷ es) all = ((all.0, tt), all_one e es all.1)

ascending_before : (es rest : List BlockEntry) (e : BlockEntry) → IsAscending (es ++ e ∷ rest) → AllByRecursion (λ d. ComesBefore d e) es
ascending_before [] rest e up = tt
ascending_before (d ∷ es) rest e up = ((all_back (ComesBefore d) es (e ∷ rest) up.0).0, ascending_before es rest e up.1)

zeros : (k : ℕ) → AllByRecursion (λ (b : ℕ). b ≡ 0) (replicate k 0)
zeros zero = tt
zeros (suc k) = (refl, zeros k)

pub all_zeros : (bytes : List ℕ) → AllByRecursion (λ (b : ℕ). b ≡ 0) bytes → bytes ≡ replicate (length bytes) 0
all_zeros [] all = refl
all_zeros (b ∷ bytes) all = λ i. all.0 i ∷ all_zeros bytes all.1 i

pub zeros_by_test : (bytes : List ℕ) → list_all (λ byte. byte == 0) bytes ≡ true → AllByRecursion (λ (b : ℕ). b ≡ 0) bytes
zeros_by_test [] all = tt
zeros_by_test (b ∷ bytes) all = let parts = and_parts (b == 0) (list_all (λ byte. byte == 0) bytes) all in (eqb-true b 0 parts.0, zeros_by_test bytes parts.1)

pub test_of_zeros : (bytes : List ℕ) → AllByRecursion (λ (b : ℕ). b ≡ 0) bytes → list_all (λ byte. byte == 0) bytes ≡ true
test_of_zeros [] all = refl
test_of_zeros (b ∷ bytes) all = and_from (b == 0) (list_all (λ byte. byte == 0) bytes) (eq-eqb b 0 all.0) (test_of_zeros bytes all.1)

-- ---- one entry

pub row_spelled : (row : List ℕ) → length row ≡ BLOCK_ENTRY_SIZE → get_or row 0 0 ≡ 1 → take 4 (drop 4 row) ≡ replicate 4 0 → get_or row 2 0 < 256 → get_or row 3 0 < 256
    → row ≡ entry_bytes (entry_in row)
row_spelled (m ∷ f ∷ l ∷ h ∷ p ∷ q ∷ r ∷ t ∷ content) long marked blank l_small h_small = grind arith
row_spelled _ long marked blank l_small h_small = absurd (omega (arith, long))

length-entry_in : (row : List ℕ) → length row ≡ BLOCK_ENTRY_SIZE → length (entry_bytes (entry_in row)) ≡ BLOCK_ENTRY_SIZE
length-entry_in row long = omega (arith, length-drop 8 row, long)

-- ---- after some entries were read

abbrev pub row_at : List ℕ → ℕ → List ℕ
row_at bytes n = take BLOCK_ENTRY_SIZE (drop (n * BLOCK_ENTRY_SIZE) bytes)

-- The first n entries were read, and are `es`: they fill the front of the bytes, and the others are still to be read.
pub record HasRead (g : Geometry) (files s : ℕ) (bytes : List ℕ) (es : List BlockEntry) (n : ℕ) : Type 0 where
  pub front : take (n * BLOCK_ENTRY_SIZE) bytes ≡ flat_map entry_bytes es
  pub ascending : IsAscending es
  pub fit : AllByRecursion (λ e. fits_stripe g files s e.file e.block ≡ true) es
  pub rest : es ++ entries_in (g.quota - n) (drop (n * BLOCK_ENTRY_SIZE) bytes) ≡ entries_in g.quota bytes

module _ (g : Geometry) (files s : ℕ) (bytes : List ℕ) (long : length bytes ≡ g.quota * BLOCK_ENTRY_SIZE) where
  length-front : (es : List BlockEntry) (n : ℕ) → n ≤ g.quota → HasRead g files s bytes es n → length (flat_map entry_bytes es) ≡ n * BLOCK_ENTRY_SIZE
  length-front es n few has = grind (arith, length-take-le)

  module _ (n : ℕ) (few : n < g.quota) (es : List BlockEntry) (has : HasRead g files s bytes es n) where
    unmarked : get_or (drop (n * BLOCK_ENTRY_SIZE) bytes) 0 0 ≢ 1 → entries_in (g.quota - n) (drop (n * BLOCK_ENTRY_SIZE) bytes) ≡ []
    unmarked off = grind (arith, nat_tests)

    these : get_or (drop (n * BLOCK_ENTRY_SIZE) bytes) 0 0 ≢ 1 → es ≡ entries_in g.quota bytes
    these off = sym (append-nil es) ∙ sym (ap (λ (l : List BlockEntry). es ++ l) (unmarked off)) ∙ has.rest

    -- After the last one there may be only zeros.
    pub zeros_behind : get_or (drop (n * BLOCK_ENTRY_SIZE) bytes) 0 0 ≢ 1 → AllByRecursion (λ (b : ℕ). b ≡ 0) (drop (n * BLOCK_ENTRY_SIZE) bytes)
        → IsStripePiece g files s bytes × (es ≡ entries_in g.quota bytes)
    zeros_behind off all =
        let same = these off in
        let left : length (drop (n * BLOCK_ENTRY_SIZE) bytes) ≡ g.quota * BLOCK_ENTRY_SIZE - length (flat_map entry_bytes es) =
        omega (arith, length-drop (n * BLOCK_ENTRY_SIZE) bytes, long, length-front es n (omega (arith, few)) has) in
        let whole : bytes ≡ stripe_bytes g.quota es =
        sym (take-append-drop (n * BLOCK_ENTRY_SIZE) bytes) ∙ (λ i. has.front i ++ all_zeros (drop (n * BLOCK_ENTRY_SIZE) bytes) all i)
        ∙ ap (λ (k : ℕ). flat_map entry_bytes es ++ replicate k 0) left in (
          record {
            spelled = whole ∙ ap (stripe_bytes g.quota) same;
            ascending = subst IsAscending same has.ascending;
            fit = subst (AllByRecursion (λ e. fits_stripe g files s e.file e.block ≡ true)) same has.fit;
          },
          same,
        )

    pub are_zeros : get_or (drop (n * BLOCK_ENTRY_SIZE) bytes) 0 0 ≢ 1 → IsStripePiece g files s bytes → AllByRecursion (λ (b : ℕ). b ≡ 0) (drop (n * BLOCK_ENTRY_SIZE) bytes)
    are_zeros off is =
        let same = these off in
        let spelled : bytes ≡ stripe_bytes g.quota es = is.spelled ∙ sym (ap (stripe_bytes g.quota) same) in
        let behind : drop (n * BLOCK_ENTRY_SIZE) bytes ≡ replicate (g.quota * BLOCK_ENTRY_SIZE - length (flat_map entry_bytes es)) 0 =
        ap (drop (n * BLOCK_ENTRY_SIZE)) spelled
        ∙ drop_at (flat_map entry_bytes es) (replicate (g.quota * BLOCK_ENTRY_SIZE - length (flat_map entry_bytes es)) 0) (n * BLOCK_ENTRY_SIZE) (length-front es n (omega (arith, few)) has) in
        subst (AllByRecursion (λ (b : ℕ). b ≡ 0)) (sym behind) (zeros (g.quota * BLOCK_ENTRY_SIZE - length (flat_map entry_bytes es)))

    next_at : drop BLOCK_ENTRY_SIZE (drop (n * BLOCK_ENTRY_SIZE) bytes) ≡ drop (suc n * BLOCK_ENTRY_SIZE) bytes
    next_at = let place : n * BLOCK_ENTRY_SIZE + BLOCK_ENTRY_SIZE ≡ suc n * BLOCK_ENTRY_SIZE = omega arith in drop-drop BLOCK_ENTRY_SIZE (n * BLOCK_ENTRY_SIZE) bytes
        ∙ ap (λ (k : ℕ). drop k bytes) place

    -- the entry that comes next
    marked : get_or (drop (n * BLOCK_ENTRY_SIZE) bytes) 0 0 ≡ 1 → es ++ entry_in (row_at bytes n) ∷ entries_in (g.quota - suc n) (drop (suc n * BLOCK_ENTRY_SIZE) bytes) ≡ entries_in g.quota bytes
    marked on =
        let more : g.quota - n ≡ suc (g.quota - suc n) = omega (arith, few) in
        let here : entries_in (g.quota - n) (drop (n * BLOCK_ENTRY_SIZE) bytes) ≡ entry_in (row_at bytes n) ∷ entries_in (g.quota - suc n) (drop (suc n * BLOCK_ENTRY_SIZE) bytes) =
        ap (λ (k : ℕ). entries_in k (drop (n * BLOCK_ENTRY_SIZE) bytes)) more
        ∙ ap (λ (t : Bool). if t then entry_in (take BLOCK_ENTRY_SIZE (drop (n * BLOCK_ENTRY_SIZE) bytes))
        ∷ entries_in (g.quota - suc n) (drop BLOCK_ENTRY_SIZE (drop (n * BLOCK_ENTRY_SIZE) bytes)) else []) (eq-eqb (get_or (drop (n * BLOCK_ENTRY_SIZE) bytes) 0 0) 1 on)
        ∙ ap (λ (l : List ℕ). entry_in (row_at bytes n) ∷ entries_in (g.quota - suc n) l) next_at in
        sym (ap (λ (l : List BlockEntry). es ++ l) here) ∙ has.rest

    pub next_read : get_or (drop (n * BLOCK_ENTRY_SIZE) bytes) 0 0 ≡ 1 → IsNextEntry g files s es (row_at bytes n) → HasRead g files s bytes (es ++ entry_in (row_at bytes n) ∷ []) (suc n)
    next_read on next =
        let e : BlockEntry = entry_in (row_at bytes n) in
        let place : suc n * BLOCK_ENTRY_SIZE ≡ n * BLOCK_ENTRY_SIZE + BLOCK_ENTRY_SIZE = omega arith in
        record {
          front = ap (λ (k : ℕ). take k bytes) place ∙ take-add (n * BLOCK_ENTRY_SIZE) BLOCK_ENTRY_SIZE bytes ∙ (λ i. has.front i ++ next.spelled i)
              ∙ ap (λ (l : List ℕ). flat_map entry_bytes es ++ l) (sym (append-nil (entry_bytes e))) ∙ sym (flat_map-append entry_bytes es (e ∷ []));
          ascending = ascending-append es (e ∷ []) has.ascending (tt, tt) (all_one e es next.behind);
          fit = all_push (λ e. fits_stripe g files s e.file e.block ≡ true) es e has.fit next.fits;
          rest = append_assoc es (e ∷ []) (entries_in (g.quota - suc n) (drop (suc n * BLOCK_ENTRY_SIZE) bytes)) ∙ marked on;
        }

    pub is_next : get_or (drop (n * BLOCK_ENTRY_SIZE) bytes) 0 0 ≡ 1 → IsStripePiece g files s bytes → IsNextEntry g files s es (row_at bytes n)
    is_next on is =
        let e : BlockEntry = entry_in (row_at bytes n) in
        let others : List BlockEntry = entries_in (g.quota - suc n) (drop (suc n * BLOCK_ENTRY_SIZE) bytes) in
        let all : entries_in g.quota bytes ≡ es ++ e ∷ others = sym (marked on) in
        let back : List ℕ = replicate (g.quota * BLOCK_ENTRY_SIZE - length (flat_map entry_bytes (es ++ e ∷ others))) 0 in
        let spelled : bytes ≡ flat_map entry_bytes (es ++ e ∷ others) ++ back = is.spelled ∙ ap (stripe_bytes g.quota) all in
        let partitioned : bytes ≡ flat_map entry_bytes es ++ (entry_bytes e ++ (flat_map entry_bytes others ++ back)) =
        spelled ∙ ap (λ (l : List ℕ). l ++ back) (flat_map-append entry_bytes es (e ∷ others)) ∙ append_assoc (flat_map entry_bytes es) (entry_bytes e ++ flat_map entry_bytes others) back
        ∙ ap (λ (l : List ℕ). flat_map entry_bytes es ++ l) (append_assoc (entry_bytes e) (flat_map entry_bytes others) back) in
        let row_long : length (row_at bytes n) ≡ BLOCK_ENTRY_SIZE = length-take-le BLOCK_ENTRY_SIZE (drop (n * BLOCK_ENTRY_SIZE) bytes)
        (omega (arith, length-drop (n * BLOCK_ENTRY_SIZE) bytes, long, few)) in
        record {
          spelled = ap (λ (l : List ℕ). take BLOCK_ENTRY_SIZE (drop (n * BLOCK_ENTRY_SIZE) l)) partitioned
              ∙ ap (take BLOCK_ENTRY_SIZE) (drop_at (flat_map entry_bytes es) (entry_bytes e ++ (flat_map entry_bytes others ++ back))
              (n * BLOCK_ENTRY_SIZE) (length-front es n (omega (arith, few)) has))
              ∙ take_at (entry_bytes e) (flat_map entry_bytes others ++ back) BLOCK_ENTRY_SIZE (length-entry_in (row_at bytes n) row_long);
          fits = (all_back (λ e. fits_stripe g files s e.file e.block ≡ true) es (e ∷ others) (subst (AllByRecursion (λ e. fits_stripe g files s e.file e.block ≡ true)) all is.fit)).0;
          behind = ascending_before es others e (subst IsAscending all is.ascending);
        }
