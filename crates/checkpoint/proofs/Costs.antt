-- How many writes the dirty pieces of an image take.
use Rattle.std.specs.Prelude.{if◌then◌else◌, ◌==◌}
use Rattle.std.specs.Result.{MatchResult, is_err}
use Rattle.std.proofs.Common.{◌≡◌, ⊎_elim, ℕ, suc, ◌+◌, ◌<◌, ◌≤◌, Bool, true, false, List, [], ◌∷◌, length, drop, get_or, Result, Ok, Err, refl, sym, ◌∙◌, ap, arith, true≢false}
use Rattle.std.proofs.lemmas.Bool.{cases_lt}
use Rattle.std.proofs.lemmas.List.{drop_all, drop_more}
use Rattle.affinity.specs.declared.geometry.Geometry.{Geometry}
use Rattle.recovery.specs.declared.fault.OpenFault.{OpenFault}
use Rattle.recovery.specs.NamedHolds.{NamedHolds}
use Rattle.disk.specs.declared.fault.DiskFault.{DiskFault}
use Rattle.disk.specs.Device.{CountsFault, Medium, moment_number, Costs}
use Rattle.image.specs.Pieces.{piece_count}
use Rattle.checkpoint.specs.declared.opening.Parts.{Parts}
use Rattle.checkpoint.specs.Costs.{count_runs, finish_cost, longest_point, opening_cost, point_cost, runs_after}
use Rattle.checkpoint.specs.Extents.{AreAllDirty}
use Rattle.checkpoint.proofs.ExtentLemmas.{some_piece}
use Rattle.oplog.specs.HalfContent.{chain}
use Rattle.device_map.specs.Layout.{layout_of}
use Rattle.oplog.specs.Recovery.{named_area}
use Rattle.meaning.specs.State.{State}

-- ---- there are at most half as many runs as pieces
few_after : (before : Bool) (dirty : List Bool) → runs_after before dirty + runs_after before dirty ≤ length dirty + 1
few_after before [] = omega arith
few_after before (false ∷ dirty) = let rest = few_after false dirty in omega (arith, rest)
few_after false (true ∷ []) = omega arith
few_after false (true ∷ (false ∷ dirty)) = let rest = few_after false dirty in omega (arith, rest)
few_after false (true ∷ (true ∷ dirty)) = let rest = few_after true dirty in omega (arith, rest)
few_after true (true ∷ dirty) = let rest = few_after true dirty in omega (arith, rest)

pub few_writes : (g : Geometry) (dirty : List Bool) → length dirty ≡ piece_count g → point_cost dirty ≤ longest_point g
few_writes g dirty size = let few = few_after false dirty in omega (arith, few, size)

-- ---- an image that is written in order

-- The first n pieces were looked at, and the bytes from `from` to `at` are of a run that is still to be written. `start` and `now` are the
-- device's moment numbers before the first write and now: the runs that are written and those that are left make up all runs.
pub record RunsLeft (dirty : List Bool) (n from at start now : ℕ) : Type 0 where
  pub begun : from < at → now + 1 + runs_after true (drop n dirty) ≡ start + count_runs dirty
  pub ended : at ≤ from → now + runs_after false (drop n dirty) ≡ start + count_runs dirty

pub runs_begun : (dirty : List Bool) (start : ℕ) → RunsLeft dirty 0 0 0 start start
runs_begun dirty start = record { begun = λ some. absurd (omega (arith, some)); ended = λ none. refl }

piece_next : (dirty : List Bool) (n : ℕ) (is : Bool) → n < length dirty → get_or dirty n true ≡ is → drop n dirty ≡ is ∷ drop (n + 1) dirty
piece_next dirty n is few here = drop_more dirty n true few ∙ ap (λ (b : Bool). b ∷ drop (n + 1) dirty) here

-- A clean piece ends a run, which is written then.
pub run_closed : {dirty : List Bool} {n from at from' at' start now now' : ℕ} → RunsLeft dirty n from at start now → n < length dirty
    → get_or dirty n true ≡ false → from' ≡ at' → (from < at → now' ≡ now + 1) → (at ≤ from → now' ≡ now) → RunsLeft dirty (n + 1) from' at' start now'
run_closed {dirty} {n} {from} {at} left few off ends wrote kept =
    let next = piece_next dirty n false few off in
    record {
      begun = λ some. absurd (omega (arith, some, ends));
      ended = λ none.
          ⊎_elim
          (λ (more : from < at). omega (arith, ap (runs_after true) next, wrote more, left.begun more))
          (λ (none : at ≤ from). omega (arith, ap (runs_after false) next, kept none, left.ended none))
          (cases_lt from at);
    }

-- A dirty piece begins a run, or goes on with it.
pub run_goes_on : {dirty : List Bool} {n from at from' at' start now now' : ℕ} → RunsLeft dirty n from at start now → n < length dirty
    → get_or dirty n true ≡ true → from' ≡ from → at < at' → from ≤ at → now' ≡ now → RunsLeft dirty (n + 1) from' at' start now'
run_goes_on {dirty} {n} {from} {at} left few on begins rises order same =
    let next = piece_next dirty n true few on in
    record {
      begun = λ some.
          ⊎_elim
          (λ (more : from < at). omega (arith, ap (runs_after true) next, same, left.begun more))
          (λ (none : at ≤ from). omega (arith, ap (runs_after false) next, same, left.ended none))
          (cases_lt from at);
      ended = λ none. absurd (omega (arith, none, begins, rises, order));
    }

-- A write failed.
pub run_failed : {dirty : List Bool} {n from at start now : ℕ} → (new : ℕ) → RunsLeft dirty n from at start now → (from < at → new ≤ now + 1)
    → (at ≤ from → new ≡ now) → new ≤ start + (count_runs dirty + 1)
run_failed {from} {at} new left wrote kept =
    ⊎_elim
    (λ (more : from < at). omega (arith, wrote more, left.begun more))
    (λ (none : at ≤ from). omega (arith, kept none, left.ended none))
    (cases_lt from at)

-- No piece is left, and the last run is written.
pub run_ended : {dirty : List Bool} {n from at start now new : ℕ} → RunsLeft dirty n from at start now → length dirty ≤ n
    → (from < at → new ≡ now + 1) → (at ≤ from → new ≡ now) → new ≡ start + count_runs dirty
run_ended {dirty} {n} {from} {at} left all wrote kept =
    let nothing : drop n dirty ≡ [] = drop_all n dirty all in
    ⊎_elim
    (λ (more : from < at). omega (arith, ap (runs_after true) nothing, wrote more, left.begun more))
    (λ (none : at ≤ from). omega (arith, ap (runs_after false) nothing, kept none, left.ended none))
    (cases_lt from at)

-- ---- the whole image

all_after : (dirty : List Bool) → ((n : ℕ) → n < length dirty → get_or dirty n true ≡ true) → runs_after true dirty ≡ 0
all_after [] all = refl
all_after (true ∷ dirty) all = all_after dirty (λ n few. all (suc n) (omega (arith, few)))
all_after (false ∷ dirty) all = absurd (true≢false (sym (all 0 (omega arith))))

whole_run : (dirty : List Bool) → 0 < length dirty → ((n : ℕ) → n < length dirty → get_or dirty n true ≡ true) → count_runs dirty ≡ 1
whole_run [] some all = absurd (omega (arith, some))
whole_run (true ∷ dirty) some all = ap suc (all_after dirty (λ n few. all (suc n) (omega (arith, few))))
whole_run (false ∷ dirty) some all = absurd (true≢false (sym (all 0 (omega arith))))

-- An image all of whose pieces are dirty is one run.
pub one_run : (g : Geometry) (dirty : List Bool) → length dirty ≡ piece_count g → AreAllDirty g dirty → count_runs dirty ≡ 1
one_run g dirty size all =
    whole_run dirty (omega (arith, size, some_piece g)) (λ n few. all n (omega (arith, size, few)))

-- ---- a call
pub takes_most : {T E : Type 0} (r : Result T E) (n : ℕ) (old new : Medium) → Costs r n old new → moment_number new ≤ moment_number old + n
takes_most (Ok x) n old new takes = omega (arith, takes)
takes_most (Err e) n old new takes = takes

pub takes_all : {T E : Type 0} (r : Result T E) (n : ℕ) (old new : Medium) → is_err r ≡ false → Costs r n old new → moment_number new ≡ moment_number old + n
takes_all (Ok x) n old new fine takes = takes
takes_all (Err e) n old new fine takes = absurd (true≢false fine)

pub faults_stay : {T : Type 0} (r : Result T DiskFault) {old new : ℕ} → is_err r ≡ false → CountsFault r old new → new ≡ old
faults_stay (Ok x) fine counts = counts
faults_stay (Err e) fine counts = absurd (true≢false fine)

-- k writes and syncs, of which all but those of the last call were made before it
pub takes_with : {T E : Type 0} (r : Result T E) (n : ℕ) (old new : Medium) (k : ℕ) (start : Medium) → Costs r n old new → moment_number old + n ≡ moment_number start + k
    → Costs r k start new
takes_with (Ok x) n old new k start takes before = omega (arith, before, takes)
takes_with (Err e) n old new k start takes before = omega (arith, before, takes)

-- ---- an opening
pub finish_few : (g : Geometry) (c : List ℕ) → finish_cost g c ≤ 4
finish_few g c = few (chain (layout_of g) (named_area (layout_of g) c) c == 1)
  where
    few : (chained : Bool) → (if chained then 4 else 0) ≤ 4
    few true = omega arith
    few false = omega arith

-- whether an opening finishes a cut is what loading the named area has reported
pub finish_is : {g : Geometry} {c : List ℕ} {area : ℕ} {told chained : Bool} {x : State} → told ≡ chained
    → NamedHolds g c area told x → finish_cost g c ≡ if chained then 4 else 0
finish_is {g} {c} is held =
    sym (ap (λ (b : Bool). if b then 4 else 0) (held.chain ∙ ap (λ (n : ℕ). chain (layout_of g) n c == 1) held.named)) ∙ ap (λ (b : Bool). if b then 4 else 0) is

-- after the first sync
pub opening_after : (r : Result Parts OpenFault) (w0 w1 w2 : Medium) → w1.now ≡ w0.now → moment_number w1 ≡ moment_number w0 + 1
    → MatchResult r (λ p. moment_number w2 ≡ moment_number w1 + (finish_cost p.halves.geometry w1.now + 6)) (λ e. moment_number w2 ≤ moment_number w1 + 10)
    → MatchResult r (λ p. moment_number w2 ≡ moment_number w0 + opening_cost p.halves.geometry w0.now) (λ e. moment_number w2 ≤ moment_number w0 + 11)
opening_after (Ok p) w0 w1 w2 same one rest = let is : finish_cost p.halves.geometry w1.now
    ≡ finish_cost p.halves.geometry w0.now = ap (finish_cost p.halves.geometry) same in omega (arith, is, one, rest)
opening_after (Err e) w0 w1 w2 same one rest = omega (arith, one, rest)
