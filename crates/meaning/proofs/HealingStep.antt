-- One of the lines that are sent again: it brings the state nearer to the one that there would be without a crash.
use Rattle.std.proofs.Common.{◌≡◌, ◌⊎◌, ℕ, Bool, true, false, List, [], ◌∷◌, Some, None, refl, ap, sym, ◌∙◌, subst, inl, inr, ⊎_elim}
use Rattle.std.specs.List.{AllByRecursion}
use Rattle.std.specs.Prelude.{◌&&◌, ◌||◌, not, ◌==◌, if◌then◌else◌, cond, find}
use Rattle.std.proofs.lemmas.Bool.{and_parts, and_right, eqb-true, not-true, true≢false, cases_Bool, false_from_ne_true}
use Rattle.std.specs.Option.{option_map_or}
use Rattle.affinity.specs.Kind.{is_changing}
use Rattle.affinity.specs.declared.geometry.Geometry.{Geometry}
use Rattle.protocol.specs.declared.messages.Block.{Block}
use Rattle.protocol.specs.declared.messages.Msg.{Msg}
use Rattle.protocol.specs.declared.messages.Msg.TheVariants.{MakeVol, DropVol, Create, Delete, Seal, Unseal, Write, Punch, SetLabel}
use Rattle.affinity.specs.declared.kinds.Kind.TheVariants as kinds
use Rattle.protocol.specs.declared.replies.Refusal.{Refusal}
use Rattle.protocol.specs.declared.replies.Refusal.TheVariants.{Space}
use Rattle.protocol.specs.Messages.{kind, four_numbers}
use Rattle.meaning.specs.State.{State, VolumeKey, is_volume, is_block, key}
use Rattle.meaning.specs.Refusals.{checks, passes}
use Rattle.meaning.specs.Step.{effect, next_state, no_label}
use Rattle.meaning.proofs.Keys.{the_volume, picks_volume, picks_file}

-- ---- a message runs, or doesn't

abbrev pub all_pass : (Refusal → Bool) → List Refusal → Bool
all_pass p [] = true
all_pass p (t ∷ ts) = p t && all_pass p ts

-- whether the message passes all its checks
abbrev pub runs : Geometry → State → Msg → Bool
runs g u m = all_pass (passes g u (kind m) (four_numbers m)) (checks (kind m))

pub all_passed : (p : Refusal → Bool) (ts : List Refusal) → all_pass p ts ≡ true → AllByRecursion (λ t. p t ≡ true) ts
all_passed p [] e = tt
all_passed p (t ∷ ts) e = let q = and_parts (p t) (all_pass p ts) e in (q.0, all_passed p ts q.1)

-- the state with the effect of a message, if it has run
abbrev pub if_ran : Bool → State → Msg → State
if_ran true u m = effect u m
if_ran false u m = u

found_or_all : (p : Refusal → Bool) (ts : List Refusal) (new old : State) (b : Bool → State) → b true ≡ new → b false ≡ old
    → option_map_or (λ why. old) (find (λ t. not (p t)) ts) new ≡ b (all_pass p ts)
found_or_all p [] new old b ran kept = sym ran
found_or_all p (t ∷ ts) new old b ran kept =
    elim (p t) as (λ c. option_map_or (λ why. old) (cond (not c) (Some t) (find (λ t. not (p t)) ts)) new ≡ b (c && all_pass p ts)) [
      | true ↦ found_or_all p ts new old b ran kept
      | false ↦ sym kept
    ]

pub next_is : (g : Geometry) (u : State) (m : Msg) → next_state g u m ≡ if_ran (runs g u m) u m
next_is g u m = found_or_all (passes g u (kind m) (four_numbers m)) (checks (kind m)) (effect u m) u (λ b. if_ran b u m) refl refl

-- what an effect leaves as it was is as it was
ran_same : {X : Type 0} (h : State → X) (b : Bool) (u : State) (m : Msg) → h (effect u m) ≡ h u → h (if_ran b u m) ≡ h u
ran_same h true u m e = e
ran_same h false u m e = refl

-- ---- states that are the same at a file or a volume

abbrev pub SameFile : State → State → ℕ → ℕ → ℕ → Type 0
SameFile w y i j k = (w.files (i, j, k) ≡ y.files (i, j, k)) × ((l : ℕ) → w.blocks (i, j, k, l) ≡ y.blocks (i, j, k, l))

pub record SameVolume (w y : State) (i j : ℕ) : Type 0 where
  pub made : w.made (i, j) ≡ y.made (i, j)
  pub sealed : w.sealed (i, j) ≡ y.sealed (i, j)
  pub label : w.labels (i, j) ≡ y.labels (i, j)
  pub files : (k : ℕ) → SameFile w y i j k

ran_file : (b : Bool) (u : State) (m : Msg) (i j k : ℕ) → SameFile (effect u m) u i j k → SameFile (if_ran b u m) u i j k
ran_file true u m i j k h = h
ran_file false u m i j k h = (refl, λ l. refl)

ran_volume : (b : Bool) (u : State) (m : Msg) (i j : ℕ) → SameVolume (effect u m) u i j → SameVolume (if_ran b u m) u i j
ran_volume true u m i j h = h
ran_volume false u m i j h = record { made = refl; sealed = refl; label = refl; files = λ k. (refl, λ l. refl) }

-- no effect in another volume
elsewhere : (u : State) (m : Msg) (i j : ℕ) → let n = key m in is_volume n.0 n.1 (i, j) ≡ false → SameVolume (effect u m) u i j
elsewhere u (MakeVol a v) i j e = record {
  made = ap (λ b. b || u.made (i, j)) e;
  sealed = refl;
  label = ap (λ b. if b then Some no_label else u.labels (i, j)) e;
  files = λ k. (refl, λ l. refl);
}
elsewhere u (DropVol a v) i j e = record {
  made = ap (λ b. not b && u.made (i, j)) e;
  sealed = ap (λ b. not b && u.sealed (i, j)) e;
  label = ap (λ b. if b then None else u.labels (i, j)) e;
  files = λ k. (ap (λ b. not b && u.files (i, j, k)) e, λ l. ap (λ b. if b then None else u.blocks (i, j, k, l)) e);
}
elsewhere u (Create a v f) i j e = record {
  made = refl;
  sealed = refl;
  label = refl;
  files = λ k. (ap (λ b. (b && (f == k)) || u.files (i, j, k)) e, λ l. refl);
}
elsewhere u (Delete a v f) i j e = record {
  made = refl;
  sealed = refl;
  label = refl;
  files = λ k. (ap (λ b. not (b && (f == k)) && u.files (i, j, k)) e, λ l. ap (λ b. if b && (f == k) then None else u.blocks (i, j, k, l)) e);
}
elsewhere u (Seal a v) i j e = record { made = refl; sealed = ap (λ b. b || u.sealed (i, j)) e; label = refl; files = λ k. (refl, λ l. refl) }
elsewhere u (Unseal a v) i j e = record { made = refl; sealed = ap (λ b. not b && u.sealed (i, j)) e; label = refl; files = λ k. (refl, λ l. refl) }
elsewhere u (Write a v f b content) i j e = record {
  made = refl;
  sealed = refl;
  label = refl;
  files = λ k. (refl, λ l. ap (λ t. if (t && (f == k)) && (b == l) then Some content else u.blocks (i, j, k, l)) e);
}
elsewhere u (Punch a v f b) i j e = record {
  made = refl;
  sealed = refl;
  label = refl;
  files = λ k. (refl, λ l. ap (λ t. if (t && (f == k)) && (b == l) then None else u.blocks (i, j, k, l)) e);
}
elsewhere u (SetLabel a v bytes) i j e = record {
  made = refl;
  sealed = refl;
  label = ap (λ b. if b then Some bytes else u.labels (i, j)) e;
  files = λ k. (refl, λ l. refl);
}
elsewhere u _ i j e = record { made = refl; sealed = refl; label = refl; files = λ k. (refl, λ l. refl) }

-- nor on another file
other_created : (u : State) (a v f k : ℕ) → (f == k) ≡ false → SameFile (effect u (Create a v f)) u a v k
other_created u a v f k e = (ap (λ b. b || u.files (a, v, k)) (and_right (is_volume a v (a, v)) (f == k) e), λ l. refl)

other_deleted : (u : State) (a v f k : ℕ) → (f == k) ≡ false → SameFile (effect u (Delete a v f)) u a v k
other_deleted u a v f k e =
    let no = and_right (is_volume a v (a, v)) (f == k) e in
    (ap (λ b. not b && u.files (a, v, k)) no, λ l. ap (λ b. if b then None else u.blocks (a, v, k, l)) no)

other_written : (u : State) (a v f b : ℕ) (content : Block) (k : ℕ) → (f == k) ≡ false → SameFile (effect u (Write a v f b content)) u a v k
other_written u a v f b content k e =
    let no = and_right (is_volume a v (a, v)) (f == k) e in
    (refl, λ l. ap (λ t. if t && (b == l) then Some content else u.blocks (a, v, k, l)) no)

other_punched : (u : State) (a v f b k : ℕ) → (f == k) ≡ false → SameFile (effect u (Punch a v f b)) u a v k
other_punched u a v f b k e =
    let no = and_right (is_volume a v (a, v)) (f == k) e in
    (refl, λ l. ap (λ t. if t && (b == l) then None else u.blocks (a, v, k, l)) no)

-- ---- the state w on its way to z

-- Without a crash the state would be z; what a crash left has led to y. A part of w is as in y as long as what stands in the way of its
-- lines (a volume that isn't made or is sealed, a file that isn't there) is as in y, too, and not yet as in z.

pub record HealsFile (w z y : State) (i j k : ℕ) : Type 0 where
  pub file : w.files (i, j, k) ≡ z.files (i, j, k)
  pub blocks : (l : ℕ) → (w.blocks (i, j, k, l) ≡ y.blocks (i, j, k, l)) ⊎ (w.blocks (i, j, k, l) ≡ z.blocks (i, j, k, l))

abbrev pub FileHeals : State → State → State → ℕ → ℕ → ℕ → Type 0
FileHeals w z y i j k = SameFile w y i j k ⊎ HealsFile w z y i j k

pub record HealsVolume (w z y : State) (i j : ℕ) : Type 0 where
  pub made : w.made (i, j) ≡ z.made (i, j)
  pub sealed : w.sealed (i, j) ≡ z.sealed (i, j)
  pub label : (w.labels (i, j) ≡ y.labels (i, j)) ⊎ (w.labels (i, j) ≡ z.labels (i, j))
  pub files : (k : ℕ) → FileHeals w z y i j k

abbrev pub VolumeHeals : State → State → State → ℕ → ℕ → Type 0
VolumeHeals w z y i j = SameVolume w y i j ⊎ HealsVolume w z y i j

-- ---- parts that stay as they are

moved : {X : Type 0} {w z y w' z' y' : X} → w' ≡ w → z' ≡ z → y' ≡ y → (w ≡ y) ⊎ (w ≡ z) → (w' ≡ y') ⊎ (w' ≡ z')
moved ew ez ey h = ⊎_elim (λ e. inl (ew ∙ e ∙ sym ey)) (λ e. inr (ew ∙ e ∙ sym ez)) h

module _ (w z y w' z' y' : State) (i j : ℕ) where
  file_moved : (k : ℕ) → SameFile w' w i j k → SameFile z' z i j k → SameFile y' y i j k → FileHeals w z y i j k → FileHeals w' z' y' i j k
  file_moved k ew ez ey h = ⊎_elim
      (λ (s : SameFile w y i j k). inl (ew.0 ∙ s.0 ∙ sym ey.0, λ l. ew.1 l ∙ s.1 l ∙ sym (ey.1 l)))
      (λ (s : HealsFile w z y i j k). inr (record { file = ew.0 ∙ s.file ∙ sym ez.0; blocks = λ l. moved (ew.1 l) (ez.1 l) (ey.1 l) (s.blocks l) }))
      h

  volume_moved : SameVolume w' w i j → SameVolume z' z i j → SameVolume y' y i j → VolumeHeals w z y i j → VolumeHeals w' z' y' i j
  volume_moved ew ez ey h = ⊎_elim
      (λ (s : SameVolume w y i j). inl (record {
        made = ew.made ∙ s.made ∙ sym ey.made;
        sealed = ew.sealed ∙ s.sealed ∙ sym ey.sealed;
        label = ew.label ∙ s.label ∙ sym ey.label;
        files = λ k. ((ew.files k).0 ∙ (s.files k).0 ∙ sym (ey.files k).0, λ l. (ew.files k).1 l ∙ (s.files k).1 l ∙ sym ((ey.files k).1 l));
      }))
      (λ (s : HealsVolume w z y i j). inr (record {
        made = ew.made ∙ s.made ∙ sym ez.made;
        sealed = ew.sealed ∙ s.sealed ∙ sym ez.sealed;
        label = moved ew.label ez.label ey.label s.label;
        files = λ k. file_moved k (ew.files k) (ez.files k) (ey.files k) (s.files k);
      }))
      h

any_block : (w z y : State) (i j k : ℕ) → FileHeals w z y i j k → (l : ℕ) → (w.blocks (i, j, k, l) ≡ y.blocks (i, j, k, l)) ⊎ (w.blocks (i, j, k, l) ≡ z.blocks (i, j, k, l))
any_block w z y i j k h l = ⊎_elim (λ (s : SameFile w y i j k). inl (s.1 l)) (λ (s : HealsFile w z y i j k). s.blocks l) h

-- where made and sealed are as in z
from_same : (w z y : State) (i j : ℕ) → SameVolume w y i j → w.made (i, j) ≡ z.made (i, j) → w.sealed (i, j) ≡ z.sealed (i, j) → HealsVolume w z y i j
from_same w z y i j s made sealed = record { made = made; sealed = sealed; label = inl s.label; files = λ k. inl (s.files k) }

-- ---- each kind, in its own volume

same_or_not : (b c : Bool) → (b ≡ c) ⊎ (b ≡ c → ⊥)
same_or_not true true = inl refl
same_or_not true false = inr true≢false
same_or_not false true = inr (λ e. true≢false (sym e))
same_or_not false false = inl refl

both_or_not : (b c d e : Bool) → ((b ≡ c) × (d ≡ e)) ⊎ ((b ≡ c) × (d ≡ e) → ⊥)
both_or_not b c d e = ⊎_elim (λ p. ⊎_elim (λ q. inl (p, q)) (λ n. inr (λ h. n h.1)) (same_or_not d e)) (λ n. inr (λ h. n h.0)) (same_or_not b c)

-- what is set at one place is the same there, whatever it was
set_both : {X : Type 0} (t : Bool) (value o p : X) → t ≡ true → (if t then value else o) ≡ (if t then value else p)
set_both t value o p e = ap (λ t. if t then value else o) e ∙ sym (ap (λ t. if t then value else p) e)

or_both : (t b c : Bool) → t ≡ true → (t || b) ≡ (t || c)
or_both t b c e = ap (λ t. t || b) e ∙ sym (ap (λ t. t || c) e)

drop_both : (t b c : Bool) → t ≡ true → (not t && b) ≡ (not t && c)
drop_both t b c e = ap (λ t. not t && b) e ∙ sym (ap (λ t. not t && c) e)

-- one file after another: the one that is meant, and the others
each_file : (P : ℕ → Type 0) (f : ℕ) → P f → ((k : ℕ) → (f == k) ≡ false → P k) → (k : ℕ) → P k
each_file P f here others k = ⊎_elim (λ e. subst P (eqb-true f k e) here) (others k) (cases_Bool (f == k))

module _ (g : Geometry) (w z y : State) (a v : ℕ) where
  -- m was tried in w, was carried out in z, and may have been carried out in y
  abbrev Heals : Bool → Msg → Type 0
  Heals b m = VolumeHeals (if_ran (runs g w m) w m) (effect z m) (if_ran b y m) a v

  abbrev Passes : State → Msg → Type 0
  Passes u m = AllByRecursion (λ t. passes g u (kind m) (four_numbers m) t ≡ true) (checks (kind m))

  -- m is refused in w and in y
  both_refused : (b : Bool) (m : Msg) → runs g w m ≡ false → b ≡ false → SameVolume w y a v → Heals b m
  both_refused b m ew eb s = inl (subst (λ c. SameVolume (if_ran c w m) (if_ran b y m) a v) (sym ew) (subst (λ c. SameVolume w (if_ran c y m) a v) (sym eb) s))

  -- m runs in w
  runs_too : (b : Bool) (m : Msg) → runs g w m ≡ true → HealsVolume (effect w m) (effect z m) (if_ran b y m) a v → Heals b m
  runs_too b m ew h = inr (subst (λ c. HealsVolume (if_ran c w m) (effect z m) (if_ran b y m) a v) (sym ew) h)

  mine : is_volume a v (a, v) ≡ true
  mine = picks_volume a v

  -- ---- where made and sealed are as in z

  healed_make : (b : Bool) → Passes z (MakeVol a v) → HealsVolume w z y a v → Heals b (MakeVol a v)
  healed_make b p h =
      let m = MakeVol a v in
      runs_too b m (λ i. p.0 i && (not ((h.made ∙ not-true (z.made (a, v)) p.1.0) i) && true)) (record {
        made = or_both _ _ _ mine;
        sealed = h.sealed;
        label = inr (set_both _ (Some no_label) (w.labels (a, v)) (z.labels (a, v)) mine);
        files = λ k. file_moved w z y (effect w m) (effect z m) (if_ran b y m) a v k (refl, λ l. refl) (refl, λ l. refl) (ran_file b y m a v k (refl, λ l. refl)) (h.files k);
      })

  healed_drop : (b : Bool) → Passes z (DropVol a v) → HealsVolume w z y a v → Heals b (DropVol a v)
  healed_drop b p h =
      let m = DropVol a v in
      runs_too b m (λ i. p.0 i && ((h.made ∙ p.1.0) i && (not ((h.sealed ∙ not-true (z.sealed (a, v)) p.1.1.0) i) && true))) (record {
        made = drop_both _ _ _ mine;
        sealed = drop_both _ _ _ mine;
        label = inr (set_both _ None (w.labels (a, v)) (z.labels (a, v)) mine);
        files = λ k. inr (record { file = drop_both _ _ _ mine; blocks = λ l. inr (set_both _ None (w.blocks (a, v, k, l)) (z.blocks (a, v, k, l)) mine) });
      })

  healed_seal : (b : Bool) → Passes z (Seal a v) → w.made (a, v) ≡ z.made (a, v) → (w.labels (a, v) ≡ y.labels (a, v)) ⊎ (w.labels (a, v) ≡ z.labels (a, v))
      → ((k : ℕ) → FileHeals w z y a v k) → Heals b (Seal a v)
  healed_seal b p made label files =
      let m = Seal a v in
      runs_too b m (λ i. p.0 i && ((made ∙ p.1.0) i && true)) (record {
        made = made;
        sealed = or_both _ _ _ mine;
        label = moved refl refl (ran_same (λ u. u.labels (a, v)) b y m refl) label;
        files = λ k. file_moved w z y (effect w m) (effect z m) (if_ran b y m) a v k (refl, λ l. refl) (refl, λ l. refl) (ran_file b y m a v k (refl, λ l. refl)) (files k);
      })

  healed_unseal : (b : Bool) → Passes z (Unseal a v) → w.made (a, v) ≡ z.made (a, v) → (w.labels (a, v) ≡ y.labels (a, v)) ⊎ (w.labels (a, v) ≡ z.labels (a, v))
      → ((k : ℕ) → FileHeals w z y a v k) → Heals b (Unseal a v)
  healed_unseal b p made label files =
      let m = Unseal a v in
      runs_too b m (λ i. p.0 i && ((made ∙ p.1.0) i && true)) (record {
        made = made;
        sealed = drop_both _ _ _ mine;
        label = moved refl refl (ran_same (λ u. u.labels (a, v)) b y m refl) label;
        files = λ k. file_moved w z y (effect w m) (effect z m) (if_ran b y m) a v k (refl, λ l. refl) (refl, λ l. refl) (ran_file b y m a v k (refl, λ l. refl)) (files k);
      })

  healed_label : (b : Bool) (bytes : List ℕ) → Passes z (SetLabel a v bytes) → HealsVolume w z y a v → Heals b (SetLabel a v bytes)
  healed_label b bytes p h =
      let m = SetLabel a v bytes in
      runs_too b m (λ i. p.0 i && ((h.made ∙ p.1.0) i && (not ((h.sealed ∙ not-true (z.sealed (a, v)) p.1.1.0) i) && true))) (record {
        made = h.made;
        sealed = h.sealed;
        label = inr (set_both _ (Some bytes) (w.labels (a, v)) (z.labels (a, v)) mine);
        files = λ k. file_moved w z y (effect w m) (effect z m) (if_ran b y m) a v k (refl, λ l. refl) (refl, λ l. refl) (ran_file b y m a v k (refl, λ l. refl)) (h.files k);
      })

  -- ---- a message that changes a file alone, or a block of it

  module _ (b : Bool) (m : Msg) (f : ℕ)
      (made : (u : State) → (effect u m).made (a, v) ≡ u.made (a, v)) (sealed : (u : State) → (effect u m).sealed (a, v) ≡ u.sealed (a, v))
      (label : (u : State) → (effect u m).labels (a, v) ≡ u.labels (a, v)) (others : (u : State) (k : ℕ) → (f == k) ≡ false → SameFile (effect u m) u a v k) where
    healed_file : FileHeals (if_ran (runs g w m) w m) (effect z m) (if_ran b y m) a v f → HealsVolume w z y a v → Heals b m
    healed_file here h = inr (record {
      made = ran_same (λ u. u.made (a, v)) (runs g w m) w m (made w) ∙ h.made ∙ sym (made z);
      sealed = ran_same (λ u. u.sealed (a, v)) (runs g w m) w m (sealed w) ∙ h.sealed ∙ sym (sealed z);
      label = moved (ran_same (λ u. u.labels (a, v)) (runs g w m) w m (label w)) (label z) (ran_same (λ u. u.labels (a, v)) b y m (label y)) h.label;
      files = each_file (λ k. FileHeals (if_ran (runs g w m) w m) (effect z m) (if_ran b y m) a v k) f here
          (λ k e. file_moved w z y _ _ _ a v k (ran_file (runs g w m) w m a v k (others w k e)) (others z k e) (ran_file b y m a v k (others y k e)) (h.files k));
    })

  -- the file is not there in w, though it is in z: so m is refused in w and in y
  file_refused : (b : Bool) (m : Msg) (f : ℕ) → w.files (a, v, f) ≡ false → z.files (a, v, f) ≡ true → runs g w m ≡ false → (y.files (a, v, f) ≡ false → b ≡ false)
      → FileHeals w z y a v f → FileHeals (if_ran (runs g w m) w m) (effect z m) (if_ran b y m) a v f
  file_refused b m f none there ew eb h = ⊎_elim
      (λ (s : SameFile w y a v f). subst (λ c. FileHeals (if_ran c w m) (effect z m) (if_ran b y m) a v f) (sym ew)
      (subst (λ c. FileHeals w (effect z m) (if_ran c y m) a v f) (sym (eb (sym s.0 ∙ none))) (inl s)))
      (λ (s : HealsFile w z y a v f). absurd (true≢false (sym there ∙ sym s.file ∙ none)))
      h

  -- the volume is made and not sealed, in z and so in w
  module _ (h : HealsVolume w z y a v) (in_z : (z.made (a, v) ≡ true) × (z.sealed (a, v) ≡ false)) where
    made_too : w.made (a, v) ≡ true
    made_too = h.made ∙ in_z.0

    open_too : w.sealed (a, v) ≡ false
    open_too = h.sealed ∙ in_z.1

    healed_create : (b : Bool) (f : ℕ) → Passes z (Create a v f) → Heals b (Create a v f)
    healed_create b f p =
        let m = Create a v f in
        healed_file b m f (λ u. refl) (λ u. refl) (λ u. refl) (λ u k e. other_created u a v f k e)
        (inr (record {
          file = there;
          blocks = λ l. moved (ran_same (λ u. u.blocks (a, v, f, l)) (runs g w m) w m refl) refl (ran_same (λ u. u.blocks (a, v, f, l)) b y m refl) (any_block w z y a v f (h.files f) l);
        }))
        h
      where
        this : (is_volume a v (a, v) && (f == f)) ≡ true
        this = picks_file a v f

        made_there : (effect z (Create a v f)).files (a, v, f) ≡ true
        made_there = ap (λ t. t || z.files (a, v, f)) this

        there : (if_ran (runs g w (Create a v f)) w (Create a v f)).files (a, v, f) ≡ (effect z (Create a v f)).files (a, v, f)
        there = elim (w.files (a, v, f)) as (λ t. w.files (a, v, f) ≡ t → (if_ran (runs g w (Create a v f)) w (Create a v f)).files (a, v, f) ≡ (effect z (Create a v f)).files (a, v, f)) [
          | true ↦ λ e. ap (λ c. (if_ran c w (Create a v f)).files (a, v, f)) (λ i. p.0 i && (made_too i && (not (open_too i) && (not (e i) && true)))) ∙ e ∙ sym made_there
          | false ↦ λ e. ap (λ c. (if_ran c w (Create a v f)).files (a, v, f)) (λ i. p.0 i && (made_too i && (not (open_too i) && (not (e i) && true)))) ∙ or_both _ _ _ this
        ] refl

    healed_delete : (b : Bool) (f : ℕ) → (b ≡ true → y.files (a, v, f) ≡ true) → Passes z (Delete a v f) → Heals b (Delete a v f)
    healed_delete b f ran p =
        let m = Delete a v f in
        let this = picks_file a v f in
        healed_file b m f (λ u. refl) (λ u. refl) (λ u. refl) (λ u k e. other_deleted u a v f k e)
        (elim (w.files (a, v, f)) as (λ t. w.files (a, v, f) ≡ t → FileHeals (if_ran (runs g w m) w m) (effect z m) (if_ran b y m) a v f) [
          | true ↦ λ e. inr (subst (λ c. HealsFile (if_ran c w m) (effect z m) (if_ran b y m) a v f) (sym (λ i. p.0 i && (made_too i && (not (open_too i) && (e i && true)))))
              (record { file = drop_both _ _ _ this; blocks = λ l. inr (set_both _ None (w.blocks (a, v, f, l)) (z.blocks (a, v, f, l)) this) }))
          | false ↦ λ e. file_refused b m f e p.1.1.1.0 (λ i. p.0 i && (made_too i && (not (open_too i) && (e i && true))))
              (λ none. false_from_ne_true b (λ is. true≢false (sym (ran is) ∙ none))) (h.files f)
        ] refl)
        h

    healed_write : (b : Bool) (f l : ℕ) (content : Block) → (b ≡ true → y.files (a, v, f) ≡ true) → passes g w kinds.Write (a ∷ v ∷ f ∷ l ∷ []) Space ≡ true
        → Passes z (Write a v f l content) → Heals b (Write a v f l content)
    healed_write b f l content ran room p =
        let m = Write a v f l content in
        healed_file b m f (λ u. refl) (λ u. refl) (λ u. refl) (λ u k e. other_written u a v f l content k e)
        (elim (w.files (a, v, f)) as (λ t. w.files (a, v, f) ≡ t → FileHeals (if_ran (runs g w m) w m) (effect z m) (if_ran b y m) a v f) [
          | true ↦ λ e. inr (subst (λ c. HealsFile (if_ran c w m) (effect z m) (if_ran b y m) a v f) (sym (λ i. p.0 i && (made_too i && (not (open_too i) && (e i && (room i && true))))))
              (record { file = e ∙ sym p.1.1.1.0; blocks = at_block }))
          | false ↦ λ e. file_refused b m f e p.1.1.1.0 (λ i. p.0 i && (made_too i && (not (open_too i) && (e i && (room i && true)))))
              (λ none. false_from_ne_true b (λ is. true≢false (sym (ran is) ∙ none))) (h.files f)
        ] refl)
        h
      where
        at_block : (k : ℕ) → ((effect w (Write a v f l content)).blocks (a, v, f, k) ≡ (if_ran b y (Write a v f l content)).blocks (a, v, f, k))
            ⊎ ((effect w (Write a v f l content)).blocks (a, v, f, k) ≡ (effect z (Write a v f l content)).blocks (a, v, f, k))
        at_block k = elim (is_block a v f l (a, v, f, k)) as (λ t. is_block a v f l (a, v, f, k) ≡ t
            → ((effect w (Write a v f l content)).blocks (a, v, f, k) ≡ (if_ran b y (Write a v f l content)).blocks (a, v, f, k))
            ⊎ ((effect w (Write a v f l content)).blocks (a, v, f, k) ≡ (effect z (Write a v f l content)).blocks (a, v, f, k))) [
              | true ↦ λ e. inr (set_both _ (Some content) (w.blocks (a, v, f, k)) (z.blocks (a, v, f, k)) e)
              | false ↦ λ e. moved (kept w e) (kept z e) (ran_same (λ u. u.blocks (a, v, f, k)) b y (Write a v f l content) (kept y e)) (any_block w z y a v f (h.files f) k)
            ] refl
          where
            kept : (u : State) → is_block a v f l (a, v, f, k) ≡ false → (effect u (Write a v f l content)).blocks (a, v, f, k) ≡ u.blocks (a, v, f, k)
            kept u e = ap (λ t. if t then Some content else u.blocks (a, v, f, k)) e

    healed_punch : (b : Bool) (f l : ℕ) → (b ≡ true → y.files (a, v, f) ≡ true) → Passes z (Punch a v f l) → Heals b (Punch a v f l)
    healed_punch b f l ran p =
        let m = Punch a v f l in
        healed_file b m f (λ u. refl) (λ u. refl) (λ u. refl) (λ u k e. other_punched u a v f l k e)
        (elim (w.files (a, v, f)) as (λ t. w.files (a, v, f) ≡ t → FileHeals (if_ran (runs g w m) w m) (effect z m) (if_ran b y m) a v f) [
          | true ↦ λ e. inr (subst (λ c. HealsFile (if_ran c w m) (effect z m) (if_ran b y m) a v f) (sym (λ i. p.0 i && (made_too i && (not (open_too i) && (e i && true)))))
              (record { file = e ∙ sym p.1.1.1.0; blocks = at_block }))
          | false ↦ λ e. file_refused b m f e p.1.1.1.0 (λ i. p.0 i && (made_too i && (not (open_too i) && (e i && true))))
              (λ none. false_from_ne_true b (λ is. true≢false (sym (ran is) ∙ none))) (h.files f)
        ] refl)
        h
      where
        at_block : (k : ℕ) → ((effect w (Punch a v f l)).blocks (a, v, f, k) ≡ (if_ran b y (Punch a v f l)).blocks (a, v, f, k))
            ⊎ ((effect w (Punch a v f l)).blocks (a, v, f, k) ≡ (effect z (Punch a v f l)).blocks (a, v, f, k))
        at_block k = elim (is_block a v f l (a, v, f, k)) as (λ t. is_block a v f l (a, v, f, k) ≡ t
            → ((effect w (Punch a v f l)).blocks (a, v, f, k) ≡ (if_ran b y (Punch a v f l)).blocks (a, v, f, k))
            ⊎ ((effect w (Punch a v f l)).blocks (a, v, f, k) ≡ (effect z (Punch a v f l)).blocks (a, v, f, k))) [
              | true ↦ λ e. inr (set_both _ None (w.blocks (a, v, f, k)) (z.blocks (a, v, f, k)) e)
              | false ↦ λ e. moved (kept w e) (kept z e) (ran_same (λ u. u.blocks (a, v, f, k)) b y (Punch a v f l) (kept y e)) (any_block w z y a v f (h.files f) k)
            ] refl
          where
            kept : (u : State) → is_block a v f l (a, v, f, k) ≡ false → (effect u (Punch a v f l)).blocks (a, v, f, k) ≡ u.blocks (a, v, f, k)
            kept u e = ap (λ t. if t then None else u.blocks (a, v, f, k)) e

  -- ---- where made or sealed is not as in z, all of the volume is as in y

  passes_from : (u : State) (m : Msg) → runs g u m ≡ true → Passes u m
  passes_from u m e = all_passed (passes g u (kind m) (four_numbers m)) (checks (kind m)) e

  abbrev Synced : State → Type 0
  Synced u = (u.made (a, v) ≡ z.made (a, v)) × (u.sealed (a, v) ≡ z.sealed (a, v))

  module _ (s : SameVolume w y a v) (apart : Synced w → ⊥) where
    refused_apart : (b : Bool) (m : Msg) → (b ≡ true → Passes y m) → (Passes w m → Synced w) → (Passes y m → Synced y) → Heals b m
    refused_apart b m ran in_w in_y = both_refused b m
        (false_from_ne_true _ (λ e. apart (in_w (passes_from w m e))))
        (false_from_ne_true b (λ e. let q = in_y (ran e) in apart (s.made ∙ q.0, s.sealed ∙ q.1)))
        s

    -- a message that wants a volume that is made and not sealed
    both_open : (u : State) → u.made (a, v) ≡ true → not (u.sealed (a, v)) ≡ true → z.made (a, v) ≡ true → not (z.sealed (a, v)) ≡ true → Synced u
    both_open u made unsealed made_in_z unsealed_in_z = (made ∙ sym made_in_z, not-true _ unsealed ∙ sym (not-true _ unsealed_in_z))

    apart_make : (b : Bool) → ((x : State) → x.made (a, v) ≡ false → (x ≡ w) ⊎ (x ≡ z) → x.sealed (a, v) ≡ false) → (b ≡ true → Passes y (MakeVol a v)) → Passes z (MakeVol a v)
        → Heals b (MakeVol a v)
    apart_make b unsealed ran p =
        let none : z.made (a, v) ≡ false = not-true _ p.1.0 in
        refused_apart b (MakeVol a v) ran
        (λ q. let n : w.made (a, v) ≡ false = not-true _ q.1.0 in (n ∙ sym none, unsealed w n (inl refl) ∙ sym (unsealed z none (inr refl))))
        (λ q. let n : y.made (a, v) ≡ false = not-true _ q.1.0 in (n ∙ sym none, sym s.sealed ∙ unsealed w (s.made ∙ n) (inl refl) ∙ sym (unsealed z none (inr refl))))

    apart_seal : (b : Bool) → (b ≡ true → Passes y (Seal a v)) → Passes z (Seal a v) → Heals b (Seal a v)
    apart_seal b ran p = elim (w.made (a, v)) as (λ t. w.made (a, v) ≡ t → Heals b (Seal a v)) [
      | true ↦ λ e. healed_seal b p (e ∙ sym p.1.0) (inl s.label) (λ k. inl (s.files k))
      | false ↦ λ e. both_refused b (Seal a v) (λ i. p.0 i && (e i && true)) (false_from_ne_true b (λ is. true≢false (sym (s.made ∙ (ran is).1.0) ∙ e))) s
    ] refl

    apart_unseal : (b : Bool) → (b ≡ true → Passes y (Unseal a v)) → Passes z (Unseal a v) → Heals b (Unseal a v)
    apart_unseal b ran p = elim (w.made (a, v)) as (λ t. w.made (a, v) ≡ t → Heals b (Unseal a v)) [
      | true ↦ λ e. healed_unseal b p (e ∙ sym p.1.0) (inl s.label) (λ k. inl (s.files k))
      | false ↦ λ e. both_refused b (Unseal a v) (λ i. p.0 i && (e i && true)) (false_from_ne_true b (λ is. true≢false (sym (s.made ∙ (ran is).1.0) ∙ e))) s
    ] refl

  synced_or_apart : VolumeHeals w z y a v → HealsVolume w z y a v ⊎ (SameVolume w y a v × (Synced w → ⊥))
  synced_or_apart h = ⊎_elim
      (λ (s : SameVolume w y a v). ⊎_elim
      (λ (e : Synced w). inl (from_same w z y a v s e.0 e.1))
      (λ (n : Synced w → ⊥). inr (s, n))
      (both_or_not (w.made (a, v)) (z.made (a, v)) (w.sealed (a, v)) (z.sealed (a, v))))
      (λ (s : HealsVolume w z y a v). inl s)
      h

-- ---- the step

-- each volume of w is on its way to z
abbrev pub Heal : State → State → State → Type 0
Heal w z y = (i j : ℕ) → VolumeHeals w z y i j

-- the write finds room in w
abbrev pub FindsRoom : Geometry → State → Msg → Type 0
FindsRoom g w (Write a v f l content) = passes g w kinds.Write (a ∷ v ∷ f ∷ l ∷ []) Space ≡ true
FindsRoom g w _ = Unit {0}

-- only volumes that are made are sealed
abbrev pub SealsMade : State → Type 0
SealsMade u = (k : VolumeKey) → u.sealed k ≡ true → u.made k ≡ true

not_sealed : (u : State) → SealsMade u → (k : VolumeKey) → u.made k ≡ false → u.sealed k ≡ false
not_sealed u h k e = false_from_ne_true _ (λ is. true≢false (sym (h k is) ∙ e))

module _ (g : Geometry) (w z y : State) (hw : SealsMade w) (hz : SealsMade z) where
  abbrev Here : Bool → Msg → Type 0
  Here b m = let n = key m in (b ≡ true → Passes g w z y n.0 n.1 y m) → Passes g w z y n.0 n.1 z m → FindsRoom g w m → is_changing (kind m) ≡ true → VolumeHeals w z y n.0 n.1
      → VolumeHeals (if_ran (runs g w m) w m) (effect z m) (if_ran b y m) n.0 n.1

  open_here : (a v : ℕ) (x : State) → x.made (a, v) ≡ false → (x ≡ w) ⊎ (x ≡ z) → x.sealed (a, v) ≡ false
  open_here a v x e is = not_sealed x (⊎_elim (λ q. subst SealsMade (sym q) hw) (λ q. subst SealsMade (sym q) hz) is) (a, v) e

  here : (b : Bool) (m : Msg) → Here b m
  here b (MakeVol a v) ran p room c h = ⊎_elim (λ (s : HealsVolume w z y a v). healed_make g w z y a v b p s)
      (λ (s : SameVolume w y a v × (Synced g w z y a v w → ⊥)). apart_make g w z y a v s.0 s.1 b (open_here a v) ran p) (synced_or_apart g w z y a v h)
  here b (DropVol a v) ran p room c h = ⊎_elim (λ (s : HealsVolume w z y a v). healed_drop g w z y a v b p s)
      (λ (s : SameVolume w y a v × (Synced g w z y a v w → ⊥)). refused_apart g w z y a v s.0 s.1 b (DropVol a v) ran
      (λ q. both_open g w z y a v s.0 s.1 w q.1.0 q.1.1.0 p.1.0 p.1.1.0) (λ q. both_open g w z y a v s.0 s.1 y q.1.0 q.1.1.0 p.1.0 p.1.1.0)) (synced_or_apart g w z y a v h)
  here b (Create a v f) ran p room c h = ⊎_elim (λ (s : HealsVolume w z y a v). healed_create g w z y a v s (p.1.0, not-true _ p.1.1.0) b f p)
      (λ (s : SameVolume w y a v × (Synced g w z y a v w → ⊥)). refused_apart g w z y a v s.0 s.1 b (Create a v f) ran
      (λ q. both_open g w z y a v s.0 s.1 w q.1.0 q.1.1.0 p.1.0 p.1.1.0) (λ q. both_open g w z y a v s.0 s.1 y q.1.0 q.1.1.0 p.1.0 p.1.1.0)) (synced_or_apart g w z y a v h)
  here b (Delete a v f) ran p room c h = ⊎_elim (λ (s : HealsVolume w z y a v). healed_delete g w z y a v s (p.1.0, not-true _ p.1.1.0) b f (λ e. (ran e).1.1.1.0) p)
      (λ (s : SameVolume w y a v × (Synced g w z y a v w → ⊥)). refused_apart g w z y a v s.0 s.1 b (Delete a v f) ran
      (λ q. both_open g w z y a v s.0 s.1 w q.1.0 q.1.1.0 p.1.0 p.1.1.0) (λ q. both_open g w z y a v s.0 s.1 y q.1.0 q.1.1.0 p.1.0 p.1.1.0)) (synced_or_apart g w z y a v h)
  here b (Write a v f l content) ran p room c h = ⊎_elim (λ (s : HealsVolume w z y a v). healed_write g w z y a v s (p.1.0, not-true _ p.1.1.0) b f l content (λ e. (ran e).1.1.1.0) room p)
      (λ (s : SameVolume w y a v × (Synced g w z y a v w → ⊥)). refused_apart g w z y a v s.0 s.1 b (Write a v f l content) ran
      (λ q. both_open g w z y a v s.0 s.1 w q.1.0 q.1.1.0 p.1.0 p.1.1.0) (λ q. both_open g w z y a v s.0 s.1 y q.1.0 q.1.1.0 p.1.0 p.1.1.0)) (synced_or_apart g w z y a v h)
  here b (Punch a v f l) ran p room c h = ⊎_elim (λ (s : HealsVolume w z y a v). healed_punch g w z y a v s (p.1.0, not-true _ p.1.1.0) b f l (λ e. (ran e).1.1.1.0) p)
      (λ (s : SameVolume w y a v × (Synced g w z y a v w → ⊥)). refused_apart g w z y a v s.0 s.1 b (Punch a v f l) ran
      (λ q. both_open g w z y a v s.0 s.1 w q.1.0 q.1.1.0 p.1.0 p.1.1.0) (λ q. both_open g w z y a v s.0 s.1 y q.1.0 q.1.1.0 p.1.0 p.1.1.0)) (synced_or_apart g w z y a v h)
  here b (SetLabel a v bytes) ran p room c h = ⊎_elim (λ (s : HealsVolume w z y a v). healed_label g w z y a v b bytes p s)
      (λ (s : SameVolume w y a v × (Synced g w z y a v w → ⊥)). refused_apart g w z y a v s.0 s.1 b (SetLabel a v bytes) ran
      (λ q. both_open g w z y a v s.0 s.1 w q.1.0 q.1.1.0 p.1.0 p.1.1.0) (λ q. both_open g w z y a v s.0 s.1 y q.1.0 q.1.1.0 p.1.0 p.1.1.0)) (synced_or_apart g w z y a v h)
  here b (Seal a v) ran p room c h = ⊎_elim (λ (s : HealsVolume w z y a v). healed_seal g w z y a v b p s.made s.label s.files)
      (λ (s : SameVolume w y a v × (Synced g w z y a v w → ⊥)). apart_seal g w z y a v s.0 s.1 b ran p) (synced_or_apart g w z y a v h)
  here b (Unseal a v) ran p room c h = ⊎_elim (λ (s : HealsVolume w z y a v). healed_unseal g w z y a v b p s.made s.label s.files)
      (λ (s : SameVolume w y a v × (Synced g w z y a v w → ⊥)). apart_unseal g w z y a v s.0 s.1 b ran p) (synced_or_apart g w z y a v h)
  here b _ ran p room c h = absurd (true≢false (sym c))

  -- in each volume
  pub heals : (b : Bool) (m : Msg) → (b ≡ true → runs g y m ≡ true) → runs g z m ≡ true → FindsRoom g w m → is_changing (kind m) ≡ true
      → Heal w z y → Heal (if_ran (runs g w m) w m) (effect z m) (if_ran b y m)
  heals b m ran p room c h = λ i j.
      let n = key m in
      ⊎_elim
      (λ e. subst (λ (k : VolumeKey). VolumeHeals (if_ran (runs g w m) w m) (effect z m) (if_ran b y m) k.0 k.1) (the_volume n.0 n.1 (i, j) e)
      (here b m (λ q. passes_from g w z y n.0 n.1 y m (ran q)) (passes_from g w z y n.0 n.1 z m p) room c (h n.0 n.1)))
      (λ e. volume_moved w z y _ _ _ i j (ran_volume (runs g w m) w m i j (elsewhere w m i j e)) (elsewhere z m i j e) (ran_volume b y m i j (elsewhere y m i j e)) (h i j))
      (cases_Bool (is_volume n.0 n.1 (i, j)))
