-- One volume of an aggregate changes, and the others stay.
use Rattle.std.proofs.lemmas.Grind.{common_steps}
use Rattle.std.proofs.Common.{arith, ◌≡◌, ℕ, ◌<◌, Bool, true, false, List, Some, None, refl, ap, sym, ◌∙◌, length, slice_index_or, slice_set, ⊎_elim}
use Rattle.std.specs.Prelude.{◌&&◌, ◌||◌, ◌==◌, not, if◌then◌else◌, IfSome, Option}
use Rattle.std.proofs.lemmas.Bool.{eq-eqb, ne_eqb, cases_eq}
use Rattle.std.specs.Vec.{with_item}
use Rattle.std.proofs.lemmas.List.{get_or-set_same, get_or-set_other, get_or_read}
use Rattle.affinity.specs.declared.geometry.Geometry.{Geometry}
use Rattle.protocol.specs.declared.messages.Msg.TheVariants.{MakeVol, DropVol}
use Rattle.protocol.specs.declared.replies.Refusal.TheVariants.{Range, Exists}
use Rattle.protocol.specs.Messages.{is_in_range}
use Rattle.meaning.specs.Refusals.{refusal}
use Rattle.meaning.specs.Step.{effect, no_label}
use Rattle.meaning.specs.State.{State}
use Rattle.parcel.specs.Fits.{FitsAggregate, FitsVolume}
use Rattle.parcel.specs.Shown.{aggregate_facts, child_facts, volume_facts}
use Rattle.parcel.specs.VolumeStep.{guard, guard_open}
use Rattle.parcel.specs.Volume.{with_made, VolumeFacts, no_facts, facts_if, state_with}
use Rattle.parcel.specs.declared.parts.Aggr.{Aggr}
use Rattle.parcel.specs.declared.parts.Vol.{Vol}
use Rattle.parcel.proofs.ChildRows.{fits_in_place}
use Rattle.parcel.proofs.Slots.{volume_child}

-- ---- the list of an aggregate's volumes

abbrev pub changed_if : (VolumeFacts → VolumeFacts) → Bool → VolumeFacts → VolumeFacts
changed_if change true h = change h
changed_if change false h = h

set_changes : (g : Geometry) (change : VolumeFacts → VolumeFacts) (xs : List (Option Vol)) (v : ℕ) (y : Option Vol) → v < length xs
    → child_facts (volume_facts g) y ≡ change (child_facts (volume_facts g) (slice_index_or xs v None))
    → (q : ℕ) → child_facts (volume_facts g) (slice_index_or (slice_set xs v y) q None) ≡ changed_if change (v == q) (child_facts (volume_facts g) (slice_index_or xs q None))
set_changes g change xs v y lt e q =
    ⊎_elim
    (λ is.
    ap (λ k. child_facts (volume_facts g) (slice_index_or (slice_set xs v y) k None)) (sym is)
    ∙ ap (child_facts (volume_facts g)) (get_or-set_same xs v y None lt)
    ∙ e
    ∙ ap (λ k. change (child_facts (volume_facts g) (slice_index_or xs k None))) is
    ∙ ap (λ t. changed_if change t (child_facts (volume_facts g) (slice_index_or xs q None))) (sym (eq-eqb v q is)))
    (λ ne.
    ap (child_facts (volume_facts g)) (get_or-set_other xs v q y None (λ is. ne (sym is)))
    ∙ ap (λ t. changed_if change t (child_facts (volume_facts g) (slice_index_or xs q None))) (sym (ne_eqb v q ne)))
    (cases_eq v q)

-- the volume at v, which index n finds
module _ (g : Geometry) (r : Aggr) (fits : FitsAggregate g r) {v n : ℕ} (is : n ≡ v) (in_range : v < g.volumes) {old : Option Vol} (at : old ≡ slice_index_or r.volumes.items n old) where
  below : n < length r.volumes.items
  below = omega (arith, is, in_range, fits.count)

  here : slice_index_or r.volumes.items n None ≡ old
  here = sym (get_or_read r.volumes.items n old below at None)

  pub it_shows : (part : VolumeFacts → Bool) {b : Bool} → b ≡ part (child_facts (volume_facts g) old) → part (aggregate_facts g r v) ≡ b
  it_shows part shown = ap (λ k. part (aggregate_facts g r k)) (sym is) ∙ ap (λ o. part (child_facts (volume_facts g) o)) here ∙ sym shown

  module _ (new : Option Vol) where
    pub still_fits : (IfSome old (FitsVolume g) → IfSome new (FitsVolume g)) → FitsAggregate g (record { volumes = with_item r.volumes n new })
    still_fits kept_fit = (volume_child g n).put_fits r new fits (kept_fit (fits_in_place (λ v. FitsVolume g) r.volumes.items fits.volumes n old here))

    pub it_changes : (change : VolumeFacts → VolumeFacts) → child_facts (volume_facts g) new ≡ change (child_facts (volume_facts g) old)
        → (q : ℕ) → child_facts (volume_facts g) (slice_index_or (slice_set r.volumes.items n new) q None) ≡ changed_if change (v == q) (aggregate_facts g r q)
    it_changes change changes q =
        set_changes g change r.volumes.items n new below (changes ∙ ap (λ o. change (child_facts (volume_facts g) o)) (sym here)) q
        ∙ ap (λ k. changed_if change (k == q) (aggregate_facts g r q)) is

-- ---- tests and effects

-- the state in which aggregate a alone has anything
abbrev pub at_aggregate : Geometry → ℕ → Aggr → State
at_aggregate g a r = state_with (λ p q. facts_if (a == p) (aggregate_facts g r q))

at_itself : (a : ℕ) (h : VolumeFacts) → facts_if (a == a) h ≡ h
at_itself a h i = facts_if (eq-eqb a a refl i) h

pub make_tests : (g : Geometry) (a v : ℕ) (r : Aggr) → is_in_range g (MakeVol a v) ≡ true → refusal g (at_aggregate g a r) (MakeVol a v) ≡ guard (not (aggregate_facts g r v).made) Exists None
make_tests g a v r range = let at = at_itself a (aggregate_facts g r v) in λ i. guard (range i) Range (guard (not (at i).made) Exists None)

pub drop_tests : (g : Geometry) (a v : ℕ) (r : Aggr) → is_in_range g (DropVol a v) ≡ true → refusal g (at_aggregate g a r) (DropVol a v)
    ≡ guard_open (aggregate_facts g r v).made (aggregate_facts g r v).sealed None
drop_tests g a v r range = let at = at_itself a (aggregate_facts g r v) in λ i. guard (range i) Range (guard_open (at i).made (at i).sealed None)

-- a part that the change leaves as it was
kept : {A : Type 0} (part : VolumeFacts → A) (change : VolumeFacts → VolumeFacts) → ((h : VolumeFacts) → part (change h) ≡ part h)
    → (s t : Bool) (h : VolumeFacts) → part (facts_if s (changed_if change t h)) ≡ part (facts_if s h)
kept part change e s t h = grind (arith, common_steps)

-- a part that isn't there where there are no facts
unset : (part : VolumeFacts → Bool) → part no_facts ≡ false → (s t : Bool) (h : VolumeFacts) → part (facts_if s (changed_if (λ h. no_facts) t h)) ≡ (not (s && t) && part (facts_if s h))
unset part e s t h = grind (arith, common_steps)

gone : {A : Type 0} (part : VolumeFacts → Option A) → part no_facts ≡ None → (s t : Bool) (h : VolumeFacts)
    → part (facts_if s (changed_if (λ h. no_facts) t h)) ≡ (if s && t then None else part (facts_if s h))
gone part e s t h = grind (arith, common_steps)

module _ (a v : ℕ) (old new : ℕ → VolumeFacts) where
  pub effect_make : ((q : ℕ) → new q ≡ changed_if with_made (v == q) (old q)) → state_with (λ p q. facts_if (a == p) (new q)) ≡ effect (state_with (λ p q. facts_if (a == p) (old q))) (MakeVol a v)
  effect_make e i = record {
    made = λ k. (ap (λ h. (facts_if (a == k.0) h).made) (e k.1) ∙ made (a == k.0) (v == k.1) (old k.1)) i;
    sealed = λ k. (ap (λ h. (facts_if (a == k.0) h).sealed) (e k.1) ∙ kept (λ h. h.sealed) with_made (λ h. refl) (a == k.0) (v == k.1) (old k.1)) i;
    files = λ k. (ap (λ h. (facts_if (a == k.0) h).files k.2) (e k.1) ∙ kept (λ h. h.files k.2) with_made (λ h. refl) (a == k.0) (v == k.1) (old k.1)) i;
    blocks = λ k. (ap (λ h. (facts_if (a == k.0) h).blocks k.2 k.3) (e k.1) ∙ kept (λ h. h.blocks k.2 k.3) with_made (λ h. refl) (a == k.0) (v == k.1) (old k.1)) i;
    labels = λ k. (ap (λ h. (facts_if (a == k.0) h).label) (e k.1) ∙ label (a == k.0) (v == k.1) (old k.1)) i;
  }
    where
      made : (s t : Bool) (h : VolumeFacts) → (facts_if s (changed_if with_made t h)).made ≡ ((s && t) || (facts_if s h).made)
      made s t h = grind (arith, common_steps)

      label : (s t : Bool) (h : VolumeFacts) → (facts_if s (changed_if with_made t h)).label ≡ (if s && t then Some no_label else (facts_if s h).label)
      label s t h = grind (arith, common_steps)

  pub effect_drop : ((q : ℕ) → new q ≡ changed_if (λ h. no_facts) (v == q) (old q)) → state_with (λ p q. facts_if (a == p) (new q))
      ≡ effect (state_with (λ p q. facts_if (a == p) (old q))) (DropVol a v)
  effect_drop e i = record {
    made = λ k. (ap (λ h. (facts_if (a == k.0) h).made) (e k.1) ∙ unset (λ h. h.made) refl (a == k.0) (v == k.1) (old k.1)) i;
    sealed = λ k. (ap (λ h. (facts_if (a == k.0) h).sealed) (e k.1) ∙ unset (λ h. h.sealed) refl (a == k.0) (v == k.1) (old k.1)) i;
    files = λ k. (ap (λ h. (facts_if (a == k.0) h).files k.2) (e k.1) ∙ unset (λ h. h.files k.2) refl (a == k.0) (v == k.1) (old k.1)) i;
    blocks = λ k. (ap (λ h. (facts_if (a == k.0) h).blocks k.2 k.3) (e k.1) ∙ gone (λ h. h.blocks k.2 k.3) refl (a == k.0) (v == k.1) (old k.1)) i;
    labels = λ k. (ap (λ h. (facts_if (a == k.0) h).label) (e k.1) ∙ gone (λ h. h.label) refl (a == k.0) (v == k.1) (old k.1)) i;
  }
