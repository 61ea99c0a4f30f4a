-- The stripe's entries are its blocks, so its room is the state's; the block that is set is the effect of a write.
use Rattle.std.proofs.Common.{◌≡◌, ℕ, Bool, refl, ap, sym, ◌∙◌, length}
use Rattle.std.proofs.lemmas.Result.{err_from_is_err_and}
use Rattle.affinity.specs.Geometry.{stripe_of}
use Rattle.protocol.specs.declared.messages.Msg.TheVariants.{Write}
use Rattle.meaning.specs.State.{blocks_in_stripe}
use Rattle.std.specs.Prelude.{◌||◌, None, is_some, nat_lt}
use Rattle.protocol.specs.declared.replies.Refusal.TheVariants.{Space}
use Rattle.parcel.specs.Shown.{stripe_facts}
use Rattle.parcel.specs.VolumeStep.{guard}
use Rattle.stripe.specs.Stripe.{content_at}
use Rattle.parcel.specs.Volume.{one_volume}
use Rattle.parcel.proofs.StripeCounts.{count_is_length}
use Rattle.parcel.proofs.OneVolume.{at_volume, refused, passed, let_through, write_tests, effect_write}
use Rattle.parcel.proofs.running.at_stripe.write.Goals as goal

pub returns-in_err-guard_file-clause-step : goal.returns-in_err-guard_file-clause-step
returns-in_err-guard_file-clause-step c =
    let g = c.args.g.now in
    let h = stripe_facts c.args.standing c.args.stripe.now in
    let q = err_from_is_err_and c.from_residual.result c.from_residual.ensures.1 in
    rw (q.1, q.2)
    (λ a v range. refused g (one_volume a v h) (Write a v c.args.f c.args.b c.args.content.now) _
    (write_tests g a v c.args.f c.args.b c.args.content.now h range refl ∙ c.in_err-guard_file.ensures _))

pub returns-in_err-guard-clause-step : goal.returns-in_err-guard-clause-step
returns-in_err-guard-clause-step c =
    let g = c.args.g.now in
    let p = c.args.stripe.now in
    let s = stripe_of g c.args.f c.args.b in
    let h = stripe_facts c.args.standing p in
    let q = err_from_is_err_and c.from_residual-in_err-guard.result c.from_residual-in_err-guard.ensures.1 in
    rw (q.1, q.2)
    (λ a v range.
    let count : blocks_in_stripe g (one_volume a v h) a v s ≡ length p.entries = count_is_length g s (one_volume a v h) a v p c.has_space.ensures.kept
    c.requires.fits (λ i j _. ap (λ h. h.blocks i j) (at_volume a v h)) in
    refused g (one_volume a v h) (Write a v c.args.f c.args.b c.args.content.now) _
    (write_tests g a v c.args.f c.args.b c.args.content.now h range count ∙ c.in_ok-guard_file.ensures _
    ∙ ap (λ (b : Bool). guard b Space None) (sym c.has_space.ensures.room) ∙ c.in_err-guard.ensures None))

pub set-requires : goal.set-requires
set-requires c = record {
  room = ap (λ (n : ℕ). is_some (content_at c.args.stripe.now.entries c.args.f c.args.b) || nat_lt (length c.args.stripe.now.entries) n) c.requires.fits.quota
      ∙ sym c.has_space.ensures.room ∙ let_through _ Space (c.in_ok-guard.ensures None);
}

pub returns-clause-step : goal.returns-clause-step
returns-clause-step c =
    let g = c.args.g.now in
    let p = c.args.stripe.now in
    let s = stripe_of g c.args.f c.args.b in
    let h = stripe_facts c.args.standing p in
    λ a v range.
    let count : blocks_in_stripe g (one_volume a v h) a v s ≡ length p.entries = count_is_length g s (one_volume a v h) a v p c.has_space.ensures.kept
    c.requires.fits (λ i j _. ap (λ h. h.blocks i j) (at_volume a v h)) in
    passed g (one_volume a v h) (Write a v c.args.f c.args.b c.args.content.now) _ _
    (write_tests g a v c.args.f c.args.b c.args.content.now h range count ∙ c.in_ok-guard_file.ensures _
    ∙ ap (λ (b : Bool). guard b Space None) (sym c.has_space.ensures.room) ∙ c.in_ok-guard.ensures None) refl
    (effect_write h a v (content_at c.set.new.self.entries) c.args.f c.args.b c.args.content.now c.set.ensures.holds.content)
