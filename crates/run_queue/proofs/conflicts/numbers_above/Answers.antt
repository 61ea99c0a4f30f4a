-- The `Place` of an affinity tells those above it, and so their numbers.
use Rattle.std.proofs.Common.{◌≡◌, ◌∙◌, ℕ, ap, subst, refl, [], ◌∷◌}
use Rattle.std.specs.Prelude.{List}
use Rattle.affinity.specs.Interval.{Interval}
use Rattle.affinity.specs.Path.{Path, serial, aggregate, volume, logical, label, stripe}
use Rattle.affinity.proofs.Preorder.{path_unique}
use Rattle.run_queue.specs.RelatedNumbers.{numbers_above}
use Rattle.run_queue.proofs.conflicts.numbers_above.Goals as goal

four : {a b c d e f g h : ℕ} → a ≡ e → b ≡ f → c ≡ g → d ≡ h → ◌≡◌ {A = List ℕ} (a ∷ b ∷ c ∷ d ∷ []) (e ∷ f ∷ g ∷ h ∷ [])
four k l m n = cc

pub returns-in-Serial : goal.returns-in-Serial
returns-in-Serial c = λ p h.
    let g = c.args.g.now in
    let k = c.in-Serial.ensures in
    let own = c.number-own.ensures ∙ ap (λ (i : Interval). i.number) k.interval in
    subst (λ (q : Path). ◌≡◌ {A = List ℕ} (c.number-own.result ∷ c.number-own.result ∷ c.number-own.result ∷ c.number-own.result ∷ []) (numbers_above g q))
    (path_unique g serial p c.args.a k h) (four own own own own)

pub returns-in-Aggregate : goal.returns-in-Aggregate
returns-in-Aggregate c = λ p h.
    let g = c.args.g.now in
    let k = c.in-Aggregate.ensures in
    let own = c.number-own.ensures ∙ ap (λ (i : Interval). i.number) k.interval in
    subst (λ (q : Path). ◌≡◌ {A = List ℕ} (0 ∷ c.number-own.result ∷ c.number-own.result ∷ c.number-own.result ∷ []) (numbers_above g q))
    (path_unique g (aggregate c.in-Aggregate.field-0) p c.args.a k h) (four refl own own own)

pub returns-in-Volume : goal.returns-in-Volume
returns-in-Volume c = λ p h.
    let g = c.args.g.now in
    let k = c.in-Volume.ensures in
    let own = c.number-own.ensures ∙ ap (λ (i : Interval). i.number) k.interval in
    subst (λ (q : Path). ◌≡◌ {A = List ℕ} (0 ∷ c.number_at.result ∷ c.number-own.result ∷ c.number-own.result ∷ []) (numbers_above g q))
    (path_unique g (volume c.in-Volume.i c.in-Volume.field-1) p c.args.a k h) (four refl c.number_at.ensures own own)

pub returns-in-Stripe : goal.returns-in-Stripe
returns-in-Stripe c = λ p h.
    let g = c.args.g.now in
    let k = c.in-Stripe.ensures in
    subst (λ (q : Path). ◌≡◌ {A = List ℕ} (0 ∷ c.number_at-aggregate-in-Stripe.result ∷ c.number_at-volume.result ∷ c.number_at-in-Stripe.result ∷ []) (numbers_above g q))
    (path_unique g (stripe c.in-Stripe.i c.in-Stripe.v c.in-Stripe.field-2) p c.args.a k h)
    (four refl c.number_at-aggregate-in-Stripe.ensures c.number_at-volume.ensures c.number_at-in-Stripe.ensures)

pub returns-in-Logical : goal.returns-in-Logical
returns-in-Logical c = λ p h.
    let g = c.args.g.now in
    let k = c.in-Logical.ensures in
    let own = c.number-own.ensures ∙ ap (λ (i : Interval). i.number) k.interval in
    subst (λ (q : Path). ◌≡◌ {A = List ℕ} (0 ∷ c.number_at-aggregate.result ∷ c.number_at-in-Logical.result ∷ c.number-own.result ∷ []) (numbers_above g q))
    (path_unique g (logical c.in-Logical.i c.in-Logical.v) p c.args.a k h) (four refl c.number_at-aggregate.ensures c.number_at-in-Logical.ensures own)

pub returns-in-Label : goal.returns-in-Label
returns-in-Label c = λ p h.
    let g = c.args.g.now in
    let k = c.in-Label.ensures in
    let own = c.number-own.ensures ∙ ap (λ (i : Interval). i.number) k.interval in
    subst (λ (q : Path). ◌≡◌ {A = List ℕ} (0 ∷ c.number_at-aggregate-in-Label.result ∷ c.number_at-in-Label.result ∷ c.number-own.result ∷ []) (numbers_above g q))
    (path_unique g (label c.in-Label.i c.in-Label.v) p c.args.a k h) (four refl c.number_at-aggregate-in-Label.ensures c.number_at-in-Label.ensures own)
