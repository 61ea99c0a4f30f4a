-- Options of a server with the same three numbers are equal.
use Rattle.std.proofs.Common.{◌≡◌, ◌≤◌, ℕ, List, [], ◌∷◌, ap, subst}
use Rattle.std.specs.Coded.{le_prop}
use Rattle.commands.specs.Services.{options_in_order}
use Rattle.commands.specs.declared.serve_options.ServeOptions.{ServeOptions}

abbrev Numbers : Type 0
Numbers = ℕ × ℕ × ℕ

abbrev Bounds : Numbers → Type 0
Bounds n = (n.0 ≤ 64) × (1 ≤ n.1) × (n.1 ≤ 1024)

abbrev made_of : (n : Numbers) → Bounds n → ServeOptions
made_of n b = record { workers = n.0; slots = n.1; every = n.2; few_workers = b.0; some_slot = b.1; few_slots = b.2 }

same_bounds : (n : Numbers) (a b : Bounds n) → a ≡ b
same_bounds n = hlevel (le_prop)

made_of-same : (n m : Numbers) → n ≡ m → (a : Bounds n) (b : Bounds m) → made_of n a ≡ made_of m b
made_of-same n m e a = subst (λ (m : Numbers). (b : Bounds m) → made_of n a ≡ made_of m b) e (λ b. ap (made_of n) (same_bounds n a b))

-- the three numbers of a list
numbers_in : List ℕ → Numbers
numbers_in (workers ∷ slots ∷ every ∷ []) = (workers, slots, every)
numbers_in _ = (0, 0, 0)

pub service_same : (s t : ServeOptions) → options_in_order s ≡ options_in_order t → s ≡ t
unfolding numbers_in
service_same s t e = made_of-same (s.workers, s.slots, s.every) (t.workers, t.slots, t.every) (ap numbers_in e) (s.few_workers, s.some_slot, s.few_slots) (t.few_workers, t.some_slot, t.few_slots)
