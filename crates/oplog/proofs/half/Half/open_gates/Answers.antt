-- The ones that are stored are as many as the gates that are opened.
use Rattle.std.proofs.Common.{◌≡◌, ℕ, subst, arith}
use Rattle.std.proofs.lemmas.Grind.{common_steps}
use Rattle.std.proofs.lemmas.List.{length-replicate}
use Rattle.disk.specs.Device.{Medium, SameOutside}
use Rattle.disk.specs.CrashImages.{CrashesChangeOnly}
use Rattle.oplog.proofs.half.Half.open_gates.Goals as goal

there : {old new : Medium} {a b m n : ℕ} → a ≡ b → m ≡ n → CrashesChangeOnly old new (SameOutside a m) → CrashesChangeOnly old new (SameOutside b n)
there {old} {new} {a} {b} {m} {n} at size held = subst (λ (j : ℕ). CrashesChangeOnly old new (SameOutside b j)) size (subst (λ (j : ℕ). CrashesChangeOnly old new (SameOutside j m)) at held)

pub returns-clause-any_moment : goal.returns-clause-any_moment
returns-clause-any_moment g c = λ k. there (omega arith) (grind (arith, common_steps, length-replicate)) (c.store.ensures.any_moment k)
