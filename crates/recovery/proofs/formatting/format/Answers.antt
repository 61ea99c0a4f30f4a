-- A refusal before the first call of the device leaves what a crash could leave before.
use Rattle.std.proofs.Common.{inl}
use Rattle.disk.proofs.CrashImagesAre.{started}
use Rattle.device_map.specs.Layout.{layout_of}
use Rattle.oplog.proofs.Beyond.{beyond_none}
use Rattle.recovery.proofs.formatting.format.Goals as goal

pub returns-then-len-device_len-clause-any_moment : goal.returns-then-len-device_len-clause-any_moment
returns-then-len-device_len-clause-any_moment g c = λ k. started _ _ (λ bytes left. inl left)

pub returns-in_default-clause-any_moment : goal.returns-in_default-clause-any_moment
returns-in_default-clause-any_moment g c = λ k. started _ _ (λ bytes left. inl left)

pub returns-then-len-device_len-clause-beyond : goal.returns-then-len-device_len-clause-beyond
returns-then-len-device_len-clause-beyond g c = λ k. beyond_none (layout_of c.args.g) _

pub returns-in_default-clause-beyond : goal.returns-in_default-clause-beyond
returns-in_default-clause-beyond g c = λ k. beyond_none (layout_of c.args.g) _
