-- Unsynced bytes are torn and all others stay, so what is left is a crash image of the device.
use Rattle.std.proofs.Common.{rules, ◌≡◌, List, length, ℕ, ap, sym, subst, ◌∙◌, arith}
use Rattle.std.proofs.lemmas.Grind.{common_steps}
use Rattle.disk.specs.CrashImages.{SameButUnsynced, torn_byte, torn_from}
use Rattle.disk.proofs.TornSoFar.{torn_leaves}
use Rattle.disk.proofs.memory.MemDisk.crash.Goals as goal

pub returns-clause-may : goal.returns-clause-may
returns-clause-may c =
    let self = c.args.self in
    let put = torn_byte c.args.torn self.last_synced.items self.last_written.items in
    let now = self.ghost_device.medium.now in
    let unsynced = self.ghost_device.medium.unsynced in
    let size : length unsynced ≡ length now = ap length self.unsynced_is ∙ self.unsynced_size ∙ sym (ap length self.now_is) in
    let is : c.note.new.self.medium.now ≡ torn_from put 0 0 unsynced now = grind (arith, common_steps) in
    record {
      same = subst (λ (left : List ℕ). SameButUnsynced now unsynced left) (sym is) (torn_leaves put 0 0 unsynced now size);
      bytes = search rules;
    }
