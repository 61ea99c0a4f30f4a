-- The file's blocks are gone, and then its bit: the effect of a delete.
use Rattle.std.proofs.Common.{rules, Some, refl, ap, sym, ◌∙◌, subst}
use Rattle.std.specs.Prelude.{is_some}
use Rattle.std.specs.BTreeMap as map
use Rattle.std.proofs.lemmas.Bool.{true≢false}
use Rattle.meaning.specs.State.{State, IsState, dropping, is_block_of_file, is_file}
use Rattle.meaning.specs.KeyOrders.{volume_order, block_order}
use Rattle.meaning.proofs.FileBits.{without_bit, without_bit_has}
use Rattle.meaning.proofs.IsState.{clearing_kept}
use Rattle.plain.specs.Server.{server_state}
use Rattle.plain.proofs.Totals.{files_fit}
use Rattle.plain.proofs.Volumes.{no_file_state}
use Rattle.plain.proofs.server.Server.remove_file.Goals as goal

pub returns-clause-state : goal.returns-clause-state
returns-clause-state c =
    let g = c.args.g.now in
    let volumes = map.get volume_order c.clear_file.new.self.volumes in
    let blocks = map.get block_order c.clear_file.new.self.blocks in
    let was = sym c.in-Some.ensures.value in
    let left = without_bit c.in-Some.volume.now.files c.args.f in
    let now = record c.in-Some.volume.now { files = left } in
    let state = subst (IsState g) (sym c.clear_file.ensures.state)
    (clearing_kept g (is_block_of_file c.args.a c.args.v c.args.f) (server_state c.args.self.now) c.requires.sound.state) in
    no_file_state volumes (map.get volume_order (c.get_mut.follows.lender now)) c.args.a c.args.v (Some now)
    ((c.get_mut.follows.holds now).3 (search rules)).0 blocks was c.args.f left refl
    (without_bit_has c.in-Some.volume.now.files c.args.f c.requires.file (files_fit g volumes blocks state c.args.a c.args.v was))
    ∙ ap (λ (y : State). record y { files = dropping (is_file c.args.a c.args.v c.args.f) y.files }) c.clear_file.ensures.state

-- to clear the file leaves its volume made
pub unreachable-requires : goal.unreachable-requires
unreachable-requires c = absurd (true≢false (sym c.requires.made
    ∙ sym (ap (λ (y : State). y.made (c.args.a, c.args.v)) c.clear_file.ensures.state) ∙ ap is_some (sym c.in_default.ensures.value)))
