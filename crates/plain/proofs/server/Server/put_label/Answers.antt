-- After the change the server has the next state, again a possible one (`IsState`).
use Rattle.std.proofs.Common.{rules, ◌≡◌, sym, subst}
use Rattle.message.specs.Heads.{labeling}
use Rattle.meaning.specs.State.{IsState}
use Rattle.meaning.specs.Step.{next_state}
use Rattle.plain.specs.Server.{server_state}
use Rattle.meaning.proofs.IsState.{step_kept}
use Rattle.plain.proofs.server.Server.put_label.Goals as goal

pub returns-clause-sound : goal.returns-clause-sound
returns-clause-sound c =
    let g = c.args.g.now in
    let x = server_state c.args.self.now in
    let m = labeling c.args.numbers c.args.label.now in
    let next : server_state c.set_label.new.self ≡ next_state g x m = search rules in
    record {
      state = subst (IsState g) (sym next) (step_kept g x m c.requires.sound.state c.know_label.ensures);
      counted = c.set_label.ensures.counted g c.requires.sound.counted;
    }
