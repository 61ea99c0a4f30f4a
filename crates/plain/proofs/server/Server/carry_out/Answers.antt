-- A message that passes its checks has its effect, which is the next state and again a state in range.
use Rattle.std.proofs.Common.{◌≡◌, None, ap, sym, ◌∙◌, subst}
use Rattle.std.specs.Option.{option_map_or}
use Rattle.message.specs.Heads.{message_without_data}
use Rattle.meaning.specs.State.{IsState}
use Rattle.meaning.specs.Refusals.{refusal}
use Rattle.meaning.specs.Step.{effect}
use Rattle.plain.specs.Server.{server_state}
use Rattle.plain.proofs.Asked.{refusal_asked, asking_is_message}
use Rattle.meaning.proofs.IsState.{step_kept}
use Rattle.plain.proofs.server.Server.carry_out.Goals as goal

pub returns-in_ok-apply_by-in-None-clause-sound : goal.returns-in_ok-apply_by-in-None-clause-sound
returns-in_ok-apply_by-in-None-clause-sound c =
    let g = c.args.g.now in
    let m = message_without_data c.args.kind c.args.numbers in
    let x = server_state c.args.self.now in
    let passed : refusal g x m ≡ None = sym (c.in-None.ensures ∙ refusal_asked g x c.args.kind c.args.numbers c.requires.asked) in
    record {
      state = subst (IsState g) (sym (c.in_ok-apply_by-in-None.ensures.state ∙ ap (λ r. option_map_or (λ why. x) r (effect x m)) (sym passed)))
          (step_kept g x m c.requires.sound.state (asking_is_message c.args.kind c.args.numbers c.requires.asked.without_data));
      counted = c.apply_by.ensures.counted;
    }
