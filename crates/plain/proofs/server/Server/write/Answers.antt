-- After the write the server has the next state, again a possible one (`IsState`); without memory the state is as it was.
use Rattle.std.proofs.Common.{rules, ◌≡◌, Bool, true, false, cond, List, ℕ, Option, Some, None, Ok, Err, refl, ap, sym, ◌∙◌, subst, OnOk, OnErr, IfOk, [], ◌∷◌}
use Rattle.std.specs.Prelude.{not, is_some, slice_index, if◌then◌else◌}
use Rattle.std.specs.declared.result.Result.{Result}
use Rattle.std.specs.Option.{option_map_or}
use Rattle.affinity.specs.declared.geometry.Geometry.{Geometry}
use Rattle.message.specs.Heads.{writing}
use Rattle.affinity.specs.declared.kinds.Kind.TheVariants as kinds
use Rattle.affinity.specs.Place.{is_in_range}
use Rattle.protocol.specs.declared.messages.Block.{Block}
use Rattle.protocol.specs.declared.messages.Msg.{Msg}
use Rattle.protocol.specs.declared.replies.Refusal.{Refusal}
use Rattle.protocol.specs.declared.replies.Refusal.TheVariants.{Range, Volume, Sealed, File, Space}
use Rattle.protocol.specs.declared.replies.Reply.TheVariants.{Done, Refused}
use Rattle.protocol.specs.Messages.{IsMessage}
use Rattle.meaning.specs.State.{State, IsState}
use Rattle.meaning.specs.Refusals.{refusal, passes}
use Rattle.meaning.specs.Step.{effect, done_or_refused, reply_to, next_state}
use Rattle.plain.specs.Server.{server_state}
use Rattle.meaning.proofs.IsState.{step_kept}
use Rattle.plain.proofs.server.Server.write.Goals as goal

module _ (g : Geometry) (x y : State) (m : Msg) where
  written_kept : {X E : Type 0} (r : Result X E) → OnOk r (y ≡ next_state g x m) → OnErr r (y ≡ x) → IsState g x → IsMessage m → IsState g y
  written_kept (Ok _) next same s w = subst (IsState g) (sym next) (step_kept g x m s w)
  written_kept (Err _) next same s w = subst (IsState g) (sym same) s

-- where the others are passed, the last check decides
last_check : (range made sealed has room : Bool) → true ≡ range → (if made then (if sealed then Some Sealed else (if has then None else Some File)) else Some Volume) ≡ None
    → cond (not range) (Some Range) (cond (not made) (Some Volume) (cond (not (not sealed)) (Some Sealed) (cond (not has) (Some File) (cond (not room) (Some Space) None))))
    ≡ (if room then None else Some Space)
last_check false made sealed has room e f = cc e
last_check true false sealed has room e f = cc f
last_check true true true has room e f = cc f
last_check true true false false room e f = cc f
last_check true true false true true e f = refl
last_check true true false true false e f = refl

module _ (g : Geometry) (x : State) (ns : List ℕ) (content : Block) where
  abbrev at : ℕ → ℕ
  at i = slice_index ns i

  told : true ≡ is_in_range g kinds.Write (at 0 ∷ at 1 ∷ at 2 ∷ at 3 ∷ [])
      → (if x.made (at 0, at 1) then (if x.sealed (at 0, at 1) then Some Sealed else (if x.files (at 0, at 1, at 2) then None else Some File)) else Some Volume) ≡ None
      → refusal g x (writing ns content) ≡ (if passes g x kinds.Write (at 0 ∷ at 1 ∷ at 2 ∷ at 3 ∷ []) Space then None else Some Space)
  told = last_check (is_in_range g kinds.Write (at 0 ∷ at 1 ∷ at 2 ∷ at 3 ∷ [])) (x.made (at 0, at 1)) (x.sealed (at 0, at 1)) (x.files (at 0, at 1, at 2))
      (passes g x kinds.Write (at 0 ∷ at 1 ∷ at 2 ∷ at 3 ∷ []) Space)

  module _ (y : State) {E : Type 0} {now : Option Refusal} (is : refusal g x (writing ns content) ≡ now) where
    replies : (r : Result (Option Refusal) E) → IfOk r (λ why. why ≡ now) → IfOk r (λ why. reply_to g x (writing ns content) ≡ done_or_refused why)
    replies (Ok None) h = ap (λ o. option_map_or Refused o Done) (is ∙ sym h)
    replies (Ok (Some why)) h = ap (λ o. option_map_or Refused o Done) (is ∙ sym h)
    replies (Err e) h = tt

    leaves : (r : Result (Option Refusal) E) → IfOk r (λ why. why ≡ now) → IfOk r (λ why. y ≡ (if is_some why then x else effect x (writing ns content)))
        → OnOk r (y ≡ next_state g x (writing ns content))
    leaves (Ok None) h state = state ∙ ap (λ o. option_map_or (λ why. x) o (effect x (writing ns content))) (h ∙ sym is)
    leaves (Ok (Some why)) h state = state ∙ ap (λ o. option_map_or (λ why. x) o (effect x (writing ns content))) (h ∙ sym is)
    leaves (Err e) h state = tt

pub returns-clause-reply : goal.returns-clause-reply
returns-clause-reply c =
    let x = server_state c.args.self.now in
    replies c.args.g.now x c.args.numbers c.args.content.now x
    (told c.args.g.now x c.args.numbers c.args.content.now (search rules) (sym c.refusal_to_change_file.ensures ∙ c.in_default.is)) c.put_block.result c.put_block.ensures.room

pub returns-clause-state : goal.returns-clause-state
returns-clause-state c =
    let x = server_state c.args.self.now in
    leaves c.args.g.now x c.args.numbers c.args.content.now (server_state c.put_block.new.self)
    (told c.args.g.now x c.args.numbers c.args.content.now (search rules) (sym c.refusal_to_change_file.ensures ∙ c.in_default.is)) c.put_block.result c.put_block.ensures.room
    c.put_block.ensures.state

pub returns-clause-sound : goal.returns-clause-sound
returns-clause-sound c =
    let m = writing c.args.numbers c.args.content.now in
    record {
      state = written_kept c.args.g.now (server_state c.args.self.now) (server_state c.put_block.new.self) m c.put_block.result (search rules) c.put_block.ensures.unchanged
          c.requires.sound.state c.know_block.ensures;
      counted = c.put_block.ensures.counted;
    }
