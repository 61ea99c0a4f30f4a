-- Steps of which the log keeps no record change nothing.
use Rattle.std.proofs.Common.{arith, ◌≡◌, true, false, List, [], ◌∷◌, refl, ap, sym, ◌∙◌}
use Rattle.std.specs.Prelude.{if◌then◌else◌}
use Rattle.affinity.specs.declared.geometry.Geometry.{Geometry}
use Rattle.protocol.specs.declared.messages.Msg.{Msg}
use Rattle.meaning.specs.State.{State}
use Rattle.meaning.specs.Step.{reply_to, next_state, state_after_all, is_recorded, recorded_of}

-- A message of which the log keeps no record has changed nothing.
pub unrecorded_changes_nothing : (g : Geometry) (x : State) (m : Msg) → is_recorded m (reply_to g x m) ≡ false → next_state g x m ≡ x
unrecorded_changes_nothing g x m h = grind arith

-- So the messages with a record lead to the state to which all lead.
pub fold_recorded : (g : Geometry) (x : State) (ms : List Msg) → state_after_all g x (recorded_of g x ms) ≡ state_after_all g x ms
fold_recorded g x [] = refl
fold_recorded g x (m ∷ ms) =
    let rest = fold_recorded g (next_state g x m) ms in
    elim (is_recorded m (reply_to g x m)) as (λ b. is_recorded m (reply_to g x m) ≡ b
    → state_after_all g x (if b then m ∷ recorded_of g (next_state g x m) ms else recorded_of g (next_state g x m) ms) ≡ state_after_all g (next_state g x m) ms) [
      | true ↦ λ e. rest
      | false ↦ λ e. ap (λ y. state_after_all g y (recorded_of g (next_state g x m) ms)) (sym (unrecorded_changes_nothing g x m e)) ∙ rest
    ] refl
