-- Incarnations, one after the other: what their logs lead to.
use Rattle.std.proofs.Common.{◌≡◌, ℕ, List, [], ◌∷◌, ◌++◌, refl, ap, sym, ◌∙◌, subst, append_assoc}
use Rattle.std.proofs.lemmas.List.{append-nil}
use Rattle.affinity.specs.declared.geometry.Geometry.{Geometry}
use Rattle.protocol.specs.declared.messages.Msg.{Msg}
use Rattle.meaning.specs.State.{State, empty}
use Rattle.meaning.specs.Step.{state_after_all}
use Rattle.histories.specs.MachineState.{MachineState}
use Rattle.histories.specs.Events.{Event, recorded}
use Rattle.histories.specs.Runs.{IsLegal}
use Rattle.histories.specs.Crash.{IsLeftSince}
use Rattle.histories.specs.CoreState.{IsIdle}
use Rattle.histories.specs.Incarnations.{Incarnation, Unopened, Ran, IsLogOf, IsLogOfRun, AreLogsOf, in_order, IsLeftByIncarnations, HoldsAnswered, AllHoldAnswered}
use Rattle.histories.proofs.AnsweredFirst.{answered_left}
use Rattle.histories.proofs.Idle.{none_logged}
use Rattle.histories.proofs.SerialReplies.{state_after_all-joined}

in_order-push : (logs : List (List Msg)) (log : List Msg) → in_order (logs ++ log ∷ []) ≡ in_order logs ++ log
in_order-push [] log = append-nil log
in_order-push (l ∷ logs) log = ap (λ ms. l ++ ms) (in_order-push logs log) ∙ sym (append_assoc l (in_order logs) log)

module _ (g : Geometry) where
  logs-push : (x : State) (incarnations : List Incarnation) (logs : List (List Msg)) (incarnation : Incarnation) (log : List Msg) → AreLogsOf g x incarnations logs
      → IsLogOf g (state_after_all g x (in_order logs)) incarnation log → AreLogsOf g x (incarnations ++ incarnation ∷ []) (logs ++ log ∷ [])
  logs-push x [] [] incarnation log h is = (is, tt)
  logs-push x [] (l ∷ logs) incarnation log h is = absurd h
  logs-push x (one ∷ incarnations) [] incarnation log h is = absurd h
  logs-push x (one ∷ incarnations) (l ∷ logs) incarnation log h is = (
    h.0,
    logs-push (state_after_all g x l) incarnations logs incarnation log h.1
        (subst (λ y. IsLogOf g y incarnation log) (state_after_all-joined g x l (in_order logs)) is),
  )

  pub no_incarnation : IsLeftByIncarnations g [] empty
  no_incarnation = record { logs = []; are_logs = tt; state = refl }

  pub next_incarnation : (incarnations : List Incarnation) (incarnation : Incarnation) (x : State) (log : List Msg) → IsLeftByIncarnations g incarnations x → IsLogOf g x incarnation log
      → IsLeftByIncarnations g (incarnations ++ incarnation ∷ []) (state_after_all g x log)
  next_incarnation incarnations incarnation x log left is = record {
    logs = left.logs ++ log ∷ [];
    are_logs = logs-push empty incarnations left.logs incarnation log left.are_logs (subst (λ y. IsLogOf g y incarnation log) left.state is);
    state = ap (λ y. state_after_all g y log) left.state ∙ sym (state_after_all-joined g empty (in_order left.logs) log)
        ∙ ap (state_after_all g empty) (sym (in_order-push left.logs log));
  }

  pub incarnation_of_run : (start : MachineState) (events : List Event) (ended : ℕ) (x : State) → IsIdle start.core → IsLegal g start events
      → IsLeftSince g start events ended x
      → (log : List Msg) × IsLogOf g start.core.committed (Ran start events ended) log × (x ≡ state_after_all g start.core.committed log)
  incarnation_of_run start events ended x idle legal left = (
    left.log,
    record {
      idle = idle;
      committed = refl;
      legal = legal;
      after = left.after;
      since = left.since;
      within = left.within;
      is_log = left.is_log;
    },
    left.state,
  )

  run_answered : (x : State) (start : MachineState) (events : List Event) (ended : ℕ) (log : List Msg)
      → IsLogOfRun g x start events ended log → HoldsAnswered (Ran start events ended) log
  run_answered x start events ended log h =
      let k = answered_left g h.legal h.since h.is_log in
      (k.0, ap (λ l. recorded l ++ log) (sym (none_logged start.core h.idle)) ∙ k.1)

  one_answered : (x : State) (incarnation : Incarnation) (log : List Msg) → IsLogOf g x incarnation log → HoldsAnswered incarnation log
  one_answered x Unopened log h = tt
  one_answered x (Ran start events ended) log h = run_answered x start events ended log h

  pub all_answered : (x : State) (incarnations : List Incarnation) (logs : List (List Msg)) → AreLogsOf g x incarnations logs → AllHoldAnswered incarnations logs
  all_answered x [] logs h = tt
  all_answered x (incarnation ∷ incarnations) [] h = absurd h
  all_answered x (incarnation ∷ incarnations) (log ∷ logs) h = (one_answered x incarnation log h.0, all_answered (state_after_all g x log) incarnations logs h.1)
