-- Where a server begins: nothing is read or written, nothing is lent, and no message is in it.
use Rattle.std.proofs.Common.{◌≡◌, ℕ, zero, suc, false, List, [], Option, Some, None, refl, ap, sym, ◌∙◌, subst, map, replicate}
use Rattle.std.proofs.lemmas.Option.{none-some}
use Rattle.std.proofs.KnownBytes.{Appends-nil}
use Rattle.histories.specs.IsSoundCoreState.{IsSoundCoreState}
use Rattle.scheduler.proofs.HasRun.{none_lead}
use Rattle.scheduler.specs.Machine.{MachineView}
use Rattle.scheduler.specs.Hands.{IsHandOf, hand_at, ticket_in}
use Rattle.scheduler.specs.declared.hands.HandContent.TheVariants as has
use Rattle.meaning.proofs.TakesLines.{takes_nothing}
use Rattle.scheduler.specs.CoreView.{CoreView, core_state_of}
use Rattle.serving.specs.Progress.{ServingProgress}
use Rattle.serving.specs.Runs.{HandsHaveJobs, RunsBetween, lent_hand, machine_with_jobs}

-- ---- nothing is lent

all_empty : (n i : ℕ) → hand_at (map lent_hand (replicate n None)) i ≡ has.Empty
all_empty zero i = refl
all_empty (suc n) zero = refl
all_empty (suc n) (suc i) = all_empty n i

-- ---- nothing has happened

module _ (keeps : Type 0) (start : MachineView) where
  unfoldable pub stays : RunsBetween keeps start start [] []
  stays = record {
    device_events = [];
    leads = none_lead keeps start;
    arrived_are = refl;
    reply_pairs_are = refl;
  }

  unfoldable pub starts : (input before : Option (List ℕ)) → ServingProgress keeps start start [] input input false before before
  starts input before = record {
    consumed = [];
    sent_lines = [];
    takes = takes_nothing input;
    serving = record { reply_pairs = []; segment = stays; known = tt; answered = tt };
    output = Appends-nil before;
  }

-- ---- what is lent

none_in_hand : (n i ticket : ℕ) → ticket_in (hand_at (map lent_hand (replicate n None)) i) ≡ Some ticket → ⊥
none_in_hand n i ticket at = none-some (ticket) (sym (ap ticket_in (all_empty n i)) ∙ at)

pub holds_at_start : (core : CoreView) (n : ℕ) → IsSoundCoreState core.geometry (core_state_of core) → HandsHaveJobs (machine_with_jobs core (replicate n None))
holds_at_start core n sound = record {
  sound = sound;
  each = λ i. subst (IsHandOf core.geometry (core_state_of core)) (sym (all_empty n i)) tt;
  once = λ i k ticket at others. absurd (none_in_hand n i ticket at);
}
