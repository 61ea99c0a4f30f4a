-- A job in flight and its result stay the same while other events come.
use Rattle.std.proofs.Common.{sym, subst, ◌∙◌}
use Rattle.std.specs.List.{Contains}
use Rattle.affinity.specs.Path.{are_related}
use Rattle.affinity.specs.declared.geometry.Geometry.{Geometry}
use Rattle.histories.specs.CoreState.{CoreState}
use Rattle.protocol.specs.Messages.{path_of}
use Rattle.protocol.specs.declared.messages.Msg.{Msg}
use Rattle.parcel.specs.JobRun.{JobView}
use Rattle.parcel.specs.declared.job.Done.{Done}
use Rattle.meaning.proofs.AgreeOn.{agree-sym, agree-trans}
use Rattle.meaning.proofs.Commute.{reads_only}
use Rattle.meaning.specs.Subtrees.{AgreeOn}
use Rattle.scheduler.specs.Jobs.{IsJobOf, IsResultOf}

module _ (g : Geometry) where
  -- The message sees the same in the committed state of both core states.
  abbrev pub SeesSame : CoreState → CoreState → Msg → Type 0
  SeesSame old new m = AgreeOn g (are_related (path_of g m)) new.committed old.committed

  pub job_stays : (old new : CoreState) (job : JobView) → IsJobOf g old job → SeesSame old new job.message
      → Contains new.in_flight (job.ticket, job.message) → IsJobOf g new job
  job_stays old new job h same out =
      let there = subst (λ (y : Geometry). AgreeOn y (are_related (path_of y job.message)) new.committed old.committed) (sym h.geometry) same in
      record { geometry = h.geometry; in_flight = out; lent = agree-trans h.lent (agree-sym there) }

  pub result_stays : (old new : CoreState) (done : Done) → IsResultOf g old done → SeesSame old new done.message
      → Contains new.in_flight (done.ticket, done.message) → IsResultOf g new done
  result_stays old new done h same out =
      let k = reads_only g (are_related (path_of g done.message)) new.committed old.committed done.message same (λ q r. r) in
      search (h.reply ∙ sym k.0, agree-trans h.shows (agree-sym k.1), out, h)
