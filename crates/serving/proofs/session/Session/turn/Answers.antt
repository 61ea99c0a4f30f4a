-- The clauses of the two calls are those of a turn.
use Rattle.std.proofs.Common.{◌≡◌, ◌∙◌, Option, Some, None, ap, refl, sym, arith}
use Rattle.image.specs.Pieces.{piece_count}
use Rattle.affinity.specs.declared.geometry.Geometry.{Geometry}
use Rattle.serving.specs.Turns.{LoopView, pieces}
use Rattle.serving.specs.declared.session.ReadEnd.{ReadEnd}
use Rattle.serving.proofs.InBounds.{same_size}
use Rattle.serving.proofs.TurnsLeft.{TurnParts, idle_reads, turn_pays}
use Rattle.serving.proofs.session.Session.turn.Goals as goal

none_ended : (o : Option ReadEnd) → ((read_end : ReadEnd) → o ≡ Some read_end → ⊥) → o ≡ None
none_ended (Some read_end) not_some = absurd (not_some read_end refl)
none_ended None not_some = refl

pub returns : goal.returns
returns g c =
    let more = c.read_more-read.ensures in
    let did = c.in_ok-last.ensures in
    let old : LoopView = record { session = c.args.self.now; last = c.args.told.last } in
    let new : LoopView = record { session = c.advance.new.self; last = c.in_ok-last.last } in
    let parts : TurnParts old new = record {
      rested = c.requires.rested;
      mid = c.read_more-read.new.self;
      read = c.read_more-read.result;
      taken = more.taken;
      waited = more.waited;
      all_read = more.all_read;
      goes_on = λ lines pieces_left. sym (c.ended.ensures.exact lines pieces_left) ∙ none_ended _ c.in_default.not-Some;
      read_end = did.session_step.0;
      steps = did.steps;
      has_gone_on = did.goes_on;
    } in
    let same = same_size g.L.ReplySink.start old.session new.session c.know_bounds.ensures.of_start c.know_bounds-2.ensures.of_start in
    let bounds = c.know_bounds-2.ensures.bounds in
    let few = bounds.few_pieces in
    record {
      turned = record {
        outstanding = parts.mid.outstanding;
        more = more.taken.more;
        idle = λ idle. ((c.requires.rested idle).0, idle_reads old new parts idle);
        rests = did.idle;
        pays = turn_pays (pieces old) old new parts (omega (arith, few, ap (λ (g : Geometry). piece_count g) same.0));
        bounds = bounds;
        geometry = same.0;
        slots_kept = same.1;
      };
    }
