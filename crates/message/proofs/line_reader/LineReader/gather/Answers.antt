-- Each read keeps the unread bytes. While more is wanted, no whole line is held and the input goes on.
use Rattle.std.proofs.Common.{◌≡◌, ◌-◌, ◌<◌, ◌⊎◌, ℕ, Bool, true, false, inl, inr, cond, sym, ap, ◌∙◌, subst, arith}
use Rattle.std.proofs.lemmas.Bool.{false≢true}
use Rattle.std.proofs.lemmas.Result.{err_from_is_err_and}
use Rattle.std.proofs.KnownBytes.{Keeps-trans}
use Rattle.message.specs.Reader.{HoldsLine, has_ended}
use Rattle.message.proofs.ReaderLemmas.{Contains-not_within, LosesLineStart-kept, LosesLineStart-trans}
use Rattle.message.proofs.line_reader.LineReader.gather.Goals as goal

pub loop-self-preserved : goal.loop-self-preserved
loop-self-preserved g c =
    let wants = c.wants_more.ensures in
    record {
      line = c.refill.ensures.line;
      not_failed = c.in_ok-refill.ensures.failed;
      bytes = Keeps-trans _ _ _ c.loop-self.invariant.bytes c.in_ok-refill.ensures.bytes;
      at_once = λ held. absurd (Contains-not_within _ (wants.within_line c.loop-self-test.true) (subst (λ r. HoldsLine r) (sym (c.loop-self.invariant.at_once held)) held));
      no_read_after_end = λ ended.
          absurd (false≢true (sym (wants.«open» c.loop-self-test.true) ∙ ap (λ r. has_ended r) (c.loop-self.invariant.no_read_after_end ended) ∙ ended));
      at_end = λ known. c.refill.ensures.at_end;
    }

-- a bound of two reads
smaller : (was now : Bool) (a b : ℕ) → was ≡ false → a < 1102 → (now ≡ true) ⊎ (a < b) → cond now 0 (1102 - b) < cond was 0 (1102 - a)
smaller true now a b is low more = absurd (false≢true (sym is))
smaller false true a b is low more = omega (arith, low)
smaller false false a b is low (inl ended) = absurd (false≢true ended)
smaller false false a b is low (inr more) = omega (arith, low, more)

pub loop-self-smaller : goal.loop-self-smaller
loop-self-smaller g c =
    smaller _ _ _ _ (c.wants_more.ensures.«open» c.loop-self-test.true) (omega (arith, c.wants_more.ensures.room c.loop-self-test.true)) c.in_ok-refill.ensures.more

pub returns-in_err-refill-clause-lost : goal.returns-in_err-refill-clause-lost
returns-in_err-refill-clause-lost g c =
    rw (err_from_is_err_and c.from_residual.result c.from_residual.ensures.1).1
    (LosesLineStart-trans _ _ _ (LosesLineStart-kept _ _ c.loop-self.invariant.bytes) c.in_err-refill.ensures.lost)
