-- Clear the format byte, lay out the rest, write the header: a crash leaves the old device, one that isn't formatted, or the new one.
use Rattle.std.proofs.Common.{◌∙◌, arith}
use Rattle.recovery.proofs.FormatByte.{shut_moments, laid_moments, opened_moments}
use Rattle.device_map.specs.Layout.{layout_of}
use Rattle.oplog.proofs.Beyond.{beyond_then, beyond_write}
use Rattle.recovery.proofs.formatting.format_on.Goals as goal

pub returns-in_err-clear_format_byte-clause-any_moment : goal.returns-in_err-clear_format_byte-clause-any_moment
returns-in_err-clear_format_byte-clause-any_moment g c = λ k. shut_moments c.args.g.now _ c.requires.long_enough _ (c.clear_format_byte.ensures.any_moment k)

pub returns-in_err-lay_out-clause-any_moment : goal.returns-in_err-lay_out-clause-any_moment
returns-in_err-lay_out-clause-any_moment g c = λ k.
    laid_moments c.args.g.now _ c.requires.long_enough _ _ (c.clear_format_byte.ensures.any_moment k) (c.in_ok-clear_format_byte.ensures.unformatted k) 64 _ (omega arith)
    (c.lay_out.ensures.any_moment k)

pub returns-clause-any_moment : goal.returns-clause-any_moment
returns-clause-any_moment g c = λ k.
    opened_moments c.args.g.now _ c.requires.long_enough _ _ (c.clear_format_byte.ensures.any_moment k) (c.in_ok-clear_format_byte.ensures.unformatted k) 64 _ (omega arith)
    (c.lay_out.ensures.any_moment k) _
    (rw (← c.lay_out.ensures.call.len ∙ c.clear_format_byte.ensures.call.len) (c.write_header.ensures.any_moment k))

pub returns-in_err-clear_format_byte-clause-beyond : goal.returns-in_err-clear_format_byte-clause-beyond
returns-in_err-clear_format_byte-clause-beyond g c = λ k. c.clear_format_byte.ensures.beyond k (layout_of c.args.g.now)

pub returns-in_err-lay_out-clause-beyond : goal.returns-in_err-lay_out-clause-beyond
returns-in_err-lay_out-clause-beyond g c = λ k.
    beyond_then (layout_of c.args.g.now) _ _ _ (c.clear_format_byte.ensures.beyond k (layout_of c.args.g.now))
    (beyond_write (layout_of c.args.g.now) 64 _ _ _ (omega arith) (c.lay_out.ensures.any_moment k))

pub returns-clause-beyond : goal.returns-clause-beyond
returns-clause-beyond g c = λ k.
    beyond_then (layout_of c.args.g.now) _ _ _
    (beyond_then (layout_of c.args.g.now) _ _ _ (c.clear_format_byte.ensures.beyond k (layout_of c.args.g.now))
    (beyond_write (layout_of c.args.g.now) 64 _ _ _ (omega arith) (c.lay_out.ensures.any_moment k)))
    (c.write_header.ensures.beyond k)
