-- Reading on keeps the known bytes as they were, so what is found is the line that they begin with.
use Rattle.std.proofs.Common.{arith, ◌≡◌, ◌∙◌, ℕ, Bool, List, [], Option, Some, None, IfSome, Result, Ok, Err, OnErr, is_err, subst, sym, ap}
use Rattle.std.proofs.lemmas.Grind.{common_steps}
use Rattle.std.proofs.lemmas.List.Edits.{between_none}
use Rattle.std.proofs.lemmas.Result.{err_from_is_err_and}
use Rattle.std.proofs.KnownBytes.{prepend_known-nil}
use Rattle.std.specs.List.{slice_range}
use Rattle.std.specs.Io.KnownBytes.{Keeps, prepend_known}
use Rattle.protocol.specs.FirstLine.{LosesLineStart}
use Rattle.message.specs.declared.line_reader.LineReader.{LineReader}
use Rattle.message.specs.declared.line_reader.Found.{Found}
use Rattle.message.specs.declared.line_reader.Found.TheVariants.{Line, TooLong}
use Rattle.message.specs.declared.line_reader.ReadFault.{ReadFault}
use Rattle.message.specs.Reader.{Finds, Closes, unread, still_to_come, buffered_bytes}
use Rattle.message.proofs.line_reader.LineReader.next_line.Goals as goal

-- what is said of the bytes that a reader had is said of what it kept of them, if nothing is claimed of bytes that are not known
of_what_was : (P : Option (List ℕ) → Type 0) → P None → (a b : Option (List ℕ)) → Keeps a b → P b → P a
of_what_was P unknown None b kept h = unknown
of_what_was P unknown (Some xs) None kept h = absurd kept
of_what_was P unknown (Some xs) (Some ys) kept h = subst (λ (zs : List ℕ). P (Some zs)) kept h

of_unknown : (r : Result Found ReadFault) (line : List ℕ) (left : Option (List ℕ)) → Finds r None line left
of_unknown (Ok Line) line left = tt
of_unknown _ line left = tt

of_kept : (a b : Option (List ℕ)) (r : Result Found ReadFault) (line : List ℕ) (left : Option (List ℕ)) → Keeps a b → Finds r b line left → Finds r a line left
of_kept a b r line left = of_what_was (λ bs. Finds r bs line left) (of_unknown r line left) a b

closed_unknown : (r : Result Found ReadFault) (drained : Bool) → Closes r None drained
closed_unknown (Ok Line) drained = tt
closed_unknown (Ok TooLong) drained = tt
closed_unknown _ drained = tt

closed_kept : (a b : Option (List ℕ)) (r : Result Found ReadFault) (drained : Bool) → Keeps a b → Closes r b drained → Closes r a drained
closed_kept a b r drained = of_what_was (λ bs. Closes r bs drained) (closed_unknown r drained) a b

-- after a fault nothing is held
of_failed : {R : Type 0} (remaining : R → Option (List ℕ)) (r : LineReader R) (res : Result Found ReadFault) → r.failed ≡ is_err res
    → OnErr res (unread remaining r ≡ remaining r.reader)
of_failed remaining r (Ok found) failed = tt
of_failed remaining r (Err fault) failed =
    let b = r.buffered in
    let kept = r.nothing_kept failed in
    let empty : buffered_bytes b ≡ [] = ap (λ j. slice_range b.buffer.items b.start j) (sym kept.0) ∙ between_none b.buffer.items b.start in
    (λ i. prepend_known (empty i) (still_to_come (kept.1 i) (remaining r.reader))) ∙ prepend_known-nil (remaining r.reader)

pub returns-in_err-gather-clause-found : goal.returns-in_err-gather-clause-found
returns-in_err-gather-clause-found g c =
    let r = c.args.self.now in
    let left = unread g.R.Read.remaining c.gather.new.self in
    rw (err_from_is_err_and c.from_residual.result c.from_residual.ensures.1).1
    (subst (λ (held : List ℕ). IfSome (prepend_known held (still_to_come r.ended (g.R.Read.remaining r.reader))) (λ bs. LosesLineStart bs left))
    c.forget_line.ensures.bytes c.in_err-gather.ensures.lost)

pub returns-in_err-gather-clause-lost : goal.returns-in_err-gather-clause-lost
returns-in_err-gather-clause-lost g c =
    let same = (err_from_is_err_and c.from_residual.result c.from_residual.ensures.1).1 in
    of_failed g.R.Read.remaining c.gather.new.self c.from_residual.result (c.in_err-gather.ensures.failed ∙ sym (ap is_err same))

pub returns-clause-lost : goal.returns-clause-lost
returns-clause-lost g c = of_failed g.R.Read.remaining c.give.new.self c.give.result c.give.ensures.failed

pub returns-clause-closes : goal.returns-clause-closes
returns-clause-closes g c =
    let r = c.args.self.now in
    let left = unread g.R.Read.remaining c.gather.new.self in
    closed_kept _ left c.give.result _ (subst (λ (held : List ℕ). Keeps (prepend_known held (still_to_come r.ended (g.R.Read.remaining r.reader))) left)
    c.forget_line.ensures.bytes c.in_ok-gather.ensures.bytes) c.give.ensures.closes

pub returns-clause-found : goal.returns-clause-found
returns-clause-found g c = grind (arith, common_steps, of_kept)
