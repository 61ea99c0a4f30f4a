-- A word that passes the test for a keyword names its kind, and one that fails each test names none.
use Rattle.std.proofs.Common.{◌≡◌, false, sym, ◌∙◌}
use Rattle.std.specs.Str.{bytes_eq}
use Rattle.affinity.specs.declared.kinds.Kind.TheVariants.{MakeVol, DropVol, Create, Delete, Seal, Unseal, Write, Punch, Read, List as ListFiles, Usage, Summary, SetLabel, Label}
use Rattle.protocol.specs.Grammar.{keyword}
use Rattle.message.proofs.Keywords.{fails_all, passes}
use Rattle.message.proofs.parsing.kind_named.Goals as goal

pub returns-then-is_keyword : goal.returns-then-is_keyword
returns-then-is_keyword c = passes c.args.word.now Write (sym c.is_keyword.ensures ∙ c.if-is_keyword.true)

pub returns-then-is_keyword-2 : goal.returns-then-is_keyword-2
returns-then-is_keyword-2 c = passes c.args.word.now Read (sym c.is_keyword-else-is_keyword.ensures ∙ c.if-is_keyword-2.true)

pub returns-then-is_keyword-3 : goal.returns-then-is_keyword-3
returns-then-is_keyword-3 c = passes c.args.word.now Punch (sym c.is_keyword-else-is_keyword-2.ensures ∙ c.if-is_keyword-3.true)

pub returns-then-is_keyword-4 : goal.returns-then-is_keyword-4
returns-then-is_keyword-4 c = passes c.args.word.now Create (sym c.is_keyword-else-is_keyword-3.ensures ∙ c.if-is_keyword-4.true)

pub returns-then-is_keyword-5 : goal.returns-then-is_keyword-5
returns-then-is_keyword-5 c = passes c.args.word.now Delete (sym c.is_keyword-else-is_keyword-4.ensures ∙ c.if-is_keyword-5.true)

pub returns-then-is_keyword-6 : goal.returns-then-is_keyword-6
returns-then-is_keyword-6 c = passes c.args.word.now ListFiles (sym c.is_keyword-else-is_keyword-5.ensures ∙ c.if-is_keyword-6.true)

pub returns-then-is_keyword-7 : goal.returns-then-is_keyword-7
returns-then-is_keyword-7 c = passes c.args.word.now Usage (sym c.is_keyword-else-is_keyword-6.ensures ∙ c.if-is_keyword-7.true)

pub returns-then-is_keyword-8 : goal.returns-then-is_keyword-8
returns-then-is_keyword-8 c = passes c.args.word.now Label (sym c.is_keyword-else-is_keyword-7.ensures ∙ c.if-is_keyword-8.true)

pub returns-then-is_keyword-9 : goal.returns-then-is_keyword-9
returns-then-is_keyword-9 c = passes c.args.word.now Seal (sym c.is_keyword-else-is_keyword-8.ensures ∙ c.if-is_keyword-9.true)

pub returns-then-is_keyword-10 : goal.returns-then-is_keyword-10
returns-then-is_keyword-10 c = passes c.args.word.now Unseal (sym c.is_keyword-else-is_keyword-9.ensures ∙ c.if-is_keyword-10.true)

pub returns-then-is_keyword-11 : goal.returns-then-is_keyword-11
returns-then-is_keyword-11 c = passes c.args.word.now MakeVol (sym c.is_keyword-else-is_keyword-10.ensures ∙ c.if-is_keyword-11.true)

pub returns-then-is_keyword-12 : goal.returns-then-is_keyword-12
returns-then-is_keyword-12 c = passes c.args.word.now DropVol (sym c.is_keyword-else-is_keyword-11.ensures ∙ c.if-is_keyword-12.true)

pub returns-then-is_keyword-13 : goal.returns-then-is_keyword-13
returns-then-is_keyword-13 c = passes c.args.word.now Summary (sym c.is_keyword-else-is_keyword-12.ensures ∙ c.if-is_keyword-13.true)

pub returns-then-is_keyword-14 : goal.returns-then-is_keyword-14
returns-then-is_keyword-14 c = passes c.args.word.now SetLabel (sym c.is_keyword-else-is_keyword-13.ensures ∙ c.if-is_keyword-14.true)

pub returns-else-is_keyword-14 : goal.returns-else-is_keyword-14
returns-else-is_keyword-14 c = fails_all c.args.word.now (λ k. elim k as (λ k. bytes_eq c.args.word.now (keyword k) ≡ false) [
  | Write ↦ sym c.is_keyword.ensures ∙ c.if-is_keyword.false
  | Read ↦ sym c.is_keyword-else-is_keyword.ensures ∙ c.if-is_keyword-2.false
  | Punch ↦ sym c.is_keyword-else-is_keyword-2.ensures ∙ c.if-is_keyword-3.false
  | Create ↦ sym c.is_keyword-else-is_keyword-3.ensures ∙ c.if-is_keyword-4.false
  | Delete ↦ sym c.is_keyword-else-is_keyword-4.ensures ∙ c.if-is_keyword-5.false
  | ListFiles ↦ sym c.is_keyword-else-is_keyword-5.ensures ∙ c.if-is_keyword-6.false
  | Usage ↦ sym c.is_keyword-else-is_keyword-6.ensures ∙ c.if-is_keyword-7.false
  | Label ↦ sym c.is_keyword-else-is_keyword-7.ensures ∙ c.if-is_keyword-8.false
  | Seal ↦ sym c.is_keyword-else-is_keyword-8.ensures ∙ c.if-is_keyword-9.false
  | Unseal ↦ sym c.is_keyword-else-is_keyword-9.ensures ∙ c.if-is_keyword-10.false
  | MakeVol ↦ sym c.is_keyword-else-is_keyword-10.ensures ∙ c.if-is_keyword-11.false
  | DropVol ↦ sym c.is_keyword-else-is_keyword-11.ensures ∙ c.if-is_keyword-12.false
  | Summary ↦ sym c.is_keyword-else-is_keyword-12.ensures ∙ c.if-is_keyword-13.false
  | SetLabel ↦ sym c.is_keyword-else-is_keyword-13.ensures ∙ c.if-is_keyword-14.false
])
