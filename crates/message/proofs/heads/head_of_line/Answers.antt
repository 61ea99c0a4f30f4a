-- A line that is too long, or whose first word is no keyword, has no message; else its kind gives the head.
use Rattle.std.proofs.Common.{[], sym, subst}
use Rattle.protocol.specs.Words.{words}
use Rattle.message.specs.Heads.{IsHead}
use Rattle.protocol.proofs.FirstLines.{too_long}
use Rattle.message.proofs.Keywords.{with_kind, without_kind, keyword_alone, no_keyword}
use Rattle.message.proofs.heads.head_of_line.Goals as goal

pub returns-then-line-gt-LONGEST_LINE : goal.returns-then-line-gt-LONGEST_LINE
returns-then-line-gt-LONGEST_LINE c = sym (too_long c.args.line.now c.if-line-gt-LONGEST_LINE.true)

pub returns-in-Some-kind_named : goal.returns-in-Some-kind_named
returns-in-Some-kind_named c =
    let s = c.in-Some in
    let k = c.in-Some-kind_named in
    rw (c.unwrap_or.ensures, with_kind c.args.line.now s.word.now (words s.arguments.now) k.kind c.if-line-gt-LONGEST_LINE.false s.ensures k.ensures) c.head_of_kind.ensures

pub returns-in-None-kind_named : goal.returns-in-None-kind_named
returns-in-None-kind_named c =
    let s = c.in-Some in
    without_kind c.args.line.now s.word.now (words s.arguments.now) c.if-line-gt-LONGEST_LINE.false s.ensures c.in-None-kind_named.ensures

pub returns-in-Some-kind_named-2 : goal.returns-in-Some-kind_named-2
returns-in-Some-kind_named-2 c =
    let line = c.args.line.now in
    let k = c.in-Some-kind_named-2 in
    let alone = keyword_alone line c.in-None.ensures k.kind k.ensures in
    subst (IsHead c.head_of_word.result) (sym (with_kind line line [] k.kind c.if-line-gt-LONGEST_LINE.false alone k.ensures)) c.head_of_word.ensures

pub returns-in-None-kind_named-2 : goal.returns-in-None-kind_named-2
returns-in-None-kind_named-2 c = no_keyword c.args.line.now c.in-None.ensures c.if-line-gt-LONGEST_LINE.false c.in-None-kind_named-2.ensures
