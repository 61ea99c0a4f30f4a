-- Digits have no space among them, so the first space ends the first word.
use Rattle.std.proofs.lemmas.Grind.{common_steps}
use Rattle.std.proofs.Common.{◌≡◌, ◌+◌, ◌<◌, length, take, add-one, arith, ap, sym, ◌∙◌}
use Rattle.std.specs.Char.{is_ascii_digit}
use Rattle.std.specs.Str.Parse.{digits_value}
use Rattle.std.proofs.lemmas.Bool.{true≢false, ne_eqb}
use Rattle.protocol.specs.Words.{words}
use Rattle.message.proofs.Words.{goes_on, words_split, words_whole}
use Rattle.message.proofs.GrammarByKind.{first_number_none, first_number_some}
use Rattle.message.proofs.Numbers.{no_number, digit_at, digits_no_space, not_a_space, too_large}
use Rattle.message.proofs.parsing.longer_number_before_space.Goals as goal

pub returns-in_err-value : goal.returns-in_err-value
returns-in_err-value c =
    let line = c.args.line.now in
    let much = c.in_err-value.ensures in
    let first = goes_on line much.last much.within (digits_no_space (take much.last line) much.digits) (not_a_space _ much.one_more) in
    let same : digits_value 10 (take (much.last + 1) line) ≡ digits_value 10 (take (much.last + 1) first.word) = rw add-one (ap (digits_value 10) (sym first.same)) in
    rw c.from_residual.ensures (first_number_none (words line) first.word first.behind first.parts (too_large first.word much.last _ same much.large))

pub returns-then-size-line : goal.returns-then-size-line
returns-then-size-line c = grind (arith, common_steps, words_whole, digits_no_space)

pub returns-then-line-size-ne32 : goal.returns-then-line-size-ne32
returns-then-line-size-ne32 c =
    let line = c.args.line.now in
    let size = c.in_ok-value.size in
    let front = c.in_ok-value.ensures in
    let within = front.within in
    let less : size < length line = omega arith in
    let first = goes_on line size less (digits_no_space (take size line) front.digits) (ne_eqb _ 32 c.if-line-size-ne32.true) in
    first_number_none (words line) first.word first.behind first.parts
    (no_number first.word (λ n. true≢false (sym (digit_at first.word size n.digits first.long) ∙ ap is_ascii_digit first.here ∙ front.no_more less)))

pub returns-in_err-number : goal.returns-in_err-number
returns-in_err-number c = grind (arith, common_steps, words_split, digits_no_space, first_number_none)

pub returns : goal.returns
returns c = grind (arith, common_steps, words_split, digits_no_space, first_number_some)
