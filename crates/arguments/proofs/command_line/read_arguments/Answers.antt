-- If clap takes the words, their options give the request; else its error has the kind of a finding in them.
use Rattle.std.proofs.Common.{◌≡◌, map, string_bytes, subst, sym, true, refl, List, []}
use Rattle.clap.specs.Words.{App, HasKind, HasMatchesOf, Text, fault_of, is_simple_and_free, subcommand_rows_of}
use Rattle.clap.specs.declared.parser.matches.ArgMatches.{ArgMatches}
use Rattle.arguments.specs.Arguments.{HasDevice, IsRequested, NamesCommand, command_of, findings, waffd}
use Rattle.arguments.proofs.HasDevice.{device_or_plain}
use Rattle.arguments.proofs.NamesCommand.{names_command}
use Rattle.arguments.proofs.AnswerOf.{Holds, holds, holds_requested, if_err, if_ok}
use Rattle.arguments.proofs.command_line.read_arguments.Goals as goal

-- clap takes the words: it finds nothing in them, and its matches are theirs
nothing : (a : App) (words : List Text) → a ≡ waffd → (is_simple_and_free a ≡ true → fault_of a words ≡ []) → findings words ≡ []
nothing a words is none = subst (λ b. is_simple_and_free b ≡ true → fault_of b words ≡ []) is none refl

same : (a : App) (words : List Text) (matches : ArgMatches) → a ≡ waffd → HasMatchesOf a words matches → subcommand_rows_of matches ≡ command_of words
same a words matches is given = (subst (λ b. HasMatchesOf b words matches) is given refl).1

pub requested-requires-clause-named : goal.requested-requires-clause-named
requested-requires-clause-named c =
    let words = map string_bytes c.args.words.now in
    let named = names_command words (nothing _ words c.in_ok-commands.ensures c.in-Ok.ensures.kinds) in
    subst NamesCommand (sym (same _ words _ c.in_ok-commands.ensures c.in-Ok.ensures.matches)) named

pub requested-requires-clause-device : goal.requested-requires-clause-device
requested-requires-clause-device c =
    let words = map string_bytes c.args.words.now in
    let device = device_or_plain words (nothing _ words c.in_ok-commands.ensures c.in-Ok.ensures.kinds) in
    subst HasDevice (sym (same _ words _ c.in_ok-commands.ensures c.in-Ok.ensures.matches)) device

-- their options give the request
taken : (c : goal.Joined-matches) → Holds (map string_bytes c.args.words.now) c.requested.result
taken c =
    let words = map string_bytes c.args.words.now in
    let given = same _ words _ c.in_ok-commands.ensures c.in-Ok.ensures.matches in
    holds_requested words c.requested.result (nothing _ words c.in_ok-commands.ensures c.in-Ok.ensures.kinds)
    (subst (λ s. IsRequested s c.requested.result) given c.requested.ensures)

-- clap gives an error for the words
outcome_of : (c : goal.After-outcome_of) → Holds (map string_bytes c.args.words.now) c.outcome_of.result
outcome_of c =
    let words = map string_bytes c.args.words.now in
    let P : App → Type 0 = λ a. is_simple_and_free a ≡ true → HasKind (fault_of a words) c.in-Err.error in
    let kinds : HasKind (findings words) c.in-Err.error = subst P c.in_ok-commands.ensures c.in-Err.ensures.kinds refl in
    rw c.outcome_of.ensures (holds words c.in-Err.error kinds)

pub returns-in-Ok-clause-ok : goal.returns-in-Ok-clause-ok
returns-in-Ok-clause-ok c = if_ok (map string_bytes c.args.words.now) c.requested.result (taken c)

pub returns-in-Ok-clause-err : goal.returns-in-Ok-clause-err
returns-in-Ok-clause-err c = if_err (map string_bytes c.args.words.now) c.requested.result (taken c)

pub returns-in-Err-clause-ok : goal.returns-in-Err-clause-ok
returns-in-Err-clause-ok c = if_ok (map string_bytes c.args.words.now) c.outcome_of.result (outcome_of c)

pub returns-in-Err-clause-err : goal.returns-in-Err-clause-err
returns-in-Err-clause-err c = if_err (map string_bytes c.args.words.now) c.outcome_of.result (outcome_of c)
