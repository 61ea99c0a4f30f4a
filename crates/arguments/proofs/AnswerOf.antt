-- What an error of `clap` means for the words.
use Rattle.std.proofs.Common.{arith}
use Rattle.std.proofs.lemmas.Grind.{common_steps}
use Rattle.std.proofs.Common.{◌≡◌, refl, ap, List, []}
use Rattle.std.specs.Prelude.{Err, Ok, Result}
use Rattle.clap.specs.Words.{HasKind, IsAmong, Text, kind_of, subcommand_of}
use Rattle.clap.specs.declared.error.Error.{Error}
use Rattle.clap.specs.declared.error.kind.ErrorKind.{ErrorKind}
use Rattle.clap.specs.declared.error.kind.ErrorKind.TheVariants as kind
use Rattle.arguments.specs.Arguments.{Asks, IsReason, IsRequested, findings, waffd, answer_by, answer_of, is_mistake}
use Rattle.arguments.specs.declared.command_line.Request.{Request}
use Rattle.arguments.specs.declared.command_line.Request.TheVariants.{Help}
use Rattle.arguments.specs.declared.command_line.ArgumentRefusal.TheVariants.{GeometryOutOfRange}
use Rattle.arguments.specs.declared.command_line.ArgumentRefusal.{ArgumentRefusal}
use Rattle.std.specs.Result.{IfErr, IfOk, MatchResult}

abbrev pub Holds : List Text → Result Request ArgumentRefusal → Type 0
Holds words r = MatchResult r (Asks words) (IsReason words)

among : (words : List Text) (error : Error) (k : ErrorKind) → kind_of error ≡ k → (k ≡ kind.OutOfMemory → ⊥) → HasKind (findings words) error → IsAmong (kind_of error) (findings words)
among words error k is other h = grind (arith, common_steps)

holds_by : (words : List Text) (error : Error) (k : ErrorKind) → kind_of error ≡ k → HasKind (findings words) error → Holds words (answer_by error k)
holds_by words error kind.OutOfMemory is h = tt
holds_by words error kind.DisplayHelp is h = (among words error kind.DisplayHelp is (λ e. cc) h, ap is_mistake is)
holds_by words error kind.DisplayVersion is h = (among words error kind.DisplayVersion is (λ e. cc) h, ap is_mistake is)
holds_by words error k is h = (among words error k is (λ e. cc) h, ap is_mistake is)

-- an error of a kind that is among the findings means a request that the words ask for, or a reason to refuse them
pub holds : (words : List Text) (error : Error) → HasKind (findings words) error → Holds words (answer_of error)
holds words error h = holds_by words error (kind_of error) refl h

-- so does what the options ask for, where `clap` finds nothing in the words
pub holds_requested : (words : List Text) (r : Result Request ArgumentRefusal) → findings words ≡ [] → IsRequested (subcommand_of waffd words) r → Holds words r
holds_requested words (Ok (Help text)) nothing is = absurd is
holds_requested words (Ok request) nothing is = (nothing, is)
holds_requested words (Err GeometryOutOfRange) nothing is = (nothing, is)
holds_requested words _ nothing is = absurd is

pub if_ok : (words : List Text) (r : Result Request ArgumentRefusal) → Holds words r → IfOk r (Asks words)
if_ok words (Ok request) h = h
if_ok words (Err refusal) h = tt

pub if_err : (words : List Text) (r : Result Request ArgumentRefusal) → Holds words r → IfErr r (IsReason words)
if_err words (Ok request) h = tt
if_err words (Err refusal) h = h
