-- Words (the arguments) that are refused ask for nothing, and a command has one name.
use Rattle.std.proofs.Common.{arith, ◌≡◌, ◌∙◌, sym, subst, inl, inr, List, [], ◌∷◌, false, true, Option, codes}
use Rattle.std.proofs.lemmas.Grind.{common_steps}
use Rattle.std.specs.List.{list_all}
use Rattle.std.proofs.lemmas.Bool.{and_parts}
use Rattle.std.proofs.lemmas.Option.{same_Some}
use Rattle.std.proofs.lemmas.Slice.Eq.{bytes_eq-Decides}
use Rattle.affinity.specs.Limits.{AreInRange}
use Rattle.clap.specs.Words.{IsAmong, Kinds, Row, Text, kind_of}
use Rattle.clap.specs.declared.error.Error.{Error}
use Rattle.clap.specs.declared.error.kind.ErrorKind.{ErrorKind}
use Rattle.affinity.proofs.GeometryLemmas.{are_in_range}
use Rattle.arguments.specs.Arguments.{Asks, AreRefused, IsNamed, IsReason, findings, is_mistake}
use Rattle.arguments.specs.declared.command_line.Request.{Request}
use Rattle.arguments.specs.declared.command_line.Request.TheVariants.{Help, Plain, Format, Show, Serve}
use Rattle.arguments.specs.declared.command_line.ArgumentRefusal.TheVariants.{Words as by_words}

-- ---- words that are refused

mistake_among : (kinds : Kinds) (k : ErrorKind) → list_all is_mistake kinds ≡ true → IsAmong k kinds → is_mistake k ≡ true
mistake_among [] k all among = absurd among
mistake_among (x ∷ xs) k all among = grind (arith, common_steps, mistake_among xs k (and_parts (is_mistake x) (list_all is_mistake xs) all).1)

pub ask_for_nothing : (words : List Text) (request : Request) → Asks words request → AreRefused words → ⊥
ask_for_nothing words (Plain g) asks (inr out_of_range) = out_of_range.1.2 (subst AreInRange asks.1.1 (are_in_range g))
ask_for_nothing words (Format path g) asks (inr out_of_range) = out_of_range.1.2 (subst AreInRange asks.1.2 (are_in_range g))
ask_for_nothing words (Show path) asks (inr out_of_range) = out_of_range.1.0 asks.1.0
ask_for_nothing words (Serve path s) asks (inr out_of_range) = out_of_range.1.1 asks.1.0
ask_for_nothing words (Help text) asks (inl wrong) = grind (arith, common_steps, mistake_among)
ask_for_nothing words (Help text) asks (inr out_of_range) = subst (IsAmong (kind_of text)) out_of_range.0 asks.0
ask_for_nothing words _ asks (inl wrong) = wrong.0 asks.0

-- ---- words that name a command

-- a command has one name
pub two_names : (name other : Text) (command : Option (Text × List Row)) → IsNamed name command → IsNamed other command → name ≡ other
two_names name other command named called = same_Some _ _ (sym named ∙ called)

-- `plain` and `serve` differ, though they are of one length
pub plain_is_not_serve : codes "plain" ≡ codes "serve" → ⊥
plain_is_not_serve same = let equal : false ≡ true = (bytes_eq-Decides (codes "plain") (codes "serve")).1 same in cc

-- words in which `clap` finds nothing are not refused for a mistake
pub no_mistake : (words : List Text) (error : Error) → findings words ≡ [] → IsReason words (by_words error) → ⊥
no_mistake words error nothing reason = subst (IsAmong (kind_of error)) nothing reason.0
