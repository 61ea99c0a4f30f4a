-- Arguments in which `clap` finds nothing name one of the four commands: a command has to be given, and `help`, which `clap` adds to them, is
-- itself a finding.
use Rattle.std.proofs.Common.{arith}
use Rattle.std.proofs.lemmas.Grind.{common_steps}
use Rattle.std.proofs.Common.{◌≡◌, ◌&&◌, Bool, true, false, not, refl, subst, List, [], ◌∷◌, Option, Some, None, codes, is_some}
use Rattle.std.specs.List.{fold}
use Rattle.std.proofs.lemmas.Slice.Eq.{bytes_eq-Decides}
use Rattle.clap.specs.Words.{App, Kinds, Rule, Shape, Text, built}
use Rattle.clap.specs.Walk.{Held, Names, Outcome, Step, Waiting, Walk, after_flag, after_step, nothing_held, subcommand, walk, walk_from, walked, word_met}
use Rattle.clap.specs.Simple.{argument_words, entered, names_of}
use Rattle.clap.specs.Faults.{built_fault, defaults_fault, entered_fault, settle_fault, turn_fault, walk_fault, word_fault}
use Rattle.clap.specs.Kinds.{check_kinds, or_else}
use Rattle.clap.proofs.WalkLemmas.{walk_stopped}
use Rattle.arguments.specs.Arguments.{NamesCommand, command_of, findings, waffd}

-- neither of two steps finds anything, if both together don't
pub both_pass : (a b : Kinds) → or_else a b ≡ [] → (a ≡ []) × (b ≡ [])
both_pass [] b none = (refl, none)
both_pass (k ∷ ks) b none = cc

-- ---- a word

-- the walk over the words met no subcommand, or one that isn't `help`
abbrev IsOther : Option (Text × List Text) → Type 0
IsOther None = Unit {0}
IsOther (Some stop) = stop.0 ≡ codes "help" → ⊥

-- the same of a step of the walk
abbrev IsOtherStep : Step → Type 0
IsOtherStep (subcommand name) = name ≡ codes "help" → ⊥
IsOtherStep _ = Unit {0}

-- a word stops the walk only as the name of a subcommand
stops : (c : List Rule) (word : Text) (w : Walk) (h : Held) (step : Step) → IsOtherStep step → IsOther (after_step c word (record w { stopped = None }) h step).stopped
stops c word w h step other = grind (arith, common_steps)

-- a flag or a value is no subcommand
flag_step : (c : List Rule) (waiting : Waiting) (word : Text) (h : Held) (o : Outcome) → IsOtherStep (after_flag c waiting word h o).1
flag_step c waiting word h o = grind (arith, common_steps)

-- ---- the walk, where `help` is a subcommand

module _ (s : Shape) (names : Names) (has_help : s.disable_help_subcommand ≡ false) where
  -- a word that names `help` is a finding
  word_step : (w : Walk) (word : Text) → word_fault s names w.is_trailing w.waiting word w.held ≡ []
      → IsOtherStep (word_met s.rules names w.is_trailing w.waiting w.position word w.held).1
  word_step w word none = grind (arith, common_steps, flag_step)

  -- so a walk that finds nothing doesn't stop at it
  walks : (words : List Text) (w : Walk) (stop : Option (Text × List Text)) → IsOther stop → walk_fault s names (record w { stopped = stop }) words ≡ []
      → IsOther (fold (walked s.rules names) (record w { stopped = stop }) words).stopped
  unfolding walk_fault walked
  walks words w (Some p) other none = subst (λ (v : Walk). IsOther v.stopped) (walk_stopped s.rules names w p.0 p.1 words) other
  walks [] w None other none = tt
  walks (word ∷ rest) w None other none =
      let after = walked s.rules names (record w { stopped = None }) word in
      let turns = both_pass (turn_fault s names (record w { stopped = None }) word) (walk_fault s names after rest) none in
      let passed = both_pass (word_fault s names w.is_trailing w.waiting word w.held) _ turns.0 in
      walks rest after after.stopped (stops s.rules word w _ _ (word_step w word passed.0)) turns.1

-- ---- the commands

-- the last checks pass only with a command, where one has to be given
has_command : (has wants_help wants_argument : Bool) → check_kinds (not has && wants_help) (not has && true) wants_argument ≡ [] → has ≡ true
has_command has wants_help wants_argument none = grind (arith, common_steps)

-- the subcommand at which the walk stops
abbrev stop : App → List Text → Option (Text × List Text)
stop a words = (walk a.top.rules (names_of a) nothing_held words).stopped

-- there is one, and it isn't `help`
one_other : (a : App) (words : List Text) → a.top.disable_help_subcommand ≡ false → a.top.subcommand_required ≡ true → built_fault a nothing_held words ≡ []
    → IsOther (stop a words) × (is_some (entered a (stop a words)) ≡ true)
one_other a words has_help wants_command none =
    let end = (walk a.top.rules (names_of a) nothing_held words).held in
    let walking = both_pass (walk_fault a.top (names_of a) (walk_from nothing_held) words) _ none in
    let entering = both_pass (entered_fault a (stop a words)) _ walking.1 in
    let settling = both_pass (settle_fault a.top.rules a.top.args_override_self end) _ entering.1 in
    let checking = both_pass (defaults_fault _ a.top.rules) _ settling.1 in
    (walks a.top (names_of a) has_help words (walk_from nothing_held) None tt walking.0, has_command (is_some (entered a (stop a words))) _ _ (rw wants_command at checking.1))

-- so it is one of the four
is_command : (stop : Option (Text × List Text)) → IsOther stop → is_some (entered (built waffd) stop) ≡ true → NamesCommand (entered (built waffd) stop)
is_command stop other some = grind (arith, common_steps, bytes_eq-Decides)

-- arguments in which nothing is found name one of the four commands
pub names_command : (words : List Text) → findings words ≡ [] → NamesCommand (command_of words)
names_command words none =
    let found = one_other (built waffd) (argument_words waffd words) refl refl none in
    is_command (stop (built waffd) (argument_words waffd words)) found.0 found.1
