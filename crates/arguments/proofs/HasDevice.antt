-- Arguments in which `clap` finds nothing give `format`, `show` and `serve` a device: it is required of them, and no option of theirs is
-- given without a value.
use Rattle.std.proofs.Common.{arith}
use Rattle.std.proofs.lemmas.Grind.{common_steps}
use Rattle.std.proofs.Common.{◌≡◌, ◌<◌, ◌++◌, ◌&&◌, ◌||◌, ℕ, Bool, true, false, not, refl, inl, inr, length, List, [], ◌∷◌, Option, Some, None, codes, is_some, find, zero, suc}
use Rattle.std.specs.Prelude.{drop, encode_utf8, if◌then◌else◌, nat_lt, option_map, slice_get}
use Rattle.std.specs.Option.{option_map_or}
use Rattle.std.specs.List.{AllByRecursion, fold, list_all, list_any}
use Rattle.std.proofs.lemmas.Bool.{and_parts}
use Rattle.std.proofs.lemmas.Slice.Eq.{bytes_eq-Decides}
use Rattle.std.specs.Str.{bytes_eq, chars}
use Rattle.clap.specs.Lexer.{long_of, short_of}
use Rattle.clap.specs.Words.{Kinds, Row, Rule, Shape, Text, built, first_of}
use Rattle.clap.specs.Walk.{Held, Names, Outcome, Step, Waiting, Walk, action_of, after_flag, after_step, answers_to, arg_by_id, arg_by_index, arg_by_long, arg_by_short, at_row, attached_value, bundle, bundle_met, bundle_step, default_rows, done, finished, flag_met, has_long, has_row, has_short, idle, is_pending, long_met, long_or_other, more_values, most_values, next, nothing_held, option, option_met, option_word, plain, plain_word, positional, reacted, reading_by, refused, rows_after, settled, settled_rows, short_met, short_or_plain, subcommand, subcommand_met, subcommand_or_other, takes_several, takes_values, to_positional, trailing, used, used_as, used_by_id, value, values_or_missing, waits, walk, walk_from, walked, with_default, with_values, without, word_met}
use Rattle.clap.specs.Facts.{unwrap_or_range}
use Rattle.clap.specs.Takes.{is_given}
use Rattle.clap.specs.Simple.{argument_words, entered, label_of, names_of, rows_at}
use Rattle.clap.specs.Faults.{bundle_fault, bundle_step_fault, defaults_fault, entered_fault, flag_word_fault, flags_fault, level_fault, long_fault, option_fault, other_fault, positional_fault, react_fault, settle_fault, short_fault, step_fault, stray_fault, turn_fault, use_fault, walk_fault, word_fault}
use Rattle.clap.specs.Kinds.{check_kinds, or_else, range_kinds}
use Rattle.clap.specs.declared.builder.action.ArgAction.{ArgAction}
use Rattle.clap.specs.declared.builder.action.ArgAction.TheVariants.{Append, Count, Help, Set, SetFalse, SetTrue}
use Rattle.clap.specs.declared.builder.range.ValueRange.{ValueRange}
use Rattle.clap.specs.declared.error.kind.ErrorKind.TheVariants.{InvalidValue, TooManyValues}
use Rattle.clap.specs.declared.parser.matches.ValueSource.{ValueSource}
use Rattle.clap.specs.declared.parser.matches.ValueSource.TheVariants.{CommandLine, DefaultValue}
use Rattle.clap.specs.declared.builder.value_parser.Reading.{Reading}
use Rattle.arguments.specs.Arguments.{HasDevice, IsNamed, command_of, findings, given_to, waffd}
use Rattle.arguments.proofs.NamesCommand.{both_pass, names_command}

-- ---- lists

all_of_both : {X : Type 0} (P : X → Type 0) (xs ys : List X) → AllByRecursion P xs → AllByRecursion P ys → AllByRecursion P (xs ++ ys)
all_of_both P [] ys all more = more
all_of_both P (x ∷ xs) ys all more = (all.0, all_of_both P xs ys all.1 more)

of_found : {X : Type 0} (P : X → Type 0) (p : X → Bool) (xs : List X) (x : X) → AllByRecursion P xs → find p xs ≡ Some x → P x
of_found P p [] x all found = absurd (cc)
of_found P p (y ∷ xs) x all found = grind (arith, common_steps, of_found P p xs x all.1)

-- ---- rows with values

abbrev HasValue : Row → Type 0
HasValue r = 0 < length r.values

abbrev HaveValues : List Row → Type 0
HaveValues rows = AllByRecursion HasValue rows

at_row_have : (id : Text) (change : Row → List Row) (missing rows : List Row) → ((r : Row) → HaveValues (change r)) → HaveValues missing → HaveValues rows
    → HaveValues (at_row id change missing rows)
at_row_have id change missing [] changed new all = new
at_row_have id change missing (r ∷ rows) changed new all = by (bytes_eq r.id id) (at_row_have id change missing rows changed new all.1)
  where
    by : (b : Bool) → HaveValues (at_row id change missing rows) → HaveValues (if b then change r ++ rows else r ∷ at_row id change missing rows)
    by true rest = all_of_both HasValue (change r) rows (changed r) all.1
    by false rest = (all.0, rest)

with_values_have : (id : Text) (how : Reading) (s : ValueSource) (v : Text) (vs : List Text) (rows : List Row) → HaveValues rows → HaveValues (with_values id how s (v ∷ vs) rows)
with_values_have id how s v vs rows all = at_row_have id (more_values s (v ∷ vs)) _ rows (λ r. (longer r.values, tt)) (omega arith, tt) all
  where
    longer : (xs : List Text) → 0 < length (xs ++ v ∷ vs)
    longer [] = omega arith
    longer (x ∷ xs) = omega arith

without_have : (id : Text) (rows : List Row) → HaveValues rows → HaveValues (without id rows)
without_have id rows all = at_row_have id (λ _. []) [] rows (λ r. tt) tt all

used_as_have : (x : ArgAction) (id : Text) (how : Reading) (v : Text) (vs : List Text) (rows : List Row) → HaveValues rows → HaveValues (used_as x id how (v ∷ vs) rows)
used_as_have Set id how v vs rows all = with_values_have id how CommandLine v vs (without id rows) (without_have id rows all)
used_as_have SetTrue id how v vs rows all = with_values_have id how CommandLine v vs (without id rows) (without_have id rows all)
used_as_have SetFalse id how v vs rows all = with_values_have id how CommandLine v vs (without id rows) (without_have id rows all)
used_as_have Append id how v vs rows all = with_values_have id how CommandLine v vs rows all
used_as_have Count id how v vs rows all = with_values_have id how CommandLine v vs (without id rows) (without_have id rows all)
used_as_have _ id how v vs rows all = all

-- Where nothing is found in a use of the argument, its row has a value.
abbrev GivesValue : Rule → Type 0
GivesValue a = (again : Bool) (values : List Text) (rows : List Row) → use_fault again a values rows ≡ [] → HaveValues rows → HaveValues (used a values rows)

-- whether a use of an argument has a value at least
abbrev wants_value : Option ValueRange → Bool
wants_value range = option_map_or (λ r. nat_lt 0 r.start_inclusive) range false

none_given : (range : Option ValueRange) → wants_value range ≡ true → range_kinds (unwrap_or_range range).start_inclusive (unwrap_or_range range).end_inclusive 0 ≡ [] → ⊥
none_given None wants none = cc
none_given (Some r) wants none = let bad : InvalidValue ∷ [] ≡ [] = rw wants at none in cc

with_value : (a : Rule) → wants_value a.range ≡ true → GivesValue a
with_value a wants again [] rows passes all = absurd (none_given a.range wants (both_pass (range_kinds (unwrap_or_range a.range).start_inclusive (most_values a) 0) _ passes).0)
with_value a wants again (v ∷ vs) rows passes all = used_as_have (action_of a) a.id (reading_by a) v vs rows all

-- the flag for help makes no row
abbrev is_help : ArgAction → Bool
is_help Help = true
is_help _ = false

help_have : (x : ArgAction) (id : Text) (how : Reading) (values : List Text) (rows : List Row) → is_help x ≡ true → HaveValues rows → HaveValues (used_as x id how values rows)
help_have Help id how values rows help all = all
help_have _ id how values rows help all = cc

abbrev has_value_or_helps : Rule → Bool
has_value_or_helps a = wants_value a.range || is_help (action_of a)

gives : (a : Rule) → has_value_or_helps a ≡ true → GivesValue a
gives a is = by (wants_value a.range) refl
  where
    by : (b : Bool) → wants_value a.range ≡ b → GivesValue a
    by true wants = with_value a wants
    by false other = λ again values rows passes all. help_have (action_of a) a.id (reading_by a) (values_or_missing a values) rows (rw other at is) all

all_give : (rules : List Rule) → list_all has_value_or_helps rules ≡ true → AllByRecursion GivesValue rules
all_give [] all = tt
all_give (a ∷ rules) all =
    let both = and_parts (has_value_or_helps a) (list_all has_value_or_helps rules) all in
    (gives a both.0, all_give rules both.1)

-- ---- the walk

module _ (c : List Rule) (give : AllByRecursion GivesValue c) (again : Bool) where
  used_by_id_have : (o : Option Rule) (values : List Text) (rows : List Row) → ((a : Rule) → o ≡ Some a → GivesValue a)
      → option_map_or (λ a. use_fault again a values rows) o [] ≡ [] → HaveValues rows → HaveValues (used_by_id o values rows)
  used_by_id_have None values rows gives passes all = all
  used_by_id_have (Some a) values rows gives passes all = gives a refl again values rows passes all

  settled_rows_have : (o : Option (Text × List Text)) (rows : List Row)
      → option_map_or (λ p. option_map_or (λ a. use_fault again a p.1 rows) (arg_by_id c p.0) []) o [] ≡ [] → HaveValues rows → HaveValues (settled_rows c o rows)
  settled_rows_have None rows passes all = all
  settled_rows_have (Some p) rows passes all =
      used_by_id_have (arg_by_id c p.0) p.1 rows (λ a found. of_found GivesValue (λ b. bytes_eq b.id p.0) c a give found) passes all

  settled_have : (h : Held) → settle_fault c again h ≡ [] → HaveValues h.rows → HaveValues (settled c h).rows
  settled_have h passes all = settled_rows_have h.pending h.rows passes all

  reacted_have : (a : Rule) → GivesValue a → (values : List Text) (h : Held) → react_fault c again a values h ≡ [] → HaveValues h.rows → HaveValues (reacted c a values h).rows
  reacted_have a gives values h passes all =
      let both = both_pass (settle_fault c again h) _ passes in
      gives again values (settled c h).rows both.1 (settled_have h both.0 all)

  option_have : (a : Rule) → GivesValue a → (v : Option Text) (h : Held) → option_fault c again a v h ≡ [] → HaveValues h.rows → HaveValues (option_met c a v h).0.rows
  option_have a gives (Some v) h passes all = reacted_have a gives (v ∷ []) h passes all
  option_have a gives None h passes all = settled_have h passes all

  long_have : (o : Option Rule) → ((a : Rule) → o ≡ Some a → GivesValue a) → (v : Option Text) (h : Held) → long_fault c again o v h ≡ [] → HaveValues h.rows
      → HaveValues (long_met c o v h).0.rows
  long_have None gives v h passes all = all
  long_have (Some a) gives v h passes all = by (takes_values a) v passes
    where
      by : (t : Bool) (v : Option Text)
          → (if t then option_fault c again a v h else (if is_some v then TooManyValues ∷ [] else react_fault c again a [] h)) ≡ []
          → HaveValues (if t then option_met c a v h else flag_met c a v h).0.rows
      by true v passes = option_have a (gives a refl) v h passes all
      by false (Some v) passes = all
      by false None passes = reacted_have a (gives a refl) [] h passes all

  module _ (after : Held → Held × Outcome) (fault : Held → Kinds) (step : (h : Held) → fault h ≡ [] → HaveValues h.rows → HaveValues (after h).0.rows) where
    short_have : (o : Option Rule) → ((a : Rule) → o ≡ Some a → GivesValue a) → (rest : Text) (h : Held) → short_fault c again o rest h fault ≡ [] → HaveValues h.rows
        → HaveValues (short_met c o rest h after).0.rows
    short_have None gives rest h passes all = all
    short_have (Some a) gives rest h passes all = by (takes_values a) passes
      where
        by : (t : Bool) → (if t then option_fault c again a (attached_value rest) h else or_else (react_fault c again a [] h) (fault (reacted c a [] h))) ≡ []
            → HaveValues (if t then option_met c a (attached_value rest) h else after (reacted c a [] h)).0.rows
        by true passes = option_have a (gives a refl) (attached_value rest) h passes all
        by false passes =
            let both = both_pass (react_fault c again a [] h) _ passes in
            step (reacted c a [] h) both.1 (reacted_have a (gives a refl) [] h both.0 all)

  module _ (after : Text → ℕ → Outcome → Held → Held × Outcome) (fault : Text → ℕ → Held → Kinds)
      (step : (flags : Text) (skip : ℕ) (so_far : Outcome) (h : Held) → fault flags skip h ≡ [] → HaveValues h.rows → HaveValues (after flags skip so_far h).0.rows) where
    bundle_step_have : (o : Option ℕ) (flags : Text) (skip : ℕ) (so_far : Outcome) (h : Held) → bundle_step_fault c again o flags skip h fault ≡ [] → HaveValues h.rows
        → HaveValues (bundle_step c o flags skip so_far h after).0.rows
    bundle_step_have None flags skip so_far h passes all = all
    bundle_step_have (Some x) flags zero so_far h passes all =
        let rest = drop (length (encode_utf8 x)) flags in
        short_have (after rest 0 done) (fault rest 0) (step rest 0 done) (arg_by_short c x)
        (λ a found. of_found GivesValue (λ b. not (is_some b.index) && has_short b x) c a give found) rest h passes all
    bundle_step_have (Some x) flags (suc skip) so_far h passes all = step (drop (length (encode_utf8 x)) flags) skip so_far h passes all

  flags_have : (k : ℕ) (flags : Text) (skip : ℕ) (so_far : Outcome) (h : Held) → flags_fault c again k flags skip h ≡ [] → HaveValues h.rows
      → HaveValues (bundle_met c k flags skip so_far h).0.rows
  unfolding flags_fault bundle_met
  flags_have zero flags skip so_far h passes all = all
  flags_have (suc k) flags skip so_far h passes all =
      bundle_step_have (bundle_met c k) (flags_fault c again k) (flags_have k) (slice_get (chars flags) 0) flags skip so_far h passes all

  option_word_have : (o : Option Rule) (id word : Text) (h : Held) → HaveValues h.rows → HaveValues (option_word o id word h).0.rows
  option_word_have None id word h all = all
  option_word_have (Some a) id word h all = all

  plain_have : (waiting : Waiting) (word : Text) (h : Held) → HaveValues h.rows → HaveValues (plain_word c waiting word h).0.rows
  plain_have (option id) word h all = option_word_have (arg_by_id c id) id word h all
  plain_have idle word h all = all
  plain_have positional word h all = all

  after_flag_have : (waiting : Waiting) (word : Text) (h : Held) (o : Outcome) → HaveValues h.rows → HaveValues (after_flag c waiting word h o).0.rows
  after_flag_have waiting word h done all = all
  after_flag_have waiting word h (waits id) all = all
  after_flag_have waiting word h plain all = plain_have waiting word h all
  after_flag_have waiting word h refused all = plain_have waiting word h all

  short_word_have : (o : Option Text) (waiting : Waiting) (word : Text) (h : Held) → option_map_or (λ flags. bundle_fault c again flags h) o [] ≡ [] → HaveValues h.rows
      → HaveValues (short_or_plain c waiting word o h).0.rows
  short_word_have None waiting word h passes all = plain_have waiting word h all
  short_word_have (Some flags) waiting word h passes all =
      after_flag_have waiting word (bundle c flags h).0 (bundle c flags h).1 (flags_have (length flags) flags h.skip plain (record h { skip = 0 }) passes all)

  flag_word_have : (o : Option (Text × Option Text)) (waiting : Waiting) (word : Text) (h : Held) → flag_word_fault c again o word h ≡ [] → HaveValues h.rows
      → HaveValues (long_or_other c waiting word o h).0.rows
  flag_word_have None waiting word h passes all = short_word_have (short_of word) waiting word h passes all
  flag_word_have (Some p) waiting word h passes all =
      after_flag_have waiting word (long_met c (arg_by_long c p.0) p.1 h).0 (long_met c (arg_by_long c p.0) p.1 h).1
      (long_have (arg_by_long c p.0) (λ a found. of_found GivesValue (λ b. not (is_some b.index) && has_long b p.0) c a give found) p.1 h passes all)

module _ (s : Shape) (names : Names) (give : AllByRecursion GivesValue s.rules) where
  other_have : (o : Option Text) (waiting : Waiting) (position : ℕ) (word : Text) (h : Held) → other_fault s o word h ≡ [] → HaveValues h.rows
      → HaveValues (subcommand_or_other s.rules o waiting position word h).0.rows
  other_have (Some name) waiting position word h passes all = all
  other_have None waiting position word h passes all = by (bytes_eq word (45 ∷ 45 ∷ [])) passes
    where
      by : (b : Bool) → (if b then [] else flag_word_fault s.rules s.args_override_self (long_of word) word h) ≡ []
          → HaveValues (if b then (h, trailing position) else long_or_other s.rules waiting word (long_of word) h).0.rows
      by true passes = all
      by false passes = flag_word_have s.rules give s.args_override_self (long_of word) waiting word h passes all

  word_have : (is_trailing : Bool) (waiting : Waiting) (position : ℕ) (word : Text) (h : Held) → word_fault s names is_trailing waiting word h ≡ [] → HaveValues h.rows
      → HaveValues (word_met s.rules names is_trailing waiting position word h).0.rows
  word_have true waiting position word h passes all = all
  word_have false waiting position word h passes all = other_have (subcommand_met names waiting word) waiting position word h passes all

  positional_have : (o : Option Rule) (word : Text) (w : Walk) (h : Held)
      → option_map_or (λ a. positional_fault s.rules s.args_override_self a h) o (stray_fault s) ≡ [] → HaveValues h.rows → HaveValues (to_positional s.rules o word w h).held.rows
  positional_have None word w h passes all = all
  positional_have (Some a) word w h passes all = by (is_pending a h.pending && takes_several a) passes
    where
      by : (b : Bool) → (if b then [] else settle_fault s.rules s.args_override_self h) ≡ [] → HaveValues (if b then h else settled s.rules h).rows
      by true passes = all
      by false passes = settled_have s.rules give s.args_override_self h passes all

  step_have : (word : Text) (w : Walk) (h : Held) (step : Step) → step_fault s w.position h step ≡ [] → HaveValues h.rows → HaveValues (after_step s.rules word w h step).held.rows
  step_have word w h (next waiting) passes all = all
  step_have word w h (trailing position) passes all = all
  step_have word w h (subcommand name) passes all = all
  step_have word w h value passes all = positional_have (arg_by_index s.rules w.position) word w h passes all

  walked_have : (w : Walk) (stop : Option (Text × List Text)) (word : Text) → turn_fault s names (record w { stopped = stop }) word ≡ [] → HaveValues w.held.rows
      → HaveValues (walked s.rules names (record w { stopped = stop }) word).held.rows
  unfolding walked
  walked_have w (Some p) word passes all = all
  walked_have w None word passes all =
      let met = word_met s.rules names w.is_trailing w.waiting w.position word w.held in
      let both = both_pass (word_fault s names w.is_trailing w.waiting word w.held) _ passes in
      step_have word (record w { stopped = None }) met.0 met.1 both.1 (word_have w.is_trailing w.waiting w.position word w.held both.0 all)

  walk_have : (words : List Text) (w : Walk) → walk_fault s names w words ≡ [] → HaveValues w.held.rows → HaveValues (fold (walked s.rules names) w words).held.rows
  unfolding walk_fault
  walk_have [] w passes all = all
  walk_have (word ∷ rest) w passes all =
      let both = both_pass (turn_fault s names w word) _ passes in
      walk_have rest (walked s.rules names w word) both.1 (walked_have w w.stopped word both.0 all)

-- ---- defaults

default_have : (a : Rule) (rows : List Row) → HaveValues rows → HaveValues (with_default rows a)
default_have a rows all = by (has_row a.id rows) a.defaults
  where
    by : (b : Bool) (values : List Text) → HaveValues (if b then rows else default_rows a.id (reading_by a) values rows)
    by true values = all
    by false [] = all
    by false (v ∷ vs) = with_values_have a.id (reading_by a) DefaultValue v vs rows all

defaults_have : (c : List Rule) (rows : List Row) → HaveValues rows → HaveValues (fold with_default rows c)
defaults_have [] rows all = all
defaults_have (a ∷ c) rows all = defaults_have c (with_default rows a) (default_have a rows all)

-- ---- a command with a device

-- whether the first argument is the device, and has to be given
abbrev asks_device : List Rule → Bool
asks_device [] = false
asks_device (a ∷ rest) = bytes_eq a.id (codes "device") && a.required

-- whether each option of the command has a value, and a device has to be given
abbrev takes_device : Shape → Bool
takes_device s = list_all has_value_or_helps s.rules && asks_device s.rules

-- the last check passes only with all that is required
none_missing : (wants_help wants_command wants_argument : Bool) → check_kinds wants_help wants_command wants_argument ≡ [] → wants_argument ≡ false
none_missing wants_help wants_command wants_argument none = grind (arith, common_steps)

first_value : (values : List Text) → 0 < length values → is_some (slice_get values 0) ≡ true
first_value [] some = absurd (omega arith)
first_value (v ∷ vs) some = refl

given_first : (id : Text) (rows : List Row) → HaveValues rows → is_given id rows ≡ true → is_some (first_of id rows) ≡ true
given_first id rows all given = by (find (λ r. bytes_eq r.id id) rows) refl
  where
    by : (o : Option Row) → find (λ r. bytes_eq r.id id) rows ≡ o → is_some (first_of id rows) ≡ true
    by None is = let bad : false ≡ true = rw is at given in cc
    by (Some r) is = rw is (first_value r.values (of_found HasValue (λ r. bytes_eq r.id id) rows r all is))

required_given : (rules : List Rule) (rows : List Row) → asks_device rules ≡ true → list_any (λ a. a.required && not (is_given a.id rows)) rules ≡ false
    → is_given (codes "device") rows ≡ true
required_given [] rows asks none = cc
required_given (a ∷ rest) rows asks none = by (is_given (codes "device") rows) refl
  where
    by : (b : Bool) → is_given (codes "device") rows ≡ b → is_given (codes "device") rows ≡ true
    by true is = is
    by false is =
        let both = and_parts (bytes_eq a.id (codes "device")) a.required asks in
        let id = (bytes_eq-Decides a.id (codes "device")).0 both.0 in
        let bad : true ≡ false = rw (both.1, id, is) at none in
        cc

level_device : (s : Shape) (words : List Text) → takes_device s ≡ true → level_fault s [] nothing_held words false [] ≡ []
    → is_some (first_of (codes "device") (rows_after s.rules [] words)) ≡ true
level_device s words takes none =
    let both = and_parts (list_all has_value_or_helps s.rules) (asks_device s.rules) takes in
    let give = all_give s.rules both.0 in
    let end = (walk s.rules [] nothing_held words).held in
    let walking = both_pass (walk_fault s [] (walk_from nothing_held) words) _ none in
    let settling = both_pass (settle_fault s.rules s.args_override_self end) _ walking.1 in
    let checking = both_pass (defaults_fault (settled s.rules end).rows s.rules) _ settling.1 in
    let all = defaults_have s.rules (settled s.rules end).rows (settled_have s.rules give s.args_override_self end settling.0
    (walk_have s [] give words (walk_from nothing_held) walking.0 tt)) in
    given_first (codes "device") (finished s.rules end) all
    (required_given s.rules (finished s.rules end) both.1 (missing s.subcommand_negates_reqs _ (none_missing _ _ _ checking.1)))
  where
    missing : (b any : Bool) → (not (b && false) && any) ≡ false → any ≡ false
    missing true any is = is
    missing false any is = is

-- ---- the commands

-- a command is one of the three
abbrev is_on_device : Text → Bool
is_on_device name = bytes_eq name (codes "format") || (bytes_eq name (codes "show") || bytes_eq name (codes "serve"))

each_takes : AllByRecursion (λ s. is_on_device s.name ≡ true → takes_device s ≡ true) (built waffd).subs
each_takes = ((λ named. cc), ((λ named. refl), ((λ named. refl), ((λ named. refl), ((λ named. cc), tt)))))

entered_device : (stop : Option (Text × List Text)) (name : Text) → is_on_device name ≡ true → entered_fault (built waffd) stop ≡ []
    → IsNamed name (entered (built waffd) stop) → is_some (first_of (codes "device") (given_to (entered (built waffd) stop))) ≡ true
entered_device None name on none named = absurd (cc)
entered_device (Some p) name on none named = by (find (λ s. answers_to p.0 (label_of s)) (built waffd).subs) refl none named
  where
    by : (o : Option Shape) → find (λ s. answers_to p.0 (label_of s)) (built waffd).subs ≡ o
        → option_map_or (λ s. level_fault s [] nothing_held p.1 false []) o [] ≡ [] → IsNamed name (option_map (λ s. rows_at s p.1) o)
        → is_some (first_of (codes "device") (given_to (option_map (λ s. rows_at s p.1) o))) ≡ true
    by None is none named = absurd (cc)
    by (Some s) is none named =
        let same : s.name ≡ name = cc in
        let takes = of_found (λ (s : Shape). is_on_device s.name ≡ true → takes_device s ≡ true) (λ s. answers_to p.0 (label_of s)) (built waffd).subs s each_takes is in
        level_device s p.1 (takes (rw same on)) none

-- the arguments of such a command give it a device
pub has_device : (words : List Text) (name : Text) → is_on_device name ≡ true → findings words ≡ [] → IsNamed name (command_of words)
    → is_some (first_of (codes "device") (given_to (command_of words))) ≡ true
has_device words name on none named =
    let a = built waffd in
    let walking = both_pass (walk_fault a.top (names_of a) (walk_from nothing_held) (argument_words waffd words)) _ none in
    let entering = both_pass (entered_fault a (walk a.top.rules (names_of a) nothing_held (argument_words waffd words)).stopped) _ walking.1 in
    entered_device (walk a.top.rules (names_of a) nothing_held (argument_words waffd words)).stopped name on entering.0 named

pub device_or_plain : (words : List Text) → findings words ≡ [] → HasDevice (command_of words)
device_or_plain words none = elim (names_command words none) [
  | inl named ↦ inl named
  | inr (inl named) ↦ inr (has_device words (codes "format") refl none named)
  | inr (inr (inl named)) ↦ inr (has_device words (codes "show") refl none named)
  | inr (inr (inr named)) ↦ inr (has_device words (codes "serve") refl none named)
]
