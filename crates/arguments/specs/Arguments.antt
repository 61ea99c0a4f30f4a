-- Statement for engineers: What the arguments ask for. `clap` reads them, by its rules for the commands and options below. Of its types an
-- `App` is a command with its subcommands (its `top` is the command without them), a `Rule` one argument or option that it takes, and a
-- `Row` one that was given, with its values.
use Rattle.std.specs.Prelude.{◌≡◌, ◌-◌, ◌^◌, ◌≢◌, ◌&&◌, ◌⊎◌, ℕ, Bool, true, false, List, [], ◌∷◌, fold, length, Option, Some, None, option_and_then, option_map, unwrap_or, Result, Ok, Err, codes, if◌then◌else◌, is_some, nat_lt, ℤ, pos}
use Rattle.std.specs.Option.{option_map_or}
use Rattle.std.specs.Char.{digit_value}
use Rattle.std.specs.List.{list_all}
use Rattle.std.specs.Str.Parse.{digits_value, without_leading_plus}
use Rattle.affinity.specs.declared.geometry.Geometry.{Geometry}
use Rattle.affinity.specs.Geometry.{numbers_of, default_geometry}
use Rattle.affinity.specs.Limits.{AreInRange}
use Rattle.clap.specs.Words.{App, Kinds, IsAmong, Row, Rule, Text, fault_of, first_of, kind_of, new_app, new_rule, subcommand_of, with_rule, with_subcommand}
use Rattle.clap.specs.Simple.{on_top}
use Rattle.clap.specs.Walk.{one_of}
use Rattle.clap.specs.declared.builder.value_parser.ValueParser.TheVariants.{Signed}
use Rattle.clap.specs.declared.error.Error.{Error}
use Rattle.clap.specs.declared.error.kind.ErrorKind.{ErrorKind}
use Rattle.clap.specs.declared.error.kind.ErrorKind.TheVariants.{DisplayHelp, DisplayVersion}
use Rattle.clap.specs.declared.error.kind.ErrorKind.TheVariants as kind
use Rattle.arguments.specs.declared.command_line.TheConstants.{DEFAULT_WORKERS, DEFAULT_SLOTS, DEFAULT_EVERY}
use Rattle.arguments.specs.declared.command_line.Request.{Request}
use Rattle.arguments.specs.declared.command_line.Request.TheVariants.{Help, Plain, Format, Show, Serve}
use Rattle.arguments.specs.declared.command_line.ServiceNumbers.{ServiceNumbers}
use Rattle.arguments.specs.declared.command_line.ArgumentRefusal.{ArgumentRefusal}
use Rattle.arguments.specs.declared.command_line.ArgumentRefusal.TheVariants.{Words, OutOfMemory, GeometryOutOfRange}
use Rattle.affinity.specs.declared.limits.TheConstants.{MOST_RECORDS, MOST_SLOTS, MOST_WORKERS}

-- ---- the commands

-- the names of the options of a geometry, in the order of its numbers
abbrev pub names : List Text
names = codes "aggregates" ∷ codes "volumes" ∷ codes "stripes" ∷ codes "width" ∷ codes "files" ∷ codes "blocks" ∷ codes "quota"
    ∷ codes "half" ∷ []

-- an option with one value, a number from `least` to `most`
abbrev pub rule_within : Text → ℤ → ℤ → Rule
rule_within name least most = record (new_rule name) { long = Some name; value_names = 1; parser = Some (Signed least most) }

-- a command with the options of a geometry added
abbrev pub with_numbers : App → App
with_numbers a = fold (λ b name. with_rule b (rule_within name (pos 0) (pos (2 ^ 16 - 1)))) a names

-- the file of a device, which has to be given
abbrev pub device_rule : Rule
device_rule = record (new_rule (codes "device")) { value_names = 1; required = true }

-- the command `plain`
abbrev pub plain : App
plain = with_numbers (new_app (codes "plain"))

-- the command `format`
abbrev pub format : App
format = with_numbers (with_rule (new_app (codes "format")) device_rule)

-- the command `show`
abbrev pub show : App
show = with_rule (new_app (codes "show")) device_rule

-- the command `serve`: how many workers it has, how many lines it may read before their answers are sent, and after how many records it
-- makes a checkpoint
abbrev pub serve : App
serve = fold with_rule (new_app (codes "serve")) (device_rule ∷ rule_within (codes "workers") (pos 0) (pos MOST_WORKERS)
    ∷ rule_within (codes "slots") (pos 1) (pos MOST_SLOTS) ∷ rule_within (codes "every") (pos 0) (pos MOST_RECORDS) ∷ [])

-- the program without its commands, of which one has to be given; it has a version
abbrev pub bare : App
bare = on_top (λ s. record s { has_version = true; subcommand_required = true; arg_required_else_help = true }) (new_app (codes "waffd"))

-- the program
abbrev pub waffd : App
waffd = fold with_subcommand bare (plain.top ∷ format.top ∷ show.top ∷ serve.top ∷ [])

-- ---- what the arguments give

-- the number that decimal digits write, with a plus before them or none, below 2^16
abbrev pub number_of : Text → Option ℕ
number_of text =
    let digits = without_leading_plus text in
    if nat_lt 0 (length digits) && list_all (λ d. nat_lt (digit_value d) 10) digits
    && nat_lt (digits_value 10 digits) (2 ^ 16) then Some (digits_value 10 digits) else None

-- the number of an option among those that were given, or the default; `one_of name rows` is the value that was given to it, as a text
abbrev pub number_in : List Row → Text → ℕ → ℕ
number_in rows name default = unwrap_or (option_and_then number_of (one_of name rows)) default

-- the eight numbers of the geometry, by the options that were given
abbrev pub numbers_in : List Row → List ℕ
numbers_in rows =
    number_in rows (codes "aggregates") default_geometry.aggregates
    ∷ number_in rows (codes "volumes") default_geometry.volumes
    ∷ number_in rows (codes "stripes") default_geometry.stripes
    ∷ number_in rows (codes "width") default_geometry.width
    ∷ number_in rows (codes "files") default_geometry.files
    ∷ number_in rows (codes "blocks") default_geometry.blocks
    ∷ number_in rows (codes "quota") default_geometry.quota
    ∷ number_in rows (codes "half") default_geometry.half
    ∷ []

-- the options of `serve` in their order: workers, slots, and after how many records a checkpoint is made
abbrev pub service_numbers : ServiceNumbers → List ℕ
service_numbers s = s.workers ∷ s.slots ∷ s.every ∷ []

-- workers, slots and records to a checkpoint of `serve`, by the options that were given
abbrev pub service_in : List Row → List ℕ
service_in rows =
    number_in rows (codes "workers") DEFAULT_WORKERS
    ∷ number_in rows (codes "slots") DEFAULT_SLOTS
    ∷ number_in rows (codes "every") DEFAULT_EVERY
    ∷ []

-- the file of the device; arguments without it are refused before
abbrev pub device_in : List Row → Text
device_in rows = unwrap_or (first_of (codes "device") rows) []

-- what `clap` may find in the arguments, the program's own name first: nothing, a call for help or the version, or mistakes
abbrev pub findings : List Text → Kinds
findings words = fault_of waffd words

-- whether what `clap` found is a mistake, whose text goes to the standard error: all but help and the version
abbrev pub is_mistake : ErrorKind → Bool
is_mistake DisplayHelp = false
is_mistake DisplayVersion = false
is_mistake _ = true

-- the command that the arguments name, with what they give it
abbrev pub command_of : List Text → Option (Text × List Row)
command_of words = subcommand_of waffd words

-- The command has this name.
abbrev pub IsNamed : Text → Option (Text × List Row) → Type 0
IsNamed name command = option_map (λ c. c.0) command ≡ Some name

-- There is a command, one of the four.
abbrev pub NamesCommand : Option (Text × List Row) → Type 0
NamesCommand command = IsNamed (codes "plain") command ⊎ IsNamed (codes "format") command ⊎ IsNamed (codes "show") command
    ⊎ IsNamed (codes "serve") command

-- the options that are given to the command
abbrev pub given_to : Option (Text × List Row) → List Row
given_to command = option_map_or (λ c. c.1) command []

-- A command other than `plain` is given a device.
abbrev pub HasDevice : Option (Text × List Row) → Type 0
HasDevice command = IsNamed (codes "plain") command ⊎ (is_some (first_of (codes "device") (given_to command)) ≡ true)

-- The result is the geometry of these numbers, or they are refused because one is out of range.
abbrev pub GivesGeometry : List ℕ → Result Geometry ArgumentRefusal → Type 0
GivesGeometry numbers (Ok g) = numbers_of g ≡ numbers
GivesGeometry numbers (Err refusal) = (refusal ≡ GeometryOutOfRange) × (¬ (AreInRange numbers))

-- The result is the request that the command makes, or why there is none.
abbrev pub IsRequested : Option (Text × List Row) → Result Request ArgumentRefusal → Type 0
IsRequested command (Ok (Plain g)) = IsNamed (codes "plain") command × (numbers_of g ≡ numbers_in (given_to command))
IsRequested command (Ok (Format path g)) = IsNamed (codes "format") command × (path.now ≡ device_in (given_to command))
    × (numbers_of g ≡ numbers_in (given_to command))
IsRequested command (Ok (Show path)) = IsNamed (codes "show") command × (path.now ≡ device_in (given_to command))
IsRequested command (Ok (Serve path s)) = IsNamed (codes "serve") command × (path.now ≡ device_in (given_to command))
    × (service_numbers s ≡ service_in (given_to command))
IsRequested command (Err GeometryOutOfRange) =
    (¬ (IsNamed (codes "show") command)) × (¬ (IsNamed (codes "serve") command)) × (¬ (AreInRange (numbers_in (given_to command))))
IsRequested command _ = ⊥

-- The arguments ask for service without a device at this geometry.
abbrev pub AsksPlain : List Text → Geometry → Type 0
AsksPlain words g = (findings words ≡ []) × IsNamed (codes "plain") (command_of words)
    × (numbers_of g ≡ numbers_in (given_to (command_of words)))

-- The arguments ask for a device of this geometry in the file of this path.
abbrev pub AsksFormat : List Text → Text → Geometry → Type 0
AsksFormat words path g = (findings words ≡ []) × IsNamed (codes "format") (command_of words)
    × (path ≡ device_in (given_to (command_of words))) × (numbers_of g ≡ numbers_in (given_to (command_of words)))

-- The arguments ask what the device in the file of this path holds.
abbrev pub AsksShow : List Text → Text → Type 0
AsksShow words path =
    (findings words ≡ []) × IsNamed (codes "show") (command_of words) × (path ≡ device_in (given_to (command_of words)))

-- The arguments ask for service with the device in the file of this path, and give these numbers for it.
abbrev pub AsksServeWith : List Text → Text → List ℕ → Type 0
AsksServeWith words path numbers =
    (findings words ≡ []) × IsNamed (codes "serve") (command_of words) × (path ≡ device_in (given_to (command_of words)))
    × (numbers ≡ service_in (given_to (command_of words)))

-- The arguments ask for service without a device, or for a device to be made, at numbers that are no geometry.
abbrev pub AsksOutOfRange : List Text → Type 0
AsksOutOfRange words = (findings words ≡ []) × IsRequested (command_of words) (Err GeometryOutOfRange)

-- The arguments ask for help.
abbrev pub AsksHelp : List Text → Type 0
AsksHelp words = findings words ≡ DisplayHelp ∷ []

-- The arguments ask for the version.
abbrev pub AsksVersion : List Text → Type 0
AsksVersion words = findings words ≡ DisplayVersion ∷ []

-- No command is carried out: the arguments ask for help or the version, or there are mistakes in them. For arguments after `help` the
-- findings leave open which of these it is.
abbrev pub RunsNoCommand : List Text → Type 0
RunsNoCommand words = findings words ≢ []

-- There are mistakes in the arguments, and they ask for no help and no version.
abbrev pub IsWrong : List Text → Type 0
IsWrong words = (findings words ≢ []) × (list_all is_mistake (findings words) ≡ true)

-- The arguments are refused.
abbrev pub AreRefused : List Text → Type 0
AreRefused words = IsWrong words ⊎ AsksOutOfRange words

-- The arguments ask for this request.
abbrev pub Asks : List Text → Request → Type 0
Asks words (Help text) = IsAmong (kind_of text) (findings words) × (is_mistake (kind_of text) ≡ false)
Asks words request = (findings words ≡ []) × IsRequested (command_of words) (Ok request)

-- The arguments give no request for this reason. Memory may be wanting for any arguments.
abbrev pub IsReason : List Text → ArgumentRefusal → Type 0
IsReason words (Words error) = IsAmong (kind_of error) (findings words) × (is_mistake (kind_of error) ≡ true)
IsReason words OutOfMemory = Unit {0}
IsReason words GeometryOutOfRange = AsksOutOfRange words

-- what an error of `clap` means, by its kind
abbrev pub answer_by : Error → ErrorKind → Result Request ArgumentRefusal
answer_by error kind.OutOfMemory = Err OutOfMemory
answer_by error DisplayHelp = Ok (Help error)
answer_by error DisplayVersion = Ok (Help error)
answer_by error _ = Err (Words error)

abbrev pub answer_of : Error → Result Request ArgumentRefusal
answer_of error = answer_by error (kind_of error)
