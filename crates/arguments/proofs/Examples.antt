-- What words that are written out ask for. The program's own name is any text.
use Rattle.std.proofs.Common.{◌≡◌, ℕ, List, [], ◌∷◌, codes, refl, sym, subst, lit≤, arith, ◌≤◌}
use Rattle.std.proofs.lemmas.Option.{same_Some}
use Rattle.affinity.specs.Geometry.{default_geometry}
use Rattle.clap.proofs.OnLiterals.{clap_on_literals}
use Rattle.arguments.specs.Arguments.{AsksFormat, AsksHelp, RunsNoCommand, AsksOutOfRange, AsksPlain, AsksServeWith, AsksShow, AsksVersion, IsWrong}
use Rattle.arguments.specs.declared.command_line.TheConstants.{DEFAULT_WORKERS, DEFAULT_SLOTS, DEFAULT_EVERY}
use Rattle.arguments.proofs.Asks.{plain_is_not_serve}

default_workers : DEFAULT_WORKERS ≡ 2
default_workers = refl

default_slots : DEFAULT_SLOTS ≡ 16
default_slots = refl

default_every : DEFAULT_EVERY ≡ 0
default_every = refl

pub asks_plain : (program : List ℕ) → AsksPlain (program ∷ codes "plain" ∷ []) default_geometry
unfolding clap_on_literals
asks_plain program = (refl, refl, refl)

pub asks_alone : (words : List (List ℕ)) (program : List ℕ) → words ≡ program ∷ codes "plain" ∷ [] → AsksPlain words default_geometry
asks_alone words program are = subst (λ (ws : List (List ℕ)). AsksPlain ws default_geometry) (sym are) (asks_plain program)

pub asks_two_files : (program : List ℕ) → AsksPlain (program ∷ codes "plain" ∷ codes "--files" ∷ codes "2" ∷ []) (record default_geometry { files = 2; files_range = (lit≤ tt, lit≤ tt) })
unfolding clap_on_literals
asks_two_files program = (refl, refl, refl)

pub asks_two_files_at_once : (program : List ℕ) → AsksPlain (program ∷ codes "plain" ∷ codes "--files=2" ∷ []) (record default_geometry { files = 2; files_range = (lit≤ tt, lit≤ tt) })
unfolding clap_on_literals
asks_two_files_at_once program = (refl, refl, refl)

pub asks_short_half : (program : List ℕ) → AsksOutOfRange (program ∷ codes "plain" ∷ codes "--half" ∷ codes "3" ∷ [])
unfolding clap_on_literals
asks_short_half program =
    (refl, (λ e. cc, λ e. plain_is_not_serve (same_Some _ _ e), λ in_range. let least : 4 ≤ 3 = in_range.7.0 in absurd (omega (arith, least))))

pub asks_help : (program : List ℕ) → AsksHelp (program ∷ codes "--help" ∷ [])
unfolding clap_on_literals
asks_help program = refl

pub asks_version : (program : List ℕ) → AsksVersion (program ∷ codes "--version" ∷ [])
unfolding clap_on_literals
asks_version program = refl

pub asks_version_by_letter : (program : List ℕ) → AsksVersion (program ∷ codes "-V" ∷ [])
unfolding clap_on_literals
asks_version_by_letter program = refl

pub version_of_a_command_is_wrong : (program : List ℕ) → IsWrong (program ∷ codes "plain" ∷ codes "--version" ∷ [])
unfolding clap_on_literals
version_of_a_command_is_wrong program = (λ e. cc, refl)

pub help_is_no_service : (program : List ℕ) → RunsNoCommand (program ∷ codes "help" ∷ [])
unfolding clap_on_literals
help_is_no_service program = λ e. cc

pub help_on_plain_is_no_service : (program : List ℕ) → RunsNoCommand (program ∷ codes "help" ∷ codes "plain" ∷ [])
unfolding clap_on_literals
help_on_plain_is_no_service program = λ e. cc

pub help_on_no_command_is_no_service : (program : List ℕ) → RunsNoCommand (program ∷ codes "help" ∷ codes "flat" ∷ [])
unfolding clap_on_literals
help_on_no_command_is_no_service program = λ e. cc

pub nothing_is_wrong : (program : List ℕ) → IsWrong (program ∷ [])
unfolding clap_on_literals
nothing_is_wrong program = (λ e. cc, refl)

pub large_number_is_wrong : (program : List ℕ) → IsWrong (program ∷ codes "plain" ∷ codes "--files" ∷ codes "65536" ∷ [])
unfolding clap_on_literals
large_number_is_wrong program = (λ e. cc, refl)

pub asks_format : (program : List ℕ) → AsksFormat (program ∷ codes "format" ∷ codes "d" ∷ []) (codes "d") default_geometry
unfolding clap_on_literals
asks_format program = (refl, refl, refl, refl)

pub asks_format_behind_an_option : (program : List ℕ)
    → AsksFormat (program ∷ codes "format" ∷ codes "--files=2" ∷ codes "d" ∷ []) (codes "d") (record default_geometry { files = 2; files_range = (lit≤ tt, lit≤ tt) })
unfolding clap_on_literals
asks_format_behind_an_option program = (refl, refl, refl, refl)

pub asks_format_of_short_half : (program : List ℕ) → AsksOutOfRange (program ∷ codes "format" ∷ codes "d" ∷ codes "--half" ∷ codes "3" ∷ [])
unfolding clap_on_literals
asks_format_of_short_half program = (refl, (λ e. cc, λ e. cc, λ in_range. let least : 4 ≤ 3 = in_range.7.0 in absurd (omega (arith, least))))

pub asks_show : (program : List ℕ) → AsksShow (program ∷ codes "show" ∷ codes "d" ∷ []) (codes "d")
unfolding clap_on_literals
asks_show program = (refl, refl, refl)

pub no_device_is_wrong : (program : List ℕ) → IsWrong (program ∷ codes "show" ∷ [])
unfolding clap_on_literals
no_device_is_wrong program = (λ e. cc, refl)

pub options_of_show_are_wrong : (program : List ℕ) → IsWrong (program ∷ codes "show" ∷ codes "d" ∷ codes "--files" ∷ codes "2" ∷ [])
unfolding clap_on_literals
options_of_show_are_wrong program = (λ e. cc, refl)

pub asks_serve : (program : List ℕ) → AsksServeWith (program ∷ codes "serve" ∷ codes "d" ∷ []) (codes "d") (2 ∷ 16 ∷ 0 ∷ [])
unfolding clap_on_literals
asks_serve program = (refl, refl, refl, refl)

pub asks_serve_with_numbers : (program : List ℕ) → AsksServeWith (program ∷ codes "serve" ∷ codes "--workers=4" ∷ codes "d" ∷ codes "--every" ∷ codes "9" ∷ []) (codes "d")
    (4 ∷ 16 ∷ 9 ∷ [])
unfolding clap_on_literals
asks_serve_with_numbers program = (refl, refl, refl, refl)

pub too_many_workers_are_wrong : (program : List ℕ) → IsWrong (program ∷ codes "serve" ∷ codes "d" ∷ codes "--workers" ∷ codes "65" ∷ [])
unfolding clap_on_literals
too_many_workers_are_wrong program = (λ e. cc, refl)

pub no_slots_are_wrong : (program : List ℕ) → IsWrong (program ∷ codes "serve" ∷ codes "d" ∷ codes "--slots" ∷ codes "0" ∷ [])
unfolding clap_on_literals
no_slots_are_wrong program = (λ e. cc, refl)
