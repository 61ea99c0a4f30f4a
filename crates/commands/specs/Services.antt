-- Statement for engineers: The service that arguments ask for, by the options of its server.
use Rattle.std.specs.Prelude.{◌≡◌, ℕ, List, [], ◌∷◌, codes, max, min}
use Rattle.clap.specs.Words.{Text}
use Rattle.commands.specs.declared.serve_options.ServeOptions.{ServeOptions}
use Rattle.arguments.specs.Arguments.{IsNamed, command_of, device_in, findings, given_to, service_in}
use Rattle.affinity.specs.declared.limits.TheConstants.{MOST_SLOTS, MOST_WORKERS}

-- the options in their order: workers, slots, and after how many records a checkpoint is made
abbrev pub options_in_order : ServeOptions → List ℕ
options_in_order s = s.workers ∷ s.slots ∷ s.every ∷ []

-- the numbers of a server's options, from those that the arguments give: at most `MOST_WORKERS` workers and 1 to `MOST_SLOTS` slots,
-- whatever they say
abbrev pub within_limits : List ℕ → List ℕ
within_limits (workers ∷ slots ∷ others) = min workers MOST_WORKERS ∷ max (min slots MOST_SLOTS) 1 ∷ others
within_limits others = others

-- The arguments ask for service with the device in the file of this path. `findings`: a call for help or the version, or mistakes.
abbrev pub AsksServe : List Text → Text → ServeOptions → Type 0
AsksServe arguments path s =
    (findings arguments ≡ []) × IsNamed (codes "serve") (command_of arguments) × (path ≡ device_in (given_to (command_of arguments)))
    × (options_in_order s ≡ within_limits (service_in (given_to (command_of arguments))))
