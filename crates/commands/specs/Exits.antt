-- Statement for engineers: With which status the program exits, by its arguments.
use Rattle.std.specs.Prelude.{◌≡◌, ◌⊎◌, ℕ, Result}
use Rattle.commands.specs.Faults.{status_of, status_at}
use Rattle.commands.specs.declared.faults.Fault.{Fault}
use Rattle.commands.specs.declared.faults.Fault.TheVariants.{Write, OutOfMemory}

-- The command came to an end that has this status, and of which P is true.
abbrev pub Exits : ℕ → (Result (Unit {0}) Fault → Type 0) → Type 0
Exits status P = (end : Result (Unit {0}) Fault) × (status ≡ status_at end) × P end

-- Help or the version was printed, or could not be written, or there was no memory.
abbrev pub ExitsHelp : ℕ → Type 0
ExitsHelp status = (status ≡ 0) ⊎ ((status ≡ status_of Write) ⊎ (status ≡ status_of OutOfMemory))

-- The arguments were refused, or there was no memory to read them.
abbrev pub ExitsRefused : ℕ → Type 0
ExitsRefused status = (status ≡ 2) ⊎ (status ≡ status_of OutOfMemory)
