-- Statement for operators: What a call reads and writes.
use Rattle.std.specs.Prelude.{ℕ, List, Option}

-- what a call read and wrote: its input and what remains of it, and what the output held before and after
pub record Exchange : Type 0 where
  pub input : Option (List ℕ)
  pub remaining : Option (List ℕ)
  pub before : Option (List ℕ)
  pub written : Option (List ℕ)

abbrev pub exchange : Option (List ℕ) → Option (List ℕ) → Option (List ℕ) → Option (List ℕ) → Exchange
exchange input remaining before written = record { input = input; remaining = remaining; before = before; written = written }
