-- Statement for clients: A client of servers that crash, which sends the lines without an answer again to the next one.
use Rattle.std.specs.Prelude.{◌≡◌, ℕ, ◌==◌, List, [], ◌∷◌, ◌++◌, count_by, drop}
use Rattle.protocol.specs.Lines.{lines}
use Rattle.serving.specs.AnyRuns.{Run}

-- how many answers came out of a run: so many newlines
abbrev pub answers_out : Run → ℕ
answers_out run = count_by (λ c. c == 10) run.out

-- The client has these lines. It sent the first of them to the first server, as many as it liked, and to each later one the first of those
-- of which no answer had come out by then. At the end these are left.
abbrev pub SendsAgain : List Run → List (List ℕ) → List (List ℕ) → Type 0
SendsAgain [] ls left = left ≡ ls
SendsAgain (run ∷ runs) ls left =
    (more : List (List ℕ)) × (ls ≡ lines run.input ++ more) × SendsAgain runs (drop (answers_out run) ls) left

-- the bytes of the device as the last crash left them
abbrev pub last_device : List ℕ → List Run → List ℕ
last_device device [] = device
last_device device (run ∷ runs) = last_device run.left runs
