-- Statement for clients: What is promised of any number of servers on one device, each on what a crash of the one before left of it.
use Rattle.std.specs.Prelude.{[], ◌≡◌, ◌≤◌, ℕ, ◌+◌, ◌==◌, Bool, true, List, ◌∷◌, ◌++◌, count_by, map, take, Option, Some}
use Rattle.std.specs.Io.KnownBytes.{Appends}
use Rattle.std.specs.List.{flat_map}
use Rattle.protocol.specs.Lines.{lines}
use Rattle.meaning.specs.ClosedPart.{IsPartOf}

-- ---- a serial server

-- A serial server takes one line after the other, and never crashes. It is given by its answers, which may be any: `server before line` is
-- its answer to a line, with a newline, after the lines `before`. Lines and answers are lists of bytes.
abbrev pub Server : Type 0
Server = List (List ℕ) → List ℕ → List ℕ

-- the server as it is once it has taken these lines
abbrev pub after : List (List ℕ) → Server → Server
after taken server = λ before line. server (taken ++ before) line

-- a line, and the answer to it, with its newline
pub record Operation : Type 0 where
  pub line : List ℕ
  pub answer : List ℕ

abbrev pub lines_in : List Operation → List (List ℕ)
lines_in operations = map (λ o. o.line) operations

abbrev pub answers_in : List Operation → List (List ℕ)
answers_in operations = map (λ o. o.answer) operations

-- Each line has the answer that this server gives, which takes these lines and no others, in this order.
abbrev pub AreAnsweredBy : Server → List Operation → Type 0
AreAnsweredBy server [] = Unit {0}
AreAnsweredBy server (o ∷ operations) = (o.answer ≡ server [] o.line) × AreAnsweredBy (after (o.line ∷ []) server) operations

-- ---- one run

-- One server on a device, from its opening of the device until it returned or was killed. `input` came in, and `out` came out. It
-- `finished` if it returned without a fault. The crash behind it left these bytes of the device.
pub record Run : Type 0 where
  pub slots : ℕ
  pub input : List ℕ
  pub out : List ℕ
  pub finished : Bool
  pub left : List ℕ

-- What a run did. It answered the first lines of its input. Of the lines behind these it has also `made` some: the crash has left what they
-- did, and their answers did not come out.
pub record Did (conflict : List ℕ → List ℕ → Bool) (run : Run) (answered made : List Operation) : Type 0 where
  -- What came out is a beginning of the answers; if the run finished, all of them, to all lines.
  pub missing : List ℕ
  pub unanswered : List (List ℕ)
  pub out : flat_map (λ bytes. bytes) (answers_in answered) ≡ run.out ++ missing
  pub first : lines run.input ≡ lines_in answered ++ unanswered
  pub finished : run.finished ≡ true → (missing ≡ []) × (unanswered ≡ [])
  -- So many of the unanswered lines were read. They, and those whose answers did not come out whole, each had a slot.
  pub read : ℕ
  pub few : count_by (λ c. c == 10) missing + read ≤ run.slots
  pub part : IsPartOf conflict (lines_in made) (take read unanswered)

-- The promise of a run on a device that holds this server. `recover` says which server the bytes of a device hold, if they hold one. The
-- run did what this server does, and the crash left the server as it is after that.
abbrev pub Serves : (List ℕ → Option Server) → (List ℕ → List ℕ → Bool) → Server → Run → Type 0
Serves recover conflict server run = (answered : List Operation) × (made : List Operation) × Did conflict run answered made
    × AreAnsweredBy server (answered ++ made) × (recover run.left ≡ Some (after (lines_in (answered ++ made)) server))

-- The promise, by what a contract knows of a run on a device that held this server. Its output has grown by what came `out`, and the crash
-- behind it left bytes that hold a server. Where its input is known, it has served that.
pub record KeepsPromise (recover : List ℕ → Option Server) (conflict : List ℕ → List ℕ → Bool) (server : Server) (slots : ℕ)
    (input : Option (List ℕ)) (finished : Bool) (before written : Option (List ℕ)) (left : List ℕ) : Type 0 where
  pub out : List ℕ
  pub grown : Appends before written out
  pub now : Server
  pub holds : recover left ≡ Some now
  pub serves : (bytes : List ℕ) → input ≡ Some bytes
      → Serves recover conflict server (record { slots = slots; input = bytes; out = out; finished = finished; left = left })

-- ---- any number of runs

-- Each run keeps its promise on the bytes that the crash before it left, the first one on these.
abbrev pub EachServes : (List ℕ → Option Server) → (List ℕ → List ℕ → Bool) → List ℕ → List Run → Type 0
EachServes recover conflict device [] = Unit {0}
EachServes recover conflict device (run ∷ runs) =
    ((server : Server) → recover device ≡ Some server → Serves recover conflict server run) × EachServes recover conflict run.left runs

-- What all runs did, one after the other.
abbrev pub IsHistoryOf : (List ℕ → List ℕ → Bool) → List Run → List Operation → Type 0
IsHistoryOf conflict [] history = history ≡ []
IsHistoryOf conflict (run ∷ runs) history = (answered : List Operation) × (made : List Operation) × (later : List Operation)
    × (history ≡ answered ++ made ++ later) × Did conflict run answered made × IsHistoryOf conflict runs later
