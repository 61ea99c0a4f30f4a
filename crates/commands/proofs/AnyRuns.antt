-- What any number of runs did is what one serial server does: an induction over the runs.
use Rattle.std.proofs.Common.{◌≡◌, ℕ, List, [], ◌∷◌, ◌++◌, Option, Some, Bool, refl}
use Rattle.serving.specs.AnyRuns.{AreAnsweredBy, EachServes, IsHistoryOf, Operation, Run, Server, after, lines_in}

-- A server does these, and then, as it is after them, those.
pub answered-append : (server : Server) (os ps : List Operation) → AreAnsweredBy server os → AreAnsweredBy (after (lines_in os) server) ps
    → AreAnsweredBy server (os ++ ps)
answered-append server [] ps h then = then
answered-append server (o ∷ os) ps h then = (h.0, answered-append (after (o.line ∷ []) server) os ps h.1 then)

pub are_one_servers : (recover : List ℕ → Option Server) (conflict : List ℕ → List ℕ → Bool) (device : List ℕ) (runs : List Run) (server : Server)
    → recover device ≡ Some server → EachServes recover conflict device runs
    → (history : List Operation) × IsHistoryOf conflict runs history × AreAnsweredBy server history
are_one_servers recover conflict device [] server holds each = ([], refl, tt)
are_one_servers recover conflict device (run ∷ runs) server holds each =
    let h = each.0 server holds in
    let answered = h.0 in
    let made = h.1 in
    let later = are_one_servers recover conflict run.left runs (after (lines_in (answered ++ made)) server) h.4 each.1 in (
      answered ++ made ++ later.0,
      (answered, made, later.0, refl, h.2, later.1),
      answered-append server (answered ++ made) later.0 h.3 later.2,
    )
