-- Statement for engineers: What a server may send, and when.
use Rattle.std.specs.Prelude.{◌≡◌, ◌⊎◌, ℕ, List, [], ◌++◌, map, Option, IsSomeAnd}
use Rattle.std.specs.List.{AllByRecursion}
use Rattle.histories.specs.CoreState.{IsIdle}
use Rattle.protocol.specs.Replies.{no_message, reply_line}
use Rattle.protocol.specs.declared.replies.Refusal.TheVariants.{Range}
use Rattle.protocol.specs.declared.replies.Reply.TheVariants.{Refused}
use Rattle.meaning.specs.Output.{joined}
use Rattle.scheduler.specs.CoreView.{CoreView, core_state_of}
use Rattle.serving.specs.HasServed.{HasServed}
use Rattle.serving.specs.Lines.{HaveAnswers, Line, answer_text}
use Rattle.serving.specs.Start.{Start, start_machine}

-- These bytes may be sent where this was sent before. Since the start a legal run has led to the core as it is now, and a crash of its
-- device leaves what holds all that was logged in that run. What was sent are the first answers of the run, to the lines in order, and the
-- bytes are the next ones.
pub record MaySendFrom (keeps : Type 0) (s : Start) (sent : Option (List ℕ)) (now : CoreView) (bytes : List ℕ) : Type 0 where
  -- at the start nothing was waiting, held or in `doubt`
  pub idle : IsIdle (core_state_of s.core)
  pub none_in_doubt : s.core.doubt ≡ []
  pub next : List Line
  pub rest : List Line
  pub served : HasServed keeps (start_machine s) now (next ++ rest) s.input s.before sent
  pub have_answers : HaveAnswers next
  pub bytes_are : bytes ≡ joined (map answer_text next)

-- Before a call has begun there is no start, and nothing may be sent.
abbrev pub MaySend : Type 0 → Option Start → Option (List ℕ) → CoreView → List ℕ → Type 0
MaySend keeps start sent now bytes = IsSomeAnd start (λ s. MaySendFrom keeps s sent now bytes)

-- These bytes are lines, each of which reports that a line is no message, or that a message is out of range.
abbrev pub SendsNoReply : List ℕ → Type 0
SendsNoReply bytes = (ls : List (List ℕ)) × (bytes ≡ joined ls)
    × AllByRecursion (λ line. (line ≡ no_message) ⊎ (line ≡ reply_line (Refused Range))) ls
