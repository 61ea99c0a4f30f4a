-- Statement for engineers: What a writer holds together with what waits to be written to it.
use Rattle.std.specs.Prelude.{◌≤◌, ◌+◌, ℕ, List, length, Option}
use Rattle.std.specs.Io.KnownBytes.{append_known}
use Rattle.protocol.specs.declared.sizes.TheConstants.{LONGEST_REPLY}
use Rattle.message.specs.declared.reply_buffer.TheConstants.{REPLY_BUFFER_SIZE}

-- all output, where it is known what the writer holds: the bytes that it holds, and then those that wait to be written
abbrev pub all_output : Option (List ℕ) → List ℕ → Option (List ℕ)
all_output contents waiting = append_known contents waiting

-- The longest reply has room after what waits, of the bytes that may wait.
abbrev pub FitsReply : List ℕ → Type 0
FitsReply waiting = length waiting + LONGEST_REPLY ≤ REPLY_BUFFER_SIZE
