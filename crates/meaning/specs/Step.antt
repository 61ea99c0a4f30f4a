-- Statement for clients: What each message does: its effect and its reply; and lists of messages, one after the other.
use Rattle.std.specs.Prelude.{ℕ, ◌^◌, Bool, true, false, ◌&&◌, List, [], ◌∷◌, replicate, unwrap_or, if◌then◌else◌, Option}
use Rattle.std.specs.Option.{option_map_or}
use Rattle.affinity.specs.declared.geometry.Geometry.{Geometry}
use Rattle.affinity.specs.Kind.{is_changing}
use Rattle.protocol.specs.declared.sizes.TheConstants.{LABEL_SIZE}
use Rattle.protocol.specs.declared.messages.Msg.{Msg}
use Rattle.protocol.specs.declared.messages.Msg.TheVariants.{MakeVol, DropVol, Create, Delete, Seal, Unseal, Write, Punch, Read, List as ListFiles, Usage as AskUsage, Summary as AskSummary, SetLabel, Label as AskLabel}
use Rattle.protocol.specs.declared.replies.Refusal.{Refusal}
use Rattle.protocol.specs.declared.replies.Reply.{Reply}
use Rattle.protocol.specs.declared.replies.Reply.TheVariants.{Done, Hole, Block as Found, Files, Usage, Summary, Refused, Label}
use Rattle.protocol.specs.Messages.{kind}
use Rattle.meaning.specs.State.{State, adding, dropping, setting, clearing, is_volume, is_file, is_block, is_file_of, is_block_of, is_block_of_file, sum_below, file_count, block_count, sum_over_volumes}
use Rattle.meaning.specs.Refusals.{refusal}

-- ---- one message

-- the label of a volume to which none was given
abbrev pub no_label : List ℕ
no_label = replicate LABEL_SIZE 0

-- the state after a message that passes its checks
abbrev pub effect : State → Msg → State
effect x (MakeVol a v) = record x { made = adding (is_volume a v) x.made; labels = setting (is_volume a v) no_label x.labels }
effect x (DropVol a v) = record {
  made = dropping (is_volume a v) x.made;
  sealed = dropping (is_volume a v) x.sealed;
  files = dropping (is_file_of a v) x.files;
  blocks = clearing (is_block_of a v) x.blocks;
  labels = clearing (is_volume a v) x.labels;
}
effect x (Create a v f) = record x { files = adding (is_file a v f) x.files }
effect x (Delete a v f) = record x { files = dropping (is_file a v f) x.files; blocks = clearing (is_block_of_file a v f) x.blocks }
effect x (Seal a v) = record x { sealed = adding (is_volume a v) x.sealed }
effect x (Unseal a v) = record x { sealed = dropping (is_volume a v) x.sealed }
effect x (Write a v f b content) = record x { blocks = setting (is_block a v f b) content x.blocks }
effect x (Punch a v f b) = record x { blocks = clearing (is_block a v f b) x.blocks }
effect x (Read a v f b) = x
effect x (ListFiles a v) = x
effect x (AskUsage a v) = x
effect x AskSummary = x
effect x (SetLabel a v bytes) = record x { labels = setting (is_volume a v) bytes x.labels }
effect x (AskLabel a v) = x

-- the files of a volume as the bits of a number: bit f is 1 if file f is there
abbrev pub file_bits : Geometry → State → ℕ → ℕ → ℕ
file_bits g x a v = sum_below g.files (λ f. if x.files (a, v, f) then 2 ^ f else 0)

-- the reply to a message that passes its checks
abbrev pub accepted_reply : Geometry → State → Msg → Reply
accepted_reply g x (MakeVol a v) = Done
accepted_reply g x (DropVol a v) = Done
accepted_reply g x (Create a v f) = Done
accepted_reply g x (Delete a v f) = Done
accepted_reply g x (Seal a v) = Done
accepted_reply g x (Unseal a v) = Done
accepted_reply g x (Write a v f b content) = Done
accepted_reply g x (Punch a v f b) = Done
accepted_reply g x (Read a v f b) = option_map_or Found (x.blocks (a, v, f, b)) Hole
accepted_reply g x (ListFiles a v) = Files (file_bits g x a v)
accepted_reply g x (AskUsage a v) = Usage (file_count g x a v) (block_count g x a v) (x.sealed (a, v))
accepted_reply g x AskSummary = Summary (sum_over_volumes g (λ a v. if x.made (a, v) then 1 else 0)) (sum_over_volumes g (file_count g x))
    (sum_over_volumes g (block_count g x))
accepted_reply g x (SetLabel a v bytes) = Done
accepted_reply g x (AskLabel a v) = Label (unwrap_or (x.labels (a, v)) no_label)

-- the reply to a message that changes something, by why it is refused, if it is
abbrev pub done_or_refused : Option Refusal → Reply
done_or_refused why = option_map_or Refused why Done

-- the reply to a message, and the state after it: a refusal changes nothing
abbrev pub reply_to : Geometry → State → Msg → Reply
reply_to g x m = option_map_or Refused (refusal g x m) (accepted_reply g x m)

abbrev pub next_state : Geometry → State → Msg → State
next_state g x m = option_map_or (λ why. x) (refusal g x m) (effect x m)

-- ---- messages one after the other

-- the state after all of these messages, from x on
abbrev pub state_after_all : Geometry → State → List Msg → State
state_after_all g x [] = x
state_after_all g x (m ∷ ms) = state_after_all g (next_state g x m) ms

-- ---- which messages have a record in the log

abbrev pub is_done : Reply → Bool
is_done Done = true
is_done _ = false

-- whether the log keeps a record of a message with this reply: a changing message that was carried out
abbrev pub is_recorded : Msg → Reply → Bool
is_recorded m reply = is_changing (kind m) && is_done reply

-- those messages of a list that get a record in the log, where all run one after the other from x on
abbrev pub recorded_of : Geometry → State → List Msg → List Msg
recorded_of g x [] = []
recorded_of g x (m ∷ ms) = let rest = recorded_of g (next_state g x m) ms in if is_recorded m (reply_to g x m) then m ∷ rest else rest
