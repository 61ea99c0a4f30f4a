-- Inner: The fields of a session as contracts see them, and what it keeps true of them between calls.
use Rattle.std.specs.Prelude.{◌≡◌, ◌==◌, ℕ, Bool, List, Option}
use Rattle.std.specs.List.{list_any}
use Rattle.disk.specs.Device.{Medium}
use Rattle.message.specs.declared.line_reader.LineReader.{LineReader}
use Rattle.message.specs.Reader.{buffered_bytes, has_ended, is_drained, source, unread}
use Rattle.serving.specs.Start.{Start}
use Rattle.serving.specs.SessionInvariant.{SessionInvariantFrom}
use Rattle.serving.specs.Session.{SessionView}
use Rattle.serving.specs.declared.session.Session.TheInside.{Inside}

-- whether the reader of lines holds a whole line, its newline included
abbrev pub holds_line : {R : Type 0} → LineReader R → Bool
holds_line r = list_any (λ b. b == 10) (buffered_bytes r.buffered)

module _ {R D L : Type 0} (remaining : R → Option (List ℕ)) (sent : L → Option (List ℕ)) (sent_at : L → Medium) where
  abbrev pub session_view : Inside R D L → SessionView
  session_view s = record {
    core = s.core;
    dispatch_seat = s.dispatch_seat;
    reorder_buffer = s.reorder_buffer;
    reply_buffer = s.reply_buffer;
    trigger = s.trigger;
    sent = sent s.sink;
    sent_at = sent_at s.sink;
    outstanding = s.outstanding;
    output_failed = s.output_failed;
    read_end = s.read_end;
    unread = unread remaining s.line_reader;
    drained = is_drained s.line_reader;
    ended = has_ended s.line_reader;
    remaining = remaining (source s.line_reader);
    holds_line = holds_line s.line_reader;
  }

  -- `keeps`: the device keeps its bytes. `start`: where the call began.
  pub record IsSession (keeps : Type 0) (start : Option Start) (s : Inside R D L) : Type 0 where
    pub run : SessionInvariantFrom keeps start (session_view s)
    pub bench : s.dispatch_seat.bench ≡ s.bench.now
