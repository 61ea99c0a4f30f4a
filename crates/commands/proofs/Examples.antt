-- What is printed of the small device, which service the arguments of examples ask for, and what is promised to a client that hangs up, and
-- over two crashes.
use Rattle.std.proofs.Common.{◌≡◌, ◌≤◌, ◌++◌, ℕ, zero, suc, Bool, true, false, List, [], ◌∷◌, Option, Some, None, Err, inl, inr, codes, ap, arith, drop, length, lit≤, refl, subst, sym, take, ◌∙◌, append-nil}
use Rattle.std.proofs.lemmas.Bool.{true≢false}
use Rattle.std.proofs.lemmas.List.{map-append}
use Rattle.std.specs.Io.KnownBytes.{Appends}
use Rattle.std.specs.Fmt.{digits}
use Rattle.std.specs.Str.{bytes_eq}
use Rattle.affinity.proofs.GeometryLemmas.{small}
use Rattle.affinity.specs.declared.geometry.Geometry.{Geometry}
use Rattle.recovery.specs.declared.inspecting.Shown.{Shown}
use Rattle.protocol.specs.Grammar.{kind_named, message_of}
use Rattle.protocol.specs.Words.{number_in_word}
use Rattle.protocol.specs.declared.replies.Reply.TheVariants.{Summary}
use Rattle.meaning.specs.Output.{answer_line, joined, output_lines, serial_output, state_after_line, state_after_lines}
use Rattle.meaning.specs.State.{State, empty}
use Rattle.device_map.specs.Layout.{image_size}
use Rattle.commands.proofs.SerialServer.{answers_are}
use Rattle.commands.specs.Lines.{formatted_line, shown_lines}
use Rattle.commands.specs.Promise.{HasRunFrom}
use Rattle.serving.specs.AnyRuns.{AreAnsweredBy, Did, IsHistoryOf, Operation, Run, answers_in, lines_in}
use Rattle.serving.specs.SerialServer.{server_in}
use Rattle.commands.specs.Services.{AsksServe, within_limits}
use Rattle.commands.specs.declared.faults.Fault.TheVariants.{Write}
use Rattle.meaning.specs.ClosedPart.{IsClosedPart, are_in_conflict}
use Rattle.arguments.proofs.Examples as given

small_is_formatted : formatted_line small ≡ codes "formatted 8840" ++ 10 ∷ []
unfolding image_size digits
small_is_formatted = refl

abbrev just_made : Shown
just_made = record { geometry = small; area = 0; records = 0; summary = Summary 0 0 0; version = 2 }

small_is_shown : shown_lines just_made ≡ (codes "geometry 1 1 2 1 2 4 2 4" ++ 10 ∷ []) ++ (codes "area 0" ++ 10 ∷ [])
    ++ (codes "records 0" ++ 10 ∷ []) ++ (codes "summary 0 0 0" ++ 10 ∷ []) ++ (codes "image 2" ++ 10 ∷ [])
unfolding digits
small_is_shown = refl

-- the program's own name is any text
asks_serve : (program : List ℕ) → AsksServe (program ∷ codes "serve" ∷ codes "d" ∷ []) (codes "d")
    (record { workers = 2; slots = 16; every = 0; few_workers = lit≤ tt; some_slot = lit≤ tt; few_slots = lit≤ tt })
asks_serve program =
    let asks = given.asks_serve program in
    (asks.0, asks.1, asks.2, ap within_limits asks.3)

asks_serve_with_numbers : (program : List ℕ) → AsksServe (program ∷ codes "serve" ∷ codes "--workers=4" ∷ codes "d" ∷ codes "--every" ∷ codes "9" ∷ []) (codes "d")
    (record { workers = 4; slots = 16; every = 9; few_workers = lit≤ tt; some_slot = lit≤ tt; few_slots = lit≤ tt })
asks_serve_with_numbers program =
    let asks = given.asks_serve_with_numbers program in
    (asks.0, asks.1, asks.2, ap within_limits asks.3)

-- ---- a client that hangs up: it has read the first answer and a part of the second, and the write of that failed

abbrev makes : List ℕ
makes = codes "makevol 0 0"

abbrev asks : List ℕ
asks = codes "summary"

-- whether the volume is there after these lines
abbrev makes_it : List (List ℕ) → Bool
makes_it ls = (state_after_lines small empty ls).made (0, 0)

-- the server wrote so much, and a crash then left a state of which `next` is true
abbrev HangsUp : (State → Type 0) → Type 0
HangsUp next = HasRunFrom small 1 empty (Err Write) (Some (codes "makevol 0 0\nsummary\n")) (Some []) (Some (codes "done\nsum")) next

the_volume_is_there : HangsUp (λ now. now.made (0, 0) ≡ true)
unfolding message_of kind_named number_in_word digits
the_volume_is_there = record {
  now = state_after_lines small empty (makes ∷ []);
  unanswered = 0;
  all = Some (codes "done\nsummary 1 0 0\n");
  written = (codes "done\nsummary 1 0 0\n", refl, (codes "done\nsum", codes "mary 1 0 0\n", refl, refl), refl);
  recovers = (
    codes "done\nsummary 1 0 0\n",
    refl,
    record {
      acknowledged = makes ∷ asks ∷ [];
      unacknowledged = [];
      first = refl;
      answers = refl;
      part = [];
      closed = refl;
      state = refl;
    },
  );
  all_answered = tt;
  goes_on = refl;
}

-- What is so of the first line, and of both, is so of the first one and a part of the other.
in_part : (so : List (List ℕ) → Bool) (b : Bool) → so (makes ∷ []) ≡ b → so (makes ∷ asks ∷ []) ≡ b → (part : List (List ℕ)) → IsClosedPart small part (asks ∷ [])
    → so (makes ∷ part) ≡ b
in_part so b one two part (inl (rest, is, none)) = ap (λ (p : List (List ℕ)). so (makes ∷ p)) (is ∙ ap (λ (r : List (List ℕ)). asks ∷ r) none) ∙ two
in_part so b one two part (inr (apart, none)) = ap (λ (p : List (List ℕ)). so (makes ∷ p)) none ∙ one

-- A part of no line or of one is a part of one.
within_one : (left : ℕ) (part others : List (List ℕ)) → left ≤ 1 → IsClosedPart small part (take left others) → IsClosedPart small part (take 1 others)
within_one zero part [] few closed = closed
within_one zero part (other ∷ others) few closed =
    inr (rw closed tt, closed)
within_one (suc zero) part others few closed = closed
within_one (suc (suc n)) part others few closed = absurd (omega (arith, few))

-- It is so after the lines whose answers begin so, whatever part of the others comes after them.
module _ (so : List (List ℕ) → Bool) (b : Bool) (one : so (makes ∷ []) ≡ b) (two : so (makes ∷ asks ∷ []) ≡ b) where
  is_so : (acknowledged others part : List (List ℕ)) (rest : List ℕ) → makes ∷ asks ∷ [] ≡ acknowledged ++ others → IsClosedPart small part (take 1 others)
      → codes "done\nsum" ++ rest ≡ joined (output_lines small empty acknowledged) → so (acknowledged ++ part) ≡ b
  is_so [] others part rest first closed answers = absurd (omega (arith, ap (λ (bs : List ℕ). length bs) answers))
  is_so (l ∷ []) others part rest first closed answers =
      subst (λ (ls : List (List ℕ)). so (ls ++ part) ≡ b) (ap (λ (ls : List (List ℕ)). take 1 ls) first)
      (in_part so b one two part (subst (λ (ls : List (List ℕ)). IsClosedPart small part (take 1 ls)) (sym (ap (λ (ls : List (List ℕ)). drop 1 ls) first)) closed))
  is_so (l ∷ m ∷ []) [] part rest first closed answers =
      subst (λ (ls : List (List ℕ)). so ls ≡ b) (first ∙ ap (λ (p : List (List ℕ)). l ∷ m ∷ p) (sym closed)) two
  is_so (l ∷ m ∷ []) (o ∷ others) part rest first closed answers = absurd (omega (arith, ap (λ (ls : List (List ℕ)). length ls) first))
  is_so (l ∷ m ∷ n ∷ ls) others part rest first closed answers = absurd (omega (arith, ap (λ (ls : List (List ℕ)). length ls) first))

makes_one : makes_it (makes ∷ []) ≡ true
unfolding message_of kind_named number_in_word
makes_one = refl

makes_both : makes_it (makes ∷ asks ∷ []) ≡ true
unfolding message_of kind_named number_in_word
makes_both = refl

begins_so : (all : Option (List ℕ)) (out rest bytes : List ℕ) → codes "done\nsum" ≡ out → Appends (Some []) all (out ++ rest) → Appends (Some []) all bytes
    → codes "done\nsum" ++ rest ≡ bytes
begins_so None out rest bytes is whole told = absurd whole
begins_so (Some all) out rest bytes is whole told = ap (λ (o : List ℕ). o ++ rest) is ∙ sym whole ∙ told

-- The acknowledged volume is not lost.
it_is_not_lost : HangsUp (λ now. now ≡ empty) → ⊥
it_is_not_lost h =
    let r = h.recovers.2 in
    let w = h.written in
    let begins = begins_so h.all w.2.0 w.2.1 h.recovers.0 w.2.3 (subst (λ (b : List ℕ). Appends (Some []) h.all b) w.2.2 w.1) h.recovers.1 in
    let few = w.3 in
    let closed = within_one h.unanswered r.part r.unacknowledged (omega (arith, few)) r.closed in
    true≢false (sym (is_so makes_it true makes_one makes_both r.acknowledged r.unacknowledged r.part w.2.1 r.first closed (begins ∙ r.answers))
    ∙ ap (λ (x : State). x.made (0, 0)) (sym r.state ∙ h.goes_on))

-- ---- two runs, one after the other, and a crash behind each

abbrev creates : List ℕ
creates = codes "create 0 0 0"

-- What these runs did is what the serial server does from the empty state on. What the crashes left isn't looked at.
abbrev AreOneServers : List Run → Type 0
AreOneServers runs = (history : List Operation) × IsHistoryOf (are_in_conflict small) runs history × AreAnsweredBy (server_in small empty) history

-- a run that answered this, and finished
abbrev asked_for_a_summary : List ℕ → Run
asked_for_a_summary summary = record { slots = 2; input = codes "summary\n"; out = summary; finished = true; left = [] }

-- The first one ended with a fault when one of two lines was answered. The second one was asked for a summary.
abbrev two_runs : List ℕ → List Run
two_runs summary =
    record { slots = 2; input = codes "makevol 0 0\ncreate 0 0 0\n"; out = codes "done\n"; finished = false; left = [] } ∷ asked_for_a_summary summary ∷ []

abbrev operation : List ℕ → List ℕ → Operation
operation line answer = record { line = line; answer = answer }

-- what the run did that was asked
finds : (summary : List ℕ) → Did (are_in_conflict small) (asked_for_a_summary summary) (operation asks summary ∷ []) []
finds summary = record {
  missing = [];
  unanswered = [];
  out = refl;
  first = refl;
  finished = λ ok. (refl, refl);
  read = 0;
  few = omega arith;
  part = refl;
}

-- The first crash left the file, too, whose line had no answer, and the second run found it.
the_file_is_found : AreOneServers (two_runs (codes "summary 1 1 0\n"))
unfolding message_of kind_named number_in_word digits
the_file_is_found =
    let made = operation makes (codes "done\n") in
    let created = operation creates (codes "done\n") in
    let asked = operation asks (codes "summary 1 1 0\n") in (
      made ∷ created ∷ asked ∷ [],
      (
        made ∷ [],
        created ∷ [],
        asked ∷ [],
        refl,
        record {
          missing = [];
          unanswered = creates ∷ [];
          out = refl;
          first = refl;
          finished = λ ok. cc ok;
          read = 2;
          few = omega arith;
          part = inl ([], refl, refl);
        },
        (asked ∷ [], [], [], refl, finds (codes "summary 1 1 0\n"), refl),
      ),
      (refl, (refl, (refl, tt))),
    )

abbrev sums_up : List (List ℕ) → List ℕ
sums_up ls = serial_output small (state_after_lines small empty ls) (codes "summary\n")

without_file : sums_up (makes ∷ []) ≡ codes "summary 1 0 0\n"
unfolding message_of kind_named number_in_word digits
without_file = refl

abbrev begins_anew : List ℕ → Bool
begins_anew bs = bytes_eq bs (codes "summary 0 0 0\n")

-- What one serial server answers to some operations and then to others, it answers to each of the two.
each_part : (g : Geometry) (x : State) (os later : List Operation) → answers_in (os ++ later) ≡ output_lines g x (lines_in (os ++ later))
    → (answers_in os ≡ output_lines g x (lines_in os)) × (answers_in later ≡ output_lines g (state_after_lines g x (lines_in os)) (lines_in later))
each_part g x [] later h = (refl, h)
each_part g x (o ∷ os) later h =
    let rest = each_part g (state_after_line g x (message_of o.line)) os later (ap (λ (ws : List (List ℕ)). drop 1 ws) h) in
    (ap (λ (ws : List (List ℕ)). take 1 ws ++ answers_in os) h ∙ ap (λ (ws : List (List ℕ)). answer_line g x (message_of o.line) ∷ ws) rest.0, rest.1)

-- One that was asked for a summary gives the serial server's.
summary_given : (summary : List ℕ) (found : State) (later : List Operation) → IsHistoryOf (are_in_conflict small) (asked_for_a_summary summary ∷ []) later
    → answers_in later ≡ output_lines small found (lines_in later) → summary ≡ joined (output_lines small found (asks ∷ []))
summary_given summary found later h whole =
    let asked = h.4 in
    let all = asked.finished refl in
    let next = each_part small found (h.0 ++ h.1) h.2 (subst (λ (os : List Operation). answers_in os ≡ output_lines small found (lines_in os)) h.3 whole) in
    let alone : asks ∷ [] ≡ lines_in h.0 = asked.first ∙ ap (λ (ls : List (List ℕ)). lines_in h.0 ++ ls) all.1 ∙ append-nil (lines_in h.0) in
    sym (append-nil summary) ∙ ap (λ (rest : List ℕ). summary ++ rest) (sym all.0) ∙ sym asked.out ∙ ap joined (each_part small found h.0 h.1 next.0).0
    ∙ ap (λ (ls : List (List ℕ)). joined (output_lines small found ls)) (sym alone)

-- A run that finished leaves no line of its input without an answer.
it_is_not_left_out : AreOneServers (asked_for_a_summary [] ∷ []) → ⊥
unfolding message_of kind_named number_in_word digits
it_is_not_left_out h = absurd (omega (arith, ap (λ (bs : List ℕ). length bs) (summary_given [] empty h.0 h.1 (answers_are small empty h.0 h.2))))

-- ---- runs that were killed, on the same lines as the client that hung up

-- A run was killed when so much had come out.
abbrev killed_at : List ℕ → Run
killed_at out = record { slots = 1; input = codes "makevol 0 0\nsummary\n"; out = out; finished = false; left = [] }

-- In the middle of the second answer. The next run finds the volume, whose line was answered.
the_second_answer_is_torn : AreOneServers (killed_at (codes "done\nsum") ∷ asked_for_a_summary (codes "summary 1 0 0\n") ∷ [])
unfolding message_of kind_named number_in_word digits
the_second_answer_is_torn =
    let made = operation makes (codes "done\n") in
    let asked = operation asks (codes "summary 1 0 0\n") in (
      made ∷ asked ∷ asked ∷ [],
      (
        made ∷ asked ∷ [],
        [],
        asked ∷ [],
        refl,
        record {
          missing = codes "mary 1 0 0\n";
          unanswered = [];
          out = refl;
          first = refl;
          finished = λ ok. cc ok;
          read = 0;
          few = lit≤ tt;
          part = refl;
        },
        (asked ∷ [], [], [], refl, finds (codes "summary 1 0 0\n"), refl),
      ),
      (refl, (refl, (refl, tt))),
    )

with_both : begins_anew (sums_up (makes ∷ asks ∷ [])) ≡ false
unfolding message_of kind_named number_in_word digits
with_both = refl

-- It can't find the volume lost.
it_is_not_lost_by_a_kill : AreOneServers (killed_at (codes "done\nsum") ∷ asked_for_a_summary (codes "summary 0 0 0\n") ∷ []) → ⊥
it_is_not_lost_by_a_kill h =
    let first = h.1 in
    let ran = first.4 in
    let whole = subst (λ (os : List Operation). answers_in os ≡ output_lines small empty (lines_in os)) first.3 (answers_are small empty h.0 h.2) in
    let parts = each_part small empty (first.0 ++ first.1) first.2 whole in
    let told = each_part small empty first.0 first.1 parts.0 in
    let begins = sym ran.out ∙ ap joined told.0 in
    let few = ran.few in
    let closed = within_one ran.read (lines_in first.1) ran.unanswered (omega (arith, few)) ran.part in
    let found = state_after_lines small empty (lines_in (first.0 ++ first.1)) in
    let sums = summary_given (codes "summary 0 0 0\n") found first.2 first.5 parts.1 in
    let were = map-append (λ (o : Operation). o.line) first.0 first.1 in
    true≢false (ap begins_anew (sums ∙ ap sums_up were)
    ∙ is_so (λ ls. begins_anew (sums_up ls)) false (ap begins_anew without_file) with_both (lines_in first.0) ran.unanswered (lines_in first.1) ran.missing ran.first closed begins)

-- Before the first answer: the crash has left no volume; or it has left the volume, whose answer did not come out.
nothing_is_answered : AreOneServers (killed_at [] ∷ killed_at [] ∷ [])
unfolding message_of kind_named number_in_word digits
nothing_is_answered =
    let made = operation makes (codes "done\n") in (
      made ∷ [],
      (
        [],
        [],
        made ∷ [],
        refl,
        record {
          missing = [];
          unanswered = makes ∷ asks ∷ [];
          out = refl;
          first = refl;
          finished = λ ok. cc ok;
          read = 1;
          few = omega arith;
          part = inr (tt, refl);
        },
        (
          [],
          made ∷ [],
          [],
          refl,
          record {
            missing = [];
            unanswered = makes ∷ asks ∷ [];
            out = refl;
            first = refl;
            finished = λ ok. cc ok;
            read = 1;
            few = omega arith;
            part = inl ([], refl, refl);
          },
          refl,
        ),
      ),
      (refl, tt),
    )
