-- Document 01, "Cases": the commands that `slotrun` reads, as new stations and calls of histories. Assumes nothing.
use Rattle.std.specs.Prelude.{cond, List, [], ◌∷◌, ◌++◌, ℕ, zero, suc, replicate, Option, None, Some}
use Rattle.sizes.specs.Sizes.{block_octets}
use Rattle.tdma_time.specs.declared.TdmaTime.{TdmaTime}
use Rattle.tdma_time.specs.Time.{valid}
use Rattle.dl_record.specs.Record.{empty_header}
use Rattle.sched_core.specs.Replies.{Numbered, reply_number}
use Rattle.history.specs.Call.{Call, advance, request, enqueue_ack, enqueue_record, build, read}
use Rattle.history.specs.Memory.{memory_step, memory_at}
use Rattle.interpreter.specs.declared.command.Command.{Command}
use Rattle.interpreter.specs.Text.{number, line}
use Rattle.interpreter.specs.Slotrun.{first_time, first_command, octet, two_octets, four_octets, time_given}
use Rattle.interpreter.specs.Slotrun.{grant_fields, staged, stage_line, block_fields, is_whole, behind_first}

-- ---- what is read

-- a new station, a call, octets staged, or no command
pub data Event : Type 0 where
  begins : TdmaTime → Event
  calls : Call → Event
  stages : List ℕ → Event
  unknown : Event

-- "54 new .. 41 advance, 52 request .. 53 stage .. 51 queue a record .. taken from stage; no other header part .. 42 build": a command with its operands
abbrev pub event_of : List ℕ → Command → List ℕ → Event
event_of stage Command.New ops = begins (time_given ops)
event_of stage Command.Advance ops = calls advance
event_of stage Command.Request ops =
    calls (request (record { timeslot = octet ops 0; code = octet ops 1; kind = octet ops 2; number = four_octets ops 3 }))
event_of stage Command.Stage ops = stages ops
event_of stage Command.Queue ops =
    calls (enqueue_record (record {
      timeslot = octet ops 0;
      kind = octet ops 1;
      number = four_octets ops 2;
      tag = Some (two_octets ops 6);
      header = empty_header;
      bits = two_octets ops 8;
      octets = stage;
    }))
event_of stage Command.Build ops = calls (build (replicate block_octets 0))

abbrev pub event_found : List ℕ → Option (Command × List ℕ) → Event
event_found stage None = unknown
event_found stage (Some x) = event_of stage x.0 x.1

abbrev pub first_event : List ℕ → List ℕ → Event
first_event stage input = event_found stage (first_command input)

-- only a 53 alters the stage
abbrev pub stage_after : List ℕ → Event → List ℕ
stage_after stage (begins x) = stage
stage_after stage (calls c) = stage
stage_after stage (stages ops) = staged stage ops
stage_after stage unknown = stage

-- the commands at the front of the octets, up to n of them
unfoldable pub events : ℕ → List ℕ → List ℕ → List Event
events zero stage input = []
events (suc n) stage input =
    let e : Event = first_event stage input in
    let later : List Event = events n (stage_after stage e) (behind_first input) in
    cond (is_whole input) (e ∷ later) []

-- ---- the history that they make

-- "a list of calls [..] on a new station at any valid time"
pub record History : Type 0 where
  pub begun : TdmaTime
  pub calls : List Call

abbrev pub history : TdmaTime → List Call → History
history x cs = record { begun = x; calls = cs }

-- "Until a first 54 is accepted the station is new at h 0, m 1, f 1, t 1"
abbrev pub first_history : History
first_history = history first_time []

-- "a second new station begins another history"; "a 54 with a bad time" does not
abbrev pub history_after : History → Event → History
history_after h (begins x) = cond (valid x) (history x []) h
history_after h (calls c) = history h.begun (h.calls ++ c ∷ [])
history_after h (stages ops) = h
history_after h unknown = h

unfoldable pub history_of : History → List Event → History
history_of h [] = h
history_of h (e ∷ es) = history_of (history_after h e) es

-- ---- what is printed

-- "Fields: the command's letter, number (0 done)": A, R, Q, B. The other calls are no commands.
abbrev pub letter_of : Call → ℕ
letter_of advance = 65
letter_of (request a) = 82
letter_of (enqueue_ack o) = 0
letter_of (enqueue_record o) = 81
letter_of (build b) = 66
letter_of (read q) = 0

-- "after a 0 only, for R capacity, delay, marker or 0; for B the block or -, then tags in decimal"
abbrev pub fields_of : Call → Numbered → List ℕ
fields_of advance r = number (reply_number r)
fields_of (request a) r = grant_fields r
fields_of (enqueue_ack o) r = []
fields_of (enqueue_record o) r = number (reply_number r)
fields_of (build b) r = block_fields r
fields_of (read q) r = []

-- the line of a command: a call's has the reply that the history gives it; "a 54 with a bad time prints 1"
abbrev pub line_of : History → Event → List ℕ
line_of h (begins x) = line 84 (number (cond (valid x) 0 1))
line_of h (calls c) = line (letter_of c) (fields_of c (memory_step c (memory_at h.begun h.calls)).reply)
line_of h (stages ops) = stage_line ops
line_of h unknown = []

-- the lines in order
unfoldable pub text_of : History → List Event → List ℕ
text_of h [] = []
text_of h (e ∷ es) = line_of h e ++ text_of (history_after h e) es
