-- Document 01, "Cases": the program `slotrun`, from the octets that it reads to the octets that it prints. Assumes nothing.
use Rattle.std.specs.Prelude.{Bool, true, false, cond, List, [], ◌∷◌, ◌++◌, ℕ, zero, suc, ◌+◌, ◌*◌, eqb, leb, length, get_or, drop, replicate}
use Rattle.std.specs.Prelude.{Option, None, Some, Result, Ok, Err}
use Rattle.sizes.specs.Sizes.{block_octets}
use Rattle.tdma_time.specs.declared.TdmaTime.{TdmaTime}
use Rattle.uplink.specs.UplinkEntry.{marker_or_zero}
use Rattle.bitbuffer.specs.Bits.{written, part}
use Rattle.dl_record.specs.Record.{empty_header}
use Rattle.sched_core.specs.Questions.{Memory, memory}
use Rattle.sched_core.specs.Replies.{Numbered, reply_number}
use Rattle.sched_core.specs.Calls.{new_call, new_memory, advance_memory, request_call, tma_call, build_call}
use Rattle.sched_core.specs.Invariant.{is_done}
use Rattle.interpreter.specs.declared.command.Command.{Command}
use Rattle.interpreter.specs.declared.command.UnknownCommand.{UnknownCommand}
use Rattle.interpreter.specs.declared.session.Session.{Session}
use Rattle.interpreter.specs.Text.{number, numbers, hex, line}

-- ---- what the commands work on

-- state, queue and store, and the staged SDU
abbrev pub memory_of : Session → Memory
memory_of s = memory s.station s.queue s.store

abbrev pub session : Memory → List ℕ → Session
session m stage = record { station = m.station; queue = m.records; store = m.store; stage = stage }

-- "Until a first 54 is accepted the station is new at h 0, m 1, f 1, t 1"
abbrev pub first_time : TdmaTime
first_time = record { h = 0; m = 1; f = 1; t = 1 }

-- "A staged SDU is 256 octets, all zero at the start."
abbrev pub stage_octets : ℕ
stage_octets = 256

abbrev pub start : Session
start = session (new_memory first_time) (replicate stage_octets 0)

-- ---- commands

-- "commands of one octet": 54 (T), 41 (A), 52 (R), 53 (S), 51 (Q), 42 (B) hexadecimal
unfoldable pub command_of : ℕ → Result Command UnknownCommand
command_of c =
    cond (eqb c 84) (Ok Command.New)
    (cond (eqb c 65) (Ok Command.Advance)
    (cond (eqb c 82) (Ok Command.Request)
    (cond (eqb c 83) (Ok Command.Stage) (cond (eqb c 81) (Ok Command.Queue) (cond (eqb c 66) (Ok Command.Build) (Err (record { 0 = c })))))))

-- "with fixed operands": "54 new (h 2, m, f, t), 41 advance, 52 request (timeslot, code, address kind, number 4), 53 stage (index 0–7,
-- 32 octets), 51 queue a record (timeslot, address kind, number 4, tag 2, bits 2, ..), 42 build": how many octets
abbrev pub operand_count : Command → ℕ
operand_count Command.New = 5
operand_count Command.Advance = 0
operand_count Command.Request = 7
operand_count Command.Stage = 33
operand_count Command.Queue = 10
operand_count Command.Build = 0

-- the command of an octet, where its operands are in the octets behind it
abbrev pub with_operands : Result Command UnknownCommand → List ℕ → Option (Command × List ℕ)
with_operands (Ok command) ops = cond (leb (operand_count command) (length ops)) (Some (command, ops)) None
with_operands (Err e) ops = None

-- the command at the front of the octets, if it is whole, and the octets behind its own
abbrev pub first_command : List ℕ → Option (Command × List ℕ)
first_command [] = None
first_command (c ∷ ops) = with_operands (command_of c) ops

-- "high octet first": the number of one, two or four octets at place i of the operands
abbrev pub octet : List ℕ → ℕ → ℕ
octet ops i = get_or ops i 0

abbrev pub two_octets : List ℕ → ℕ → ℕ
two_octets ops i = 256 * octet ops i + octet ops (i + 1)

abbrev pub four_octets : List ℕ → ℕ → ℕ
four_octets ops i = 65536 * two_octets ops i + two_octets ops (i + 2)

-- ---- what a command does and prints

-- the line that a command prints, and the memory after it
pub record Printed : Type 0 where
  pub line : List ℕ
  pub memory : Memory

abbrev pub prints : List ℕ → Memory → Printed
prints text m = record { line = text; memory = m }

-- "54 new (h 2, m, f, t)"; "a 54 with a bad time prints 1"
abbrev pub time_given : List ℕ → TdmaTime
time_given ops = record { h = two_octets ops 0; m = octet ops 2; f = octet ops 3; t = octet ops 4 }

unfoldable pub new_step : Memory → List ℕ → Printed
new_step m ops =
    let reply = (new_call (time_given ops)).reply in
    prints (line 84 (number (reply_number reply))) (cond (is_done reply) (new_memory (time_given ops)) m)

-- "41 advance"
unfoldable pub advance_step : Memory → Printed
advance_step m = let o = advance_memory m in prints (line 65 (number (reply_number o.reply))) o.memory

-- "after a 0 only, for R capacity, delay, marker or 0"
abbrev pub grant_fields : Numbered → List ℕ
grant_fields Numbered.done = number 0
grant_fields (Numbered.refused n) = number n
grant_fields (Numbered.granted capacity delay marker) = number 0 ++ number capacity ++ number delay ++ number (marker_or_zero marker)
grant_fields (Numbered.block octets tags) = number 0
grant_fields Numbered.no_block = number 0
grant_fields (Numbered.owned o) = number 0
grant_fields (Numbered.used n marker) = number 0

-- "52 request (timeslot, code, address kind, number 4)"
unfoldable pub request_step : Memory → List ℕ → Printed
request_step m ops =
    let o = request_call m (octet ops 0) (octet ops 1) (octet ops 2) (four_octets ops 3) in
    prints (line 82 (grant_fields o.reply)) o.memory

-- "53 stage (index 0–7, 32 octets)"; "An index above 7 prints 7.": the stage after it, and its line
unfoldable pub staged : List ℕ → List ℕ → List ℕ
staged stage ops = cond (leb (octet ops 0) 7) (written stage (32 * octet ops 0) (part ops 1 32)) stage

unfoldable pub stage_line : List ℕ → List ℕ
stage_line ops = line 83 (number (cond (leb (octet ops 0) 7) 0 7))

-- "51 queue a record (timeslot, address kind, number 4, tag 2, bits 2, taken from stage; no other header part)"
unfoldable pub queue_step : Memory → List ℕ → List ℕ → Printed
queue_step m stage ops =
    let o = tma_call m (octet ops 0) (octet ops 1) (four_octets ops 2) (Some (two_octets ops 6)) empty_header (two_octets ops 8) stage in
    prints (line 81 (number (reply_number o.reply))) o.memory

-- "for B the block or -, then tags in decimal"
abbrev pub block_fields : Numbered → List ℕ
block_fields Numbered.done = number 0
block_fields (Numbered.refused n) = number n
block_fields (Numbered.granted capacity delay marker) = number 0
block_fields (Numbered.block octets tags) = number 0 ++ 32 ∷ hex octets ++ numbers tags
block_fields Numbered.no_block = number 0 ++ 32 ∷ 45 ∷ []
block_fields (Numbered.owned o) = number 0
block_fields (Numbered.used n marker) = number 0

-- "42 build", into a block of zeros
unfoldable pub build_step : Memory → Printed
build_step m = let o = build_call m (replicate block_octets 0) in prints (line 66 (block_fields o.reply)) o.memory

-- what a command comes to: the session after it, and the line that it prints
pub record Step : Type 0 where
  pub session : Session
  pub line : List ℕ

-- of a command that leaves the stage
abbrev pub stage_kept : Session → Printed → Step
stage_kept s o = record { session = session o.memory s.stage; line = o.line }

-- as the code answers it
abbrev pub stepped : Session → List ℕ → Step
stepped s text = record { session = s; line = text }

unfoldable pub step : Session → Command → List ℕ → Step
step s Command.New ops = stage_kept s (new_step (memory_of s) ops)
step s Command.Advance ops = stage_kept s (advance_step (memory_of s))
step s Command.Request ops = stage_kept s (request_step (memory_of s) ops)
step s Command.Stage ops = record { session = session (memory_of s) (staged s.stage ops); line = stage_line ops }
step s Command.Queue ops = stage_kept s (queue_step (memory_of s) s.stage ops)
step s Command.Build ops = stage_kept s (build_step (memory_of s))

-- ---- a run

abbrev pub is_found : Option (Command × List ℕ) → Bool
is_found None = false
is_found (Some x) = true

-- do the octets begin with a whole command?
abbrev pub is_whole : List ℕ → Bool
is_whole input = is_found (first_command input)

-- the step of the first command, and the octets behind it
abbrev pub step_found : Session → Option (Command × List ℕ) → Step
step_found s None = record { session = s; line = [] }
step_found s (Some x) = step s x.0 x.1

abbrev pub first_step : Session → List ℕ → Step
first_step s input = step_found s (first_command input)

abbrev pub behind_found : Option (Command × List ℕ) → List ℕ
behind_found None = []
behind_found (Some x) = drop (operand_count x.0) x.1

abbrev pub behind_first : List ℕ → List ℕ
behind_first input = behind_found (first_command input)

-- what a run has come to: the session, what it printed, and the octets from the first command on that is unknown or cut
pub record Ran : Type 0 where
  pub session : Session
  pub printed : List ℕ
  pub left : List ℕ

abbrev pub ran : Session → List ℕ → List ℕ → Ran
ran s printed left = record { session = s; printed = printed; left = left }

-- a run with a text printed before it
abbrev pub printed_before : List ℕ → Ran → Ran
printed_before text r = ran r.session (text ++ r.printed) r.left

-- the commands at the front of the octets, up to n of them
unfoldable pub commands : ℕ → Session → List ℕ → Ran
commands zero s input = ran s [] input
commands (suc n) s input =
    let x : Step = first_step s input in
    let r : Ran = commands n x.session (behind_first input) in
    cond (is_whole input) (ran r.session (x.line ++ r.printed) r.left) (ran s [] input)

-- "An unknown or cut command prints E and ends."
abbrev pub ending : List ℕ → List ℕ
ending [] = []
ending (c ∷ ops) = 69 ∷ 10 ∷ []

-- the program: each command is an octet at least, so the octets are as many as the commands can be
unfoldable pub slotrun : List ℕ → List ℕ
slotrun input = let r = commands (length input) start input in r.printed ++ ending r.left
