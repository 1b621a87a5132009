-- Document 02, W-201: "Blocks are compared with the Rust on queues where this never arises". How many lines of `slotrun` are as document 01 has them.
-- Assumes nothing.
use Rattle.std.specs.Prelude.{Bool, false, ◌&&◌, cond, List, ℕ, zero, suc, ◌*◌, length, get_or, drop, Option, Some, None}
use Rattle.sizes.specs.Sizes.{per_timeslot, cell_octets, block_width}
use Rattle.dl_build.specs.Document01.{arises_in}
use Rattle.sched_core.specs.Questions.{Memory, sound_station}
use Rattle.sched_core.specs.Calls.{current, builds_now}
use Rattle.interpreter.specs.declared.command.Command.{Command}
use Rattle.interpreter.specs.declared.session.Session.{Session}
use Rattle.interpreter.specs.Slotrun.{memory_of, start, first_command, is_whole, first_step, behind_first}

-- whether it arises in the block of the current timeslot
unfoldable pub arises_here : Memory → Bool
arises_here m =
    let t = current m.station in
    arises_in block_width (get_or m.station.queued t 0) (drop (per_timeslot * t) m.records) (drop (cell_octets * (per_timeslot * t)) m.store)

-- a build of this station builds a block, and it arises in it; question 1 refuses a station that is not sound
unfoldable pub arises_now : Memory → Bool
arises_now m = sound_station m.station && (builds_now m.station && arises_here m)

-- it arises in a command: in a build only
abbrev pub arises_at : Command → Memory → Bool
arises_at Command.New m = false
arises_at Command.Advance m = false
arises_at Command.Request m = false
arises_at Command.Stage m = false
arises_at Command.Queue m = false
arises_at Command.Build m = arises_now m

-- in the first command of the octets
abbrev pub arises_found : Session → Option (Command × List ℕ) → Bool
arises_found s None = false
arises_found s (Some x) = arises_at x.0 (memory_of s)

abbrev pub arises_first : Session → List ℕ → Bool
arises_first s input = arises_found s (first_command input)

-- a line more before the first in which it arises, if it arises
abbrev pub line_more : Option ℕ → Option ℕ
line_more None = None
line_more (Some n) = Some (suc n)

-- the commands at the front of the octets, up to n of them: a line for each before the first in which it arises; none where it arises nowhere
unfoldable pub lines_from : ℕ → Session → List ℕ → Option ℕ
lines_from zero s input = None
lines_from (suc n) s input =
    cond (is_whole input) (cond (arises_first s input) (Some 0) (line_more (lines_from n (first_step s input).session (behind_first input)))) None

-- of a whole input: each command is an octet at least
unfoldable pub lines_as_document01 : List ℕ → Option ℕ
lines_as_document01 input = lines_from (length input) start input
