-- Document 01, "Cases": the program `slotrun` as it reads: the input comes in parts, one with each read, and a part can end within a command.
-- Assumes nothing.
use Rattle.std.specs.Prelude.{Bool, true, false, cond, List, [], ◌∷◌, ◌++◌, ℕ, length, Result, Ok, Err}
use Rattle.interpreter.specs.declared.command.Command.{Command}
use Rattle.interpreter.specs.declared.command.UnknownCommand.{UnknownCommand}
use Rattle.interpreter.specs.declared.session.Session.{Session}
use Rattle.interpreter.specs.Slotrun.{command_of, start, Ran, ran, printed_before, commands, ending}

-- the parts, one behind the other: the input
unfoldable pub input_of : List (List ℕ) → List ℕ
input_of [] = []
input_of (next ∷ parts) = next ++ input_of parts

-- the commands at the front of the octets, all that are whole
abbrev pub whole_commands : Session → List ℕ → Ran
whole_commands s input = commands (length input) s input

-- A turn: the next part is put behind the octets that are left, and the commands that are whole then are done.
abbrev pub turn : Ran → List ℕ → Ran
turn r next = printed_before r.printed (whole_commands r.session (r.left ++ next))

-- the parts, turn by turn
unfoldable pub turns : Ran → List (List ℕ) → Ran
turns r [] = r
turns r (next ∷ parts) = turns (turn r next) parts

-- before the first turn: "the station is new at h 0, m 1, f 1, t 1", and nothing is printed or left
abbrev pub begun : Ran
begun = ran start [] []

-- is it no command?
abbrev pub is_none : Result Command UnknownCommand → Bool
is_none (Ok command) = false
is_none (Err e) = true

-- do the octets begin with a command that is unknown?
abbrev pub is_unknown : List ℕ → Bool
is_unknown [] = false
is_unknown (c ∷ ops) = is_none (command_of c)

-- "An unknown or cut command prints E and ends.": all that is printed where the program ends
abbrev pub at_end : Ran → List ℕ
at_end r = r.printed ++ ending r.left

-- The program from what it has come to: at an unknown command it ends and reads no further part; a command of which octets are missing is
-- cut only where there is no further part, since the next can bring them.
unfoldable pub reading_from : Ran → List (List ℕ) → List ℕ
reading_from r [] = at_end r
reading_from r (next ∷ parts) = let later = reading_from (turn r next) parts in cond (is_unknown r.left) (at_end r) later

-- the program: what it prints for the parts that it is given
abbrev pub slotrun_in_parts : List (List ℕ) → List ℕ
slotrun_in_parts parts = reading_from begun parts
