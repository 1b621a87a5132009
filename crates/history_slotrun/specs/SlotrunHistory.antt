-- What `slotrun` reads is a history, so that demand 3 is a claim about it. Assumes nothing.
use Rattle.std.specs.Prelude.{◌≡◌, List, ℕ}
use Rattle.tdma_time.specs.Time.{Valid}
use Rattle.history.specs.Memory.{memory_at}
use Rattle.history.specs.Demand3.{Demand3}
use Rattle.interpreter.specs.Slotrun.{memory_of, start, commands}
use Rattle.history_slotrun.specs.Events.{Event, events, History, first_history, history_of, text_of}

-- up to n commands of an input, and the history that they make from the last new station on
abbrev pub events_read : ℕ → List ℕ → List Event
events_read n input = events n start.stage input

abbrev pub history_read : ℕ → List ℕ → History
history_read n input = history_of first_history (events_read n input)

-- At every point of a run, that is after n commands of any input:
pub record SlotrunHistory (n : ℕ) (input : List ℕ) : Type 0 where
  -- the station began at a valid time,
  pub valid : Valid (history_read n input).begun
  -- state, queue and store are those of the history,
  pub memory : memory_of (commands n start input).session ≡ memory_at (history_read n input).begun (history_read n input).calls
  -- of which demand 3 holds,
  pub demand3 : Demand3 (history_read n input).begun (history_read n input).calls
  -- and what was printed is a line for each command, with the replies of the histories' calls
  pub printed : (commands n start input).printed ≡ text_of first_history (events_read n input)
