-- Document 01, "Queued record": "an SDU moves with its record": the cells of a timeslot in a new order. Assumes nothing.
use Rattle.std.specs.Prelude.{cond, List, [], ◌∷◌, ◌++◌, ℕ, ◌*◌, ltb, drop, take}
use Rattle.std.proofs.Math.Seq.{paste}
use Rattle.sizes.specs.Sizes.{per_timeslot, cell_octets, timeslot_octets}
use Rattle.dl_queue.specs.Queue.{zero_cell}

-- the cells of the timeslot whose first place is `first`
abbrev pub cells_at : List ℕ → ℕ → List ℕ
cells_at s first = take timeslot_octets (drop (cell_octets * first) s)

-- the cell at one of a timeslot's places, a zero cell for none
unfoldable pub source_cell : List ℕ → ℕ → List ℕ
source_cell s f = cond (ltb f per_timeslot) (take cell_octets (drop (cell_octets * f) s)) zero_cell

-- the cells of these places, one after another
unfoldable pub arranged : List ℕ → List ℕ → List ℕ
arranged s [] = []
arranged s (f ∷ fs) = source_cell s f ++ arranged s fs

-- a store whose timeslot has them
abbrev pub moved : List ℕ → ℕ → List ℕ → List ℕ
moved s first from = paste s (cell_octets * first) (arranged (cells_at s first) from) timeslot_octets
