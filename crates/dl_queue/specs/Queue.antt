-- Document 01, "Queued record": the queue of 64 records and the store of 64 cells, as the lists of the four timeslots. Assumes nothing.
use Rattle.std.specs.Prelude.{◌≡◌, List, [], ◌∷◌, ◌++◌, ℕ, zero, suc, ◌+◌, ◌*◌, length, get_or, set, drop, take, replicate}
use Rattle.std.proofs.Math.Seq.{paste}
use Rattle.sizes.specs.Sizes.{per_timeslot, cell_octets, timeslot_octets}
use Rattle.dl_record.specs.declared.Record.{Record}
use Rattle.dl_record.specs.Record.{empty_record}

-- a record with what goes with it: its cell, the place that it comes from, or the name of its grant
pub record Item (C : Type 0) : Type 0 where
  pub rec : Record
  pub load : C

abbrev pub item : {C : Type 0} → Record → C → Item C
item r c = record { rec = r; load = c }

-- "The SDU store is 64 cells of 256 octets, one to a place."
unfoldable pub zero_cell : List ℕ
zero_cell = replicate cell_octets 0

-- "A timeslot's records fill its places from the first": the first n records of a run of places, each with its cell
unfoldable pub queue_of : ℕ → List Record → List ℕ → List (Item (List ℕ))
queue_of zero rs s = []
queue_of (suc n) rs s = item (get_or rs 0 empty_record) (take cell_octets s) ∷ queue_of n (drop 1 rs) (drop cell_octets s)

-- "sixteen to a timeslot": the lists of all timeslots, with these counts
unfoldable pub queues_of : List ℕ → List Record → List ℕ → List (List (Item (List ℕ)))
queues_of [] rs s = []
queues_of (n ∷ ns) rs s = queue_of n rs s ∷ queues_of ns (drop per_timeslot rs) (drop timeslot_octets s)

-- and back: k places that a list fills from the first; "a place not filled holds the empty record .. and a zero cell"
unfoldable pub records_of : {C : Type 0} → ℕ → List (Item C) → List Record
records_of {C} zero xs = []
records_of {C} (suc k) [] = empty_record ∷ records_of {C = C} k []
records_of {C} (suc k) (x ∷ xs) = x.rec ∷ records_of k xs

unfoldable pub cells_of : ℕ → List (Item (List ℕ)) → List ℕ
cells_of zero xs = []
cells_of (suc k) [] = zero_cell ++ cells_of k []
cells_of (suc k) (x ∷ xs) = x.load ++ cells_of k xs

unfoldable pub all_records : List (List (Item (List ℕ))) → List Record
all_records [] = []
all_records (xs ∷ xss) = records_of per_timeslot xs ++ all_records xss

unfoldable pub all_cells : List (List (Item (List ℕ))) → List ℕ
all_cells [] = []
all_cells (xs ∷ xss) = cells_of per_timeslot xs ++ all_cells xss

-- ---- what queueing and building leave; timeslots counted from 0

-- the number of records queued for each timeslot, and the places
pub record Queue : Type 0 where
  pub counts : List ℕ
  pub records : List Record

-- the place behind a timeslot's records
abbrev pub next_place : List ℕ → ℕ → ℕ
next_place ns t = per_timeslot * t + get_or ns t 0

-- a record joins the end of a timeslot's queue, with its cell
abbrev pub enqueued : List ℕ → List Record → ℕ → Record → Queue
enqueued ns rs t r = record { counts = set ns t (get_or ns t 0 + 1); records = set rs (next_place ns t) r }

abbrev pub with_cell : List ℕ → List ℕ → ℕ → List ℕ → List ℕ
with_cell s ns t c = paste s (cell_octets * next_place ns t) c cell_octets

-- a list takes the place of a timeslot's queue, with its cells
abbrev pub with_queue : {C : Type 0} → List ℕ → List Record → ℕ → List (Item C) → Queue
with_queue ns rs t xs = record { counts = set ns t (length xs); records = paste rs (per_timeslot * t) (records_of per_timeslot xs) per_timeslot }

abbrev pub with_cells : List ℕ → ℕ → List (Item (List ℕ)) → List ℕ
with_cells s t xs = paste s (cell_octets * (per_timeslot * t)) (cells_of per_timeslot xs) timeslot_octets

-- every load is a cell
unfoldable pub Cells : List (Item (List ℕ)) → Type 0
Cells [] = Unit
Cells (x ∷ xs) = (length x.load ≡ cell_octets) × Cells xs
