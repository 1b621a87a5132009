-- Document 01, "Questions put to each call", 1 for the records, cells and unfilled places. Assumes nothing.
use Rattle.std.specs.Prelude.{Bool, true, false, ◌&&◌, List, [], ◌∷◌, ℕ, zero, suc, leb, get_or, drop, take}
use Rattle.sizes.specs.Sizes.{per_timeslot, cell_octets, timeslot_octets}
use Rattle.dl_record.specs.declared.Record.{Record}
use Rattle.dl_record.specs.Record.{empty_record}
use Rattle.dl_record.specs.Questions.{sound_record, is_empty}
use Rattle.dl_sdu_store.specs.Cells.{clean_past}
use Rattle.dl_queue.specs.Queue.{Item}

-- the record of a place: a sound one if the place is filled, else the empty one
abbrev pub sound_in : Bool → Record → Bool
sound_in true r = sound_record r
sound_in false r = is_empty r

-- "Cell bits past the SDU are zero, and a place not filled holds the empty record .. and a zero cell."
unfoldable pub sound_place : Bool → Record → List ℕ → Bool
sound_place filled r cell = sound_in filled r && clean_past r.bits cell

-- "A timeslot's records fill its places from the first": k places, of which the first n are filled
unfoldable pub sound_places : ℕ → ℕ → List Record → List ℕ → Bool
sound_places zero n rs s = true
sound_places (suc k) zero rs s = sound_place false (get_or rs 0 empty_record) (take cell_octets s) && sound_places k zero (drop 1 rs) (drop cell_octets s)
sound_places (suc k) (suc n) rs s = sound_place true (get_or rs 0 empty_record) (take cell_octets s) && sound_places k n (drop 1 rs) (drop cell_octets s)

-- "counts up to 16, stored records passing 5–7, .. records, cells and unfilled places as said above": sixteen places to each count
unfoldable pub sound_queue : List ℕ → List Record → List ℕ → Bool
sound_queue [] rs s = true
sound_queue (n ∷ ns) rs s = leb n per_timeslot && sound_places per_timeslot n rs s && sound_queue ns (drop per_timeslot rs) (drop timeslot_octets s)

-- every record of a list is sound, and so is its cell
unfoldable pub sound_items : List (Item (List ℕ)) → Bool
sound_items [] = true
sound_items (x ∷ xs) = sound_place true x.rec x.load && sound_items xs
