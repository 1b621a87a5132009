-- How a list of records stands in arrays, with the places that they come from. Assumes nothing.
use Rattle.std.specs.Prelude.{List, [], ◌∷◌, ℕ, zero, suc, ◌+◌, length, get_or, set, drop}
use Rattle.sizes.specs.Sizes.{per_timeslot, no_place}
use Rattle.dl_record.specs.declared.Record.{Record}
use Rattle.dl_record.specs.Record.{empty_record}
use Rattle.dl_queue.specs.Queue.{Item, item, records_of}
use Rattle.dl_merge.specs.Merge.{merge, always, keep}
use Rattle.dl_merge.specs.declared.Merged.{Merged}

-- n records with the places that they stand at, from i on
unfoldable pub counted : ℕ → ℕ → List Record → List (Item ℕ)
counted i zero rs = []
counted i (suc n) rs = item (get_or rs 0 empty_record) i ∷ counted (suc i) n (drop 1 rs)

-- records merged with their places: a minimal record comes from none
abbrev pub merge_places : List (Item ℕ) → List (Item ℕ)
merge_places xs = merge (always no_place) keep xs

-- k places: the loads of a list, then none
unfoldable pub sources_of : ℕ → List (Item ℕ) → List ℕ
sources_of zero xs = []
sources_of (suc k) [] = no_place ∷ sources_of k []
sources_of (suc k) (x ∷ xs) = x.load ∷ sources_of k xs

-- a record and its place behind those that are held
abbrev pub pushed : Merged → Record → ℕ → Merged
pushed m r place = record { records = set m.records m.count r; from = set m.from m.count place; count = m.count + 1 }

-- a list of no more items than a timeslot has places, as the code holds it
abbrev pub merged_of : List (Item ℕ) → Merged
merged_of xs = record { records = records_of per_timeslot xs; from = sources_of per_timeslot xs; count = length xs }
