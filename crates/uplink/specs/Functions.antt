-- The promises of the functions, over the definitions of document 01's sections. Assumes nothing.
use Rattle.std.specs.Prelude.{Bool, cond, List, [], ◌∷◌, ℕ, ◌+◌, ◌-◌, ◌*◌, ◌/◌, ◌<◌, take, get_or, set, replicate, Option, Some, None}
use Rattle.sizes.specs.Sizes.{timeslots, frames_searched}
use Rattle.tdma_time.specs.declared.TdmaTime.{TdmaTime}
use Rattle.tdma_time.specs.Time.{slot_of, first_of, frames_on, usable_of}
use Rattle.slot_codes.specs.Codes.{slots_wanted}
use Rattle.uplink.specs.declared.Opportunity.{Opportunity}
use Rattle.uplink.specs.declared.PhyBlockNum.{PhyBlockNum}
use Rattle.uplink.specs.declared.Uplink.{Uplink}
use Rattle.uplink.specs.HalfSlot.{Half, first_half, second_half, vacant}
use Rattle.uplink.specs.Search.{Run}
use Rattle.uplink.specs.UplinkEntry.{Table, table_view}
use Rattle.uplink.specs.Uplink.{uplink_of}
use Rattle.uplink.specs.Request.{Request, earliest_run, grant, CapAnswer, given}

-- a run as the search answers it: its start, in frames after the first slot, and the slots passed over
abbrev pub as_opportunity : ℕ → Option Run → Option Opportunity
as_opportunity first None = None
as_opportunity first (Some r) = Some (record { start = (get_or r.slots 0 0 - first) / timeslots; skips = r.delay })

unfoldable pub opportunity : Table → TdmaTime → ℕ → ℕ → Bool → Option Opportunity
opportunity tb now t n half = as_opportunity (first_of t (slot_of now)) (earliest_run (table_view tb) (slot_of now) t n half)

-- the run begins, and the slots passed over stand, within the 17 frames
abbrev pub Within : Option Opportunity → Type 0
Within None = Unit {0}
Within (Some o) = (o.start < frames_searched) × (o.skips < frames_searched)

-- the n usable slots of timeslot t from `start` frames after the first slot on, within the 17 frames
unfoldable pub slots_from : TdmaTime → ℕ → ℕ → ℕ → List ℕ
slots_from now t start n = take n (usable_of (frames_on (first_of t (slot_of now) + start * timeslots) (frames_searched - start)))

-- which halves of a slot a request takes, by the holder of the first: both, or for half a slot the first if it is free, else the second
abbrev pub block_taken : Bool → Option ℕ → PhyBlockNum
block_taken half first = cond half (cond (vacant first) PhyBlockNum.Block1 PhyBlockNum.Block2) PhyBlockNum.Both

abbrev pub block_halves : PhyBlockNum → List Half
block_halves PhyBlockNum.Both = first_half ∷ second_half ∷ []
block_halves PhyBlockNum.Block1 = first_half ∷ []
block_halves PhyBlockNum.Block2 = second_half ∷ []

-- the answer where the run begins `start` frames after the first slot, with `skips` usable slots before it
unfoldable pub granted_at : Uplink → Request → ℕ → ℕ → CapAnswer
granted_at u r start skips =
    given u r (grant (record { delay = skips; slots = slots_from u.time r.timeslot start (slots_wanted r.code) }))

-- the uplink with the row of one timeslot, counted from 0, in the place of all four: a request of that timeslot cannot tell the two apart
abbrev pub row_alone : Uplink → ℕ → Uplink
row_alone u i = uplink_of u.time (replicate timeslots (get_or u.rows i [])) u.next_usage_marker

-- the uplink with that row and the counters of another
abbrev pub with_row_of : Uplink → ℕ → Uplink → Uplink
with_row_of u i v = uplink_of u.time (set u.rows i (get_or v.rows i [])) v.next_usage_marker
