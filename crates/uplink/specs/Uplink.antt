-- Document 01, "Time" and "Uplink entry": the uplink of a station, a new one, one that steps a slot, and its soundness. Assumes nothing.
use Rattle.std.specs.Prelude.{Bool, ◌&&◌, List, ℕ, replicate}
use Rattle.sizes.specs.Sizes.{timeslots}
use Rattle.tdma_time.specs.declared.TdmaTime.{TdmaTime}
use Rattle.tdma_time.specs.Time.{next_time, valid}
use Rattle.uplink.specs.declared.Uplink.{Uplink}
use Rattle.uplink.specs.UplinkEntry.{Table, empty_table, cleared, sound_table, sound_counters}

-- the uplink of a time, a table, and the counters of usage markers
abbrev pub uplink_of : TdmaTime → Table → List ℕ → Uplink
uplink_of x tb ms = record { time = x; rows = tb; next_usage_marker = ms }

-- "a new station has a time, an empty table [..] and markers at 4"
abbrev pub new_uplink : TdmaTime → Uplink
new_uplink x = uplink_of x empty_table (replicate timeslots 4)

-- "advance steps one slot, then does `clear_ul_schedule_for_tx_time` for the new time"
abbrev pub advanced_uplink : Uplink → Uplink
advanced_uplink u = uplink_of (next_time u.time) (cleared u.rows (next_time u.time)) u.next_usage_marker

-- the uplink at the same time with another table and other counters
abbrev pub with_table : Uplink → Table → List ℕ → Uplink
with_table u tb ms = uplink_of u.time tb ms

-- question 1: "time and counters in range, no second half without a first, a marker (4–62) only in a taken entry"
unfoldable pub sound_uplink : Uplink → Bool
sound_uplink u = valid u.time && sound_table u.rows && sound_counters u.next_usage_marker
