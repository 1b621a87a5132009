-- Document 01, "Time": the station, a new one, and one that steps a slot. Assumes nothing.
use Rattle.std.specs.Prelude.{List, ℕ, replicate}
use Rattle.sizes.specs.Sizes.{timeslots}
use Rattle.tdma_time.specs.declared.TdmaTime.{TdmaTime}
use Rattle.uplink.specs.declared.Uplink.{Uplink}
use Rattle.uplink.specs.Uplink.{new_uplink, advanced_uplink}
use Rattle.sched_core.specs.declared.Station.{Station}

-- the station of an uplink and the numbers of records queued for each timeslot
abbrev pub station_of : Uplink → List ℕ → Station
station_of u ns = record { uplink = u; queued = ns }

-- "a new station has a time, an empty table and queues, and markers at 4"
abbrev pub new_station : TdmaTime → Station
new_station x = station_of (new_uplink x) (replicate timeslots 0)

-- "advance steps one slot, then does `clear_ul_schedule_for_tx_time` for the new time"
abbrev pub advanced_station : Station → Station
advanced_station s = station_of (advanced_uplink s.uplink) s.queued

-- the station with other numbers of records queued
abbrev pub with_queued : Station → List ℕ → Station
with_queued s ns = station_of s.uplink ns
