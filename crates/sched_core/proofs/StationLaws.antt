-- What question 1 tells of a station. Assumes nothing.
use Rattle.std.specs.List.{list_all}
use Rattle.std.proofs.lemmas.Bool.{and_parts}
use mathlib.Core.Path.{◌≡◌, sym, ap}
use mathlib.Core.Bool.{true}
use Prim.Native.Nat.{ℕ, ◌-◌, ◌<◌, ◌≤◌}
use native.Mathlib.Omega.{arith}
use lib.ListN.{length, get_or}
use borrow.Author.Tests.{leb-true}
use Rattle.sizes.specs.Sizes.{timeslots, per_timeslot}
use Rattle.tdma_time.specs.Time.{Valid}
use Rattle.tdma_time.proofs.TimeLaws.{slot_of-timeslot}
use Rattle.uplink.specs.Uplink.{sound_uplink}
use Rattle.uplink.proofs.Everywhere.{all-at}
use Rattle.uplink.proofs.SoundLaws.{uplink-parts}
use Rattle.sched_core.specs.declared.Station.{Station}
use Rattle.sched_core.specs.Questions.{sound_count, sound_station}
use Rattle.sched_core.specs.Calls.{current}

pub record StationParts (s : Station) : Type 0 where
  pub uplink : sound_uplink s.uplink ≡ true
  pub counts : list_all sound_count s.queued ≡ true

pub station-parts : (s : Station) → sound_station s ≡ true → StationParts s
unfolding sound_station
station-parts s h = let both = and_parts (sound_uplink s.uplink) _ h in record { uplink = both.0; counts = both.1 }

pub parts-sound : (s : Station) → StationParts s → sound_station s ≡ true
unfolding sound_station
parts-sound s p = rw (p.uplink, p.counts)

-- a sound station's time is one
pub sound-time : (s : Station) → sound_station s ≡ true → Valid s.uplink.time
sound-time s h = (uplink-parts s.uplink (station-parts s h).uplink).time

-- its current timeslot is one of the four, as the time shows it
pub current-is : (s : Station) → Valid s.uplink.time → s.uplink.time.t - 1 ≡ current s
current-is s v = ap (λ (n : ℕ). n - 1) (sym (slot_of-timeslot s.uplink.time v))

pub current-low : (s : Station) → Valid s.uplink.time → current s < timeslots
current-low s v = omega (arith, current-is s v, v.t-low, v.t-high)

pub count-few : (s : Station) → sound_station s ≡ true → (t : ℕ) → t < length s.queued → get_or s.queued t 0 ≤ per_timeslot
count-few s e t h = leb-true (get_or s.queued t 0) per_timeslot (all-at sound_count s.queued t 0 h (station-parts s e).counts)

pub few-now : (s : Station) → sound_station s ≡ true → length s.queued ≡ timeslots → get_or s.queued (current s) 0 ≤ per_timeslot
few-now s e four = count-few s e (current s) (omega (arith, four, current-low s (sound-time s e)))
