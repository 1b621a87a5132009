-- What every call keeps: a memory that questions 1 and 2 let pass stays one. Assumes nothing.
use Rattle.std.specs.Prelude.{◌≡◌, Bool, true, false, cond, List, ℕ, ◌+◌, ◌-◌, ◌^◌, ◌<◌, length, get_or, set, Option}
use Rattle.sizes.specs.Sizes.{timeslots, queue_places, store_octets}
use Rattle.tdma_time.specs.declared.TdmaTime.{TdmaTime}
use Rattle.tdma_time.specs.Time.{Valid}
use Rattle.uplink.specs.UplinkEntry.{FourRowsOfEighteen}
use Rattle.dl_record.specs.declared.QueuedHeader.{QueuedHeader}
use Rattle.dl_queue.specs.Questions.{sound_queue}
use Rattle.sched_core.specs.Questions.{Memory, sound_station}
use Rattle.sched_core.specs.Replies.{Numbered}
use Rattle.sched_core.specs.Calls.{new_memory, advance_memory, request_call, ack_call, tma_call, build_call}

-- a sound memory, of the lengths that its types and question 2 give it
pub record SoundMemory (m : Memory) : Type 0 where
  pub station : sound_station m.station ≡ true
  pub queue : sound_queue m.station.queued m.records m.store ≡ true
  pub places : length m.records ≡ queue_places
  pub cells : length m.store ≡ store_octets
  pub table : FourRowsOfEighteen m.station.uplink.rows
  pub counters : length m.station.uplink.next_usage_marker ≡ timeslots
  pub counts : length m.station.queued ≡ timeslots
  pub octets : (i : ℕ) → get_or m.store i 0 < 2 ^ 8

-- A new station's memory is sound, and each call keeps a sound memory so, whatever its arguments.
pub record EveryCallKeeps : Type 0 where
  pub new : (x : TdmaTime) → Valid x → SoundMemory (new_memory x)
  pub advance : (m : Memory) → SoundMemory m → SoundMemory (advance_memory m).memory
  pub request : (m : Memory) (t code kind n : ℕ) → SoundMemory m → SoundMemory (request_call m t code kind n).memory
  pub ack : (m : Memory) (t kind n : ℕ) → SoundMemory m → SoundMemory (ack_call m t kind n).memory
  pub tma : (m : Memory) (t kind n : ℕ) (tag : Option ℕ) (header : QueuedHeader) (bits : ℕ) (sdu : List ℕ) → SoundMemory m
      → SoundMemory (tma_call m t kind n tag header bits sdu).memory
  pub build : (m : Memory) (block : List ℕ) → SoundMemory m → SoundMemory (build_call m block).memory

-- a call was done
abbrev pub is_done : Numbered → Bool
is_done Numbered.done = true
is_done (Numbered.refused n) = false
is_done (Numbered.granted capacity delay marker) = true
is_done (Numbered.block octets tags) = true
is_done Numbered.no_block = true
is_done (Numbered.owned o) = true
is_done (Numbered.used n marker) = true

-- the counts with one more for timeslot t
abbrev pub one_more : List ℕ → ℕ → List ℕ
one_more ns t = set ns (t - 1) (get_or ns (t - 1) 0 + 1)

-- What a call that queues leaves, whatever the memory: its count rises by one exactly if it is done, a refusal changes nothing, and no
-- length changes.
pub record CountRises (m : Memory) (t : ℕ) (after : Memory) (done : Bool) : Type 0 where
  pub count : after.station.queued ≡ cond done (one_more m.station.queued t) m.station.queued
  pub refusal : done ≡ false → after ≡ m
  pub places : length after.records ≡ length m.records
  pub cells : length after.store ≡ length m.store

-- and so does each of the three
pub record EveryCountRises : Type 0 where
  pub request : (m : Memory) (t code kind n : ℕ) → let o = request_call m t code kind n in CountRises m t o.memory (is_done o.reply)
  pub ack : (m : Memory) (t kind n : ℕ) → let o = ack_call m t kind n in CountRises m t o.memory (is_done o.reply)
  pub tma : (m : Memory) (t kind n : ℕ) (tag : Option ℕ) (header : QueuedHeader) (bits : ℕ) (sdu : List ℕ)
      → let o = tma_call m t kind n tag header bits sdu in CountRises m t o.memory (is_done o.reply)
