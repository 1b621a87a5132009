-- Demand 2 at the call: what a request is answered, whatever it is given, and what it alters. Assumes nothing.
use Rattle.std.specs.Prelude.{◌≡◌, ◌↔◌, true, false, not, List, [], ◌∷◌, ◌++◌, ℕ, ◌-◌, ◌≤◌, ◌<◌, leb, get_or, set, Option}
use Rattle.sizes.specs.Sizes.{timeslots, per_timeslot, latest_delay}
use Rattle.slot_codes.specs.Codes.{capacity_for, grant_octet}
use Rattle.uplink.specs.declared.Uplink.{Uplink}
use Rattle.uplink.specs.HalfSlot.{first_half, vacant}
use Rattle.uplink.specs.UplinkEntry.{FourRowsOfEighteen, table_view}
use Rattle.uplink.specs.Request.{Request, marker_of, answer}
use Rattle.uplink.specs.GrantedExactly.{FreeFrom, EarliestFrom, slot_of_run, Reserved}
use Rattle.dl_record.specs.declared.Record.{Record}
use Rattle.dl_record.specs.Record.{grant_record}
use Rattle.dl_record.specs.Questions.{legal_address}
use Rattle.dl_queue.specs.Queue.{Item, item, zero_cell, queues_of, enqueued}
use Rattle.dl_queue.specs.Questions.{sound_queue}
use Rattle.sched_core.specs.Station.{station_of}
use Rattle.tdma_time.specs.Time.{legal_timeslot}
use Rattle.sched_core.specs.Questions.{Memory, memory, sound_station, asks_lengths, has_room, queued_for}
use Rattle.sched_core.specs.Replies.{Numbered}
use Rattle.sched_core.specs.Calls.{Outcome, outcome, request_call}
use Rattle.sched_core.specs.Invariant.{SoundMemory}

-- ---- replies

-- "On a no, the number is the whole reply and each lent bit and the state are those that came in."
abbrev pub RefusedWith : Memory → Outcome → ℕ → Type 0
RefusedWith m o n = o ≡ outcome (Numbered.refused n) m

-- a grant of this capacity, with this delay and this marker or none
abbrev pub GrantedWith : Outcome → ℕ → ℕ → Option ℕ → Type 0
GrantedWith o capacity delay marker = o.reply ≡ Numbered.granted capacity delay marker

-- ---- the questions, "in this order"

pub record RequestAsked (m : Memory) (t code kind n : ℕ) : Type 0 where
  -- "1. Is the state sound [..]? No: 1."
  pub state : sound_station m.station ≡ false → RefusedWith m (request_call m t code kind n) 1
  -- "2. Are the lent lengths those above? No: 2."
  pub lengths : sound_station m.station ≡ true → (asks_lengths m).holds ≡ false → RefusedWith m (request_call m t code kind n) 2
  -- "Records and cells are looked at only after 2 has passed": again 1
  pub queue : sound_station m.station ≡ true → (asks_lengths m).holds ≡ true → sound_queue m.station.queued m.records m.store ≡ false
      → RefusedWith m (request_call m t code kind n) 1
  -- "3. Timeslot 1–4? No: 3."
  pub timeslot : SoundMemory m → legal_timeslot t ≡ false → RefusedWith m (request_call m t code kind n) 3
  -- "4. Requirement code 0–15? No: 4."
  pub requirement : SoundMemory m → legal_timeslot t ≡ true → leb code 15 ≡ false → RefusedWith m (request_call m t code kind n) 4
  -- "5. Address kind 0–2 and number below 2^24? No: 5."
  pub address : SoundMemory m → legal_timeslot t ≡ true → leb code 15 ≡ true → legal_address kind n ≡ false
      → RefusedWith m (request_call m t code kind n) 5
  -- "8. Fewer than sixteen queued? No: 8."
  pub room : SoundMemory m → legal_timeslot t ≡ true → leb code 15 ≡ true → legal_address kind n ≡ true
      → has_room (queued_for m.station.queued t) ≡ false → RefusedWith m (request_call m t code kind n) 8

-- a sound memory, and a valid request with a place in its queue
pub record MayBeGranted (m : Memory) (t code kind n : ℕ) : Type 0 where
  pub sound : SoundMemory m
  pub timeslot-low : 1 ≤ t
  pub timeslot-high : t ≤ timeslots
  pub requirement : code ≤ 15
  pub address : legal_address kind n ≡ true
  pub room : queued_for m.station.queued t < per_timeslot

-- ---- a grant

-- what the search is asked
abbrev pub search_for : ℕ → ℕ → ℕ → Request
search_for t code n = record { timeslot = t; code = code; number = n }

-- the capacity of the run that has i usable slots before it: of half a slot "the first half before the second"
abbrev pub capacity_at : Uplink → Request → ℕ → ℕ
capacity_at u r i = capacity_for r.code (not (vacant (table_view u.rows (slot_of_run u r i 0) first_half)))

-- the record that is queued for it: "a grant its octet and marker"
abbrev pub grant_at : Uplink → ℕ → Request → ℕ → Record
grant_at u kind r i = grant_record kind r.number (grant_octet (capacity_at u r i) i) (marker_of u.next_usage_marker r)

-- the records of each timeslot with their cells, as the memory holds them
abbrev pub queues_in : Memory → List (List (Item (List ℕ)))
queues_in m = queues_of m.station.queued m.records m.store

-- Request r is granted the run that has i usable slots before it, with outcome o.
pub record GrantedRun (m : Memory) (kind : ℕ) (r : Request) (o : Outcome) (i : ℕ) : Type 0 where
  -- "Delay 0–13 is the number of usable slots passed over"; "Two or more slots draw a usage marker"
  pub reply : GrantedWith o (capacity_at m.station.uplink r i) i (marker_of m.station.uplink.next_usage_marker r)
  -- table and counters are altered for this run, and nothing else of them
  pub uplink : o.memory.station.uplink ≡ (answer m.station.uplink r).uplink
  pub reserved : Reserved m.station.uplink r i
  -- "The uplink table is four rows of eighteen entries"
  pub shape : FourRowsOfEighteen o.memory.station.uplink.rows
  -- the grant is the last of its timeslot's queue, and the other queues are as they were
  pub queued : queues_in o.memory
      ≡ set (queues_in m) (r.timeslot - 1) (get_or (queues_in m) (r.timeslot - 1) [] ++ item (grant_at m.station.uplink kind r i) zero_cell ∷ [])
  -- it stands at the place behind them, and no other part of the memory changes
  pub others : let q = enqueued m.station.queued m.records (r.timeslot - 1) (grant_at m.station.uplink kind r i) in
      o.memory ≡ memory (station_of o.memory.station.uplink q.counts) q.records m.store

-- ---- questions 9 and 10

pub record RequestGranted (m : Memory) (kind : ℕ) (r : Request) (o : Outcome) : Type 0 where
  -- where the earliest run has at most 13 usable slots before it, it is granted
  pub granted : (i : ℕ) → EarliestFrom m.station.uplink r i → i ≤ latest_delay → GrantedRun m kind r o i
  -- and a request is granted only then
  pub only_then : (capacity delay : ℕ) (marker : Option ℕ) → GrantedWith o capacity delay marker
      → EarliestFrom m.station.uplink r delay × (delay ≤ latest_delay)
  -- "9. Does the run exist? No: 9.": exactly when there is none
  pub no-run : RefusedWith m o 9 ↔ ((i : ℕ) → FreeFrom m.station.uplink r i → ⊥)
  -- "10. At most 13 before it? No: 10.": exactly when more stand before the earliest
  pub too-late : RefusedWith m o 10 ↔ ((i : ℕ) × EarliestFrom m.station.uplink r i × (latest_delay < i))

-- Each question is asked in its order, of any memory and whatever the request; and one that they let pass is granted exactly when its slots
-- are free in succession within the 17 frames, with at most 13 usable slots before the earliest such run.
pub record Demand2AtCall (m : Memory) (t code kind n : ℕ) : Type 0 where
  pub asked : RequestAsked m t code kind n
  pub exactly : MayBeGranted m t code kind n → RequestGranted m kind (search_for t code n) (request_call m t code kind n)
