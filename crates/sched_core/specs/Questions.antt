-- Document 01, "Questions put to each call": 1 to 8, and which are put to each call. A question is named `asks..`, the test it makes
-- by what it finds. Assumes nothing.
use Rattle.std.specs.Prelude.{Bool, ◌&&◌, List, [], ◌∷◌, ◌++◌, ℕ, ◌-◌, leb, ltb, eqb, length, get_or}
use Rattle.std.specs.List.{list_all}
use Rattle.sizes.specs.Sizes.{per_timeslot, queue_places, store_octets, block_octets}
use Rattle.questions.specs.Questions.{Question, question}
use Rattle.tdma_time.specs.declared.TdmaTime.{TdmaTime}
use Rattle.tdma_time.specs.Time.{valid, legal_timeslot}
use Rattle.uplink.specs.Uplink.{sound_uplink}
use Rattle.mac_pdus.specs.Legal.{legal_offered}
use Rattle.dl_record.specs.declared.Record.{Record}
use Rattle.dl_record.specs.Record.{resource_of}
use Rattle.dl_record.specs.Questions.{legal_address, present_sdu}
use Rattle.dl_queue.specs.Questions.{sound_queue}
use Rattle.sched_core.specs.declared.Station.{Station}

-- what a call works on: the station, the queue of records and the SDU store
pub record Memory : Type 0 where
  pub station : Station
  pub records : List Record
  pub store : List ℕ

abbrev pub memory : Station → List Record → List ℕ → Memory
memory s rs st = record { station = s; records = rs; store = st }

-- "counts up to 16"
abbrev pub sound_count : ℕ → Bool
sound_count n = leb n per_timeslot

-- "1. Is the state sound: time and counters in range, no second half without a first, a marker (4–62) only in a taken entry, counts up to 16"
unfoldable pub sound_station : Station → Bool
sound_station s = sound_uplink s.uplink && list_all sound_count s.queued

abbrev pub asks_station : Station → Question
asks_station s = question (sound_station s) 1

-- "a time given to the call is judged here too"
abbrev pub asks_time : TdmaTime → Question
asks_time x = question (valid x) 1

-- "2. Are the lent lengths those above?": "a lent run of 64 records", "64 cells of 256 octets"
abbrev pub asks_lengths : Memory → Question
asks_lengths m = question (eqb (length m.records) queue_places && eqb (length m.store) store_octets) 2

-- and of the block: "268 bits in 34 octets"
abbrev pub asks_block : List ℕ → Question
asks_block block = question (eqb (length block) block_octets) 2

-- "Records and cells are looked at only after 2 has passed"
abbrev pub asks_queue : Memory → Question
asks_queue m = question (sound_queue m.station.queued m.records m.store) 1

-- "3. Timeslot 1–4?"
abbrev pub asks_timeslot : ℕ → Question
asks_timeslot t = question (legal_timeslot t) 3

-- "4. Requirement code 0–15?"
abbrev pub asks_requirement : ℕ → Question
asks_requirement code = question (leb code 15) 4

-- "5. Address kind 0–2 and number below 2^24?"
abbrev pub asks_address : ℕ → ℕ → Question
asks_address kind n = question (legal_address kind n) 5

-- "6. Header legal? [..] in a queued record an address and no label; in one offered to the queue no grant."
abbrev pub asks_header : Record → Question
asks_header r = question (legal_offered (resource_of r 0 0)) 6

-- "7. SDU at most 2,048 bits and present in the lent octets?"
abbrev pub asks_sdu : ℕ → List ℕ → Question
asks_sdu bits sdu = question (present_sdu bits sdu) 7

-- "8. Fewer than sixteen queued?": of that many
abbrev pub has_room : ℕ → Bool
has_room queued = ltb queued per_timeslot

abbrev pub asks_room : ℕ → Question
asks_room queued = question (has_room queued) 8

-- how many are queued for timeslot t, by the counts
abbrev pub queued_for : List ℕ → ℕ → ℕ
queued_for ns t = get_or ns (t - 1) 0

-- ---- "Only those that apply, in this order."

-- Put first to a call that has the queue: 1 for the state, 2 with the further lengths lent to it, and 1 for records and cells.
abbrev pub memory_questions : Memory → List Question → List Question
memory_questions m lent = asks_station m.station ∷ asks_lengths m ∷ lent ++ asks_queue m ∷ []

-- Then its own, where so many are queued for the timeslot: those put to a request,
abbrev pub request_questions : ℕ → ℕ → ℕ → ℕ → ℕ → List Question
request_questions queued t code kind n = asks_timeslot t ∷ asks_requirement code ∷ asks_address kind n ∷ asks_room queued ∷ []

-- to an ack,
abbrev pub ack_questions : ℕ → ℕ → ℕ → ℕ → List Question
ack_questions queued t kind n = asks_timeslot t ∷ asks_address kind n ∷ asks_room queued ∷ []

-- and to a record that is offered with its SDU.
abbrev pub tma_questions : ℕ → ℕ → Record → List ℕ → List Question
tma_questions queued t r sdu =
    asks_timeslot t
    ∷ asks_address r.address.kind r.address.number
    ∷ asks_header r
    ∷ asks_sdu r.bits sdu
    ∷ asks_room queued
    ∷ []

-- A build has none of its own, and is lent its block.
abbrev pub build_lent : List ℕ → List Question
build_lent block = asks_block block ∷ []

-- A call that reads the slot at a time, or is a new station's.
abbrev pub time_questions : TdmaTime → List Question
time_questions x = asks_time x ∷ []
