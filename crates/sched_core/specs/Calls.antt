-- Document 01: each call as its whole outcome, the reply and the memory after it. Assumes nothing.
use Rattle.std.specs.Prelude.{Bool, ◌&&◌, cond, List, [], ◌∷◌, ◌++◌, ℕ, ◌-◌, ltb, get_or, replicate, Option, Result, Ok, Err}
use Rattle.sizes.specs.Sizes.{queue_places, store_octets, block_octets}
use Rattle.questions.specs.declared.Refusal.{Refusal}
use Rattle.questions.specs.Questions.{Question, ask}
use Rattle.tdma_time.specs.declared.TdmaTime.{TdmaTime}
use Rattle.tdma_time.specs.Time.{slot_of, timeslot, usable}
use Rattle.slot_codes.specs.Codes.{grant_octet}
use Rattle.uplink.specs.declared.PhyBlockNum.{PhyBlockNum}
use Rattle.uplink.specs.Request.{CapAnswer, cap_number}
use Rattle.uplink.specs.declared.Grant.{Grant}
use Rattle.uplink.specs.UplinkEntry.{entry_at, owner_of}
use Rattle.uplink.specs.Request.{answer}
use Rattle.mac_reader.specs.PduList.{block_bits}
use Rattle.dl_record.specs.declared.Record.{Record}
use Rattle.dl_record.specs.declared.QueuedHeader.{QueuedHeader}
use Rattle.dl_record.specs.Record.{empty_record, grant_record, ack_record, offered_record}
use Rattle.dl_sdu_store.specs.Cells.{cell_of}
use Rattle.dl_queue.specs.Queue.{enqueued, with_cell, with_queue, with_cells}
use Rattle.dl_send.specs.Send.{Sent, block_of}
use Rattle.dl_build.specs.Build.{built_of}
use Rattle.sched_core.specs.declared.Station.{Station}
use Rattle.sched_core.specs.Station.{station_of, new_station, advanced_station, with_queued}
use Rattle.sched_core.specs.Questions.{Memory, memory, asks_station, queued_for, memory_questions, request_questions, ack_questions, tma_questions, build_lent}
use Rattle.sched_core.specs.Questions.{time_questions}
use Rattle.sched_core.specs.Replies.{Numbered, used_as}

-- ---- calls on the station alone

-- all that such a call answers and leaves
pub record StationOutcome : Type 0 where
  pub reply : Numbered
  pub station : Station

abbrev pub station_outcome : Numbered → Station → StationOutcome
station_outcome r s = record { reply = r; station = s }

-- new: "a time given to the call is judged". The station of a time that is not in range is refused by every call.
unfoldable pub new_call : TdmaTime → StationOutcome
new_call x = ask (time_questions x) (station_outcome Numbered.done (new_station x)) (λ n. station_outcome (Numbered.refused n) (new_station x))

-- advance
unfoldable pub advance_call : Station → StationOutcome
advance_call s = ask (asks_station s ∷ []) (station_outcome Numbered.done (advanced_station s)) (λ n. station_outcome (Numbered.refused n) s)

-- owner and usage of the slot at a time
unfoldable pub owner_call : Station → TdmaTime → PhyBlockNum → Numbered
owner_call s x half =
    ask (asks_station s ∷ time_questions x) (Numbered.owned (owner_of half (entry_at s.uplink.rows (slot_of x)))) Numbered.refused

unfoldable pub usage_call : Station → TdmaTime → Numbered
usage_call s x =
    ask (asks_station s ∷ time_questions x) (used_as (entry_at s.uplink.rows (slot_of x))) Numbered.refused

-- ---- calls that queue

-- all that a call answers and leaves
pub record Outcome : Type 0 where
  pub reply : Numbered
  pub memory : Memory

abbrev pub outcome : Numbered → Memory → Outcome
outcome r m = record { reply = r; memory = m }

-- the questions of a call that queues, its own behind those of the memory: "On a no, the number is the whole reply and each lent bit
-- and the state are those that came in."
abbrev pub judged : Memory → List Question → Outcome → Outcome
judged m own fine = ask (memory_questions m [] ++ own) fine (λ n. outcome (Numbered.refused n) m)

-- "A timeslot's records fill its places from the first": the memory with a record more for timeslot t
abbrev pub with_record : Memory → ℕ → Record → Memory
with_record m t r =
    let q = enqueued m.station.queued m.records (t - 1) r in
    memory (with_queued m.station q.counts) q.records m.store

-- "an SDU moves with its record": with its first bits in the record's cell too
abbrev pub with_sdu : Memory → ℕ → Record → List ℕ → Memory
with_sdu m t r sdu =
    let q = enqueued m.station.queued m.records (t - 1) r in
    memory (with_queued m.station q.counts) q.records (with_cell m.store m.station.queued (t - 1) (cell_of r.bits sdu))

-- "Reference: `ul_process_cap_req`, then `dl_enqueue_grant`.": questions 9 and 10, then the grant is queued, and the uplink is
-- that of the answer
unfoldable pub grant_queued : Memory → ℕ → ℕ → ℕ → CapAnswer → Result Grant Refusal → Outcome
grant_queued m t kind n a (Err r) = outcome (Numbered.refused (cap_number (Err r))) m
grant_queued m t kind n a (Ok g) =
    let q = enqueued m.station.queued m.records (t - 1) (grant_record kind n (grant_octet g.capacity g.delay) g.usage_marker) in
    outcome (Numbered.granted g.capacity g.delay g.usage_marker) (memory (station_of a.uplink q.counts) q.records m.store)

-- what a request is answered that questions 1 to 8 let pass
unfoldable pub request_answered : Memory → ℕ → ℕ → ℕ → ℕ → Outcome
request_answered m t code kind n =
    let a = answer m.station.uplink (record { timeslot = t; code = code; number = n }) in
    grant_queued m t kind n a a.reply

-- request
unfoldable pub request_call : Memory → ℕ → ℕ → ℕ → ℕ → Outcome
request_call m t code kind n =
    judged m (request_questions (queued_for m.station.queued t) t code kind n) (request_answered m t code kind n)

-- queue an ack
unfoldable pub ack_call : Memory → ℕ → ℕ → ℕ → Outcome
ack_call m t kind n =
    judged m (ack_questions (queued_for m.station.queued t) t kind n) (outcome Numbered.done (with_record m t (ack_record kind n)))

-- queue a record
unfoldable pub tma_call : Memory → ℕ → ℕ → ℕ → Option ℕ → QueuedHeader → ℕ → List ℕ → Outcome
tma_call m t kind n tag header bits sdu =
    let r = offered_record kind n tag header bits in
    judged m (tma_questions (queued_for m.station.queued t) t r sdu) (outcome Numbered.done (with_sdu m t r sdu))

-- ---- a build

-- all that a build answers and leaves, the caller's block too
pub record BuildOutcome : Type 0 where
  pub reply : Numbered
  pub memory : Memory
  pub block : List ℕ

-- a build that writes nothing
abbrev pub not_built : Numbered → Memory → List ℕ → BuildOutcome
not_built r m block = record { reply = r; memory = m; block = block }

-- "A build works on the current timeslot": counted from 0
abbrev pub current : Station → ℕ
current s = timeslot (slot_of s.uplink.time) - 1

-- "Frame 18, or nothing queued, gives none"
unfoldable pub builds_now : Station → Bool
builds_now s = usable (slot_of s.uplink.time) && ltb 0 (get_or s.queued (current s) 0)

-- "A build [..] merges, then takes waiting and started records in queue order, then records."
unfoldable pub built_now : Memory → Sent (List ℕ)
built_now m = built_of m.station.queued m.records m.store (current m.station)

-- "What did not finish stays, in the order taken": as the queue of timeslot t, counted from 0, with its cells
abbrev pub with_left : Memory → ℕ → Sent (List ℕ) → Memory
with_left m t x =
    let q = with_queue m.station.queued m.records t x.left in
    memory (with_queued m.station q.counts) q.records (with_cells m.store t x.left)

-- "268 bits in 34 octets, the last four bits zero.", "Tags of finished records come back in order."
abbrev pub block_built : Memory → ℕ → Sent (List ℕ) → BuildOutcome
block_built m t x =
    let octets = block_of block_octets (block_bits x.pdus) in
    record { reply = Numbered.block octets x.tags; memory = with_left m t x; block = octets }

-- build: "Frame 18, or nothing queued, gives none and leaves the lent block; in frame 18 nothing is merged or altered."
unfoldable pub build_call : Memory → List ℕ → BuildOutcome
build_call m block =
    ask (memory_questions m (build_lent block))
    (cond (builds_now m.station) (block_built m (current m.station) (built_now m)) (not_built Numbered.no_block m block))
    (λ n. not_built (Numbered.refused n) m block)

-- ---- a history's memory

-- "on a new station at any valid time, every place and cell empty"
unfoldable pub new_memory : TdmaTime → Memory
new_memory x = memory (new_station x) (replicate queue_places empty_record) (replicate store_octets 0)

-- an advance leaves queue and store
unfoldable pub advance_memory : Memory → Outcome
advance_memory m = outcome (advance_call m.station).reply (memory (advance_call m.station).station m.records m.store)
