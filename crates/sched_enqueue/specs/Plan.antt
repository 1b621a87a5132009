-- What a call leaves to a caller that keeps the queue elsewhere: at most one record joins the queue. Assumes nothing.
use Rattle.std.specs.Prelude.{◌≡◌, true, List, ℕ, ◌-◌, ◌<◌, length, set, Result, Ok, Err}
use Rattle.sizes.specs.Sizes.{queue_places, store_octets}
use Rattle.questions.specs.declared.Refusal.{Refusal}
use Rattle.questions.specs.Questions.{refusal_number, ask}
use Rattle.dl_record.specs.declared.Record.{Record}
use Rattle.dl_record.specs.Record.{empty_record, ack_record}
use Rattle.dl_sdu_store.specs.Cells.{cell_of}
use Rattle.dl_queue.specs.Queue.{next_place, with_cell}
use Rattle.dl_queue.specs.Questions.{sound_queue}
use Rattle.sched_core.specs.declared.Station.{Station}
use Rattle.sched_core.specs.Station.{with_queued}
use Rattle.sched_core.specs.Questions.{Memory, memory, queued_for, ack_questions, tma_questions}
use Rattle.sched_core.specs.Replies.{Numbered, reply_number}
use Rattle.sched_core.specs.Calls.{Outcome, outcome}
use Rattle.sched_core.specs.Invariant.{one_more}
use Rattle.sched_enqueue.specs.declared.Joining.{Joining}

-- a queue and a store that question 2 and question 1 for records and cells let pass
pub record SoundQueue (s : Station) (rs : List Record) (st : List ℕ) : Type 0 where
  pub places : length rs ≡ queue_places
  pub cells : length st ≡ store_octets
  pub sound : sound_queue s.queued rs st ≡ true

-- A call on station s and a store is refused with number n, whatever the queue, and leaves the store.
pub record Refuses (call : Memory → Outcome) (s : Station) (before after : List ℕ) (n : ℕ) : Type 0 where
  pub whole : (rs : List Record) → SoundQueue s rs before → outcome (Numbered.refused n) (memory s rs before) ≡ call (memory s rs before)
  pub store : after ≡ before

-- A reply, a station and a record with its place are the plan of a call on station s and a store that is done: with the record stored
-- they are the call's whole outcome, whatever the queue.
pub record Joins (call : Memory → Outcome) (s : Station) (before after : List ℕ)
    (reply : Numbered) (next : Station) (place : ℕ) (r : Record) : Type 0 where
  pub whole : (rs : List Record) → SoundQueue s rs before → outcome reply (memory next (set rs place r) after) ≡ call (memory s rs before)
  pub done : reply_number reply ≡ 0
  pub place-in-queue : place < queue_places

-- the plan of queueing an acknowledgement or a record: the station has the plan's counts
abbrev pub QueuePlanned : (Memory → Outcome) → Station → List ℕ → List ℕ → Result Joining Refusal → Type 0
QueuePlanned call s before after (Ok j) = Joins call s before after Numbered.done (with_queued s j.queued) j.place j.«record»
QueuePlanned call s before after (Err x) = Refuses call s before after (refusal_number x)

-- ---- queueing, by the counts and the store alone: the same whatever the queue

-- all that it leaves: the reply, the counts, the record that joins with its place, and the store
pub record Queued : Type 0 where
  pub reply : Numbered
  pub queued : List ℕ
  pub place : ℕ
  pub «record» : Record
  pub store : List ℕ

-- "On a no, the number is the whole reply and each lent bit and the state are those that came in."
abbrev pub not_queued : List ℕ → List ℕ → ℕ → Queued
not_queued ns st n = record { reply = Numbered.refused n; queued = ns; place = queue_places; «record» = empty_record; store = st }

-- a record joins the queue of timeslot t
abbrev pub queued_one : List ℕ → ℕ → Record → List ℕ → Queued
queued_one ns t r st = record { reply = Numbered.done; queued = one_more ns t; place = next_place ns (t - 1); «record» = r; store = st }

-- an acknowledgement: questions 3, 5 and 8
unfoldable pub ack_queued : List ℕ → List ℕ → ℕ → ℕ → ℕ → Queued
ack_queued ns st t kind n = ask (ack_questions (queued_for ns t) t kind n) (queued_one ns t (ack_record kind n) st) (not_queued ns st)

-- a record with its SDU: questions 3, 5, 6, 7 and 8; "an SDU moves with its record"
unfoldable pub tma_queued : List ℕ → List ℕ → ℕ → Record → List ℕ → Queued
tma_queued ns st t r sdu =
    ask (tma_questions (queued_for ns t) t r sdu) (queued_one ns t r (with_cell st ns (t - 1) (cell_of r.bits sdu))) (not_queued ns st)

-- what the code answers where the counts were ns, with the store after it
abbrev pub joined_queued : Result Joining Refusal → List ℕ → List ℕ → Queued
joined_queued (Ok j) ns st = record { reply = Numbered.done; queued = j.queued; place = j.place; «record» = j.«record»; store = st }
joined_queued (Err x) ns st = not_queued ns st (refusal_number x)

-- a record joins the queue of timeslot t
abbrev pub joined_joining : List ℕ → ℕ → Record → Joining
joined_joining ns t r = record { queued = one_more ns t; place = next_place ns (t - 1); «record» = r }
