-- What each call that queues leaves, whatever the memory. Assumes nothing.
use Rattle.std.proofs.Common.{Option, Result, Ok, Err}
use mathlib.Core.Path.{◌≡◌, refl}
use mathlib.Core.Bool.{true, false}
use mathlib.Core.List.{List, [], ◌++◌}
use Prim.Native.Nat.{ℕ, ◌-◌, ◌*◌, ◌≤◌, ◌<◌}
use native.Mathlib.Omega.{arith}
use lib.ListN.{length, get_or, length-set}
use lib.Seq.{length-paste}
use Rattle.questions.specs.declared.Refusal.{Refusal}
use Rattle.sizes.specs.Sizes.{timeslots, per_timeslot, cell_octets, store_octets}
use Rattle.uplink.specs.Request.{CapAnswer}
use Rattle.uplink.specs.declared.Grant.{Grant}
use Rattle.uplink.proofs.Basics.{not-both}
use Rattle.dl_record.specs.declared.Record.{Record}
use Rattle.dl_record.specs.declared.QueuedHeader.{QueuedHeader}
use Rattle.dl_record.specs.Record.{ack_record, offered_record}
use Rattle.dl_sdu_store.specs.Cells.{cell_of}
use Rattle.dl_sdu_store.proofs.CellBits.{length-cell_of}
use Rattle.dl_queue.specs.Queue.{next_place}
use Rattle.sched_core.specs.Questions.{Memory, queued_for, memory_questions, request_questions, ack_questions, tma_questions}
use Rattle.sched_core.specs.Calls.{Outcome, with_record, with_sdu, grant_queued, request_answered, request_call, ack_call, tma_call}
use Rattle.sched_core.specs.Invariant.{is_done, CountRises, EveryCountRises}
use Rattle.questions.proofs.AskLaws.{ask-elim}
use Rattle.sched_core.proofs.QuestionLaws.{lengths-right, timeslot-range, room-left}

-- nothing is done
pub nothing-queued : (m : Memory) (t : ℕ) → CountRises m t m false
nothing-queued m t = record { count = refl; refusal = λ e. refl; places = refl; cells = refl }

-- a record is queued, and the store keeps its length
module _ (m : Memory) (t : ℕ) (r : Record) where
  pub record-queued : CountRises m t (with_record m t r) true
  record-queued =
      record { count = refl; refusal = λ e. not-both true refl e; places = length-set m.records (next_place m.station.queued (t - 1)) r; cells = refl }

  pub sdu-queued : (sdu : List ℕ) → length m.store ≡ store_octets → 1 ≤ t → t ≤ timeslots → get_or m.station.queued (t - 1) 0 < per_timeslot
      → CountRises m t (with_sdu m t r sdu) true
  sdu-queued sdu size low high room =
      record {
        count = refl;
        refusal = λ e. not-both true refl e;
        places = length-set m.records (next_place m.station.queued (t - 1)) r;
        cells =
            length-paste m.store (cell_octets * next_place m.station.queued (t - 1)) (cell_of r.bits sdu) cell_octets
            (omega (arith, size, low, high, room)) (omega (arith, length-cell_of r.bits sdu));
      }

module _ (m : Memory) (t code kind n : ℕ) where
  abbrev Requested : Outcome → Type 0
  Requested o = CountRises m t o.memory (is_done o.reply)

  grant-queues : (a : CapAnswer) (x : Result Grant Refusal) → Requested (grant_queued m t kind n a x)
  unfolding grant_queued
  grant-queues a (Err r) = nothing-queued m t
  grant-queues a (Ok g) =
      record { count = refl; refusal = λ e. not-both true refl e; places = length-set m.records (next_place m.station.queued (t - 1)) _; cells = refl }

  pub request-queues : Requested (request_call m t code kind n)
  unfolding request_call request_answered
  request-queues =
      ask-elim Requested (memory_questions m [] ++ request_questions (queued_for m.station.queued t) t code kind n) _ _ (λ r. nothing-queued m t)
      (λ yes. grant-queues _ _)

module _ (m : Memory) (t kind n : ℕ) where
  abbrev Done : Outcome → Type 0
  Done o = CountRises m t o.memory (is_done o.reply)

  pub ack-queues : Done (ack_call m t kind n)
  unfolding ack_call
  ack-queues =
      ask-elim Done (memory_questions m [] ++ ack_questions (queued_for m.station.queued t) t kind n) _ _ (λ r. nothing-queued m t)
      (λ yes. record-queued m t (ack_record kind n))

  pub tma-queues : (tag : Option ℕ) (header : QueuedHeader) (bits : ℕ) (sdu : List ℕ) → Done (tma_call m t kind n tag header bits sdu)
  unfolding tma_call
  tma-queues tag header bits sdu =
      ask-elim Done (memory_questions m [] ++ tma_questions (queued_for m.station.queued t) t (offered_record kind n tag header bits) sdu) _ _
      (λ r. nothing-queued m t)
      (λ h.
      let ts = timeslot-range t h.1.1.1.0 in
      sdu-queued m t (offered_record kind n tag header bits) sdu (lengths-right m h.1.0).1 ts.0 ts.1
      (room-left (queued_for m.station.queued t) h.1.1.1.1.1.1.1.0))

pub every-queueing-queues : EveryCountRises
every-queueing-queues = record { request = request-queues; ack = ack-queues; tma = tma-queues }
