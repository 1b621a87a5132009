-- Tags of 16 bits stay such: a history whose offers have them queues no other. Assumes nothing.
use mathlib.Core.Bool.{Bool, true, false, cond}
use mathlib.Core.List.{List, [], ◌∷◌, ◌++◌}
use Prim.Native.Nat.{ℕ, zero, suc, ◌+◌, ◌*◌}
use native.Mathlib.Omega.{arith}
use lib.Dec.{eqb}
use lib.ListN.{length, get_or, take, drop, replicate}
use lib.Seq.{paste}
use Rattle.lists.proofs.Every.{All, all_take, all_drop, all_append}
use Rattle.sizes.specs.Sizes.{per_timeslot, cell_octets, block_width}
use Rattle.uplink.specs.Request.{CapAnswer}
use Rattle.std.proofs.Common.{Result, Ok, Err}
use Rattle.uplink.specs.declared.Grant.{Grant}
use Rattle.questions.specs.declared.Refusal.{Refusal}
use Rattle.dl_record.specs.declared.Record.{Record}
use Rattle.dl_record.specs.Record.{empty_record}
use Rattle.dl_queue.specs.Queue.{Item, zero_cell, queue_of, records_of}
use Rattle.dl_merge.specs.Merge.{always, keep, merge_cells}
use Rattle.dl_merge.proofs.MergeLaws.{merge-all}
use Rattle.dl_send.specs.Send.{cell_sdu}
use Rattle.dl_send.proofs.KeptLaws.{left-all}
use Rattle.dl_build.specs.Build.{in_order, build_list, built_from, built_of}
use Rattle.dl_build.proofs.OrderLaws.{order-all}
use Rattle.questions.proofs.AskLaws.{ask-elim}
use Rattle.sched_core.specs.Questions.{Memory}
use Rattle.sched_core.specs.Replies.{Numbered}
use Rattle.sched_core.specs.Calls.{Outcome, BuildOutcome, current, builds_now, built_now, block_built, not_built, build_call, grant_queued, request_answered}
use Rattle.sched_core.specs.Calls.{request_call, ack_call, tma_call, advance_memory}
use Rattle.sched_words.specs.Words.{record_word_count, word_at, opt_low, offered_from}
use Rattle.sched_words.proofs.QueueRoundTrip.{Tagged}
use Rattle.mac_pdus.specs.Within.{OptWithin}
use Rattle.history.specs.Call as call
use Rattle.history.specs.Call.{Call, run}
use Rattle.history.specs.Memory.{memory_step}
use Rattle.history.proofs.QueueMaps.{all_set}
use Rattle.history_words.specs.WordCalls.{WordCall, advance, request, enqueue_ack, enqueue, build, slot_owner, usage}
use Rattle.history_words.specs.WordHistory.{record_offer, calls_of, word_history}

-- ---- lists

all-paste : {A : Type 0} (P : A → Type 0) (d : List A) (at : ℕ) (s : List A) (n : ℕ) → All P d → All P s → All P (paste d at s n)
all-paste P d at s n h k =
    all_append P (take at d ++ take n s) (drop (at + n) d) (all_append P (take at d) (take n s) (all_take P at d h) (all_take P n s k))
    (all_drop P (at + n) d h)

-- ---- the queue of a timeslot

abbrev TaggedItem : Item (List ℕ) → Type 0
TaggedItem x = Tagged x.rec

queue-tagged : (n : ℕ) (rs : List Record) (s : List ℕ) → All Tagged rs → All TaggedItem (queue_of n rs s)
unfolding queue_of
queue-tagged zero rs s h = tt
queue-tagged (suc n) [] s h = (tt, queue-tagged n [] (drop cell_octets s) tt)
queue-tagged (suc n) (r ∷ rs) s h = (h.0, queue-tagged n rs (drop cell_octets s) h.1)

records-tagged : (k : ℕ) (xs : List (Item (List ℕ))) → All TaggedItem xs → All Tagged (records_of k xs)
unfolding records_of
records-tagged zero xs h = tt
records-tagged (suc k) [] h = (tt, records-tagged k [] tt)
records-tagged (suc k) (x ∷ xs) h = (h.0, records-tagged k xs h.1)

-- ---- one call

module _ (m : Memory) (h : All Tagged m.records) where
  built-tagged : All TaggedItem (built_now m).left
  unfolding built_now built_of built_from build_list
  built-tagged =
      let t : ℕ = current m.station in
      let own : List (Item (List ℕ)) = queue_of (get_or m.station.queued t 0) (drop (per_timeslot * t) m.records)
      (drop (cell_octets * (per_timeslot * t)) m.store) in
      left-all TaggedItem (λ k n x q. q) cell_sdu true block_width (in_order (merge_cells own))
      (order-all TaggedItem (merge_cells own)
      (merge-all (always zero_cell) keep TaggedItem (λ g x k t p q. q) (λ g k p. tt) own
      (queue-tagged (get_or m.station.queued t 0) (drop (per_timeslot * t) m.records) (drop (cell_octets * (per_timeslot * t)) m.store)
      (all_drop Tagged (per_timeslot * t) m.records h))))

  build-tagged : (block : List ℕ) → All Tagged (build_call m block).memory.records
  unfolding build_call
  build-tagged block = ask-elim (λ (o : BuildOutcome). All Tagged o.memory.records) _ _ _ (λ r. h) (λ yes. go (builds_now m.station))
    where
      go : (b : Bool)
          → All Tagged (cond b (block_built m (current m.station) (built_now m)) (not_built Numbered.no_block m block)).memory.records
      go true =
          all-paste Tagged m.records (per_timeslot * current m.station) (records_of per_timeslot (built_now m).left) per_timeslot h
          (records-tagged per_timeslot (built_now m).left built-tagged)
      go false = h

  granted-tagged : (t kind n : ℕ) (a : CapAnswer) (r : Result Grant Refusal) → All Tagged (grant_queued m t kind n a r).memory.records
  unfolding grant_queued
  granted-tagged t kind n a (Ok grant) = all_set Tagged m.records _ _ tt h
  granted-tagged t kind n a (Err refusal) = h

  request-tagged : (t code kind n : ℕ) → All Tagged (request_call m t code kind n).memory.records
  unfolding request_call request_answered
  request-tagged t code kind n =
      ask-elim (λ (o : Outcome). All Tagged o.memory.records) _ _ _ (λ r. h) (λ yes. granted-tagged t kind n _ _)

  ack-tagged : (t kind n : ℕ) → All Tagged (ack_call m t kind n).memory.records
  unfolding ack_call
  ack-tagged t kind n =
      ask-elim (λ (o : Outcome). All Tagged o.memory.records) _ _ _ (λ r. h) (λ yes. all_set Tagged m.records _ _ tt h)

-- a call that offers a tag of 16 bits, or none
abbrev pub TaggedCall : Call → Type 0
TaggedCall call.advance = Unit
TaggedCall (call.request a) = Unit
TaggedCall (call.enqueue_ack o) = Unit
TaggedCall (call.enqueue_record o) = OptWithin 16 o.tag
TaggedCall (call.build b) = Unit
TaggedCall (call.read q) = Unit

step-tagged : (c : Call) (m : Memory) → TaggedCall c → All Tagged m.records → All Tagged (memory_step c m).after.records
unfolding memory_step advance_memory tma_call
step-tagged call.advance m t h = h
step-tagged (call.request a) m t h = request-tagged m h a.timeslot a.code a.kind a.number
step-tagged (call.enqueue_ack o) m t h = ack-tagged m h o.timeslot o.kind o.number
step-tagged (call.enqueue_record o) m t h =
    ask-elim (λ (y : Outcome). All Tagged y.memory.records) _ _ _ (λ r. h) (λ yes. all_set Tagged m.records _ _ t h)
step-tagged (call.build b) m t h = build-tagged m h b
step-tagged (call.read q) m t h = h

-- ---- a list of calls

pub run-tagged : (cs : List Call) (m : Memory) → All TaggedCall cs → All Tagged m.records → All Tagged (run memory_step cs m).records
unfolding run
run-tagged [] m t h = h
run-tagged (c ∷ cs) m t h = run-tagged cs (memory_step c m).after t.1 (step-tagged c m t.0 h)

pub empty-tagged : (n : ℕ) → All Tagged (replicate n empty_record)
empty-tagged zero = tt
empty-tagged (suc n) = (tt, empty-tagged n)

-- ---- offers that are read from words

word-tag : (w : ℕ) → OptWithin 16 (opt_low 65536 w)
word-tag zero = tt
word-tag (suc v) = omega arith

offered-tagged : (rs : List ℕ) → OptWithin 16 (offered_from rs).tag
unfolding offered_from
offered-tagged rs = word-tag (word_at rs 3)

pub calls-tagged : (c : WordCall) → All TaggedCall (calls_of c)
calls-tagged advance = (tt, tt)
calls-tagged (request t code kind n) = (tt, tt)
calls-tagged (enqueue_ack t kind n) = (tt, tt)
calls-tagged (enqueue t offered sdu) = go (eqb (length offered) record_word_count)
  where
    go : (b : Bool) → All TaggedCall (cond b (call.enqueue_record (record_offer t (offered_from offered) sdu) ∷ []) [])
    go true = (offered-tagged offered, tt)
    go false = tt
calls-tagged (build block) = (tt, tt)
calls-tagged (slot_owner x) = (tt, (tt, (tt, tt)))
calls-tagged (usage x) = (tt, tt)

pub history-tagged : (cs : List WordCall) → All TaggedCall (word_history cs)
unfolding word_history
history-tagged [] = tt
history-tagged (c ∷ cs) = all_append TaggedCall (calls_of c) (word_history cs) (calls-tagged c) (history-tagged cs)
