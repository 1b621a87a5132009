-- Memory and reference model hold the same (`Same`), and an advance, a request, an ack and a record keep it so and reply alike. Assumes nothing.
use Rattle.std.proofs.Common.{Result}
use mathlib.Core.Path.{◌≡◌, refl, sym, ap, subst, ◌∙◌}
use mathlib.Core.Bool.{Bool, true}
use mathlib.Core.List.{List, []}
use Prim.Native.Nat.{ℕ, ◌-◌, ◌*◌, ◌<◌}
use native.Mathlib.Omega.{arith}
use lib.Dec.{ltb}
use lib.ListN.{length, get_or, take, get_or-map}
use lib.Seq.{take_at, length-take-le}
use borrow.Author.Tests.{ltb-true}
use Rattle.dl_queue.proofs.EnqueueLaws.{cell-joins, empty-joins}
use Rattle.sizes.specs.Sizes.{per_timeslot, cell_octets, timeslot_octets}
use Rattle.bitbuffer.specs.Bits.{bits_of}
use Rattle.bitbuffer.proofs.Laws.{length-bits_of}
use Rattle.uplink.specs.Request.{CapAnswer}
use Rattle.uplink.specs.declared.Grant.{Grant}
use Rattle.uplink.specs.Request.{Verdict, no_run, too_late, grant, reply_to, answer}
use Rattle.dl_record.specs.declared.Record.{Record}
use Rattle.dl_record.specs.Record.{ack_record}
use Rattle.dl_record.specs.Questions.{present_sdu}
use Rattle.dl_sdu_store.specs.Cells.{cell_of}
use Rattle.dl_sdu_store.proofs.CellBits.{length-cell_of, bits-cell_of}
use Rattle.dl_queue.specs.Queue.{item, zero_cell, queues_of, enqueued, with_cell}
use Rattle.dl_queue.proofs.QueueLaws.{counts-back}
use Rattle.dl_merge.proofs.MergeLaws.{reload, sdu_in_cell, unnamed}
use Rattle.questions.specs.declared.Refusal.{Refusal}
use Rattle.questions.specs.Questions.{Question, ask}
use Rattle.questions.proofs.AskLaws.{ask-both}
use Rattle.sched_core.specs.Station.{advanced_station}
use Rattle.tdma_time.specs.Time.{legal_timeslot}
use Rattle.sched_core.specs.Questions.{Memory, memory, queued_for, request_questions, ack_questions, tma_questions}
use Rattle.sched_core.specs.Replies.{done, refused}
use Rattle.sched_core.specs.Calls.{Outcome, outcome, grant_queued, request_answered, request_call, advance_call, advance_memory}
use Rattle.sched_core.specs.Calls.{with_record, with_sdu, ack_call, tma_call}
use Rattle.sched_core.specs.Invariant.{SoundMemory}
use Rattle.sched_core.specs.RequestGranted.{queues_in}
use Rattle.sched_core.proofs.QuestionLaws.{timeslot-range, sdu-range, memory-passes}
use Rattle.sched_core.proofs.KeptLaws.{sound-yes}
use Rattle.history.specs.Call.{CapacityRequest, request_of, AckOffer, RecordOffer, record_of, advance, request, enqueue_ack, enqueue_record}
use Rattle.history.specs.Call.{Stepped, unless_refused}
use Rattle.history.specs.Queues.{Queues, queued_at, appended}
use Rattle.history.specs.UplinkModel.{model_view, model_verdict}
use Rattle.history.specs.Model.{NamedSdu, Model, became, bare, of_sdu, only_counted, request_asked, requested, model_step}
use Rattle.history.specs.Memory.{answered, memory_step}
use Rattle.history.proofs.Steps.{Agree}
use Rattle.history.proofs.Simulation.{Alike, grant-alike, answer-reply, advance-alike}
use Rattle.history.proofs.QueueMaps.{Held, same_count, appended-held}

-- the SDU in the cell that is written for it
sdu-in-cell : (n : ℕ) (s : List ℕ) → present_sdu n s ≡ true → take n (bits_of (cell_of n s)) ≡ take n (bits_of s)
sdu-in-cell n s p =
    let r = sdu-range n s p in
    ap (take n) (bits-cell_of n s r.0 r.1) ∙ take_at (take n (bits_of s)) _ n (length-take-le n (bits_of s) (rw (length-bits_of s) r.1))

-- ---- memory and model

-- the same time, counters, table and queues
pub record Same (m : Memory) (b : Model) : Type 0 where
  pub uplink : Alike m.station.uplink b.uplink
  pub queues : Held (queues_in m) b.queues

module _ (m : Memory) (b : Model) (k : SoundMemory m) (a : Same m b) where
  abbrev ns : List ℕ
  ns = m.station.queued

  abbrev up : Alike m.station.uplink b.uplink
  up = a.uplink

  pub places : length m.records ≡ per_timeslot * length ns
  places = omega (arith, k.places, k.counts)

  pub size : length m.store ≡ timeslot_octets * length ns
  size = omega (arith, k.cells, k.counts)

  pub count_at : (t : ℕ) → get_or ns (t - 1) 0 ≡ queued_at b.queues t
  count_at t =
      ap (λ (l : List ℕ). get_or l (t - 1) 0) (sym (counts-back ns m.records m.store))
      ∙ get_or-map length (queues_in m) (t - 1) []
      ∙ same_count (queues_in m) b.queues a.queues t

  -- a call that changes nothing
  pub stays : Same m (only_counted b)
  stays = record { uplink = up; queues = a.queues }

  -- ---- an advance

  advance-is : advance_memory m ≡ outcome done (memory (advanced_station m.station) m.records m.store)
  unfolding advance_memory advance_call ask
  advance-is = rw k.station

  pub advance-agrees : Agree Same (memory_step advance m) (model_step advance b)
  unfolding memory_step model_step
  advance-agrees =
      rw advance-is
      (record {
        after = record { uplink = advance-alike _ _ up; queues = a.queues };
        reply = refl;
      })

  -- ---- a record joins

  module _ (t : ℕ) (legal : legal_timeslot t ≡ true) (open-place : ltb (queued_at b.queues t) per_timeslot ≡ true) where
    inside : t - 1 < length ns
    inside = let r = timeslot-range t legal in omega (arith, k.counts, r.0, r.1)

    room : get_or ns (t - 1) 0 < per_timeslot
    room = rw (count_at t) (ltb-true _ _ open-place)

    -- the lists with it
    abbrev queues_with : Record → List ℕ → Queues (List ℕ)
    queues_with r st = queues_of (enqueued ns m.records (t - 1) r).counts (enqueued ns m.records (t - 1) r).records st

    -- with its cell, in the place behind its timeslot's records
    joins : (r : Record) (c : List ℕ) (y : NamedSdu) → length c ≡ cell_octets → reload sdu_in_cell (item r c) ≡ reload unnamed (item r y)
        → Held (queues_with r (with_cell m.store ns (t - 1) c)) (appended b.queues t (item r y))
    unfolding appended
    joins r c y l e =
        subst (λ (qs : Queues (List ℕ)). Held qs (appended b.queues t (item r y)))
        (sym (cell-joins ns m.records m.store (t - 1) inside room places size k.queue r c l))
        (appended-held (queues_in m) b.queues a.queues t (item r c) (item r y) e)

    -- without SDU: its cell is zero as it stands
    bare-joins : (r : Record) (y : NamedSdu) → reload sdu_in_cell (item r zero_cell) ≡ reload unnamed (item r y)
        → Held (queues_with r m.store) (appended b.queues t (item r y))
    unfolding appended
    bare-joins r y e =
        subst (λ (qs : Queues (List ℕ)). Held qs (appended b.queues t (item r y)))
        (sym (empty-joins ns m.records m.store (t - 1) inside room places size k.queue r k.octets))
        (appended-held (queues_in m) b.queues a.queues t (item r zero_cell) (item r y) e)

  -- ---- a request

  module _ (c : CapacityRequest) where
    abbrev queued : ℕ
    queued = queued_at b.queues c.timeslot

    -- what the search answers
    abbrev given : CapAnswer
    given = answer m.station.uplink (request_of c)

    abbrev answered_as : Result Grant Refusal → Outcome
    answered_as x = grant_queued m c.timeslot c.kind c.number given x

    abbrev no : ℕ → Outcome
    no n = outcome (refused n) m

    answered-agrees : legal_timeslot c.timeslot ≡ true → ltb queued per_timeslot ≡ true → (w : Verdict) → model_verdict b.uplink (request_of c) ≡ w
        → Agree Same (answered (answered_as (reply_to (model_view b.uplink.taken) b.uplink.markers (request_of c) w))) (requested c w b)
    unfolding grant_queued requested reply_to
    answered-agrees legal fits no_run e = record { after = stays; reply = refl }
    answered-agrees legal fits too_late e = record { after = stays; reply = refl }
    answered-agrees legal fits (grant g) e =
        record { after = record { uplink = grant-alike _ _ up (request_of c) g e; queues = bare-joins c.timeslot legal fits _ _ refl }; reply = refl }

    searched : legal_timeslot c.timeslot ≡ true → ltb queued per_timeslot ≡ true
        → Agree Same (answered (answered_as given.reply)) (requested c (model_verdict b.uplink (request_of c)) b)
    searched legal fits =
        subst (λ (r : Result Grant Refusal). Agree Same (answered (answered_as r)) (requested c (model_verdict b.uplink (request_of c)) b))
        (sym (answer-reply _ _ up (request_of c) (model_verdict b.uplink (request_of c)) refl)) (answered-agrees legal fits _ refl)

    -- its own questions decide, and the model counts what the station counts
    request-asks : request_call m c.timeslot c.code c.kind c.number ≡ ask (request_asked c b) (answered_as given.reply) no
    unfolding request_call request_answered
    request-asks =
        memory-passes m [] (request_questions (queued_for m.station.queued c.timeslot) c.timeslot c.code c.kind c.number) _ no (sound-yes m k)
        ∙ ap (λ (n : ℕ). ask (request_questions n c.timeslot c.code c.kind c.number) (answered_as given.reply) no) (count_at c.timeslot)

    pub request-agrees : Agree Same (memory_step (request c) m) (model_step (request c) b)
    unfolding memory_step model_step unless_refused
    request-agrees =
        subst (λ (o : Outcome). Agree Same (answered o) (model_step (request c) b)) (sym request-asks)
        (ask-both (λ (o : Outcome) (y : Stepped Model). Agree Same (answered o) y) (request_asked c b) _ no _ _
        (λ r. record { after = stays; reply = refl }) (λ h. searched h.0 h.1.1.1.0))

  -- ---- an ack

  module _ (o : AckOffer) where
    abbrev ack-done : Outcome
    ack-done = outcome done (with_record m o.timeslot (ack_record o.kind o.number))

    abbrev ack-no : ℕ → Outcome
    ack-no n = outcome (refused n) m

    abbrev ack-open : Bool
    ack-open = ltb (queued_at b.queues o.timeslot) per_timeslot

    abbrev ack-own : ℕ → List Question
    ack-own n = ack_questions n o.timeslot o.kind o.number

    ack-asks : ack_call m o.timeslot o.kind o.number ≡ ask (ack-own (queued_at b.queues o.timeslot)) ack-done ack-no
    unfolding ack_call
    ack-asks =
        memory-passes m [] (ack-own (queued_for m.station.queued o.timeslot)) _ ack-no (sound-yes m k)
        ∙ ap (λ (n : ℕ). ask (ack-own n) ack-done ack-no) (count_at o.timeslot)

    abbrev ack-joined : Stepped Model
    ack-joined = became b b.uplink (appended b.queues o.timeslot (item (ack_record o.kind o.number) bare)) done

    ack-joins : legal_timeslot o.timeslot ≡ true → ack-open ≡ true → Agree Same (answered ack-done) ack-joined
    ack-joins legal fits = record { after = record { uplink = up; queues = bare-joins o.timeslot legal fits _ _ refl }; reply = refl }

    pub ack-agrees : Agree Same (memory_step (enqueue_ack o) m) (model_step (enqueue_ack o) b)
    unfolding memory_step model_step unless_refused
    ack-agrees =
        subst (λ (y : Outcome). Agree Same (answered y) (model_step (enqueue_ack o) b)) (sym ack-asks)
        (ask-both (λ (y : Outcome) (z : Stepped Model). Agree Same (answered y) z) (ack-own (queued_at b.queues o.timeslot))
        _ ack-no _ _ (λ r. record { after = stays; reply = refl }) (λ h. ack-joins h.0 h.1.1.0))

  -- ---- a record

  module _ (o : RecordOffer) where
    abbrev rec-done : Outcome
    rec-done = outcome done (with_sdu m o.timeslot (record_of o) o.octets)

    abbrev rec-no : ℕ → Outcome
    rec-no n = outcome (refused n) m

    abbrev rec-open : Bool
    rec-open = ltb (queued_at b.queues o.timeslot) per_timeslot

    abbrev rec-own : ℕ → List Question
    rec-own n = tma_questions n o.timeslot (record_of o) o.octets

    rec-asks : tma_call m o.timeslot o.kind o.number o.tag o.header o.bits o.octets
        ≡ ask (rec-own (queued_at b.queues o.timeslot)) rec-done rec-no
    unfolding tma_call
    rec-asks =
        memory-passes m [] (rec-own (queued_for m.station.queued o.timeslot)) _ rec-no (sound-yes m k)
        ∙ ap (λ (n : ℕ). ask (rec-own n) rec-done rec-no) (count_at o.timeslot)

    abbrev rec-joined : Stepped Model
    rec-joined = became b b.uplink (appended b.queues o.timeslot (item (record_of o) (of_sdu o.bits o.octets))) done

    rec-joins : legal_timeslot o.timeslot ≡ true → present_sdu o.bits o.octets ≡ true → rec-open ≡ true
        → Agree Same (answered rec-done) rec-joined
    rec-joins legal present fits =
        record {
          after =
              record {
                uplink = up;
                queues =
                    joins o.timeslot legal fits (record_of o) (cell_of o.bits o.octets) (of_sdu o.bits o.octets)
                    (length-cell_of o.bits o.octets)
                    (ap (item (record_of o)) (sdu-in-cell o.bits o.octets present));
              };
          reply = refl;
        }

    pub rec-agrees : Agree Same (memory_step (enqueue_record o) m) (model_step (enqueue_record o) b)
    unfolding memory_step model_step unless_refused
    rec-agrees =
        subst (λ (y : Outcome). Agree Same (answered y) (model_step (enqueue_record o) b)) (sym rec-asks)
        (ask-both (λ (y : Outcome) (z : Stepped Model). Agree Same (answered y) z) (rec-own (queued_at b.queues o.timeslot))
        _ rec-no _ _ (λ r. record { after = stays; reply = refl }) (λ h. rec-joins h.0 h.1.1.1.0 h.1.1.1.1.0))
