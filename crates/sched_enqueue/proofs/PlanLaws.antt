-- A call's plan, question by question. Assumes nothing.
use Rattle.std.proofs.Common.{Option, Result, Ok, Err}
use mathlib.Core.Path.{◌≡◌, refl, sym, ap, ◌∙◌, subst}
use mathlib.Core.Bool.{Bool, true, false, cond}
use mathlib.Core.List.{List, [], ◌∷◌}
use Prim.Native.Nat.{ℕ, ◌-◌, ◌≤◌, ◌<◌}
use native.Mathlib.Omega.{arith}
use lib.ListN.{get_or, set}
use lib.Seq.{set_out}
use Rattle.sizes.specs.Sizes.{timeslots, per_timeslot, queue_places}
use Rattle.questions.specs.declared.Refusal.{Refusal}
use Rattle.questions.specs.Questions.{Question, question, refusal_number, ask}
use Rattle.questions.proofs.AskLaws.{AllYes, Positive, ask-both}
use Rattle.questions.proofs.NumberLaws.{number-positive}
use Rattle.dl_record.specs.declared.Record.{Record}
use Rattle.dl_record.specs.declared.QueuedHeader.{QueuedHeader}
use Rattle.dl_record.specs.Record.{empty_record, ack_record, offered_record}
use Rattle.dl_sdu_store.specs.Cells.{cell_of}
use Rattle.dl_queue.specs.Queue.{next_place, with_cell}
use Rattle.sched_core.specs.declared.Station.{Station}
use Rattle.sched_core.specs.Station.{station_of}
use Rattle.sched_core.specs.Questions.{Memory, memory, sound_station, memory_questions, queued_for, ack_questions, tma_questions}
use Rattle.sched_core.specs.Replies.{Numbered, reply_number}
use Rattle.sched_core.specs.Calls.{Outcome, outcome, judged, ack_call, tma_call}
use Rattle.sched_core.proofs.QuestionLaws.{right-lengths, lengths-right, timeslot-range, room-left, memory-passes}
use Rattle.sched_enqueue.specs.declared.Joining.{Joining}
use Rattle.sched_enqueue.specs.Plan.{SoundQueue, QueuePlanned, Queued, not_queued, queued_one, ack_queued, tma_queued, joined_queued}

-- the place behind those of a timeslot that has room is in the queue
pub next-place-below : (ns : List ℕ) (t : ℕ) → 1 ≤ t → t ≤ timeslots → get_or ns (t - 1) 0 < per_timeslot → next_place ns (t - 1) < queue_places
next-place-below ns t low high room = omega (arith, low, high, room)

-- of a sound station and queue questions 1 and 2 are answered yes
pub queue-yes : (s : Station) (rs : List Record) (st : List ℕ) → sound_station s ≡ true → SoundQueue s rs st → AllYes (memory_questions (memory s rs st) [])
queue-yes s rs st sound h = (sound, (right-lengths (memory s rs st) h.places h.cells, (h.sound, tt)))

-- and what those answers tell; `lent` is whether what else is lent has its length
pub record Told (s : Station) (rs : List Record) (st : List ℕ) (lent : Bool) : Type 0 where
  pub station : sound_station s ≡ true
  pub lengths : lent ≡ true
  pub queue : SoundQueue s rs st

pub yes-told : (s : Station) (rs : List Record) (st : List ℕ) (lent : Bool)
    → AllYes (memory_questions (memory s rs st) (question lent 2 ∷ [])) → Told s rs st lent
yes-told s rs st lent h =
    let both = lengths-right (memory s rs st) h.1.0 in
    record { station = h.0; lengths = h.1.1.0; queue = record { places = both.0; cells = both.1; sound = h.1.1.1.0 } }

-- ---- queueing, by the counts and the store alone

-- what holds of every number that is not 0, and of what follows where every answer is yes, holds of the outcome
ask-positive : {A : Type 0} (P : A → Type 0) (qs : List Question) → Positive qs → (fine : A) (refused : ℕ → A)
    → ((n : ℕ) → 1 ≤ n → P (refused n)) → (AllYes qs → P fine) → P (ask qs fine refused)
unfolding ask
ask-positive P [] p fine refused f g = g tt
ask-positive P (q ∷ qs) p fine refused f g = go (λ e. ask-positive P qs p.1 fine refused f (λ h. g (e, h))) q.holds refl
  where
    go : (q.holds ≡ true → P (ask qs fine refused)) → (b : Bool) → q.holds ≡ b → P (cond b (ask qs fine refused) (refused q.number))
    go rest true e = rest e
    go rest false e = f q.number p.0

-- what the code answers is the plan of a call on every sound queue, where the same record joins as in the call
module _ (s : Station) (st : List ℕ) (own : Station → List Question) (fine : Memory → Outcome) (t : ℕ) (x : Record) (st' : List ℕ)
    (sound : sound_station s ≡ true) (pos : Positive (own s)) where
  abbrev asked : Queued
  asked = ask (own s) (queued_one s.queued t x st') (not_queued s.queued st)

  abbrev judges : Memory → Outcome
  judges m = judged m (own m.station) (fine m)

  -- with the record stored
  abbrev stored_in : List Record → Queued → Outcome
  stored_in rs j = outcome j.reply (memory (station_of s.uplink j.queued) (set rs j.place j.«record») j.store)

  module _ (below : AllYes (own s) → next_place s.queued (t - 1) < queue_places)
      (same : (rs : List Record) → stored_in rs (queued_one s.queued t x st') ≡ fine (memory s rs st)) where
    whole : (rs : List Record) → SoundQueue s rs st → stored_in rs asked ≡ judges (memory s rs st)
    whole rs q =
        ask-both (λ (j : Queued) (o : Outcome). stored_in rs j ≡ o) (own s) _ _ _ _
        (λ n. ap (λ (l : List Record). outcome (Numbered.refused n) (memory s l st)) (set_out rs queue_places empty_record (omega (arith, q.places))))
        (λ yes. same rs)
        ∙ sym (memory-passes (memory s rs st) [] (own s) _ _ (queue-yes s rs st sound q))

    joins : reply_number asked.reply ≡ 0 → asked.place < queue_places
    joins =
        ask-positive (λ (j : Queued). reply_number j.reply ≡ 0 → j.place < queue_places) (own s) pos _ _ (λ n p z. absurd (omega (arith, z, p)))
        (λ yes z. below yes)

    refused : 1 ≤ reply_number asked.reply → asked.store ≡ st
    refused =
        ask-positive (λ (j : Queued). 1 ≤ reply_number j.reply → j.store ≡ st) (own s) pos _ _ (λ n p z. refl) (λ yes z. absurd (omega (arith, z)))

    pub queued-planned : (after : List ℕ) (p : Result Joining Refusal) → joined_queued p s.queued after ≡ asked → QueuePlanned judges s st after p
    queued-planned after (Ok j) e =
        record {
          whole = λ rs q. ap (stored_in rs) e ∙ whole rs q;
          done = refl;
          place-in-queue =
              subst (λ (k : ℕ). k < queue_places) (ap (λ (x : Queued). x.place) (sym e)) (joins (ap (λ (x : Queued). reply_number x.reply) (sym e)));
        }
    queued-planned after (Err r) e =
        let n : Numbered = Numbered.refused (refusal_number r) in
        let left : after ≡ st =
        ap (λ (j : Queued). j.store) e ∙ refused (omega (arith, ap (λ (j : Queued). reply_number j.reply) e, number-positive r)) in
        record {
          whole = λ rs q.
              ap (λ (l : List ℕ). outcome n (memory s rs l)) (sym left)
              ∙ ap (λ (l : List Record). outcome n (memory s l after)) (sym (set_out rs queue_places empty_record (omega (arith, q.places))))
              ∙ ap (stored_in rs) e ∙ whole rs q;
          store = left;
        }

-- an acknowledgement's
pub ack-planned : (s : Station) (st : List ℕ) (t kind n : ℕ) (p : Result Joining Refusal) → sound_station s ≡ true
    → joined_queued p s.queued st ≡ ack_queued s.queued st t kind n → QueuePlanned (λ m. ack_call m t kind n) s st st p
unfolding ack_call ack_queued
ack-planned s st t kind n p sound e =
    queued-planned s st (λ (x : Station). ack_questions (queued_for x.queued t) t kind n) _ t (ack_record kind n) st sound
    (omega arith, (omega arith, (omega arith, tt)))
    (λ yes. let r = timeslot-range t yes.0 in next-place-below s.queued t r.0 r.1 (room-left (queued_for s.queued t) yes.1.1.0))
    (λ rs. refl) st p e

-- a record's
pub tma-planned : (s : Station) (st st' : List ℕ) (t kind n : ℕ) (tag : Option ℕ) (header : QueuedHeader) (bits : ℕ) (sdu : List ℕ)
    (p : Result Joining Refusal) → sound_station s ≡ true
    → joined_queued p s.queued st' ≡ tma_queued s.queued st t (offered_record kind n tag header bits) sdu
    → QueuePlanned (λ m. tma_call m t kind n tag header bits sdu) s st st' p
unfolding tma_call tma_queued
tma-planned s st st' t kind n tag header bits sdu p sound e =
    let r = offered_record kind n tag header bits in
    queued-planned s st (λ (x : Station). tma_questions (queued_for x.queued t) t r sdu) _ t r (with_cell st s.queued (t - 1) (cell_of bits sdu)) sound
    (omega arith, (omega arith, (omega arith, (omega arith, (omega arith, tt)))))
    (λ yes. let k = timeslot-range t yes.0 in
    next-place-below s.queued t k.0 k.1 (room-left (queued_for s.queued t) yes.1.1.1.1.0))
    (λ rs. refl) st' p e
