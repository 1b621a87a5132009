-- A request needs of the uplink table only the row of its timeslot: its plan on a station with that row alone (`row_alone`), with the row
-- put back, is its plan on the whole station (`row-planned`). Assumes nothing.
use Rattle.std.specs.Prelude.{IfOk, IfErr}
use Rattle.std.proofs.Common.{Result, Ok, Err}
use mathlib.Core.Path.{◌≡◌, refl, sym, ap, ◌∙◌}
use mathlib.Core.Bool.{true}
use mathlib.Core.List.{List, []}
use Prim.Native.Nat.{ℕ, ◌-◌, ◌≤◌, ◌<◌}
use Rattle.sizes.specs.Sizes.{timeslots, queue_places}
use Rattle.questions.specs.declared.Refusal.{Refusal}
use Rattle.questions.specs.Questions.{Question, refusal_number}
use Rattle.questions.proofs.AskLaws.{ask-both}
use Rattle.uplink.specs.Request.{CapAnswer}
use Rattle.uplink.specs.declared.Grant.{Grant}
use Rattle.uplink.specs.declared.Uplink.{Uplink}
use Rattle.uplink.specs.Request.{Request, answer}
use Rattle.uplink.specs.Functions.{row_alone, with_row_of}
use Rattle.uplink.proofs.RowLaws.{row-alone-sound, with-row-alone, answer-by-row}
use Rattle.dl_record.specs.declared.Record.{Record}
use Rattle.sched_core.specs.declared.Station.{Station}
use Rattle.sched_core.specs.Station.{station_of}
use Rattle.tdma_time.specs.Time.{legal_timeslot}
use Rattle.sched_core.specs.Questions.{Memory, memory, sound_station, queued_for, request_questions}
use Rattle.sched_core.specs.Replies.{Numbered}
use Rattle.sched_core.specs.Calls.{Outcome, outcome, grant_queued, request_answered, request_call}
use Rattle.sched_core.proofs.QuestionLaws.{timeslot-range, memory-passes}
use Rattle.sched_core.proofs.StationLaws.{station-parts, parts-sound}
use Rattle.sched_enqueue.specs.Plan.{SoundQueue}
use Rattle.sched_enqueue.proofs.PlanLaws.{queue-yes}
use Rattle.sched_request.specs.declared.RequestPlan.{RequestPlan}
use Rattle.sched_request.specs.RequestPlan.{planned_outcome, request_asked, RequestPlanned}

-- a sound station is sound with one of its rows in the place of all four
pub row-station-sound : (s : Station) (i : ℕ) → sound_station s ≡ true → sound_station (station_of (row_alone s.uplink i) s.queued) ≡ true
row-station-sound s i h =
    let p = station-parts s h in
    parts-sound _ (record { uplink = row-alone-sound s.uplink i p.uplink; counts = p.counts })

-- what a call leaves, with the row put back into the station's table
abbrev row_back : Station → ℕ → Outcome → Outcome
row_back s i o =
    let m = o.memory in
    outcome o.reply (memory (station_of (with_row_of s.uplink i m.station.uplink) m.station.queued) m.records m.store)

module _ (s : Station) (i t code kind n : ℕ) (inside : i < timeslots) (rs : List Record) (st : List ℕ) where
  abbrev whole : Memory
  whole = memory s rs st

  abbrev alone : Memory
  alone = memory (station_of (row_alone s.uplink i) s.queued) rs st

  -- a refusal leaves both as they came in
  refused-back : (x : Numbered) → outcome x whole ≡ row_back s i (outcome x alone)
  refused-back x = ap (λ (u : Uplink). outcome x (memory (station_of u s.queued) rs st)) (sym (with-row-alone s.uplink i inside))

  -- an answer with the row put back is queued as the answer itself
  queued-back : (a : CapAnswer) (x : Result Grant Refusal)
      → grant_queued whole t kind n (record { reply = a.reply; uplink = with_row_of s.uplink i a.uplink }) x ≡ row_back s i (grant_queued alone t kind n a x)
  unfolding grant_queued
  queued-back a (Err r) = refused-back (Numbered.refused (refusal_number r))
  queued-back a (Ok g) = refl

  -- where the questions let the request pass, the search looks at its row alone
  answered-back : 1 ≤ t → t ≤ timeslots → i ≡ t - 1 → request_answered whole t code kind n ≡ row_back s i (request_answered alone t code kind n)
  unfolding request_answered
  answered-back low high e =
      let r : Request = record { timeslot = t; code = code; number = n } in
      ap (λ (a : CapAnswer). grant_queued whole t kind n a a.reply) (rw (← e) at (answer-by-row s.uplink r low high))
      ∙ queued-back (answer (row_alone s.uplink i) r) _

  -- the request on the whole station is that on the row alone, with the row put back
  request-by-row : (legal_timeslot t ≡ true → i ≡ t - 1) → sound_station s ≡ true → SoundQueue s rs st
      → request_call whole t code kind n ≡ row_back s i (request_call alone t code kind n)
  unfolding request_call
  request-by-row at sound q =
      let own : List Question = request_questions (queued_for s.queued t) t code kind n in
      let same : SoundQueue alone.station rs st = record { places = q.places; cells = q.cells; sound = q.sound } in
      memory-passes whole [] own _ _ (queue-yes s rs st sound q)
      ∙ ask-both (λ a b. a ≡ row_back s i b) own _ _ _ _ (λ n. refused-back (Numbered.refused n))
      (λ yes. let range = timeslot-range t yes.0 in answered-back range.0 range.1 (at yes.0))
      ∙ ap (row_back s i) (sym (memory-passes alone [] own _ _ (queue-yes alone.station rs st (row-station-sound s i sound) same)))

-- what the code answers is the plan of the call
pub request-planned : (s : Station) (t code kind n : ℕ) (u : Uplink) (p : Result RequestPlan Refusal) → sound_station s ≡ true
    → ((rs : List Record) (st : List ℕ) → let m = memory s rs st in planned_outcome p u m ≡ request_asked m t code kind n)
    → IfErr p (λ _. u ≡ s.uplink) → IfOk p (λ j. j.joining.place < queue_places) → RequestPlanned (λ m. request_call m t code kind n) s u p
unfolding request_asked request_call
request-planned s t code kind n u (Ok p) sound whole left place = λ store.
    let own : List Question = request_questions (queued_for s.queued t) t code kind n in
    record {
      whole = λ rs q. whole rs store ∙ sym (memory-passes (memory s rs store) [] own _ _ (queue-yes s rs store sound q));
      done = refl;
      place-in-queue = place;
    }
request-planned s t code kind n u (Err x) sound whole left place = (
  left,
  λ store.
      let own : List Question = request_questions (queued_for s.queued t) t code kind n in
      record {
        whole = λ rs q. whole rs store ∙ sym (memory-passes (memory s rs store) [] own _ _ (queue-yes s rs store sound q));
        store = refl;
      },
)

-- a request's plan on the row of its timeslot alone, with the row put back, is its plan; for a timeslot that is refused any row will do
pub row-planned : (s : Station) (i t code kind n : ℕ) (u : Uplink) (p : Result RequestPlan Refusal) → i < timeslots
    → (legal_timeslot t ≡ true → i ≡ t - 1) → sound_station s ≡ true
    → RequestPlanned (λ m. request_call m t code kind n) (station_of (row_alone s.uplink i) s.queued) u p
    → RequestPlanned (λ m. request_call m t code kind n) s (with_row_of s.uplink i u) p
row-planned s i t code kind n u (Ok p) inside at sound planned = λ store.
    let k = planned store in
    record {
      whole = λ rs q.
          ap (row_back s i) (k.whole rs (record { places = q.places; cells = q.cells; sound = q.sound }))
          ∙ sym (request-by-row s i t code kind n inside rs store at sound q);
      done = k.done;
      place-in-queue = k.place-in-queue;
    }
row-planned s i t code kind n u (Err x) inside at sound planned = (
  ap (with_row_of s.uplink i) planned.0 ∙ with-row-alone s.uplink i inside,
  λ store.
      let k = planned.1 store in
      record {
        whole = λ rs q.
            refused-back s i t code kind n inside rs store (Numbered.refused (refusal_number x))
            ∙ ap (row_back s i) (k.whole rs (record { places = q.places; cells = q.cells; sound = q.sound }))
            ∙ sym (request-by-row s i t code kind n inside rs store at sound q);
        store = k.store;
      },
)
