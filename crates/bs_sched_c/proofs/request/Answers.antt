-- Exit by exit. Assumes nothing.
use Rattle.std.proofs.Common.{◌≡◌, ℕ, List, true, false, [], length, Result, Err, IfOk, IfErr, refl, ◌-◌, subst, ap, ◌∙◌, ◌*◌}
use Rattle.std.proofs.lemmas.Result.{err_from_is_err_and}
use lib.Seq.{sets}
use Rattle.questions.specs.declared.Refusal.{Refusal}
use Rattle.sched_core.specs.Questions.{Memory}
use Rattle.sched_core.specs.Calls.{Outcome, request_call}
use Rattle.tdma_time.specs.Time.{legal_timeslot}
use Rattle.tdma_time.specs.declared.Timeslot.{Timeslot}
use Rattle.uplink.specs.Functions.{row_alone, with_row_of}
use Rattle.sched_core.specs.declared.Station.{Station}
use Rattle.sched_core.specs.Station.{station_of}
use Rattle.sched_core.specs.Questions.{sound_station, queued_for, request_questions}
use Rattle.sched_core.proofs.StationLaws.{sound-time}
use Rattle.questions.proofs.AskLaws.{first-no}
use Rattle.sched_enqueue.proofs.PlanLaws.{Told}
use Rattle.sched_request.specs.declared.RequestPlan.{RequestPlan}
use Rattle.sched_request.specs.RequestPlan.{RequestPlanned, request_asked}
use Rattle.sched_request.proofs.RowPlan.{row-station-sound, row-planned, request-planned}
use Rattle.sched_words.specs.Words.{station_word_count, record_word_count, queue_word_count, station_from, record_words, records_from}
use Rattle.bs_sched_c.specs.Exports.{not_granted_struct, left, request_left}
use Rattle.bs_sched_c.proofs.AskedLaws.{all_words, asked-told}
use Rattle.bs_sched_c.proofs.LentLaws.{lent-other, lent-whole, lends-some, some-lent, mut_now, words-lent}
use Rattle.bs_sched_c.proofs.LeftLaws.{no-station, grant_replies, exit-no, exit-refused, exit-done}
use Rattle.bs_sched_c.proofs.request.Goals as goal
use Rattle.bs_sched_c.proofs.request.Goals.{In_ok-station, In_ok-sound, After-queued-queued, After-request_plan}

-- the station's words, as they are lent
lent : (c : In_ok-station) → (length c.in_ok-station.station.now ≡ station_word_count) × (c.args.station.now ≡ c.in_ok-station.station.now)
lent c = lent-whole mut_now c.args.station.now station_word_count c.as_mut_array.result c.ok_or.ensures.value c.in_ok-station.was c.as_mut_array.ensures.cases

pub returns-in_err-station : goal.returns-in_err-station
unfolding request_left
returns-in_err-station c =
    let a = c.args in
    let p = err_from_is_err_and c.from_residual.result c.from_residual.ensures.1 in
    let n = lent-other mut_now a.station.now station_word_count c.as_mut_array.result c.ok_or.ensures.value c.in_err-station.was
    c.as_mut_array.ensures.cases in
    rw (p.1, p.2, n.1) (no-station a.station.now _ (λ (n : ℕ). left (not_granted_struct n) a.station.now a.queue.now a.store.now) [] n.0)

pub returns-in_err-sound : goal.returns-in_err-sound
unfolding request_left request_call
returns-in_err-sound c =
    let a = c.args in
    let w = lent (goal.at.returns-in_err-sound c).In_ok-station in
    let p = err_from_is_err_and c.from_residual-in_err-sound.result c.from_residual-in_err-sound.ensures.1 in
    rw (p.1, p.2, w.1)
    (exit-no grant_replies c.in_ok-station.station.now a.queue.now a.store.now w.0 c.in_err-sound.was _ _ c.ask_memory.ensures.number)

-- what the questions have told
passed : (l : In_ok-sound) → let a = l.args in Told (station_from l.in_ok-station.station.now) (records_from a.queue.now) a.store.now true
passed l = let a = l.args in asked-told _ a.queue.now a.store.now true l.ask_memory.ensures.number l.in_ok-sound.was

-- a timeslot that is refused
pub returns-in_err-try_from : goal.returns-in_err-try_from
unfolding request_left request_asked
returns-in_err-try_from c =
    let a = c.args in
    let ws = c.in_ok-station.station.now in
    let w = lent (goal.at.returns-in_err-try_from c).In_ok-station in
    let k = passed (goal.at.returns-in_err-try_from c).In_ok-sound in
    let s = station_from ws in
    let p = err_from_is_err_and c.from_residual-in_err-try_from.result c.from_residual-in_err-try_from.ensures.1 in
    let n = subst (λ (r : Result Timeslot Refusal). IfErr r (λ e. (e ≡ Refusal.Timeslot) × (legal_timeslot a.timeslot ≡ false))) c.in_err-try_from.was c.try_from.ensures.1 in
    let plan = request-planned s a.timeslot a.code a.address.kind a.address.number s.uplink (Err Refusal.Timeslot) k.station
    (λ rs st. first-no _ _ 0 (request_questions (queued_for s.queued a.timeslot) a.timeslot a.code a.address.kind a.address.number) tt n.1) refl tt in
    rw (p.1, p.2, n.0, w.1)
    (exit-refused grant_replies ws a.queue.now a.store.now w.0 k.queue (λ m. request_call m a.timeslot a.code a.address.kind a.address.number) a.store.now
    Refusal.Timeslot (plan.1 a.store.now))

-- the row alone, and the counts
alone : (l : After-queued-queued)
    → let s = station_from l.in_ok-station.station.now in
    station_of l.row_alone-uplink.result l.queued-queued.result ≡ station_of (row_alone s.uplink l.row-row.result) s.queued
alone l =
    let words = words-lent l.ask_memory.ensures.words l.in_ok-sound.was in
    let row = l.row_alone-uplink.ensures ∙ ap (λ (ws : List ℕ). row_alone (station_from ws).uplink l.row-row.result) words in
    let counts = l.queued-queued.ensures ∙ ap (λ (ws : List ℕ). (station_from ws).queued) words in
    λ i. station_of (row i) (counts i)

sound-alone : (l : After-queued-queued) → sound_station (station_of l.row_alone-uplink.result l.queued-queued.result) ≡ true
sound-alone l =
    ap sound_station (alone l) ∙ row-station-sound _ l.row-row.result (passed (goal.at.After-queued-queued l).In_ok-sound).station

pub request_plan-requires : goal.request_plan-requires
request_plan-requires c = sound-time _ (sound-alone (goal.at.request_plan-requires c).After-queued-queued)

abbrev called : After-request_plan → Memory → Outcome
called l m = let a = l.args in request_call m a.timeslot a.code a.address.kind a.address.number

-- what a result is the plan of, with its row put back: the station that the words stand for
abbrev Plans : After-request_plan → Result RequestPlan Refusal → Type 0
Plans l r =
    let s = station_from l.in_ok-station.station.now in
    RequestPlanned (called l) s (with_row_of s.uplink l.row-row.result l.request_plan.new.uplink) r

planned : (l : After-request_plan) → Plans l l.request_plan.result
planned l =
    let a = l.args in
    let q = (goal.at.After-request_plan l).After-queued-queued in
    let s = station_from l.in_ok-station.station.now in
    let row = l.row-row.result in
    let e = l.request_plan.ensures in
    let t = subst (λ (r : Result Timeslot Refusal). IfOk r (λ x. (x.number ≡ a.timeslot) × (legal_timeslot a.timeslot ≡ true))) l.in_ok-try_from.was l.try_from.ensures.0 in
    let plan = request-planned (station_of l.row_alone-uplink.result l.queued-queued.result) a.timeslot a.code a.address.kind a.address.number
    l.request_plan.new.uplink l.request_plan.result (sound-alone q) e.whole e.left e.place in
    row-planned s row a.timeslot a.code a.address.kind a.address.number l.request_plan.new.uplink l.request_plan.result l.row-row.ensures.1
    (λ h. l.row-row.ensures.0 ∙ ap (λ (n : ℕ). n - 1) t.0) (passed (goal.at.After-request_plan l).In_ok-sound).station
    (subst (λ (y : Station). RequestPlanned (called l) y l.request_plan.new.uplink l.request_plan.result) (alone q) plan)

pub returns-in_err-plan : goal.returns-in_err-plan
unfolding request_left
returns-in_err-plan c =
    let l = (goal.at.returns-in_err-plan c).After-request_plan in
    let k = passed (goal.at.returns-in_err-plan c).In_ok-sound in
    let a = c.args in
    let w = lent (goal.at.returns-in_err-plan c).In_ok-station in
    let p = err_from_is_err_and c.from_residual-in_err-plan.result c.from_residual-in_err-plan.ensures.1 in
    rw (p.1, p.2, w.1)
    (exit-refused grant_replies c.in_ok-station.station.now a.queue.now a.store.now w.0 k.queue (called l) a.store.now _
    ((subst (Plans l) c.in_err-plan.was (planned l)).1 a.store.now))

pub unwrap-queue-requires : goal.unwrap-queue-requires
unwrap-queue-requires c =
    let k = passed (goal.at.unwrap-queue-requires c).In_ok-sound in
    lends-some mut_now c.args.queue.now queue_word_count c.as_mut_array-2.result (all_words c.args.queue.now k.queue.places) c.as_mut_array-2.ensures.cases

pub put_row_of-requires : goal.put_row_of-requires
put_row_of-requires c = ((passed (goal.at.put_row_of-requires c).In_ok-sound).station, c.row-row.ensures.1)

pub put_record-requires : goal.put_record-requires
put_record-requires c =
    let l = (goal.at.put_record-requires c).After-request_plan in
    (subst (Plans l) c.in_ok-plan.was (planned l) c.args.store.now).place-in-queue

pub returns : goal.returns
unfolding request_left
returns c =
    let l = (goal.at.returns c).After-request_plan in
    let k = passed (goal.at.returns c).In_ok-sound in
    let a = c.args in
    let w = lent (goal.at.returns c).In_ok-station in
    let j = c.in_ok-plan.plan.joining in
    let queue = some-lent mut_now a.queue.now queue_word_count c.as_mut_array-2.result c.unwrap-queue.ensures c.as_mut_array-2.ensures.cases in
    rw w.1
    (exit-done grant_replies c.in_ok-station.station.now a.queue.now a.store.now w.0 k.queue (called l) a.store.now _ _ _ _
    (subst (Plans l) c.in_ok-plan.was (planned l) a.store.now) _ _ c.put_row_of.ensures
    (c.put_record.ensures ∙ ap (λ (l : List ℕ). sets l (record_word_count * j.place) (record_words j.«record»)) queue))
