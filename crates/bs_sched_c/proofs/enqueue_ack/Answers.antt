-- Exit by exit. Assumes nothing.
use Rattle.std.proofs.Common.{◌≡◌, ℕ, List, true, [], length, Result, subst, ap, ◌∙◌, ◌*◌}
use Rattle.std.proofs.lemmas.Result.{err_from_is_err_and}
use lib.Seq.{sets}
use Rattle.questions.specs.declared.Refusal.{Refusal}
use Rattle.sched_core.specs.Questions.{Memory}
use Rattle.sched_core.specs.Calls.{Outcome, ack_call}
use Rattle.sched_enqueue.specs.declared.Joining.{Joining}
use Rattle.sched_enqueue.specs.Plan.{QueuePlanned, ack_queued, joined_queued}
use Rattle.sched_enqueue.proofs.PlanLaws.{Told, ack-planned}
use Rattle.sched_words.specs.Words.{station_word_count, record_word_count, queue_word_count, station_from, record_words, records_from}
use Rattle.bs_sched_c.specs.Exports.{left, ack_left}
use Rattle.bs_sched_c.proofs.AskedLaws.{all_words, asked-told}
use Rattle.bs_sched_c.proofs.LentLaws.{lent-other, lent-whole, lends-some, some-lent, mut_now, words-lent}
use Rattle.bs_sched_c.proofs.LeftLaws.{no-station, queue_replies, exit-no, exit-refused, exit-done}
use Rattle.bs_sched_c.proofs.enqueue_ack.Goals as goal
use Rattle.bs_sched_c.proofs.enqueue_ack.Goals.{In_ok-station, In_ok-sound, After-ack_joins}

-- the station's words, as they are lent
lent : (c : In_ok-station) → (length c.in_ok-station.station.now ≡ station_word_count) × (c.args.station.now ≡ c.in_ok-station.station.now)
lent c = lent-whole mut_now c.args.station.now station_word_count c.as_mut_array.result c.ok_or.ensures.value c.in_ok-station.was c.as_mut_array.ensures.cases

pub returns-in_err-station : goal.returns-in_err-station
unfolding ack_left
returns-in_err-station c =
    let a = c.args in
    let p = err_from_is_err_and c.from_residual.result c.from_residual.ensures.1 in
    let n = lent-other mut_now a.station.now station_word_count c.as_mut_array.result c.ok_or.ensures.value c.in_err-station.was
    c.as_mut_array.ensures.cases in
    rw (p.1, p.2, n.1) (no-station a.station.now _ (λ (n : ℕ). left n a.station.now a.queue.now a.store.now) [] n.0)

pub returns-in_err-sound : goal.returns-in_err-sound
unfolding ack_left ack_call
returns-in_err-sound c =
    let a = c.args in
    let w = lent (goal.at.returns-in_err-sound c).In_ok-station in
    let p = err_from_is_err_and c.from_residual-in_err-sound.result c.from_residual-in_err-sound.ensures.1 in
    rw (p.1, p.2, w.1)
    (exit-no queue_replies c.in_ok-station.station.now a.queue.now a.store.now w.0 c.in_err-sound.was _ _ c.ask_memory.ensures.number)

-- what the questions have told
passed : (l : In_ok-sound) → let a = l.args in Told (station_from l.in_ok-station.station.now) (records_from a.queue.now) a.store.now true
passed l = let a = l.args in asked-told _ a.queue.now a.store.now true l.ask_memory.ensures.number l.in_ok-sound.was

abbrev called : After-ack_joins → Memory → Outcome
called l m = let a = l.args in ack_call m a.timeslot a.address.kind a.address.number

-- what a result is the plan of, for the station that the words stand for
abbrev Plans : After-ack_joins → Result Joining Refusal → Type 0
Plans l r = let a = l.args in QueuePlanned (called l) (station_from l.in_ok-station.station.now) a.store.now a.store.now r

planned : (l : After-ack_joins) → Plans l l.ack_joins.result
planned l =
    let a = l.args in
    let s = station_from l.in_ok-station.station.now in
    let counts = l.queued-queued.ensures ∙ ap (λ (ws : List ℕ). (station_from ws).queued) (words-lent l.ask_memory.ensures.words l.in_ok-sound.was) in
    ack-planned s a.store.now a.timeslot a.address.kind a.address.number l.ack_joins.result (passed (goal.at.After-ack_joins l).In_ok-sound).station
    (subst (λ (ns : List ℕ). joined_queued l.ack_joins.result ns a.store.now ≡ ack_queued ns a.store.now a.timeslot a.address.kind a.address.number) counts
    (l.ack_joins.ensures a.store.now))

pub returns-in_err-joining : goal.returns-in_err-joining
unfolding ack_left
returns-in_err-joining c =
    let l = (goal.at.returns-in_err-joining c).After-ack_joins in
    let k = passed (goal.at.returns-in_err-joining c).In_ok-sound in
    let a = c.args in
    let w = lent (goal.at.returns-in_err-joining c).In_ok-station in
    let p = err_from_is_err_and c.from_residual-in_err-joining.result c.from_residual-in_err-joining.ensures.1 in
    rw (p.1, p.2, w.1)
    (exit-refused queue_replies c.in_ok-station.station.now a.queue.now a.store.now w.0 k.queue (called l) a.store.now _
    (subst (Plans l) c.in_err-joining.was (planned l)))

pub unwrap-queue-requires : goal.unwrap-queue-requires
unwrap-queue-requires c =
    let k = passed (goal.at.unwrap-queue-requires c).In_ok-sound in
    lends-some mut_now c.args.queue.now queue_word_count c.as_mut_array-2.result (all_words c.args.queue.now k.queue.places) c.as_mut_array-2.ensures.cases

pub join-requires : goal.join-requires
join-requires c =
    let l = (goal.at.join-requires c).After-ack_joins in
    ((passed (goal.at.join-requires c).In_ok-sound).station, (subst (Plans l) c.in_ok-joining.was (planned l)).place-in-queue)

pub returns : goal.returns
unfolding ack_left
returns c =
    let l = (goal.at.returns c).After-ack_joins in
    let k = passed (goal.at.returns c).In_ok-sound in
    let a = c.args in
    let w = lent (goal.at.returns c).In_ok-station in
    let j = c.in_ok-joining.joining in
    let queue = some-lent mut_now a.queue.now queue_word_count c.as_mut_array-2.result c.unwrap-queue.ensures c.as_mut_array-2.ensures.cases in
    rw w.1
    (exit-done queue_replies c.in_ok-station.station.now a.queue.now a.store.now w.0 k.queue (called l) a.store.now _ _ _ _
    (subst (Plans l) c.in_ok-joining.was (planned l)) _ _ c.join.ensures.station
    (c.join.ensures.queue ∙ ap (λ (l : List ℕ). sets l (record_word_count * j.place) (record_words j.«record»)) queue))
