-- Exit by exit. Assumes nothing.
use Rattle.std.proofs.Common.{eqb-true, ◌≡◌, ℕ, List, [], ◌∷◌, length, Result, subst, ap, ◌∙◌, ◌*◌, arith}
use Rattle.std.proofs.lemmas.Result.{err_from_is_err_and}
use lib.Seq.{sets}
use Rattle.questions.specs.declared.Refusal.{Refusal}
use Rattle.sched_core.specs.Questions.{Memory}
use Rattle.sched_core.specs.Calls.{Outcome, tma_call}
use Rattle.sched_enqueue.specs.declared.Joining.{Joining}
use Rattle.sched_enqueue.specs.Plan.{QueuePlanned, tma_queued, joined_queued}
use Rattle.sched_enqueue.proofs.PlanLaws.{Told, tma-planned}
use Rattle.sched_words.specs.Words.{station_word_count, record_word_count, queue_word_count, station_from, record_words, records_from}
use Rattle.sched_words.specs.Words.{offered_from}
use Rattle.questions.specs.Questions.{ask}
use Rattle.dl_record.specs.declared.Record.{Record}
use Rattle.dl_record.specs.Record.{offered_record}
use Rattle.sched_core.specs.Questions.{memory_questions}
use Rattle.sched_core.specs.Replies.{reply_number}
use Rattle.bs_sched_c.specs.Exports.{Left, left, asks_station_words, asks_record_words, memory_from, words_left_by, enqueue_left}
use Rattle.bs_sched_c.proofs.AskedLaws.{all_words, asked-told}
use Rattle.bs_sched_c.proofs.LentLaws.{lent-other, lent-whole, lends-some, some-lent, mut_now, now, words-lent}
use Rattle.bs_sched_c.proofs.LeftLaws.{no-station, queue_replies, lent-no, lent-yes, exit-refused, exit-done}
use Rattle.bs_sched_c.proofs.enqueue.Goals as goal
use Rattle.bs_sched_c.proofs.enqueue.Goals.{In_ok-station, In_ok-sound, After-tma_joins}

-- the station's words, as they are lent
lent : (c : In_ok-station) → (length c.in_ok-station.station.now ≡ station_word_count) × (c.args.station.now ≡ c.in_ok-station.station.now)
lent c = lent-whole mut_now c.args.station.now station_word_count c.as_mut_array.result c.ok_or.ensures.value c.in_ok-station.was c.as_mut_array.ensures.cases

pub returns-in_err-station : goal.returns-in_err-station
unfolding enqueue_left
returns-in_err-station c =
    let a = c.args in
    let p = err_from_is_err_and c.from_residual.result c.from_residual.ensures.1 in
    let n = lent-other mut_now a.station.now station_word_count c.as_mut_array.result c.ok_or.ensures.value c.in_err-station.was
    c.as_mut_array.ensures.cases in
    rw (p.1, p.2, n.1) (no-station a.station.now _ (λ (n : ℕ). left n a.station.now a.queue.now a.store.now)
    (memory_questions (memory_from a.station.now a.queue.now a.store.now) (asks_record_words a.offered.now ∷ [])) n.0)

pub returns-in_err-sound : goal.returns-in_err-sound
unfolding enqueue_left
returns-in_err-sound c =
    let a = c.args in
    let w = lent (goal.at.returns-in_err-sound c).In_ok-station in
    let p = err_from_is_err_and c.from_residual-in_err-sound.result c.from_residual-in_err-sound.ensures.1 in
    rw (p.1, p.2, w.1)
    (lent-no queue_replies c.in_ok-station.station.now a.queue.now a.store.now w.0 c.in_err-sound.was (asks_record_words a.offered.now) (omega arith)
    c.ask_memory.ensures.number _)

-- what the questions have told
passed : (l : In_ok-sound)
    → let a = l.args in Told (station_from l.in_ok-station.station.now) (records_from a.queue.now) a.store.now (asks_record_words a.offered.now).holds
passed l = let a = l.args in asked-told _ a.queue.now a.store.now _ l.ask_memory.ensures.number l.in_ok-sound.was

pub unwrap-requires : goal.unwrap-requires
unwrap-requires c =
    let k = passed (goal.at.unwrap-requires c).In_ok-sound in
    lends-some now c.args.offered.now record_word_count c.as_array.result (eqb-true _ _ k.lengths) c.as_array.ensures.cases

pub tma_joins-requires : goal.tma_joins-requires
tma_joins-requires c = (passed (goal.at.tma_joins-requires c).In_ok-sound).queue.cells

-- the call for an offered record
abbrev offers : ℕ → List ℕ → Record → Memory → Outcome
offers t sdu r m = tma_call m t r.address.kind r.address.number r.tag r.header r.bits sdu

abbrev called : After-tma_joins → Memory → Outcome
called l = let a = l.args in offers a.timeslot a.sdu.now (offered_from a.offered.now)

-- what a result is the plan of, for the station and the record that the words stand for
abbrev Plans : After-tma_joins → Result Joining Refusal → Type 0
Plans l r = let a = l.args in QueuePlanned (called l) (station_from l.in_ok-station.station.now) a.store.now l.tma_joins.new.store r

planned : (l : After-tma_joins) → Plans l l.tma_joins.result
planned l =
    let a = l.args in
    let s = station_from l.in_ok-station.station.now in
    let done = l.tma_joins.result in
    let st' = l.tma_joins.new.store in
    let r = l.offered_from-r.result in
    let offered = offered_record r.address.kind r.address.number r.tag r.header r.bits in
    let read = l.offered_from-r.ensures
    ∙ ap offered_from (some-lent now a.offered.now record_word_count l.as_array.result l.unwrap.ensures l.as_array.ensures.cases) in
    let counts = l.queued-queued.ensures ∙ ap (λ (ws : List ℕ). (station_from ws).queued) (words-lent l.ask_memory.ensures.words l.in_ok-sound.was) in
    subst (λ (x : Record). QueuePlanned (offers a.timeslot a.sdu.now x) s a.store.now st' done) read
    (tma-planned s a.store.now st' a.timeslot r.address.kind r.address.number r.tag r.header r.bits a.sdu.now done
    (passed (goal.at.After-tma_joins l).In_ok-sound).station
    (subst (λ (ns : List ℕ). joined_queued done ns st' ≡ tma_queued ns a.store.now a.timeslot offered a.sdu.now) counts l.tma_joins.ensures))

-- the first questions are all answered yes: what is left is the call's
answered : (l : After-tma_joins) (x : Left ℕ)
    → let a = l.args in
    let ws = l.in_ok-station.station.now in
    let done = words_left_by reply_number ws a.queue.now a.store.now (called l (memory_from ws a.queue.now a.store.now)) in
    x ≡ ask (asks_station_words ws ∷ []) done (λ i. left i ws a.queue.now a.store.now)
    → x ≡ enqueue_left ws a.queue.now a.store.now a.timeslot a.offered.now a.sdu.now
unfolding enqueue_left
answered l x e =
    let a = l.args in
    let w = lent (goal.at.After-tma_joins l).In_ok-station in
    lent-yes queue_replies l.in_ok-station.station.now a.queue.now a.store.now w.0 (asks_record_words a.offered.now) (omega arith) l.in_ok-sound.was
    l.ask_memory.ensures.number x _ e

pub returns-in_err-joining : goal.returns-in_err-joining
returns-in_err-joining c =
    let l = (goal.at.returns-in_err-joining c).After-tma_joins in
    let k = passed (goal.at.returns-in_err-joining c).In_ok-sound in
    let a = c.args in
    let w = lent (goal.at.returns-in_err-joining c).In_ok-station in
    let p = err_from_is_err_and c.from_residual-in_err-joining.result c.from_residual-in_err-joining.ensures.1 in
    rw (p.1, p.2, w.1)
    (answered l _ (exit-refused queue_replies c.in_ok-station.station.now a.queue.now a.store.now w.0 k.queue (called l) l.tma_joins.new.store _
    (subst (Plans l) c.in_err-joining.was (planned l))))

pub unwrap-queue-requires : goal.unwrap-queue-requires
unwrap-queue-requires c =
    let k = passed (goal.at.unwrap-queue-requires c).In_ok-sound in
    lends-some mut_now c.args.queue.now queue_word_count c.as_mut_array-2.result (all_words c.args.queue.now k.queue.places) c.as_mut_array-2.ensures.cases

pub join-requires : goal.join-requires
join-requires c =
    let l = (goal.at.join-requires c).After-tma_joins in
    ((passed (goal.at.join-requires c).In_ok-sound).station, (subst (Plans l) c.in_ok-joining.was (planned l)).place-in-queue)

pub returns : goal.returns
returns c =
    let l = (goal.at.returns c).After-tma_joins in
    let k = passed (goal.at.returns c).In_ok-sound in
    let a = c.args in
    let w = lent (goal.at.returns c).In_ok-station in
    let j = c.in_ok-joining.joining in
    let queue = some-lent mut_now a.queue.now queue_word_count c.as_mut_array-2.result c.unwrap-queue.ensures c.as_mut_array-2.ensures.cases in
    rw w.1
    (answered l _ (exit-done queue_replies c.in_ok-station.station.now a.queue.now a.store.now w.0 k.queue (called l) l.tma_joins.new.store _ _ _ _
    (subst (Plans l) c.in_ok-joining.was (planned l)) _ _ c.join.ensures.station
    (c.join.ensures.queue ∙ ap (λ (l : List ℕ). sets l (record_word_count * j.place) (record_words j.«record»)) queue)))
