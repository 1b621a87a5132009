-- Question by question. Assumes nothing.
use Rattle.std.proofs.Common.{◌≡◌, ℕ, true, List, [], ◌∷◌, length, ap, ◌∙◌, sym, eqb-true}
use borrow.Author.Tests.{eqb-false}
use Rattle.std.proofs.lemmas.Result.{err_from_is_err_and}
use Rattle.questions.specs.Questions.{Question, question}
use Rattle.questions.proofs.AskLaws.{said-no, said-yes, FirstYes, first-no, every-yes}
use Rattle.dl_queue.specs.Questions.{sound_queue}
use Rattle.sched_core.specs.Questions.{Memory, memory, memory_questions, sound_station}
use Rattle.sched_core.proofs.QuestionLaws.{asked-yes, right-lengths, other-places, other-octets}
use Rattle.sched_words.specs.Words.{queue_word_count, station_from, queue_from, records_from}
use Rattle.bs_sched_c.proofs.AskedLaws.{queue-whole, no-records, all-places}
use Rattle.bs_sched_c.proofs.LentLaws.{lent-other, lent-whole, now, sound-yes, sound-no}
use Rattle.bs_sched_c.proofs.LeftLaws.{asked-no}
use Rattle.bs_sched_c.proofs.ask_memory.Goals as goal
use Rattle.bs_sched_c.proofs.ask_memory.Goals.{Start, In_ok-sound, In_ok-queue, In_ok-ask, In_ok-ask-2, After-queue_is_sound}

abbrev all : Start → Memory
all s = memory (station_from s.args.station.now) (records_from s.args.queue.now) s.args.store.now

abbrev asked : Start → List Question
asked s = memory_questions (all s) (question s.args.lent 2 ∷ [])

-- what each answer tells
sound : (c : In_ok-sound) → (c.in_ok-sound.sound.words.now ≡ c.args.station.now) × (sound_station (station_from c.args.station.now) ≡ true)
sound c = sound-yes {ws = c.args.station.now} c.try_from.ensures.0 c.in_ok-sound.was

queue : (c : In_ok-queue) → (length c.in_ok-queue.queue.now ≡ queue_word_count) × (c.args.queue.now ≡ c.in_ok-queue.queue.now)
queue c = lent-whole now c.args.queue.now queue_word_count c.as_array.result c.ok_or.ensures.value c.in_ok-queue.was c.as_array.ensures.cases

size : (c : In_ok-queue) → length c.args.queue.now ≡ queue_word_count
size c = let q = queue c in ap length q.1 ∙ q.0

pub returns-in_err-sound-clause-number : goal.returns-in_err-sound-clause-number
returns-in_err-sound-clause-number c =
    let p = err_from_is_err_and c.from_residual.result c.from_residual.ensures.1 in
    let n = sound-no c.args.station.now c.try_from.ensures.1 c.in_err-sound.was in
    rw (p.1, p.2, n.0) (first-no 0 (λ n. n) 0 (asked (goal.at.returns-in_err-sound-clause-number c).Start) tt n.1)

pub returns-in_err-queue-clause-number : goal.returns-in_err-queue-clause-number
returns-in_err-queue-clause-number c =
    let s = (goal.at.returns-in_err-queue-clause-number c).Start in
    let yes = (sound (goal.at.returns-in_err-queue-clause-number c).In_ok-sound).1 in
    let p = err_from_is_err_and c.from_residual-in_err-queue.result c.from_residual-in_err-queue.ensures.1 in
    let n = lent-other now c.args.queue.now queue_word_count c.as_array.result c.ok_or.ensures.value c.in_err-queue.was c.as_array.ensures.cases in
    rw (p.1, p.2, n.1) (first-no 0 (λ n. n) 1 (asked s) (tt, yes) (other-places (all s) (no-records c.args.queue.now (eqb-false _ _ n.0))))

pub returns-in_err-ask-clause-number : goal.returns-in_err-ask-clause-number
returns-in_err-ask-clause-number c =
    let s = (goal.at.returns-in_err-ask-clause-number c).Start in
    let yes = (sound (goal.at.returns-in_err-ask-clause-number c).In_ok-sound).1 in
    let places = all-places c.args.queue.now (size (goal.at.returns-in_err-ask-clause-number c).In_ok-queue) in
    let p = err_from_is_err_and c.from_residual-in_err-ask.result c.from_residual-in_err-ask.ensures.1 in
    let n = asked-no _ _ c.ask.ensures c.in_err-ask.was in
    rw (p.1, p.2, n.1) (first-no 0 (λ n. n) 1 (asked s) (tt, yes) (other-octets (all s) places (eqb-false _ _ n.0)))

pub returns-in_err-ask-2-clause-number : goal.returns-in_err-ask-2-clause-number
returns-in_err-ask-2-clause-number c =
    let s = (goal.at.returns-in_err-ask-2-clause-number c).Start in
    let yes = (sound (goal.at.returns-in_err-ask-2-clause-number c).In_ok-sound).1 in
    let places = all-places c.args.queue.now (size (goal.at.returns-in_err-ask-2-clause-number c).In_ok-queue) in
    let octets = eqb-true _ _ (asked-yes _ _ c.ask.ensures c.in_ok-ask.was) in
    let p = err_from_is_err_and c.from_residual-in_err-ask-2.result c.from_residual-in_err-ask-2.ensures.1 in
    let n = asked-no _ _ c.ask-2.ensures c.in_err-ask-2.was in
    rw (p.1, p.2, n.1) (first-no 0 (λ n. n) 2 (asked s) ((tt, yes), right-lengths (all s) places octets) n.0)

-- the questions before the last one
three : (c : In_ok-ask-2) → FirstYes 3 (asked (goal.at.In_ok-ask-2 c).Start)
three c =
    let s = (goal.at.In_ok-ask-2 c).Start in
    let yes = (sound (goal.at.In_ok-ask-2 c).In_ok-sound).1 in
    let places = all-places c.args.queue.now (size (goal.at.In_ok-ask-2 c).In_ok-queue) in
    let octets = eqb-true _ _ (asked-yes _ _ c.ask.ensures c.in_ok-ask.was) in
    (((tt, yes), right-lengths (all s) places octets), asked-yes _ _ c.ask-2.ensures c.in_ok-ask-2.was)

-- what the last question is told, of the records
told : (c : After-queue_is_sound)
    → let a = c.args in
    c.queue_is_sound.result ≡ sound_queue (station_from a.station.now).queued (records_from a.queue.now) a.store.now
told c =
    let a = c.args in
    let k = (goal.at.After-queue_is_sound c).In_ok-queue in
    let counts = c.queued-queued.ensures ∙ ap (λ (l : List ℕ). (station_from l).queued) (sound (goal.at.After-queue_is_sound c).In_ok-sound).0 in
    let records = ap queue_from (sym (queue k).1) ∙ queue-whole a.queue.now (size k) in
    c.queue_is_sound.ensures ∙ (λ i. sound_queue (counts i) (records i) a.store.now)

pub returns-in_err-ask-3-clause-number : goal.returns-in_err-ask-3-clause-number
returns-in_err-ask-3-clause-number c =
    let s = (goal.at.returns-in_err-ask-3-clause-number c).Start in
    let p = err_from_is_err_and c.from_residual-in_err-ask-3.result c.from_residual-in_err-ask-3.ensures.1 in
    let n = asked-no _ _ c.ask-3.ensures c.in_err-ask-3.was in
    rw (p.1, p.2, n.1)
    (first-no 0 (λ n. n) 3 (asked s) (three (goal.at.returns-in_err-ask-3-clause-number c).In_ok-ask-2)
    (said-no (told (goal.at.returns-in_err-ask-3-clause-number c).After-queue_is_sound) n.0))

pub returns-clause-number : goal.returns-clause-number
returns-clause-number c =
    let s = (goal.at.returns-clause-number c).Start in
    every-yes 0 (λ n. n) (asked s) (
      three (goal.at.returns-clause-number c).In_ok-ask-2,
      said-yes (told (goal.at.returns-clause-number c).After-queue_is_sound)
          (asked-yes _ _ c.ask-3.ensures c.in_ok-ask-3.was),
    )
