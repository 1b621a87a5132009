-- The first i records are read. Assumes nothing.
use Rattle.std.proofs.Common.{◌≡◌, ℕ, List, ◌+◌, ◌*◌, ◌/◌, ◌≤◌, length, take, drop, replicate, sym, ap, ◌∙◌, arith, rules, length-drop, length-take-le, get_or-drop}
use Rattle.std.proofs.Common.{get_or-take}
use Rattle.sizes.specs.Sizes.{per_timeslot, queue_places}
use Rattle.dl_record.specs.Record.{empty_record}
use Rattle.sched_words.specs.Words.{record_word_count, record_read, records_read}
use Rattle.sched_words.proofs.WordLaws.{part_at, length-parts, filled_next}
use Rattle.sched_words.proofs.FitRecord.{read-front}
use Rattle.sched_words.proofs.FrontLaws.{run-at}
use Rattle.sched_words.proofs.queue.records_read.Goals as goal

size : (ws : List ℕ) (first : ℕ) → first + per_timeslot ≤ queue_places → length (take per_timeslot (drop first (records_read ws))) ≡ per_timeslot
size ws first room =
    length-take-le per_timeslot (drop first (records_read ws))
    (rw length-drop (omega (arith, length-parts record_read record_word_count queue_places ws)))

pub loop-k-preserved : goal.loop-k-preserved
loop-k-preserved c =
    let ws = c.args.words.now in
    let f = c.args.first in
    let i = c.loop-k.k in
    let room = c.requires.0 in
    let long : length ws ≡ 1472 = search rules in
    let rs = take per_timeslot (drop f (records_read ws)) in
    let run = run-at record_word_count queue_places (length ws / record_word_count) (f + i) ws c.as_chunks.result.0.now c.as_chunks.ensures.front
    (omega (arith, long)) (omega arith) in
    let read = c.record_read.ensures ∙ ap record_read run
    ∙ read-front (drop (record_word_count * (f + i)) ws) (rw length-drop (omega (arith, long)))
    ∙ sym (get_or-take per_timeslot (drop f (records_read ws)) i empty_record (omega arith) ∙ get_or-drop f (records_read ws) i empty_record
    ∙ part_at record_read record_word_count queue_places (f + i) ws empty_record (omega arith)) in (
      omega arith,
      c.loop-k.invariant.1,
      rw (c.loop-k.invariant.2, read) (filled_next empty_record i rs (replicate per_timeslot empty_record) (omega (arith, size ws f room)) (omega arith)),
    )
