-- What is left to store still gives the words that all give. Assumes nothing.
use Rattle.std.proofs.Common.{◌≡◌, ◌+◌, ◌*◌, length, drop}
use lib.Seq.{sets}
use Rattle.sched_words.specs.Words.{record_word_count, queue_words}
use Rattle.sched_words.proofs.queue.put_records.Given as goal

abbrev pub invariant-loop-j : goal.invariant-loop-j
invariant-loop-j l =
    (length l.words ≡ length l.initial.words)
    × (sets l.words (record_word_count * (l.first + l.j)) (queue_words (drop l.j l.records)) ≡ sets l.initial.words
    (record_word_count * l.first) (queue_words l.records))
