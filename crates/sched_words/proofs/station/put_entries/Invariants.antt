-- What is left to store still gives the words that all entries give. Assumes nothing.
use Rattle.std.proofs.Common.{◌≡◌, ◌+◌, ◌*◌, length, drop}
use lib.Seq.{sets}
use Rattle.sched_words.specs.Words.{words_of_all, entry_words}
use Rattle.sched_words.proofs.station.put_entries.Given as goal

abbrev pub invariant-loop-i : goal.invariant-loop-i
invariant-loop-i l = (length l.words ≡ length l.initial.words)
    × (sets l.words (l.at + 3 * l.i) (words_of_all entry_words (drop l.i l.entries)) ≡ sets l.initial.words l.at (words_of_all entry_words l.entries))
