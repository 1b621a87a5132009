-- What is left to store still gives the words that all n give. Assumes nothing.
use mathlib.Core.Path.{◌≡◌}
use Prim.Native.Nat.{◌*◌}
use lib.ListN.{length, drop, replicate}
use lib.Seq.{sets}
use Rattle.sched_words.specs.Words.{words_of_all}
use Rattle.header_words.specs.HeaderWords.{header_word_count, list_word_count, placed_words}
use Rattle.header_words.proofs.put_headers.Given as goal

abbrev pub invariant-loop-k : goal.invariant-loop-k
invariant-loop-k l =
    (length l.words ≡ list_word_count)
    × (sets l.words (header_word_count * l.k) (words_of_all placed_words (drop l.k l.headers))
    ≡ sets (replicate list_word_count 0) 0 (words_of_all placed_words l.headers))
