-- A list of exported calls is a history. Assumes nothing.
use mathlib.Core.Path.{◌≡◌, refl, sym, ap, ◌∙◌}
use mathlib.Core.List.{List, [], ◌∷◌, ◌++◌, append-nil, append_assoc}
use Prim.Native.Nat.{ℕ}
use lib.ListN.{length, replicate}
use Rattle.lists.proofs.Every.{All, all_append}
use Rattle.sizes.specs.Sizes.{queue_places}
use Rattle.tdma_time.specs.declared.TdmaTime.{TdmaTime}
use Rattle.tdma_time.specs.Time.{Valid}
use Rattle.tdma_time.proofs.TimeLaws.{valid-true}
use Rattle.dl_record.specs.Record.{empty_record}
use Rattle.sched_core.specs.Station.{new_station}
use Rattle.sched_core.specs.Questions.{Memory}
use Rattle.sched_core.specs.Calls.{new_memory}
use Rattle.sched_words.specs.Words.{station_word_count, queue_word_count, words_of_all, station_words, record_words, queue_words}
use Rattle.sched_words.proofs.QueueRoundTrip.{Tagged}
use Rattle.bs_sched_c.specs.Exports.{station_left, new_left}
use Rattle.bs_sched_c.proofs.LeftLaws.{is-station-then}
use Rattle.history.specs.Call.{Call, run}
use Rattle.history.specs.Memory.{memory_step, memory_at}
use Rattle.history.proofs.Steps.{run-append}
use Rattle.history.proofs.Demand3.{demand3}
use Rattle.history_words.specs.WordCalls.{WordCall, Words, words, words_of, WordsLeft, word_step, words_after, new_words}
use Rattle.history_words.specs.WordHistory.{calls_of, word_history, WordsAreAHistory}
use Rattle.history_words.proofs.TagLaws.{TaggedCall, empty-tagged, run-tagged, calls-tagged, history-tagged}
use Rattle.history_words.proofs.WordSteps.{step_is}

-- zeros are the words of 64 empty places
zero-words : queue_words (replicate queue_places empty_record) ≡ replicate queue_word_count 0
unfolding words_of_all record_words
zero-words = refl

module _ (x : TdmaTime) (v : Valid x) where
  tags-at : (cs : List Call) → All TaggedCall cs → All Tagged (memory_at x cs).records
  unfolding new_memory
  tags-at cs t = run-tagged cs (new_memory x) t (empty-tagged queue_places)

  -- from where a history has come to
  words-from : (before : List Call) → All TaggedCall before → (cs : List WordCall)
      → words_after cs (words_of (memory_at x before)) ≡ words_of (memory_at x (before ++ word_history cs))
  unfolding words_after word_history
  words-from before t [] = ap (λ (l : List Call). words_of (memory_at x l)) (sym (append-nil before))
  words-from before t (c ∷ cs) =
      ap (λ (w : WordsLeft). words_after cs w.after) (step_is (memory_at x before) (demand3 x v before).sound (tags-at before t) c)
      ∙ ap (λ (m : Memory). words_after cs (words_of m)) (sym (run-append memory_step before (calls_of c) (new_memory x)))
      ∙ words-from (before ++ calls_of c) (all_append TaggedCall before (calls_of c) t (calls-tagged c)) cs
      ∙ ap (λ (l : List Call). words_of (memory_at x l)) (append_assoc before (calls_of c) (word_history cs))

  module _ (ws : List ℕ) (size : length ws ≡ station_word_count) where
    new-left : new_left ws x ≡ station_left 0 (station_words (new_station x))
    unfolding new_left
    new-left = sym (is-station-then ws (station_left 0 (station_words (new_station x))) (λ n. station_left n ws) x (valid-true x v) size refl)

    new-words : new_words ws x ≡ words_of (new_memory x)
    unfolding new_memory
    new-words = λ i. words (new-left i).station (sym zero-words i) (new_memory x).store

    words_after-new : (cs : List WordCall) → words_after cs (new_words ws x) ≡ words_of (memory_at x (word_history cs))
    unfolding run
    words_after-new cs = ap (words_after cs) new-words ∙ words-from [] tt cs

-- for every valid start time, every 228 words and every list of exported calls
pub words-are-a-history : (x : TdmaTime) → Valid x → (ws : List ℕ) → length ws ≡ station_word_count → (cs : List WordCall) → WordsAreAHistory x ws cs
words-are-a-history x v ws size cs =
    record {
      left = words_after-new x v ws size cs;
      replies = λ before since c cut.
          ap (λ (w : Words). (word_step c w).reply) (words_after-new x v ws size before)
          ∙ ap (λ (o : WordsLeft). o.reply)
          (step_is (memory_at x (word_history before)) (demand3 x v (word_history before)).sound (tags-at x v (word_history before) (history-tagged before)) c);
      demand = demand3 x v (word_history cs);
    }
