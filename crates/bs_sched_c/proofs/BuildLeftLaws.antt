-- What the export of a build leaves, exit by exit. Assumes nothing.
use Rattle.std.proofs.Common.{Result, Err}
use Rattle.questions.specs.declared.Refusal.{Refusal}
use Rattle.questions.proofs.NumberLaws.{number-positive}
use mathlib.Core.Path.{◌≡◌, refl, sym, ap, ◌∙◌}
use mathlib.Core.Bool.{true, false}
use mathlib.Core.List.{List, [], ◌∷◌}
use Prim.Native.Nat.{ℕ, ◌*◌, ◌≤◌}
use native.Mathlib.Omega.{arith}
use lib.ListN.{length, get_or, set, take}
use lib.Seq.{sets}
use borrow.Author.Tests.{ne_eqb}
use Rattle.sizes.specs.Sizes.{per_timeslot, block_octets}
use Rattle.dl_queue.proofs.SetLaws.{length-records}
use Rattle.dl_send.specs.declared.Progress.{Progress}
use Rattle.dl_send.specs.Arrays.{tag_row}
use Rattle.dl_build.specs.Build.{BuiltIn}
use Rattle.sched_core.specs.declared.Station.{Station}
use Rattle.questions.specs.Questions.{refusal_number, ask, asked_number, number_of}
use Rattle.questions.proofs.AskLaws.{number-no}
use Rattle.sched_core.specs.Station.{with_queued}
use Rattle.sched_core.specs.Questions.{Memory, sound_station, memory_questions, build_lent}
use Rattle.sched_core.specs.Replies.{Numbered}
use Rattle.sched_core.specs.Calls.{BuildOutcome, current, builds_now, built_now, build_call}
use Rattle.sched_core.specs.Calls.{not_built as nothing}
use Rattle.sched_core.proofs.QuestionLaws.{memory-positive}
use Rattle.sched_core.proofs.StationLaws.{sound-time, current-low, few-now}
use Rattle.sched_enqueue.specs.Plan.{SoundQueue}
use Rattle.sched_build.proofs.BuildCallLaws as plan
use Rattle.sched_words.specs.Words.{station_word_count, record_word_count, station_words, station_from, queue_words, records_from}
use Rattle.sched_words.proofs.RoundTrip.{station-words-back}
use Rattle.bs_sched_c.specs.Exports.{asks_station_words, memory_from, not_built_struct, BuildWordsLeft, build_words_left, build_words_left_by}
use Rattle.bs_sched_c.proofs.AskedLaws.{four-counts, words_back, records-stored}
use Rattle.bs_sched_c.proofs.LeftLaws.{is-station}

-- a station of its number of words
module _ (ws qs st block : List ℕ) (size : length ws ≡ station_word_count) where
  -- a refusal
  abbrev no : ℕ → BuildWordsLeft
  no n = build_words_left (not_built_struct n) ws qs st block

  abbrev m : Memory
  m = memory_from ws qs st

  abbrev s : Station
  s = station_from ws

  -- what the export promises
  abbrev promised : BuildWordsLeft
  promised = ask (asks_station_words ws ∷ []) (build_words_left_by ws qs st block (build_call m block)) no

  refused-left : (n : ℕ) → 1 ≤ n → build_words_left (not_built_struct n) ws qs st block ≡ build_words_left_by ws qs st block
      (nothing (Numbered.refused n) m block)
  unfolding tag_row
  refused-left n p = rw (ne_eqb n 0 (λ z. omega (arith, z, p)))

  -- a no to one of the questions
  pub build-no : {A : Type 0} {a : Result A Refusal} {x : Refusal} → a ≡ Err x
      → number_of a ≡ asked_number (memory_questions m (build_lent block)) → no (refusal_number x) ≡ promised
  unfolding build_call
  build-no {A} {a} {x} told e =
      let same : refusal_number x ≡ asked_number (memory_questions m (build_lent block)) =
      sym (ap (λ (r : Result A Refusal). number_of r) told) ∙ e in
      ap no same
      ∙ is-station ws _ no size
      (number-no (λ (i : ℕ) (o : BuildOutcome). build_words_left (not_built_struct i) ws qs st block ≡ build_words_left_by ws qs st block o) _
      (λ i. nothing (Numbered.refused i) m block)
      refused-left (memory_questions m (build_lent block)) [] (memory-positive m (build_lent block) (omega arith, tt))
      (λ z. omega (arith, same, z, number-positive x)))

  -- every question is answered yes
  module _ (good : sound_station s ≡ true) (full : length block ≡ block_octets) (queue : SoundQueue s (records_from qs) st) where
    -- no block: station and queue keep their words
    pub build-none : builds_now s ≡ false → no 0 ≡ promised
    unfolding tag_row
    build-none idle =
        let o : nothing Numbered.no_block m block ≡ build_call m block = plan.none-called m good queue.places queue.cells
        queue.sound block full idle in
        is-station ws _ no size
        ((λ i. build_words_left (not_built_struct 0) (sym (station-words-back ws good) i) (sym (words_back ws qs st queue) i) st block)
        ∙ ap (build_words_left_by ws qs st block) o)

    -- a block: as many records of the current timeslot are stored as were queued
    pub build-built : builds_now s ≡ true → (p : Progress) (st' block' ws' qs' : List ℕ)
        → BuiltIn (built_now m) block_octets st (per_timeslot * current s) p st' block'
        → ws' ≡ station_words (with_queued s (set s.queued (current s) p.left))
        → qs' ≡ sets qs (record_word_count * (per_timeslot * current s)) (queue_words (take (get_or s.queued (current s) 0) p.records))
        → build_words_left (record { refusal = 0; built = 1; tag_count = p.tags.tag_count; tags = p.tags.tags }) ws' qs' st' block' ≡ promised
    build-built can p st' block' ws' qs' h ew eq =
        let low = current-low s (sound-time s good) in
        let few = few-now s good (four-counts ws) in
        let row = ap length h.records ∙ length-records per_timeslot (built_now m).left in
        let stored = eq ∙ records-stored ws qs st queue (per_timeslot * current s) (get_or s.queued (current s) 0) (omega (arith, low, few)) p.records
        (omega (arith, few, row)) in
        is-station ws _ no size
        (rw (ew, stored, h.tags, h.tag-count)
        (ap (build_words_left_by ws qs st block)
        (plan.plan-called m good queue.places queue.cells queue.sound block full can (four-counts ws) p _ _ st' block' h refl refl)))
