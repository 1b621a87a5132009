-- The questions that an export asks first, and the words of a queue that passes them. Assumes nothing.
use Rattle.std.proofs.Common.{Result, Ok}
use Rattle.questions.specs.declared.Refusal.{Refusal}
use mathlib.Core.Path.{◌≡◌, refl, sym, ap, ◌∙◌}
use mathlib.Core.Bool.{Bool, true, false, cond}
use mathlib.Core.List.{List, [], ◌∷◌}
use Prim.Native.Nat.{ℕ, ◌*◌, ◌≤◌, ◌<◌, ◌+◌}
use native.Mathlib.Omega.{arith}
use lib.Dec.{eqb}
use lib.ListN.{length, replicate, set, take}
use lib.Seq.{sets, paste}
use borrow.Author.Tests.{eq-eqb, ne_eqb, eqb-true}
use Rattle.sizes.specs.Sizes.{timeslots, queue_places}
use Rattle.uplink.proofs.Basics.{not-both}
use Rattle.dl_record.specs.declared.Record.{Record}
use Rattle.dl_queue.specs.Questions.{sound_queue}
use Rattle.sched_core.specs.declared.Station.{Station}
use Rattle.questions.specs.Questions.{question, asked_number, number_of}
use Rattle.questions.proofs.AskLaws.{number-yes}
use Rattle.sched_core.proofs.QuestionLaws.{memory-positive}
use Rattle.sched_core.specs.Questions.{memory, memory_questions}
use Rattle.sched_enqueue.specs.Plan.{SoundQueue}
use Rattle.sched_enqueue.proofs.PlanLaws.{Told, yes-told}
use Rattle.sched_words.specs.Words.{record_word_count, queue_word_count, same_words, station_words, station_read, station_from, no_station, record_words}
use Rattle.sched_words.specs.Words.{queue_words}
use Rattle.sched_words.specs.Words.{record_read, records_read, no_record, queue_from, records_from}
use Rattle.sched_words.proofs.WordLaws.{length-parts}
use Rattle.sched_words.proofs.WordsQueue.{sound-read, sound-words, set_words}
use Rattle.sched_words.proofs.TimeslotWords.{pasted-words}

-- ---- a queue of its number of words, and of others

pub queue-whole : (qs : List ℕ) → length qs ≡ queue_word_count → queue_from qs ≡ records_from qs
unfolding records_from
queue-whole qs h = rw (eq-eqb _ _ h)

no-queue : (qs : List ℕ) → (length qs ≡ queue_word_count → ⊥) → records_from qs ≡ []
unfolding records_from
no-queue qs h = rw (ne_eqb _ _ h)

pub no-records : (qs : List ℕ) → (length qs ≡ queue_word_count → ⊥) → length (records_from qs) ≡ queue_places → ⊥
no-records qs h e = let k : length (records_from qs) ≡ 0 = ap length (no-queue qs h) in omega (arith, e, k)

pub all-places : (qs : List ℕ) → length qs ≡ queue_word_count → length (records_from qs) ≡ queue_places
unfolding queue_from
all-places qs h = ap length (sym (queue-whole qs h)) ∙ go (same_words (queue_words (records_read qs)) qs)
  where
    go : (b : Bool) → length (cond b (records_read qs) (replicate queue_places no_record)) ≡ queue_places
    go true = length-parts record_read record_word_count queue_places qs
    go false = refl

pub all_words : (qs : List ℕ) → length (records_from qs) ≡ queue_places → length qs ≡ queue_word_count
all_words qs e = go (eqb (length qs) queue_word_count) refl
  where
    go : (b : Bool) → eqb (length qs) queue_word_count ≡ b → length qs ≡ queue_word_count
    go true h = eqb-true _ _ h
    go false h = absurd (no-records qs (λ k. not-both _ (eq-eqb _ _ k) h) e)

-- the counts of a station
pub four-counts : (ws : List ℕ) → length (station_from ws).queued ≡ timeslots
unfolding station_from station_read
four-counts ws = go (same_words (station_words (station_read ws)) ws)
  where
    go : (b : Bool) → length (cond b (station_read ws) no_station).queued ≡ timeslots
    go true = refl
    go false = refl

-- questions 1 and 2 let the call pass: the station is sound, and so are queue and store
pub asked-told : (s : Station) (qs st : List ℕ) (lent : Bool) {A : Type 0} {a : Result A Refusal} {x : A}
    → number_of a ≡ asked_number (memory_questions (memory s (records_from qs) st) (question lent 2 ∷ [])) → a ≡ Ok x
    → Told s (records_from qs) st lent
asked-told s qs st lent {A = A} e passed =
    let m = memory s (records_from qs) st in
    let own = question lent 2 ∷ [] in
    yes-told s (records_from qs) st lent
    (number-yes (memory_questions m own) (memory-positive m own (omega arith, tt))
    (sym e ∙ ap (λ (r : Result A Refusal). number_of r) passed))

-- ---- the words of a sound queue

module _ (ws qs st : List ℕ) (queue : SoundQueue (station_from ws) (records_from qs) st) where
  abbrev ns : List ℕ
  ns = (station_from ws).queued

  whole : queue_from qs ≡ records_from qs
  whole = queue-whole qs (all_words qs queue.places)

  sound : sound_queue ns (queue_from qs) st ≡ true
  sound = rw whole queue.sound

  -- they are read as they stand
  pub as_read : records_read qs ≡ records_from qs
  as_read = sym (sound-read ns st qs (four-counts ws) sound) ∙ whole

  pub words_back : queue_words (records_from qs) ≡ qs
  words_back = ap queue_words (sym whole) ∙ sound-words ns st qs (four-counts ws) sound

  pub record-stored : (place : ℕ) → place < queue_places → (r : Record)
      → sets qs (record_word_count * place) (record_words r) ≡ queue_words (set (records_from qs) place r)
  record-stored place h r = set_words ns st qs (four-counts ws) sound place h r ∙ ap (λ (rs : List Record). queue_words (set rs place r)) whole

  -- those of n places, from place f on
  pub records-stored : (f n : ℕ) → f + n ≤ queue_places → (xs : List Record) → n ≤ length xs
      → sets qs (record_word_count * f) (queue_words (take n xs)) ≡ queue_words (paste (records_from qs) f xs n)
  records-stored f n room xs long =
      pasted-words ns st qs (four-counts ws) sound f n room xs long ∙ ap (λ (rs : List Record). queue_words (paste rs f xs n)) whole
