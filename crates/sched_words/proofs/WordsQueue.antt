-- The queue that words stand for, place by place: it is sound exactly if the words of each place are those of a record that is sound there. A record stored in
-- its words is one set in the queue. Assumes nothing.
use Rattle.std.proofs.lemmas.Bool.{and_parts, and_from}
use Rattle.std.proofs.Common.{◌≡◌, ℕ, zero, suc, ◌+◌, ◌*◌, ◌/◌, ◌%◌, ◌<◌, ◌≤◌, Bool, true, false, cond, ◌&&◌, ltb, List, [], ◌∷◌, length, get_or}
use Rattle.std.proofs.Common.{take, drop, set, replicate, sym, refl, ap, ◌∙◌, ap₂, arith, length-drop, drop-drop}
use mathlib.Core.Bool.{and_assoc}
use lib.Seq.{sets}
use Rattle.std.specs.Simd.{first_chunks}
use Rattle.sizes.specs.Sizes.{cell_octets, timeslots, per_timeslot, queue_places, store_octets}
use Rattle.uplink.proofs.Basics.{not-both}
use Rattle.dl_record.specs.declared.Record.{Record}
use Rattle.dl_record.specs.Record.{empty_record}
use Rattle.dl_record.specs.Questions.{is_empty}
use Rattle.dl_sdu_store.specs.Cells.{all_zero, clean_past}
use Rattle.dl_queue.specs.Questions.{sound_place, sound_queue}
use Rattle.dl_queue.proofs.PlaceLaws.{empty-bits}
use Rattle.dl_queue.proofs.PushLaws.{rec_at, cell_at, rec-shift, cell-shift}
use Rattle.dl_queue.proofs.SoundLaws.{places-at, places-all, queue-at, queue-all}
use Rattle.sched_words.specs.Words.{record_word_count, queue_word_count, words_of_all, read_all, same_words, record_words, record_read, queue_words}
use Rattle.sched_words.specs.Words.{records_read}
use Rattle.sched_words.specs.Words.{queue_from, no_record}
use Rattle.sched_words.proofs.WordLaws.{record-size, length-joined, length-parts, part_at}
use Rattle.sched_words.proofs.StoreLaws.{set-joined}
use Rattle.sched_words.proofs.RoundTrip.{same-equal}
use Rattle.sched_words.proofs.QueueRoundTrip.{no-queue}
use Rattle.sched_words.specs.Front.{begins}
use Rattle.sched_words.proofs.FitLaws.{begins-whole, begins-take, parts-turn}
use Rattle.sched_words.proofs.FitRecord.{empty-words, read-front}
use Rattle.sched_words.proofs.FrontLaws.{run-at}

-- ---- the words of a place

abbrev pub words_at : List ℕ → ℕ → List ℕ
words_at ws p = take record_word_count (drop (record_word_count * p) ws)

-- the words are those of the record read from them
abbrev pub fit : List ℕ → Bool
fit ws = same_words (record_words (record_read ws)) ws

-- and the record is sound in place p
abbrev pub sound_at : Bool → List ℕ → List ℕ → ℕ → Bool
sound_at filled ws s p = fit (words_at ws p) && sound_place filled (record_read (words_at ws p)) (cell_at s p)

at_least : (ws : List ℕ) (p : ℕ) → length ws ≡ queue_word_count → p < queue_places → record_word_count ≤ length (drop (record_word_count * p) ws)
at_least ws p e h = rw length-drop (omega arith)

first_fits : (ws : List ℕ) → record_word_count ≤ length ws → begins (record_words (record_read ws)) ws ≡ fit (take record_word_count ws)
first_fits ws h =
    begins-take (record_words (record_read ws)) ws record_word_count (record-size (record_read ws))
    ∙ ap (λ (r : Record). same_words (record_words r) (take record_word_count ws)) (sym (read-front ws h))

next-words : (ws : List ℕ) (p : ℕ) → words_at (drop record_word_count ws) p ≡ words_at ws (suc p)
next-words ws p = let e : record_word_count + record_word_count * p
    ≡ record_word_count * suc p = omega arith in ap (take record_word_count)
    (drop-drop (record_word_count * p) record_word_count ws ∙ ap (λ (j : ℕ). drop j ws) e)

-- n records fit exactly if each does
abbrev run_fits : ℕ → List ℕ → Bool
run_fits n ws = begins (words_of_all record_words (read_all record_read record_word_count n ws)) ws

fits_all : (n : ℕ) (ws : List ℕ) → record_word_count * n ≤ length ws → ((p : ℕ) → p < n → fit (words_at ws p) ≡ true) → run_fits n ws ≡ true
unfolding begins words_of_all read_all
fits_all zero ws h f = refl
fits_all (suc n) ws h f =
    parts-turn record_words record_read record_word_count record-size n ws
    ∙ and_from (begins (record_words (record_read ws)) ws) (run_fits n (drop record_word_count ws)) (first_fits ws (omega arith) ∙ f 0 (omega arith))
    (fits_all n (drop record_word_count ws) (rw length-drop (omega arith)) (λ p l. ap fit (next-words ws p) ∙ f (suc p) (omega arith)))

all-fits : (n : ℕ) (ws : List ℕ) → record_word_count * n ≤ length ws → run_fits n ws ≡ true → (p : ℕ) → p < n → fit (words_at ws p) ≡ true
all-fits zero ws h e p l = absurd (omega arith)
all-fits (suc n) ws h e zero l =
    sym (first_fits ws (omega arith)) ∙ (and_parts (begins (record_words (record_read ws)) ws) (run_fits n (drop record_word_count ws)) (sym
    (parts-turn record_words record_read record_word_count record-size n ws) ∙ e)).0
all-fits (suc n) ws h e (suc p) l =
    ap fit (sym (next-words ws p))
    ∙ all-fits n (drop record_word_count ws) (rw length-drop (omega arith))
    (and_parts (begins (record_words (record_read ws)) ws) (run_fits n (drop record_word_count ws)) (sym
    (parts-turn record_words record_read record_word_count record-size n ws) ∙ e)).1 p (omega arith)

-- ---- words that stand for a sound queue

same_read : (ws : List ℕ) → same_words (queue_words (records_read ws)) ws ≡ true → queue_from ws ≡ records_read ws
unfolding queue_from
same_read ws e = ap (λ (b : Bool). cond b (records_read ws) (replicate queue_places no_record)) e

module _ (ns s ws : List ℕ) (counts : length ns ≡ timeslots) where
  none-sound : sound_queue ns (replicate queue_places no_record) s ≡ true → ⊥
  none-sound = go ns counts
    where
      go : (ns : List ℕ) → length ns ≡ timeslots → sound_queue ns (replicate queue_places no_record) s ≡ true → ⊥
      go [] e h = omega (arith, e)
      go (n ∷ ns) e h = no-queue n ns s h

  sound-same : sound_queue ns (queue_from ws) s ≡ true → same_words (queue_words (records_read ws)) ws ≡ true
  unfolding queue_from
  sound-same = go (same_words (queue_words (records_read ws)) ws)
    where
      go : (b : Bool) → sound_queue ns (cond b (records_read ws) (replicate queue_places no_record)) s ≡ true → b ≡ true
      go true h = refl
      go false h = absurd (none-sound h)

  -- they are read as they stand
  pub sound-read : sound_queue ns (queue_from ws) s ≡ true → queue_from ws ≡ records_read ws
  sound-read h = same_read ws (sound-same h)

  pub sound-words : sound_queue ns (queue_from ws) s ≡ true → queue_words (queue_from ws) ≡ ws
  sound-words h = ap queue_words (sound-read h) ∙ same-equal _ _ (sound-same h)

-- ---- timeslot by timeslot

-- what is asked of the places of timeslot t
pub record Timeslot (ns s ws : List ℕ) (t : ℕ) : Type 0 where
  pub count : get_or ns t 0 ≤ per_timeslot
  pub places : (j : ℕ) → j < per_timeslot → sound_at (ltb j (get_or ns t 0)) ws s (per_timeslot * t + j) ≡ true

module _ (ns s ws : List ℕ) (counts : length ns ≡ timeslots) (size : length ws ≡ queue_word_count) where
  record-at : (p : ℕ) → p < queue_places → rec_at (records_read ws) p ≡ record_read (words_at ws p)
  record-at p h = part_at record_read record_word_count queue_places p ws empty_record h ∙ sym
      (read-front (drop (record_word_count * p) ws) (at_least ws p size h))

  place_at : (b : Bool) (t j : ℕ) → t < timeslots → j < per_timeslot
      → sound_place b (rec_at (drop (per_timeslot * t) (records_read ws)) j) (cell_at (drop (cell_octets * (per_timeslot * t)) s) j)
      ≡ sound_place b (record_read (words_at ws (per_timeslot * t + j))) (cell_at s (per_timeslot * t + j))
  place_at b t j h k = ap₂ (sound_place b) (rec-shift (per_timeslot * t) (records_read ws) j ∙ record-at (per_timeslot * t + j) (omega arith))
      (cell-shift (per_timeslot * t) s j)

  run-same : run_fits queue_places ws ≡ same_words (queue_words (records_read ws)) ws
  run-same =
      begins-whole (queue_words (records_read ws)) ws
      (length-joined record_words record_word_count record-size (records_read ws)
      ∙ ap (λ (n : ℕ). n * record_word_count) (length-parts record_read record_word_count queue_places ws) ∙ sym size)

  pub slots-sound : ((t : ℕ) → t < timeslots → Timeslot ns s ws t) → sound_queue ns (queue_from ws) s ≡ true
  slots-sound f =
      let fits : (p : ℕ) → p < queue_places → fit (words_at ws p) ≡ true = λ p h.
      let t : ℕ = p / per_timeslot in
      let j : ℕ = p % per_timeslot in
      let e : p ≡ per_timeslot * t + j = omega arith in
      ap (λ (q : ℕ). fit (words_at ws q)) e
      ∙ (and_parts (fit (words_at ws (per_timeslot * t + j))) (sound_place (ltb j (get_or ns t 0)) (record_read (words_at ws (per_timeslot * t + j)))
      (cell_at s (per_timeslot * t + j))) ((f t (omega arith)).places j (omega arith))).0 in
      ap (λ (rs : List Record). sound_queue ns rs s) (same_read ws (sym run-same ∙ fits_all queue_places ws (omega arith) fits))
      ∙ queue-all ns (records_read ws) s
      (λ t h. let here = f t (omega arith) in (
        here.count,
        places-all per_timeslot (get_or ns t 0) (drop (per_timeslot * t) (records_read ws)) (drop (cell_octets * (per_timeslot * t)) s)
            (λ j l. place_at (ltb j (get_or ns t 0)) t j (omega arith) l
            ∙ (and_parts (fit (words_at ws (per_timeslot * t + j))) (sound_place (ltb j (get_or ns t 0)) (record_read (words_at ws (per_timeslot * t + j)))
            (cell_at s (per_timeslot * t + j))) (here.places j l)).1),
      ))

  pub sound-slots : sound_queue ns (queue_from ws) s ≡ true → (t : ℕ) → t < timeslots → Timeslot ns s ws t
  sound-slots h t l =
      let same = sound-same ns s ws counts h in
      let q = queue-at ns (records_read ws) s (ap (λ (rs : List Record). sound_queue ns rs s) (sym (same_read ws same)) ∙ h) t (omega arith) in
      record {
        count = q.0;
        places = λ j k. and_from (fit (words_at ws (per_timeslot * t + j)))
            (sound_place (ltb j (get_or ns t 0)) (record_read (words_at ws (per_timeslot * t + j))) (cell_at s (per_timeslot * t + j)))
            (all-fits queue_places ws (omega arith) (run-same ∙ same) (per_timeslot * t + j) (omega arith))
            (sym (place_at (ltb j (get_or ns t 0)) t j l k) ∙ places-at per_timeslot (get_or ns t 0) (drop (per_timeslot * t) (records_read ws))
            (drop (cell_octets * (per_timeslot * t)) s) q.1 j k);
      }

-- ---- the tests of the code

pub unfilled-place : (ws cell : List ℕ) (a d : Bool) → length ws ≡ record_word_count → a ≡ all_zero ws → d ≡ clean_past 0 cell → a && d ≡ fit ws
    && sound_place false (record_read ws) cell
unfolding sound_place
unfilled-place ws cell a d size fa fd =
    let r = record_read ws in
    ap₂ ◌&&◌ (fa ∙ empty-words ws size) fd ∙ and_assoc (fit ws) (is_empty r) (clean_past 0 cell)
    ∙ ap (λ (b : Bool). fit ws && b) (empty-bits r (λ (n : ℕ). clean_past n cell))

-- place p, as the code lends it
pub place-told : (ws s : List ℕ) → length ws ≡ queue_word_count → length s ≡ store_octets → (filled : Bool) (p : ℕ) → p < queue_places
    → (rs cs : List (List ℕ)) → rs ≡ first_chunks record_word_count (length ws / record_word_count) ws → cs ≡ first_chunks cell_octets (length s / cell_octets) s
    → (b : Bool) → b ≡ fit (get_or rs p []) && sound_place filled (record_read (get_or rs p [])) (get_or cs p []) → (f : Bool) → f ≡ filled → b ≡ sound_at f ws s p
place-told ws s size octets filled p h rs cs er ec b e f same =
    let w = run-at record_word_count queue_places (length ws / record_word_count) p ws rs er (omega (arith, size)) h in
    let c = run-at cell_octets queue_places (length s / cell_octets) p s cs ec (omega (arith, octets)) h in
    e ∙ ap₂ (λ (l m : List ℕ). fit l && sound_place filled (record_read l) m) w c ∙ ap (λ (g : Bool). sound_at g ws s p) (sym same)

unsound : (b : Bool) → (b ≡ true → ⊥) → false ≡ b
unsound true f = absurd (f refl)
unsound false f = refl

module _ (ns s ws : List ℕ) (counts : length ns ≡ timeslots) (size : length ws ≡ queue_word_count) where
  pub too_many : (t : ℕ) → t < timeslots → per_timeslot < get_or ns t 0 → false ≡ sound_queue ns (queue_from ws) s
  too_many t l h = unsound (sound_queue ns (queue_from ws) s) (λ e. omega (arith, (sound-slots ns s ws counts size e t l).count))

  pub place-fails : (t j : ℕ) → t < timeslots → j < per_timeslot → sound_at (ltb j (get_or ns t 0)) ws s (per_timeslot * t + j) ≡ false → false
      ≡ sound_queue ns (queue_from ws) s
  place-fails t j l k h = unsound (sound_queue ns (queue_from ws) s) (λ e. not-both _ ((sound-slots ns s ws counts size e t l).places j k) h)

-- ---- a record stored in its words

pub set_words : (ns s ws : List ℕ) → length ns ≡ timeslots → sound_queue ns (queue_from ws) s ≡ true → (p : ℕ) → p < queue_places → (r : Record)
    → sets ws (record_word_count * p) (record_words r) ≡ queue_words (set (queue_from ws) p r)
set_words ns s ws counts h p l r =
    let read = sound-read ns s ws counts h in
    ap (λ (v : List ℕ). sets v (record_word_count * p) (record_words r)) (sym (sound-words ns s ws counts h))
    ∙ set-joined record_words record_word_count record-size (queue_from ws) p r
    (rw read (omega (arith, length-parts record_read record_word_count queue_places ws)))
