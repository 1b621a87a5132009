-- The records of a timeslot stored in their words. Assumes nothing.
use Rattle.std.proofs.Common.{◌≡◌, ℕ, ◌+◌, ◌*◌, ◌<◌, ◌≤◌, true, List, ◌++◌, length, take, drop, sym, ap, ◌∙◌, append_assoc, arith, length-drop}
use Rattle.std.proofs.Common.{take-append-drop, length-take-le, take-add}
use lib.Seq.{sets, paste}
use Rattle.sizes.specs.Sizes.{timeslots, queue_places}
use Rattle.dl_record.specs.declared.Record.{Record}
use Rattle.dl_record.specs.Record.{empty_record}
use Rattle.dl_queue.specs.Questions.{sound_queue}
use Rattle.dl_queue.proofs.PushLaws.{rec_at}
use Rattle.sched_words.specs.Words.{record_word_count, record_words, record_read, queue_words, queue_from}
use Rattle.sched_words.proofs.WordLaws.{joined-append, record-size, length-joined, joined-next, joined-done, length-parts}
use Rattle.sched_words.proofs.StoreLaws.{sets-middle}
use Rattle.sched_words.proofs.WordsQueue.{sound-read, sound-words}

-- ---- the loop that stores m records

-- a turn: record i of them is stored, the first at place f
pub records-next : (rs : List Record) (f i : ℕ) → i < length rs → (l l' : List ℕ) (r : Record) → r ≡ rec_at rs i → l'
    ≡ sets l (record_word_count * (f + i)) (record_words r)
    → sets l' (record_word_count * (f + (i + 1))) (queue_words (drop (i + 1) rs)) ≡ sets l (record_word_count * (f + i)) (queue_words (drop i rs))
records-next rs f i h l l' r e stored =
    joined-next record_words record_word_count record-size l l' (record_words r) rs (record_word_count * (f + i))
    (record_word_count * (f + (i + 1))) i empty_record h stored
    (ap record_words e) (omega arith)

pub records-done : (rs : List Record) (l : List ℕ) (p i : ℕ) → length rs ≤ i → sets l p (queue_words (drop i rs)) ≡ l
records-done rs l p i h = joined-done record_words record_word_count record-size l rs p i h

-- ---- n records of a queue stored, from place f on

words-split : (a b c : List Record) → queue_words (a ++ b ++ c) ≡ queue_words a ++ (queue_words b ++ queue_words c)
words-split a b c =
    joined-append record_words (a ++ b) c ∙ ap (λ (l : List ℕ). l ++ queue_words c) (joined-append record_words a b)
    ∙ append_assoc (queue_words a) (queue_words b) (queue_words c)

words_size : (k : ℕ) (rs : List Record) → length rs ≡ k → length (queue_words rs) ≡ record_word_count * k
words_size k rs e = omega (arith, length-joined record_words record_word_count record-size rs, e)

pub pasted-words : (ns s ws : List ℕ) → length ns ≡ timeslots → sound_queue ns (queue_from ws) s ≡ true → (f n : ℕ) → f + n ≤ queue_places
    → (xs : List Record) → n ≤ length xs
    → sets ws (record_word_count * f) (queue_words (take n xs)) ≡ queue_words (paste (queue_from ws) f xs n)
pasted-words ns s ws counts sound f n room xs long =
    let old : List Record = queue_from ws in
    let own : List Record = take n (drop f old) in
    let rest : List Record = drop (f + n) old in
    let places : length old ≡ queue_places =
    ap (length {A = Record}) (sound-read ns s ws counts sound) ∙ length-parts record_read record_word_count queue_places ws in
    let parts : old ≡ take f old ++ own ++ rest = sym (take-append-drop (f + n) old) ∙ ap (λ (l : List Record). l ++ rest) (take-add f n old) in
    let before : length (queue_words (take f old)) ≡ record_word_count * f = words_size f (take f old) (length-take-le f old (omega arith)) in
    let same : length (queue_words own) ≡ length (queue_words (take n xs)) =
    words_size n own (length-take-le n (drop f old) (rw length-drop (omega arith))) ∙ sym (words_size n (take n xs) (length-take-le n xs long)) in
    ap (λ (l : List ℕ). sets l (record_word_count * f) (queue_words (take n xs)))
    (sym (sound-words ns s ws counts sound) ∙ ap queue_words parts ∙ words-split (take f old) own rest)
    ∙ sets-middle (queue_words (take f old)) (queue_words own) (queue_words rest) (queue_words (take n xs)) (record_word_count * f) before same
    ∙ sym (words-split (take f old) (take n xs) rest)
