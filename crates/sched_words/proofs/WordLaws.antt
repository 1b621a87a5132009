-- Words one after another, as the loops read and store them; and single words. Assumes nothing.
use Rattle.std.proofs.Common.{◌≡◌, ℕ, zero, suc, ◌+◌, ◌*◌, ◌<◌, ◌≤◌, List, [], ◌∷◌, ◌++◌, length, get_or, take, Option, Some, None}
use Rattle.std.proofs.Common.{drop, set, sym, refl, ap, ◌∙◌, append_assoc, append-nil, le_of_suc-le-suc, not-suc-le-zero, add-zero, zero-add, add-one, arith}
use Rattle.std.proofs.Common.{length-append, drop_of_length-le, take_all, drop-cons, drop-drop}
use borrow.Rule.Slice.PartMut.{put_mid}
use lib.Seq.{sets, sets-eq, paste-suc}
use Rattle.uplink.specs.declared.Entry.{Entry}
use Rattle.dl_record.specs.declared.QueuedHeader.{QueuedHeader}
use Rattle.dl_record.specs.declared.Record.{Record}
use Rattle.sched_words.specs.Words.{record_word_count, words_of_all, read_all, alloc_words}
use Rattle.sched_words.specs.Words.{alloc_fields}
use Rattle.sched_words.specs.Words.{alloc_by, queued_header_words, record_words, entry_words, words_of_row, table_words}
use Rattle.uplink.specs.UplinkEntry.{Table}
use Rattle.std.specs.List.{flat_map}
use Rattle.mac_pdus.specs.declared.ChanAllocElement.{ChanAllocElement}

-- ---- single words

pub ten-long : (o : Option ChanAllocElement) → length (alloc_words o) ≡ 10
ten-long None = refl
ten-long (Some c) = refl

pub header-size : (tag : Option ℕ) (h : QueuedHeader) → length (queued_header_words tag h) ≡ 18
header-size tag h = ap (λ (n : ℕ). suc (suc (suc (suc (suc (suc (suc (suc n)))))))) (ten-long h.chan_alloc_element)

pub record-size : (r : Record) → length (record_words r) ≡ record_word_count
unfolding record_words
record-size r =
    let e : length (queued_header_words r.tag r.header ++ r.bits ∷ r.sent ∷ []) ≡ 20 =
    length-append (queued_header_words r.tag r.header) (r.bits ∷ r.sent ∷ []) ∙ omega (arith, header-size r.tag r.header) in
    ap (λ (n : ℕ). suc (suc (suc n))) e

pub alloc-present : (w : ℕ) (ws : List ℕ) → (w ≡ 0 → ⊥) → Some (alloc_fields ws) ≡ alloc_by w ws
alloc-present zero ws h = absurd (h refl)
alloc-present (suc w) ws h = refl

-- ---- words stored

pub sets-append : (l : List ℕ) (at : ℕ) (f g : List ℕ) → sets l at (f ++ g) ≡ sets (sets l at f) (at + length f) g
sets-append l at [] g = ap (λ (n : ℕ). sets l n g) (sym (add-zero at))
sets-append l at (x ∷ f) g = sets-append (set l at x) (suc at) f g ∙ ap (λ (n : ℕ). sets (sets (set l at x) (suc at) f) n g) (omega arith)

-- words over as many
pub sets-whole : (l f : List ℕ) → length f ≡ length l → sets l 0 f ≡ f
sets-whole l f e =
    sets-eq f l 0 (omega arith) ∙ ap (λ (r : List ℕ). f ++ r) (drop_of_length-le l {i = 0 + length f} (omega arith)) ∙ append-nil f

-- one run of words after another
pub sets-next : (l f g : List ℕ) (n : ℕ) → length f ≡ n → sets (sets l 0 f) n g ≡ sets l 0 (f ++ g)
sets-next l f g n size =
    let e : n ≡ 0 + length f = omega (arith, size) in
    ap (λ (j : ℕ). sets (sets l 0 f) j g) e ∙ sym (sets-append l 0 f g)

-- words copied over as many
pub copied : (l v w : List ℕ) (i n : ℕ) → v ≡ w → length w ≡ n → i + n ≤ length l → put_mid i n l v ≡ sets l i w
copied l v w i n e size room =
    ap (λ (x : List ℕ). take i l ++ (x ++ drop n (drop i l))) e
    ∙ ap (λ (r : List ℕ). take i l ++ (w ++ r)) (drop-drop n i l ∙ ap (λ (j : ℕ). drop (i + j) l) (sym size))
    ∙ sym (append_assoc (take i l) w (drop (i + length w) l)) ∙ sym (sets-eq w l i (omega arith))

pub copied-front : (l v w : List ℕ) (n : ℕ) → v ≡ w → length w ≡ n → n ≤ length l → v ++ drop n l ≡ sets l 0 w
copied-front l v w n e size room = copied l v w 0 n e size (omega arith)

-- the three words of an entry, stored one by one
pub three-stored : (l : List ℕ) (p : ℕ) (x : Entry) (v : List ℕ) → v ≡ entry_words x
    → set (set (set l p (get_or v 0 0)) (p + 1) (get_or v 1 0)) (p + 2) (get_or v 2 0) ≡ sets l p (entry_words x)
three-stored l p x v e =
    let one : p + 1 ≡ suc p = omega arith in
    let two : p + 2 ≡ suc (suc p) = omega arith in
    rw (e, one, two) refl

-- ---- elements stored and read

module _ {A : Type 0} (f : A → List ℕ) (k : ℕ) (size : (x : A) → length (f x) ≡ k) where
  pub length-joined : (xs : List A) → length (words_of_all f xs) ≡ length xs * k
  unfolding words_of_all
  length-joined [] = omega arith
  length-joined (x ∷ xs) = length-append (f x) (words_of_all f xs) ∙ omega (arith, size x, length-joined xs)

  -- a turn: element i is stored at p, and the rest from p' on
  pub joined-next : (l l' v : List ℕ) (xs : List A) (p p' i : ℕ) (d : A) → i < length xs → l' ≡ sets l p v → v ≡ f (get_or xs i d) → p' ≡ p + k
      → sets l' p' (words_of_all f (drop (i + 1) xs)) ≡ sets l p (words_of_all f (drop i xs))
  unfolding words_of_all
  joined-next l l' v xs p p' i d h stored e next =
      let x = get_or xs i d in
      let n : p' ≡ p + length (f x) = omega (arith, size x) in
      rw (stored, e, n, add-one i, drop-cons xs i d h) (sym (sets-append l p (f x) (words_of_all f (drop (suc i) xs))))

  pub joined-done : (l : List ℕ) (xs : List A) (p i : ℕ) → length xs ≤ i → sets l p (words_of_all f (drop i xs)) ≡ l
  unfolding words_of_all
  joined-done l xs p i h = rw (drop_of_length-le xs {i = i} h)

-- the words of a row
pub row-size : (row : List Entry) → length row ≡ 18 → length (words_of_row row) ≡ 54
row-size row e = length-joined entry_words 3 (λ x. refl) row ∙ omega (arith, e)

pub joined-append : {A : Type 0} (f : A → List ℕ) (xs ys : List A) → words_of_all f (xs ++ ys) ≡ words_of_all f xs ++ words_of_all f ys
unfolding words_of_all
joined-append f [] ys = refl
joined-append f (x ∷ xs) ys = ap (λ (l : List ℕ). f x ++ l) (joined-append f xs ys) ∙ sym (append_assoc (f x) (words_of_all f xs) (words_of_all f ys))

-- and of the four rows of a table, one after another
pub table-joined : (tb : Table) → length tb ≡ 4 → words_of_all entry_words (flat_map (λ row. row) tb) ≡ table_words tb
table-joined [] e = absurd (omega (arith, e))
table-joined (a ∷ []) e = absurd (omega (arith, e))
table-joined (a ∷ b ∷ []) e = absurd (omega (arith, e))
table-joined (a ∷ b ∷ c ∷ []) e = absurd (omega (arith, e))
table-joined (a ∷ b ∷ c ∷ d ∷ []) e = simp (append-nil, joined-append, append_assoc)
table-joined (a ∷ b ∷ c ∷ d ∷ x ∷ tb) e = absurd (omega (arith, e))

module _ {A : Type 0} (f : List ℕ → A) (k : ℕ) where
  pub length-parts : (n : ℕ) (ws : List ℕ) → length (read_all f k n ws) ≡ n
  unfolding read_all
  length-parts zero ws = refl
  length-parts (suc n) ws = ap suc (length-parts n (drop k ws))

  -- element i
  pub part_at : (n i : ℕ) (ws : List ℕ) (d : A) → i < n → get_or (read_all f k n ws) i d ≡ f (drop (k * i) ws)
  unfolding read_all
  part_at zero i ws d h = absurd (not-suc-le-zero h)
  part_at (suc n) zero ws d h = let e : 0 ≡ k * 0 = omega arith in ap (λ (j : ℕ). f (drop j ws)) e
  part_at (suc n) (suc i) ws d h =
      let e : k + k * i ≡ k * suc i = omega arith in
      part_at n i (drop k ws) d (le_of_suc-le-suc h) ∙ ap f (drop-drop (k * i) k ws ∙ ap (λ (j : ℕ). drop j ws) e)

-- a list that is filled from the front: the next element joins those taken
pub filled_next : {A : Type 0} (d : A) (n : ℕ) (s t : List A) → n < length s → n < length t
    → set (take n s ++ drop n t) n (get_or s n d) ≡ take (n + 1) s ++ drop (n + 1) t
filled_next d n s t hs ht = rw add-one (simp zero-add at (paste-suc t 0 s n d (rw zero-add ht) hs))

pub filled-whole : {A : Type 0} (n : ℕ) (s t : List A) → length s ≤ n → length t ≤ n → take n s ++ drop n t ≡ s
filled-whole n s t hs ht = rw (take_all n s hs, drop_of_length-le t {i = n} ht) (append-nil s)
