-- Words stand for one station and one queue, and these for one list of words. So what one call leaves is what the next one gets, and a history over words is
-- a history of document 01. Assumes nothing.
use Rattle.std.specs.List.{list_all}
use Rattle.std.proofs.lemmas.Bool.{and_parts}
use Rattle.std.proofs.Common.{◌≡◌, ℕ, zero, suc, ◌+◌, ◌%◌, ◌^◌, ◌<◌, ◌≤◌, Bool, true, false}
use Rattle.std.proofs.Common.{cond, eqb, leb, List, [], ◌∷◌, ◌++◌, length, get_or, drop, Option, Some, None}
use Rattle.std.proofs.Common.{sym, refl, ap, ◌∙◌, append_assoc, append-nil, mod-eq_of_lt, arith, drop-drop, drop_at, ltb-true, eq-eqb, eqb-true, leb-true}
use Rattle.lists.proofs.Every.{All, all-weaken}
use Rattle.sizes.specs.Sizes.{timeslots, per_timeslot}
use Rattle.tdma_time.specs.Time.{valid}
use Rattle.mac_pdus.specs.Within.{OptWithin}
use Rattle.uplink.specs.declared.Entry.{Entry}
use Rattle.uplink.specs.UplinkEntry.{Table, FourRowsOfEighteen, sound_owner, sound_counter, sound_marker, sound_entry, sound_row}
use Rattle.uplink.specs.Uplink.{uplink_of, sound_uplink}
use Rattle.uplink.proofs.Basics.{not-both, four}
use Rattle.uplink.proofs.Everywhere.{all-at}
use Rattle.uplink.proofs.SoundLaws.{entry-parts, SoundUplink, uplink-parts}
use Rattle.sched_core.specs.declared.Station.{Station}
use Rattle.sched_core.specs.Station.{station_of}
use Rattle.sched_core.proofs.StationLaws.{station-parts}
use Rattle.sched_core.specs.Questions.{sound_count, sound_station}
use Rattle.sched_words.specs.Words.{itself, unless_zero, opt_word, opt_low, words_of_all, read_all, same_words, entry_words, entry_from, words_of_row, row_from}
use Rattle.sched_words.specs.Words.{four_from, table_from, station_words, station_read, station_from, no_station}
use Rattle.sched_words.proofs.WordLaws.{row-size}

-- ---- words compared

pub same_refl : (ws : List ℕ) → same_words ws ws ≡ true
unfolding same_words
same_refl [] = refl
same_refl (w ∷ ws) = rw (eq-eqb w w refl) (same_refl ws)

pub same-equal : (v w : List ℕ) → same_words v w ≡ true → v ≡ w
unfolding same_words
same-equal [] [] h = refl
same-equal [] (x ∷ w) h = not-both false h refl
same-equal (x ∷ v) [] h = not-both false h refl
same-equal (x ∷ v) (y ∷ w) h = λ i. eqb-true x y (and_parts (eqb x y) (same_words v w) h).0 i ∷ same-equal v w (and_parts (eqb x y) (same_words v w) h).1 i

-- what is read back and what stands for it
module _ {A : Type 0} (write : A → List ℕ) (read : List ℕ → A) (none : A) where
  abbrev from : List ℕ → A
  from ws = cond (same_words (write (read ws)) ws) (read ws) none

  pub read_back : (x : A) → read (write x) ≡ x → from (write x) ≡ x
  read_back x e = rw (e, same_refl (write x))

  -- words that stand for something sound are its words
  pub words_of : (P : A → Type 0) → (P none → ⊥) → (ws : List ℕ) → P (from ws) → write (from ws) ≡ ws
  words_of P unsound ws = go (same_words (write (read ws)) ws) refl
    where
      go : (b : Bool) → same_words (write (read ws)) ws ≡ b → P (cond b (read ws) none) → write (cond b (read ws) none) ≡ ws
      go true e h = same-equal _ _ e
      go false e h = absurd (unsound h)

-- ---- elements one after another

pub every-all : {A : Type 0} (p : A → Bool) (xs : List A) → list_all p xs ≡ true → All (λ (x : A). p x ≡ true) xs
every-all p [] h = tt
every-all p (x ∷ xs) h = ((and_parts (p x) (list_all p xs) h).0, every-all p xs (and_parts (p x) (list_all p xs) h).1)

module _ {A : Type 0} (f : A → List ℕ) (g : List ℕ → A) (k : ℕ) (size : (x : A) → length (f x) ≡ k) (P : A → Type 0)
    (back : (x : A) → P x → (rest : List ℕ) → g (f x ++ rest) ≡ x) where
  pub parts-back : (n : ℕ) (xs : List A) (rest : List ℕ) → length xs ≡ n → All P xs → read_all g k n (words_of_all f xs ++ rest) ≡ xs
  unfolding words_of_all read_all
  parts-back zero [] rest e h = refl
  parts-back zero (x ∷ xs) rest e h = absurd (omega (arith, e))
  parts-back (suc n) [] rest e h = absurd (omega (arith, e))
  parts-back (suc n) (x ∷ xs) rest e h =
      let m : length xs ≡ n = omega (arith, e) in
      let a : (f x ++ words_of_all f xs) ++ rest ≡ f x ++ (words_of_all f xs ++ rest) = append_assoc (f x) (words_of_all f xs) rest in
      λ i. (ap g a ∙ back x h.0 (words_of_all f xs ++ rest)) i
      ∷ (ap (λ (l : List ℕ). read_all g k n (drop k l)) a ∙ ap (read_all g k n) (drop_at (f x) (words_of_all f xs ++ rest) k (size x))
      ∙ parts-back n xs rest m h.1) i

-- ---- the station

-- a number below n
pub small : (n v : ℕ) → v < n → v % n ≡ v
small n v h = mod-eq_of_lt h

-- and one that may be absent
pub opt-back : (w : ℕ) (o : Option ℕ) → 2 ^ w < 2 ^ 32 → OptWithin w o → opt_low (2 ^ w) (opt_word o) ≡ o
opt-back w None room h = refl
opt-back w (Some v) room h = let e : (v + 1) % 2 ^ 32 ≡ suc v = omega arith in rw (e, small (2 ^ w) v h)

owner-back : (o : Option ℕ) → sound_owner o ≡ true → unless_zero itself (opt_word o) ≡ o
owner-back None h = refl
owner-back (Some w) h =
    let k : w < 2 ^ 24 = ltb-true _ _ h in
    let e : (w + 1) % 2 ^ 32 ≡ suc w = omega arith in
    rw e

marker-within : (o : Option ℕ) → sound_marker o ≡ true → OptWithin 8 o
marker-within None h = tt
marker-within (Some m) h = let k : m ≤ 62 = leb-true m 62 (and_parts (leb 4 m) (leb m 62) h).1 in omega arith

entry-back : (e : Entry) → sound_entry e ≡ true → (rest : List ℕ) → entry_from (entry_words e ++ rest) ≡ e
entry-back e h rest =
    let p = entry-parts e h in
    λ i. record {
      ul1 = owner-back e.ul1 p.first i;
      ul2 = owner-back e.ul2 p.second i;
      usage_marker = opt-back 8 e.usage_marker (omega arith) (marker-within e.usage_marker p.marker) i;
    }

row_back : (row : List Entry) (rest : List ℕ) → length row ≡ 18 → sound_row row ≡ true → row_from (words_of_row row ++ rest) ≡ row
row_back row rest size h = parts-back entry_words entry_from 3 (λ e. refl) (λ (e : Entry). sound_entry e ≡ true) entry-back 18 row rest size
    (every-all sound_entry row h)

-- four numbers of 8 bits
four-back : (v : List ℕ) (rest : List ℕ) → length v ≡ 4 → All (λ (x : ℕ). x < 256) v → four_from (v ++ rest) ≡ v
four-back [] rest e h = absurd (omega (arith, e))
four-back (a ∷ []) rest e h = absurd (omega (arith, e))
four-back (a ∷ b ∷ []) rest e h = absurd (omega (arith, e))
four-back (a ∷ b ∷ c ∷ []) rest e h = absurd (omega (arith, e))
four-back (a ∷ b ∷ c ∷ d ∷ []) rest e h = λ i. small 256 a h.0 i ∷ small 256 b h.1.0 i ∷ small 256 c h.1.1.0 i ∷ small 256 d h.1.1.1.0 i ∷ []
four-back (a ∷ b ∷ c ∷ d ∷ x ∷ v) rest e h = absurd (omega (arith, e))

-- the lengths of a station's arrays
pub record Arrays (s : Station) : Type 0 where
  pub table : FourRowsOfEighteen s.uplink.rows
  pub counters : length s.uplink.next_usage_marker ≡ timeslots
  pub counts : length s.queued ≡ timeslots

module _ (s : Station) (sizes : Arrays s) (sound : sound_station s ≡ true) where
  abbrev judged : SoundUplink s.uplink
  judged = uplink-parts s.uplink (station-parts s sound).uplink

  abbrev tb : Table
  tb = s.uplink.rows

  rows : (i : ℕ) → i < timeslots → sound_row (get_or tb i []) ≡ true
  rows i h = all-at sound_row tb i [] (omega (arith, sizes.table.rows)) judged.table

  counters-small : All (λ (x : ℕ). x < 256) s.uplink.next_usage_marker
  counters-small =
      all-weaken (λ (x : ℕ). sound_counter x ≡ true) (λ (x : ℕ). x < 256)
      (λ x h. let k : x ≤ 62 = leb-true x 62 (and_parts (leb 4 x) (leb x 62) h).1 in omega arith) s.uplink.next_usage_marker
      (every-all sound_counter s.uplink.next_usage_marker judged.counters)

  counts-small : All (λ (x : ℕ). x < 256) s.queued
  counts-small =
      all-weaken (λ (x : ℕ). sound_count x ≡ true) (λ (x : ℕ). x < 256) (λ x h. let k : x ≤ per_timeslot = leb-true x per_timeslot h in omega arith) s.queued
      (every-all sound_count s.queued (station-parts s sound).counts)

  abbrev r1 : List ℕ
  r1 = words_of_row (get_or tb 0 [])

  abbrev r2 : List ℕ
  r2 = words_of_row (get_or tb 1 [])

  abbrev r3 : List ℕ
  r3 = words_of_row (get_or tb 2 [])

  abbrev r4 : List ℕ
  r4 = words_of_row (get_or tb 3 [])

  abbrev c : List ℕ
  c = s.uplink.next_usage_marker

  l1 : length r1 ≡ 54
  l1 = row-size (get_or tb 0 []) (sizes.table.columns 0 (omega arith))

  l2 : length r2 ≡ 54
  l2 = row-size (get_or tb 1 []) (sizes.table.columns 1 (omega arith))

  l3 : length r3 ≡ 54
  l3 = row-size (get_or tb 2 []) (sizes.table.columns 2 (omega arith))

  l4 : length r4 ≡ 54
  l4 = row-size (get_or tb 3 []) (sizes.table.columns 3 (omega arith))

  -- the words from each row on
  abbrev from-c : List ℕ
  from-c = c ++ s.queued

  abbrev from-4 : List ℕ
  from-4 = r4 ++ from-c

  abbrev from-3 : List ℕ
  from-3 = r3 ++ from-4

  abbrev from-2 : List ℕ
  from-2 = r2 ++ from-3

  at-4 : drop 4 (station_words s) ≡ r1 ++ from-2
  unfolding station_words
  at-4 = simp append_assoc

  at-58 : drop 58 (station_words s) ≡ from-2
  at-58 = sym (drop-drop 54 4 (station_words s)) ∙ ap (drop 54) at-4 ∙ drop_at r1 from-2 54 l1

  at-112 : drop 112 (station_words s) ≡ from-3
  at-112 = sym (drop-drop 54 58 (station_words s)) ∙ ap (drop 54) at-58 ∙ drop_at r2 from-3 54 l2

  at-166 : drop 166 (station_words s) ≡ from-4
  at-166 = sym (drop-drop 54 112 (station_words s)) ∙ ap (drop 54) at-112 ∙ drop_at r3 from-4 54 l3

  at-220 : drop 220 (station_words s) ≡ from-c
  at-220 = sym (drop-drop 54 166 (station_words s)) ∙ ap (drop 54) at-166 ∙ drop_at r4 from-c 54 l4

  at-224 : drop 224 (station_words s) ≡ s.queued ++ []
  at-224 = sym (drop-drop 4 220 (station_words s)) ∙ ap (drop 4) at-220 ∙ drop_at c s.queued 4 sizes.counters ∙ sym (append-nil s.queued)

  table-back : table_from (station_words s) ≡ tb
  table-back =
      (λ i.
      (ap row_from at-4 ∙ row_back (get_or tb 0 []) from-2 (sizes.table.columns 0 (omega arith)) (rows 0 (omega arith))) i
      ∷ (ap row_from at-58 ∙ row_back (get_or tb 1 []) from-3 (sizes.table.columns 1 (omega arith)) (rows 1 (omega arith))) i
      ∷ (ap row_from at-112 ∙ row_back (get_or tb 2 []) from-4 (sizes.table.columns 2 (omega arith)) (rows 2 (omega arith))) i
      ∷ (ap row_from at-166 ∙ row_back (get_or tb 3 []) from-c (sizes.table.columns 3 (omega arith)) (rows 3 (omega arith))) i
      ∷ [])
      ∙ four tb [] sizes.table.rows

  station-read-back : station_read (station_words s) ≡ s
  unfolding station_read station_words
  station-read-back =
      let x = s.uplink.time in
      let v = judged.time in
      λ i. station_of
      (uplink_of (record {
        t = small 256 x.t (omega (arith, v.t-high)) i;
        f = small 256 x.f (omega (arith, v.f-high)) i;
        m = small 256 x.m
            (omega (arith, v.m-high)) i;
        h = small 65536 x.h (omega (arith, v.h-high)) i;
      })
      (table-back i)
      ((ap four_from at-220 ∙ four-back c s.queued sizes.counters counters-small) i))
      ((ap four_from at-224 ∙ four-back s.queued [] sizes.counts counts-small) i)

  -- a sound station is the one that its words stand for
  pub station-back : station_from (station_words s) ≡ s
  unfolding station_from
  station-back = read_back station_words station_read no_station s station-read-back

pub unsound-none : sound_station no_station ≡ false
unfolding sound_station sound_uplink valid
unsound-none = refl

-- words that stand for a sound station are that station's words
pub station-words-back : (ws : List ℕ) → sound_station (station_from ws) ≡ true → station_words (station_from ws) ≡ ws
unfolding station_from
station-words-back ws = words_of station_words station_read no_station (λ (s : Station). sound_station s ≡ true)
    (λ h. not-both (sound_station no_station) h unsound-none) ws
