-- The words of a station that a call alters. Assumes nothing.
use Rattle.std.proofs.Common.{◌≡◌, ℕ, zero, suc, ◌+◌, ◌-◌, ◌*◌, ◌<◌, ◌≤◌, Bool, true, false, cond, List, [], ◌∷◌, ◌++◌, length, get_or, drop, set, sym}
use Rattle.std.proofs.Common.{refl, ap, ◌∙◌, subst, ap₂, arith, length-append, drop-drop}
use lib.Seq.{sets}
use Rattle.tdma_time.specs.declared.TdmaTime.{TdmaTime}
use Rattle.tdma_time.specs.Time.{Valid, slot_of, next_time, four_earlier}
use Rattle.uplink.specs.declared.Entry.{Entry}
use Rattle.uplink.specs.UplinkEntry.{Table, empty_entry, entry_at, cleared}
use Rattle.uplink.specs.Uplink.{uplink_of}
use Rattle.uplink.proofs.Basics.{not-both}
use Rattle.uplink.proofs.TableLaws.{entry-of-time, cleared_at}
use Rattle.sched_core.specs.declared.Station.{Station}
use Rattle.sched_core.specs.Station.{station_of, advanced_station, with_queued}
use Rattle.sched_core.specs.Questions.{sound_station}
use Rattle.sched_core.proofs.StationLaws.{sound-time}
use Rattle.sched_words.specs.Words.{same_words, time_words, time_from, entry_words, entry_from, words_of_row, row_from, four_from, table_words}
use Rattle.sched_words.specs.Words.{table_from, station_words, station_read, station_from, no_station}
use Rattle.sched_words.proofs.WordLaws.{row-size, sets-whole, length-parts, part_at}
use Rattle.sched_words.proofs.StoreLaws.{sets-left, sets-right, set-joined}
use Rattle.sched_words.proofs.RoundTrip.{unsound-none, station-words-back}

-- ---- a row of the table

module _ (a b c d : List Entry) (sa : length a ≡ 18) (sb : length b ≡ 18) (sc : length c ≡ 18) (sd : length d ≡ 18) where
  abbrev tb : Table
  tb = a ∷ b ∷ c ∷ d ∷ []

  abbrev A : List ℕ
  A = words_of_row a

  abbrev B : List ℕ
  B = words_of_row b

  abbrev C : List ℕ
  C = words_of_row c

  abbrev D : List ℕ
  D = words_of_row d

  size2 : length (A ++ B) ≡ 108
  size2 = length-append A B ∙ omega (arith, row-size a sa, row-size b sb)

  size3 : length (A ++ B ++ C) ≡ 162
  size3 = length-append (A ++ B) C ∙ omega (arith, size2, row-size c sc)

  pub table-size : length (table_words tb) ≡ 216
  table-size = length-append (A ++ B ++ C) D ∙ omega (arith, size3, row-size d sd)

  -- words stored in those of a row
  module _ (p : ℕ) (w : List ℕ) (row : List Entry) (room : p + length w ≤ 54) where
    pub table-set : (r : ℕ) → r < 4 → sets (words_of_row (get_or tb r [])) p w ≡ words_of_row row
        → sets (table_words tb) (54 * r + p) w ≡ table_words (set tb r row)
    table-set zero h e =
        let first : 54 * 0 + p ≡ p = omega arith in
        ap (λ (j : ℕ). sets (A ++ B ++ C ++ D) j w) first
        ∙ sets-left (A ++ B ++ C) D p w (omega (arith, size3))
        ∙ ap (λ (l : List ℕ). l ++ D) (sets-left (A ++ B) C p w (omega (arith, size2)))
        ∙ ap (λ (l : List ℕ). l ++ C ++ D) (sets-left A B p w (omega (arith, row-size a sa)))
        ∙ ap (λ (l : List ℕ). l ++ B ++ C ++ D) e
    table-set (suc zero) h e =
        sets-left (A ++ B ++ C) D (54 + p) w (omega (arith, size3))
        ∙ ap (λ (l : List ℕ). l ++ D) (sets-left (A ++ B) C (54 + p) w (omega (arith, size2)))
        ∙ ap (λ (l : List ℕ). l ++ C ++ D) (sets-right A B 54 p w (row-size a sa))
        ∙ ap (λ (l : List ℕ). A ++ l ++ C ++ D) e
    table-set (suc (suc zero)) h e =
        sets-left (A ++ B ++ C) D (108 + p) w (omega (arith, size3))
        ∙ ap (λ (l : List ℕ). l ++ D) (sets-right (A ++ B) C 108 p w size2)
        ∙ ap (λ (l : List ℕ). A ++ B ++ l ++ D) e
    table-set (suc (suc (suc zero))) h e = sets-right (A ++ B ++ C) D 162 p w size3 ∙ ap (λ (l : List ℕ). A ++ B ++ C ++ l) e
    table-set (suc (suc (suc (suc r)))) h e = absurd (omega (arith, h))

-- ---- the parts of a station

module _ (x : TdmaTime) (tb : Table) (ms ns : List ℕ) where
  abbrev of : Station
  of = station_of (uplink_of x tb ms) ns

  pub time-stored : (y : TdmaTime) → sets (station_words of) 0 (time_words y) ≡ station_words (station_of (uplink_of y tb ms) ns)
  unfolding station_words
  time-stored y =
      let T = time_words x in
      let W = table_words tb in
      let w = time_words y in
      sets-left (T ++ W ++ ms) ns 0 w (omega (arith, length-append (T ++ W) ms, length-append T W))
      ∙ ap (λ (l : List ℕ). l ++ ns) (sets-left (T ++ W) ms 0 w (omega (arith, length-append T W)))
      ∙ ap (λ (l : List ℕ). l ++ ms ++ ns) (sets-left T W 0 w (omega arith))
      ∙ ap (λ (l : List ℕ). l ++ W ++ ms ++ ns) (sets-whole T w refl)

  pub table-stored : (p : ℕ) (w : List ℕ) (tb' : Table) → p + length w ≤ length (table_words tb) → sets (table_words tb) p w ≡ table_words tb'
      → sets (station_words of) (4 + p) w ≡ station_words (station_of (uplink_of x tb' ms) ns)
  unfolding station_words
  table-stored p w tb' h e =
      let T = time_words x in
      let W = table_words tb in
      sets-left (T ++ W ++ ms) ns (4 + p) w (omega (arith, length-append (T ++ W) ms, length-append T W))
      ∙ ap (λ (l : List ℕ). l ++ ns) (sets-left (T ++ W) ms (4 + p) w (omega (arith, length-append T W)))
      ∙ ap (λ (l : List ℕ). l ++ ms ++ ns) (sets-right T W 4 p w refl)
      ∙ ap (λ (l : List ℕ). T ++ l ++ ms ++ ns) e

  pub counters-stored : (ms' : List ℕ) → length (table_words tb) ≡ 216 → length ms ≡ 4 → length ms' ≡ 4
      → sets (station_words of) 220 ms' ≡ station_words (station_of (uplink_of x tb ms') ns)
  unfolding station_words
  counters-stored ms' st sm sm' =
      let T = time_words x in
      let W = table_words tb in
      sets-left (T ++ W ++ ms) ns 220 ms' (omega (arith, length-append (T ++ W) ms, length-append T W))
      ∙ ap (λ (l : List ℕ). l ++ ns) (sets-right (T ++ W) ms 220 0 ms' (length-append T W ∙ omega (arith, st)))
      ∙ ap (λ (l : List ℕ). T ++ W ++ l ++ ns) (sets-whole ms ms' (sm' ∙ sym sm))

  pub counts-stored : (ns' : List ℕ) → length (table_words tb) ≡ 216 → length ms ≡ 4 → length ns ≡ 4 → length ns' ≡ 4
      → sets (station_words of) 224 ns' ≡ station_words (station_of (uplink_of x tb ms) ns')
  unfolding station_words
  counts-stored ns' st sm sn sn' =
      let T = time_words x in
      let W = table_words tb in
      sets-right (T ++ W ++ ms) ns 224 0 ns' (length-append (T ++ W) ms ∙ omega (arith, length-append T W, st, sm))
      ∙ ap (λ (l : List ℕ). T ++ W ++ ms ++ l) (sets-whole ns ns' (sn' ∙ sym sn))

-- ---- words that stand for a sound station

module _ (ws : List ℕ) (sound : sound_station (station_from ws) ≡ true) where
  as_read : station_from ws ≡ station_read ws
  unfolding station_from
  as_read = go (same_words (station_words (station_read ws)) ws) sound
    where
      go : (b : Bool) → sound_station (cond b (station_read ws) no_station) ≡ true → cond b (station_read ws) no_station ≡ station_read ws
      go true h = refl
      go false h = not-both (sound_station no_station) h unsound-none

  pub time-valid : Valid (time_from ws)
  unfolding station_read
  time-valid = subst (λ (s : Station). Valid s.uplink.time) as_read (sound-time (station_from ws) sound)

  pub time-read : time_from ws ≡ (station_from ws).uplink.time
  unfolding station_read
  time-read = ap (λ (s : Station). s.uplink.time) (sym as_read)

  pub counters-read : four_from (drop 220 ws) ≡ (station_from ws).uplink.next_usage_marker
  unfolding station_read
  counters-read = ap (λ (s : Station). s.uplink.next_usage_marker) (sym as_read)

  pub counts-read : four_from (drop 224 ws) ≡ (station_from ws).queued
  unfolding station_read
  counts-read = ap (λ (s : Station). s.queued) (sym as_read)

  -- row r is that of its words
  row_at : (r : ℕ) → r < 4 → get_or (table_from ws) r [] ≡ row_from (drop (4 + 54 * r) ws)
  row_at zero h = refl
  row_at (suc zero) h = refl
  row_at (suc (suc zero)) h = refl
  row_at (suc (suc (suc zero))) h = refl
  row_at (suc (suc (suc (suc r)))) h = absurd (omega (arith, h))

  pub row_read : (r : ℕ) → r < 4 → row_from (drop (4 + 54 * r) ws) ≡ get_or (station_from ws).uplink.rows r []
  unfolding station_read
  row_read r h = sym (ap (λ (s : Station). get_or s.uplink.rows r []) as_read ∙ row_at r h)

  -- the words of the entry of a time
  pub entry-words : (x : TdmaTime) → Valid x → entry_from (drop (4 + (54 * (x.t - 1) + 3 * (x.f - 1))) ws) ≡ entry_at (station_from ws).uplink.rows (slot_of x)
  entry-words x v =
      let r : ℕ = x.t - 1 in
      let k : ℕ = x.f - 1 in
      let at : 4 + 54 * r + 3 * k ≡ 4 + (54 * r + 3 * k) = omega arith in
      sym
      (part_at entry_from 3 18 k (drop (4 + 54 * r) ws) empty_entry (omega (arith, v.f-low, v.f-high))
      ∙ ap entry_from (drop-drop (3 * k) (4 + 54 * r) ws ∙ ap (λ (j : ℕ). drop j ws) at))
      ∙ ap (λ (row : List Entry). get_or row k empty_entry) (row_read r (omega (arith, v.t-low, v.t-high)))
      ∙ entry-of-time (station_from ws).uplink.rows x v

  row-long : (n : ℕ) → length (row_from (drop n ws)) ≡ 18
  row-long n = length-parts entry_from 3 18 (drop n ws)

  whole-table : length (table_words (table_from ws)) ≡ 216
  whole-table = table-size (row_from (drop 4 ws)) (row_from (drop 58 ws)) (row_from (drop 112 ws)) (row_from (drop 166 ws)) (row-long 4) (row-long 58)
      (row-long 112) (row-long 166)

  -- its words, and words stored in those of a row
  words-read : ws ≡ station_words (station_read ws)
  words-read = sym (station-words-back ws sound) ∙ ap station_words as_read

  row-stored : (x : TdmaTime) (ms ns : List ℕ) (r : ℕ) → r < 4 → (p : ℕ) (w : List ℕ) (row : List Entry) → p + length w ≤ 54
      → (length (get_or (table_from ws) r []) ≡ 18 → sets (words_of_row (get_or (table_from ws) r [])) p w ≡ words_of_row row)
      → sets (station_words (station_of (uplink_of x (table_from ws) ms) ns)) (4 + (54 * r + p)) w
      ≡ station_words (station_of (uplink_of x (set (table_from ws) r row) ms) ns)
  row-stored x ms ns r h p w row room e =
      table-stored x (table_from ws) ms ns (54 * r + p) w (set (table_from ws) r row) (omega (arith, whole-table))
      (table-set (row_from (drop 4 ws)) (row_from (drop 58 ws)) (row_from (drop 112 ws)) (row_from (drop 166 ws)) (row-long 4) (row-long 58) (row-long 112)
      (row-long 166) p w row room r h (e (ap (length {A = Entry}) (row_at r h) ∙ row-long (4 + 54 * r))))

  -- other numbers of records queued
  pub queued-words : (ns : List ℕ) → length ns ≡ 4 → sets ws 224 ns ≡ station_words (with_queued (station_from ws) ns)
  unfolding station_read
  queued-words ns size =
      ap (λ (l : List ℕ). sets l 224 ns) words-read
      ∙ counts-stored (time_from ws) (table_from ws) (four_from (drop 220 ws)) (four_from (drop 224 ws)) ns whole-table refl refl size
      ∙ ap (λ (s : Station). station_words (with_queued s ns)) (sym as_read)

  -- other counters, numbers of records queued, and another row
  pub row_words : (r : ℕ) → r < 4 → (row : List Entry) → length (words_of_row row) ≡ 54 → (ms ns : List ℕ) → length ms ≡ 4 → length ns ≡ 4
      → sets (sets (sets ws 220 ms) 224 ns) (4 + 54 * r) (words_of_row row)
      ≡ station_words (station_of (uplink_of (station_from ws).uplink.time (set (station_from ws).uplink.rows r row) ms) ns)
  unfolding station_read
  row_words r h row size ms ns sm sn =
      let x = time_from ws in
      let tb = table_from ws in
      let qs = four_from (drop 224 ws) in
      let at : 4 + 54 * r ≡ 4 + (54 * r + 0) = omega arith in
      ap₂ (λ (l : List ℕ) (p : ℕ). sets (sets (sets l 220 ms) 224 ns) p (words_of_row row)) words-read at
      ∙ ap (λ (l : List ℕ). sets l (4 + (54 * r + 0)) (words_of_row row))
      (ap (λ (l : List ℕ). sets l 224 ns) (counters-stored x tb (four_from (drop 220 ws)) qs ms whole-table refl sm)
      ∙ counts-stored x tb ms qs ns whole-table sm refl sn)
      ∙ row-stored x ms ns r h 0 (words_of_row row) row (omega arith)
      (λ l. sets-whole (words_of_row (get_or tb r [])) (words_of_row row) (size ∙ sym (row-size _ l)))
      ∙ ap (λ (s : Station). station_words (station_of (uplink_of s.uplink.time (set s.uplink.rows r row) ms) ns)) (sym as_read)

  -- one slot on: the time, and the entry that is emptied
  pub advanced-words : (next old : TdmaTime) → next ≡ next_time (time_from ws) → Valid next → old ≡ four_earlier next → Valid old
      → sets (sets ws 0 (time_words next)) (4 + (54 * (next.t - 1) + 3 * (old.f - 1))) (0 ∷ 0 ∷ 0 ∷ []) ≡ station_words (advanced_station (station_from ws))
  unfolding station_read
  advanced-words next old en vn eo vo =
      let tb = table_from ws in
      let ms = four_from (drop 220 ws) in
      let ns = four_from (drop 224 ws) in
      let r : ℕ = next.t - 1 in
      let k : ℕ = old.f - 1 in
      let low : k < 18 = omega (arith, vo.f-low, vo.f-high) in
      ap (λ (l : List ℕ). sets (sets l 0 (time_words next)) (4 + (54 * r + 3 * k)) (0 ∷ 0 ∷ 0 ∷ [])) words-read
      ∙ ap (λ (l : List ℕ). sets l (4 + (54 * r + 3 * k)) (0 ∷ 0 ∷ 0 ∷ [])) (time-stored (time_from ws) tb ms ns next)
      ∙ row-stored next ms ns r (omega (arith, vn.t-low, vn.t-high)) (3 * k) (entry_words empty_entry) (set (get_or tb r []) k empty_entry) (omega arith)
      (λ l. set-joined entry_words 3 (λ x. refl) (get_or tb r []) k empty_entry (omega arith))
      ∙ ap (λ (t : Table). station_words (station_of (uplink_of next t ms) ns)) (cleared_at tb next old vn eo)
      ∙ ap (λ (y : TdmaTime). station_words (station_of (uplink_of y (cleared tb y) ms) ns)) en
      ∙ ap (λ (s : Station). station_words (advanced_station s)) (sym as_read)
