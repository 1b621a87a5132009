-- The words of a station, judged where they stand. Assumes nothing.
use Rattle.std.specs.List.{list_all}
use Rattle.std.proofs.Common.{◌≡◌, ℕ, zero, suc, ◌+◌, ◌*◌, ◌%◌, ◌^◌, ◌≤◌, Bool, true, false, cond, ◌&&◌, ◌||◌, not, eqb, leb, List, [], ◌∷◌, take}
use Rattle.std.proofs.Common.{length, get_or, drop, sym, refl, ap, ◌∙◌, ap₂, arith, drop-drop, ne_eqb}
use Rattle.std.proofs.lemmas.List.Folds.{list_all-append}
use mathlib.Core.Bool.{and_assoc, and-true, and-false}
use Rattle.tdma_time.specs.Time.{valid}
use Rattle.uplink.specs.declared.Entry.{Entry}
use Rattle.std.specs.List.{fold}
use Rattle.std.specs.Option.{is_none}
use Rattle.uplink.specs.HalfSlot.{vacant}
use Rattle.uplink.specs.UplinkEntry.{sound_owner, sound_marker, sound_entry, sound_row, sound_table, sound_counters}
use Rattle.uplink.specs.Uplink.{sound_uplink}
use Rattle.sched_core.specs.Questions.{sound_count, sound_station}
use Rattle.sched_words.specs.Words.{itself, unless_zero, opt_low, entry_of, words_of_all, read_all}
use Rattle.sched_words.specs.Words.{same_words, time_words, time_from, entry_words, entry_from, row_from}
use Rattle.sched_words.specs.Words.{four_from, table_from, station_words, station_read, station_from, no_station}
use Rattle.sched_words.specs.Front.{begins}
use Rattle.sched_words.proofs.FitLaws.{spelled, parts-turn, parts_add}
use Rattle.sched_words.proofs.FitStation.{nested4, station-fits}
use Rattle.sched_words.proofs.RoundTrip.{unsound-none}
use Rattle.sched_words.proofs.FrontLaws.{entry-front, begins-front}

-- two tests of each of two things
pub shuffle : (a b c d : Bool) → (a && b) && (c && d) ≡ (a && c) && (b && d)
shuffle true true c d = refl
shuffle true false c d = sym (and-false c)
shuffle false b c d = refl

-- ---- one entry

positive : (m : ℕ) → eqb (suc m) 0 ≡ false
positive m = ne_eqb (suc m) 0 (λ e. omega (arith, e))

owner-word : (b : ℕ) → leb b (2 ^ 24) ≡ sound_owner (unless_zero itself b)
owner-word zero = refl
owner-word (suc b) = refl

-- a word of 0 is of none
owner-absent : (b : ℕ) → eqb b 0 ≡ vacant (unless_zero itself b)
owner-absent zero = refl
owner-absent (suc b) = positive b

marker-absent : (m : ℕ) → eqb m 0 ≡ is_none (opt_low 256 m)
marker-absent zero = refl
marker-absent (suc m) = positive m

past : (a b c : Bool) → a && (b && c) ≡ b && (a && c)
past true b c = refl
past false b c = sym (and-false b)

pub entry-sound : (a b m : ℕ) (k : Bool) → k ≡ leb m 256 && sound_marker (opt_low 256 m)
    → (not (eqb a 0) || (eqb b 0 && eqb m 0)) && leb a (2 ^ 24) && leb b (2 ^ 24) && k ≡ leb m 256 && sound_entry (entry_of a b m)
entry-sound a b m k e =
    let e1 = unless_zero itself a in
    let e2 = unless_zero itself b in
    (λ i. (not (owner-absent a i) || (owner-absent b i && marker-absent m i)) && owner-word a i && owner-word b i && e i)
    ∙ past ((not (vacant e1) || (vacant e2 && is_none (opt_low 256 m))) && sound_owner e1 && sound_owner e2) (leb m 256) (sound_marker (opt_low 256 m))

-- ---- the entries

-- the words are those of the entry read from them, and it is sound
abbrev pub judged : List ℕ → Bool
judged ws = begins (entry_words (entry_from ws)) ws && sound_entry (entry_from ws)

judged-front : (ws : List ℕ) → judged (take 3 ws) ≡ judged ws
judged-front ws =
    ap (λ (e : Entry). begins (entry_words e) (take 3 ws) && sound_entry e) (entry-front ws)
    ∙ ap (λ (b : Bool). b && sound_entry (entry_from ws)) (begins-front (entry_words (entry_from ws)) ws 3 refl)

-- entry by entry
pub entries-judged : (n : ℕ) (ws : List ℕ) → list_all judged (read_all (take 3) 3 n ws)
    ≡ begins (words_of_all entry_words (read_all entry_from 3 n ws)) ws && list_all sound_entry (read_all entry_from 3 n ws)
unfolding begins words_of_all read_all
entries-judged zero ws = refl
entries-judged (suc n) ws =
    let more : List ℕ = drop 3 ws in
    let fits : Bool = begins (words_of_all entry_words (read_all entry_from 3 n more)) more in
    let sounds : Bool = list_all sound_entry (read_all entry_from 3 n more) in
    (λ i. judged-front ws i && entries-judged n more i)
    ∙ shuffle (begins (entry_words (entry_from ws)) ws) (sound_entry (entry_from ws)) fits sounds
    ∙ ap (λ (b : Bool). b && (sound_entry (entry_from ws) && sounds)) (sym (parts-turn entry_words entry_from 3 (λ x. refl) n ws))

pub all-folded : (sound : Bool) (es : List (List ℕ)) → fold (λ (b : Bool) (e : List ℕ). b && judged e) sound es ≡ sound && list_all judged es
all-folded sound [] = sym (and-true sound)
all-folded sound (e ∷ es) = all-folded (sound && judged e) es ∙ and_assoc sound (judged e) (list_all judged es)

row_more : (n : ℕ) (ws : List ℕ) → list_all sound_entry (read_all entry_from 3 (n + 18) ws) ≡ list_all sound_entry (read_all entry_from 3 n ws)
    && sound_row (row_from (drop (3 * n) ws))
row_more n ws = ap (list_all sound_entry) (parts_add entry_from 3 n 18 ws) ∙ list_all-append sound_entry (read_all entry_from 3 n ws) (row_from (drop (3 * n) ws))

-- 72 entries are four rows
table-sound : (ws : List ℕ) → list_all sound_entry (read_all entry_from 3 72 (drop 4 ws)) ≡ sound_table (table_from ws)
table-sound ws =
    let at : (n : ℕ) → sound_row (row_from (drop n (drop 4 ws))) ≡ sound_row (row_from (drop (4 + n) ws)) = λ n. ap (λ (l : List ℕ). sound_row (row_from l))
    (drop-drop n 4 ws) in
    let row : ℕ → Bool = λ n. sound_row (row_from (drop n ws)) in
    row_more 54 (drop 4 ws)
    ∙ ap₂ ◌&&◌ (row_more 36 (drop 4 ws) ∙ ap₂ ◌&&◌ (row_more 18 (drop 4 ws) ∙ ap (λ (b : Bool). row 4 && b) (at 54)) (at 108)) (at 162)
    ∙ nested4 (row 4) (row 58) (row 112) (row 166)

-- ---- counters and counts

-- four words of 8 bits that each pass a test
pub four-sound : (p : ℕ → Bool) (ws : List ℕ) → 4 ≤ length ws
    → (eqb (get_or ws 0 0 % 256) (get_or ws 0 0) && p (get_or ws 0 0 % 256)) && (eqb (get_or ws 1 0 % 256) (get_or ws 1 0) && p (get_or ws 1 0 % 256))
    && (eqb (get_or ws 2 0 % 256) (get_or ws 2 0) && p (get_or ws 2 0 % 256)) && (eqb (get_or ws 3 0 % 256) (get_or ws 3 0) && p (get_or ws 3 0 % 256))
    ≡ begins (four_from ws) ws && list_all p (four_from ws)
unfolding begins
four-sound p ws h =
    let fit : ℕ → Bool = λ i. eqb (get_or ws i 0 % 256) (get_or ws i 0) in
    let pass : ℕ → Bool = λ i. p (get_or ws i 0 % 256) in
    ap (λ (b : Bool). b && (fit 3 && pass 3))
    (ap (λ (b : Bool). b && (fit 2 && pass 2)) (shuffle (fit 0) (pass 0) (fit 1) (pass 1)) ∙ shuffle (fit 0 && fit 1) (pass 0 && pass 1) (fit 2) (pass 2))
    ∙ shuffle (fit 0 && fit 1 && fit 2) (pass 0 && pass 1 && pass 2) (fit 3) (pass 3)
    ∙ ap₂ ◌&&◌ (nested4 (fit 0) (fit 1) (fit 2) (fit 3) ∙ ap (begins (four_from ws)) (sym (spelled 4 0 ws h))) (nested4 (pass 0) (pass 1) (pass 2) (pass 3))

-- ---- the whole

from-sound : (ws : List ℕ) → same_words (station_words (station_read ws)) ws && sound_station (station_read ws) ≡ sound_station (station_from ws)
unfolding station_from
from-sound ws = go (same_words (station_words (station_read ws)) ws)
  where
    go : (b : Bool) → b && sound_station (station_read ws) ≡ sound_station (cond b (station_read ws) no_station)
    go true = refl
    go false = sym unsound-none

pub station-judged : (ws : List ℕ) → length ws ≡ 228
    → (begins (time_words (time_from ws)) ws && valid (time_from ws))
    && (begins (words_of_all entry_words (read_all entry_from 3 72 (drop 4 ws))) (drop 4 ws) && list_all sound_entry (read_all entry_from 3 72 (drop 4 ws)))
    && (begins (four_from (drop 220 ws)) (drop 220 ws) && sound_counters (four_from (drop 220 ws)))
    && (begins (four_from (drop 224 ws)) (drop 224 ws) && list_all sound_count (four_from (drop 224 ws)))
    ≡ sound_station (station_from ws)
unfolding sound_station sound_uplink station_read
station-judged ws size =
    let f1 = begins (time_words (time_from ws)) ws in
    let f2 = begins (words_of_all entry_words (read_all entry_from 3 72 (drop 4 ws))) (drop 4 ws) in
    let f3 = begins (four_from (drop 220 ws)) (drop 220 ws) in
    let f4 = begins (four_from (drop 224 ws)) (drop 224 ws) in
    let s1 = valid (time_from ws) in
    let s2 = list_all sound_entry (read_all entry_from 3 72 (drop 4 ws)) in
    let s3 = sound_counters (four_from (drop 220 ws)) in
    let s4 = list_all sound_count (four_from (drop 224 ws)) in
    ap (λ (b : Bool). b && (f4 && s4)) (ap (λ (b : Bool). b && (f3 && s3)) (shuffle f1 s1 f2 s2) ∙ shuffle (f1 && f2) (s1 && s2) f3 s3)
    ∙ shuffle (f1 && f2 && f3) (s1 && s2 && s3) f4 s4
    ∙ ap₂ ◌&&◌ (station-fits ws size) (ap (λ (b : Bool). s1 && b && s3 && s4) (table-sound ws))
    ∙ from-sound ws
