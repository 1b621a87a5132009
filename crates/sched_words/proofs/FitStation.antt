-- The words of a station fit, part by part. Assumes nothing.
use Rattle.std.proofs.Common.{◌≡◌, ℕ, ◌+◌, ◌*◌, ◌%◌, ◌^◌, ◌<◌, ◌≤◌, Bool, true, ◌&&◌, eqb, leb, List, ◌++◌, length, get_or, drop, sym, refl, ap, ◌∙◌, ap₂}
use Rattle.std.proofs.Common.{drop-drop}
use mathlib.Core.Bool.{and_assoc, and-true}
use Rattle.sched_words.specs.Words.{low, itself, words_of_all, read_all, same_words, time_words}
use Rattle.sched_words.specs.Words.{time_from, entry_words, entry_from, words_of_row, row_from, four_from}
use Rattle.sched_words.specs.Words.{table_words}
use Rattle.sched_words.specs.Words.{table_from, station_words, station_read}
use Rattle.sched_words.specs.FieldLaws.{low_laws, option_laws}
use Rattle.sched_words.specs.Front.{begins}
use Rattle.sched_words.proofs.WordLaws.{joined-append}
use Rattle.sched_words.proofs.FitLaws.{most-fits, owner-fits, spelled, begins-append, begins-whole, parts_add}

pub nested4 : (a b c d : Bool) → a && b && c && d ≡ a && (b && (c && (d && true)))
nested4 a b c d = simp (and_assoc, and-true)

pub time-fits : (ws : List ℕ) → 4 ≤ length ws
    → eqb (get_or ws 0 0 % 256) (get_or ws 0 0) && eqb (get_or ws 1 0 % 256) (get_or ws 1 0) && eqb (get_or ws 2 0 % 256) (get_or ws 2 0)
    && eqb (get_or ws 3 0 % 65536) (get_or ws 3 0)
    ≡ begins (time_words (time_from ws)) ws
unfolding begins
time-fits ws h =
    nested4 (eqb (get_or ws 0 0 % 256) (get_or ws 0 0)) (eqb (get_or ws 1 0 % 256) (get_or ws 1 0)) (eqb (get_or ws 2 0 % 256) (get_or ws 2 0))
    (eqb (get_or ws 3 0 % 65536) (get_or ws 3 0))
    ∙ ap (begins (time_words (time_from ws))) (sym (spelled 4 0 ws h))

-- ---- entries: the owners of any words fit

pub entry-fits : (ws : List ℕ) → 3 ≤ length ws → ((i : ℕ) → get_or ws i 0 < 2 ^ 32) → leb (get_or ws 2 0) 256 ≡ begins (entry_words (entry_from ws)) ws
unfolding begins
entry-fits ws h small =
    let laws = option_laws (low 256) itself 255 (low_laws 255) in
    sym (and-true (leb (get_or ws 2 0) 256))
    ∙ (λ i. owner-fits (get_or ws 0 0) (small 0) i && (owner-fits (get_or ws 1 0) (small 1) i && (most-fits laws (get_or ws 2 0) (small 2) i && true)))
    ∙ ap (begins (entry_words (entry_from ws))) (sym (spelled 3 0 ws h))

-- ---- the whole

row_more : (n : ℕ) (ws : List ℕ) → words_of_all entry_words (read_all entry_from 3 (n + 18) ws) ≡ words_of_all entry_words (read_all entry_from 3 n ws)
    ++ words_of_row (row_from (drop (3 * n) ws))
row_more n ws = ap (words_of_all entry_words) (parts_add entry_from 3 n 18 ws) ∙ joined-append entry_words (read_all entry_from 3 n ws)
    (row_from (drop (3 * n) ws))

-- 72 entries are four rows
table-rows : (ws : List ℕ) → words_of_all entry_words (read_all entry_from 3 72 (drop 4 ws)) ≡ table_words (table_from ws)
table-rows ws =
    let at : (n : ℕ) → drop n (drop 4 ws) ≡ drop (4 + n) ws = λ n. drop-drop n 4 ws in
    row_more 54 (drop 4 ws)
    ∙ ap₂ (λ (l m : List ℕ). l ++ words_of_row (row_from m))
    (row_more 36 (drop 4 ws) ∙ ap₂ (λ (l m : List ℕ). l ++ words_of_row (row_from m))
    (row_more 18 (drop 4 ws) ∙ ap (λ (m : List ℕ). words_of_row (row_from (drop 4 ws)) ++ words_of_row (row_from m)) (at 54)) (at 108))
    (at 162)

pub station-fits : (ws : List ℕ) → length ws ≡ 228
    → begins (time_words (time_from ws)) ws && begins (words_of_all entry_words (read_all entry_from 3 72 (drop 4 ws))) (drop 4 ws)
    && begins (four_from (drop 220 ws)) (drop 220 ws) && begins (four_from (drop 224 ws)) (drop 224 ws)
    ≡ same_words (station_words (station_read ws)) ws
unfolding station_words station_read words_of_all read_all
station-fits ws e =
    let s = station_read ws in
    let t = time_words (time_from ws) in
    let n = four_from (drop 220 ws) in
    let q = four_from (drop 224 ws) in
    ap (λ (l : List ℕ). begins t ws && begins l (drop 4 ws) && begins n (drop 220 ws) && begins q (drop 224 ws)) (table-rows ws)
    ∙ sym (begins-append (t ++ table_words (table_from ws) ++ n) q ws 224 refl
    ∙ ap (λ (b : Bool). b && begins q (drop 224 ws)) (begins-append (t ++ table_words (table_from ws)) n ws 220 refl
    ∙ ap (λ (b : Bool). b && begins n (drop 220 ws)) (begins-append t (table_words (table_from ws)) ws 4 refl)))
    ∙ begins-whole (station_words s) ws (sym e)
