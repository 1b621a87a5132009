-- One run of words after another. Assumes nothing.
use Rattle.std.proofs.Common.{◌≡◌, ℕ, List, ◌++◌, length, refl, sym, ap, ◌∙◌, arith, rules, length-append}
use Rattle.std.specs.List.{flat_map}
use borrow.Rule.Slice.PartMut.{put_mid}
use lib.Seq.{sets, length-sets}
use Rattle.sched_words.specs.Words.{words_of_all, entry_words, time_words, table_words, station_words}
use Rattle.sched_words.proofs.WordLaws.{copied, copied-front, sets-next, sets-whole, length-joined, table-joined}
use Rattle.sched_words.proofs.station.put_station.Goals as goal

pub returns : goal.returns
unfolding station_words
returns c =
    let ws = c.args.words.now in
    let size : length ws ≡ 228 = search rules in
    let u = c.args.s.now.uplink in
    let T : List ℕ = time_words u.time in
    let W : List ℕ = table_words u.rows in
    let M : List ℕ = u.next_usage_marker in
    let N : List ℕ = c.args.s.now.queued in
    let rows : length u.rows ≡ 4 = search rules in
    let wide : length W ≡ 216 =
    ap length (sym (table-joined u.rows rows)) ∙ length-joined entry_words 3 (λ x. refl) (flat_map (λ row. row) u.rows)
    ∙ omega (arith, ap length c.as_flattened.ensures.value, c.as_flattened.ensures.len, rows) in
    let at-220 : length (T ++ W) ≡ 220 = length-append T W ∙ omega (arith, wide) in
    let at-224 : length (T ++ W ++ M) ≡ 224 = length-append (T ++ W) M ∙ omega (arith, at-220, c.four_words.ensures.1) in
    let whole : length (T ++ W ++ M ++ N) ≡ 228 = length-append (T ++ W ++ M) N ∙ omega (arith, at-224, c.four_words-2.ensures.1) in
    let time = copied-front ws c.copy_from_slice.new.self T 4 (c.copy_from_slice.ensures.after ∙ c.time_words.ensures) refl (omega (arith, size)) in
    let table = c.put_entries.ensures ∙ (λ i. sets (time i) 4 ((ap (words_of_all entry_words) c.as_flattened.ensures.value ∙ table-joined u.rows rows) i))
    ∙ sets-next ws T W 4 refl in
    let second : List ℕ = sets ws 0 (T ++ W) in
    let counters = ap (λ (l : List ℕ). put_mid 220 4 l c.copy_from_slice-2.new.self) table
    ∙ copied second c.copy_from_slice-2.new.self M 220 4 (c.copy_from_slice-2.ensures.after ∙ c.four_words.ensures.0) c.four_words.ensures.1
    (omega (arith, size, length-sets ws 0 (T ++ W))) ∙ sets-next ws (T ++ W) M 220 at-220 in
    let third : List ℕ = sets ws 0 (T ++ W ++ M) in
    ap (λ (l : List ℕ). put_mid 224 4 l c.copy_from_slice-3.new.self) counters
    ∙ copied third c.copy_from_slice-3.new.self N 224 4 (c.copy_from_slice-3.ensures.after ∙ c.four_words-2.ensures.0) c.four_words-2.ensures.1
    (omega (arith, size, length-sets ws 0 (T ++ W ++ M)))
    ∙ sets-next ws (T ++ W ++ M) N 224 at-224 ∙ sets-whole ws (T ++ W ++ M ++ N) (whole ∙ omega (arith, size))
