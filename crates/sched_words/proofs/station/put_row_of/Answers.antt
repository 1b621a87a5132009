-- The words of the counters, of the numbers queued and of the row. Assumes nothing.
use Rattle.std.proofs.Common.{◌≡◌, ℕ, ◌+◌, ◌*◌, List, [], length, get_or, ap, ◌∙◌, arith, rules}
use borrow.Rule.Slice.PartMut.{put_mid}
use lib.Seq.{sets, length-sets}
use Rattle.sched_words.specs.Words.{words_of_row}
use Rattle.sched_words.proofs.WordLaws.{copied, row-size}
use Rattle.sched_words.proofs.StationWords.{row_words}
use Rattle.sched_words.proofs.station.put_row_of.Goals as goal

pub returns : goal.returns
returns c =
    let ws = c.args.words.now in
    let size : length ws ≡ 228 = search rules in
    let row = c.args.row in
    let u = c.args.uplink.now in
    let ms = u.next_usage_marker in
    let ns = c.args.queued in
    let counters = copied ws c.copy_from_slice.new.self ms 220 4 (c.copy_from_slice.ensures.after ∙ c.four_words.ensures.0) c.four_words.ensures.1
    (omega (arith, size)) in
    let first : List ℕ = sets ws 220 ms in
    let counts = copied first c.copy_from_slice-2.new.self ns 224 4 (c.copy_from_slice-2.ensures.after ∙ c.four_words-2.ensures.0) c.four_words-2.ensures.1
    (omega (arith, size, length-sets ws 220 ms)) in
    c.put_entries.ensures
    ∙ ap (λ (l : List ℕ). sets l (4 + 54 * row) (words_of_row (get_or u.rows row [])))
    (ap (λ (l : List ℕ). put_mid 224 4 l c.copy_from_slice-2.new.self) counters ∙ counts)
    ∙ row_words ws c.requires.0 row c.requires.1 (get_or u.rows row []) (row-size _ (search rules)) ms ns c.four_words.ensures.1 c.four_words-2.ensures.1
