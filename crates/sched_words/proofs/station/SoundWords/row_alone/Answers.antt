-- Field by field, as the words of a sound station stand for them. Assumes nothing.
use Rattle.std.proofs.Common.{◌≡◌, ◌+◌, ◌-◌, ◌*◌, drop, replicate, ap, ◌∙◌, length, arith, rules}
use Rattle.sizes.specs.Sizes.{timeslots}
use Rattle.uplink.specs.Uplink.{uplink_of}
use Rattle.sched_words.specs.Words.{row_from, four_from}
use Rattle.sched_words.proofs.FrontLaws.{part-lent, row-front, four-front}
use Rattle.sched_words.proofs.StationWords.{row_read, counters-read}
use Rattle.sched_words.proofs.station.SoundWords.row_alone.Goals as goal

pub returns : goal.returns
returns c =
    let ws = c.args.self.words.now in
    let size : length ws ≡ 228 = search rules in
    let sound = c.args.self.sound in
    let row = c.args.row in
    let one = c.row_from-one.ensures ∙ ap row_from (part-lent 54 (228 - (4 + 54 * row)) ws (4 + 54 * row) (omega (arith, size)) _ _ c.unwrap.ensures c.first_chunk.ensures.cases)
    ∙ row-front (drop (4 + 54 * row) ws) ∙ row_read ws sound row c.requires in
    let counters = c.four_from.ensures ∙ ap four_from (part-lent 4 8 ws 220 (omega (arith, size)) _ _ c.unwrap-2.ensures c.first_chunk-2.ensures.cases)
    ∙ four-front (drop 220 ws) ∙ counters-read ws sound in
    λ i. uplink_of (c.time.ensures i) (replicate timeslots (one i)) (counters i)
