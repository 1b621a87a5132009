-- The entry stands in the row of the timeslot, in the column of the frame. Assumes nothing.
use Rattle.std.proofs.Common.{◌≡◌, ℕ, ◌+◌, ◌-◌, ◌*◌, drop, ap, ◌∙◌, arith, length, rules}
use Rattle.sched_words.specs.Words.{entry_from}
use Rattle.sched_words.proofs.FrontLaws.{part-lent, entry-front}
use Rattle.sched_words.proofs.StationWords.{entry-words}
use Rattle.sched_words.proofs.station.SoundWords.entry.Goals as goal

pub returns : goal.returns
returns c =
    let ws = c.args.self.words.now in
    let size : length ws ≡ 228 = search rules in
    let ts = c.args.ts in
    let at : ℕ = 4 + 54 * c.row.result + 3 * c.column.result in
    let place : at ≡ 4 + (54 * (ts.t - 1) + 3 * (ts.f - 1)) = omega (arith, c.row.ensures.0, c.column.ensures.0) in
    c.entry_from.ensures ∙ ap entry_from (part-lent 3 (228 - at) ws at (omega (arith, size)) _ _ c.unwrap.ensures c.first_chunk.ensures.cases) ∙ entry-front (drop at ws)
    ∙ ap (λ (n : ℕ). entry_from (drop n ws)) place ∙ entry-words ws c.args.self.sound ts c.requires
