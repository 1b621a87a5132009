-- The last words, as those of a sound station stand for them. Assumes nothing.
use Rattle.std.proofs.Common.{◌≡◌, length, ap, ◌∙◌, rules}
use Rattle.sched_words.specs.Words.{four_from}
use Rattle.sched_words.proofs.FrontLaws.{last-lent}
use Rattle.sched_words.proofs.StationWords.{counts-read}
use Rattle.sched_words.proofs.station.SoundWords.queued.Goals as goal

pub returns : goal.returns
returns c =
    let ws = c.args.self.words.now in
    let size : length ws ≡ 228 = search rules in
    c.four_from.ensures ∙ ap four_from (last-lent ws 224 size _ _ c.unwrap.ensures c.last_chunk.ensures.cases) ∙ counts-read ws c.args.self.sound
