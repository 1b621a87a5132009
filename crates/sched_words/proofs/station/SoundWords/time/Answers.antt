-- The first words, as those of a sound station stand for them. Assumes nothing.
use Rattle.std.proofs.Common.{ap, ◌∙◌}
use Rattle.sched_words.specs.Words.{time_from}
use Rattle.sched_words.proofs.FrontLaws.{first-lent, time-front}
use Rattle.sched_words.proofs.StationWords.{time-read}
use Rattle.sched_words.proofs.station.SoundWords.time.Goals as goal

pub returns : goal.returns
returns c =
    let ws = c.args.self.words.now in
    c.time_from.ensures ∙ ap time_from (first-lent _ _ _ _ c.unwrap.ensures c.first_chunk.ensures.cases) ∙ time-front ws ∙ time-read ws c.args.self.sound
