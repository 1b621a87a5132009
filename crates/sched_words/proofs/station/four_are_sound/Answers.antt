-- The four tests are those of the words, one by one. Assumes nothing.
use Rattle.std.proofs.Common.{◌&&◌, ◌∙◌, rules}
use Rattle.sched_words.proofs.SoundStation.{four-sound}
use Rattle.sched_words.proofs.station.four_are_sound.Goals as goal

pub returns : goal.returns
returns g c =
    λ p d. (λ i. d _ _ c.sound.ensures i && d _ _ c.sound-2.ensures i && d _ _ c.sound-3.ensures i && d _ _ c.sound-4.ensures i)
    ∙ four-sound p c.args.words.now (search rules)
