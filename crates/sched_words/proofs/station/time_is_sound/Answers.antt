-- The tests are those of the words, one by one. Assumes nothing.
use Rattle.std.proofs.Common.{◌&&◌, Bool, ap, ◌∙◌, rules}
use Rattle.tdma_time.specs.Time.{valid}
use Rattle.sched_words.specs.Words.{time_from}
use Rattle.sched_words.proofs.FitStation.{time-fits}
use Rattle.sched_words.proofs.station.time_is_sound.Goals as goal

pub returns : goal.returns
returns c =
    let ws = c.args.words.now in
    (λ i. c.fits.ensures i && c.fits-2.ensures i && c.fits-3.ensures i && c.fits-4.ensures i && (c.is_valid.ensures ∙ ap valid c.time_from.ensures) i)
    ∙ ap (λ (b : Bool). b && valid (time_from ws)) (time-fits ws (search rules))
