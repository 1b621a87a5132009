-- The tests are those of the words, one by one. Assumes nothing.
use Rattle.std.proofs.Common.{◌&&◌, ◌∙◌, rules}
use Rattle.sched_words.proofs.FitRecord.{record-fits}
use Rattle.sched_words.proofs.queue.record_fits.Goals as goal

pub returns : goal.returns
returns c =
    (λ i. c.fits.ensures i && c.fits-2.ensures i && c.header_fits.result && c.fits-3.ensures i && c.fits-4.ensures i)
    ∙ record-fits c.args.words.now c.header_fits.result (search rules) c.header_fits.ensures
