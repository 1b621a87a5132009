-- No channel allocation is all words 0; one has 1, then its fields. Assumes nothing.
use Rattle.std.proofs.Common.{◌&&◌, eqb, get_or, ◌∙◌, rules}
use Rattle.sched_words.proofs.FitRecord.{no-alloc-fits, alloc-fits}
use Rattle.sched_words.proofs.queue.alloc_fits.Goals as goal

pub returns-then-words-eq0 : goal.returns-then-words-eq0
returns-then-words-eq0 c = c.all_zero.ensures ∙ no-alloc-fits c.args.words.now (search rules) c.if-words-eq0.true

pub returns : goal.returns
returns c =
    (λ i. eqb (get_or c.args.words.now 0 0) 1 && c.fits.ensures i && c.fits-2.ensures i && c.fits-3.ensures i && c.fits-4.ensures i && c.fits-5.ensures i
    && c.fits-6.ensures i && c.fits-7.ensures i && c.fits-8.ensures i && c.fits-9.ensures i)
    ∙ alloc-fits c.args.words.now (search rules) c.if-words-eq0.false
