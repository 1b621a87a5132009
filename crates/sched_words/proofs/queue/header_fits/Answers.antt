-- The tests are those of the words, one by one. Assumes nothing.
use Rattle.std.proofs.Common.{◌&&◌, List, ℕ, drop, ap, ◌∙◌, rules, ◌≡◌, length, arith}
use Rattle.sched_words.specs.Words.{alloc_words, alloc_from}
use Rattle.sched_words.specs.Front.{begins}
use Rattle.sched_words.proofs.FitRecord.{header-fits}
use Rattle.sched_words.proofs.FrontLaws.{part-lent, alloc-begins}
use Rattle.sched_words.proofs.queue.header_fits.Goals as goal

pub returns : goal.returns
returns c =
    let ws = c.args.words.now in
    let size : length ws ≡ 23 = search rules in
    (λ i. c.fits.ensures i && c.fits-2.ensures i && c.fits-3.ensures i && c.fits-4.ensures i && c.fits-5.ensures i
    && c.fits-6.ensures i && c.fits-7.ensures i && c.fits-8.ensures i && c.alloc_fits.result)
    ∙ header-fits ws c.alloc_fits.result (search rules)
    (c.alloc_fits.ensures ∙ ap (λ (l : List ℕ). begins (alloc_words (alloc_from l)) l) (part-lent 10 12 ws 11 (omega (arith, size)) _ _ c.unwrap.ensures c.first_chunk.ensures.cases)
    ∙ alloc-begins (drop 11 ws))
