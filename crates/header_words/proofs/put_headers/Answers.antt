-- What is left to store still gives the words that all n give. Assumes nothing.
use Rattle.std.proofs.Common.{ℕ, ◌+◌, ◌-◌, ◌*◌, length, sym, ap, ◌∙◌, arith}
use lib.Seq.{length-sets}
use Rattle.sched_words.proofs.WordLaws.{copied}
use Rattle.header_words.proofs.HeaderLaws.{placed-size, headers-next, headers-done, listed-words}
use Rattle.header_words.proofs.put_headers.Goals as goal

pub loop-k-preserved : goal.loop-k-preserved
loop-k-preserved c =
    let ps = c.args.headers.now in
    let k : ℕ = c.loop-k.k in
    let p : ℕ = 24 * k in
    let stored = copied c.loop-k.words c.copy_from_slice.new.self c.placed_words.result p (p + 24 - p) c.copy_from_slice.ensures.after
    (ap length c.placed_words.ensures ∙ placed-size _ ∙ omega arith) (omega (arith, c.requires.0, c.loop-k.invariant.0)) in (
      ap length stored ∙ length-sets c.loop-k.words p c.placed_words.result ∙ c.loop-k.invariant.0,
      headers-next ps k c.loop-k-test.true c.loop-k.words _ _ _ stored c.placed_words.ensures ∙ c.loop-k.invariant.1,
    )

pub returns : goal.returns
returns c =
    let ps = c.args.headers.now in
    sym (headers-done ps c.loop-k.words _ c.loop-k.k c.loop-k-test.false) ∙ c.loop-k.invariant.1 ∙ listed-words ps c.requires.0
