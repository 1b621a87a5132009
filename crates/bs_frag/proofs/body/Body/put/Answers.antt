-- The bits copied, and the fill behind them.
use Rattle.bs_frag.proofs.Laws.{wrote-part}
use Rattle.bitbuffer.proofs.Laws.{then, length-bits_of}
use native.Mathlib.Omega.{arith}
use Rattle.bs_frag.proofs.body.Body.put.Goals as goal

pub returns : goal.returns
returns c =
    let a = c.args in
    let b = a.self.inside in
    (omega arith, then (wrote-part a.at _ a.self.from a.self.n (rw length-bits_of (omega (arith, b))) c.copy_bits.ensures) c.write.ensures.1)
