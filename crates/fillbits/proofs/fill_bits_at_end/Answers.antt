-- `fill_bits_at_end` meets its contract, by a step of one bit nearer the front. Assumes nothing.
use mathlib.Core.Path.{sym, ◌∙◌}
use Prim.Native.Nat.{◌-◌}
use native.Mathlib.Omega.{arith}
use borrow.Author.Tests.{eqb-true, eqb-false}
use Rattle.bitbuffer.proofs.Laws.{length-bits_of, bit-lt}
use Rattle.fillbits.proofs.Laws.{before-all, before-none, before-set, before-clear}
use Rattle.fillbits.proofs.fill_bits_at_end.Goals as goal

pub loop-index-init : goal.loop-index-init
loop-index-init c = sym (before-all _ _ _)

pub returns-then-bit_at : goal.returns-then-bit_at
returns-then-bit_at c =
    before-set _ _ _ _ (omega arith) (omega arith) (rw length-bits_of (omega arith)) (eqb-true _ _ (sym c.bit_at.ensures ∙ c.if-bit_at.true))
    ∙ sym c.loop-index.invariant

pub loop-index-preserved : goal.loop-index-preserved
loop-index-preserved c =
    c.loop-index.invariant
    ∙ before-clear _ _ _ _ (omega arith) (omega arith) (rw length-bits_of (omega arith))
    (omega (arith, eqb-false _ _ (sym c.bit_at.ensures ∙ c.if-bit_at.false), bit-lt c.args.buf.now (c.loop-index.index - 1)))

pub returns : goal.returns
returns c = before-none _ _ _ _ (omega arith) ∙ sym c.loop-index.invariant
