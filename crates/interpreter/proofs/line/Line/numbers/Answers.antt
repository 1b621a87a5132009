-- The fields before the next are in the line. Assumes nothing.
use mathlib.Core.List.{append-nil}
use mathlib.Core.Path.{sym, ◌∙◌}
use native.Mathlib.Omega.{arith}
use Rattle.interpreter.specs.Text.{numbers}
use Rattle.interpreter.proofs.TextLaws.{numbers_more}
use Rattle.interpreter.proofs.line.Line.numbers.Goals as goal

pub loop-n-init : goal.loop-n-init
unfolding numbers
loop-n-init c = (sym (append-nil _), omega arith)

pub loop-n-preserved : goal.loop-n-preserved
loop-n-preserved c = (c.number.ensures.text ∙ rw c.loop-n.invariant.0 (numbers_more c.args.self.now _ c.loop-n.n-index c.loop-n-test.true), omega arith)
