-- The loop's invariant: what is printed, and what the rest of the input still gives. Assumes nothing.
use mathlib.Core.Path.{◌≡◌, ap, ◌∙◌}
use native.Mathlib.Omega.{arith}
use borrow.Author.Rules.{rules}
use lib.ListN.{length}
use Rattle.interpreter.proofs.RunLaws.{running-start, running-turn, shorter-rest, run-done}
use Rattle.interpreter.proofs.session.Session.run.Goals as goal

pub loop-command-init : goal.loop-command-init
loop-command-init c = running-start _ _ _

pub loop-command-smaller : goal.loop-command-smaller
loop-command-smaller c = shorter-rest c.loop-command.invariant (c.in-Some.command, c.in-Some.operands.now) c.in-Some.ensures _ c.operand_count.ensures.0

pub loop-command-preserved : goal.loop-command-preserved
loop-command-preserved c =
    let text = c.as_slice.ensures.octets in
    let size : length c.as_slice.result.now ≡ length c.execute-line.result = ap length text in
    running-turn c.loop-command.invariant (c.in-Some.command, c.in-Some.operands.now) c.in-Some.ensures _ c.execute-line.result _ _ _ _ c.execute-line.ensures
    (omega (arith, size, c.as_slice.ensures.most)) (c.copy_from_slice.ensures.after ∙ c.as_slice-in-Some.ensures.octets) (omega (arith, size))
    c.operand_count.ensures.0 (omega (arith, size)) (search rules)

pub returns : goal.returns
returns c = run-done c.loop-command.invariant c.in_default.ensures
