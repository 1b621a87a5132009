-- The loop's invariant: the lines counted, and those that the rest of the input still gives. Assumes nothing.
use mathlib.Core.Path.{sym, ◌∙◌}
use native.Mathlib.Omega.{arith}
use Rattle.as_document_01.proofs.LineLaws.{running-start, running-found, running-next, running-end, shorter-rest, one-more}
use Rattle.as_document_01.proofs.lines_as_document_01.Goals as goal

pub loop-command-init : goal.loop-command-init
loop-command-init c = running-start _ _ c.start-session.ensures

pub returns-then-arises_at : goal.returns-then-arises_at
returns-then-arises_at c =
    running-found c.loop-command.invariant (c.in-Some.command, c.in-Some.operands.now) c.in-Some.ensures (sym c.arises_at.ensures ∙ c.if-arises_at.true)

pub overflow_add-count : goal.overflow_add-count
overflow_add-count c =
    let more = one-more c.loop-command.invariant (c.in-Some.command, c.in-Some.operands.now) c.in-Some.ensures in
    omega arith

pub loop-command-smaller : goal.loop-command-smaller
loop-command-smaller c =
    shorter-rest c.loop-command.invariant (c.in-Some.command, c.in-Some.operands.now) c.in-Some.ensures _ c.operand_count.ensures.0

pub loop-command-preserved : goal.loop-command-preserved
loop-command-preserved c =
    running-next c.loop-command.invariant (c.in-Some.command, c.in-Some.operands.now) c.in-Some.ensures _ _ _ (sym c.arises_at.ensures ∙ c.if-arises_at.false)
    c.execute-line.ensures c.operand_count.ensures.0

pub returns : goal.returns
returns c = running-end c.loop-command.invariant c.in_default.ensures
