-- The loop's invariant: the lines counted, and those that the rest of the input still gives. Assumes nothing.
use lib.ListN.{length}
use Rattle.as_document_01.proofs.LineLaws.{Running}
use Rattle.as_document_01.proofs.lines_as_document_01.Given as goal

abbrev pub invariant-loop-command : goal.invariant-loop-command
invariant-loop-command l = Running l.input l.session l.rest l.count

abbrev pub decreases-loop-command : goal.decreases-loop-command
decreases-loop-command l = length l.rest
