-- The loop's invariant: what is printed, and what the rest of the input still gives. Assumes nothing.
use lib.ListN.{length}
use Rattle.interpreter.proofs.RunLaws.{Running}
use Rattle.interpreter.proofs.session.Session.run.Given as goal

abbrev pub invariant-loop-command : goal.invariant-loop-command
invariant-loop-command l = Running l.input l.initial.self l.self l.initial.out l.out l.rest l.count

abbrev pub decreases-loop-command : goal.decreases-loop-command
decreases-loop-command l = length l.rest
