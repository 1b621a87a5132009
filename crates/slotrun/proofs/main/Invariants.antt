-- The loop's invariant: the session and the octets held are those that the turns over some parts come to, and there is room to read more.
-- Assumes nothing.
use Prim.Native.Nat.{◌≤◌}
use lib.ListN.{take}
use Rattle.slotrun.specs.Turned.{Reached}
use Rattle.slotrun.proofs.main.Given as goal

abbrev pub invariant-loop : goal.invariant-loop
invariant-loop l = (l.program.held ≤ 33) × Reached l.program.session (take l.program.held l.program.input)
