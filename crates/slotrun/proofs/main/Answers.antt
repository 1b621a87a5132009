-- The loop's invariant: the session and the octets held are those that the turns over some parts come to, and there is room to read more.
-- Assumes nothing.
use native.Mathlib.Omega.{arith}
use Rattle.slotrun.proofs.TurnedLaws.{reached-start, reached-next, room-to-read}
use Rattle.slotrun.proofs.main.Goals as goal

pub loop-init : goal.loop-init
loop-init c =
    let s = c.start-program.ensures in
    (omega (arith, s.held), rw s.held (reached-start _ s.session))

pub loop-preserved : goal.loop-preserved
loop-preserved c =
    let t = c.turn.ensures in
    (room-to-read t c.if-not-turn.false, reached-next t c.loop.invariant.1)
