-- A turn over what was held and what the read has brought. Assumes nothing.
use native.Mathlib.Omega.{arith}
use Rattle.slotrun.proofs.TurnedLaws.{read-turn}
use Rattle.slotrun.proofs.Program.turn.Goals as goal

pub returns : goal.returns
returns g c =
    let e = c.read_more-all.ensures in
    read-turn c.args.self.now c.read_more-all.new.input c.read_more-all.result e.0 (omega (arith, e.1, c.read_more-all.auto.input)) e.2 c.run.ensures
