-- After p turns the first p cells are those that they are to be.
use mathlib.Core.Path.{◌∙◌}
use Prim.Native.Nat.{◌<◌}
use native.Mathlib.Omega.{arith}
use lib.ListN.{length}
use Rattle.dl_build.proofs.ArrangeLaws.{stay-turn, move-turn, blank_turn}
use Rattle.dl_build.proofs.close_up.Goals.{then-f-lt-PER_TIMESLOT, else-f-lt-PER_TIMESLOT}
use Rattle.dl_build.proofs.close_up.Goals as goal

pub loop-p-preserved-then-f-p : goal.loop-p-preserved-then-f-p
loop-p-preserved-then-f-p c =
    let a = c.args in
    let l = c.loop-p in
    stay-turn a.cells.now a.from.now c.requires.0 c.requires.1 l.cells l.p (omega (arith, c.loop-p-test.true)) l.invariant c.if-f-p.true

pub loop-p-preserved : goal.loop-p-preserved
loop-p-preserved c =
    let a = c.args in
    let l = c.loop-p in
    let less : l.p < length a.from.now = omega (arith, c.loop-p-test.true) in
    elim c.if-f-lt-PER_TIMESLOT.branch [
      | then-f-lt-PER_TIMESLOT w ↦
          w.cells-is ∙ w.move_cell.ensures
          ∙ move-turn a.cells.now a.from.now c.requires.0 c.requires.1 l.cells l.p less l.invariant (c.requires.2 l.p less) w.if-f-lt-PER_TIMESLOT.true
      | else-f-lt-PER_TIMESLOT w ↦
          w.cells-is ∙ w.clear_cell.ensures
          ∙ blank_turn a.cells.now a.from.now c.requires.0 c.requires.1 l.cells l.p less l.invariant w.if-f-lt-PER_TIMESLOT.false
    ]
