-- After p turns the first p cells are written.
use mathlib.Core.Path.{◌≡◌, ap, ◌∙◌}
use Prim.Native.Nat.{◌*◌, ◌≤◌}
use native.Mathlib.Omega.{arith}
use borrow.Author.Rules.{rules}
use lib.ListN.{length}
use lib.Seq.{paste}
use Rattle.sizes.specs.Sizes.{per_timeslot, cell_octets, timeslot_octets}
use Rattle.dl_build.specs.Moved.{arranged}
use Rattle.dl_build.proofs.ArrangeLaws.{copy-turn, zero_turn, all-written}
use Rattle.dl_build.proofs.write_cells.Goals.{then-f-lt-PER_TIMESLOT, else-f-lt-PER_TIMESLOT}
use Rattle.dl_build.proofs.write_cells.Goals as goal

pub loop-p-preserved : goal.loop-p-preserved
loop-p-preserved c =
    let a = c.args in
    let l = c.loop-p in
    let size : length a.others.now ≡ timeslot_octets = search rules in
    let full : length a.from ≡ per_timeslot = search rules in
    let few : length a.from ≤ per_timeslot = omega arith in
    elim c.if-f-lt-PER_TIMESLOT.branch [
      | then-f-lt-PER_TIMESLOT w ↦
          w.cells-is ∙ w.copy_cell.ensures
          ∙ copy-turn a.cells.now a.others.now a.from c.requires size few l.cells l.p (omega arith) l.invariant w.if-f-lt-PER_TIMESLOT.true
      | else-f-lt-PER_TIMESLOT w ↦
          w.cells-is ∙ w.clear_cell.ensures
          ∙ zero_turn a.cells.now a.others.now a.from c.requires size few l.cells l.p (omega arith) l.invariant w.if-f-lt-PER_TIMESLOT.false
    ]

pub returns : goal.returns
returns c =
    let a = c.args in
    let size : length a.others.now ≡ timeslot_octets = search rules in
    let full : length a.from ≡ per_timeslot = search rules in
    let e : cell_octets * c.loop-p.p ≡ timeslot_octets = omega arith in
    c.loop-p.invariant ∙ ap (paste a.cells.now 0 (arranged a.others.now a.from)) e ∙ all-written a.cells.now a.others.now a.from c.requires size full
