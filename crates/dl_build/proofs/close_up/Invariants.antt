-- After p turns the first p cells are those that they are to be.
use mathlib.Core.Path.{◌≡◌}
use Prim.Native.Nat.{◌*◌}
use lib.Seq.{paste}
use Rattle.sizes.specs.Sizes.{cell_octets}
use Rattle.dl_build.specs.Moved.{arranged}
use Rattle.dl_build.proofs.close_up.Given as goal

abbrev pub invariant-loop-p : goal.invariant-loop-p
invariant-loop-p l = l.cells ≡ paste l.initial.cells 0 (arranged l.initial.cells l.from) (cell_octets * l.p)
