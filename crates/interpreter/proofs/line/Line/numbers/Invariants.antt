-- The fields before the next are in the line. Assumes nothing.
use mathlib.Core.Path.{◌≡◌}
use mathlib.Core.List.{◌++◌}
use Prim.Native.Nat.{◌+◌, ◌*◌, ◌≤◌}
use lib.ListN.{length, take}
use Rattle.interpreter.specs.Text.{numbers}
use Rattle.interpreter.proofs.line.Line.numbers.Given as goal

abbrev pub invariant-loop-n : goal.invariant-loop-n
invariant-loop-n l =
    (l.self ≡ l.initial.self ++ numbers (take l.n-index l.ns)) × (length l.self ≤ length l.initial.self + 6 * l.n-index)
