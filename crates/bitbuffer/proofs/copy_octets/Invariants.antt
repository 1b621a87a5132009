-- `copy_octets` meets its contract: after i turns the first i octets are copied. Assumes nothing.
use mathlib.Core.Path.{◌≡◌}
use Prim.Native.Nat.{◌-◌, ◌*◌, ◌≤◌}
use lib.ListN.{length}
use Rattle.bitbuffer.specs.Bits.{bits_of, written, part}
use Rattle.bitbuffer.proofs.copy_octets.Given as goal

abbrev pub invariant-loop-i : goal.invariant-loop-i
invariant-loop-i l =
    (l.i ≤ l.n) × (length l.dst ≡ length l.initial.dst) × (bits_of l.dst ≡ written (bits_of l.initial.dst) (8 * l.at) (part (bits_of l.src) l.from (8 * l.i)))

abbrev pub decreases-loop-i : goal.decreases-loop-i
decreases-loop-i l = l.n - l.i
