-- `read_bits` meets its contract: the number read so far and the bits left give the number read in all. Assumes nothing.
use mathlib.Core.Path.{◌≡◌}
use Prim.Native.Nat.{◌+◌, ◌*◌, ◌^◌}
use Rattle.bitbuffer.specs.Bits.{bits_value, bits_of, part}
use Rattle.bitbuffer.proofs.read_bits.Given as goal

abbrev pub invariant-loop-left : goal.invariant-loop-left
invariant-loop-left l =
    (l.pos + l.left ≡ l.at + l.width)
    × (l.sum * 2 ^ l.left + bits_value (part (bits_of l.s) l.pos l.left) ≡ bits_value (part (bits_of l.s) l.at l.width))

abbrev pub decreases-loop-left : goal.decreases-loop-left
decreases-loop-left l = l.left
