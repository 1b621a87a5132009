-- `fill_bits_at_end`: what is looked for stands in the bits up to `index`, and those from there up to `end` are clear. Assumes nothing.
use mathlib.Core.Path.{◌≡◌}
use mathlib.Core.List.{◌++◌}
use Prim.Native.Nat.{◌-◌}
use lib.ListN.{replicate}
use Rattle.bitbuffer.specs.Bits.{bits_of, part}
use Rattle.fillbits.specs.Fill.{from_last_set, fill_at_end}
use Rattle.fillbits.proofs.fill_bits_at_end.Given as goal

abbrev pub invariant-loop-index : goal.invariant-loop-index
invariant-loop-index l =
    fill_at_end (bits_of l.buf) l.start l.end ≡ from_last_set (part (bits_of l.buf) l.start (l.index - l.start) ++ replicate (l.end - l.index) 0)
