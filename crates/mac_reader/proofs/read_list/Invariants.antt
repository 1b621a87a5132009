-- What is listed so far, and what is left to read, give the whole.
use Prim.Native.Nat.{◌-◌}
use lib.ListN.{length}
use Rattle.bitbuffer.specs.Bits.{bits_of}
use Rattle.mac_reader.specs.Reader.{most_pdus}
use Rattle.mac_reader.proofs.ReadLoop.{Got}
use Rattle.mac_reader.proofs.read_list.Given as goal

abbrev pub invariant-loop-at : goal.invariant-loop-at
invariant-loop-at l = Got l.w (bits_of l.s) l.list.items l.at

abbrev pub decreases-loop-at : goal.decreases-loop-at
decreases-loop-at l = most_pdus - length l.list.items
