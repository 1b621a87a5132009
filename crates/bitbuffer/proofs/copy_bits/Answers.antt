-- `copy_bits` meets its contract, by those of its three parts. Assumes nothing.
use native.Mathlib.Omega.{arith}
use Rattle.bitbuffer.specs.Bits.{bits_of}
use Rattle.bitbuffer.proofs.Laws.{length-bits_of}
use Rattle.bitbuffer.proofs.Chunks.{written-three}
use Rattle.bitbuffer.proofs.copy_bits.Goals as goal

pub returns : goal.returns
returns c =
    let a = c.args in
    written-three _ _ _ (bits_of a.dst.now) a.at (bits_of a.src.now) a.from _ _ _ a.n (rw length-bits_of (omega arith)) (omega arith)
    (omega arith)
    c.copy_chunks-2.ensures c.copy_octets.ensures c.copy_chunks-3.ensures
