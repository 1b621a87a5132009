-- `copy_chunks` meets its contract: the bits that are given are those of the source. Assumes nothing.
use borrow.Author.Rules.{rules}
use native.Mathlib.Omega.{arith}
use Rattle.bitbuffer.specs.Bits.{bits_of, part}
use Rattle.bitbuffer.proofs.Laws.{length_part, length-bits_of}
use Rattle.bitbuffer.proofs.Chunks.{part-piece}
use Rattle.bitbuffer.proofs.copy_chunks.Goals as goal

pub returns : goal.returns
returns c =
    c.write_chunks.ensures (part (bits_of c.args.src.now) c.args.from c.args.n)
    (record {
      size = length_part _ _ _ (rw length-bits_of (omega arith));
      bits = λ left k v h hk called. part-piece (bits_of c.args.src.now) c.args.from c.args.n left k v h (search rules);
    })
