-- `write_bits` meets its contract: the bits that are given are those of the value. Assumes nothing.
use borrow.Author.Rules.{rules}
use Rattle.bitbuffer.proofs.Laws.{length-value_bits}
use Rattle.bitbuffer.proofs.Chunks.{number-piece}
use Rattle.bitbuffer.specs.Bits.{value_bits}
use Rattle.bitbuffer.proofs.write_bits.Goals as goal

pub returns : goal.returns
returns c =
    c.write_chunks.ensures (value_bits c.args.width c.args.value)
    (record { size = length-value_bits _ _; bits = λ left k v h hk called. number-piece _ _ left k v h hk (search rules) })
