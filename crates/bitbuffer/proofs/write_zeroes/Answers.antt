-- `write_zeroes` meets its contract: the bits that are given are clear. Assumes nothing.
use borrow.Author.Rules.{rules}
use lib.ListN.{replicate, length-replicate}
use Rattle.bitbuffer.proofs.Chunks.{clear-piece}
use Rattle.bitbuffer.proofs.write_zeroes.Goals as goal

pub returns : goal.returns
returns c =
    c.write_chunks.ensures (replicate c.args.n 0)
    (record { size = length-replicate _ _; bits = λ left k v h hk called. clear-piece _ left k v h (search rules) })
