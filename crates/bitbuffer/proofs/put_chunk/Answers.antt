-- `put_chunk` meets its contract, by `written-place`. Assumes nothing.
use Rattle.bitbuffer.proofs.Chunks.{written-place}
use Rattle.bitbuffer.proofs.put_chunk.Goals as goal

pub returns : goal.returns
returns c = written-place c.args.s.now c.args.at c.args.n c.args.v c.with_bits.result c.requires.0 c.requires.1 c.with_bits.ensures
