-- `with_bits` meets its contract, by `octet-written`, and by `octet-whole` for a whole octet. Assumes nothing.
use Rattle.bitbuffer.proofs.Chunks.{octet-written, octet-whole}
use Rattle.bitbuffer.proofs.with_bits.Goals as goal

pub returns-then-n-eq8 : goal.returns-then-n-eq8
returns-then-n-eq8 c = let a = c.args in octet-whole a.x a.k a.n a.v c.if-n-eq8.true c.requires.0

pub returns : goal.returns
returns c = rw c.from-old.ensures (octet-written c.args.x c.args.k c.args.n c.args.v c.ranges.x.fits c.requires.0 c.requires.1)
