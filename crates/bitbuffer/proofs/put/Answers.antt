-- `put` meets its contract: what `write_bits` ensures, and the next position. Assumes nothing.
use mathlib.Core.Path.{refl}
use Rattle.bitbuffer.proofs.Laws.{wrote_value}
use Rattle.bitbuffer.proofs.put.Goals as goal

pub returns : goal.returns
returns c = (refl, wrote_value _ _ refl c.write_bits.ensures)
