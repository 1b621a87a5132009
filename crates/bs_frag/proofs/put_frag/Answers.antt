-- The header with the fill bit of its fill, and what stands behind it.
use Rattle.bitbuffer.proofs.Laws.{then}
use native.Mathlib.Omega.{arith}
use Rattle.bs_frag.proofs.put_frag.Goals as goal

pub returns : goal.returns
returns c = (omega arith, rw (← c.fill_flag.ensures.0) (then c.put_frag-next.ensures.1 c.put.ensures.1))
