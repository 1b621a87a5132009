-- The header, and what stands behind it.
use Rattle.bitbuffer.proofs.Laws.{then}
use native.Mathlib.Omega.{arith}
use Rattle.bs_frag.proofs.put_resource.Goals as goal

pub returns : goal.returns
returns c = (omega (arith, c.put_resource-next.ensures.ends), then c.put_resource-next.ensures c.put.ensures.1)
