-- `bit_at` meets its contract, by `get_or-place`. Assumes nothing.
use mathlib.Core.Path.{sym, ap}
use Prim.Native.Nat.{ℕ}
use lib.Dec.{eqb}
use Rattle.bitbuffer.proofs.Laws.{get_or-place}
use Rattle.bitbuffer.proofs.bit_at.Goals as goal

pub returns : goal.returns
returns c = ap (λ (b : ℕ). eqb b 1) (sym (get_or-place c.args.s.now c.args.at c.requires))
