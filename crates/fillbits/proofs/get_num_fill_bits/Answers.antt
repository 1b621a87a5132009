-- `get_num_fill_bits` meets its contract: refused past the buffer's end, else the fill bits found. Assumes nothing.
use native.Mathlib.Omega.{arith}
use Rattle.fillbits.proofs.Laws.{refused-past-end, bits-found}
use Rattle.fillbits.proofs.get_num_fill_bits.Goals as goal

pub returns-then-buf-div_ceil : goal.returns-then-buf-div_ceil
returns-then-buf-div_ceil c = refused-past-end _ _ _ (omega arith)

pub returns : goal.returns
returns c = bits-found _ _ _ _ (omega arith) c.fill_bits_at_end.ensures
