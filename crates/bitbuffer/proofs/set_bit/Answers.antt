-- `set_bit` meets its contract, by that of `put_chunk`. Assumes nothing.
use mathlib.Core.Path.{◌≡◌, refl, ap, ◌∙◌}
use mathlib.Core.Bool.{Bool, true, false, cond}
use mir.Val.{bool_byte}
use Prim.Native.Nat.{ℕ, ◌<◌}
use native.Mathlib.Omega.{arith}
use Rattle.bitbuffer.specs.Bits.{bits_of, value_bits, written}
use Rattle.bitbuffer.proofs.Chunks.{written_one}
use Rattle.bitbuffer.proofs.set_bit.Goals as goal

-- a bit as a number
number : (b : Bool) → (bool_byte b ≡ cond b 1 0) × (cond b 1 0 < 2)
number true = (refl, omega arith)
number false = (refl, omega arith)

pub returns : goal.returns
returns c =
    let a = c.args in
    let bit = number a.bit in
    c.put_chunk.ensures ∙ ap (λ (v : ℕ). written (bits_of a.s.now) a.at (value_bits 1 v)) (c.from.ensures ∙ bit.0)
    ∙ written_one _ a.at (cond a.bit 1 0) bit.1
