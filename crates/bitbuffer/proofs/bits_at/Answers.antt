-- `bits_at` meets its contract, by `pair-part`. Assumes nothing.
use mathlib.Core.Path.{◌≡◌, ◌∙◌}
use Prim.Native.Nat.{◌+◌, ◌-◌, ◌*◌, ◌/◌}
use lib.ListN.{get_or}
use native.Mathlib.Omega.{arith}
use native.Mathlib.Nat.{mod-lt}
use lib.Pow.{pow_pos}
use Rattle.bitbuffer.proofs.Laws.{one_shl, value_bits-mod}
use Rattle.bitbuffer.proofs.Chunks.{pair-part}
use Rattle.bitbuffer.proofs.bits_at.Goals as goal

pub returns : goal.returns
returns c =
    let a = c.args in
    let one = one_shl {k = a.n} 64 (omega arith) in
    let pair : c.from-pair.result ≡ get_or a.s.now (a.at / 8) 0 * 256 + get_or a.s.now ((a.at + a.n - 1) / 8) 0 =
    omega (arith, c.from-pair.ensures, c.from_be_bytes.ensures) in
    rw (one, pair) (
      value_bits-mod a.n _ ∙ pair-part a.s.now a.at a.n c.requires.2 c.requires.3 c.requires.0 (λ i. (c.type_inv.s i).fits),
      mod-lt _ (pow_pos a.n),
    )
