-- `copy_octets` meets its contract: after i turns the first i octets are copied. Assumes nothing.
use mathlib.Core.Path.{refl, ap, ◌∙◌}
use Prim.Native.Nat.{◌+◌, ◌/◌}
use native.Mathlib.Omega.{arith}
use lib.ListN.{length-set}
use Rattle.bitbuffer.specs.Bits.{value_bits}
use Rattle.bitbuffer.proofs.Laws.{part-done}
use Rattle.bitbuffer.proofs.Chunks.{octet-part, octet-turn}
use Rattle.bitbuffer.proofs.copy_octets.Goals as goal

pub loop-i-init : goal.loop-i-init
loop-i-init c = (omega arith, refl, part-done _ _ _ _ _ (omega arith))

pub loop-i-preserved : goal.loop-i-preserved
loop-i-preserved c =
    let a = c.args in
    let i = c.loop-i.i in (
      omega arith,
      simp length-set c.loop-i.invariant.1,
      octet-turn a.dst.now c.loop-i.dst a.src.now a.at a.from i c.octet_within.result c.loop-i.invariant.2 (omega arith) (omega arith)
          (ap (value_bits 8) c.octet_within.ensures ∙ octet-part a.src.now a.from i (omega arith) (c.type_inv.src (a.from / 8 + i + 1)).fits),
    )
