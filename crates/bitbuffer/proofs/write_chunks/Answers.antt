-- `write_chunks` meets its contract: a turn writes the next of the bits that are given. Assumes nothing.
use mathlib.Core.List.{List}
use mathlib.Core.Path.{refl, ap, ◌∙◌}
use Prim.Native.Nat.{ℕ, ◌+◌, ◌-◌}
use native.Mathlib.Omega.{arith}
use Rattle.bitbuffer.specs.Bits.{bits_of, written, part}
use Rattle.bitbuffer.proofs.Laws.{part-done}
use Rattle.bitbuffer.proofs.Chunks.{given-all, given-turn}
use Rattle.bitbuffer.proofs.write_chunks.Goals as goal

pub loop-left-init : goal.loop-left-init
loop-left-init g c = (refl, omega arith, refl, λ f h. given-all _ _ f _ h.size)

pub loop-left-preserved : goal.loop-left-preserved
loop-left-preserved g c =
    let at = c.loop-left.pos in
    let k = c.chunk-k.result in
    let left = c.loop-left.left in
    let n = c.args.n in (
      omega arith,
      omega arith,
      c.put_chunk.auto.s ∙ c.loop-left.invariant.2,
      λ f h.
          ap (λ (l : List ℕ). written l (at + k) (part f (n - (left - k)) (left - k))) c.put_chunk.ensures
          ∙ given-turn (bits_of c.loop-left.s) at f n k left c.bits.result (omega arith) (omega arith) h.size
          (h.bits (left - k) k c.bits.result (omega arith) (omega arith) c.bits.ensures)
          ∙ c.loop-left.invariant.3 f h,
    )

pub returns : goal.returns
returns g c = λ f h. part-done _ _ f _ _ c.loop-left-test.false ∙ c.loop-left.invariant.3 f h
