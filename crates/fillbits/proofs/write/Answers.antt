-- `write` meets its contract: a set bit and then clear ones are the fill bits. Assumes nothing.
use mathlib.Core.List.{List}
use mathlib.Core.Path.{refl, ap, ◌∙◌}
use Prim.Native.Nat.{ℕ, ◌+◌, ◌-◌}
use lib.ListN.{replicate}
use Rattle.bitbuffer.specs.Bits.{bits_of, written}
use Rattle.fillbits.proofs.Laws.{wrote_nothing, wrote-fill}
use Rattle.fillbits.proofs.write.Goals as goal

pub returns-then-n-eq0 : goal.returns-then-n-eq0
returns-then-n-eq0 c = wrote_nothing _ _ _ c.if-n-eq0.true

pub returns : goal.returns
returns c =
    let a = c.args in (
      refl,
      wrote-fill (bits_of a.buf.now) _ a.at a.n c.if-n-eq0.false
          (c.write_zeroes.ensures ∙ ap (λ (l : List ℕ). written l (a.at + 1) (replicate (a.n - 1) 0)) c.set_bit.ensures),
    )
