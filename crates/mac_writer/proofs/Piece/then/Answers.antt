-- The piece moved up by the field's width, and the field.
use mathlib.Core.Path.{refl, ap, ◌∙◌}
use mathlib.Core.List.{List, ◌++◌}
use Prim.Native.Nat.{ℕ, ◌^◌}
use native.Mathlib.Nat.{mod-lt}
use native.Mathlib.Omega.{arith}
use lib.Pow.{pow_pos}
use Rattle.bitbuffer.specs.Bits.{value_bits}
use Rattle.bitbuffer.proofs.Laws.{one_shl, value_bits-mod}
use Rattle.mac_writer.proofs.PieceLaws.{joined-fits, joined-bits}
use Rattle.mac_writer.proofs.Piece.then.Goals as goal

pub overflow_add-result-2 : goal.overflow_add-result-2
overflow_add-result-2 c =
    let w = c.args.width in
    record { fits = rw (one_shl {k = w} 64 (omega arith)) (joined-fits _ w _ _ c.requires.0 (mod-lt c.args.value (pow_pos w))) }

pub returns : goal.returns
returns c =
    let p = c.args.self in
    let w = c.args.width in
    let v = c.args.value in (
      refl,
      rw (one_shl {k = w} 64 (omega arith)) (joined-bits p.width w p.value _ c.requires.0 (mod-lt v (pow_pos w))
          ∙ ap (λ (l : List ℕ). value_bits p.width p.value ++ l) (value_bits-mod w v)),
    )
