-- `read_bits` meets its contract: the number read so far and the bits left give the number read in all. Assumes nothing.
use mathlib.Core.List.{List}
use mathlib.Core.Path.{◌≡◌, sym, ◌∙◌}
use Prim.Native.Nat.{ℕ, ◌+◌, ◌-◌, ◌*◌, ◌%◌, ◌^◌, ◌<◌}
use native.Mathlib.Nat.{lt_of_le_of_lt, lt_of_lt_of_le, mod-eq_of_lt}
use native.Mathlib.Omega.{arith}
use lib.Pow.{pow_mono}
use Rattle.bitbuffer.specs.Bits.{bits_value, bits_of, part}
use Rattle.bitbuffer.proofs.Laws.{value-all, sum-le, part-lt, bits-bits_of, length-bits_of}
use Rattle.bitbuffer.proofs.Chunks.{number-turn}
use Rattle.bitbuffer.proofs.read_bits.Goals as goal
use Rattle.bitbuffer.proofs.read_bits.Goals.{After-bits_at}

-- a turn keeps the number that is read in all, and the sum stays below it
abbrev Bits : After-bits_at → List ℕ
Bits c = bits_of c.args.s.now

abbrev Sum : After-bits_at → ℕ
Sum c = c.loop-left.sum * 2 ^ c.chunk-n.result

turn : (c : After-bits_at)
    → (Sum c + c.bits_at.result) * 2 ^ (c.loop-left.left - c.chunk-n.result)
    + bits_value
    (part (Bits c) (c.loop-left.pos + c.chunk-n.result) (c.loop-left.left - c.chunk-n.result))
    ≡ bits_value (part (Bits c) c.args.at c.args.width)
turn c =
    number-turn (Bits c) c.loop-left.pos c.chunk-n.result c.loop-left.left c.loop-left.sum c.bits_at.result (omega arith)
    (rw length-bits_of (omega arith))
    c.bits_at.ensures.0 c.bits_at.ensures.1
    ∙ c.loop-left.invariant.1

next : (c : After-bits_at) → Sum c + c.bits_at.result < 2 ^ 64
next c =
    lt_of_le_of_lt (sum-le _ (c.loop-left.left - c.chunk-n.result) _ _ (turn c))
    (lt_of_lt_of_le (part-lt (Bits c) _ _ (bits-bits_of _)) (pow_mono {j = 64} (omega arith)))

exact : (c : After-bits_at) → Sum c % 2 ^ 64 ≡ Sum c
exact c = mod-eq_of_lt (omega (arith, next c))

pub overflow_add-sum : goal.overflow_add-sum
overflow_add-sum c = rw (exact (goal.at.overflow_add-sum c).After-bits_at) (record { fits = next (goal.at.overflow_add-sum c).After-bits_at })

pub loop-left-preserved : goal.loop-left-preserved
loop-left-preserved c = (omega arith, rw (exact (goal.at.loop-left-preserved c).After-bits_at) (turn (goal.at.loop-left-preserved c).After-bits_at))

pub returns : goal.returns
returns c =
    let e = sym (value-all _ _ _ _ c.loop-left-test.false) ∙ c.loop-left.invariant.1 in
    (e, rw e (part-lt (bits_of _) _ _ (bits-bits_of _)))
