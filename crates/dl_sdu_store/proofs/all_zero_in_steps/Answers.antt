-- Few octets as they stand, and else two parts that overlap.
use mathlib.Core.Path.{ap, ap₂, ◌∙◌}
use mathlib.Core.Bool.{◌&&◌}
use mathlib.Core.List.{List}
use Prim.Native.Nat.{ℕ, ◌-◌, ◌*◌, ◌/◌}
use native.Mathlib.Omega.{arith}
use lib.ListN.{length}
use Rattle.lists.proofs.Lists.{rest}
use Rattle.dl_sdu_store.specs.Cells.{all_zero}
use Rattle.dl_sdu_store.proofs.ZeroLaws.{overlap}
use Rattle.dl_sdu_store.proofs.all_zero_in_steps.Goals as goal

pub returns : goal.returns
returns c =
    let s : List ℕ = c.args.s.now in
    let last : ℕ = length s - 32 in
    ap₂ ◌&&◌ c.all_zero-2.ensures (c.all_zero-3.ensures ∙ ap all_zero (rest s last))
    ∙ overlap last (length s / 32 * 32) s (omega (arith, c.if-s-lt32.false))
