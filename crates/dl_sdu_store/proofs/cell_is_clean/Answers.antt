-- The rest of one octet, and the octets after it.
use lib.ListN.{get_or}
use mathlib.Core.List.{List}
use Prim.Native.Nat.{ℕ, ◌+◌, ◌*◌, ◌/◌, ◌%◌, ◌^◌}
use lib.Dec.{eqb}
use mathlib.Core.Bool.{Bool, ◌&&◌}
use mathlib.Core.Path.{ap, ◌∙◌}
use Rattle.lists.proofs.Lists.{rest}
use Rattle.dl_sdu_store.specs.Cells.{all_zero}
use Rattle.dl_sdu_store.proofs.ZeroLaws.{clean-over, clean-split}
use Rattle.dl_sdu_store.proofs.cell_is_clean.Goals as goal

pub returns-then-cell-k : goal.returns-then-cell-k
returns-then-cell-k c = clean-over _ _ c.if-cell-k.true

pub returns : goal.returns
returns c =
    let s : List ℕ = c.args.cell.now in
    let n : ℕ = c.args.bits in
    let from : ℕ = n / 8 + 1 in
    ap (λ (t : Bool). eqb (get_or s (n / 8) 0 * 2 ^ (n % 8) % 2 ^ 8) 0 && t)
    (c.all_zero_in_steps.ensures ∙ ap all_zero (rest s from))
    ∙ clean-split s n (λ i. (c.type_inv.cell i).fits) c.if-cell-k.false
