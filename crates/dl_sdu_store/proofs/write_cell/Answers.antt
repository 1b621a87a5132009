-- Whole octets, the octet at the edge, zeros.
use mathlib.Core.List.{List}
use mathlib.Core.Path.{ap, ◌∙◌}
use Prim.Native.Nat.{ℕ}
use lib.Seq.{paste}
use native.Mathlib.Omega.{arith}
use Rattle.std.proofs.Common.{rules}
use Rattle.sizes.specs.Sizes.{cell_octets}
use Rattle.dl_sdu_store.proofs.CellLaws.{cell-put, cell_put-full}
use Rattle.dl_sdu_store.proofs.CellBits.{cell-octets}
use Rattle.dl_sdu_store.proofs.write_cell.Goals as goal

pub returns-then-whole-eq-CELL_OCTETS : goal.returns-then-whole-eq-CELL_OCTETS
returns-then-whole-eq-CELL_OCTETS c =
    let a = c.args in
    cell_put-full a.store.now a.base a.bits a.sdu.now _ _ (omega arith) (omega arith) c.if-whole-eq-CELL_OCTETS.true c.copy_from_slice.ensures.after
    (omega arith)
    ∙ ap (λ (l : List ℕ). paste a.store.now a.base l cell_octets)
    (cell-octets a.bits a.sdu.now (omega arith) (omega arith) (λ i. (c.type_inv.sdu i).fits))

pub returns : goal.returns
returns c =
    let a = c.args in
    cell-put a.store.now a.base a.bits a.sdu.now c.edge.result _ _ _ _ (omega arith) (omega arith) (omega arith) (omega arith) c.edge.ensures
    c.copy_from_slice.ensures.after (omega arith) (omega arith) (c.fill.ensures.after (search rules))
    ∙ ap (λ (l : List ℕ). paste a.store.now a.base l cell_octets)
    (cell-octets a.bits a.sdu.now (omega arith) (omega arith) (λ i. (c.type_inv.sdu i).fits))
