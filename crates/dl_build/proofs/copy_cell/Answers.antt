-- As many octets as a cell has.
use mathlib.Core.Path.{◌≡◌, sym, ap, ◌∙◌}
use Prim.Native.Nat.{ℕ, ◌+◌, ◌-◌}
use native.Mathlib.Omega.{arith}
use borrow.Author.Rules.{rules}
use lib.ListN.{length, drop, take, length-drop}
use lib.Seq.{length-take-le, take-take}
use Rattle.std.proofs.lemmas.Slice.{put_mid-paste}
use Rattle.sizes.specs.Sizes.{cell_octets, timeslot_octets}
use Rattle.dl_sdu_store.proofs.CellLaws.{paste-same}
use Rattle.dl_build.proofs.copy_cell.Goals as goal

pub returns : goal.returns
returns c =
    let a = c.args in
    let size : length a.others.now ≡ timeslot_octets = search rules in
    let k : a.to + cell_octets - a.to ≡ cell_octets = omega arith in
    let n : a.from + cell_octets - a.from ≡ cell_octets = omega arith in
    let behind = drop a.from a.others.now in
    let long : length (take cell_octets behind) ≡ cell_octets = length-take-le cell_octets behind (rw length-drop (omega arith)) in
    put_mid-paste a.to _ a.cells.now _ (take cell_octets behind) cell_octets (c.copy_from_slice.ensures.after ∙ ap (λ (m : ℕ). take m behind) n) (sym k)
    (sym long)
    ∙ paste-same a.cells.now a.to (take cell_octets behind) behind cell_octets (take-take cell_octets cell_octets behind (omega arith))
