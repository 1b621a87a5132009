-- As many zeros as a cell has octets.
use mathlib.Core.Path.{◌≡◌, sym, ap, ◌∙◌}
use Prim.Native.Nat.{ℕ, ◌+◌, ◌-◌}
use native.Mathlib.Omega.{arith}
use borrow.Author.Rules.{rules}
use lib.ListN.{length, drop, take, replicate, length-drop, length-replicate}
use lib.Seq.{length-take-le}
use Rattle.std.proofs.lemmas.Slice.{put_mid-paste}
use Rattle.sizes.specs.Sizes.{cell_octets}
use Rattle.dl_build.proofs.clear_cell.Goals as goal

pub returns : goal.returns
returns c =
    let a = c.args in
    let k : a.at + cell_octets - a.at ≡ cell_octets = omega arith in
    let long : length (take (a.at + cell_octets - a.at) (drop a.at a.cells.now)) ≡ cell_octets =
    length-take-le _ _ (rw length-drop (omega arith)) ∙ k in
    put_mid-paste a.at _ a.cells.now _ (replicate cell_octets 0) cell_octets
    (c.fill.ensures.after (search rules) ∙ ap (λ (n : ℕ). replicate n 0) long) (sym k) (sym (length-replicate {A = ℕ} cell_octets 0))
