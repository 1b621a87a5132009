-- One more that stays.
use Prim.Native.Nat.{◌<◌, ◌+◌}
use mathlib.Core.Path.{ap, ◌∙◌}
use native.Mathlib.Omega.{arith}
use lib.ListN.{length, set}
use Rattle.sizes.specs.Sizes.{per_timeslot}
use Rattle.dl_send.specs.declared.Progress.{Progress}
use Rattle.dl_send.proofs.ArrayLaws.{kept-behind}
use Rattle.dl_send.proofs.Progress.keep.Goals as goal

pub returns : goal.returns
returns c = λ xs ts e.
    let a = c.args in
    let less : length xs < per_timeslot = omega (arith, c.requires, ap (λ (p : Progress). p.left) e) in
    ap (λ (p : Progress). record { records = set p.records p.left a.r; from = set p.from p.left a.place; left = p.left + 1; tags = p.tags }) e
    ∙ kept-behind xs ts a.r a.place less
