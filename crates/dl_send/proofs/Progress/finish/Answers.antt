-- One more tag.
use Prim.Native.Nat.{◌<◌, ◌+◌}
use mathlib.Core.Path.{ap, ◌∙◌}
use native.Mathlib.Omega.{arith}
use lib.ListN.{length, set}
use Rattle.sizes.specs.Sizes.{per_timeslot}
use Rattle.dl_send.specs.declared.Progress.{Progress}
use Rattle.dl_send.proofs.ArrayLaws.{tag-behind}
use Rattle.dl_send.proofs.Progress.finish.Goals as goal

pub returns-in-Some : goal.returns-in-Some
returns-in-Some c = λ xs ts e.
    let a = c.args in
    let t = c.in-Some.tag in
    let less : length ts < per_timeslot = omega (arith, c.requires, ap (λ (p : Progress). p.tags.tag_count) e) in
    rw c.in-Some.is
    (ap (λ (p : Progress). record {
      records = p.records;
      from = p.from;
      left = p.left;
      tags = record { tags = set p.tags.tags p.tags.tag_count t; tag_count = p.tags.tag_count + 1 };
    }) e ∙ tag-behind xs ts t less)
