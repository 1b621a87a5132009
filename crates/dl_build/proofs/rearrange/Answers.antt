-- In place, where no record is overtaken; else read, then written.
use mathlib.Core.Path.{◌≡◌, ◌∙◌}
use native.Mathlib.Omega.{arith}
use borrow.Author.Rules.{rules}
use lib.ListN.{length}
use Rattle.sizes.specs.Sizes.{per_timeslot}
use Rattle.dl_build.proofs.ArrangeLaws.{rest-kept}
use Rattle.dl_build.proofs.rearrange.Goals as goal

pub returns-then-none_overtaken : goal.returns-then-none_overtaken
returns-then-none_overtaken c =
    let a = c.args in
    let size : length a.from ≡ per_timeslot = search rules in
    c.close_up.ensures ∙ rest-kept a.cells.now a.from a.n c.requires.whole (omega (arith, size, c.requires.few)) c.requires.behind
