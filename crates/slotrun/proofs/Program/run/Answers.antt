-- What is run, and what is kept of it. Assumes nothing.
use mathlib.Core.Path.{ap, ◌∙◌}
use mathlib.Core.Bool.{◌&&◌, not}
use mathlib.Core.List.{List}
use Prim.Native.Nat.{ℕ, ◌-◌, ◌≤◌}
use native.Mathlib.Omega.{arith}
use lib.ListN.{length, take}
use lib.Seq.{length-take-le}
use Rattle.std.proofs.lemmas.Slice.{between_is}
use Rattle.interpreter.specs.Turns.{is_unknown}
use Rattle.slotrun.proofs.TurnedLaws.{kept}
use Rattle.slotrun.proofs.Program.run.Goals as goal

pub returns : goal.returns
returns g c =
    let input = c.args.self.now.input in
    let all = c.args.all in
    let r = c.run-r.ensures in
    let taken = c.run-r.result.taken in
    let high : all ≤ length input = omega arith in
    let low : taken ≤ all = omega (arith, r.inside, length-take-le all input high) in
    record {
      session-after = r.session-after;
      count = c.run-r.result.count;
      printed = r.printed;
      left = ap (take (all - taken)) c.copy_within.ensures.after ∙ kept input taken all high low ∙ r.left;
      inside = omega (arith, c.copy_within.ensures.len);
      reads_on = c.goes_on-reads_on.ensures ∙ ap (λ (l : List ℕ). c.args.more && not (is_unknown l)) (between_is input taken all ∙ r.left);
    }
