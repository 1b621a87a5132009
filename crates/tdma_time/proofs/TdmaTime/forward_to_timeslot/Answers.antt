-- `TdmaTime::forward_to_timeslot` meets its contract: in this frame, or in the next. Assumes nothing.
use borrow.Author.Rules.{rules}
use native.Mathlib.Omega.{arith}
use mathlib.Core.Path.{ap, ◌∙◌}
use Rattle.tdma_time.specs.Time.{time_of}
use Rattle.tdma_time.proofs.TimeLaws.{time-is, first-this-frame, first-next-frame}
use Rattle.tdma_time.proofs.TdmaTime.forward_to_timeslot.Goals as goal

pub returns-then-self-ts : goal.returns-then-self-ts
returns-then-self-ts c =
    let a = c.args in
    (time-is _ _ (omega arith) (omega (arith, first-this-frame a.self a.ts.number (search rules) (omega arith) (omega arith))), omega arith)

pub returns : goal.returns
returns c =
    let a = c.args in
    (c.in_next_frame.ensures.0 ∙ ap time_of (omega (arith, first-next-frame a.self a.ts.number (search rules) (omega arith) (omega arith))), search rules)
