-- A step reads the operands of its command only. Assumes nothing.
use mathlib.Core.Path.{◌≡◌, subst}
use mathlib.Core.List.{List}
use Prim.Native.Nat.{ℕ, ◌<◌}
use lib.ListN.{length, take}
use Rattle.std.proofs.Common.{Option, Some, Bor}
use Rattle.std.specs.Option.{MatchOption}
use Rattle.std.specs.Array.{IsFirstChunk}
use Rattle.interpreter.specs.declared.command.Command.{Command}
use Rattle.interpreter.specs.Slotrun.{step}
use Rattle.interpreter.proofs.CutLaws.{step-own}
use Rattle.interpreter.proofs.session.Session.execute.Goals as goal

-- the operands that a step is given
own : (ops : List ℕ) (n : ℕ) (o : Option (Bor (List ℕ))) (x : Bor (List ℕ)) → o ≡ Some x
    → MatchOption o (length ops < n) (λ y. IsFirstChunk ops y.now n) → x.now ≡ take n ops
own ops n o x e m = (subst (λ (p : Option (Bor (List ℕ))). MatchOption p (length ops < n) (λ y. IsFirstChunk ops y.now n)) e m).same

pub returns-in-New : goal.returns-in-New
unfolding step
returns-in-New c =
    let given = own _ 5 _ _ c.unwrap.ensures c.first_chunk.ensures.cases in
    step-own _ _ _ _ _ _ Command.New c.in-New.is c.requires given c.new_step.ensures

pub returns-in-Request : goal.returns-in-Request
unfolding step
returns-in-Request c =
    let given = own _ 7 _ _ c.unwrap-in-Request.ensures c.first_chunk-in-Request.ensures.cases in
    step-own _ _ _ _ _ _ Command.Request c.in-Request.is c.requires given c.request_step.ensures

pub returns-in-Stage : goal.returns-in-Stage
returns-in-Stage c =
    let given = own _ 33 _ _ c.unwrap-in-Stage.ensures c.first_chunk-in-Stage.ensures.cases in
    step-own _ _ _ _ _ _ Command.Stage c.in-Stage.is c.requires given c.stage_step.ensures

pub returns-in-Queue : goal.returns-in-Queue
unfolding step
returns-in-Queue c =
    let given = own _ 10 _ _ c.unwrap-in-Queue.ensures c.first_chunk-in-Queue.ensures.cases in
    step-own _ _ _ _ _ _ Command.Queue c.in-Queue.is c.requires given c.queue_step.ensures
