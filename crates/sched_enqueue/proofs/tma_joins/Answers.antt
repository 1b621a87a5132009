-- The record's cell is in the store, and its SDU is there. Assumes nothing.
use native.Mathlib.Omega.{arith}
use Rattle.questions.proofs.AskLaws.{said-yes}
use Rattle.sched_core.proofs.QuestionLaws.{asked-yes, sdu-range}
use Rattle.sched_enqueue.proofs.tma_joins.Goals as goal

pub write_cell-requires : goal.write_cell-requires
write_cell-requires c =
    let p = sdu-range c.args.offered.bits c.args.sdu.now (said-yes c.sdu_is_present.ensures (asked-yes _ _ c.ask-3.ensures c.in_ok-ask-3.was)) in
    (omega (arith, c.joined-joining.ensures.place, c.requires), p.0, p.1)
