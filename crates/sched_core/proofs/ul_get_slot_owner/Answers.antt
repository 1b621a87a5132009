-- The time is judged before the table is read. Assumes nothing.
use Rattle.tdma_time.proofs.TimeLaws.{true-valid}
use Rattle.questions.proofs.AskLaws.{said-yes}
use Rattle.sched_core.proofs.QuestionLaws.{asked-yes}
use Rattle.sched_core.proofs.ul_get_slot_owner.Goals as goal

pub owner-requires : goal.owner-requires
owner-requires c = true-valid _ (said-yes c.is_valid.ensures (asked-yes _ _ c.ask-2.ensures c.in_ok-ask-2.was))
