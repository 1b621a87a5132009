-- A sound station's time is one. Assumes nothing.
use Rattle.questions.proofs.AskLaws.{said-yes}
use Rattle.sched_core.proofs.QuestionLaws.{asked-yes}
use Rattle.sched_core.proofs.StationLaws.{sound-time}
use Rattle.sched_core.proofs.advance.Goals as goal

pub advance-requires : goal.advance-requires
advance-requires c = sound-time _ (said-yes c.is_sound.ensures (asked-yes _ _ c.ask.ensures c.in_ok-ask.was))
