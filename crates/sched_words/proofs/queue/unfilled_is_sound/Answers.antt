-- Words 0 are those of the empty record, and it has no bits. Assumes nothing.
use Rattle.std.proofs.Common.{rules}
use Rattle.sched_words.proofs.WordsQueue.{unfilled-place}
use Rattle.sched_words.proofs.queue.unfilled_is_sound.Goals as goal

pub returns : goal.returns
returns c =
    let s = c.args in
    unfilled-place s.words.now s.cell.now _ _ (search rules) c.all_zero.ensures c.cell_is_zero.ensures
