-- Field by field. Assumes nothing.
use Rattle.std.proofs.Common.{◌∙◌}
use Rattle.dl_record.specs.Record.{offered_record}
use Rattle.sched_words.specs.Words.{word_at, offered_from}
use Rattle.sched_words.proofs.queue.offered_from.Goals as goal

pub returns : goal.returns
unfolding offered_from
returns c =
    c.offered.ensures
    ∙ (λ i. offered_record (c.saturated.ensures i) (word_at c.args.words.now 2) (c.from_word.ensures i) (c.offered_header.ensures i)
    (c.saturated-2.ensures i))
