-- Field by field. Assumes nothing.
use Rattle.std.proofs.Common.{get_or}
use Rattle.sched_words.specs.Words.{record_read}
use Rattle.sched_words.proofs.queue.record_read.Goals as goal

pub returns : goal.returns
unfolding record_read
returns c =
    λ i. record {
      kind = c.from_word.ensures i;
      address = record { kind = c.from_word-2.ensures i; number = get_or c.args.words.now 2 0 };
      tag = c.from_word-3.ensures i;
      header = c.header_from.ensures i;
      bits = c.from_word-4.ensures i;
      sent = c.from_word-5.ensures i;
    }
