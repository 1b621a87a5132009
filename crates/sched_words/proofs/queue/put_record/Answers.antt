-- The words are those of the record. Assumes nothing.
use Rattle.std.proofs.Common.{ℕ, ◌+◌, ◌-◌, ◌*◌, ◌∙◌, arith}
use Rattle.sched_words.specs.Words.{record_words}
use Rattle.sched_words.proofs.WordLaws.{record-size, copied}
use Rattle.sched_words.proofs.queue.put_record.Goals as goal

pub returns : goal.returns
returns c =
    let at : ℕ = 23 * c.args.place in
    copied c.args.words.now c.copy_from_slice.new.self (record_words c.args.r) at (at + 23 - at) (c.copy_from_slice.ensures.after ∙ c.record_words.ensures)
    (record-size c.args.r ∙ omega arith) (omega arith)
