-- What is left to store still gives the words that all give. Assumes nothing.
use Rattle.std.proofs.Common.{sym, refl, ◌∙◌, rules}
use Rattle.sched_words.proofs.TimeslotWords.{records-next, records-done}
use Rattle.sched_words.proofs.queue.put_records.Goals as goal

pub loop-j-preserved : goal.loop-j-preserved
loop-j-preserved c =
    let a = c.args in
    let i = c.loop-j.j in (
      search rules,
      records-next a.records.now a.first i c.loop-j-test.true c.loop-j.words _ _ refl c.put_record.ensures ∙ c.loop-j.invariant.1,
    )

pub returns : goal.returns
returns c = sym (records-done c.args.records.now c.loop-j.words _ c.loop-j.j c.loop-j-test.false) ∙ c.loop-j.invariant.1
