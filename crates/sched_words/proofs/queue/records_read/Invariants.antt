-- The first i records are read. Assumes nothing.
use Rattle.std.proofs.Common.{◌≡◌, ◌-◌, ◌≤◌, ◌++◌, take, drop, replicate}
use Rattle.sizes.specs.Sizes.{per_timeslot}
use Rattle.dl_record.specs.Record.{empty_record}
use Rattle.sched_words.specs.Words.{records_read}
use Rattle.sched_words.proofs.queue.records_read.Given as goal

abbrev pub invariant-loop-k : goal.invariant-loop-k
invariant-loop-k l =
    (l.k ≤ l.n) × (l.n ≤ per_timeslot) × (l.records ≡ take l.k (take per_timeslot (drop l.first (records_read l.words))) ++ drop l.k
    (replicate per_timeslot empty_record))

abbrev pub decreases-loop-k : goal.decreases-loop-k
decreases-loop-k l = l.n - l.k
