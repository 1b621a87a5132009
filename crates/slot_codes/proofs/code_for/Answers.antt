-- The first count that holds the slots: those below it do not. Assumes nothing.
use Rattle.std.proofs.Common.{rules, tests, ap, ◌∙◌, ◌+◌, ltb}
use Rattle.std.proofs.lemmas.List.Sorted.{IsPartitionPoint-from_clause}
use Rattle.slot_codes.specs.Codes.{slot_counts}
use Rattle.slot_codes.proofs.CodesLaws.{counts-apart, first-above, code-of-some}
use Rattle.slot_codes.proofs.code_for.Goals as goal

pub returns : goal.returns
returns c =
    let n = c.args.req in
    ap (1 +◌)
    (first-above n slot_counts c.partition_point.result c.partition_point.ensures.bound
    (IsPartitionPoint-from_clause (λ y. ltb y n) slot_counts c.partition_point.result c.partition_point.ensures.partitioned (counts-apart n) (λ a r f k. search (rules, tests))))
    ∙ code-of-some n c.if-req-eq0.false
