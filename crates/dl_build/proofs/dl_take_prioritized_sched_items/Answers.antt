-- First those underway, then the records.
use mathlib.Core.Path.{ap}
use mathlib.Core.List.{[]}
use lib.ListN.{length}
use native.Mathlib.Omega.{arith}
use Rattle.dl_record.specs.Kind.{is_record, is_underway}
use Rattle.dl_merge.specs.Merge.{only}
use Rattle.dl_send.specs.Arrays.{listed}
use Rattle.dl_send.proofs.ArrayLaws.{length-listed}
use Rattle.dl_build.specs.Build.{in_order}
use Rattle.dl_build.proofs.OrderLaws.{takes-none, takes-size, order-few}
use Rattle.dl_build.proofs.dl_take_prioritized_sched_items.Goals as goal

pub take_records-requires-clause-room : goal.take_records-requires-clause-room
take_records-requires-clause-room c =
    let m = c.args.merged.now in (
      c.requires,
      is_underway,
      λ k b e. e.1,
      omega (arith, ap length c.new-order.ensures, order-few (listed m.count m.records m.from), length-listed m.count m.records m.from, c.requires),
    )

pub take_records-requires-2-clause-room : goal.take_records-requires-2-clause-room
take_records-requires-2-clause-room c =
    let m = c.args.merged.now in
    let u = c.take_records in
    let few = order-few (listed m.count m.records m.from) in
    let all = length-listed m.count m.records m.from in
    let taken = u.ensures is_underway (λ k b e. e.1) [] (rw c.new-order.ensures (takes-none m.records m.from [])) in
    let size = takes-size m.records m.from u.new.order.items (length u.new.order.items) (only is_underway (listed m.count m.records m.from)) taken in
    (c.requires, is_record, λ k b e. e.1, omega (arith, few, all, size, c.requires))

pub returns : goal.returns
unfolding in_order
returns c =
    let m = c.args.merged.now in
    c.take_records-2.ensures is_record (λ k b e. e.1) (only is_underway (listed m.count m.records m.from))
    (c.take_records.ensures is_underway (λ k b e. e.1) [] (rw c.new-order.ensures (takes-none m.records m.from [])))
