-- The answer put together from its parts. Assumes nothing.
use mathlib.Core.Path.{refl, ap}
use native.Mathlib.Omega.{arith}
use Rattle.reservation_requirement.specs.Requirement.{requirement_code}
use Rattle.uplink.specs.declared.Entry.{Entry}
use Rattle.uplink.specs.Request.{marker_of, markers_after}
use Rattle.uplink.proofs.AnswerLaws.{is_some-vacant, granted-by, entry_read}
use Rattle.ul_grant.proofs.granted.Goals as goal

pub returns : goal.returns
unfolding marker_of markers_after
returns c =
    let a = c.args in
    let code = c.from-code.ensures.0 in
    let n = c.to_req_slotcount-num_slots.ensures in
    let within = c.requires.within in
    rw c.ul_reserve_grant.ensures
    (granted-by a.u.now (record { timeslot = a.timeslot.number; code = requirement_code a.requirement; number = a.number }) a.found.start a.found.skips within.0
    c.requires.can
    _ _ _ _ _ _ _ n
    (ap (λ (e : Entry). e.ul1)
    (entry_read a.u.now.rows a.u.now.time a.timeslot.number a.found.start _ _ _ (omega arith) (omega arith) c.forward_to_timeslot.ensures.0
    c.row.ensures.0 c.column-first.ensures.0))
    (rw (c.is_some.ensures, is_some-vacant, code) at c.capacity_for.ensures)
    (rw c.is_halfslot.ensures at c.free_block.ensures)
    (rw n at c.alloc_usage_marker-usage_marker.ensures.usage_marker_value)
    (rw n at c.alloc_usage_marker-usage_marker.ensures.next_usage_marker_value)
    refl)
