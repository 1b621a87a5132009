-- The reservation's loop: what is still to be reserved gives the uplink promised. Assumes nothing.
use mathlib.Core.Path.{sym, ap, ◌∙◌}
use native.Mathlib.Omega.{arith}
use Rattle.tdma_time.specs.Time.{first_of, slot_of}
use Rattle.uplink.specs.declared.Uplink.{Uplink}
use Rattle.uplink.specs.UplinkEntry.{Table}
use Rattle.uplink.specs.Uplink.{with_table}
use Rattle.uplink.proofs.FrameWalk.{first-at, fill_none, fill_end, fill-18, fill_one, fill-from}
use Rattle.ul_reserve.proofs.ul_reserve_grant.Goals as goal

-- the uplink with another table
abbrev table_in : Uplink → Table → Uplink
table_in u tb = with_table u tb u.next_usage_marker

pub loop-dist-preserved-then-place : goal.loop-dist-preserved-then-place
loop-dist-preserved-then-place c =
    λ u a. ap (table_in c.loop-dist.u) (sym (fill-18 _ _ _ _ u c.loop-dist.dist _ _ _ a (omega arith) c.if-place.true)) ∙ c.loop-dist.invariant u a

pub loop-dist-preserved : goal.loop-dist-preserved
loop-dist-preserved c =
    λ u a. rw c.taken.ensures
    (ap (table_in c.loop-dist.u) (sym (fill_one _ _ _ _ u c.loop-dist.dist _ _ _ a (omega arith) c.if-place.false c.if-left-eq0.false))
    ∙ c.loop-dist.invariant u a)

pub returns-then-left-eq0 : goal.returns-then-left-eq0
returns-then-left-eq0 c =
    let now = c.args.u.now.time in
    let t = c.args.timeslot.number in
    ap (table_in c.loop-dist.u) (sym (fill_none _ _ _ _ (first_of t (slot_of now)) _ _ c.if-left-eq0.true))
    ∙ c.loop-dist.invariant _ (first-at now t _ _ _ (omega arith) (omega arith) c.forward_to_timeslot.ensures.0 c.row-row.ensures.0 c.column-first.ensures.0)
    ∙ ap (table_in c.args.u.now) (fill-from _ _ _ _ now t _ _)

pub returns-after-loop-dist : goal.returns-after-loop-dist
returns-after-loop-dist c =
    let now = c.args.u.now.time in
    let t = c.args.timeslot.number in
    ap (table_in c.loop-dist.u) (sym (fill_end _ _ _ _ (first_of t (slot_of now)) _ _ (omega arith)))
    ∙ c.loop-dist.invariant _ (first-at now t _ _ _ (omega arith) (omega arith) c.forward_to_timeslot.ensures.0 c.row-row.ensures.0 c.column-first.ensures.0)
    ∙ ap (table_in c.args.u.now) (fill-from _ _ _ _ now t _ _)
