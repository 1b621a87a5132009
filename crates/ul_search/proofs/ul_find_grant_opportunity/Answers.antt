-- The search's loop: each turn is one of four steps of `Looking`. Assumes nothing.
use mathlib.Core.Path.{sym, ap, ◌∙◌}
use Prim.Native.Nat.{◌+◌, ◌<◌, ◌≤◌}
use native.Mathlib.Omega.{arith}
use Rattle.sizes.specs.Sizes.{frames_searched}
use Rattle.tdma_time.specs.Time.{first_of, slot_of}
use Rattle.uplink.specs.Functions.{as_opportunity}
use Rattle.uplink.proofs.FrameWalk.{looking-none, looking-18, looking-block, looking-on, looking-end, first-at, walk-opportunity}
use Rattle.ul_search.proofs.ul_find_grant_opportunity.Goals as goal
use Rattle.ul_search.proofs.ul_find_grant_opportunity.Goals.{then-run-eq0, else-run-eq0}

pub loop-dist-preserved-then-index : goal.loop-dist-preserved-then-index
loop-dist-preserved-then-index c = looking-18 _ _ _ _ _ _ _ _ _ c.loop-dist.invariant (omega arith) c.if-index.true

pub loop-dist-preserved-then-not-is_free : goal.loop-dist-preserved-then-not-is_free
loop-dist-preserved-then-not-is_free c =
    looking-block _ _ _ _ _ _ _ _ _ c.loop-dist.invariant (omega arith) c.if-index.false (sym c.is_free.ensures ∙ c.if-not-is_free.true)

pub loop-dist-preserved : goal.loop-dist-preserved
loop-dist-preserved c =
    let l = c.loop-dist.invariant in
    let came = c.if-run-eq0.branch in
    let b : c.if-run-eq0.start ≤ c.loop-dist.dist + 1 = elim came [ then-run-eq0 w ↦ omega (arith, w.start-is) | else-run-eq0 w ↦ omega (arith, w.start-is, l.begun) ] in
    looking-on _ _ _ _ _ _ _ _ _ l (omega arith) c.if-index.false c.if-run-eq0.start
    (λ h. elim came [ then-run-eq0 w ↦ w.start-is | else-run-eq0 w ↦ absurd (w.if-run-eq0.false h) ])
    (λ h. elim came [ then-run-eq0 w ↦ absurd (h w.if-run-eq0.true) | else-run-eq0 w ↦ w.start-is ])
    (sym c.is_free.ensures ∙ c.if-not-is_free.false) c.if-run-num_slots.false b

pub returns-then-run-num_slots : goal.returns-then-run-num_slots
returns-then-run-num_slots c =
    let a = c.args in
    let l = c.loop-dist.invariant in
    let came = c.if-run-eq0.branch in
    let b : c.if-run-eq0.start < frames_searched = elim came [ then-run-eq0 w ↦ omega (arith, w.start-is) | else-run-eq0 w ↦ omega (arith, w.start-is, l.begun) ] in (
      looking-end _ _ _ _ _ _ _ _ _ l (omega arith) c.if-index.false c.if-run-eq0.start
          (λ h. elim came [ then-run-eq0 w ↦ w.start-is | else-run-eq0 w ↦ absurd (w.if-run-eq0.false h) ])
          (λ h. elim came [ then-run-eq0 w ↦ absurd (h w.if-run-eq0.true) | else-run-eq0 w ↦ w.start-is ])
          (sym c.is_free.ensures ∙ c.if-not-is_free.false) c.if-run-num_slots.true _
          (first-at a.u.now.time a.timeslot.number _ _ _ (omega arith) (omega arith) c.forward_to_timeslot.ensures.0 c.row-row.ensures.0 c.column-first.ensures.0)
          ∙ walk-opportunity _ a.u.now.time a.timeslot.number _ _ (omega arith),
      (b, omega (arith, l.few)),
    )

pub returns : goal.returns
returns c =
    let a = c.args in (
      sym (ap (as_opportunity (first_of a.timeslot.number (slot_of a.u.now.time)))
          (looking-none _ _ _ _ _ _ _ _ _ c.loop-dist.invariant _
          (first-at a.u.now.time a.timeslot.number _ _ _ (omega arith) (omega arith) c.forward_to_timeslot.ensures.0 c.row-row.ensures.0 c.column-first.ensures.0) (omega arith)))
          ∙ walk-opportunity _ a.u.now.time a.timeslot.number _ _ (omega arith),
      tt,
    )
