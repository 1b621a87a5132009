-- After the turns of the first records what stays is held, with the grants and acks among these put to it.
use mathlib.Core.Path.{◌≡◌, refl, sym, ap, ◌∙◌}
use Prim.Native.Nat.{ℕ, ◌<◌}
use native.Mathlib.Omega.{arith}
use lib.ListN.{length, get_or}
use Rattle.dl_record.specs.declared.Record.{Record}
use Rattle.dl_record.specs.Record.{empty_record}
use Rattle.dl_merge.specs.Merge.{only, puts}
use Rattle.dl_merge.specs.Places.{counted, merged_of}
use Rattle.dl_merge.specs.declared.Merged.{Merged}
use Rattle.dl_merge.proofs.TurnLaws.{joins, joins-few, joins-done, pass-turn, count-room, found-within, found-turn, none-turn}
use Rattle.dl_merge.proofs.dl_integrate_sched_elems_for_timeslot.Goals.{then-is_grant_or_ack+in-Some, then-is_grant_or_ack+in-None, else-is_grant_or_ack}
use Rattle.dl_merge.proofs.dl_integrate_sched_elems_for_timeslot.Goals as goal

pub loop-g-init : goal.loop-g-init
unfolding puts only counted
loop-g-init c = c.dl_take_all_grants_and_acks-merged.ensures

pub shared_ref_as_front-dl_get_scheduled_resource_for_ssi : goal.shared_ref_as_front-dl_get_scheduled_resource_for_ssi
shared_ref_as_front-dl_get_scheduled_resource_for_ssi c =
    let a = c.args in
    let l = c.loop-g in
    let less : l.g-index < length a.records.now = omega (arith, c.loop-g-test.true) in
    omega (arith, joins-few (length a.records.now) l.g-index a.records.now (omega arith), ap (λ (m : Merged). m.count) l.invariant)

pub bounds-merged-at : goal.bounds-merged-at
bounds-merged-at c =
    let a = c.args in
    let l = c.loop-g in
    let less : l.g-index < length a.records.now = omega (arith, c.loop-g-test.true) in
    found-within (length a.records.now) l.g-index a.records.now l.merged l.invariant c.requires (omega arith) _ c.in-Some.at
    (sym c.dl_get_scheduled_resource_for_ssi.ensures ∙ c.in-Some.is)

pub bounds-merged-at-in-Some : goal.bounds-merged-at-in-Some
bounds-merged-at-in-Some c =
    let a = c.args in
    let l = c.loop-g in
    let less : l.g-index < length a.records.now = omega (arith, c.loop-g-test.true) in
    found-within (length a.records.now) l.g-index a.records.now l.merged l.invariant c.requires (omega arith) _ c.in-Some.at
    (sym c.dl_get_scheduled_resource_for_ssi.ensures ∙ c.in-Some.is)

pub push-requires : goal.push-requires
push-requires c =
    let a = c.args in
    let l = c.loop-g in
    let less : l.g-index < length a.records.now = omega (arith, c.loop-g-test.true) in
    count-room (length a.records.now) a.records.now l.g-index l.merged _ refl l.invariant c.requires less
    (sym c.is_grant_or_ack.ensures ∙ c.if-is_grant_or_ack.true)

pub loop-g-preserved : goal.loop-g-preserved
loop-g-preserved c =
    let a = c.args in
    let l = c.loop-g in
    let less : l.g-index < length a.records.now = omega (arith, c.loop-g-test.true) in
    let rs = a.records.now in
    let n = length rs in
    let g : Record = get_or rs l.g-index empty_record in
    elim c.if-is_grant_or_ack.branch [
      | then-is_grant_or_ack+in-Some w ↦
          w.merged-is
          ∙ found-turn n rs l.g-index l.merged g refl l.invariant c.requires less (sym c.is_grant_or_ack.ensures ∙ w.if-is_grant_or_ack.true)
          w.in-Some.at w.joined_record.result (sym w.dl_get_scheduled_resource_for_ssi.ensures ∙ w.in-Some.is) w.joined_record.ensures
      | then-is_grant_or_ack+in-None w ↦
          w.merged-is ∙ w.push.ensures
          ∙ none-turn n rs l.g-index l.merged g refl l.invariant c.requires less (sym c.is_grant_or_ack.ensures ∙ w.if-is_grant_or_ack.true)
          w.dl_make_minimal_resource.result (sym w.dl_get_scheduled_resource_for_ssi.ensures ∙ w.in-None.is) w.dl_make_minimal_resource.ensures
      | else-is_grant_or_ack w ↦
          w.merged-is ∙ pass-turn n rs l.g-index l.merged g refl l.invariant (sym c.is_grant_or_ack.ensures ∙ w.if-is_grant_or_ack.false)
    ]

pub returns : goal.returns
returns c =
    let a = c.args in
    let n = length a.records.now in
    let e : c.loop-g.g-index ≡ n = omega (arith, c.loop-g-test.false, c.loop-g.auto.g-index-end) in
    c.loop-g.invariant ∙ ap (λ (j : ℕ). merged_of (joins n j a.records.now)) e ∙ ap merged_of (joins-done n a.records.now)
