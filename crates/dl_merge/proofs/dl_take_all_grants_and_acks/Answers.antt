-- After i turns what stays of the first i records is held.
use mathlib.Core.Path.{refl, sym, ap, ◌∙◌}
use Prim.Native.Nat.{◌<◌}
use native.Mathlib.Omega.{arith}
use lib.ListN.{length}
use Rattle.dl_queue.specs.Queue.{records_of}
use Rattle.dl_merge.specs.Merge.{only}
use Rattle.dl_merge.specs.Places.{counted, sources_of}
use Rattle.dl_merge.specs.declared.Merged.{Merged}
use Rattle.dl_merge.proofs.TurnLaws.{kept-few, kept-pass, kept-fail}
use Rattle.dl_merge.proofs.dl_take_all_grants_and_acks.Goals.{then-not-is_grant_or_ack, else-not-is_grant_or_ack}
use Rattle.dl_merge.proofs.dl_take_all_grants_and_acks.Goals as goal

pub loop-i-init : goal.loop-i-init
unfolding records_of sources_of only counted
loop-i-init c = refl

pub push-requires : goal.push-requires
push-requires c =
    let l = c.loop-i in
    omega (arith, ap (λ (m : Merged). m.count) l.invariant, kept-few l.i c.args.records.now, c.loop-i-test.true)

pub loop-i-preserved : goal.loop-i-preserved
loop-i-preserved c =
    let a = c.args in
    let l = c.loop-i in
    let less : l.i < length a.records.now = omega (arith, c.loop-i-test.true) in
    elim c.if-not-is_grant_or_ack.branch [
      | then-not-is_grant_or_ack w ↦
          w.kept-is ∙ w.push.ensures
          ∙ kept-pass a.records.now l.i l.kept _ refl l.invariant (omega arith) (sym c.is_grant_or_ack.ensures ∙ w.if-not-is_grant_or_ack.true)
      | else-not-is_grant_or_ack w ↦
          w.kept-is ∙ kept-fail a.records.now l.i l.kept _ refl l.invariant (sym c.is_grant_or_ack.ensures ∙ w.if-not-is_grant_or_ack.false)
    ]
