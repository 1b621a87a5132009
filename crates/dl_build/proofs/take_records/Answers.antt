-- After i turns those of the first i records that are wanted stand behind the others.
use mathlib.Core.Path.{sym, ap, ◌∙◌, subst}
use Prim.Native.Nat.{◌+◌, ◌<◌}
use native.Mathlib.Omega.{arith}
use mathlib.Core.List.{List, [], ◌∷◌}
use Prim.Native.Nat.{ℕ}
use lib.ListN.{length, length-append, length-take}
use Rattle.arrayvec.specs.ArrayVec.{ArrayVec}
use Rattle.std.proofs.lemmas.List.{get_or-take}
use Rattle.dl_record.specs.Record.{empty_record}
use Rattle.dl_build.specs.Build.{Takes}
use Rattle.dl_build.proofs.OrderLaws.{took, took-none, took-pass, took-fail, count-none, count-pass, count-fail, count-room}
use Rattle.dl_build.proofs.take_records.Goals.{then-wanted, else-wanted}
use Rattle.dl_build.proofs.take_records.Goals as goal

pub loop-i-init : goal.loop-i-init
loop-i-init g c =
    let m = c.args.merged.now in
    let o = c.args.order.now.items in
    record {
      count = λ p d. omega (arith, count-none p m.records m.from);
      takes = λ p d xs h. took-none p xs m.records m.from o (length o) h;
    }

pub push-requires : goal.push-requires
push-requires g c =
    let m = c.args.merged.now in
    let q = c.requires.room in
    let less : c.loop-i.i < m.count = omega (arith, length-take m.count m.records, c.loop-i-test.true) in
    omega (
      arith,
      c.loop-i.invariant.count q.1 q.2,
      count-room q.1 m.records m.from c.loop-i.i _ (get_or-take m.count m.records c.loop-i.i empty_record less) m.count less
          (sym (q.2 _ _ c.wanted.ensures) ∙ c.if-wanted.true),
      q.3,
    )

pub loop-i-preserved : goal.loop-i-preserved
loop-i-preserved g c =
    let m = c.args.merged.now in
    let i = c.loop-i.i in
    let k = c.loop-i.order.items in
    let v = c.loop-i.invariant in
    let q = c.requires.room in
    let less : i < m.count = omega (arith, length-take m.count m.records, c.loop-i-test.true) in
    let is = get_or-take m.count m.records i empty_record less in
    elim c.if-wanted.branch [
      | then-wanted w ↦
          let more = ap (λ (o : ArrayVec ℕ). o.items) w.order-is ∙ w.push.ensures.items in
          record {
            count = λ p d. omega (
              arith,
              ap length more,
              length-append k (i ∷ []),
              v.count p d,
              count-pass p m.records m.from i _ is (sym (d _ _ c.wanted.ensures) ∙ w.if-wanted.true),
            );
            takes = λ p d xs h. subst (λ (o : List ℕ). Takes m.records m.from o (length o) (took p xs (i + 1) m.records m.from)) (sym more)
                (took-pass p m.records m.from i _ is xs k (v.takes p d xs h) (omega (arith, less, q.0)) (sym (d _ _ c.wanted.ensures) ∙ w.if-wanted.true));
          }
      | else-wanted w ↦
          let same = ap (λ (o : ArrayVec ℕ). o.items) w.order-is in
          record {
            count = λ p d. omega (
              arith,
              ap length same,
              v.count p d,
              count-fail p m.records m.from i _ is (sym (d _ _ c.wanted.ensures) ∙ w.if-wanted.false),
            );
            takes = λ p d xs h. subst (λ (o : List ℕ). Takes m.records m.from o (length o) (took p xs (i + 1) m.records m.from)) (sym same)
                (took-fail p m.records m.from i _ is xs k (v.takes p d xs h) (sym (d _ _ c.wanted.ensures) ∙ w.if-wanted.false));
          }
    ]
