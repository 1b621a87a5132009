-- What the calls say, put together by the laws of building.
use mathlib.Core.Path.{◌≡◌, refl, sym, ap, ◌∙◌}
use mathlib.Core.List.{List}
use Prim.Native.Nat.{ℕ, ◌+◌, ◌-◌, ◌*◌}
use native.Mathlib.Omega.{arith}
use borrow.Author.Rules.{rules}
use lib.ListN.{length, drop, take, length-drop}
use lib.Seq.{length-take-le}
use Rattle.std.proofs.lemmas.Slice.{put_mid-paste}
use Rattle.sizes.specs.Sizes.{per_timeslot, cell_octets, timeslot_octets}
use Rattle.dl_build.specs.Moved.{cells_at, arranged}
use Rattle.dl_build.proofs.ArrangeLaws.{length-arranged}
use Rattle.dl_sdu_store.proofs.OctetLaws.{Octets}
use Rattle.dl_build.proofs.BuildLaws.{can-send, behind-kept, build-says}
use Rattle.dl_build.proofs.dl_build_block_from_signalling_schedule.Goals as goal

pub build_records-plan-requires : goal.build_records-plan-requires
build_records-plan-requires c =
    record {
      can_send = can-send _ _ _ _ _ _ c.requires c.merged_records-merged.result c.merged_records-merged.ensures.0
          c.as_slice.result.now (rw c.as_slice.ensures.value c.dl_take_prioritized_sched_items-order.ensures);
      by_index = rw c.as_slice.ensures.value c.dl_take_prioritized_sched_items-order.ensures.within;
    }

pub rearrange-requires : goal.rearrange-requires
rearrange-requires c =
    let octets : Octets c.args.store.now = λ i. omega (arith, c.slice_known-1.given i) in
    let at : ℕ = cell_octets * c.args.first in
    let k : at + timeslot_octets - at ≡ timeslot_octets = omega arith in
    let part : take (at + timeslot_octets - at) (drop at c.args.store.now) ≡ cells_at c.args.store.now c.args.first =
    ap (λ (n : ℕ). take n (drop at c.args.store.now)) k in
    record {
      few = c.requires.count;
      whole = rw (part, length-take-le timeslot_octets (drop at c.args.store.now) (rw length-drop (omega (arith, c.requires.cells)))) refl;
      behind = rw part
          (behind-kept _ _ _ _ _ _ c.requires c.merged_records-merged.result c.merged_records-merged.ensures.0 c.as_slice.result.now
          (rw c.as_slice.ensures.value c.dl_take_prioritized_sched_items-order.ensures) c.build_records-plan.result _ c.build_records-plan.ensures octets);
    }

pub returns : goal.returns
returns c =
    let at : ℕ = cell_octets * c.args.first in
    let from = c.build_records-plan.result.from in
    let full : length from ≡ per_timeslot = search rules in
    let k : at + timeslot_octets - at ≡ timeslot_octets = omega arith in
    let cells : List ℕ = cells_at c.args.store.now c.args.first in
    let whole : length cells ≡ timeslot_octets = length-take-le timeslot_octets (drop at c.args.store.now) (rw length-drop (omega (arith, c.requires.cells))) in
    let size : length (arranged cells from) ≡ cell_octets * length from = length-arranged cells from (omega arith) in
    build-says _ _ _ _ _ _ c.requires c.merged_records-merged.result c.merged_records-merged.ensures.0 c.as_slice.result.now
    (rw c.as_slice.ensures.value c.dl_take_prioritized_sched_items-order.ensures) c.build_records-plan.result _ c.build_records-plan.ensures _
    (put_mid-paste at _ c.args.store.now _ (arranged cells from) timeslot_octets
    (c.rearrange.ensures ∙ ap (λ (n : ℕ). arranged (take n (drop at c.args.store.now)) from) k) (sym k) (omega arith))
