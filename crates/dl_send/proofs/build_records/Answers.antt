-- After i turns what is held and what is to come make the whole.
use mathlib.Core.Path.{refl, sym, subst, ◌∙◌}
use borrow.Author.Rules.{rules}
use Prim.Native.Nat.{◌<◌}
use native.Mathlib.Omega.{arith}
use lib.ListN.{length}
use Rattle.dl_record.specs.Record.{empty_record}
use Rattle.dl_queue.specs.Queue.{records_of}
use Rattle.dl_merge.specs.Places.{sources_of}
use Rattle.bs_frag.specs.NextPdu.{Sendable}
use Rattle.dl_send.specs.Arrays.{records_at, places_at, tag_row}
use Rattle.dl_send.proofs.ArrayLaws.{sendable-at, stands-at}
use Rattle.dl_send.proofs.SendLaws.{running-start, running-room, running-step, running-end, built-as}
use Rattle.dl_send.proofs.build_records.Goals as goal

pub loop-stands-init : goal.loop-stands-init
unfolding records_of sources_of tag_row
loop-stands-init c = running-start _ _ _ _ _ _ _ _ refl

pub get_next_chunk-chunk-requires : goal.get_next_chunk-chunk-requires
get_next_chunk-chunk-requires c =
    let o = c.args.order.now in
    let m = c.args.merged.now in
    let i = c.loop-stands.stands-index in
    let few = c.requires.can_send.count in
    let less : i < length o = omega (arith, c.loop-stands-test.true) in
    record {
      place = c.loop-stands.invariant.room;
      width = c.requires.can_send.width;
      room = omega (arith, c.loop-stands.invariant.size, c.requires.can_send.inside);
      small = omega (arith, c.loop-stands.invariant.size, c.requires.can_send.bounded);
      inside = omega (arith, c.requires.can_send.cells);
      bounded = c.requires.can_send.stored;
      sendable =
          subst Sendable (sym (stands-at o m.records i _ empty_record less (omega (arith, c.requires.by_index i less))))
          (sendable-at (length o) (records_at o m.records) (places_at o m.from) i c.requires.can_send.all less);
    }

pub note-requires : goal.note-requires
note-requires c =
    let o = c.args.order.now in
    let few = c.requires.can_send.count in
    running-room _ _ _ _ _ _ _ _ _ _ _ _ few (omega (arith, c.loop-stands-test.true)) c.loop-stands.invariant

pub loop-stands-preserved : goal.loop-stands-preserved
loop-stands-preserved c =
    let o = c.args.order.now in
    let m = c.args.merged.now in
    let i = c.loop-stands.stands-index in
    let few = c.requires.can_send.count in
    let less : i < length o = omega (arith, c.loop-stands-test.true) in
    let stands = c.requires.by_index i less in
    running-step _ _ _ _ _ _ _ _ _ _ _ _ _ _ c.get_next_chunk-chunk.result _ _ _ less
    (stands-at o m.records i _ empty_record less (omega (arith, stands)))
    (stands-at o m.from i 0 0 less (omega (arith, stands)))
    c.loop-stands.invariant c.get_next_chunk-chunk.auto.block c.get_next_chunk-chunk.ensures c.note.ensures refl

pub returns : goal.returns
returns c =
    let a = c.args in
    built-as a.block.now _ _ _ _ (λ i. omega (arith, c.type_inv.block i)) (c.put_null.auto.block ∙ c.loop-stands.invariant.size ∙ c.fill.auto.self)
    (c.fill.ensures.after (search rules))
    (running-end _ _ _ _ _ _ _ _ _ _ _ _ _ c.requires.can_send.count (omega (arith, c.loop-stands-test.false)) c.loop-stands.invariant
    (omega (arith, c.fill.auto.self, c.requires.can_send.inside)) c.put_null.ensures)
