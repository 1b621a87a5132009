-- After i turns what is to come says the same as the whole. Assumes nothing.
use mathlib.Core.Path.{refl, sym, ap, ◌∙◌}
use mathlib.Core.Bool.{Bool, true, ◌&&◌, not}
use native.Mathlib.Omega.{arith}
use lib.ListN.{length}
use Rattle.dl_record.specs.Record.{empty_record}
use Rattle.dl_send.specs.Arrays.{records_at}
use Rattle.dl_send.proofs.ArrayLaws.{stands-at}
use Rattle.as_document_01.proofs.TurnLaws.{and-no, and-yes, behind-start, behind-yes, behind-turn, behind-no}
use Rattle.as_document_01.proofs.lengths.starts_behind.Goals as goal
use Rattle.as_document_01.proofs.lengths.starts_behind.Goals.{in-Waits, in-Writes, in-Starts-2}

pub loop-place-init : goal.loop-place-init
loop-place-init c = behind-start _ _ _

pub bounds-records-place : goal.bounds-records-place
bounds-records-place c = c.requires.1 _ c.loop-place-test.true

pub returns-in-Starts : goal.returns-in-Starts
returns-in-Starts c =
    let a = c.args in
    let i = c.loop-place.place-index in
    behind-yes _ _ _ _ _ _ c.loop-place.invariant _ c.turn_lengths.result c.loop-place-test.true
    (stands-at a.order.now a.records.now i _ empty_record c.loop-place-test.true (omega (arith, c.requires.1 i c.loop-place-test.true, c.told-records)))
    c.turn_lengths.ensures (rw (c.in-Starts.is, c.if-not-may.true) refl)

pub loop-place-preserved : goal.loop-place-preserved
loop-place-preserved c =
    let a = c.args in
    let i = c.loop-place.place-index in
    let may = c.loop-place.may in
    let on =
    behind-turn a.w (records_at a.order.now a.records.now) (length a.order.now) may c.loop-place.room i c.loop-place.invariant _ c.turn_lengths.result
    c.loop-place-test.true
    (stands-at a.order.now a.records.now i _ empty_record c.loop-place-test.true (omega (arith, c.requires.1 i c.loop-place-test.true, c.told-records)))
    c.turn_lengths.ensures in
    elim c.match-turn_lengths.branch [
      | in-Waits w ↦ on _ w.in-Waits.is _ _ (and-no may ∙ sym w.may-is) (sym w.room-is) (and-no (not may))
      | in-Writes w ↦ on _ w.in-Writes.is _ _ (and-yes may ∙ sym w.may-is) (sym w.room-is) (and-no (not may))
      | in-Starts-2 w ↦
          on _ w.in-Starts-2.is _ _ (and-yes may ∙ sym w.may-is) (sym w.room-is) (ap (λ (b : Bool). not b && true) w.if-not-may.false)
    ]

pub returns : goal.returns
returns c = behind-no _ _ _ _ _ _ c.loop-place.invariant (omega (arith, c.loop-place-test.false))
