-- A station that is not sound, a slot with nothing to build, or the current timeslot's records. Assumes nothing.
use mathlib.Core.Path.{◌≡◌, refl, sym, ◌∙◌}
use mathlib.Core.List.{[]}
use Prim.Native.Nat.{◌*◌}
use borrow.Author.Rules.{rules}
use lib.ListN.{length, drop}
use Rattle.sizes.specs.Sizes.{per_timeslot, timeslots, cell_octets}
use Rattle.sched_core.proofs.StationLaws.{sound-time}
use Rattle.as_document_01.proofs.NowLaws.{now-unsound, few, now-idle, now-builds}
use Rattle.as_document_01.proofs.arises_now.Goals as goal

pub returns-then-not-is_sound : goal.returns-then-not-is_sound
returns-then-not-is_sound c = λ store. now-unsound c.args.station.now c.args.queue.now store (sym c.is_sound.ensures ∙ c.if-not-is_sound.true)

pub row-row-requires : goal.row-row-requires
row-row-requires c = sound-time c.args.station.now (sym c.is_sound.ensures ∙ c.if-not-is_sound.false)

pub returns-then-not-builds_at : goal.returns-then-not-builds_at
returns-then-not-builds_at c =
    let s = c.args.station.now in
    let four : length s.queued ≡ timeslots = search rules in
    λ store. now-idle s c.args.queue.now store (sym c.is_sound.ensures ∙ c.if-not-is_sound.false) four c.row-row.result _ c.row-row.ensures.0 refl
    (sym c.builds_at.ensures ∙ c.if-not-builds_at.true)

pub arises_in-requires : goal.arises_in-requires
arises_in-requires c =
    let s = c.args.station.now in
    let four : length s.queued ≡ timeslots = search rules in
    few s c.args.queue.now [] (sym c.is_sound.ensures ∙ c.if-not-is_sound.false) four c.row-row.result _ c.row-row.ensures.0 refl

pub returns : goal.returns
returns c =
    let s = c.args.station.now in
    let four : length s.queued ≡ timeslots = search rules in
    λ store. c.arises_in.ensures (drop (cell_octets * (per_timeslot * c.row-row.result)) store)
    ∙ now-builds s c.args.queue.now store (sym c.is_sound.ensures ∙ c.if-not-is_sound.false) four c.row-row.result _ c.row-row.ensures.0 refl
    (sym c.builds_at.ensures ∙ c.if-not-builds_at.false) _ c.load_timeslot.ensures
