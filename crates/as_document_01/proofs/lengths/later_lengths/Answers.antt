-- One law for each way that a continuation can go. Assumes nothing.
use mathlib.Core.Path.{refl, ◌∙◌}
use Rattle.bs_frag.proofs.Laws.{octets-up, continue-ends, continue-waits, continue-frags}
use Rattle.dl_send.specs.Document01.{starts}
use Rattle.as_document_01.proofs.lengths.later_lengths.Goals as goal

pub returns-then-size-room : goal.returns-then-size-room
unfolding starts
returns-then-size-room c =
    let left = c.saturating_sub-left in
    let octets = c.div_ceil-size in
    let a = c.args in
    λ sdu. rw (continue-ends a.room a.r sdu left.result left.ensures octets.result (octets.ensures ∙ octets-up _) c.if-size-room.true)
    (record { room = refl; wrote = refl; starts = refl })

pub returns-then-room-lt16 : goal.returns-then-room-lt16
unfolding starts
returns-then-room-lt16 c =
    let left = c.saturating_sub-left in
    let octets = c.div_ceil-size in
    let a = c.args in
    λ sdu. rw (continue-waits a.room a.r sdu left.result left.ensures octets.result (octets.ensures ∙ octets-up _) c.if-size-room.false c.if-room-lt16.true)
    (record { room = refl; wrote = refl; starts = refl })

pub returns : goal.returns
unfolding starts
returns c =
    let left = c.saturating_sub-left in
    let octets = c.div_ceil-size in
    let a = c.args in
    λ sdu. rw (continue-frags a.room a.r sdu left.result left.ensures octets.result (octets.ensures ∙ octets-up _) _ refl c.if-size-room.false
    c.if-room-lt16.false)
    (record { room = refl; wrote = refl; starts = refl })
