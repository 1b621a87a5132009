-- One law for each way that a record can begin. Assumes nothing.
use mathlib.Core.Logic.{inl, inr, ⊎_elim}
use mathlib.Core.Path.{refl}
use mathlib.Core.Bool.{true}
use Rattle.bs_frag.proofs.Laws.{begin-whole, begin-waits, begin-starts}
use Rattle.dl_send.specs.Document01.{starts}
use Rattle.as_document_01.proofs.lengths.first_lengths.Goals as goal

pub returns-then-n-room : goal.returns-then-n-room
unfolding starts
returns-then-n-room c =
    let h = c.header_size-h in
    let a = c.args in
    λ sdu. rw (begin-whole true a.room a.r sdu h.result h.ensures.0 c.compute_required-fill.result c.compute_required-fill.ensures.0
    c.if-n-room.true)
    (record { room = refl; wrote = refl; starts = refl })

pub returns-then-room-lt32 : goal.returns-then-room-lt32
unfolding starts
returns-then-room-lt32 c =
    let h = c.header_size-h in
    let a = c.args in
    λ sdu. rw (begin-waits true a.room a.r sdu h.result h.ensures.0 c.if-n-room.false (inr (⊎_elim inl (λ p. inr p.1) c.then-room-lt32.either)))
    (record { room = refl; wrote = refl; starts = refl })

pub returns : goal.returns
unfolding starts
returns c =
    let h = c.header_size-h in
    let a = c.args in
    λ sdu. rw (begin-starts true a.room a.r sdu h.result h.ensures.0 refl c.if-n-room.false c.if-room-lt32.false c.if-room-h.false)
    (record { room = refl; wrote = refl; starts = refl })
