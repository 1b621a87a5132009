-- A started record goes on, any other begins. Assumes nothing.
use mathlib.Core.Path.{sym, ◌∙◌}
use mathlib.Core.Bool.{true}
use Rattle.bs_frag.proofs.Laws.{next-later, next-first}
use Rattle.as_document_01.proofs.lengths.turn_lengths.Goals as goal

pub returns-then-is_started : goal.returns-then-is_started
returns-then-is_started c =
    let a = c.args in
    λ sdu. rw (next-later true a.room a.r sdu (sym c.is_started.ensures ∙ c.if-is_started.true)) (c.later_lengths.ensures sdu)

pub returns-else-is_started : goal.returns-else-is_started
returns-else-is_started c =
    let a = c.args in
    λ sdu. rw (next-first true a.room a.r sdu (sym c.is_started.ensures ∙ c.if-is_started.false)) (c.first_lengths.ensures sdu)
