-- Octets are zero exactly if their bits are.
use mathlib.Core.Path.{sym, ◌∙◌}
use Rattle.dl_sdu_store.specs.Cells.{clean_past}
use Rattle.dl_sdu_store.proofs.ZeroLaws.{zero-bits_of}
use Rattle.dl_sdu_store.proofs.cell_is_zero.Goals as goal

pub returns : goal.returns
unfolding clean_past
returns c = c.all_zero.ensures ∙ sym (zero-bits_of _ (λ i. (c.type_inv.cell i).fits))
