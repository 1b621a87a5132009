-- The empty record has no bits.
use Prim.Native.Nat.{ℕ}
use Rattle.dl_sdu_store.specs.Cells.{clean_past}
use Rattle.dl_queue.proofs.PlaceLaws.{empty-bits}
use Rattle.dl_queue.specs.Questions.{sound_place}
use Rattle.dl_queue.proofs.unfilled_is_sound.Goals as goal

pub returns : goal.returns
unfolding sound_place
returns c =
    rw (c.record_is_empty.ensures, c.cell_is_zero.ensures) (empty-bits c.args.r (λ (n : ℕ). clean_past n c.args.cell.now))
