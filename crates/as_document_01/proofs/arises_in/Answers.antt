-- Merged, in order, and by lengths: by places as by cells. Assumes nothing.
use mathlib.Core.Path.{ap, ◌∙◌}
use mathlib.Core.List.{List, []}
use Prim.Native.Nat.{ℕ}
use lib.ListN.{length}
use Rattle.sizes.specs.Sizes.{block_width}
use Rattle.dl_send.specs.Arrays.{listed, records_at, places_at}
use Rattle.dl_send.specs.Document01.{arises}
use Rattle.dl_build.specs.Build.{in_order}
use Rattle.dl_build.proofs.LengthLaws.{arises-places}
use Rattle.as_document_01.proofs.arises_in.Goals as goal

pub starts_behind-requires : goal.starts_behind-requires
starts_behind-requires c =
    let o = c.dl_take_prioritized_sched_items-order in
    (c.as_slice.ensures.fits, rw c.as_slice.ensures.value o.ensures.within)

pub returns : goal.returns
returns c =
    let o = c.dl_take_prioritized_sched_items-order in
    let m = c.merged_records-merged in
    let a = c.args in
    λ cells. c.starts_behind.ensures (λ p k. []) (places_at o.result.items m.result.from)
    ∙ ap
    (λ (l : List ℕ). arises (λ p k. []) block_width (listed (length l) (records_at l m.result.records) (places_at o.result.items m.result.from)))
    c.as_slice.ensures.value
    ∙ ap (arises (λ p k. []) block_width) (o.ensures.items ∙ ap in_order m.ensures.0)
    ∙ arises-places block_width a.n a.records cells (λ p k. [])
