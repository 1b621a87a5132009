-- To merge places and then fetch the cells is to merge the cells. Assumes nothing.
use mathlib.Core.Path.{◌≡◌, refl, sym, ap, ap₂, ◌∙◌}
use mathlib.Core.List.{List, [], ◌∷◌, ◌++◌, map}
use Prim.Native.Nat.{ℕ, zero, suc, ◌+◌, ◌*◌, ◌<◌, ◌≤◌}
use native.Mathlib.Omega.{arith}
use lib.ListN.{length, get_or, drop, take}
use lib.Seq.{drop-drop, get_or-take, length-take-le}
use Rattle.sizes.specs.Sizes.{per_timeslot, no_place, cell_octets, timeslot_octets}
use Rattle.dl_record.specs.declared.Record.{Record}
use Rattle.dl_record.specs.Record.{empty_record}
use Rattle.dl_queue.specs.Queue.{Item, item, zero_cell, queue_of, cells_of}
use Rattle.dl_queue.proofs.PushLaws.{queue-agree}
use Rattle.dl_queue.proofs.PasteLaws.{parts-agree}
use Rattle.dl_merge.specs.Merge.{merge_cells, always, keep}
use Rattle.dl_merge.specs.Places.{counted, merge_places, sources_of}
use Rattle.dl_merge.proofs.MergeLaws.{reload, merge-map, kept-loads}
use Rattle.dl_build.specs.Moved.{source_cell, arranged}
use Rattle.dl_build.proofs.ArrangeLaws.{source-place, source-none}

-- the cell at the place that a record comes from
abbrev pub cell_from : List ℕ → Record → ℕ → List ℕ
cell_from s r f = source_cell s f

pub cells-map : (s : List ℕ) (k : ℕ) (xs : List (Item ℕ)) → arranged s (sources_of k xs) ≡ cells_of k (map (reload (cell_from s)) xs)
unfolding arranged sources_of cells_of
cells-map s zero xs = refl
cells-map s (suc k) [] = ap₂ (λ (a b : List ℕ). a ++ b) (sym (source-none s no_place (omega arith))) (cells-map s k [])
cells-map s (suc k) (x ∷ xs) = ap (λ (b : List ℕ). source_cell s x.load ++ b) (cells-map s k xs)

pub counted-queue : (s : List ℕ) (i n : ℕ) (rs : List Record) → i + n ≤ per_timeslot
    → map (reload (cell_from s)) (counted i n rs) ≡ queue_of n rs (drop (cell_octets * i) s)
unfolding counted queue_of
counted-queue s i zero rs h = refl
counted-queue s i (suc n) rs h =
    let e : cell_octets * i + cell_octets ≡ cell_octets * suc i = omega arith in
    ap₂ (λ (c : List ℕ) (l : List (Item (List ℕ))). item (get_or rs 0 empty_record) c ∷ l) (sym (source-place s i (omega arith)))
    (counted-queue s (suc i) n (drop 1 rs) (omega arith) ∙ ap (queue_of n (drop 1 rs))
    (sym (drop-drop cell_octets (cell_octets * i) s ∙ ap (λ (m : ℕ). drop m s) e)))

-- a queue is that of its own places
pub queue-part : (n : ℕ) (rs rs' : List Record) (s : List ℕ) → n ≤ per_timeslot → timeslot_octets ≤ length s
    → ((i : ℕ) → i < n → get_or rs i empty_record ≡ get_or rs' i empty_record)
    → queue_of n rs (take timeslot_octets s) ≡ queue_of n rs' s
queue-part n rs rs' s h b same =
    let whole : length (take timeslot_octets s) ≡ timeslot_octets = length-take-le timeslot_octets s b in
    queue-agree n rs rs' (take timeslot_octets s) s same
    (λ i l. parts-agree cell_octets (cell_octets * i) (cell_octets * i) (take timeslot_octets s) s (omega (arith, whole)) (omega arith)
    (λ j m. get_or-take timeslot_octets s (cell_octets * i + j) 0 (omega arith)))

pub merged-cells : (n : ℕ) (rs : List Record) (s : List ℕ) → n ≤ per_timeslot → timeslot_octets ≤ length s
    → map (reload (cell_from (take timeslot_octets s))) (merge_places (counted 0 n rs)) ≡ merge_cells (queue_of n rs s)
merged-cells n rs s h b =
    let cells : List ℕ = take timeslot_octets s in
    merge-map (cell_from cells) (always no_place) keep (always zero_cell) keep
    (kept-loads (cell_from cells) no_place zero_cell (λ g. sym (source-none cells no_place (omega arith))) (λ g r c. refl)) (counted 0 n rs)
    ∙ ap merge_cells (counted-queue cells 0 n rs (omega arith) ∙ queue-part n rs rs s h b (λ i l. refl))
