-- Lists of items in arrays, read back; a cell's SDU by its place. Assumes nothing.
use mathlib.Core.Path.{◌≡◌, refl, sym, ap, ap₂, ◌∙◌}
use mathlib.Core.Bool.{false}
use mathlib.Core.Logic.{◌⊎◌, inl}
use mathlib.Core.List.{List, [], ◌∷◌, ◌++◌, map}
use Prim.Native.Nat.{ℕ, zero, suc, ◌+◌, ◌-◌, ◌*◌, ◌%◌, ◌<◌, ◌≤◌}
use native.Mathlib.Omega.{arith}
use lib.ListN.{length, get_or, take, drop}
use lib.Seq.{get_or-drop, take-take, take-append-add, drop-drop, drop-append-add}
use Rattle.lists.proofs.Every.{All}
use Rattle.sizes.specs.Sizes.{per_timeslot, no_place, cell_octets, timeslot_octets, sdu_bits}
use Rattle.bitbuffer.specs.Bits.{bits_of, value_bits, part}
use Rattle.bitbuffer.proofs.Laws.{length-value_bits}
use Rattle.bitbuffer.proofs.Octets.{drop-bits_of}
use Rattle.dl_record.specs.declared.Record.{Record}
use Rattle.dl_record.specs.Record.{empty_record}
use Rattle.dl_record.specs.Kind.{is_grant_or_ack, is_kept}
use Rattle.dl_queue.specs.Queue.{Item, item, zero_cell, records_of, cells_of, Cells}
use Rattle.dl_queue.proofs.SetLaws.{zero-size}
use Rattle.dl_merge.specs.Merge.{only, puts, merge, always, keep}
use Rattle.dl_merge.specs.Places.{counted, sources_of, merge_places}
use Rattle.dl_merge.proofs.MergeLaws.{reload}
use Rattle.bs_frag.specs.NextPdu.{sdu_at, Sendable}
use Rattle.dl_send.specs.Send.{cell_sdu}
use Rattle.dl_send.specs.Arrays.{listed, place_sdu, AllSendable}
use Rattle.dl_build.specs.Moved.{cells_at, source_cell}
use Rattle.dl_build.proofs.ArrangeLaws.{part-take, source-place}

-- ---- lists in arrays

pub listed_back : (k : ℕ) (xs : List (Item ℕ)) → length xs ≤ k → listed (length xs) (records_of k xs) (sources_of k xs) ≡ xs
unfolding listed records_of sources_of
listed_back k [] h = refl
listed_back zero (x ∷ xs) h = absurd (omega arith)
listed_back (suc k) (x ∷ xs) h = ap (◌∷◌ x) (listed_back k xs (omega arith))

-- places that are counted are listed
pub listed-counted : (i n : ℕ) (rs : List Record) (fs : List ℕ) → ((j : ℕ) → j < n → get_or fs j 0 ≡ i + j) → listed n rs fs ≡ counted i n rs
unfolding listed counted
listed-counted i zero rs fs h = refl
listed-counted i (suc n) rs fs h =
    let z : i + 0 ≡ i = omega arith in
    ap₂ (λ (f : ℕ) (xs : List (Item ℕ)). item (get_or rs 0 empty_record) f ∷ xs) (h 0 (omega arith) ∙ z)
    (listed-counted (suc i) n (drop 1 rs) (drop 1 fs)
    (λ j k. let e : i + (1 + j) ≡ suc i + j = omega arith in get_or-drop 1 fs j 0 ∙ h (1 + j) (omega arith) ∙ e))

-- only the first n are looked at
pub counted-take : (i n : ℕ) (rs : List Record) → counted i n (take n rs) ≡ counted i n rs
unfolding counted
counted-take i zero rs = refl
counted-take i (suc n) [] = refl
counted-take i (suc n) (r ∷ rs) = ap (◌∷◌ (item r i)) (counted-take (suc i) n rs)

-- ---- neither grant nor ack

abbrev Stays : {C : Type 0} → Item C → Type 0
Stays x = is_grant_or_ack x.rec.kind ≡ false

counted-stays : (i n : ℕ) (rs : List Record) → ((j : ℕ) → j < n → is_grant_or_ack (get_or rs j empty_record).kind ≡ false) → All Stays (counted i n rs)
unfolding counted
counted-stays i zero rs h = tt
counted-stays i (suc n) rs h = (
  h 0 (omega arith),
  counted-stays (suc i) n (drop 1 rs)
      (λ j k. ap (λ (r : Record). is_grant_or_ack r.kind) (get_or-drop 1 rs j empty_record) ∙ h (1 + j) (omega arith)),
)

module _ {C : Type 0} where
  none-taken : (xs : List (Item C)) → All Stays xs → only is_grant_or_ack xs ≡ []
  unfolding only
  none-taken [] h = refl
  none-taken (x ∷ xs) h = rw h.0 (none-taken xs h.1)

  all-kept : (xs : List (Item C)) → All Stays xs → only is_kept xs ≡ xs
  unfolding only
  all-kept [] h = refl
  all-kept (x ∷ xs) h = rw h.0 (ap (◌∷◌ x) (all-kept xs h.1))

-- with neither grant nor ack merging leaves the records as they are
pub merge_none : (n : ℕ) (rs : List Record) → ((j : ℕ) → j < n → is_grant_or_ack (get_or rs j empty_record).kind ≡ false)
    → merge_places (counted 0 n rs) ≡ counted 0 n rs
unfolding merge puts
merge_none n rs h =
    let xs : List (Item ℕ) = counted 0 n rs in
    let stays : All Stays xs = counted-stays 0 n rs h in
    ap₂ (λ (gs ks : List (Item ℕ)). puts (always no_place) keep gs ks) (none-taken xs stays) (all-kept xs stays)

-- a record comes from a place, or it has no SDU
abbrev pub Sourced : Item ℕ → Type 0
Sourced x = (x.load < per_timeslot) ⊎ (x.rec.bits ≡ 0)

pub counted-sourced : (i n : ℕ) (rs : List Record) → i + n ≤ per_timeslot → All Sourced (counted i n rs)
unfolding counted
counted-sourced i zero rs h = tt
counted-sourced i (suc n) rs h = (inl (omega arith), counted-sourced (suc i) n (drop 1 rs) (omega arith))

-- what holds of records holds of them with other loads
pub all-reload : {C D : Type 0} (P : Record → Type 0) (f : Record → C → D) (xs : List (Item C))
    → All (λ (y : Item D). P y.rec) (map (reload f) xs) → All (λ (x : Item C). P x.rec) xs
all-reload P f [] h = tt
all-reload P f (x ∷ xs) h = (h.0, all-reload P f xs h.1)

pub all-sendable : (xs : List (Item ℕ)) → All (λ (x : Item ℕ). Sendable x.rec) xs → AllSendable xs
unfolding AllSendable
all-sendable [] h = tt
all-sendable (x ∷ xs) h = (h.0, all-sendable xs h.1)

-- ---- the SDU of a place

take-bits_of : (n : ℕ) (s : List ℕ) → take (8 * n) (bits_of s) ≡ bits_of (take n s)
unfolding bits_of
take-bits_of zero s = refl
take-bits_of (suc n) [] = let e : 8 * suc n ≡ suc (8 * n + 7) = omega arith in ap (λ (k : ℕ). take k []) e
take-bits_of (suc n) (x ∷ s) =
    let e : 8 * suc n ≡ length (value_bits 8 x) + 8 * n = omega (arith, length-value_bits 8 x) in
    ap (λ (k : ℕ). take k (value_bits 8 x ++ bits_of s)) e ∙ take-append-add (value_bits 8 x) (bits_of s) (8 * n)
    ∙ ap (◌++◌ (value_bits 8 x)) (take-bits_of n s)

-- the SDU in the cell of a place is the one that is read at the place
pub place-sdu : (store : List ℕ) (first p n : ℕ) → p < per_timeslot → n ≤ sdu_bits
    → cell_sdu (source_cell (cells_at store first) p) n ≡ place_sdu store first p n
unfolding place_sdu sdu_at part
place-sdu store first p n h k =
    let own : p % per_timeslot ≡ p = omega arith in
    let e : cell_octets * first + cell_octets * p ≡ cell_octets * (first + p) = omega arith in
    let b : 8 * (cell_octets * (first + p)) ≡ sdu_bits * (first + p) = omega arith in
    ap (λ (c : List ℕ). take n (bits_of c))
    (sym (source-place (take timeslot_octets (drop (cell_octets * first) store)) p h)
    ∙ part-take (drop (cell_octets * first) store) timeslot_octets (cell_octets * p) cell_octets (omega arith)
    ∙ ap (take cell_octets) (drop-drop (cell_octets * p) (cell_octets * first) store ∙ ap (λ (j : ℕ). drop j store) e))
    ∙ ap (take n) (sym (take-bits_of cell_octets (drop (cell_octets * (first + p)) store)))
    ∙ take-take n sdu_bits (bits_of (drop (cell_octets * (first + p)) store)) k
    ∙ ap (take n) (sym (drop-bits_of (cell_octets * (first + p)) store) ∙ ap (λ (j : ℕ). drop j (bits_of store)) b
    ∙ ap (λ (q : ℕ). drop (sdu_bits * (first + q)) (bits_of store)) (sym own))

-- a record with no bits has no SDU, wherever it is looked for
pub no-sdu : (store cell : List ℕ) (first p n : ℕ) → n ≡ 0 → cell_sdu cell n ≡ place_sdu store first p n
unfolding place_sdu sdu_at part
no-sdu store cell first p n e = rw e

-- ---- cells behind those filled

pub cells-behind : (k n : ℕ) (xs : List (Item (List ℕ))) → length xs ≤ n → n ≤ k → Cells xs → drop (cell_octets * n) (cells_of k xs) ≡ cells_of (k - n) []
unfolding cells_of Cells
cells-behind k zero [] h b c = let e : k ≡ k - 0 = omega arith in ap (λ (m : ℕ). cells_of m []) e
cells-behind k zero (x ∷ xs) h b c = absurd (omega arith)
cells-behind zero (suc n) xs h b c = absurd (omega arith)
cells-behind (suc k) (suc n) [] h b c =
    let e : cell_octets * suc n ≡ length zero_cell + cell_octets * n = rw zero-size (omega arith) in
    ap (λ (j : ℕ). drop j (zero_cell ++ cells_of k [])) e ∙ drop-append-add zero_cell (cells_of k []) (cell_octets * n)
    ∙ cells-behind k n [] (omega arith) (omega arith) tt ∙ ap (λ (m : ℕ). cells_of m []) (let z : k - n ≡ suc k - suc n = omega arith in z)
cells-behind (suc k) (suc n) (x ∷ xs) h b c =
    let e : cell_octets * suc n ≡ length x.load + cell_octets * n = rw c.0 (omega arith) in
    ap (λ (j : ℕ). drop j (x.load ++ cells_of k xs)) e ∙ drop-append-add x.load (cells_of k xs) (cell_octets * n)
    ∙ cells-behind k n xs (omega arith) (omega arith) c.1 ∙ ap (λ (m : ℕ). cells_of m []) (let z : k - n ≡ suc k - suc n = omega arith in z)
