-- The places of a timeslot and the list that they hold determine each other. Assumes nothing.
use Rattle.std.proofs.lemmas.Bool.{and_parts}
use mathlib.Core.Path.{◌≡◌, refl, sym, ap, ap₂, ◌∙◌}
use mathlib.Core.Bool.{true, false}
use mathlib.Core.List.{List, [], ◌∷◌, ◌++◌, map}
use Prim.Native.Nat.{ℕ, zero, suc, ◌+◌, ◌*◌, ◌≤◌}
use native.Mathlib.Omega.{arith}
use lib.Dec.{leb}
use lib.ListN.{length, get_or, drop, take, replicate, length-drop, take-append-drop}
use lib.Seq.{length-take-le, take-add}
use borrow.Author.Tests.{leb-true}
use Rattle.sizes.specs.Sizes.{per_timeslot, cell_octets, timeslot_octets}
use Rattle.mac_pdus.proofs.Conjunctions.{and3}
use Rattle.dl_record.proofs.RecordLaws.{empty-is}
use Rattle.dl_record.specs.declared.Record.{Record}
use Rattle.dl_record.specs.Record.{empty_record}
use Rattle.dl_record.specs.Questions.{is_empty}
use Rattle.dl_sdu_store.specs.Cells.{clean_past}
use Rattle.dl_sdu_store.proofs.ZeroLaws.{zero-bits_of}
use Rattle.dl_sdu_store.proofs.CellBits.{zero-list}
use Rattle.dl_sdu_store.proofs.OctetLaws.{Octets, octets-take, octets-drop}
use Rattle.dl_queue.specs.Queue.{Queue, Item, zero_cell, queue_of, records_of, cells_of, queues_of, all_records, all_cells}
use Rattle.dl_queue.specs.Questions.{sound_place, sound_places, sound_queue}

zero-cell : (s : List ℕ) → length s ≡ cell_octets → Octets s → clean_past 0 s ≡ true → s ≡ zero_cell
unfolding zero_cell clean_past
zero-cell s l h e = zero-list s (sym (zero-bits_of s h) ∙ e) ∙ ap (λ (n : ℕ). replicate n 0) l

-- a list by its first element
first : {A : Type 0} (l : List A) (d : A) (k : ℕ) → suc k ≤ length l → take (suc k) l ≡ get_or l 0 d ∷ take k (drop 1 l)
first [] d k e = absurd (omega arith)
first (x ∷ l) d k e = refl

cells-first : (s : List ℕ) (k : ℕ) → take cell_octets s ++ take (cell_octets * k) (drop cell_octets s) ≡ take (cell_octets * suc k) s
cells-first s k =
    let e : cell_octets + cell_octets * k ≡ cell_octets * suc k = omega arith in sym (take-add cell_octets (cell_octets * k) s) ∙ ap (λ (n : ℕ). take n s) e

tail-length : {A : Type 0} (l : List A) (k : ℕ) → suc k ≤ length l → k ≤ length (drop 1 l)
tail-length l k e = rw length-drop (omega arith)

cells-length : (s : List ℕ) (k : ℕ) → cell_octets * suc k ≤ length s → cell_octets * k ≤ length (drop cell_octets s)
cells-length s k e = rw length-drop (omega arith)

cell-length : (s : List ℕ) (k : ℕ) → cell_octets * suc k ≤ length s → length (take cell_octets s) ≡ cell_octets
cell-length s k e = length-take-le cell_octets s (omega arith)

-- a place that is not filled holds the empty record, and its cell zeros
empty-record : (r : Record) (cell : List ℕ) → sound_place false r cell ≡ true → r ≡ empty_record
unfolding sound_place
empty-record r cell e = empty-is r (and_parts (is_empty r) (clean_past r.bits cell) e).0

pub empty-cell : (r : Record) (cell : List ℕ) → length cell ≡ cell_octets → Octets cell → sound_place false r cell ≡ true → cell ≡ zero_cell
unfolding sound_place
empty-cell r cell l h e =
    zero-cell cell l h
    (ap (λ (x : Record). clean_past x.bits cell) (sym (empty-record r cell e)) ∙ (and_parts (is_empty r) (clean_past r.bits cell) e).1)

-- a sound timeslot is what its list gives back
records-back : (k n : ℕ) (rs : List Record) (s : List ℕ) → n ≤ k → k ≤ length rs → sound_places k n rs s ≡ true → records_of k (queue_of n rs s) ≡ take k rs
unfolding records_of queue_of sound_places
records-back zero zero rs s b l e = refl
records-back zero (suc n) rs s b l e = absurd (omega arith)
records-back (suc k) zero rs s b l e =
    let r : Record = get_or rs 0 empty_record in
    let p : sound_place false r (take cell_octets s) ≡ true =
    (and_parts (sound_place false r (take cell_octets s)) (sound_places k zero (drop 1 rs) (drop cell_octets s)) e).0 in
    let q : sound_places k zero (drop 1 rs) (drop cell_octets s) ≡ true =
    (and_parts (sound_place false r (take cell_octets s)) (sound_places k zero (drop 1 rs) (drop cell_octets s)) e).1 in
    ap₂ (λ (x : Record) (l : List Record). x ∷ l) (sym (empty-record r (take cell_octets s) p))
    (records-back k zero (drop 1 rs) (drop cell_octets s) (omega arith) (tail-length rs k l) q)
    ∙ sym (first rs empty_record k l)
records-back (suc k) (suc n) rs s b l e =
    let r : Record = get_or rs 0 empty_record in
    let q : sound_places k n (drop 1 rs) (drop cell_octets s) ≡ true =
    (and_parts (sound_place true r (take cell_octets s)) (sound_places k n (drop 1 rs) (drop cell_octets s)) e).1 in
    ap (λ (l : List Record). r ∷ l) (records-back k n (drop 1 rs) (drop cell_octets s) (omega arith) (tail-length rs k l) q)
    ∙ sym (first rs empty_record k l)

pub cells-back : (k n : ℕ) (rs : List Record) (s : List ℕ) → n ≤ k → cell_octets * k ≤ length s → Octets s → sound_places k n rs s ≡ true
    → cells_of k (queue_of n rs s) ≡ take (cell_octets * k) s
unfolding cells_of queue_of sound_places
cells-back zero zero rs s b m h e = refl
cells-back zero (suc n) rs s b m h e = absurd (omega arith)
cells-back (suc k) zero rs s b m h e =
    let r : Record = get_or rs 0 empty_record in
    let p : sound_place false r (take cell_octets s) ≡ true =
    (and_parts (sound_place false r (take cell_octets s)) (sound_places k zero (drop 1 rs) (drop cell_octets s)) e).0 in
    let q : sound_places k zero (drop 1 rs) (drop cell_octets s) ≡ true =
    (and_parts (sound_place false r (take cell_octets s)) (sound_places k zero (drop 1 rs) (drop cell_octets s)) e).1 in
    ap₂ (λ (a b : List ℕ). a ++ b) (sym (empty-cell r (take cell_octets s) (cell-length s k m) (octets-take cell_octets s h) p))
    (cells-back k zero (drop 1 rs) (drop cell_octets s) (omega arith) (cells-length s k m) (octets-drop cell_octets s h) q)
    ∙ cells-first s k
cells-back (suc k) (suc n) rs s b m h e =
    let r : Record = get_or rs 0 empty_record in
    let q : sound_places k n (drop 1 rs) (drop cell_octets s) ≡ true =
    (and_parts (sound_place true r (take cell_octets s)) (sound_places k n (drop 1 rs) (drop cell_octets s)) e).1 in
    ap (λ (b : List ℕ). take cell_octets s ++ b) (cells-back k n (drop 1 rs) (drop cell_octets s) (omega arith) (cells-length s k m)
    (octets-drop cell_octets s h) q)
    ∙ cells-first s k

pub length-queue : (n : ℕ) (rs : List Record) (s : List ℕ) → length (queue_of n rs s) ≡ n
unfolding queue_of
length-queue zero rs s = refl
length-queue (suc n) rs s = ap suc (length-queue n (drop 1 rs) (drop cell_octets s))

-- behind a list that takes the places of a timeslot there are empty records
pub list-behind : {C : Type 0} (k n : ℕ) (xs : List (Item C)) → length xs ≤ n → drop n (records_of k xs) ≡ drop n (replicate k empty_record)
unfolding records_of
list-behind zero n xs h = refl
list-behind (suc k) zero [] h = ap (λ (l : List Record). empty_record ∷ l) (list-behind k zero [] h)
list-behind (suc k) zero (x ∷ xs) h = absurd (omega (arith, h))
list-behind (suc k) (suc n) [] h = list-behind k n [] (omega arith)
list-behind (suc k) (suc n) (x ∷ xs) h = list-behind k n xs (omega (arith, h))

-- and so there are behind the filled places of a sound timeslot
pub sound-behind : (k n : ℕ) (rs : List Record) (s : List ℕ) → n ≤ k → k ≤ length rs → sound_places k n rs s ≡ true
    → drop n (take k rs) ≡ drop n (replicate k empty_record)
sound-behind k n rs s b l e = ap (drop n) (sym (records-back k n rs s b l e)) ∙ list-behind k n (queue_of n rs s) (omega (arith, length-queue n rs s))

-- so the filled ones, with empty ones behind them, are the timeslot's
pub filled-back : (n : ℕ) (rs es : List Record) → drop n rs ≡ drop n es → take n rs ++ drop n es ≡ rs
filled-back n rs es e = ap (λ (l : List Record). take n rs ++ l) (sym e) ∙ take-append-drop n rs

-- the whole memory: the lists of all timeslots give back the counts, the records and the cells
parts : (n : ℕ) (ns : List ℕ) (rs : List Record) (s : List ℕ) → sound_queue (n ∷ ns) rs s ≡ true
    → (leb n per_timeslot ≡ true) × (sound_places per_timeslot n rs s ≡ true) × (sound_queue ns (drop per_timeslot rs) (drop timeslot_octets s) ≡ true)
unfolding sound_queue
parts n ns rs s e = and3 (leb n per_timeslot) (sound_places per_timeslot n rs s) (sound_queue ns (drop per_timeslot rs) (drop timeslot_octets s)) e

nothing_left : {A : Type 0} (l : List A) → length l ≤ 0 → [] ≡ l
nothing_left [] h = refl
nothing_left (x ∷ l) h = absurd (omega arith)

pub counts-back : (ns : List ℕ) (rs : List Record) (s : List ℕ) → map length (queues_of ns rs s) ≡ ns
unfolding queues_of
counts-back [] rs s = refl
counts-back (n ∷ ns) rs s = ap₂ (λ (m : ℕ) (l : List ℕ). m ∷ l) (length-queue n rs s) (counts-back ns (drop per_timeslot rs) (drop timeslot_octets s))

pub memory-records : (ns : List ℕ) (rs : List Record) (s : List ℕ) → length rs ≡ per_timeslot * length ns → sound_queue ns rs s ≡ true
    → all_records (queues_of ns rs s) ≡ rs
unfolding queues_of all_records
memory-records [] rs s l e = nothing_left rs (omega arith)
memory-records (n ∷ ns) rs s l e =
    let p = parts n ns rs s e in
    ap₂ (λ (a b : List Record). a ++ b) (records-back per_timeslot n rs s (leb-true n per_timeslot p.0) (omega arith) p.1)
    (memory-records ns (drop per_timeslot rs) (drop timeslot_octets s) (rw length-drop (omega arith)) p.2)
    ∙ take-append-drop per_timeslot rs

pub memory-cells : (ns : List ℕ) (rs : List Record) (s : List ℕ) → length s ≡ timeslot_octets * length ns → Octets s → sound_queue ns rs s ≡ true
    → all_cells (queues_of ns rs s) ≡ s
unfolding queues_of all_cells
memory-cells [] rs s m h e = nothing_left s (omega arith)
memory-cells (n ∷ ns) rs s m h e =
    let p = parts n ns rs s e in
    ap₂ (λ (a b : List ℕ). a ++ b) (cells-back per_timeslot n rs s (leb-true n per_timeslot p.0) (omega arith) h p.1)
    (memory-cells ns (drop per_timeslot rs) (drop timeslot_octets s) (rw length-drop (omega arith)) (octets-drop timeslot_octets s h) p.2)
    ∙ take-append-drop timeslot_octets s

-- a memory of octets that is sound, and whose lists are these
pub record HoldsQueues (qs : List (List (Item (List ℕ)))) (q : Queue) (s : List ℕ) : Type 0 where
  pub lists : queues_of q.counts q.records s ≡ qs
  pub sound : sound_queue q.counts q.records s ≡ true
  pub octets : Octets s

-- two sound memories with the same lists are equal
module _ (ns ns' : List ℕ) (rs rs' : List Record) (s s' : List ℕ)
    (l : length rs ≡ per_timeslot * length ns) (m : length s ≡ timeslot_octets * length ns) (h : Octets s) (e : sound_queue ns rs s ≡ true)
    (l' : length rs' ≡ per_timeslot * length ns') (m' : length s' ≡ timeslot_octets * length ns') (h' : Octets s') (e' : sound_queue ns' rs' s' ≡ true)
    (same : queues_of ns rs s ≡ queues_of ns' rs' s') where
  pub same-counts : ns ≡ ns'
  same-counts = sym (counts-back ns rs s) ∙ ap (map length) same ∙ counts-back ns' rs' s'

  pub same-records : rs ≡ rs'
  same-records = sym (memory-records ns rs s l e) ∙ ap all_records same ∙ memory-records ns' rs' s' l' e'

  pub same-cells : s ≡ s'
  same-cells = sym (memory-cells ns rs s m h e) ∙ ap all_cells same ∙ memory-cells ns' rs' s' m' h' e'

-- so the lists determine the memory
pub same_memory : (qs : List (List (Item (List ℕ)))) (q q' : Queue) (s s' : List ℕ)
    → length q.records ≡ per_timeslot * length q.counts → length s ≡ timeslot_octets * length q.counts
    → length q'.records ≡ per_timeslot * length q'.counts → length s' ≡ timeslot_octets * length q'.counts
    → HoldsQueues qs q s → HoldsQueues qs q' s' → (q ≡ q') × (s ≡ s')
same_memory qs q q' s s' l m l' m' h h' =
    let same : queues_of q.counts q.records s ≡ queues_of q'.counts q'.records s' = h.lists ∙ sym h'.lists in
    let counts = same-counts q.counts q'.counts q.records q'.records s s' l m h.octets h.sound l' m' h'.octets h'.sound same in
    let records = same-records q.counts q'.counts q.records q'.records s s' l m h.octets h.sound l' m' h'.octets h'.sound same in (
      λ i. record { counts = counts i; records = records i },
      same-cells q.counts q'.counts q.records q'.records s s' l m h.octets
          h.sound l' m' h'.octets h'.sound same,
    )
