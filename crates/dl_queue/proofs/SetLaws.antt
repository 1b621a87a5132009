-- A list put in the place of a timeslot's. Assumes nothing.
use mathlib.Core.Path.{◌≡◌, refl, sym, ap, ap₂, ◌∙◌, subst}
use mathlib.Core.Bool.{Bool, true, false}
use mathlib.Core.Logic.{⊎_elim}
use mathlib.Core.List.{List, [], ◌∷◌}
use Prim.Native.Nat.{ℕ, zero, suc, ◌+◌, ◌*◌, ◌<◌, ◌≤◌}
use native.Mathlib.Omega.{arith}
use lib.Dec.{eqb}
use lib.ListN.{length, get_or, drop, set, length-set, length-append, length-replicate}
use lib.Seq.{get_or-set_same, get_or-set_other, drop_at, take_at, paste, ext_get_or, length-paste}
use borrow.Author.Tests.{eqb-true, eqb-false}
use Rattle.sizes.specs.Sizes.{per_timeslot, cell_octets, timeslot_octets}
use Rattle.dl_record.proofs.Tests.{lt-or-le}
use Rattle.dl_record.specs.declared.Record.{Record}
use Rattle.dl_record.specs.Record.{empty_record}
use Rattle.dl_queue.specs.Queue.{Item, item, zero_cell, queue_of, queues_of, records_of, cells_of, Cells}
use Rattle.dl_queue.proofs.PasteLaws.{paste-before, paste-after, paste-inside, part-agree, parts-agree}
use Rattle.dl_queue.proofs.PushLaws.{rec_at, cell_at, rec-shift, cell-shift, queue-agree, length-queues, queues-at}

-- ---- a list, put into places and read back

pub length-records : {C : Type 0} (k : ℕ) (xs : List (Item C)) → length (records_of k xs) ≡ k
unfolding records_of
length-records zero xs = refl
length-records {C} (suc k) [] = ap suc (length-records {C = C} k [])
length-records (suc k) (x ∷ xs) = ap suc (length-records k xs)

pub zero-size : length zero_cell ≡ cell_octets
unfolding zero_cell
zero-size = length-replicate {A = ℕ} cell_octets 0

pub one_cell : (n : ℕ) → cell_octets + cell_octets * n ≡ cell_octets * suc n
one_cell n = omega arith

pub length-cells : (k : ℕ) (xs : List (Item (List ℕ))) → Cells xs → length (cells_of k xs) ≡ cell_octets * k
unfolding cells_of Cells
length-cells zero xs h = refl
length-cells (suc k) [] h = length-append zero_cell (cells_of k []) ∙ ap₂ ◌+◌ zero-size (length-cells k [] h) ∙ one_cell k
length-cells (suc k) (x ∷ xs) h = length-append x.load (cells_of k xs) ∙ ap₂ ◌+◌ h.0 (length-cells k xs h.1) ∙ one_cell k

pub queue-back : (k : ℕ) (xs : List (Item (List ℕ))) → length xs ≤ k → Cells xs → queue_of (length xs) (records_of k xs) (cells_of k xs) ≡ xs
unfolding queue_of records_of cells_of Cells
queue-back k [] b h = refl
queue-back zero (x ∷ xs) b h = absurd (omega arith)
queue-back (suc k) (x ∷ xs) b h =
    ap₂ (λ (y : Item (List ℕ)) (l : List (Item (List ℕ))). y ∷ l) (ap (λ (c : List ℕ). item x.rec c) (take_at x.load (cells_of k xs) cell_octets h.0))
    (ap (λ (s : List ℕ). queue_of (length xs) (records_of k xs) s) (drop_at x.load (cells_of k xs) cell_octets h.0) ∙ queue-back k xs (omega arith) h.1)

-- the sixteen places of timeslot t hold xs, and no other place changes: then xs is its list, and no other list changes
module _ (ns : List ℕ) (rs : List Record) (s : List ℕ) (t : ℕ) (xs : List (Item (List ℕ)))
    (inside : t < length ns) (counts : (u : ℕ) → u < length ns → get_or ns u 0 ≤ per_timeslot)
    (places : length rs ≡ per_timeslot * length ns) (size : length s ≡ timeslot_octets * length ns) (few : length xs ≤ per_timeslot) (cells : Cells xs) where
  abbrev pub rs' : List Record
  rs' = paste rs (per_timeslot * t) (records_of per_timeslot xs) per_timeslot

  abbrev pub s' : List ℕ
  s' = paste s (cell_octets * (per_timeslot * t)) (cells_of per_timeslot xs) timeslot_octets

  rec-full : per_timeslot ≤ length (records_of per_timeslot xs)
  rec-full = omega (arith, length-records per_timeslot xs)

  cells-full : timeslot_octets ≤ length (cells_of per_timeslot xs)
  cells-full = omega (arith, length-cells per_timeslot xs cells)

  pub rec-in : (i : ℕ) → i < per_timeslot → rec_at (drop (per_timeslot * t) rs') i ≡ rec_at (records_of per_timeslot xs) i
  rec-in i h =
      rec-shift (per_timeslot * t) rs' i ∙ paste-inside empty_record rs (per_timeslot * t) (records_of per_timeslot xs) per_timeslot rec-full (omega arith) i h

  pub rec_out : (u i : ℕ) → (u ≡ t → ⊥) → i < per_timeslot → rec_at (drop (per_timeslot * u) rs') i ≡ rec_at (drop (per_timeslot * u) rs) i
  rec_out u i ne h =
      rec-shift (per_timeslot * u) rs' i
      ∙ ⊎_elim (λ b. paste-before empty_record rs (per_timeslot * t) (records_of per_timeslot xs) per_timeslot rec-full (omega arith) (per_timeslot * u + i)
      (omega arith))
      (λ b. paste-after empty_record rs (per_timeslot * t) (records_of per_timeslot xs) per_timeslot rec-full (omega arith) (per_timeslot * u + i)
      (omega (arith, b, ne))) (lt-or-le u t)
      ∙ sym (rec-shift (per_timeslot * u) rs i)

  pub cell_in : (i : ℕ) → i < per_timeslot → cell_at (drop (cell_octets * (per_timeslot * t)) s') i ≡ cell_at (cells_of per_timeslot xs) i
  cell_in i h =
      let whole : length s' ≡ length s = length-paste s (cell_octets * (per_timeslot * t)) (cells_of per_timeslot xs) timeslot_octets
      (omega arith) cells-full in
      cell-shift (per_timeslot * t) s' i
      ∙ parts-agree cell_octets (cell_octets * (per_timeslot * t + i)) (cell_octets * i) s' (cells_of per_timeslot xs) (omega (arith, whole))
      (omega (arith, cells-full))
      (λ j l. let e : cell_octets * (per_timeslot * t + i) + j ≡ cell_octets * (per_timeslot * t) + (cell_octets * i + j) = omega arith in
      ap (λ (m : ℕ). get_or s' m 0) e ∙ paste-inside 0 s (cell_octets * (per_timeslot * t)) (cells_of per_timeslot xs) timeslot_octets cells-full (omega arith)
      (cell_octets * i + j) (omega arith))

  pub cell_out : (u i : ℕ) → (u ≡ t → ⊥) → i < per_timeslot
      → cell_at (drop (cell_octets * (per_timeslot * u)) s') i ≡ cell_at (drop (cell_octets * (per_timeslot * u)) s) i
  cell_out u i ne h =
      cell-shift (per_timeslot * u) s' i
      ∙ part-agree cell_octets (cell_octets * (per_timeslot * u + i)) s' s
      (length-paste s (cell_octets * (per_timeslot * t)) (cells_of per_timeslot xs) timeslot_octets (omega arith) cells-full)
      (λ j l. ⊎_elim (λ b. paste-before 0 s (cell_octets * (per_timeslot * t)) (cells_of per_timeslot xs) timeslot_octets cells-full (omega arith)
      (cell_octets * (per_timeslot * u + i) + j) (omega arith))
      (λ b. paste-after 0 s (cell_octets * (per_timeslot * t)) (cells_of per_timeslot xs) timeslot_octets cells-full (omega arith)
      (cell_octets * (per_timeslot * u + i) + j) (omega (arith, b, ne))) (lt-or-le u t))
      ∙ sym (cell-shift (per_timeslot * u) s i)

  pub queues-set : queues_of (set ns t (length xs)) rs' s' ≡ set (queues_of ns rs s) t xs
  queues-set = ext_get_or [] after wanted sizes (λ u h. at u (rw sizes-after at h) (eqb u t) refl)
    where
      ns' : List ℕ
      ns' = set ns t (length xs)

      after : List (List (Item (List ℕ)))
      after = queues_of ns' rs' s'

      wanted : List (List (Item (List ℕ)))
      wanted = set (queues_of ns rs s) t xs

      sizes-after : length after ≡ length ns
      sizes-after = length-queues ns' rs' s' ∙ length-set ns t (length xs)

      sizes : length after ≡ length wanted
      sizes = sizes-after ∙ sym (length-set (queues_of ns rs s) t xs ∙ length-queues ns rs s)

      seen : (u : ℕ) → u < length ns → get_or after u [] ≡ queue_of (get_or ns' u 0) (drop (per_timeslot * u) rs') (drop (cell_octets * (per_timeslot * u)) s')
      seen u h = queues-at ns' rs' s' u (rw length-set h)

      here : get_or after t [] ≡ get_or wanted t []
      here =
          seen t inside
          ∙ ap (λ (m : ℕ). queue_of m (drop (per_timeslot * t) rs') (drop (cell_octets * (per_timeslot * t)) s')) (get_or-set_same ns t (length xs) 0 inside)
          ∙ queue-agree (length xs) (drop (per_timeslot * t) rs') (records_of per_timeslot xs) (drop (cell_octets * (per_timeslot * t)) s')
          (cells_of per_timeslot xs)
          (λ i h. rec-in i (omega arith)) (λ i h. cell_in i (omega arith))
          ∙ queue-back per_timeslot xs few cells
          ∙ sym (get_or-set_same (queues_of ns rs s) t xs [] (rw length-queues inside))

      at : (u : ℕ) → u < length ns → (b : Bool) → eqb u t ≡ b → get_or after u [] ≡ get_or wanted u []
      at u h true e = subst (λ (v : ℕ). get_or after v [] ≡ get_or wanted v []) (sym (eqb-true u t e)) here
      at u h false e =
          let ne : u ≡ t → ⊥ = eqb-false u t e in
          let few-there : get_or ns u 0 ≤ per_timeslot = counts u h in
          seen u h
          ∙ ap (λ (m : ℕ). queue_of m (drop (per_timeslot * u) rs') (drop (cell_octets * (per_timeslot * u)) s')) (get_or-set_other ns t u (length xs) 0 ne)
          ∙ queue-agree (get_or ns u 0) (drop (per_timeslot * u) rs') (drop (per_timeslot * u) rs) (drop (cell_octets * (per_timeslot * u)) s')
          (drop (cell_octets * (per_timeslot * u)) s) (λ i b. rec_out u i ne (omega arith)) (λ i b. cell_out u i ne (omega arith))
          ∙ sym (queues-at ns rs s u h) ∙ sym (get_or-set_other (queues_of ns rs s) t u xs [] ne)
