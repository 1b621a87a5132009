-- Cells written one after another in a new order, from a copy or in place. Assumes nothing.
use mathlib.Core.Path.{◌≡◌, refl, sym, ap, ap₂, ◌∙◌}
use mathlib.Core.Bool.{Bool, true, false, cond}
use mathlib.Core.List.{List, [], ◌∷◌, ◌++◌}
use Prim.Native.Nat.{ℕ, zero, suc, ◌+◌, ◌-◌, ◌*◌, ◌<◌, ◌≤◌}
use native.Mathlib.Omega.{arith}
use lib.Dec.{ltb}
use lib.ListN.{length, get_or, drop, take, replicate, length-append, length-drop, take-append-drop, drop_of_length-le}
use lib.Seq.{take_at, take_all, take-take, take-add, drop-drop, take-append-add, drop-append-add, length-take-le, paste, drop-paste}
use borrow.Author.Tests.{ltb-true, lt-ltb, le-ltb}
use Rattle.sizes.specs.Sizes.{per_timeslot, cell_octets, timeslot_octets}
use Rattle.dl_queue.specs.Queue.{zero_cell}
use Rattle.dl_sdu_store.proofs.CellLaws.{paste-next, paste-same}
use Rattle.dl_queue.proofs.SetLaws.{zero-size, one_cell}
use Rattle.dl_build.specs.Moved.{source_cell, arranged}

pub length-source : (s : List ℕ) (f : ℕ) → timeslot_octets ≤ length s → length (source_cell s f) ≡ cell_octets
unfolding source_cell
length-source s f h = go (ltb f per_timeslot) refl
  where
    go : (b : Bool) → ltb f per_timeslot ≡ b → length (cond b (take cell_octets (drop (cell_octets * f) s)) zero_cell) ≡ cell_octets
    go true e = length-take-le cell_octets (drop (cell_octets * f) s) (rw length-drop (omega (arith, ltb-true f per_timeslot e)))
    go false e = zero-size

pub length-arranged : (s fs : List ℕ) → timeslot_octets ≤ length s → length (arranged s fs) ≡ cell_octets * length fs
unfolding arranged
length-arranged s [] h = refl
length-arranged s (f ∷ fs) h = length-append (source_cell s f) (arranged s fs) ∙ ap₂ ◌+◌ (length-source s f h) (length-arranged s fs h) ∙ one_cell (length fs)

pub arranged-at : (s fs : List ℕ) (p : ℕ) → timeslot_octets ≤ length s → p < length fs
    → take cell_octets (drop (cell_octets * p) (arranged s fs)) ≡ source_cell s (get_or fs p 0)
unfolding arranged
arranged-at s [] p h b = absurd (omega arith)
arranged-at s (f ∷ fs) zero h b = take_at (source_cell s f) (arranged s fs) cell_octets (length-source s f h)
arranged-at s (f ∷ fs) (suc p) h b =
    let e : cell_octets * suc p ≡ length (source_cell s f) + cell_octets * p = rw length-source (omega arith) in
    ap (λ (n : ℕ). take cell_octets (drop n (source_cell s f ++ arranged s fs))) e
    ∙ ap (take cell_octets) (drop-append-add (source_cell s f) (arranged s fs) (cell_octets * p))
    ∙ arranged-at s fs p h (omega arith)

pub source-place : (s : List ℕ) (f : ℕ) → f < per_timeslot → take cell_octets (drop (cell_octets * f) s) ≡ source_cell s f
unfolding source_cell
source-place s f h = sym (ap (λ (b : Bool). cond b (take cell_octets (drop (cell_octets * f) s)) zero_cell) (lt-ltb f per_timeslot h))

pub source-none : (s : List ℕ) (f : ℕ) → per_timeslot ≤ f → zero_cell ≡ source_cell s f
unfolding source_cell
source-none s f h = sym (ap (λ (b : Bool). cond b (take cell_octets (drop (cell_octets * f) s)) zero_cell) (le-ltb f per_timeslot h))

zero-take : (z : List ℕ) → z ≡ zero_cell → take cell_octets z ≡ zero_cell
zero-take z e = ap (take cell_octets) e ∙ take_all cell_octets zero_cell (omega (arith, zero-size))

-- one more cell
module _ (d s fs : List ℕ) (room : length d ≡ timeslot_octets) (size : length s ≡ timeslot_octets) (few : length fs ≤ per_timeslot)
    (l : List ℕ) (p : ℕ) (less : p < length fs) (so_far : l ≡ paste d 0 (arranged s fs) (cell_octets * p)) where
  turn : (e : List ℕ) → take cell_octets e ≡ source_cell s (get_or fs p 0)
      → paste l (cell_octets * p) e cell_octets ≡ paste d 0 (arranged s fs) (cell_octets * (p + 1))
  turn e h =
      let whole : length (arranged s fs) ≡ cell_octets * length fs = length-arranged s fs (omega arith) in
      let at : cell_octets * p ≡ 0 + cell_octets * p = omega arith in
      let more : cell_octets * p + cell_octets ≡ cell_octets * (p + 1) = omega arith in
      ap₂ (λ (m : List ℕ) (i : ℕ). paste m i e cell_octets) so_far at
      ∙ paste-next d 0 (arranged s fs) (cell_octets * p) e cell_octets (h ∙ sym (arranged-at s fs p (omega arith) less))
      (omega arith) (omega arith)
      ∙ ap (paste d 0 (arranged s fs)) more

  pub copy-turn : get_or fs p 0 < per_timeslot
      → paste l (cell_octets * p) (drop (cell_octets * get_or fs p 0) s) cell_octets ≡ paste d 0 (arranged s fs) (cell_octets * (p + 1))
  copy-turn h = turn (drop (cell_octets * get_or fs p 0) s) (source-place s (get_or fs p 0) h)

  pub zero_turn : per_timeslot ≤ get_or fs p 0
      → paste l (cell_octets * p) (replicate cell_octets 0) cell_octets ≡ paste d 0 (arranged s fs) (cell_octets * (p + 1))
  unfolding zero_cell
  zero_turn h = turn (replicate cell_octets 0) (zero-take (replicate cell_octets 0) refl ∙ source-none s (get_or fs p 0) h)

-- what is written over the front of d, where the rest is that of d
filled : (d c : List ℕ) (k : ℕ) → drop k c ≡ drop k d → paste d 0 c k ≡ c
filled d c k e = let z : 0 + k ≡ k = omega arith in ap (λ (l : List ℕ). take k c ++ l) (ap (λ (j : ℕ). drop j d) z ∙ sym e) ∙ take-append-drop k c

-- all cells are written
pub all-written : (d s fs : List ℕ) → length d ≡ timeslot_octets → length s ≡ timeslot_octets → length fs ≡ per_timeslot
    → paste d 0 (arranged s fs) timeslot_octets ≡ arranged s fs
all-written d s fs room size all =
    let whole : length (arranged s fs) ≡ cell_octets * length fs = length-arranged s fs (omega arith) in
    filled d (arranged s fs) timeslot_octets
    (drop_of_length-le (arranged s fs) {i = timeslot_octets} (omega arith) ∙ sym (drop_of_length-le d {i = timeslot_octets} (omega arith)))

-- ---- in place: what stands behind the cells written is still that of the store

pub part-take : {A : Type 0} (l : List A) (m a n : ℕ) → a + n ≤ m → take n (drop a (take m l)) ≡ take n (drop a l)
part-take l m zero n h = take-take n m l (omega arith)
part-take [] zero (suc a) n h = refl
part-take [] (suc m) (suc a) n h = refl
part-take (x ∷ l) zero (suc a) n h = absurd (omega arith)
part-take (x ∷ l) (suc m) (suc a) n h = part-take l m a n (omega arith)

-- where a list agrees with what it would be written over, it need not be written
paste-kept : {A : Type 0} (d : List A) (at : ℕ) (s : List A) (i k : ℕ) → take k (drop (at + i) d) ≡ take k (drop i s) → at + (i + k) ≤ length d
    → i + k ≤ length s
    → paste d at s i ≡ paste d at s (i + k)
paste-kept {A} d at s i k h hd hs =
    let x : List A = paste d at s i in
    let m : ℕ = at + i in
    let behind : drop m x ≡ drop m d = drop-paste d at s i (omega arith) (omega arith) in
    sym (ap (λ (l : List A). l ++ drop (m + k) x) (sym (take-add m k x)) ∙ take-append-drop (m + k) x)
    ∙ paste-next d at s i (drop m x) k (ap (take k) behind ∙ h) hd hs

-- nor need its rest, behind the first n of k
pub paste-rest : {A : Type 0} (d : List A) (at : ℕ) (s : List A) (n k : ℕ) → n ≤ k → at + k ≤ length d → k ≤ length s
    → drop n s ≡ drop n (take k (drop at d))
    → paste d at s n ≡ paste d at s k
paste-rest d at s n k h hd hs e =
    let j : ℕ = k - n in
    let m : n + j ≡ k = omega arith in
    paste-kept d at s n j (sym (ap (take j) e ∙ part-take (drop at d) k n j (omega arith) ∙ ap (take j) (drop-drop n at d))) (omega arith) (omega arith)
    ∙ ap (paste d at s) m

module _ (d fs : List ℕ) (room : length d ≡ timeslot_octets) (few : length fs ≤ per_timeslot) where
  whole : length (arranged d fs) ≡ cell_octets * length fs
  whole = length-arranged d fs (omega arith)

  module _ (l : List ℕ) (p : ℕ) (less : p < length fs) (so_far : l ≡ paste d 0 (arranged d fs) (cell_octets * p)) where
    -- a cell that comes from this place or a later one is still there
    ahead : (f : ℕ) → p ≤ f → f < per_timeslot → take cell_octets (drop (cell_octets * f) l) ≡ source_cell d f
    ahead f h b =
        let m : ℕ = 0 + cell_octets * p in
        let e : m + cell_octets * (f - p) ≡ cell_octets * f = omega arith in
        let behind : drop m l ≡ drop m d = ap (drop m) so_far ∙ drop-paste d 0 (arranged d fs) (cell_octets * p) (omega arith) (omega (arith, whole)) in
        ap (take cell_octets)
        (ap (λ (j : ℕ). drop j l) (sym e) ∙ sym (drop-drop (cell_octets * (f - p)) m l) ∙ ap (drop (cell_octets * (f - p))) behind
        ∙ drop-drop (cell_octets * (f - p)) m d ∙ ap (λ (j : ℕ). drop j d) e)
        ∙ source-place d f b

    pub move-turn : p ≤ get_or fs p 0 → get_or fs p 0 < per_timeslot
        → paste l (cell_octets * p) (drop (cell_octets * get_or fs p 0) l) cell_octets ≡ paste d 0 (arranged d fs) (cell_octets * (p + 1))
    move-turn h b = turn d d fs room room few l p less so_far (drop (cell_octets * get_or fs p 0) l) (ahead (get_or fs p 0) h b)

    pub blank_turn : per_timeslot ≤ get_or fs p 0
        → paste l (cell_octets * p) (replicate cell_octets 0) cell_octets ≡ paste d 0 (arranged d fs) (cell_octets * (p + 1))
    blank_turn h = zero_turn d d fs room room few l p less so_far h

    -- a cell that stays is not touched
    pub stay-turn : get_or fs p 0 ≡ p → l ≡ paste d 0 (arranged d fs) (cell_octets * (p + 1))
    stay-turn e =
        let n : cell_octets * p + cell_octets ≡ cell_octets * (p + 1) = omega arith in
        let at : 0 + cell_octets * p ≡ cell_octets * p = omega arith in
        let here : take cell_octets (drop (0 + cell_octets * p) d) ≡ take cell_octets (drop (cell_octets * p) (arranged d fs)) =
        ap (λ (j : ℕ). take cell_octets (drop j d)) at ∙ source-place d p (omega arith) ∙ ap (source_cell d) (sym e)
        ∙ sym (arranged-at d fs p (omega arith) less) in
        so_far ∙ paste-kept d 0 (arranged d fs) (cell_octets * p) cell_octets here (omega arith) (omega (arith, whole)) ∙ ap (paste d 0 (arranged d fs)) n

arranged-take : (s fs : List ℕ) (n : ℕ) → timeslot_octets ≤ length s
    → take (cell_octets * n) (arranged s (take n fs)) ≡ take (cell_octets * n) (arranged s fs)
unfolding arranged
arranged-take s [] zero h = refl
arranged-take s [] (suc n) h = refl
arranged-take s (f ∷ fs) zero h = refl
arranged-take s (f ∷ fs) (suc n) h =
    let e : cell_octets * suc n ≡ length (source_cell s f) + cell_octets * n = rw length-source (omega arith) in
    ap (λ (k : ℕ). take k (source_cell s f ++ arranged s (take n fs))) e ∙ take-append-add (source_cell s f) (arranged s (take n fs)) (cell_octets * n)
    ∙ ap (◌++◌ (source_cell s f)) (arranged-take s fs n h)
    ∙ sym (ap (λ (k : ℕ). take k (source_cell s f ++ arranged s fs)) e ∙ take-append-add (source_cell s f) (arranged s fs) (cell_octets * n))

-- nor are those behind the first n, where they are to stay
pub rest-kept : (d fs : List ℕ) (n : ℕ) → length d ≡ timeslot_octets → n ≤ length fs → drop (cell_octets * n) (arranged d fs) ≡ drop (cell_octets * n) d
    → paste d 0 (arranged d (take n fs)) (cell_octets * length (take n fs)) ≡ arranged d fs
rest-kept d fs n room few e =
    let size : cell_octets * length (take n fs) ≡ cell_octets * n = ap (λ (k : ℕ). cell_octets * k) (length-take-le n fs few) in
    ap (paste d 0 (arranged d (take n fs))) size
    ∙ paste-same d 0 (arranged d (take n fs)) (arranged d fs) (cell_octets * n) (arranged-take d fs n (omega arith))
    ∙ filled d (arranged d fs) (cell_octets * n) e
