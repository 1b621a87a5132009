-- What a write to one place does to the lists of the timeslots. Assumes nothing.
use mathlib.Core.Path.{◌≡◌, refl, sym, ap, ap₂, ◌∙◌, subst}
use mathlib.Core.Bool.{Bool, true, false}
use mathlib.Core.Logic.{⊎_elim, ◌⊎◌, inl, inr}
use mathlib.Core.List.{List, [], ◌∷◌, ◌++◌, append_assoc}
use Prim.Native.Nat.{ℕ, zero, suc, ◌+◌, ◌*◌, ◌<◌, ◌≤◌}
use native.Mathlib.Numerals.{add-one, one-add}
use native.Mathlib.Omega.{arith}
use lib.Dec.{eqb}
use lib.ListN.{length, get_or, drop, take, set, length-set}
use lib.Seq.{get_or-drop, get_or-set_same, get_or-set_other, drop-drop, length-take-le, paste, take_at, drop_at, ext_get_or, length-paste, take_all}
use borrow.Author.Tests.{eqb-true, eqb-false}
use Rattle.sizes.specs.Sizes.{per_timeslot, cell_octets, timeslot_octets}
use Rattle.dl_record.proofs.Tests.{lt-or-le}
use Rattle.dl_record.specs.declared.Record.{Record}
use Rattle.dl_record.specs.Record.{empty_record}
use Rattle.dl_queue.specs.Queue.{Item, item, queue_of, queues_of}
use Rattle.dl_queue.proofs.PasteLaws.{paste-before, paste-after, part-agree}

-- the record and the cell at a place
abbrev pub rec_at : List Record → ℕ → Record
rec_at rs i = get_or rs i empty_record

abbrev pub cell_at : List ℕ → ℕ → List ℕ
cell_at s i = take cell_octets (drop (cell_octets * i) s)

pub rec-shift : (a : ℕ) (rs : List Record) (i : ℕ) → rec_at (drop a rs) i ≡ rec_at rs (a + i)
rec-shift a rs i = get_or-drop a rs i empty_record

pub cell-shift : (a : ℕ) (s : List ℕ) (i : ℕ) → cell_at (drop (cell_octets * a) s) i ≡ cell_at s (a + i)
cell-shift a s i =
    let e : cell_octets * a + cell_octets * i ≡ cell_octets * (a + i) = omega arith in
    ap (take cell_octets) (drop-drop (cell_octets * i) (cell_octets * a) s ∙ ap (λ (n : ℕ). drop n s) e)

-- ---- a list of a timeslot by its places

pub queue-agree : (n : ℕ) (rs rs' : List Record) (s s' : List ℕ) → ((i : ℕ) → i < n → rec_at rs i ≡ rec_at rs' i)
    → ((i : ℕ) → i < n → cell_at s i ≡ cell_at s' i)
    → queue_of n rs s ≡ queue_of n rs' s'
unfolding queue_of
queue-agree zero rs rs' s s' f g = refl
queue-agree (suc n) rs rs' s s' f g =
    ap₂ (λ (x : Item (List ℕ)) (l : List (Item (List ℕ))). x ∷ l)
    (ap₂ (λ (r : Record) (c : List ℕ). item r c) (f 0 (omega arith)) (g 0 (omega arith)))
    (queue-agree n (drop 1 rs) (drop 1 rs') (drop cell_octets s) (drop cell_octets s')
    (λ i h. rec-shift 1 rs i ∙ f (1 + i) (omega arith) ∙ sym (rec-shift 1 rs' i))
    (λ i h. cell-shift 1 s i ∙ g (1 + i) (omega arith) ∙ sym (cell-shift 1 s' i)))

pub queue-snoc : (n : ℕ) (rs : List Record) (s : List ℕ) → queue_of (suc n) rs s ≡ queue_of n rs s ++ item (rec_at rs n) (cell_at s n) ∷ []
unfolding queue_of
queue-snoc zero rs s = refl
queue-snoc (suc n) rs s =
    ap (λ (l : List (Item (List ℕ))). item (rec_at rs 0) (take cell_octets s) ∷ l)
    (queue-snoc n (drop 1 rs) (drop cell_octets s)
    ∙ ap₂ (λ (r : Record) (c : List ℕ). queue_of n (drop 1 rs) (drop cell_octets s) ++ item r c ∷ [])
    (rec-shift 1 rs n ∙ ap (rec_at rs) (one-add n)) (cell-shift 1 s n ∙ ap (cell_at s) (one-add n)))

-- ---- a store to one cell

module _ (d : List ℕ) (at : ℕ) (c : List ℕ) (full : length c ≡ cell_octets) (room : at + cell_octets ≤ length d) where
  here : take cell_octets (drop at (paste d at c cell_octets)) ≡ c
  here =
      ap (λ (l : List ℕ). take cell_octets (drop at l)) (append_assoc (take at d) (take cell_octets c) (drop (at + cell_octets) d))
      ∙ ap (take cell_octets) (drop_at (take at d) (take cell_octets c ++ drop (at + cell_octets) d) at (length-take-le at d (omega arith)))
      ∙ take_at (take cell_octets c) (drop (at + cell_octets) d) cell_octets (length-take-le cell_octets c (omega arith)) ∙ take_all cell_octets c (omega arith)

module _ (s : List ℕ) (p : ℕ) (c : List ℕ) (full : length c ≡ cell_octets) (room : cell_octets * p + cell_octets ≤ length s) where
  pub cell_same : cell_at (paste s (cell_octets * p) c cell_octets) p ≡ c
  cell_same = here s (cell_octets * p) c full room

  pub cell_other : (q : ℕ) → (q ≡ p → ⊥) → cell_at (paste s (cell_octets * p) c cell_octets) q ≡ cell_at s q
  cell_other q ne =
      part-agree cell_octets (cell_octets * q) (paste s (cell_octets * p) c cell_octets) s (length-paste s (cell_octets * p) c cell_octets room (omega arith))
      (λ i h. ⊎_elim (λ b. paste-before 0 s (cell_octets * p) c cell_octets (omega arith) room (cell_octets * q + i) (omega arith))
      (λ b. paste-after 0 s (cell_octets * p) c cell_octets (omega arith) room (cell_octets * q + i) (omega arith)) (apart i h))
    where
      apart : (i : ℕ) → i < cell_octets → (q < p) ⊎ (p < q)
      apart i h = ⊎_elim (λ b. inl b) (λ b. inr (omega (arith, b, ne))) (lt-or-le q p)

-- ---- the lists of all timeslots

pub length-queues : (ns : List ℕ) (rs : List Record) (s : List ℕ) → length (queues_of ns rs s) ≡ length ns
unfolding queues_of
length-queues [] rs s = refl
length-queues (n ∷ ns) rs s = ap suc (length-queues ns (drop per_timeslot rs) (drop timeslot_octets s))

pub queues-at : (ns : List ℕ) (rs : List Record) (s : List ℕ) (u : ℕ) → u < length ns
    → get_or (queues_of ns rs s) u [] ≡ queue_of (get_or ns u 0) (drop (per_timeslot * u) rs) (drop (cell_octets * (per_timeslot * u)) s)
unfolding queues_of
queues-at [] rs s u h = absurd (omega arith)
queues-at (n ∷ ns) rs s zero h = refl
queues-at (n ∷ ns) rs s (suc u) h =
    let a : per_timeslot + per_timeslot * u ≡ per_timeslot * suc u = omega arith in
    let b : timeslot_octets + cell_octets * (per_timeslot * u) ≡ cell_octets * (per_timeslot * suc u) = omega arith in
    queues-at ns (drop per_timeslot rs) (drop timeslot_octets s) u (omega arith)
    ∙ ap₂ (λ (l : List Record) (m : List ℕ). queue_of (get_or ns u 0) l m)
    (drop-drop (per_timeslot * u) per_timeslot rs ∙ ap (λ (j : ℕ). drop j rs) a)
    (drop-drop (cell_octets * (per_timeslot * u)) timeslot_octets s ∙ ap (λ (j : ℕ). drop j s) b)

-- a record and its cell put behind the n of timeslot t: they join the end of its list, and no other list changes
module _ (ns : List ℕ) (rs : List Record) (s : List ℕ) (t n : ℕ) (r : Record) (c : List ℕ)
    (inside : t < length ns) (count : get_or ns t 0 ≡ n) (few : n < per_timeslot) (counts : (u : ℕ) → u < length ns → get_or ns u 0 ≤ per_timeslot)
    (places : length rs ≡ per_timeslot * length ns) (size : length s ≡ timeslot_octets * length ns) (full : length c ≡ cell_octets) where
  pub rec-new : rec_at (set rs (per_timeslot * t + n) r) (per_timeslot * t + n) ≡ r
  rec-new = get_or-set_same rs (per_timeslot * t + n) r empty_record (omega arith)

  pub rec-old : (q : ℕ) → (q ≡ per_timeslot * t + n → ⊥) → rec_at (set rs (per_timeslot * t + n) r) q ≡ rec_at rs q
  rec-old q ne = get_or-set_other rs (per_timeslot * t + n) q r empty_record ne

  pub cell-new : cell_at (paste s (cell_octets * (per_timeslot * t + n)) c cell_octets) (per_timeslot * t + n) ≡ c
  cell-new = cell_same s (per_timeslot * t + n) c full (omega arith)

  pub cell-old : (q : ℕ) → (q ≡ per_timeslot * t + n → ⊥) → cell_at (paste s (cell_octets * (per_timeslot * t + n)) c cell_octets) q ≡ cell_at s q
  cell-old q ne = cell_other s (per_timeslot * t + n) c full (omega arith) q ne

  -- the first m places of timeslot u, none of them the one that is written
  queue-old : (u m : ℕ) → ((i : ℕ) → i < m → per_timeslot * u + i ≡ per_timeslot * t + n → ⊥)
      → queue_of m (drop (per_timeslot * u) (set rs (per_timeslot * t + n) r))
      (drop (cell_octets * (per_timeslot * u)) (paste s (cell_octets * (per_timeslot * t + n)) c cell_octets))
      ≡ queue_of m (drop (per_timeslot * u) rs) (drop (cell_octets * (per_timeslot * u)) s)
  queue-old u m ne =
      queue-agree m (drop (per_timeslot * u) (set rs (per_timeslot * t + n) r)) (drop (per_timeslot * u) rs)
      (drop (cell_octets * (per_timeslot * u)) (paste s (cell_octets * (per_timeslot * t + n)) c cell_octets)) (drop (cell_octets * (per_timeslot * u)) s)
      (λ i h. rec-shift (per_timeslot * u) (set rs (per_timeslot * t + n) r) i ∙ rec-old (per_timeslot * u + i) (ne i h)
      ∙ sym (rec-shift (per_timeslot * u) rs i))
      (λ i h. cell-shift (per_timeslot * u) (paste s (cell_octets * (per_timeslot * t + n)) c cell_octets) i ∙ cell-old (per_timeslot * u + i) (ne i h)
      ∙ sym (cell-shift (per_timeslot * u) s i))

  queue-new : queue_of (n + 1) (drop (per_timeslot * t) (set rs (per_timeslot * t + n) r))
      (drop (cell_octets * (per_timeslot * t)) (paste s (cell_octets * (per_timeslot * t + n)) c cell_octets))
      ≡ queue_of n (drop (per_timeslot * t) rs) (drop (cell_octets * (per_timeslot * t)) s) ++ item r c ∷ []
  queue-new =
      ap (λ (m : ℕ). queue_of m (drop (per_timeslot * t) (set rs (per_timeslot * t + n) r))
      (drop (cell_octets * (per_timeslot * t)) (paste s (cell_octets * (per_timeslot * t + n)) c cell_octets))) (add-one n)
      ∙ queue-snoc n (drop (per_timeslot * t) (set rs (per_timeslot * t + n) r))
      (drop (cell_octets * (per_timeslot * t)) (paste s (cell_octets * (per_timeslot * t + n)) c cell_octets))
      ∙ ap₂ (λ (l : List (Item (List ℕ))) (x : Item (List ℕ)). l ++ x ∷ []) (queue-old t n (λ i h e. omega arith))
      (ap₂ (λ (a : Record) (b : List ℕ). item a b) (rec-shift (per_timeslot * t) (set rs (per_timeslot * t + n) r) n ∙ rec-new)
      (cell-shift (per_timeslot * t) (paste s (cell_octets * (per_timeslot * t + n)) c cell_octets) n ∙ cell-new))

  pub queues-push : queues_of (set ns t (n + 1)) (set rs (per_timeslot * t + n) r) (paste s (cell_octets * (per_timeslot * t + n)) c cell_octets)
      ≡ set (queues_of ns rs s) t (get_or (queues_of ns rs s) t [] ++ item r c ∷ [])
  queues-push = ext_get_or [] after-lists wanted sizes (λ u h. at u (rw sizes-after at h) (eqb u t) refl)
    where
      ns' : List ℕ
      ns' = set ns t (n + 1)

      after-lists : List (List (Item (List ℕ)))
      after-lists = queues_of ns' (set rs (per_timeslot * t + n) r) (paste s (cell_octets * (per_timeslot * t + n)) c cell_octets)

      wanted : List (List (Item (List ℕ)))
      wanted = set (queues_of ns rs s) t (get_or (queues_of ns rs s) t [] ++ item r c ∷ [])

      sizes-after : length after-lists ≡ length ns
      sizes-after = length-queues ns' (set rs (per_timeslot * t + n) r) (paste s (cell_octets * (per_timeslot * t + n)) c cell_octets) ∙ length-set ns t (n + 1)

      sizes : length after-lists ≡ length wanted
      sizes = sizes-after ∙ sym (length-set (queues_of ns rs s) t (get_or (queues_of ns rs s) t [] ++ item r c ∷ []) ∙ length-queues ns rs s)

      seen : (u : ℕ) → u < length ns → get_or after-lists u []
          ≡ queue_of (get_or ns' u 0) (drop (per_timeslot * u) (set rs (per_timeslot * t + n) r))
          (drop (cell_octets * (per_timeslot * u)) (paste s (cell_octets * (per_timeslot * t + n)) c cell_octets))
      seen u h = queues-at ns' (set rs (per_timeslot * t + n) r) (paste s (cell_octets * (per_timeslot * t + n)) c cell_octets) u (rw length-set h)

      here-list : get_or after-lists t [] ≡ get_or wanted t []
      here-list =
          seen t inside
          ∙ ap (λ (m : ℕ). queue_of m (drop (per_timeslot * t) (set rs (per_timeslot * t + n) r))
          (drop (cell_octets * (per_timeslot * t)) (paste s (cell_octets * (per_timeslot * t + n)) c cell_octets))) (get_or-set_same ns t (n + 1) 0 inside)
          ∙ queue-new
          ∙ ap (λ (l : List (Item (List ℕ))). l ++ item r c ∷ [])
          (sym (queues-at ns rs s t inside ∙ ap (λ (m : ℕ). queue_of m (drop (per_timeslot * t) rs) (drop (cell_octets * (per_timeslot * t)) s)) count))
          ∙ sym (get_or-set_same (queues_of ns rs s) t (get_or (queues_of ns rs s) t [] ++ item r c ∷ []) [] (rw length-queues inside))

      at : (u : ℕ) → u < length ns → (b : Bool) → eqb u t ≡ b → get_or after-lists u [] ≡ get_or wanted u []
      at u h true e = subst (λ (v : ℕ). get_or after-lists v [] ≡ get_or wanted v []) (sym (eqb-true u t e)) here-list
      at u h false e =
          let ne : u ≡ t → ⊥ = eqb-false u t e in
          seen u h
          ∙ ap (λ (m : ℕ). queue_of m (drop (per_timeslot * u) (set rs (per_timeslot * t + n) r))
          (drop (cell_octets * (per_timeslot * u)) (paste s (cell_octets * (per_timeslot * t + n)) c cell_octets))) (get_or-set_other ns t u (n + 1) 0 ne)
          ∙ queue-old u (get_or ns u 0) (λ i b q. omega (arith, counts u h, b, q, ne))
          ∙ sym (queues-at ns rs s u h) ∙ sym (get_or-set_other (queues_of ns rs s) t u (get_or (queues_of ns rs s) t [] ++ item r c ∷ []) [] ne)
