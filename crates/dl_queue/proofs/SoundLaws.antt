-- A sound memory stays sound when a timeslot gets a list of sound records, or one more. Assumes nothing.
use Rattle.std.proofs.lemmas.Bool.{and_parts, and_from}
use mathlib.Core.Path.{◌≡◌, refl, sym, ap, ap₂, ◌∙◌, subst}
use mathlib.Core.Bool.{Bool, true, false, ◌&&◌}
use mathlib.Core.List.{List, [], ◌∷◌, ◌++◌, append_assoc}
use Prim.Native.Nat.{ℕ, zero, suc, ◌+◌, ◌-◌, ◌*◌, ◌<◌, ◌≤◌}
use native.Mathlib.Numerals.{one-add}
use native.Mathlib.Omega.{arith}
use lib.Dec.{eqb, leb, ltb}
use lib.ListN.{length, get_or, drop, take, set, replicate, length-set, length-drop, take-append-drop}
use lib.Seq.{get_or-set_same, get_or-set_other, drop-drop, drop_at, take_at, take-take, length-take-le, paste}
use Rattle.sizes.specs.Sizes.{per_timeslot, cell_octets, timeslot_octets}
use Rattle.dl_sdu_store.proofs.CellBits.{all-zeros}
use Rattle.dl_sdu_store.proofs.OctetLaws.{Octets, octets-take, octets-drop, octets-zero}
use Rattle.dl_queue.proofs.QueueLaws.{empty-cell}
use borrow.Author.Tests.{eqb-true, eqb-false, leb-true, le-leb, lt-ltb, le-ltb, ltb-true}
use Rattle.mac_pdus.proofs.Conjunctions.{and3}
use Rattle.dl_record.proofs.Tests.{same_test}
use Rattle.dl_record.proofs.RecordLaws.{is-empty}
use Rattle.dl_record.specs.declared.Record.{Record}
use Rattle.dl_record.specs.Record.{empty_record}
use Rattle.dl_record.specs.Questions.{is_empty}
use Rattle.dl_sdu_store.specs.Cells.{clean_past}
use Rattle.dl_sdu_store.proofs.ZeroLaws.{zero-bits_of}
use Rattle.dl_queue.specs.Queue.{Item, zero_cell, queue_of, records_of, cells_of, Cells}
use Rattle.dl_queue.specs.Questions.{sound_place, sound_places, sound_queue, sound_items}
use Rattle.dl_queue.proofs.PlaceLaws.{step}
use Rattle.dl_queue.proofs.PushLaws.{rec_at, cell_at, rec-shift, cell-shift, rec-new, rec-old, cell-new, cell-old}
use Rattle.dl_queue.proofs.SetLaws.{zero-size, rec-in, rec_out, cell_in, cell_out}

-- ---- place by place

later : (i n : ℕ) → ltb i (n - 1) ≡ ltb (1 + i) n
later i n =
    same_test (ltb i (n - 1)) (ltb (1 + i) n) (λ e. lt-ltb (1 + i) n (omega (arith, ltb-true i (n - 1) e)))
    (λ e. lt-ltb i (n - 1) (omega (arith, ltb-true (1 + i) n e)))

pub places-at : (k n : ℕ) (rs : List Record) (s : List ℕ) → sound_places k n rs s ≡ true → (i : ℕ) → i < k
    → sound_place (ltb i n) (rec_at rs i) (cell_at s i) ≡ true
places-at zero n rs s e i h = absurd (omega arith)
places-at (suc k) n rs s e zero h =
    (and_parts (sound_place (ltb 0 n) (rec_at rs 0) (take cell_octets s)) (sound_places k (n - 1) (drop 1 rs) (drop cell_octets s)) (sym (step k n rs s) ∙ e)).0
places-at (suc k) n rs s e (suc i) h =
    let q : sound_places k (n - 1) (drop 1 rs) (drop cell_octets s) ≡ true =
    (and_parts (sound_place (ltb 0 n) (rec_at rs 0) (take cell_octets s)) (sound_places k (n - 1) (drop 1 rs) (drop cell_octets s)) (sym (step k n rs s) ∙ e)).1 in
    let here : sound_place (ltb i (n - 1)) (rec_at (drop 1 rs) i) (cell_at (drop cell_octets s) i) ≡ true =
    places-at k (n - 1) (drop 1 rs) (drop cell_octets s) q i (omega arith) in
    ap (λ (j : ℕ). sound_place (ltb j n) (rec_at rs j) (cell_at s j)) (sym (one-add i))
    ∙ sym (ap (λ (b : Bool). sound_place b (rec_at (drop 1 rs) i) (cell_at (drop cell_octets s) i)) (later i n)
    ∙ ap₂ (sound_place (ltb (1 + i) n)) (rec-shift 1 rs i) (cell-shift 1 s i))
    ∙ here

pub places-all : (k n : ℕ) (rs : List Record) (s : List ℕ) → ((i : ℕ) → i < k → sound_place (ltb i n) (rec_at rs i) (cell_at s i) ≡ true)
    → sound_places k n rs s ≡ true
unfolding sound_places
places-all zero n rs s f = refl
places-all (suc k) n rs s f =
    step k n rs s
    ∙ and_from (sound_place (ltb 0 n) (rec_at rs 0) (take cell_octets s)) (sound_places k (n - 1) (drop 1 rs) (drop cell_octets s)) (f 0 (omega arith))
    (places-all k (n - 1) (drop 1 rs) (drop cell_octets s)
    (λ i h. ap (λ (b : Bool). sound_place b (rec_at (drop 1 rs) i) (cell_at (drop cell_octets s) i)) (later i n)
    ∙ ap₂ (sound_place (ltb (1 + i) n)) (rec-shift 1 rs i) (cell-shift 1 s i) ∙ f (1 + i) (omega arith)))

-- ---- timeslot by timeslot

pub queue-at : (ns : List ℕ) (rs : List Record) (s : List ℕ) → sound_queue ns rs s ≡ true → (u : ℕ) → u < length ns
    → (get_or ns u 0 ≤ per_timeslot) × (sound_places per_timeslot (get_or ns u 0) (drop (per_timeslot * u) rs)
    (drop (cell_octets * (per_timeslot * u)) s) ≡ true)
unfolding sound_queue
queue-at [] rs s e u h = absurd (omega arith)
queue-at (n ∷ ns) rs s e zero h =
    let p = and3 (leb n per_timeslot) (sound_places per_timeslot n rs s) (sound_queue ns (drop per_timeslot rs) (drop timeslot_octets s)) e in
    (leb-true n per_timeslot p.0, p.1)
queue-at (n ∷ ns) rs s e (suc u) h =
    let p = and3 (leb n per_timeslot) (sound_places per_timeslot n rs s) (sound_queue ns (drop per_timeslot rs) (drop timeslot_octets s)) e in
    let a : per_timeslot + per_timeslot * u ≡ per_timeslot * suc u = omega arith in
    let b : timeslot_octets + cell_octets * (per_timeslot * u) ≡ cell_octets * (per_timeslot * suc u) = omega arith in
    let q = queue-at ns (drop per_timeslot rs) (drop timeslot_octets s) p.2 u (omega arith) in (
      q.0,
      sym (ap₂ (sound_places per_timeslot (get_or ns u 0)) (drop-drop (per_timeslot * u) per_timeslot rs ∙ ap (λ (j : ℕ). drop j rs) a)
          (drop-drop (cell_octets * (per_timeslot * u)) timeslot_octets s ∙ ap (λ (j : ℕ). drop j s) b)) ∙ q.1,
    )

pub queue-all : (ns : List ℕ) (rs : List Record) (s : List ℕ)
    → ((u : ℕ) → u < length ns
    → (get_or ns u 0 ≤ per_timeslot) × (sound_places per_timeslot (get_or ns u 0) (drop (per_timeslot * u) rs)
    (drop (cell_octets * (per_timeslot * u)) s) ≡ true))
    → sound_queue ns rs s ≡ true
unfolding sound_queue
queue-all [] rs s f = refl
queue-all (n ∷ ns) rs s f =
    let one = f 0 (omega arith) in
    and_from (leb n per_timeslot && sound_places per_timeslot n rs s) (sound_queue ns (drop per_timeslot rs) (drop timeslot_octets s))
    (and_from (leb n per_timeslot) (sound_places per_timeslot n rs s) (le-leb n per_timeslot one.0) one.1)
    (queue-all ns (drop per_timeslot rs) (drop timeslot_octets s)
    (λ u h. let q = f (suc u) (omega arith) in
    let a : per_timeslot + per_timeslot * u ≡ per_timeslot * suc u = omega arith in
    let b : timeslot_octets + cell_octets * (per_timeslot * u) ≡ cell_octets * (per_timeslot * suc u) = omega arith in (
      q.0,
      ap₂ (sound_places per_timeslot (get_or ns u 0)) (drop-drop (per_timeslot * u) per_timeslot rs ∙ ap (λ (j : ℕ). drop j rs) a)
          (drop-drop (cell_octets * (per_timeslot * u)) timeslot_octets s ∙ ap (λ (j : ℕ). drop j s) b) ∙ q.1,
    )))

-- ---- lists

pub items-sound : (k n : ℕ) (rs : List Record) (s : List ℕ) → n ≤ k → sound_places k n rs s ≡ true → sound_items (queue_of n rs s) ≡ true
unfolding sound_items queue_of sound_places
items-sound k zero rs s h e = refl
items-sound zero (suc n) rs s h e = absurd (omega arith)
items-sound (suc k) (suc n) rs s h e =
    and_from (sound_place true (rec_at rs 0) (take cell_octets s)) (sound_items (queue_of n (drop 1 rs) (drop cell_octets s)))
    (and_parts (sound_place true (rec_at rs 0) (take cell_octets s)) (sound_places k n (drop 1 rs) (drop cell_octets s)) e).0
    (items-sound k n (drop 1 rs) (drop cell_octets s) (omega arith)
    (and_parts (sound_place true (rec_at rs 0) (take cell_octets s)) (sound_places k n (drop 1 rs) (drop cell_octets s)) e).1)

pub zero-clean : clean_past 0 zero_cell ≡ true
unfolding clean_past zero_cell
zero-clean = zero-bits_of (replicate cell_octets 0) (octets-zero cell_octets) ∙ all-zeros cell_octets

pub empty-sound : sound_place false empty_record zero_cell ≡ true
unfolding sound_place
empty-sound = and_from (is_empty empty_record) (clean_past 0 zero_cell) is-empty zero-clean

pub places-sound : (k : ℕ) (xs : List (Item (List ℕ))) → length xs ≤ k → Cells xs → sound_items xs ≡ true
    → sound_places k (length xs) (records_of k xs) (cells_of k xs) ≡ true
unfolding sound_places records_of cells_of Cells sound_items
places-sound zero xs b h e = refl
places-sound (suc k) [] b h e =
    ap₂ (λ (a b : List ℕ). sound_place false empty_record a && sound_places k 0 (records_of {C = List ℕ} k []) b)
    (take_at zero_cell (cells_of k []) cell_octets zero-size) (drop_at zero_cell (cells_of k []) cell_octets zero-size)
    ∙ and_from (sound_place false empty_record zero_cell) (sound_places k 0 (records_of {C = List ℕ} k []) (cells_of k [])) empty-sound
    (places-sound k [] (omega arith) h e)
places-sound (suc k) (x ∷ xs) b h e =
    ap₂ (λ (a b : List ℕ). sound_place true x.rec a && sound_places k (length xs) (records_of k xs) b) (take_at x.load (cells_of k xs) cell_octets h.0)
    (drop_at x.load (cells_of k xs) cell_octets h.0)
    ∙ and_from (sound_place true x.rec x.load) (sound_places k (length xs) (records_of k xs) (cells_of k xs))
    (and_parts (sound_place true x.rec x.load) (sound_items xs) e).0
    (places-sound k xs (omega arith) h.1 (and_parts (sound_place true x.rec x.load) (sound_items xs) e).1)

-- ---- a timeslot's list set: the memory stays sound

pub set-sound : (ns : List ℕ) (rs : List Record) (s : List ℕ) (t : ℕ) (xs : List (Item (List ℕ))) → t < length ns → length rs ≡ per_timeslot * length ns
    → length s ≡ timeslot_octets * length ns
    → length xs ≤ per_timeslot → Cells xs → sound_items xs ≡ true → sound_queue ns rs s ≡ true
    → sound_queue (set ns t (length xs)) (paste rs (per_timeslot * t) (records_of per_timeslot xs) per_timeslot)
    (paste s (cell_octets * (per_timeslot * t)) (cells_of per_timeslot xs) timeslot_octets) ≡ true
set-sound ns rs s t xs inside places size few cells sound e =
    queue-all (set ns t (length xs)) after-rs after-s (λ u h. at u (rw length-set at h) (eqb u t) refl)
  where
    after-rs : List Record
    after-rs = paste rs (per_timeslot * t) (records_of per_timeslot xs) per_timeslot

    after-s : List ℕ
    after-s = paste s (cell_octets * (per_timeslot * t)) (cells_of per_timeslot xs) timeslot_octets

    counts : (u : ℕ) → u < length ns → get_or ns u 0 ≤ per_timeslot
    counts u h = (queue-at ns rs s e u h).0

    own : sound_places per_timeslot (length xs) (records_of per_timeslot xs) (cells_of per_timeslot xs) ≡ true
    own = places-sound per_timeslot xs few cells sound

    here : sound_places per_timeslot (length xs) (drop (per_timeslot * t) after-rs) (drop (cell_octets * (per_timeslot * t)) after-s) ≡ true
    here =
        places-all per_timeslot (length xs) (drop (per_timeslot * t) after-rs) (drop (cell_octets * (per_timeslot * t)) after-s)
        (λ i h. ap₂ (sound_place (ltb i (length xs))) (rec-in ns rs s t xs inside counts places size few cells i h)
        (cell_in ns rs s t xs inside counts places size few cells i h)
        ∙ places-at per_timeslot (length xs) (records_of per_timeslot xs) (cells_of per_timeslot xs) own i h)

    at : (u : ℕ) → u < length ns → (b : Bool) → eqb u t ≡ b → (get_or (set ns t (length xs)) u 0 ≤ per_timeslot)
        × (sound_places per_timeslot (get_or (set ns t (length xs)) u 0) (drop (per_timeslot * u) after-rs)
        (drop (cell_octets * (per_timeslot * u)) after-s) ≡ true)
    at u h true b =
        let q : t ≡ u = sym (eqb-true u t b) in
        let c : get_or (set ns t (length xs)) t 0 ≡ length xs = get_or-set_same ns t (length xs) 0 inside in
        subst (λ (v : ℕ). (get_or (set ns t (length xs)) v 0 ≤ per_timeslot) ×
        (sound_places per_timeslot (get_or (set ns t (length xs)) v 0) (drop (per_timeslot * v) after-rs)
        (drop (cell_octets * (per_timeslot * v)) after-s) ≡ true)) q
        (rw c few, ap (λ (m : ℕ). sound_places per_timeslot m (drop (per_timeslot * t) after-rs) (drop (cell_octets * (per_timeslot * t)) after-s)) c ∙ here)
    at u h false b =
        let ne : u ≡ t → ⊥ = eqb-false u t b in
        let c : get_or (set ns t (length xs)) u 0 ≡ get_or ns u 0 = get_or-set_other ns t u (length xs) 0 ne in
        let old = queue-at ns rs s e u h in (
          rw c old.0,
          ap (λ (m : ℕ). sound_places per_timeslot m (drop (per_timeslot * u) after-rs) (drop (cell_octets * (per_timeslot * u)) after-s)) c
              ∙ places-all per_timeslot (get_or ns u 0) (drop (per_timeslot * u) after-rs) (drop (cell_octets * (per_timeslot * u)) after-s)
              (λ i l. ap₂ (sound_place (ltb i (get_or ns u 0))) (rec_out ns rs s t xs inside counts places size few cells u i ne l)
              (cell_out ns rs s t xs inside counts places size few cells u i ne l)
              ∙ places-at per_timeslot (get_or ns u 0) (drop (per_timeslot * u) rs) (drop (cell_octets * (per_timeslot * u)) s) old.1 i l),
        )

-- ---- one more record: the memory stays sound

pub push-sound : (ns : List ℕ) (rs : List Record) (s : List ℕ) (t n : ℕ) (r : Record) (c : List ℕ) → t < length ns → get_or ns t 0 ≡ n → n < per_timeslot
    → length rs ≡ per_timeslot * length ns → length s ≡ timeslot_octets * length ns
    → length c ≡ cell_octets → sound_place true r c ≡ true → sound_queue ns rs s ≡ true
    → sound_queue (set ns t (n + 1)) (set rs (per_timeslot * t + n) r) (paste s (cell_octets * (per_timeslot * t + n)) c cell_octets) ≡ true
push-sound ns rs s t n r c inside count few places size full sound e =
    queue-all (set ns t (n + 1)) after-rs after-s (λ u h. at u (rw length-set at h) (eqb u t) refl)
  where
    after-rs : List Record
    after-rs = set rs (per_timeslot * t + n) r

    after-s : List ℕ
    after-s = paste s (cell_octets * (per_timeslot * t + n)) c cell_octets

    counts : (u : ℕ) → u < length ns → get_or ns u 0 ≤ per_timeslot
    counts u h = (queue-at ns rs s e u h).0

    old-place : (u i : ℕ) → (per_timeslot * u + i ≡ per_timeslot * t + n → ⊥) → (b : Bool)
        → sound_place b (rec_at (drop (per_timeslot * u) after-rs) i) (cell_at (drop (cell_octets * (per_timeslot * u)) after-s) i)
        ≡ sound_place b (rec_at (drop (per_timeslot * u) rs) i) (cell_at (drop (cell_octets * (per_timeslot * u)) s) i)
    old-place u i ne b =
        ap₂ (sound_place b)
        (rec-shift (per_timeslot * u) after-rs i ∙ rec-old ns rs s t n r c inside count few counts places size full (per_timeslot * u + i) ne
        ∙ sym (rec-shift (per_timeslot * u) rs i))
        (cell-shift (per_timeslot * u) after-s i ∙ cell-old ns rs s t n r c inside count few counts places size full (per_timeslot * u + i) ne
        ∙ sym (cell-shift (per_timeslot * u) s i))

    new-place : sound_place (ltb n (n + 1)) (rec_at (drop (per_timeslot * t) after-rs) n) (cell_at (drop (cell_octets * (per_timeslot * t)) after-s) n) ≡ true
    new-place =
        ap (λ (b : Bool). sound_place b (rec_at (drop (per_timeslot * t) after-rs) n) (cell_at (drop (cell_octets * (per_timeslot * t)) after-s) n))
        (lt-ltb n (n + 1) (omega arith))
        ∙ ap₂ (sound_place true) (rec-shift (per_timeslot * t) after-rs n ∙ rec-new ns rs s t n r c inside count few counts places size full)
        (cell-shift (per_timeslot * t) after-s n ∙ cell-new ns rs s t n r c inside count few counts places size full)
        ∙ sound

    one_more : (i : ℕ) → (i ≡ n → ⊥) → ltb i (n + 1) ≡ ltb i n
    one_more i ne =
        same_test (ltb i (n + 1)) (ltb i n) (λ b. lt-ltb i n (omega (arith, ltb-true i (n + 1) b, ne))) (λ b. lt-ltb i (n + 1) (omega (arith, ltb-true i n b)))

    was : sound_places per_timeslot n (drop (per_timeslot * t) rs) (drop (cell_octets * (per_timeslot * t)) s) ≡ true
    was =
        ap (λ (m : ℕ). sound_places per_timeslot m (drop (per_timeslot * t) rs) (drop (cell_octets * (per_timeslot * t)) s)) (sym count)
        ∙ (queue-at ns rs s e t inside).1

    place : (i : ℕ) → i < per_timeslot → (b : Bool) → eqb i n ≡ b
        → sound_place (ltb i (n + 1)) (rec_at (drop (per_timeslot * t) after-rs) i) (cell_at (drop (cell_octets * (per_timeslot * t)) after-s) i) ≡ true
    place i h true b =
        subst (λ (j : ℕ). sound_place (ltb j (n + 1)) (rec_at (drop (per_timeslot * t) after-rs) j)
        (cell_at (drop (cell_octets * (per_timeslot * t)) after-s) j) ≡ true) (sym (eqb-true i n b)) new-place
    place i h false b =
        let ne : i ≡ n → ⊥ = eqb-false i n b in
        ap (λ (q : Bool). sound_place q (rec_at (drop (per_timeslot * t) after-rs) i) (cell_at (drop (cell_octets * (per_timeslot * t)) after-s) i))
        (one_more i ne)
        ∙ old-place t i (λ q. ne (omega arith)) (ltb i n) ∙ places-at per_timeslot n (drop (per_timeslot * t) rs)
        (drop (cell_octets * (per_timeslot * t)) s) was i h

    at : (u : ℕ) → u < length ns → (b : Bool) → eqb u t ≡ b → (get_or (set ns t (n + 1)) u 0 ≤ per_timeslot)
        × (sound_places per_timeslot (get_or (set ns t (n + 1)) u 0) (drop (per_timeslot * u) after-rs)
        (drop (cell_octets * (per_timeslot * u)) after-s) ≡ true)
    at u h true b =
        let q : t ≡ u = sym (eqb-true u t b) in
        let k : get_or (set ns t (n + 1)) t 0 ≡ n + 1 = get_or-set_same ns t (n + 1) 0 inside in
        let fits : n + 1 ≤ per_timeslot = omega arith in
        subst (λ (v : ℕ). (get_or (set ns t (n + 1)) v 0 ≤ per_timeslot) ×
        (sound_places per_timeslot (get_or (set ns t (n + 1)) v 0) (drop (per_timeslot * v) after-rs)
        (drop (cell_octets * (per_timeslot * v)) after-s) ≡ true)) q (
          rw k fits,
          ap (λ (m : ℕ). sound_places per_timeslot m (drop (per_timeslot * t) after-rs) (drop (cell_octets * (per_timeslot * t)) after-s)) k
              ∙ places-all per_timeslot (n + 1) (drop (per_timeslot * t) after-rs) (drop (cell_octets * (per_timeslot * t)) after-s)
              (λ i l. place i l (eqb i n) refl),
        )
    at u h false b =
        let ne : u ≡ t → ⊥ = eqb-false u t b in
        let k : get_or (set ns t (n + 1)) u 0 ≡ get_or ns u 0 = get_or-set_other ns t u (n + 1) 0 ne in
        let old = queue-at ns rs s e u h in (
          rw k old.0,
          ap (λ (m : ℕ). sound_places per_timeslot m (drop (per_timeslot * u) after-rs) (drop (cell_octets * (per_timeslot * u)) after-s)) k
              ∙ places-all per_timeslot (get_or ns u 0) (drop (per_timeslot * u) after-rs) (drop (cell_octets * (per_timeslot * u)) after-s)
              (λ i l. old-place u i (λ q. ne (omega arith)) (ltb i (get_or ns u 0))
              ∙ places-at per_timeslot (get_or ns u 0) (drop (per_timeslot * u) rs) (drop (cell_octets * (per_timeslot * u)) s) old.1 i l),
        )

-- ---- a place that is not filled has a zero cell, so a grant or ack needs no store to its cell

paste-self : (d : List ℕ) (at : ℕ) → d ≡ paste d at (take cell_octets (drop at d)) cell_octets
paste-self d at =
    sym (ap₂ (λ (a b : List ℕ). take at d ++ a ++ b) (take-take cell_octets cell_octets (drop at d) (omega arith)) (sym (drop-drop cell_octets at d))
    ∙ append_assoc (take at d) (take cell_octets (drop at d)) (drop cell_octets (drop at d))
    ∙ ap (λ (a : List ℕ). take at d ++ a) (take-append-drop cell_octets (drop at d)) ∙ take-append-drop at d)

pub unused-cell : (ns : List ℕ) (rs : List Record) (s : List ℕ) (t n : ℕ) → t < length ns → get_or ns t 0 ≡ n → n < per_timeslot
    → length s ≡ timeslot_octets * length ns → Octets s → sound_queue ns rs s ≡ true
    → s ≡ paste s (cell_octets * (per_timeslot * t + n)) zero_cell cell_octets
unused-cell ns rs s t n inside count few size octets e =
    let was : sound_places per_timeslot n (drop (per_timeslot * t) rs) (drop (cell_octets * (per_timeslot * t)) s) ≡ true =
    ap (λ (m : ℕ). sound_places per_timeslot m (drop (per_timeslot * t) rs) (drop (cell_octets * (per_timeslot * t)) s)) (sym count)
    ∙ (queue-at ns rs s e t inside).1 in
    let place : sound_place false (rec_at (drop (per_timeslot * t) rs) n) (cell_at s (per_timeslot * t + n)) ≡ true =
    ap₂ (λ (b : Bool) (c : List ℕ). sound_place b (rec_at (drop (per_timeslot * t) rs) n) c) (sym (le-ltb n n (omega arith)))
    (sym (cell-shift (per_timeslot * t) s n))
    ∙ places-at per_timeslot n (drop (per_timeslot * t) rs) (drop (cell_octets * (per_timeslot * t)) s) was n few in
    let full : length (cell_at s (per_timeslot * t + n)) ≡ cell_octets =
    length-take-le cell_octets (drop (cell_octets * (per_timeslot * t + n)) s) (rw length-drop (omega arith)) in
    let zeros : cell_at s (per_timeslot * t + n) ≡ zero_cell =
    empty-cell (rec_at (drop (per_timeslot * t) rs) n) (cell_at s (per_timeslot * t + n)) full
    (octets-take cell_octets (drop (cell_octets * (per_timeslot * t + n)) s) (octets-drop (cell_octets * (per_timeslot * t + n)) s octets)) place in
    paste-self s (cell_octets * (per_timeslot * t + n)) ∙ ap (λ (c : List ℕ). paste s (cell_octets * (per_timeslot * t + n)) c cell_octets) zeros
