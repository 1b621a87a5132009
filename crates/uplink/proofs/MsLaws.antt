-- What a mobile station derives from a grant: the half-slots that another block would give it exactly when the first usable slot of
-- the timeslot is the same. Assumes nothing.
use mathlib.Core.Path.{◌≡◌, refl, sym, ap, ◌∙◌}
use mathlib.Core.Logic.{◌↔◌}
use mathlib.Core.Bool.{Bool, true, false, not, cond}
use mathlib.Core.List.{List, [], ◌∷◌, ◌++◌, map, head-eq_of_cons-eq, tail-eq_of_cons-eq, nil≢cons, cons≢nil}
use Prim.Native.Nat.{ℕ, zero, suc, ◌≤◌}
use native.Mathlib.Omega.{arith}
use native.Mathlib.Nat.{add-zero, not-suc-le-zero}
use lib.ListN.{take, get_or}
use lib.Dec.{eqb}
use Rattle.sizes.specs.Sizes.{frames_searched, timeslots}
use Rattle.lists.proofs.Every.{All}
use Rattle.tdma_time.specs.Time.{clock, first_usable, usables}
use Rattle.tdma_time.proofs.UsableLaws.{usables-clock, after, usables-drop, usables-take, after_cong, after-inj, usable_of-run}
use Rattle.slot_codes.specs.Codes.{slot_counts, slots_wanted, slots_granted}
use Rattle.slot_codes.proofs.CodesLaws.{grants-what-was-wanted}
use Rattle.uplink.specs.HalfSlot.{Half, first_half, second_half, HalfSlot, View, vacant, halves_at, halves_of_slots}
use Rattle.uplink.specs.Search.{Run}
use Rattle.uplink.specs.Request.{Request, candidates, grant, verdict, capacity, halves_of, reserved_by, ms_half_slots}
use Rattle.uplink.proofs.VerdictLaws.{Granted, verdict-grant, granted-room}

-- the granted slots, without the slots passed over
pub ms-after : (t cap d n : ℕ) → ms_half_slots t cap d n ≡ halves_of_slots (halves_of cap) (usables t (after t n d) (slots_granted cap))
unfolding ms_half_slots
ms-after t cap d n =
    ap (halves_of_slots (halves_of cap)) (ap (take (slots_granted cap)) (usables-drop t n d (slots_granted cap)) ∙ whole (after t n d) (slots_granted cap))
  where
    whole : (x k : ℕ) → take k (usables t x k) ≡ usables t x k
    whole x k = ap (λ (j : ℕ). take k (usables t x j)) (sym (add-zero k)) ∙ usables-take t x k 0

halves-clock : (hs : List Half) (c d : ℕ) → clock c ≡ clock d → halves_at hs c ≡ halves_at hs d
unfolding halves_at
halves-clock [] c d h = refl
halves-clock (x ∷ hs) c d h = rw (halves-clock hs c d h, h)

-- the half-slots of slots depend on the times that the slots show
slots-clock : (hs : List Half) (cs ds : List ℕ) → map clock cs ≡ map clock ds → halves_of_slots hs cs ≡ halves_of_slots hs ds
unfolding halves_of_slots
slots-clock hs [] [] h = refl
slots-clock hs [] (d ∷ ds) h = absurd (nil≢cons h)
slots-clock hs (c ∷ cs) [] h = absurd (cons≢nil h)
slots-clock hs (c ∷ cs) (d ∷ ds) h =
    rw (slots-clock hs cs ds (tail-eq_of_cons-eq h)) (ap (λ (l : List HalfSlot). l ++ halves_of_slots hs ds) (halves-clock hs c d (head-eq_of_cons-eq h)))

head_time : List HalfSlot → ℕ
head_time [] = zero
head_time (x ∷ xs) = x.time

-- a capacity names a half at least
slots-head : (cap c : ℕ) (cs : List ℕ) → head_time (halves_of_slots (halves_of cap) (c ∷ cs)) ≡ clock c
unfolding halves_of_slots halves_of halves_at head_time
slots-head cap c cs = go (eqb cap 0) (eqb cap 15)
  where
    go : (a b : Bool) → head_time (halves_of_slots (cond a (first_half ∷ []) (cond b (second_half ∷ []) (first_half ∷ second_half ∷ []))) (c ∷ cs)) ≡ clock c
    go true b = refl
    go false true = refl
    go false false = refl

-- and a slot at least
granted-pos : (cap : ℕ) → 1 ≤ slots_granted cap
granted-pos zero = omega arith
granted-pos (suc c) = at slot_counts c (omega arith)
  where
    at : (xs : List ℕ) (i : ℕ) → All (λ x. 1 ≤ x) xs → 1 ≤ get_or xs i 1
    at [] i h = omega arith
    at (x ∷ xs) zero h = h.0
    at (x ∷ xs) (suc i) h = at xs i h.1

head-clock : (t cap x y k : ℕ) → 1 ≤ k → halves_of_slots (halves_of cap) (usables t x k) ≡ halves_of_slots (halves_of cap) (usables t y k)
    → clock (first_usable t x) ≡ clock (first_usable t y)
unfolding usables
head-clock t cap x y zero h e = absurd (not-suc-le-zero h)
head-clock t cap x y (suc k) h e = sym (slots-head cap _ _) ∙ ap head_time e ∙ slots-head cap _ _

module _ (t : ℕ) (low : 1 ≤ t) (high : t ≤ timeslots) (cap d a b : ℕ) where
  pub ms-iff : (ms_half_slots t cap d a ≡ ms_half_slots t cap d b) ↔ (clock (first_usable t a) ≡ clock (first_usable t b))
  ms-iff = (there, back)
    where
      there : ms_half_slots t cap d a ≡ ms_half_slots t cap d b → clock (first_usable t a) ≡ clock (first_usable t b)
      there e = after-inj t low high d a b (head-clock t cap _ _ (slots_granted cap) (granted-pos cap) (sym (ms-after t cap d a) ∙ e ∙ ms-after t cap d b))

      back : clock (first_usable t a) ≡ clock (first_usable t b) → ms_half_slots t cap d a ≡ ms_half_slots t cap d b
      back e = rw (ms-after t cap d a, ms-after t cap d b) (slots-clock _ _ _ (usables-clock t _ _ (after_cong t a b e d) (slots_granted cap)))

-- ---- the reserved list

module _ (v : View) (now : ℕ) (r : Request) (low : 1 ≤ r.timeslot) (high : r.timeslot ≤ timeslots) (g : Run) (h : verdict v now r ≡ grant g) where
  abbrev cap : ℕ
  cap = capacity v r.code g.slots

  -- read at the request's own time, a grant gives the half-slots that were reserved
  pub ms-derives-reserved : reserved_by v r.code (verdict v now r) ≡ ms_half_slots r.timeslot cap g.delay now
  unfolding reserved_by candidates capacity
  ms-derives-reserved =
      let k : Granted v now r g = verdict-grant v now r g h in
      let run : g.slots ≡ usables r.timeslot (after r.timeslot now g.delay) (slots_wanted r.code) =
      k.slots ∙ usable_of-run r.timeslot now frames_searched low high g.delay (slots_wanted r.code) (granted-room v now r g k) in
      ap (reserved_by v r.code) h
      ∙ ap (halves_of_slots (halves_of cap)) (run ∙ ap (usables r.timeslot _)
      (sym (grants-what-was-wanted r.code (not (vacant (v (get_or g.slots 0 0) first_half))))))
      ∙ sym (ms-after r.timeslot cap g.delay now)

  -- read in a block, exactly when the first usable slot at or after the request is the first at or after the block
  pub ms-derives-exactly : (block : ℕ)
      → (reserved_by v r.code (verdict v now r) ≡ ms_half_slots r.timeslot cap g.delay block) ↔ (clock (first_usable r.timeslot now)
      ≡ clock (first_usable r.timeslot block))
  ms-derives-exactly block =
      let iff = ms-iff r.timeslot low high cap g.delay now block in
      (λ p. iff.0 (sym ms-derives-reserved ∙ p), λ p. ms-derives-reserved ∙ iff.1 p)
