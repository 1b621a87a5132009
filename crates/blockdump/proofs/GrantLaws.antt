-- The usable slots of a grant are those of the half-slots that a mobile station derives from it. Assumes nothing.
use mathlib.Core.Path.{◌≡◌, refl, sym, ap, ap₂, ◌∙◌}
use mathlib.Core.Bool.{Bool, true, false, cond}
use mathlib.Core.List.{List, [], ◌∷◌}
use Prim.Native.Nat.{ℕ, zero, suc, ◌+◌, ◌-◌, ◌*◌, ◌≤◌}
use native.Mathlib.Nat.{add_comm, mul-zero, mul-suc}
use native.Mathlib.Omega.{arith}
use lib.Dec.{eqb}
use lib.ListN.{length, length-append, take, drop, get_or}
use Rattle.lists.proofs.Every.{All}
use Rattle.tdma_time.specs.Time.{first_usable, usables}
use Rattle.slot_codes.specs.Codes.{slot_counts, slots_granted}
use Rattle.uplink.specs.HalfSlot.{Half, first_half, second_half, halves_at, halves_of_slots}
use Rattle.uplink.specs.Request.{halves_of, ms_half_slots}
use Rattle.uplink.proofs.MsLaws.{ms-after}
use Rattle.blockdump.specs.declared.grant.Part.TheVariants.{FirstHalf, SecondHalf, Whole}
use Rattle.blockdump.specs.Grant.{part_of, part_halves, first_slot, last_slot}

-- no capacity grants more than 68 slots
pub granted-most : (cap : ℕ) → slots_granted cap ≤ 68
granted-most zero = omega arith
granted-most (suc c) = at slot_counts c (omega arith)
  where
    at : (xs : List ℕ) (i : ℕ) → All (λ x. x ≤ 68) xs → get_or xs i 1 ≤ 68
    at [] i h = omega arith
    at (x ∷ xs) zero h = h.0
    at (x ∷ xs) (suc i) h = at xs i h.1

-- the halves of a capacity's part are the capacity's
pub part-halves : (cap : ℕ) → part_halves (part_of cap) ≡ halves_of cap
unfolding halves_of
part-halves cap = go (eqb cap 0) (eqb cap 15)
  where
    go : (a b : Bool) → part_halves (cond a FirstHalf (cond b SecondHalf Whole))
        ≡ cond a (first_half ∷ []) (cond b (second_half ∷ []) (first_half ∷ second_half ∷ []))
    go true b = refl
    go false true = refl
    go false false = refl

-- the slots from `first` to `last` of a list, counted from 1
abbrev pub from_to : ℕ → ℕ → List ℕ → List ℕ
from_to first last l = take (last + 1 - first) (drop (first - 1) l)

module _ (t cap delay block : ℕ) where
  -- a mobile station derives the part of each usable slot from the first to the last, counted from the block's slot
  pub ms-from-to : ms_half_slots t cap delay block
      ≡ halves_of_slots (part_halves (part_of cap)) (from_to (first_slot delay) (last_slot cap delay) (usables t block (last_slot cap delay)))
  unfolding ms_half_slots
  ms-from-to =
      let n : delay + slots_granted cap + 1 - (delay + 1) ≡ slots_granted cap = omega arith in
      let d : delay + 1 - 1 ≡ delay = omega arith in
      rw (part-halves cap, n, d)

-- ---- how many half-slots they are

length-usables : (t n k : ℕ) → length (usables t n k) ≡ k
unfolding usables
length-usables t n zero = refl
length-usables t n (suc k) = ap suc (length-usables t (first_usable t n + 1) k)

length_at : (hs : List Half) (c : ℕ) → length (halves_at hs c) ≡ length hs
unfolding halves_at
length_at [] c = refl
length_at (h ∷ hs) c = ap suc (length_at hs c)

length-halves : (hs : List Half) (cs : List ℕ) → length (halves_of_slots hs cs) ≡ length hs * length cs
unfolding halves_of_slots
length-halves hs [] = sym (mul-zero (length hs))
length-halves hs (c ∷ cs) =
    length-append (halves_at hs c) (halves_of_slots hs cs) ∙ ap₂ ◌+◌ (length_at hs c) (length-halves hs cs) ∙ add_comm _ _
    ∙ sym (mul-suc (length hs) (length cs))

-- as many as the slots from the first to the last have of that part
pub ms-count : (t cap delay block : ℕ)
    → length (ms_half_slots t cap delay block) ≡ length (part_halves (part_of cap)) * (last_slot cap delay + 1 - first_slot delay)
ms-count t cap delay block =
    let n : delay + slots_granted cap + 1 - (delay + 1) ≡ slots_granted cap = omega arith in
    ap length (ms-after t cap delay block) ∙ length-halves (halves_of cap) _ ∙ ap (λ (k : ℕ). length (halves_of cap) * k) (length-usables t _ _)
    ∙ rw (part-halves cap, n)
