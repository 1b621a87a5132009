-- The laws of the definitions of `specs/Bits.antt`, each for any width. Assumes nothing. The bit facts, here and in the modules named:
--   a value to bits and back     value-field, value-value_bits, value_bits-value
--   bits to octets and back      Octets: packed-bits_of, bits_of-packed, bits_of-same
--   bits at their octets         get_or-place; Chunks: written-place, pair-part, octet-part
--   reading what was written     part-written, read-written, field_back
--   what a write leaves alone    part-before, part-after, length-written; Writes: written-elsewhere
--   two writes in a row          written-append and `then` (adjacent); Writes: written-disjoint (apart)
--   fields side by side          value_bits-append; Octets: value_bits-join, part-split
use mathlib.Core.Path.{◌≡◌, refl, sym, ap, ap₂, ◌∙◌, subst}
use mathlib.Core.List.{List, [], ◌∷◌, ◌++◌, append_assoc}
use Prim.Native.Nat.{ℕ, zero, suc, ◌+◌, ◌-◌, ◌*◌, ◌/◌, ◌%◌, ◌^◌, ◌≤◌, ◌<◌}
use native.Mathlib.Nat.{add-zero, zero-add, suc-add, add_comm, mod-one, mod-lt, mod-eq_of_lt, pow-suc, one-mul, mul-one, mul_comm, mul-le-mul_left}
use native.Mathlib.Nat.{lt_of_lt_of_le}
use native.Mathlib.Numerals.{one-add}
use native.Mathlib.Omega.{arith}
use lib.Arith.{digits_lt}
use lib.Pow.{pow_mono, shl_exact, pow_pos, shr-shr, mod-pow-add, mod-mod-pow, field as pow-field, high, low}
use lib.ListN.{length, take, drop, get_or, set, length-append, length-set, length-take, length-drop, get_or-append}
use lib.Seq.{get_or_at, get_or-append-add, sets, sets-eq, drop_at, take_at, take-append_seam, length-take-le, drop-set-lt, take-set-le, drop-set-add, drop-drop}
use Rattle.lists.proofs.Every.{all_take, all_drop, all_append}
use Rattle.bitbuffer.specs.Bits.{value_bits, bits_value, bits_of, written, part, AreBits, field, Wrote}

-- ---- the bits of a number

-- a field is as wide as it says
pub length-value_bits : (w v : ℕ) → length (value_bits w v) ≡ w
unfolding value_bits
length-value_bits zero v = refl
length-value_bits (suc w) v = ap suc (length-value_bits w v)

-- the high bits and then the low bits
pub value_bits-append : (a b v : ℕ) → value_bits (a + b) v ≡ value_bits a (v / 2 ^ b) ++ value_bits b v
unfolding value_bits
value_bits-append zero b v = rw zero-add
value_bits-append (suc a) b v = rw (suc-add, shr-shr, add_comm b a, value_bits-append a b v)

-- only the low bits count
pub value_bits-mod : (w v : ℕ) → value_bits w (v % 2 ^ w) ≡ value_bits w v
unfolding value_bits
value_bits-mod zero v = refl
value_bits-mod (suc w) v =
    ap₂ ◌∷◌ (ap (λ (n : ℕ). v % 2 ^ n / 2 ^ w % 2) (sym (one-add w)) ∙ ap (λ (n : ℕ). n % 2) (pow-field v 1 w) ∙ mod-mod-pow (v / 2 ^ w) 0 1)
    (sym (value_bits-mod w (v % 2 ^ suc w))
    ∙ ap (value_bits w) (ap (λ (n : ℕ). v % 2 ^ n % 2 ^ w) (sym (one-add w)) ∙ mod-mod-pow v 1 w)
    ∙ value_bits-mod w v)

-- a value to bits and back: any number, cut to its field's width
pub value-value_bits : (w v : ℕ) → bits_value (value_bits w v) ≡ v % 2 ^ w
unfolding value_bits bits_value
value-value_bits zero v = sym (mod-one v)
value-value_bits (suc w) v =
    ap₂ (λ (n m : ℕ). v / 2 ^ w % 2 * 2 ^ n + m) (length-value_bits w v) (value-value_bits w v)
    ∙ sym (mod-pow-add v 1 w) ∙ ap (λ (n : ℕ). v % 2 ^ n) (one-add w)

-- a value to bits and back: a number that its field can hold
pub value-field : (w v : ℕ) → v < 2 ^ w → bits_value (value_bits w v) ≡ v
value-field w v h = value-value_bits w v ∙ mod-eq_of_lt h

-- the bit that counts `2 ^ j`, with `i` bits before it
pub get_or-value_bits : (i j v : ℕ) → get_or (value_bits (i + suc j) v) i 0 ≡ v / 2 ^ j % 2
unfolding value_bits
get_or-value_bits i j v =
    ap (λ (l : List ℕ). get_or l i 0) (value_bits-append i (suc j) v)
    ∙ get_or_at (value_bits i (v / 2 ^ suc j)) (v / 2 ^ j % 2) (value_bits j v) 0 i (length-value_bits i (v / 2 ^ suc j))

-- `1 << k`
pub one_shl : {k : ℕ} (w : ℕ) → k < w → 1 * 2 ^ k % 2 ^ w ≡ 2 ^ k
one_shl {k} w h = shl_exact {a = 1} 1 k w (omega arith) (omega arith) ∙ one-mul (2 ^ k)

-- ---- the bits of octets

-- eight bits to an octet
pub length-bits_of : (s : List ℕ) → length (bits_of s) ≡ 8 * length s
unfolding bits_of
length-bits_of [] = refl
length-bits_of (x ∷ s) = rw (length-append, length-value_bits, length-bits_of s) (omega arith)

-- a position past the first octet
pub past : (x i k : ℕ) → 8 * suc i + k ≡ length (value_bits 8 x) + (8 * i + k)
past x i k = rw length-value_bits (omega arith)

-- a bit of octet `i` is a bit of the list
pub get_or-bits_of : (s : List ℕ) (i k : ℕ) → i < length s → k < 8 → get_or (bits_of s) (8 * i + k) 0 ≡ get_or (value_bits 8 (get_or s i 0)) k 0
unfolding bits_of
get_or-bits_of [] i k h hk = absurd (omega arith)
get_or-bits_of (x ∷ s) zero k h hk = rw zero-add (get_or-append (value_bits 8 x) (bits_of s) 0 k (rw length-value_bits hk))
get_or-bits_of (x ∷ s) (suc i) k h hk =
    rw (past x i k, get_or-append-add) (get_or-bits_of s i k (omega arith) hk)

-- the same by the bit's position, as code finds it
at-octet : (at : ℕ) → 8 * (at / 8) + at % 8 ≡ at
at-octet at = omega arith

seven : {k : ℕ} → k < 8 → k + suc (7 - k) ≡ 8
seven h = omega arith

pub get_or-place : (s : List ℕ) (at : ℕ) → at < 8 * length s → get_or (bits_of s) at 0 ≡ get_or s (at / 8) 0 / 2 ^ (7 - at % 8) % 2
get_or-place s at h =
    ap (λ (n : ℕ). get_or (bits_of s) n 0) (sym (at-octet at)) ∙ get_or-bits_of s (at / 8) (at % 8) (omega arith) (omega arith)
    ∙ ap (λ (n : ℕ). get_or (value_bits n (get_or s (at / 8) 0)) (at % 8) 0) (sym (seven {k = at % 8} (omega arith)))
    ∙ get_or-value_bits (at % 8) (7 - at % 8) (get_or s (at / 8) 0)

-- ---- what is 0 or 1

pub bits-value_bits : (w v : ℕ) → AreBits (value_bits w v)
unfolding value_bits AreBits
bits-value_bits zero v = tt
bits-value_bits (suc w) v = (mod-lt (v / 2 ^ w) (omega arith), bits-value_bits w v)

pub bits-append : (l m : List ℕ) → AreBits l → AreBits m → AreBits (l ++ m)
unfolding AreBits
bits-append l m h k = all_append (λ (b : ℕ). b < 2) l m h k

pub bits-drop : (n : ℕ) (l : List ℕ) → AreBits l → AreBits (drop n l)
unfolding AreBits
bits-drop n l h = all_drop (λ (b : ℕ). b < 2) n l h

pub bits-take : (n : ℕ) (l : List ℕ) → AreBits l → AreBits (take n l)
unfolding AreBits
bits-take n l h = all_take (λ (b : ℕ). b < 2) n l h

pub bits-get_or : (l : List ℕ) (i : ℕ) → AreBits l → get_or l i 0 < 2
unfolding AreBits
bits-get_or [] i h = omega arith
bits-get_or (b ∷ l) zero h = h.0
bits-get_or (b ∷ l) (suc i) h = bits-get_or l i h.1

pub bits-bits_of : (s : List ℕ) → AreBits (bits_of s)
unfolding bits_of AreBits
bits-bits_of [] = tt
bits-bits_of (x ∷ s) = bits-append (value_bits 8 x) (bits_of s) (bits-value_bits 8 x) (bits-bits_of s)

-- a run of bits writes a number that its width can hold
pub bits_value-lt : (l : List ℕ) → AreBits l → bits_value l < 2 ^ length l
unfolding bits_value AreBits
bits_value-lt [] h = omega arith
bits_value-lt (b ∷ l) h = rw (pow-suc, mul_comm (2 ^ length l) 2) (digits_lt h.0 (bits_value-lt l h.1))

-- bits to a value and back
pub value_bits-value : (l : List ℕ) → AreBits l → value_bits (length l) (bits_value l) ≡ l
unfolding bits_value AreBits value_bits
value_bits-value [] h = refl
value_bits-value (b ∷ l) h =
    ap₂ ◌∷◌ (ap (λ (n : ℕ). n % 2) (high b (length l) (bits_value-lt l h.1)) ∙ mod-eq_of_lt h.0)
    (sym (value_bits-mod (length l) (b * 2 ^ length l + bits_value l)) ∙ ap (value_bits (length l)) (low b (length l) (bits_value-lt l h.1))
    ∙ value_bits-value l h.1)

-- ---- a field written

-- a write leaves the length
pub length-written : (l : List ℕ) (at : ℕ) (f : List ℕ) → length (written l at f) ≡ length l
unfolding written
length-written l at [] = refl
length-written l at (b ∷ f) = length-written (set l at b) (suc at) f ∙ length-set l at b

-- two adjacent writes are one
pub written-append : (l : List ℕ) (at : ℕ) (f g : List ℕ) → written l at (f ++ g) ≡ written (written l at f) (at + length f) g
unfolding written
written-append l at [] g = ap (λ (n : ℕ). written l n g) (sym (add-zero at))
written-append l at (b ∷ f) g = written-append (set l at b) (suc at) f g ∙ ap (λ (n : ℕ). written (written (set l at b) (suc at) f) n g) (omega arith)

-- the end of a loop that writes
pub part-done : (l : List ℕ) (at : ℕ) (m : List ℕ) (from n : ℕ) → n ≤ 0 → l ≡ written l at (part m from n)
unfolding written part
part-done l at m from zero h = refl
part-done l at m from (suc n) h = absurd (omega arith)

-- a bit of octets is 0 or 1
pub bit-lt : (s : List ℕ) (at : ℕ) → get_or (bits_of s) at 0 < 2
bit-lt s at = bits-get_or (bits_of s) at (bits-bits_of s)

-- ---- a field read

-- a part is as long as it says
pub length_part : (l : List ℕ) (at n : ℕ) → at + n ≤ length l → length (part l at n) ≡ n
unfolding part
length_part l at n h = simp (length-take, length-drop) (omega arith)

-- the end of a loop that reads
pub value-all : (l : List ℕ) (at n a : ℕ) → n ≤ 0 → a * 2 ^ n + bits_value (part l at n) ≡ a
unfolding part bits_value
value-all l at zero a h = omega arith
value-all l at (suc n) a h = absurd (omega arith)

-- a field reads as a number that its width can hold
pub part-lt : (l : List ℕ) (at n : ℕ) → AreBits l → bits_value (part l at n) < 2 ^ n
unfolding part
part-lt l at n h =
    lt_of_lt_of_le (bits_value-lt (take n (drop at l)) (bits-take n (drop at l) (bits-drop at l h))) (pow_mono (rw length-take (omega arith)))

-- what has been read is no more than what is read in all
pub sum-le : (a n r t : ℕ) → a * 2 ^ n + r ≡ t → a ≤ t
sum-le a n r t e = omega (arith, mul-le-mul_left a (pow_pos n), mul-one a)

-- ---- written, then read

pub written-sets : (l : List ℕ) (at : ℕ) (f : List ℕ) → written l at f ≡ sets l at f
unfolding written
written-sets l at [] = refl
written-sets l at (b ∷ f) = written-sets (set l at b) (suc at) f

-- what is before, the field, and what is after
pub written-eq : (l : List ℕ) (at : ℕ) (f : List ℕ) → at + length f ≤ length l → written l at f ≡ take at l ++ (f ++ drop (at + length f) l)
written-eq l at f h = written-sets l at f ∙ sets-eq f l at h ∙ append_assoc (take at l) f (drop (at + length f) l)

-- what stands from `at` on
pub drop-written : (l : List ℕ) (at : ℕ) (f : List ℕ) → at + length f ≤ length l → drop at (written l at f) ≡ f ++ drop (at + length f) l
drop-written l at f h =
    ap (drop at) (written-eq l at f h) ∙ drop_at (take at l) (f ++ drop (at + length f) l) at (length-take-le at l (omega arith))

-- reading what was written, as bits
pub part-written : (l : List ℕ) (at : ℕ) (f : List ℕ) → at + length f ≤ length l → part (written l at f) at (length f) ≡ f
unfolding part
part-written l at f h = ap (take (length f)) (drop-written l at f h) ∙ take-append_seam f (drop (at + length f) l)

-- what lies before the field is left alone
pub part-before : (l : List ℕ) (at : ℕ) (f : List ℕ) (from n : ℕ) → from + n ≤ at → part (written l at f) from n ≡ part l from n
unfolding part written
part-before l at [] from n h = refl
part-before l at (b ∷ f) from n h =
    part-before (set l at b) (suc at) f from n (omega arith)
    ∙ ap (λ (i : ℕ). take n (drop from (set l i b))) (omega arith)
    ∙ ap (take n) (drop-set-add from l (at - from) b) ∙ take-set-le n (drop from l) (at - from) b (omega arith)

-- what lies behind the field is left alone
pub part-after : (l : List ℕ) (at : ℕ) (f : List ℕ) (from n : ℕ) → at + length f ≤ from → part (written l at f) from n ≡ part l from n
unfolding part written
part-after l at [] from n h = refl
part-after l at (b ∷ f) from n h = part-after (set l at b) (suc at) f from n (omega arith) ∙ ap (take n) (drop-set-lt from l at b (omega arith))

-- a field that stands at `at` is read as its value, and what follows it stands after it
pub value-here : (l : List ℕ) (at w v : ℕ) (rest : List ℕ) → v < 2 ^ w → drop at l ≡ value_bits w v ++ rest → bits_value (part l at w) ≡ v
unfolding part
value-here l at w v rest h e =
    ap (λ (m : List ℕ). bits_value (take w m)) e ∙ ap bits_value (take_at (value_bits w v) rest w (length-value_bits w v)) ∙ value-field w v h

pub after-here : (l : List ℕ) (at w v : ℕ) (rest : List ℕ) → drop at l ≡ value_bits w v ++ rest → drop (at + w) l ≡ rest
after-here l at w v rest e =
    sym (drop-drop w at l) ∙ ap (drop w) e ∙ drop_at (value_bits w v) rest w (length-value_bits w v)

pub field-here {ℓ} : {X : Type ℓ} (l : List ℕ) (at w v : ℕ) (rest : List ℕ) (k : ℕ → ℕ → X) → v < 2 ^ w → drop at l ≡ value_bits w v ++ rest
    → field l at w k ≡ k v (at + w)
unfolding field
field-here l at w v rest k h e = ap (λ (x : ℕ). k x (at + w)) (value-here l at w v rest h e)

-- reading what was written, as a number: the field that `write_bits` wrote is the one that `read_bits` reads
pub read-written : (l : List ℕ) (at w v : ℕ) → at + w ≤ length l → v < 2 ^ w → bits_value (part (written l at (value_bits w v)) at w) ≡ v
read-written l at w v h k =
    value-here (written l at (value_bits w v)) at w v _ k (drop-written l at (value_bits w v) (rw length-value_bits h))

-- ---- one write after another

-- what `write_bits` did, as `Wrote`
pub wrote_value : {l m : List ℕ} {at end : ℕ} (w v : ℕ) → end ≡ at + w → m ≡ written l at (value_bits w v) → Wrote l at m end (value_bits w v)
wrote_value w v e h = record { ends = rw length-value_bits e; bits = h }

-- two adjacent writes, as `Wrote`
pub then : {l m n : List ℕ} {a b c : ℕ} {f g : List ℕ} → Wrote l a m b f → Wrote m b n c g → Wrote l a n c (f ++ g)
then {l} {m} {n} {a} {b} {c} {f} {g} p q =
    record {
      ends = q.ends ∙ rw (p.ends, length-append) (omega arith);
      bits = q.bits ∙ rw (p.bits, p.ends) (sym (written-append l a f g));
    }

-- ---- reading back

-- `read` finds `a` where the bits `f` stand, and goes on where what follows them stands: so `P` holds of what it comes to
abbrev pub Back {ℓ} : {A : Type 0} {X : Type ℓ} → (List ℕ → ℕ → (A → ℕ → X) → X) → List ℕ → A → Type (ℓ ⊔ 1)
Back {A} {X} read f a =
    (l : List ℕ) (at : ℕ) (rest : List ℕ) (k : A → ℕ → X) (P : X → Type 0) → drop at l ≡ f ++ rest
    → ((after : ℕ) → drop after l ≡ rest → P (k a after)) → P (read l at k)

pub field_back {ℓ} : {X : Type ℓ} (w v : ℕ) → v < 2 ^ w → Back {X = X} (λ l at k. field l at w k) (value_bits w v) v
field_back w v h l at rest k P e go = subst P (sym (field-here l at w v rest k h e)) (go (at + w) (after-here l at w v rest e))
