-- Bits and octets: octets to bits and back, runs of bits taken apart and put together. Assumes nothing.
use mathlib.Core.Path.{◌≡◌, refl, sym, ap, ap₂, ◌∙◌}
use mathlib.Core.List.{List, [], ◌∷◌, ◌++◌}
use Prim.Native.Nat.{ℕ, zero, suc, ◌+◌, ◌*◌, ◌^◌, ◌<◌}
use native.Mathlib.Nat.{add-suc}
use native.Mathlib.Omega.{arith}
use lib.Pow.{high, low}
use lib.ListN.{length, take, drop, get_or, set, length-drop, length-take, take-append-drop, replicate}
use lib.Seq.{drop-nil, drop-append-add, drop_at, take_at, drop-drop, take-add}
use Rattle.lists.proofs.Lists.{set-append-add}
use Rattle.bitbuffer.specs.Bits.{value_bits, bits_value, bits_of, packed, written, part, AreBits}
use Rattle.bitbuffer.proofs.Laws.{length-value_bits, value_bits-append, value_bits-mod, length-bits_of, value-field, value_bits-value}
use Rattle.bitbuffer.proofs.Laws.{bits-take, bits-drop}

-- the bits of a part, the first `a` and the rest
pub part-split : (l : List ℕ) (at a b : ℕ) → part l at (a + b) ≡ part l at a ++ part l (at + a) b
unfolding part
part-split l at a b = take-add a b (drop at l) ∙ ap (λ (m : List ℕ). take a (drop at l) ++ take b m) (drop-drop a at l)

-- the bits of two numbers, one behind the other, are those of one number
pub value_bits-join : (a b x y : ℕ) → y < 2 ^ b → value_bits a x ++ value_bits b y ≡ value_bits (a + b) (x * 2 ^ b + y)
value_bits-join a b x y h =
    ap₂ (λ (p q : List ℕ). p ++ q) (ap (value_bits a) (sym (high x b h)))
    (ap (value_bits b) (sym (low x b h)) ∙ value_bits-mod b (x * 2 ^ b + y))
    ∙ sym (value_bits-append a b (x * 2 ^ b + y))

-- past an octet
past : (x i : ℕ) → 8 * suc i ≡ length (value_bits 8 x) + 8 * i
past x i = rw length-value_bits (omega arith)

-- the bits from an octet on are those of the octets from there on
pub drop-bits_of : (q : ℕ) (s : List ℕ) → drop (8 * q) (bits_of s) ≡ bits_of (drop q s)
unfolding bits_of
drop-bits_of zero s = refl
drop-bits_of (suc q) [] = drop-nil (8 * suc q)
drop-bits_of (suc q) (x ∷ s) = rw (past x q, drop-append-add) (drop-bits_of q s)

-- a write behind a run leaves the run
pub written-add : (l m : List ℕ) (n : ℕ) (f : List ℕ) → written (l ++ m) (length l + n) f ≡ l ++ written m n f
unfolding written
written-add l m n [] = refl
written-add l m n (b ∷ f) = rw (set-append-add l m n b, ← add-suc (length l) n) (written-add l (set m n b) (suc n) f)

-- ---- bits to octets and back

-- octets to bits and back
pub packed-bits_of : (s : List ℕ) → ((i : ℕ) → get_or s i 0 < 2 ^ 8) → packed (length s) (bits_of s) ≡ s
unfolding packed bits_of
packed-bits_of [] h = refl
packed-bits_of (x ∷ s) h =
    ap₂ ◌∷◌ (ap bits_value (take_at (value_bits 8 x) (bits_of s) 8 (length-value_bits 8 x)) ∙ value-field 8 x (h 0))
    (ap (packed (length s)) (drop_at (value_bits 8 x) (bits_of s) 8 (length-value_bits 8 x)) ∙ packed-bits_of s (λ i. h (suc i)))

-- bits to octets and back
pub bits_of-packed : (n : ℕ) (l : List ℕ) → AreBits l → length l ≡ 8 * n → bits_of (packed n l) ≡ l
unfolding packed bits_of
bits_of-packed zero [] b h = refl
bits_of-packed zero (x ∷ l) b h = absurd (omega arith)
bits_of-packed (suc n) l b h =
    let eight : length (take 8 l) ≡ 8 = rw length-take (omega arith) in
    ap₂ (λ (x y : List ℕ). x ++ y)
    (ap (λ (k : ℕ). value_bits k (bits_value (take 8 l))) (sym eight) ∙ value_bits-value (take 8 l) (bits-take 8 l b))
    (bits_of-packed n (drop 8 l) (bits-drop 8 l b) (rw length-drop (omega arith)))
    ∙ take-append-drop 8 l

pub length-packed : (n : ℕ) (l : List ℕ) → length (packed n l) ≡ n
unfolding packed
length-packed zero l = refl
length-packed (suc n) l = ap suc (length-packed n (drop 8 l))

pub zeros-are-bits : (n : ℕ) → AreBits (replicate n 0)
unfolding AreBits
zeros-are-bits zero = tt
zeros-are-bits (suc n) = (omega arith, zeros-are-bits n)

-- octets with the same bits are the same octets
pub bits_of-same : (s t : List ℕ) → ((i : ℕ) → get_or s i 0 < 2 ^ 8) → ((i : ℕ) → get_or t i 0 < 2 ^ 8) → bits_of s ≡ bits_of t → s ≡ t
bits_of-same s t hs ht e =
    let n : 8 * length s ≡ 8 * length t = sym (length-bits_of s) ∙ ap length e ∙ length-bits_of t in
    let m : length s ≡ length t = omega arith in
    sym (packed-bits_of s hs) ∙ ap₂ packed m e ∙ packed-bits_of t ht
