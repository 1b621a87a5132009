-- A run of bits read, written or copied octet by octet: what is done in one octet, and a turn of a loop over them. Assumes nothing.
use mathlib.Core.Path.{◌≡◌, refl, sym, ap, ap₂, ◌∙◌, subst}
use mathlib.Core.List.{List, [], ◌∷◌, ◌++◌, append_assoc, append-nil}
use mathlib.Core.Bool.{Bool, true, false}
use Prim.Native.Nat.{ℕ, zero, suc, ◌+◌, ◌-◌, ◌*◌, ◌/◌, ◌%◌, ◌^◌, ◌≤◌, ◌<◌}
use native.Mathlib.Nat.{zero-add, add-zero, add-mul, zero-mul, mul_assoc, mod-lt, mod-eq_of_lt, zero-div, div-one}
use native.Mathlib.Numerals.{add-one}
use native.Mathlib.Omega.{arith}
use lib.Arith.{digits_lt}
use lib.Bits.{bit_or, or_shifted}
use lib.Pow.{pow-add, pow_pos, shl_exact, shr_lt, shr-shr, high}
use borrow.Author.Tests.{leb-true, leb-false}
use lib.Dec.{leb}
use lib.ListN.{length, take, drop, get_or, set, replicate, length-append, length-drop, length-set}
use lib.Seq.{set-append_left, drop_at, take_at, drop-cons, drop-drop, drop-append-le, take-append-le, take_all, take-take}
use Rattle.std.proofs.lemmas.List.{drop-take, take-replicate, drop-replicate}
use Rattle.bitbuffer.specs.Bits.{value_bits, bits_value, bits_of, written, part}
use Rattle.bitbuffer.proofs.Laws.{length-value_bits, value_bits-append, value_bits-mod, one_shl, written-append, written-eq, length_part, length-bits_of}
use Rattle.bitbuffer.proofs.Laws.{past, value-field}
use Rattle.bitbuffer.proofs.Octets.{part-split, value_bits-join, drop-bits_of, written-add}

-- ---- bits of an octet replaced

-- `x` with the `n` bits before its last `b` replaced
abbrev pub with_bits : ℕ → ℕ → ℕ → ℕ → ℕ
with_bits x n b v = (x / 2 ^ (n + b) * 2 ^ n + v) * 2 ^ b + x % 2 ^ b

-- a write in the middle of a run
pub written-middle : (p q f r : List ℕ) (k : ℕ) → length p ≡ k → length q ≡ length f → written (p ++ (q ++ r)) k f ≡ p ++ (f ++ r)
written-middle p q f r k e h =
    ap (λ (n : ℕ). written (p ++ (q ++ r)) n f) (sym e ∙ sym (add-zero (length p)))
    ∙ written-add p (q ++ r) 0 f
    ∙ ap (◌++◌ p) (written-eq (q ++ r) 0 f (rw length-append (omega arith)) ∙ ap (◌++◌ f) (drop_at q r (0 + length f) (omega arith)))

-- the bits of that number
pub with_bits-written : (k n b x v : ℕ) → v < 2 ^ n
    → value_bits (k + n + b) (with_bits x n b v) ≡ written (value_bits (k + n + b) x) k (value_bits n v)
with_bits-written k n b x v h =
    let q = x / 2 ^ (n + b) in
    sym (value_bits-join (k + n) b (q * 2 ^ n + v) (x % 2 ^ b) (mod-lt x (pow_pos b)))
    ∙ ap₂ (λ (l m : List ℕ). l ++ m) (sym (value_bits-join k n q v h)) (value_bits-mod b x)
    ∙ append_assoc (value_bits k q) (value_bits n v) (value_bits b x)
    ∙ sym (written-middle (value_bits k q) (value_bits n (x / 2 ^ b)) (value_bits n v) (value_bits b x) k (length-value_bits k q)
    (rw (length-value_bits n (x / 2 ^ b), length-value_bits n v)))
    ∙ ap (λ (l : List ℕ). written l k (value_bits n v)) (sym parted)
  where
    parted : value_bits (k + n + b) x ≡ value_bits k (x / 2 ^ (n + b)) ++ (value_bits n (x / 2 ^ b) ++ value_bits b x)
    parted =
        value_bits-append (k + n) b x
        ∙ ap (λ (l : List ℕ). l ++ value_bits b x) (value_bits-append k n (x / 2 ^ b) ∙ ap (λ (m : ℕ). value_bits k m ++ value_bits n (x / 2 ^ b))
        (shr-shr x b n ∙ ap (λ (m : ℕ). x / 2 ^ m) (omega arith)))
        ∙ append_assoc (value_bits k (x / 2 ^ (n + b))) (value_bits n (x / 2 ^ b)) (value_bits b x)

-- the number as a machine of `w` bits works it out
pub with_bits-or : (k n b x v w : ℕ) → x < 2 ^ (k + (n + b)) → v < 2 ^ n → k + n + b < w
    → bit_or (bit_or (x / 2 ^ (n + b) * 2 ^ n % 2 ^ w) v * 2 ^ b % 2 ^ w) (x % (1 * 2 ^ b % 2 ^ w)) ≡ with_bits x n b v
with_bits-or k n b x v w hx hv hw =
    ap₂ (λ (p q : ℕ). bit_or (p * 2 ^ b % 2 ^ w) (x % q)) (ap (λ (p : ℕ). bit_or p v) (shl_exact k n w top (omega arith)) ∙ or_shifted q n v hv)
    (one_shl w (omega arith))
    ∙ ap (λ (p : ℕ). bit_or p (x % 2 ^ b)) (shl_exact (k + n) b w (rw (pow-add 2 k n) (digits_lt top hv)) (omega arith))
    ∙ or_shifted (q * 2 ^ n + v) b (x % 2 ^ b) (mod-lt x (pow_pos b))
  where
    q : ℕ
    q = x / 2 ^ (n + b)

    top : x / 2 ^ (n + b) < 2 ^ k
    top = shr_lt k (n + b) hx

-- of an octet, as `with_bits` works it out
pub octet-written : (x k n v : ℕ) → x < 2 ^ 8 → k + n ≤ 8 → v < 2 ^ n
    → value_bits 8
    (bit_or (bit_or (x / 2 ^ (n + (8 - (k + n))) * 2 ^ n % 2 ^ 64) v * 2 ^ (8 - (k + n)) % 2 ^ 64) (x % (1 * 2 ^ (8 - (k + n)) % 2 ^ 64)) % 256)
    ≡ written (value_bits 8 x) k (value_bits n v)
octet-written x k n v small h fits =
    let low = 8 - (k + n) in
    let three : 8 ≡ k + (n + low) = omega arith in
    let eight : k + n + low ≡ 8 = omega arith in
    value_bits-mod 8 _
    ∙ ap (value_bits 8) (with_bits-or k n low x v 64 (subst (λ (m : ℕ). x < 2 ^ m) three small) fits (omega arith))
    ∙ subst (λ (m : ℕ). value_bits m (with_bits x n low v) ≡ written (value_bits m x) k (value_bits n v)) eight (with_bits-written k n low x v fits)

-- all eight bits of an octet replaced
pub octet-whole : (x k n v : ℕ) → n ≡ 8 → k + n ≤ 8 → value_bits 8 v ≡ written (value_bits 8 x) k (value_bits n v)
octet-whole x k n v e h =
    let none : 0 ≡ k = omega arith in
    sym (append-nil (value_bits 8 v))
    ∙ sym (written-middle [] (value_bits 8 x) (value_bits 8 v) [] 0 refl (rw (length-value_bits 8 v, length-value_bits 8 x)))
    ∙ ap (λ (l : List ℕ). written l 0 (value_bits 8 v)) (append-nil (value_bits 8 x))
    ∙ ap₂ (λ (i m : ℕ). written (value_bits 8 x) i (value_bits m v)) none (sym e)

-- ---- bits of octet `i` replaced are bits of the list replaced

-- a write in the first of two runs
pub written-left : (l m : List ℕ) (at : ℕ) (f : List ℕ) → at + length f ≤ length l → written (l ++ m) at f ≡ written l at f ++ m
unfolding written
written-left l m at [] h = refl
written-left l m at (b ∷ f) h =
    ap (λ (k : List ℕ). written k (suc at) f) (set-append_left l m at b (omega arith)) ∙ written-left (set l at b) m (suc at) f (rw length-set (omega arith))

pub written-octet : (s : List ℕ) (i k : ℕ) (f : List ℕ) (y : ℕ) → i < length s → k + length f ≤ 8 → value_bits 8 y ≡ written (value_bits 8 (get_or s i 0)) k f
    → bits_of (set s i y) ≡ written (bits_of s) (8 * i + k) f
unfolding bits_of
written-octet [] i k f y h hk e = absurd (omega arith)
written-octet (x ∷ s) zero k f y h hk e =
    rw (e, zero-add) (sym (written-left (value_bits 8 x) (bits_of s) k f (rw length-value_bits hk)))
written-octet (x ∷ s) (suc i) k f y h hk e = rw (past x i k, written-add, written-octet s i k f y (omega arith) hk e)

-- the same by the position of the bits, as code finds it
pub written-place : (s : List ℕ) (at n v y : ℕ) → at < 8 * length s → at % 8 + n ≤ 8
    → value_bits 8 y ≡ written (value_bits 8 (get_or s (at / 8) 0)) (at % 8) (value_bits n v) → bits_of (set s (at / 8) y) ≡ written (bits_of s) at (value_bits n v)
written-place s at n v y h hn e =
    written-octet s (at / 8) (at % 8) (value_bits n v) y (omega arith) (rw length-value_bits hn) e
    ∙ ap (λ (m : ℕ). written (bits_of s) m (value_bits n v)) (omega arith)

-- one bit
pub written_one : (l : List ℕ) (at b : ℕ) → b < 2 → written l at (value_bits 1 b) ≡ set l at b
unfolding written value_bits
written_one l at b h = ap (set l at) (ap (λ (m : ℕ). m % 2) (div-one b) ∙ mod-eq_of_lt h)

-- ---- up to eight bits read out of two octets

-- bits in the middle of a number
pub part-value_bits : (a b c v : ℕ) → part (value_bits (a + (b + c)) v) a b ≡ value_bits b (v / 2 ^ c)
unfolding part
part-value_bits a b c v =
    ap (λ (l : List ℕ). take b (drop a l)) (value_bits-append a (b + c) v)
    ∙ ap (take b) (drop_at (value_bits a (v / 2 ^ (b + c))) (value_bits (b + c) v) a (length-value_bits a (v / 2 ^ (b + c))))
    ∙ ap (take b) (value_bits-append b c v)
    ∙ take_at (value_bits b (v / 2 ^ c)) (value_bits c v) b (length-value_bits b (v / 2 ^ c))

-- a part of the first of two runs
pub part_left : (l m : List ℕ) (at n : ℕ) → at + n ≤ length l → part (l ++ m) at n ≡ part l at n
unfolding part
part_left l m at n h =
    ap (take n) (drop-append-le at l m (omega arith)) ∙ take-append-le n (drop at l) m (rw length-drop (omega arith))

-- bits of octets, where the `w` bits from octet `i` on are those of a number
pub part-number : (s : List ℕ) (i k n c w v : ℕ) (rest : List ℕ) → bits_of (drop i s) ≡ value_bits w v ++ rest → k + (n + c) ≡ w
    → part (bits_of s) (8 * i + k) n ≡ value_bits n (v / 2 ^ c)
unfolding part
part-number s i k n c w v rest e h =
    ap (take n) (sym (drop-drop k (8 * i) (bits_of s)) ∙ ap (drop k) (drop-bits_of i s ∙ e))
    ∙ part_left (value_bits w v) rest k n (rw length-value_bits (omega arith))
    ∙ ap (λ (m : ℕ). part (value_bits m v) k n) (sym h)
    ∙ part-value_bits k n c v

-- the octet at `i`, alone and with the next
one-octet : (s : List ℕ) (i : ℕ) → i < length s → bits_of (drop i s) ≡ value_bits 8 (get_or s i 0) ++ bits_of (drop (suc i) s)
unfolding bits_of
one-octet s i h = ap bits_of (drop-cons s i 0 h)

two-octets : (s : List ℕ) (i : ℕ) → i + 1 < length s → get_or s (i + 1) 0 < 2 ^ 8
    → bits_of (drop i s) ≡ value_bits 16 (get_or s i 0 * 256 + get_or s (i + 1) 0) ++ bits_of (drop (suc (i + 1)) s)
two-octets s i h hy =
    one-octet s i (omega arith)
    ∙ ap (λ (m : ℕ). value_bits 8 (get_or s i 0) ++ bits_of (drop m s)) (sym (add-one i))
    ∙ ap (◌++◌ (value_bits 8 (get_or s i 0))) (one-octet s (i + 1) h)
    ∙ sym (append_assoc (value_bits 8 (get_or s i 0)) (value_bits 8 (get_or s (i + 1) 0)) (bits_of (drop (suc (i + 1)) s)))
    ∙ ap (λ (l : List ℕ). l ++ bits_of (drop (suc (i + 1)) s)) (value_bits-join 8 8 (get_or s i 0) (get_or s (i + 1) 0) hy)

-- the bits from `at` on, out of the octets at which they begin and end: where these are one, what is read behind it does not count
pub pair-part : (s : List ℕ) (at n : ℕ) → 0 < n → n ≤ 8 → at + n ≤ 8 * length s → ((i : ℕ) → get_or s i 0 < 2 ^ 8)
    → value_bits n ((get_or s (at / 8) 0 * 256 + get_or s ((at + n - 1) / 8) 0) / 2 ^ (16 - (at % 8 + n))) ≡ part (bits_of s) at n
pair-part s at n h0 h8 h fits = go (leb (at % 8 + n) 8) refl
  where
    x : ℕ
    x = get_or s (at / 8) 0

    place : 8 * (at / 8) + at % 8 ≡ at
    place = omega arith

    go : (t : Bool) → leb (at % 8 + n) 8 ≡ t
        → value_bits n ((get_or s (at / 8) 0 * 256 + get_or s ((at + n - 1) / 8) 0) / 2 ^ (16 - (at % 8 + n))) ≡ part (bits_of s) at n
    go true t =
        let e : at % 8 + n ≤ 8 = leb-true (at % 8 + n) 8 t in
        let c : 16 - (at % 8 + n) ≡ 8 + (8 - (at % 8 + n)) = omega arith in
        let y = get_or s ((at + n - 1) / 8) 0 in
        ap (λ (m : ℕ). value_bits n ((x * 256 + y) / 2 ^ m)) c
        ∙ ap (value_bits n) (sym (shr-shr (x * 256 + y) 8 (8 - (at % 8 + n))) ∙ ap (λ (m : ℕ). m / 2 ^ (8 - (at % 8 + n))) (high x 8 (fits ((at + n - 1) / 8))))
        ∙ sym (part-number s (at / 8) (at % 8) n (8 - (at % 8 + n)) 8 x _ (one-octet s (at / 8) (omega arith)) (omega arith))
        ∙ ap (λ (m : ℕ). part (bits_of s) m n) place
    go false t =
        let e : 8 < at % 8 + n = leb-false (at % 8 + n) 8 t in
        let j : (at + n - 1) / 8 ≡ at / 8 + 1 = omega arith in
        ap (λ (m : ℕ). value_bits n ((x * 256 + get_or s m 0) / 2 ^ (16 - (at % 8 + n)))) j
        ∙ sym (part-number s (at / 8) (at % 8) n (16 - (at % 8 + n)) 16 (x * 256 + get_or s (at / 8 + 1) 0) _
        (two-octets s (at / 8) (omega arith) (fits (at / 8 + 1))) (omega arith))
        ∙ ap (λ (m : ℕ). part (bits_of s) m n) place

-- the bits of 0 are clear
pub value_bits-zero : (n : ℕ) → value_bits n 0 ≡ replicate n 0
unfolding value_bits
value_bits-zero zero = refl
value_bits-zero (suc n) = ap₂ ◌∷◌ (ap (λ (m : ℕ). m % 2) (zero-div (2 ^ n))) (value_bits-zero n)

-- ---- a turn of a loop that goes on by `n` bits

-- it copies
pub part-turn : (l : List ℕ) (at : ℕ) (m : List ℕ) (from n left : ℕ) → n ≤ left → from + n ≤ length m
    → written (written l at (part m from n)) (at + n) (part m (from + n) (left - n)) ≡ written l at (part m from left)
part-turn l at m from n left h hm =
    let all : n + (left - n) ≡ left = omega arith in
    ap (λ (k : ℕ). written (written l at (part m from n)) (at + k) (part m (from + n) (left - n))) (sym (length_part m from n hm))
    ∙ sym (written-append l at (part m from n) (part m (from + n) (left - n)))
    ∙ ap (written l at) (sym (part-split m from n (left - n)) ∙ ap (part m from) all)

-- it writes the `n` bits before the last `left - n` of those that are given
pub given-all : (l : List ℕ) (at : ℕ) (f : List ℕ) (n : ℕ) → length f ≡ n → written l at (part f (n - n) n) ≡ written l at f
unfolding part
given-all l at f n e =
    let none : n - n ≡ 0 = omega arith in
    ap (λ (i : ℕ). written l at (take n (drop i f))) none ∙ ap (written l at) (take_all n f (omega arith))

pub given-turn : (l : List ℕ) (at : ℕ) (f : List ℕ) (all k left v : ℕ) → k ≤ left → left ≤ all → length f ≡ all
    → value_bits k v ≡ part f (all - (left - k) - k) k
    → written (written l at (value_bits k v)) (at + k) (part f (all - (left - k)) (left - k)) ≡ written l at (part f (all - left) left)
given-turn l at f all k left v h hl e ev =
    let from : all - (left - k) - k ≡ all - left = omega arith in
    let next : all - (left - k) ≡ all - left + k = omega arith in
    ap₂ (λ (g : List ℕ) (i : ℕ). written (written l at g) (at + k) (part f i (left - k))) (ev ∙ ap (λ (i : ℕ). part f i k) from) next
    ∙ part-turn l at f (all - left) k left h (omega arith)

-- the bits that are given: those of a number,
pub number-piece : (w value left k v : ℕ) → left + k ≤ w → k ≤ 8 → v ≡ value / 2 ^ left % (1 * 2 ^ k % 2 ^ 64)
    → value_bits k v ≡ part (value_bits w value) (w - left - k) k
number-piece w value left k v h hk e =
    let all : w ≡ w - left - k + (k + left) = omega arith in
    ap (value_bits k) (e ∙ ap (λ (m : ℕ). value / 2 ^ left % m) (one_shl {k = k} 64 (omega arith)))
    ∙ value_bits-mod k (value / 2 ^ left)
    ∙ sym (part-value_bits (w - left - k) k left value)
    ∙ ap (λ (m : ℕ). part (value_bits m value) (w - left - k) k) (sym all)

-- clear ones,
pub clear-piece : (n left k v : ℕ) → left + k ≤ n → v ≡ 0 → value_bits k v ≡ part (replicate n 0) (n - left - k) k
unfolding part
clear-piece n left k v h e =
    ap (value_bits k) e ∙ value_bits-zero k ∙ sym (ap (take k) (drop-replicate (n - left - k) n 0) ∙ take-replicate k (n - (n - left - k)) 0 (omega arith))

-- and those of a part
pub part-piece : (l : List ℕ) (from n left k v : ℕ) → left + k ≤ n → value_bits k v ≡ part l (from + (n - left - k)) k
    → value_bits k v ≡ part (part l from n) (n - left - k) k
unfolding part
part-piece l from n left k v h e =
    let i = n - left - k in
    let all : n ≡ i + (k + left) = omega arith in
    e
    ∙ ap (take k) (sym (drop-drop i from l))
    ∙ sym (take-take k (k + left) (drop i (drop from l)) (omega arith))
    ∙ ap (take k) (sym (drop-take i (k + left) (drop from l)) ∙ ap (λ (m : ℕ). drop i (take m (drop from l))) (sym all))

-- it reads a number
pub bits_value-append : (f g : List ℕ) → bits_value (f ++ g) ≡ bits_value f * 2 ^ length g + bits_value g
unfolding bits_value
bits_value-append [] g = omega (arith, zero-mul (2 ^ length g))
bits_value-append (b ∷ f) g =
    let p = 2 ^ length f in
    let q = 2 ^ length g in
    let power : 2 ^ length (f ++ g) ≡ p * q = ap (λ (m : ℕ). 2 ^ m) (length-append f g) ∙ pow-add 2 (length f) (length g) in
    ap₂ (λ (m n : ℕ). b * m + n) power (bits_value-append f g)
    ∙ omega (arith, sym (mul_assoc b p q), sym (add-mul (b * p) (bits_value f) q))

pub number-turn : (l : List ℕ) (at n left a r : ℕ) → n ≤ left → at + left ≤ length l → value_bits n r ≡ part l at n → r < 2 ^ n
    → (a * 2 ^ n + r) * 2 ^ (left - n) + bits_value (part l (at + n) (left - n)) ≡ a * 2 ^ left + bits_value (part l at left)
number-turn l at n left a r h hl e hr =
    let p = 2 ^ (left - n) in
    let rest = part l (at + n) (left - n) in
    let all : n + (left - n) ≡ left = omega arith in
    let power : 2 ^ n * p ≡ 2 ^ left = sym (pow-add 2 n (left - n)) ∙ ap (λ (m : ℕ). 2 ^ m) all in
    let whole : bits_value (part l at left) ≡ r * p + bits_value rest =
    ap (λ (m : ℕ). bits_value (part l at m)) (sym all) ∙ ap bits_value (part-split l at n (left - n))
    ∙ bits_value-append (part l at n) rest
    ∙ ap₂ (λ (m k : ℕ). m * 2 ^ k + bits_value rest) (ap bits_value (sym e) ∙ value-field n r hr) (length_part l (at + n) (left - n) (omega arith)) in
    omega (arith, add-mul (a * 2 ^ n) r p, mul_assoc a (2 ^ n) p ∙ ap (λ (m : ℕ). a * m) power, whole)

-- ---- whole octets copied

-- an octet stored
pub stored : (s : List ℕ) (i y : ℕ) → i < length s → bits_of (set s i y) ≡ written (bits_of s) (8 * i) (value_bits 8 y)
stored s i y h =
    written-octet s i 0 (value_bits 8 y) y h (rw length-value_bits (omega arith)) (octet-whole (get_or s i 0) 0 8 y refl (omega arith))
    ∙ ap (λ (m : ℕ). written (bits_of s) m (value_bits 8 y)) (add-zero (8 * i))

-- the eight bits from `at` on
pub octet-part : (s : List ℕ) (at i : ℕ) → at / 8 + i + 1 < length s → get_or s (at / 8 + i + 1) 0 < 2 ^ 8
    → value_bits 8 ((get_or s (at / 8 + i) 0 * 256 + get_or s (at / 8 + i + 1) 0) / 2 ^ (8 - at % 8) % 256) ≡ part (bits_of s) (at + 8 * i) 8
octet-part s at i h hy =
    let q = at / 8 + i in
    let v = get_or s q 0 * 256 + get_or s (q + 1) 0 in
    let place : 8 * q + at % 8 ≡ at + 8 * i = omega arith in
    value_bits-mod 8 (v / 2 ^ (8 - at % 8))
    ∙ sym (part-number s q (at % 8) 8 (8 - at % 8) 16 v (bits_of (drop (suc (q + 1)) s)) (two-octets s q h hy) (omega arith))
    ∙ ap (λ (m : ℕ). part (bits_of s) m 8) place

-- a turn of the loop
pub octet-turn : (d₀ d s : List ℕ) (at from i y : ℕ) → bits_of d ≡ written (bits_of d₀) (8 * at) (part (bits_of s) from (8 * i))
    → at + i < length d → from + (8 * i + 8) ≤ 8 * length s → value_bits 8 y ≡ part (bits_of s) (from + 8 * i) 8
    → bits_of (set d (at + i) y) ≡ written (bits_of d₀) (8 * at) (part (bits_of s) from (8 * (i + 1)))
octet-turn d₀ d s at from i y e h hs ey =
    let place : 8 * (at + i) ≡ 8 * at + 8 * i = omega arith in
    let eight : 8 ≡ 8 * (i + 1) - 8 * i = omega arith in
    stored d (at + i) y h
    ∙ ap₂ (λ (l f : List ℕ). written l (8 * (at + i)) f) e (ey ∙ ap (part (bits_of s) (from + 8 * i)) eight)
    ∙ ap (λ (m : ℕ). written (written (bits_of d₀) (8 * at) (part (bits_of s) from (8 * i))) m (part (bits_of s) (from + 8 * i) (8 * (i + 1) - 8 * i))) place
    ∙ part-turn (bits_of d₀) (8 * at) (bits_of s) from (8 * i) (8 * (i + 1)) (omega arith) (rw length-bits_of (omega arith))

-- a part copied in three: `a` bits, `c` octets from octet `o` on, and the rest
pub written-three : (l₁ l₂ l₃ l : List ℕ) (at : ℕ) (m : List ℕ) (from a o c n : ℕ) → from + n ≤ length m → a + 8 * c ≤ n → 8 * o ≡ at + a
    → l₁ ≡ written l at (part m from a) → l₂ ≡ written l₁ (8 * o) (part m (from + a) (8 * c))
    → l₃ ≡ written l₂ (at + (a + 8 * c)) (part m (from + (a + 8 * c)) (n - (a + 8 * c))) → l₃ ≡ written l at (part m from n)
written-three l₁ l₂ l₃ l at m from a o c n h hc e e₁ e₂ e₃ =
    let d = a + 8 * c in
    let octets : 8 * c ≡ d - a = omega arith in
    e₃ ∙ ap (λ (x : List ℕ). written x (at + d) (part m (from + d) (n - d)))
    (e₂ ∙ ap₂ (λ (x : List ℕ) (j : ℕ). written x j (part m (from + a) (8 * c))) e₁ e
    ∙ ap (λ (j : ℕ). written (written l at (part m from a)) (at + a) (part m (from + a) j)) octets
    ∙ part-turn l at m from a d (omega arith) (omega arith))
    ∙ part-turn l at m from d n hc (omega arith)
