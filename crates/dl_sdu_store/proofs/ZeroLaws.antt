-- Lists of zeros. Assumes nothing.
use mathlib.Core.Path.{◌≡◌, refl, sym, ap, ap₂, ◌∙◌}
use mathlib.Core.Bool.{Bool, true, false, ◌&&◌, and_assoc, and-true}
use mathlib.Core.List.{List, [], ◌∷◌, ◌++◌}
use Prim.Native.Nat.{ℕ, zero, suc, ◌+◌, ◌-◌, ◌*◌, ◌/◌, ◌%◌, ◌^◌, ◌<◌, ◌≤◌}
use native.Mathlib.Nat.{mod-eq_of_lt, mul-mod_left}
use native.Mathlib.Numerals.{add-one, one-add}
use native.Mathlib.Omega.{arith}
use lib.Dec.{eqb}
use lib.Bits.{bit_or, or_add_and, and_le_l, and_le_r}
use lib.Arith.{mod-mul}
use lib.Pow.{pow_pos, pow-add, shl-shr, mod-pow-add}
use lib.ListN.{length, drop, get_or, drop_of_length-le, take}
use lib.Seq.{get_or-drop, drop-drop, drop-cons, drop-append-le, drop_at}
use borrow.Author.Tests.{eqb-true, eq-eqb}
use Rattle.std.proofs.lemmas.Bool.{and_parts, and_from}
use Rattle.dl_record.proofs.Tests.{same_test}
use Rattle.bitbuffer.specs.Bits.{bits_of, value_bits}
use Rattle.bitbuffer.proofs.Laws.{length-value_bits, value_bits-append, length-bits_of, sum-le}
use Rattle.bitbuffer.proofs.Octets.{drop-bits_of}
use Rattle.dl_sdu_store.specs.Cells.{all_zero, clean_past}

pub or-zero : (a b : ℕ) → eqb (bit_or a b) 0 ≡ eqb a 0 && eqb b 0
or-zero a b =
    same_test (eqb (bit_or a b) 0) (eqb a 0 && eqb b 0)
    (λ e. and_from (eqb a 0) (eqb b 0) (eq-eqb a 0 (omega (arith, eqb-true (bit_or a b) 0 e, or_add_and a b, and_le_l a b, and_le_r a b)))
    (eq-eqb b 0 (omega (arith, eqb-true (bit_or a b) 0 e, or_add_and a b, and_le_l a b, and_le_r a b))))
    (λ e. eq-eqb (bit_or a b) 0 (omega (arith, eqb-true a 0 (and_parts (eqb a 0) (eqb b 0) e).0, eqb-true b 0 (and_parts (eqb a 0) (eqb b 0) e).1, or_add_and a b)))

pub zero-append : (l m : List ℕ) → all_zero (l ++ m) ≡ all_zero l && all_zero m
unfolding all_zero
zero-append [] m = refl
zero-append (x ∷ l) m = ap (λ (t : Bool). eqb x 0 && t) (zero-append l m) ∙ sym (and_assoc (eqb x 0) (all_zero l) (all_zero m))

-- one octet more is gathered
pub or-more : (ys : List ℕ) (a x b : ℕ) → eqb a 0 ≡ all_zero ys → b ≡ bit_or a x → eqb b 0 ≡ all_zero (ys ++ (x ∷ []))
unfolding all_zero
or-more ys a x b h e =
    ap (λ (n : ℕ). eqb n 0) e ∙ or-zero a x ∙ ap (λ (t : Bool). t && eqb x 0) h
    ∙ sym (zero-append ys (x ∷ []) ∙ ap (λ (t : Bool). all_zero ys && t) (and-true (eqb x 0)))

-- the low w bits of a number are zero exactly if it is a multiple of 2 ^ w
pub zero-value_bits : (w x : ℕ) → all_zero (value_bits w x) ≡ eqb (x % 2 ^ w) 0
unfolding all_zero value_bits
zero-value_bits zero x = sym (eq-eqb (x % 1) 0 (omega arith))
zero-value_bits (suc w) x =
    ap (λ (t : Bool). eqb (x / 2 ^ w % 2) 0 && t) (zero-value_bits w x)
    ∙ same_test (eqb (x / 2 ^ w % 2) 0 && eqb (x % 2 ^ w) 0) (eqb (x % 2 ^ suc w) 0)
    (λ e. eq-eqb (x % 2 ^ suc w) 0 (up (eqb-true (x / 2 ^ w % 2) 0 (and_parts (eqb (x / 2 ^ w % 2) 0) (eqb (x % 2 ^ w) 0) e).0)
    (eqb-true (x % 2 ^ w) 0 (and_parts (eqb (x / 2 ^ w % 2) 0) (eqb (x % 2 ^ w) 0) e).1)))
    (λ e. let z : x / 2 ^ w % 2 * 2 ^ w + x % 2 ^ w ≡ 0 = sym whole ∙ eqb-true (x % 2 ^ suc w) 0 e in
    and_from (eqb (x / 2 ^ w % 2) 0) (eqb (x % 2 ^ w) 0) (eq-eqb (x / 2 ^ w % 2) 0 (omega (arith, sum-le (x / 2 ^ w % 2) w (x % 2 ^ w) 0 z)))
    (eq-eqb (x % 2 ^ w) 0 (omega (arith, z))))
  where
    whole : x % 2 ^ suc w ≡ x / 2 ^ w % 2 * 2 ^ w + x % 2 ^ w
    whole = ap (λ (n : ℕ). x % 2 ^ n) (sym (one-add w)) ∙ mod-pow-add x 1 w

    none : 0 * 2 ^ w + 0 ≡ 0
    none = omega arith

    up : x / 2 ^ w % 2 ≡ 0 → x % 2 ^ w ≡ 0 → x % 2 ^ suc w ≡ 0
    up p q = whole ∙ ap₂ (λ (a b : ℕ). a * 2 ^ w + b) p q ∙ none

-- octets are zero exactly if their bits are
pub zero-bits_of : (s : List ℕ) → ((i : ℕ) → get_or s i 0 < 2 ^ 8) → all_zero (bits_of s) ≡ all_zero s
unfolding all_zero bits_of
zero-bits_of [] h = refl
zero-bits_of (x ∷ s) h =
    zero-append (value_bits 8 x) (bits_of s)
    ∙ ap₂ ◌&&◌ (zero-value_bits 8 x ∙ ap (λ (n : ℕ). eqb n 0) (mod-eq_of_lt (h 0))) (zero-bits_of s (λ i. h (suc i)))

-- a shift to the left by r loses the first r bits of an octet
pub shl_zero : (x r : ℕ) → r ≤ 8 → eqb (x * 2 ^ r % 2 ^ 8) 0 ≡ eqb (x % 2 ^ (8 - r)) 0
shl_zero x r h =
    let e : 8 ≡ 8 - r + r = omega arith in
    let p : 2 ^ 8 ≡ 2 ^ (8 - r) * 2 ^ r = ap (λ (n : ℕ). 2 ^ n) e ∙ pow-add 2 (8 - r) r in
    let y : ℕ = x % 2 ^ (8 - r) in
    let z : x * 2 ^ r % 2 ^ 8 ≡ y * 2 ^ r + 0 =
    ap (λ (n : ℕ). x * 2 ^ r % n) p ∙ mod-mul (x * 2 ^ r) (pow_pos (8 - r)) (pow_pos r)
    ∙ ap₂ (λ (a b : ℕ). a % 2 ^ (8 - r) * 2 ^ r + b) (shl-shr x r) (mul-mod_left x (2 ^ r)) in
    same_test (eqb (x * 2 ^ r % 2 ^ 8) 0) (eqb y 0)
    (λ t. eq-eqb y 0 (omega (arith, sum-le y r 0 0 (sym z ∙ eqb-true (x * 2 ^ r % 2 ^ 8) 0 t))))
    (λ t. eq-eqb (x * 2 ^ r % 2 ^ 8) 0 (z ∙ ap (λ (n : ℕ). n * 2 ^ r + 0) (eqb-true y 0 t) ∙ nought (2 ^ r)))
  where
    nought : (c : ℕ) → 0 * c + 0 ≡ 0
    nought c = omega arith

-- the last bits of an octet
pub drop-value_bits : (x r : ℕ) → r ≤ 8 → drop r (value_bits 8 x) ≡ value_bits (8 - r) x
drop-value_bits x r h =
    let e : 8 ≡ r + (8 - r) = omega arith in
    ap (λ (n : ℕ). drop r (value_bits n x)) e ∙ ap (drop r) (value_bits-append r (8 - r) x)
    ∙ drop_at (value_bits r (x / 2 ^ (8 - r))) (value_bits (8 - r) x) r (length-value_bits r (x / 2 ^ (8 - r)))

-- the bits past the first n of a run: the rest of octet n / 8, and the octets after it
pub clean-split : (s : List ℕ) (n : ℕ) → ((i : ℕ) → get_or s i 0 < 2 ^ 8) → n / 8 < length s
    → eqb (get_or s (n / 8) 0 * 2 ^ (n % 8) % 2 ^ 8) 0 && all_zero (drop (n / 8 + 1) s) ≡ clean_past n s
unfolding clean_past bits_of
clean-split s n h k =
    let q : ℕ = n / 8 in
    let r : ℕ = n % 8 in
    let x : ℕ = get_or s q 0 in
    let t : List ℕ = drop (q + 1) s in
    let small : r ≤ 8 = omega arith in
    let tidy : (i : ℕ) → get_or t i 0 < 2 ^ 8 = λ i. rw (get_or-drop (q + 1) s i 0) (h (q + 1 + i)) in
    let fits : r ≤ length (value_bits 8 x) = rw (length-value_bits 8 x) small in
    let place : 8 * q + r ≡ n = omega arith in
    let cut : drop n (bits_of s) ≡ value_bits (8 - r) x ++ bits_of t =
    ap (λ (m : ℕ). drop m (bits_of s)) (sym place) ∙ sym (drop-drop r (8 * q) (bits_of s)) ∙ ap (drop r) (drop-bits_of q s)
    ∙ ap (λ (l : List ℕ). drop r (bits_of l)) (drop-cons s q 0 k ∙ ap (λ (m : ℕ). x ∷ drop m s) (sym (add-one q)))
    ∙ drop-append-le r (value_bits 8 x) (bits_of t) fits
    ∙ ap (λ (l : List ℕ). l ++ bits_of t) (drop-value_bits x r small) in
    sym (ap all_zero cut ∙ zero-append (value_bits (8 - r) x) (bits_of t)
    ∙ ap₂ ◌&&◌ (zero-value_bits (8 - r) x ∙ sym (shl_zero x r small)) (zero-bits_of t tidy))

pub clean-over : (s : List ℕ) (n : ℕ) → length s ≤ n / 8 → true ≡ clean_past n s
unfolding clean_past all_zero
clean-over s n k =
    let h : length (bits_of s) ≤ n = rw length-bits_of (omega arith) in
    sym (ap all_zero (drop_of_length-le (bits_of s) h))

-- a first part that is looked at twice
twice : (m : ℕ) (l : List ℕ) → all_zero (take m l) && all_zero l ≡ all_zero l
unfolding all_zero
twice zero l = refl
twice (suc m) [] = refl
twice (suc m) (x ∷ l) = go (eqb x 0) (twice m l)
  where
    go : (b : Bool) → all_zero (take m l) && all_zero l ≡ all_zero l → (b && all_zero (take m l)) && (b && all_zero l) ≡ b && all_zero l
    go true h = h
    go false h = refl

-- two parts that overlap
pub overlap : (d m : ℕ) (l : List ℕ) → d ≤ m → all_zero (take m l) && all_zero (drop d l) ≡ all_zero l
unfolding all_zero
overlap zero m l h = twice m l
overlap (suc d) zero l h = absurd (omega arith)
overlap (suc d) (suc m) [] h = refl
overlap (suc d) (suc m) (x ∷ l) h =
    and_assoc (eqb x 0) (all_zero (take m l)) (all_zero (drop d l)) ∙ ap (λ (t : Bool). eqb x 0 && t) (overlap d m l (omega arith))
