-- The bits of the cell of an SDU of n bits: the SDU's first n, then zeros. Assumes nothing.
use mathlib.Core.Path.{◌≡◌, refl, sym, ap, ap₂, ◌∙◌}
use mathlib.Core.Bool.{true}
use mathlib.Core.List.{List, [], ◌∷◌, ◌++◌, append_assoc}
use mathlib.Core.Logic.{⊎_elim}
use Prim.Native.Nat.{ℕ, zero, suc, ◌+◌, ◌-◌, ◌*◌, ◌/◌, ◌%◌, ◌^◌, ◌<◌, ◌≤◌, min}
use native.Mathlib.Nat.{add-zero}
use lib.Dec.{eqb}
use borrow.Author.Tests.{eqb-true}
use Rattle.std.proofs.lemmas.Bool.{and_parts}
use Rattle.sizes.specs.Sizes.{cell_octets, sdu_bits}
use Rattle.dl_record.proofs.Tests.{lt-or-le}
use native.Mathlib.Omega.{arith}
use lib.Pow.{pow_pos, split}
use lib.ListN.{length, drop, take, get_or, replicate, length-append, length-replicate, replicate-append-replicate, length-drop, take-append-drop}
use lib.Seq.{take_at, drop_at, get_or-drop, take-append-le, take-append-add, length-take-le}
use Rattle.bitbuffer.specs.Bits.{bits_of, value_bits, packed}
use Rattle.bitbuffer.proofs.Chunks.{value_bits-zero}
use Rattle.bitbuffer.proofs.Laws.{length-value_bits, value_bits-append, length-bits_of, bits-append, bits-take, bits-bits_of}
use Rattle.bitbuffer.proofs.Octets.{value_bits-join, bits_of-same, packed-bits_of, bits_of-packed, length-packed, zeros-are-bits}
use Rattle.dl_sdu_store.specs.Cells.{all_zero, clean_past, first_bits, cell_of}
use Rattle.dl_sdu_store.proofs.CellLaws.{cell_from, octet_cell, length-cell_from, kept-all}

abbrev zeros : ℕ → List ℕ
zeros n = replicate n 0

kept-bits : (n x : ℕ) → n < 8 → value_bits 8 (first_bits n x) ≡ take n (value_bits 8 x) ++ zeros (8 - n)
unfolding first_bits
kept-bits zero x h = value_bits-zero 8
kept-bits (suc r) x h =
    let b : ℕ = 7 - r in
    let y : ℕ = x / 2 ^ b in
    let e : 8 ≡ suc r + b = omega arith in
    let f : 8 - suc r ≡ b = omega arith in
    let first : take (suc r) (value_bits 8 x) ≡ value_bits (suc r) y =
    ap (λ (w : ℕ). take (suc r) (value_bits w x)) e ∙ ap (take (suc r)) (value_bits-append (suc r) b x)
    ∙ take_at (value_bits (suc r) y) (value_bits b x) (suc r) (length-value_bits (suc r) y) in
    ap₂ value_bits e (sym (add-zero (y * 2 ^ b))) ∙ sym (value_bits-join (suc r) b y 0 (pow_pos b))
    ∙ ap₂ (λ (l m : List ℕ). l ++ m) (sym first) (value_bits-zero b ∙ ap zeros (sym f))

octet-more : (k : ℕ) → 8 + 8 * k ≡ 8 * suc k
octet-more k = omega arith

no_bits : (k : ℕ) (s : List ℕ) → bits_of (cell_from k 0 s) ≡ zeros (8 * k)
unfolding cell_from bits_of first_bits
no_bits zero s = refl
no_bits (suc k) s =
    ap₂ (λ (l m : List ℕ). l ++ m) (value_bits-zero 8) (no_bits k (drop 1 s))
    ∙ replicate-append-replicate 8 (8 * k) 0 ∙ ap zeros (octet-more k)

abbrev Says : ℕ → ℕ → List ℕ → Type 0
Says k n s = bits_of (cell_from k n s) ≡ take n (bits_of s) ++ zeros (8 * k - n)

none-says : (k n : ℕ) (s : List ℕ) → n ≡ 0 → Says k n s
none-says k n s z =
    let e : 8 * k ≡ 8 * k - n = omega arith in
    ap (λ (m : ℕ). bits_of (cell_from k m s)) z ∙ no_bits k s ∙ ap zeros e ∙ ap (λ (m : ℕ). take m (bits_of s) ++ zeros (8 * k - n)) (sym z)

step : (k n : ℕ) (s : List ℕ) → n ≤ 8 * suc k → n ≤ 8 * length s → (8 ≤ n → Says k (n - 8) (drop 1 s)) → Says (suc k) n s
unfolding cell_from bits_of
step k n [] h l ih = none-says (suc k) n [] (omega arith)
step k n (x ∷ s) h l ih = ⊎_elim less (λ b. more b (ih b)) (lt-or-le n 8)
  where
    less : n < 8 → Says (suc k) n (x ∷ s)
    less b =
        let m : min n 8 ≡ n = omega arith in
        let z : n - 8 ≡ 0 = omega arith in
        let w : 8 - n + 8 * k ≡ 8 * suc k - n = omega arith in
        let front : take n (value_bits 8 x ++ bits_of s) ≡ take n (value_bits 8 x) =
        take-append-le n (value_bits 8 x) (bits_of s) (rw length-value_bits (omega arith)) in
        ap₂ (λ (p q : ℕ). value_bits 8 (first_bits p x) ++ bits_of (cell_from k q s)) m z
        ∙ ap₂ (λ (p q : List ℕ). p ++ q) (kept-bits n x b) (no_bits k s)
        ∙ append_assoc (take n (value_bits 8 x)) (zeros (8 - n)) (zeros (8 * k))
        ∙ ap₂ (λ (p q : List ℕ). p ++ q) (sym front) (replicate-append-replicate (8 - n) (8 * k) 0 ∙ ap zeros w)

    more : 8 ≤ n → Says k (n - 8) s → Says (suc k) n (x ∷ s)
    more b given =
        let r : ℕ = n - 8 in
        let m : min n 8 ≡ 8 = omega arith in
        let w : 8 * k - r ≡ 8 * suc k - n = omega arith in
        let e : n ≡ length (value_bits 8 x) + r = rw length-value_bits (omega arith) in
        let front : take n (value_bits 8 x ++ bits_of s) ≡ value_bits 8 x ++ take r (bits_of s) =
        ap (λ (q : ℕ). take q (value_bits 8 x ++ bits_of s)) e ∙ take-append-add (value_bits 8 x) (bits_of s) r in
        ap (λ (p : ℕ). value_bits 8 (first_bits p x) ++ bits_of (cell_from k r s)) m
        ∙ ap₂ (λ (p : ℕ) (q : List ℕ). value_bits 8 p ++ q) (kept-all x) given
        ∙ sym (append_assoc (value_bits 8 x) (take r (bits_of s)) (zeros (8 * k - r)))
        ∙ ap₂ (λ (p q : List ℕ). p ++ q) (sym front) (ap zeros w)

pub bits-cell_from : (k n : ℕ) (s : List ℕ) → n ≤ 8 * k → n ≤ 8 * length s → bits_of (cell_from k n s) ≡ take n (bits_of s) ++ zeros (8 * k - n)
bits-cell_from zero n s h l = none-says zero n s (omega arith)
bits-cell_from (suc k) n s h l = step k n s h l (λ b. bits-cell_from k (n - 8) (drop 1 s) (omega arith) (rw length-drop (omega arith)))

-- ---- the cell of an SDU of n bits, all of them present

kept_small : (r x : ℕ) → x < 2 ^ 8 → first_bits r x < 2 ^ 8
unfolding first_bits
kept_small zero x h = omega arith
kept_small (suc r) x h = let s : x / 2 ^ (7 - r) * 2 ^ (7 - r) + x % 2 ^ (7 - r) ≡ x = split x (7 - r) in omega (arith, s, h)

octets-from : (k n : ℕ) (s : List ℕ) → ((i : ℕ) → get_or s i 0 < 2 ^ 8) → (i : ℕ) → get_or (cell_from k n s) i 0 < 2 ^ 8
unfolding cell_from
octets-from zero n s h i = omega arith
octets-from (suc k) n s h zero = kept_small (min n 8) (get_or s 0 0) (h 0)
octets-from (suc k) n s h (suc i) = octets-from k (n - 8) (drop 1 s) (λ j. rw (get_or-drop 1 s j 0) (h (1 + j))) i

-- its octets are those that are written one by one
pub cell-octets : (n : ℕ) (s : List ℕ) → n ≤ sdu_bits → n ≤ 8 * length s → ((i : ℕ) → get_or s i 0 < 2 ^ 8) → octet_cell n s ≡ cell_of n s
unfolding cell_of octet_cell
cell-octets n s h l o =
    sym (packed-bits_of (cell_from cell_octets n s) (octets-from cell_octets n s o))
    ∙ ap₂ packed (length-cell_from cell_octets n s) (bits-cell_from cell_octets n s h l)

sdu-size : (n : ℕ) (s : List ℕ) → n ≤ sdu_bits → n ≤ 8 * length s → length (take n (bits_of s) ++ zeros (sdu_bits - n)) ≡ sdu_bits
sdu-size n s h l =
    let a : length (take n (bits_of s)) ≡ n = length-take-le n (bits_of s) (rw length-bits_of l) in
    length-append (take n (bits_of s)) (zeros (sdu_bits - n)) ∙ omega (arith, a, length-replicate {A = ℕ} (sdu_bits - n) 0)

pub length-cell_of : (n : ℕ) (s : List ℕ) → length (cell_of n s) ≡ cell_octets
unfolding cell_of
length-cell_of n s = length-packed cell_octets (take n (bits_of s) ++ zeros (sdu_bits - n))

-- its bits are the SDU's, then zeros
pub bits-cell_of : (n : ℕ) (s : List ℕ) → n ≤ sdu_bits → n ≤ 8 * length s → bits_of (cell_of n s) ≡ take n (bits_of s) ++ zeros (sdu_bits - n)
unfolding cell_of
bits-cell_of n s h l =
    bits_of-packed cell_octets (take n (bits_of s) ++ zeros (sdu_bits - n))
    (bits-append (take n (bits_of s)) (zeros (sdu_bits - n)) (bits-take n (bits_of s) (bits-bits_of s)) (zeros-are-bits (sdu_bits - n))) (sdu-size n s h l)

pub all-zeros : (n : ℕ) → all_zero (zeros n) ≡ true
unfolding all_zero
all-zeros zero = refl
all-zeros (suc n) = all-zeros n

-- a cell that was written is clean
pub clean-cell_of : (n : ℕ) (s : List ℕ) → n ≤ sdu_bits → n ≤ 8 * length s → clean_past n (cell_of n s) ≡ true
unfolding clean_past
clean-cell_of n s h l =
    ap (λ (b : List ℕ). all_zero (drop n b)) (bits-cell_of n s h l)
    ∙ ap all_zero (drop_at (take n (bits_of s)) (zeros (sdu_bits - n)) n (length-take-le n (bits_of s) (rw length-bits_of l)))
    ∙ all-zeros (sdu_bits - n)

-- a list of zeros
pub zero-list : (l : List ℕ) → all_zero l ≡ true → l ≡ zeros (length l)
unfolding all_zero
zero-list [] e = refl
zero-list (x ∷ l) e = ap₂ (λ (y : ℕ) (m : List ℕ). y ∷ m) (eqb-true x 0 (and_parts (eqb x 0) (all_zero l) e).0) (zero-list l (and_parts (eqb x 0) (all_zero l) e).1)

-- a clean cell is determined by the bits of its SDU
pub clean-same : (n : ℕ) (c d : List ℕ) → length c ≡ length d → ((i : ℕ) → get_or c i 0 < 2 ^ 8) → ((i : ℕ) → get_or d i 0 < 2 ^ 8)
    → clean_past n c ≡ true → clean_past n d ≡ true → take n (bits_of c) ≡ take n (bits_of d) → c ≡ d
unfolding clean_past
clean-same n c d size hc hd ec ed same =
    let long : length (drop n (bits_of c)) ≡ length (drop n (bits_of d)) = simp (length-drop, length-bits_of, size) in
    let rest : drop n (bits_of c) ≡ drop n (bits_of d) = zero-list (drop n (bits_of c)) ec ∙ ap zeros long ∙ sym (zero-list (drop n (bits_of d)) ed) in
    bits_of-same c d hc hd (sym (take-append-drop n (bits_of c)) ∙ ap₂ (λ (a b : List ℕ). a ++ b) same rest ∙ take-append-drop n (bits_of d))
