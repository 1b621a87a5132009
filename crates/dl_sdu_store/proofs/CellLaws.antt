-- The cell of an SDU octet by octet, and a store at which it is written so. Assumes nothing.
use mathlib.Core.Path.{◌≡◌, refl, sym, ap, ap₂, ◌∙◌}
use mathlib.Core.List.{List, [], ◌∷◌, ◌++◌, append_assoc}
use Prim.Native.Nat.{ℕ, zero, suc, ◌+◌, ◌-◌, ◌*◌, ◌/◌, ◌%◌, ◌^◌, ◌<◌, ◌≤◌, min}
use native.Mathlib.Nat.{mod-eq_of_lt}
use native.Mathlib.Numerals.{add-one, one-add}
use native.Mathlib.Omega.{arith}
use lib.Pow.{split}
use lib.ListN.{length, drop, take, get_or, set, replicate, length-replicate, length-drop, length-set, length-take, get_or-replicate}
use lib.Seq.{get_or-drop, drop-drop, length-take-le, drop-paste, take-paste, take-add, get_or-take, ext_get_or, paste, paste-suc, take-take, length-paste}
use borrow.Rule.Slice.PartMut.{put_mid}
use Rattle.std.proofs.lemmas.Slice.{put_mid-paste}
use Rattle.sizes.specs.Sizes.{cell_octets, sdu_bits}
use Rattle.dl_sdu_store.specs.Cells.{first_bits}

-- k octets of a cell, one by one: the first n bits of s, then zeros
unfoldable pub cell_from : ℕ → ℕ → List ℕ → List ℕ
cell_from zero n s = []
cell_from (suc k) n s = first_bits (min n 8) (get_or s 0 0) ∷ cell_from k (n - 8) (drop 1 s)

unfoldable pub octet_cell : ℕ → List ℕ → List ℕ
octet_cell n s = cell_from cell_octets n s

pub length-cell_from : (k n : ℕ) (s : List ℕ) → length (cell_from k n s) ≡ k
unfolding cell_from
length-cell_from zero n s = refl
length-cell_from (suc k) n s = ap suc (length-cell_from k (n - 8) (drop 1 s))

pub length-octet_cell : (n : ℕ) (s : List ℕ) → length (octet_cell n s) ≡ cell_octets
unfolding octet_cell
length-octet_cell n s = length-cell_from cell_octets n s

cell_at : (k i n : ℕ) (s : List ℕ) → i < k → get_or (cell_from k n s) i 0 ≡ first_bits (min (n - 8 * i) 8) (get_or s i 0)
unfolding cell_from
cell_at zero i n s h = absurd (omega arith)
cell_at (suc k) zero n s h = let e : n ≡ n - 0 = omega arith in ap (λ (m : ℕ). first_bits (min m 8) (get_or s 0 0)) e
cell_at (suc k) (suc i) n s h =
    let e : n - 8 - 8 * i ≡ n - 8 * suc i = omega arith in
    cell_at k i (n - 8) (drop 1 s) (omega arith)
    ∙ ap₂ (λ (m x : ℕ). first_bits (min m 8) x) e (get_or-drop 1 s i 0 ∙ ap (λ (j : ℕ). get_or s j 0) (one-add i))

pub kept-all : (x : ℕ) → first_bits 8 x ≡ x
unfolding first_bits
kept-all x = omega arith

kept-none : (x : ℕ) → first_bits 0 x ≡ 0
unfolding first_bits
kept-none x = refl

kept-some : (x r : ℕ) → (r ≡ 0 → ⊥) → r < 8 → x / 2 ^ (8 - r) * 2 ^ (8 - r) ≡ first_bits r x
unfolding first_bits
kept-some x zero n h = absurd (n refl)
kept-some x (suc r) n h = let e : 8 - suc r ≡ 7 - r = omega arith in ap (λ (k : ℕ). x / 2 ^ k * 2 ^ k) e

-- an octet shifted to the right and back
pub edge-some : (x r : ℕ) → (r ≡ 0 → ⊥) → r < 8 → x < 2 ^ 8 → x / 2 ^ (8 - r) * 2 ^ (8 - r) % 2 ^ 8 ≡ first_bits r x
edge-some x r n h small =
    let k : ℕ = 8 - r in
    let s : x / 2 ^ k * 2 ^ k + x % 2 ^ k ≡ x = split x k in
    mod-eq_of_lt (omega (arith, s, small)) ∙ kept-some x r n h

pub edge_none : (x r : ℕ) → r ≡ 0 → 0 ≡ first_bits r x
edge_none x r e = sym (ap (λ (m : ℕ). first_bits m x) e ∙ kept-none x)

-- a whole octet, the octet at the edge, an octet past it
pub cell-whole : (n i : ℕ) (s : List ℕ) → i < cell_octets → i < n / 8 → get_or s i 0 ≡ get_or (octet_cell n s) i 0
unfolding octet_cell
cell-whole n i s h k =
    let e : min (n - 8 * i) 8 ≡ 8 = omega arith in
    sym (cell_at cell_octets i n s h ∙ ap (λ (m : ℕ). first_bits m (get_or s i 0)) e ∙ kept-all (get_or s i 0))

pub cell-edge : (n : ℕ) (s : List ℕ) → n / 8 < cell_octets → first_bits (n % 8) (get_or s (n / 8) 0) ≡ get_or (octet_cell n s) (n / 8) 0
unfolding octet_cell
cell-edge n s h =
    let e : min (n - 8 * (n / 8)) 8 ≡ n % 8 = omega arith in
    sym (cell_at cell_octets (n / 8) n s h ∙ ap (λ (m : ℕ). first_bits m (get_or s (n / 8) 0)) e)

pub cell-past : (n i : ℕ) (s : List ℕ) → i < cell_octets → n / 8 < i → 0 ≡ get_or (octet_cell n s) i 0
unfolding octet_cell
cell-past n i s h k =
    let e : min (n - 8 * i) 8 ≡ 0 = omega arith in
    sym (cell_at cell_octets i n s h ∙ ap (λ (m : ℕ). first_bits m (get_or s i 0)) e ∙ kept-none (get_or s i 0))

-- a turn of a loop that writes a list octet by octet
module _ {A : Type 0} (d : List A) (at : ℕ) (s l : List A) (i : ℕ) (x z : A) where
  pub paste-turn : l ≡ paste d at s i → at + i < length d → i < length s → x ≡ get_or s i z → set l (at + i) x ≡ paste d at s (i + 1)
  paste-turn e hd hs v = ap₂ (λ (m : List A) (y : A). set m (at + i) y) e v ∙ paste-suc d at s i z hd hs ∙ ap (paste d at s) (sym (add-one i))

-- a list written up to i, and then its next k elements
pub paste-next : {A : Type 0} (d : List A) (at : ℕ) (s : List A) (i : ℕ) (e : List A) (k : ℕ) → take k e ≡ take k (drop i s) → at + (i + k) ≤ length d
    → i + k ≤ length s
    → paste (paste d at s i) (at + i) e k ≡ paste d at s (i + k)
paste-next {A} d at s i e k h hd hs =
    let x : List A = paste d at s i in
    let n : at + i + k ≡ at + (i + k) = omega arith in
    let one : take (at + i) x ≡ take at d ++ take i s = take-paste d at s i (omega arith) (omega arith) in
    let two : drop (at + i + k) x ≡ drop (at + (i + k)) d =
    sym (drop-drop k (at + i) x) ∙ ap (drop k) (drop-paste d at s i (omega arith) (omega arith)) ∙ drop-drop k (at + i) d ∙ ap (λ (m : ℕ). drop m d) n in
    ap₂ (λ (a b : List A). a ++ take k e ++ b) one two
    ∙ ap (λ (a : List A). a ++ drop (at + (i + k)) d)
    (append_assoc (take at d) (take i s) (take k e) ∙ ap (λ (a : List A). take at d ++ a) (ap (λ (a : List A). take i s ++ a) h ∙ sym (take-add i k s)))

-- two lists that agree up to n write the same
pub paste-same : {A : Type 0} (d : List A) (at : ℕ) (s t : List A) (n : ℕ) → take n s ≡ take n t → paste d at s n ≡ paste d at t n
paste-same {A} d at s t n e = ap (λ (a : List A). take at d ++ a ++ drop (at + n) d) e

pub cell-prefix : (n : ℕ) (s : List ℕ) → n ≤ sdu_bits → n ≤ 8 * length s → take (n / 8) s ≡ take (n / 8) (octet_cell n s)
cell-prefix n s h k =
    let w : ℕ = n / 8 in
    let one : length (take w s) ≡ w = length-take-le w s (omega arith) in
    let two : length (take w (octet_cell n s)) ≡ w = length-take-le w (octet_cell n s) (rw length-octet_cell (omega arith)) in
    ext_get_or 0 (take w s) (take w (octet_cell n s)) (one ∙ sym two)
    (λ i b. let q : i < w = omega (arith, one, b) in
    get_or-take w s i 0 q ∙ cell-whole n i s (omega arith) q ∙ sym (get_or-take w (octet_cell n s) i 0 q))

pub cell-suffix : (n : ℕ) (s : List ℕ) → n / 8 < cell_octets
    → take (cell_octets - 1 - n / 8) (replicate (cell_octets - 1 - n / 8) 0) ≡ take (cell_octets - 1 - n / 8) (drop (n / 8 + 1) (octet_cell n s))
cell-suffix n s h =
    let w : ℕ = n / 8 in
    let k : ℕ = cell_octets - 1 - w in
    let t : List ℕ = drop (w + 1) (octet_cell n s) in
    let z : List ℕ = replicate k 0 in
    let one : length (take k z) ≡ k = length-take-le k z (rw length-replicate (omega arith)) in
    let two : length (take k t) ≡ k = length-take-le k t (rw (length-drop, length-octet_cell) (omega arith)) in
    ext_get_or 0 (take k z) (take k t) (one ∙ sym two)
    (λ i b. let q : i < k = omega (arith, one, b) in
    get_or-take k z i 0 q ∙ get_or-replicate k i 0 0 q
    ∙ cell-past n (w + 1 + i) s (omega arith) (omega arith) ∙ sym (get_or-drop (w + 1) (octet_cell n s) i 0) ∙ sym (get_or-take k t i 0 q))

-- the first `w` of a list copied into a part of that length, and a part filled with zeros
put-first : (d ys s : List ℕ) (base k w : ℕ) → ys ≡ take w s → k ≡ w → w ≤ length s → put_mid base k d ys ≡ paste d base s w
put-first d ys s base k w e ek h =
    put_mid-paste base k d ys (take w s) w e (sym ek) (sym (length-take-le w s h)) ∙ paste-same d base (take w s) s w (take-take w w s (omega arith))

put-zeros : (l ys : List ℕ) (at k n : ℕ) → ys ≡ replicate (length (take k (drop at l))) 0 → k ≡ n → at + n ≤ length l
    → put_mid at k l ys ≡ paste l at (replicate n 0) n
put-zeros l ys at k n e ek h =
    let long : length (take k (drop at l)) ≡ n = rw (length-take, length-drop) (omega arith) in
    put_mid-paste at k l ys (replicate n 0) n (e ∙ ap (λ (m : ℕ). replicate m 0) long) (sym ek) (sym (length-replicate n 0))

-- a cell written in three steps
pub cell-written : (d : List ℕ) (base n : ℕ) (s : List ℕ) (x : ℕ) → base + cell_octets ≤ length d → n ≤ sdu_bits → n ≤ 8 * length s → n / 8 < cell_octets
    → x ≡ first_bits (n % 8) (get_or s (n / 8) 0)
    → paste (set (paste d base s (n / 8)) (base + n / 8) x) (base + (n / 8 + 1)) (replicate (cell_octets - 1 - n / 8) 0) (cell_octets - 1 - n / 8)
    ≡ paste d base (octet_cell n s) cell_octets
cell-written d base n s x hd h k b e =
    let w : ℕ = n / 8 in
    let c : List ℕ = octet_cell n s in
    let full : length c ≡ cell_octets = length-octet_cell n s in
    let end : w + 1 + (cell_octets - 1 - w) ≡ cell_octets = omega arith in
    let first : paste d base s w ≡ paste d base c w = paste-same d base s c w (cell-prefix n s h k) in
    let second : set (paste d base s w) (base + w) x ≡ paste d base c (w + 1) =
    paste-turn d base c (paste d base s w) w x 0 first (omega arith) (omega arith) (e ∙ cell-edge n s b) in
    ap (λ (l : List ℕ). paste l (base + (w + 1)) (replicate (cell_octets - 1 - w) 0) (cell_octets - 1 - w)) second
    ∙ paste-next d base c (w + 1) (replicate (cell_octets - 1 - w) 0) (cell_octets - 1 - w) (cell-suffix n s b) (omega arith) (omega arith)
    ∙ ap (paste d base c) end

pub cell_full : (d : List ℕ) (base n : ℕ) (s : List ℕ) → n ≤ sdu_bits → n ≤ 8 * length s → n / 8 ≡ cell_octets
    → paste d base s (n / 8) ≡ paste d base (octet_cell n s) cell_octets
cell_full d base n s h k e = paste-same d base s (octet_cell n s) (n / 8) (cell-prefix n s h k) ∙ ap (paste d base (octet_cell n s)) e

-- as the code writes it: `k` octets copied, one stored, and `j` filled
pub cell-put : (d : List ℕ) (base n : ℕ) (s : List ℕ) (x k j : ℕ) (ys zs : List ℕ) → base + cell_octets ≤ length d → n ≤ sdu_bits → n ≤ 8 * length s
    → n / 8 < cell_octets → x ≡ first_bits (n % 8) (get_or s (n / 8) 0) → ys ≡ take (n / 8) s → k ≡ n / 8 → j ≡ cell_octets - 1 - n / 8
    → zs ≡ replicate (length (take j (drop (base + (n / 8 + 1)) (set (put_mid base k d ys) (base + n / 8) x)))) 0
    → put_mid (base + (n / 8 + 1)) j (set (put_mid base k d ys) (base + n / 8) x) zs ≡ paste d base (octet_cell n s) cell_octets
cell-put d base n s x k j ys zs hd h hs b e ey ek ej ez =
    let w : ℕ = n / 8 in
    let first : put_mid base k d ys ≡ paste d base s w = put-first d ys s base k w ey ek (omega arith) in
    let long : length (put_mid base k d ys) ≡ length d = ap length first ∙ length-paste d base s w (omega arith) (omega arith) in
    put-zeros (set (put_mid base k d ys) (base + w) x) zs (base + (w + 1)) j (cell_octets - 1 - w) ez ej (rw length-set (omega (arith, long)))
    ∙ ap (λ (l : List ℕ). paste (set l (base + w) x) (base + (w + 1)) (replicate (cell_octets - 1 - w) 0) (cell_octets - 1 - w)) first
    ∙ cell-written d base n s x hd h hs b e

pub cell_put-full : (d : List ℕ) (base n : ℕ) (s : List ℕ) (k : ℕ) (ys : List ℕ) → n ≤ sdu_bits → n ≤ 8 * length s → n / 8 ≡ cell_octets
    → ys ≡ take (n / 8) s → k ≡ n / 8 → put_mid base k d ys ≡ paste d base (octet_cell n s) cell_octets
cell_put-full d base n s k ys h hs e ey ek = put-first d ys s base k (n / 8) ey ek (omega arith) ∙ cell_full d base n s h hs e
