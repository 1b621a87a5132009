-- A part of a list written over, element by element, and parts that agree. Assumes nothing.
use mathlib.Core.Path.{◌≡◌, sym, ap, ◌∙◌}
use mathlib.Core.List.{List, ◌++◌}
use Prim.Native.Nat.{ℕ, ◌+◌, ◌-◌, ◌<◌, ◌≤◌}
use native.Mathlib.Omega.{arith}
use lib.ListN.{length, get_or, drop, take, length-drop, length-take, get_or-append}
use lib.Seq.{get_or-drop, get_or-take, get_or-append-add, length-take-le, paste, ext_get_or, length_paste_head}

module _ {A : Type 0} (z : A) (d : List A) (at : ℕ) (c : List A) (n : ℕ) (full : n ≤ length c) (room : at + n ≤ length d) where
  pub paste-before : (i : ℕ) → i < at → get_or (paste d at c n) i z ≡ get_or d i z
  paste-before i h =
      get_or-append (take at d ++ take n c) (drop (at + n) d) z i (omega (arith, length_paste_head d at c n (omega arith) full))
      ∙ get_or-append (take at d) (take n c) z i (omega (arith, length-take-le at d (omega arith)))
      ∙ get_or-take at d i z h

  pub paste-after : (i : ℕ) → at + n ≤ i → get_or (paste d at c n) i z ≡ get_or d i z
  paste-after i h =
      let j : ℕ = i - (at + n) in
      let e : i ≡ length (take at d ++ take n c) + j = omega (arith, length_paste_head d at c n (omega arith) full) in
      let f : at + n + j ≡ i = omega arith in
      ap (λ (m : ℕ). get_or (paste d at c n) m z) e
      ∙ get_or-append-add (take at d ++ take n c) (drop (at + n) d) j z
      ∙ get_or-drop (at + n) d j z ∙ ap (λ (m : ℕ). get_or d m z) f

  pub paste-inside : (i : ℕ) → i < n → get_or (paste d at c n) (at + i) z ≡ get_or c i z
  paste-inside i h =
      let s : length (take at d) ≡ at = length-take-le at d (omega arith) in
      get_or-append (take at d ++ take n c) (drop (at + n) d) z (at + i) (omega (arith, length_paste_head d at c n (omega arith) full))
      ∙ ap (λ (m : ℕ). get_or (take at d ++ take n c) (m + i) z) (sym s)
      ∙ get_or-append-add (take at d) (take n c) i z ∙ get_or-take n c i z h

-- two lists that agree on a part
pub part-agree : (n from : ℕ) (l m : List ℕ) → length l ≡ length m → ((i : ℕ) → i < n → get_or l (from + i) 0 ≡ get_or m (from + i) 0)
    → take n (drop from l) ≡ take n (drop from m)
part-agree n from l m e f =
    let sizes : length (take n (drop from l)) ≡ length (take n (drop from m)) = simp (length-take, length-drop, e) in
    ext_get_or 0 (take n (drop from l)) (take n (drop from m)) sizes
    (λ i h. let q : i < n = omega (arith, simp length-take at h) in
    get_or-take n (drop from l) i 0 q ∙ get_or-drop from l i 0 ∙ f i q ∙ sym (get_or-drop from m i 0) ∙ sym (get_or-take n (drop from m) i 0 q))

-- two parts that agree, at different places
pub parts-agree : (n a b : ℕ) (l m : List ℕ) → a + n ≤ length l → b + n ≤ length m → ((i : ℕ) → i < n → get_or l (a + i) 0 ≡ get_or m (b + i) 0)
    → take n (drop a l) ≡ take n (drop b m)
parts-agree n a b l m hl hm f =
    let one : length (take n (drop a l)) ≡ n = length-take-le n (drop a l) (rw length-drop (omega arith)) in
    let two : length (take n (drop b m)) ≡ n = length-take-le n (drop b m) (rw length-drop (omega arith)) in
    ext_get_or 0 (take n (drop a l)) (take n (drop b m)) (one ∙ sym two)
    (λ i h. let q : i < n = omega (arith, one, h) in
    get_or-take n (drop a l) i 0 q ∙ get_or-drop a l i 0 ∙ f i q ∙ sym (get_or-drop b m i 0) ∙ sym (get_or-take n (drop b m) i 0 q))
