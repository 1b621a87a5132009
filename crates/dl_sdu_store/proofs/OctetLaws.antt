-- Every number of a store is an octet, and stays one. Assumes nothing.
use mathlib.Core.List.{List, [], ◌∷◌, ◌++◌}
use Prim.Native.Nat.{ℕ, zero, suc, ◌+◌, ◌-◌, ◌^◌, ◌<◌}
use native.Mathlib.Omega.{arith}
use lib.ListN.{get_or, drop, take, replicate}
use lib.Seq.{get_or-drop, paste}
use Rattle.bitbuffer.proofs.Octets.{zeros-are-bits}
use Rattle.sizes.specs.Sizes.{cell_octets, sdu_bits}
use Rattle.bitbuffer.specs.Bits.{bits_of, packed, part, AreBits}
use Rattle.bitbuffer.proofs.Laws.{part-lt, bits-drop, bits-append, bits-take, bits-bits_of}
use Rattle.dl_sdu_store.specs.Cells.{cell_of}

abbrev pub Octets : List ℕ → Type 0
Octets s = (i : ℕ) → get_or s i 0 < 2 ^ 8

pub octets-drop : (n : ℕ) (s : List ℕ) → Octets s → Octets (drop n s)
octets-drop n s h i = rw (get_or-drop n s i 0) (h (n + i))

pub octets-take : (n : ℕ) (s : List ℕ) → Octets s → Octets (take n s)
octets-take zero s h i = omega arith
octets-take (suc n) [] h i = omega arith
octets-take (suc n) (x ∷ s) h zero = h 0
octets-take (suc n) (x ∷ s) h (suc i) = octets-take n s (λ j. h (suc j)) i

pub octets-append : (l m : List ℕ) → Octets l → Octets m → Octets (l ++ m)
octets-append [] m h k i = k i
octets-append (x ∷ l) m h k zero = h 0
octets-append (x ∷ l) m h k (suc i) = octets-append l m (λ j. h (suc j)) k i

pub octets-paste : (d : List ℕ) (at : ℕ) (c : List ℕ) (n : ℕ) → Octets d → Octets c → Octets (paste d at c n)
octets-paste d at c n h k =
    octets-append (take at d ++ take n c) (drop (at + n) d) (octets-append (take at d) (take n c) (octets-take at d h) (octets-take n c k))
    (octets-drop (at + n) d h)

pub octets-zero : (n : ℕ) → Octets (replicate n 0)
octets-zero zero i = omega arith
octets-zero (suc n) zero = omega arith
octets-zero (suc n) (suc i) = octets-zero n i

octets-packed : (n : ℕ) (l : List ℕ) → AreBits l → Octets (packed n l)
unfolding packed part
octets-packed zero l h i = omega arith
octets-packed (suc n) l h zero = part-lt l 0 8 h
octets-packed (suc n) l h (suc i) = octets-packed n (drop 8 l) (bits-drop 8 l h) i

pub octets-cell_of : (n : ℕ) (s : List ℕ) → Octets (cell_of n s)
unfolding cell_of
octets-cell_of n s =
    octets-packed cell_octets (take n (bits_of s) ++ replicate (sdu_bits - n) 0)
    (bits-append (take n (bits_of s)) (replicate (sdu_bits - n) 0) (bits-take n (bits_of s) (bits-bits_of s)) (zeros-are-bits (sdu_bits - n)))
