-- Document 01, "Queued record": "The SDU store is 64 cells of 256 octets, one to a place." Assumes nothing.
use Rattle.std.specs.Prelude.{Bool, true, ◌&&◌, List, [], ◌∷◌, ◌++◌, ℕ, zero, suc, ◌-◌, ◌*◌, ◌/◌, ◌^◌, eqb, drop, take, replicate}
use Rattle.sizes.specs.Sizes.{cell_octets, sdu_bits}
use Rattle.bitbuffer.specs.Bits.{bits_of, packed}

unfoldable pub all_zero : List ℕ → Bool
all_zero [] = true
all_zero (x ∷ l) = eqb x 0 && all_zero l

-- "Cell bits past the SDU are zero": those past the first n
unfoldable pub clean_past : ℕ → List ℕ → Bool
clean_past n cell = all_zero (drop n (bits_of cell))

-- the cell of an SDU of n bits: its bits, then zeros
unfoldable pub cell_of : ℕ → List ℕ → List ℕ
cell_of n sdu = packed cell_octets (take n (bits_of sdu) ++ replicate (sdu_bits - n) 0)

-- the first r bits of an octet, then zeros
unfoldable pub first_bits : ℕ → ℕ → ℕ
first_bits zero x = 0
first_bits (suc r) x = x / 2 ^ (7 - r) * 2 ^ (7 - r)
