-- A run of octets as a list of bits, and fields of any width written into it or read out of it.
-- The first bit of an octet is its most significant: so the null PDU, type 00 first and code 2 in its six length bits, is "octets 00 10 hexadecimal".
-- Assumes nothing.
use Rattle.std.specs.Prelude.{◌≡◌, ℕ, zero, suc, ◌+◌, ◌*◌, ◌/◌, ◌%◌, ◌^◌, ◌<◌, List, [], ◌∷◌, ◌++◌, length, take, drop, set}
use Rattle.std.specs.List.{AllByRecursion}

-- the low `w` bits of `v`, most significant first ("six length bits", "address (24)")
unfoldable pub value_bits : ℕ → ℕ → List ℕ
value_bits zero v = []
value_bits (suc w) v = v / 2 ^ w % 2 ∷ value_bits w v

-- the number that a run of bits writes, most significant first
unfoldable pub bits_value : List ℕ → ℕ
bits_value [] = 0
bits_value (b ∷ l) = b * 2 ^ length l + bits_value l

-- the bits of a run of octets ("268 bits in 34 octets")
unfoldable pub bits_of : List ℕ → List ℕ
bits_of [] = []
bits_of (x ∷ s) = value_bits 8 x ++ bits_of s

-- the `n` octets that a run of bits makes
unfoldable pub packed : ℕ → List ℕ → List ℕ
packed zero l = []
packed (suc n) l = bits_value (take 8 l) ∷ packed n (drop 8 l)

-- `l` with the bits `f` in the place of those from `at` on, one after another; every other bit is left
unfoldable pub written : List ℕ → ℕ → List ℕ → List ℕ
written l at [] = l
written l at (b ∷ f) = written (set l at b) (suc at) f

-- the `n` bits from `at` on
unfoldable pub part : List ℕ → ℕ → ℕ → List ℕ
part l at n = take n (drop at l)

-- every element is 0 or 1
unfoldable pub AreBits : List ℕ → Type 0
AreBits = AllByRecursion (λ b. b < 2)

-- reads `w` bits at `at`, and goes on with their value and the position behind them
unfoldable pub field {ℓ} : {X : Type ℓ} → List ℕ → ℕ → ℕ → (ℕ → ℕ → X) → X
field l at w k = k (bits_value (part l at w)) (at + w)

-- the bits `m` are the bits `l` with `f` written from `at` up to `end`
pub record Wrote (l : List ℕ) (at : ℕ) (m : List ℕ) (end : ℕ) (f : List ℕ) : Type 0 where
  pub ends : end ≡ at + length f
  pub bits : m ≡ written l at f
