-- A run of bits that a closure gives, those of one octet at a time. Assumes nothing.
use Rattle.std.specs.Prelude.{◌≡◌, ℕ, ◌+◌, ◌-◌, ◌≤◌, List, length}
use Rattle.bitbuffer.specs.Bits.{value_bits, part}

-- `f` has `n` bits, and what `gives left k v` says of `v` is that it writes the `k` bits of `f` before the last `left`
pub record GivesBits (gives : ℕ → ℕ → ℕ → Type 0) (n : ℕ) (f : List ℕ) : Type 0 where
  pub size : length f ≡ n
  pub bits : (left k v : ℕ) → left + k ≤ n → k ≤ 8 → gives left k v → value_bits k v ≡ part f (n - left - k) k
