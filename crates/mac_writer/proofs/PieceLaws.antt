-- A field behind a piece: what is shifted does not pass 64 bits. Assumes nothing.
use mathlib.Core.Path.{◌≡◌, sym, ap, ◌∙◌, subst}
use mathlib.Core.List.{List, ◌++◌}
use Prim.Native.Nat.{ℕ, ◌+◌, ◌-◌, ◌*◌, ◌%◌, ◌^◌, ◌<◌, ◌≤◌}
use native.Mathlib.Nat.{mod-lt}
use native.Mathlib.Omega.{arith}
use lib.Arith.{digits_lt}
use lib.ListN.{length}
use lib.Pow.{pow-add, pow_pos, shl-shr, low, mod-pow-add, mod-mod-pow}
use Rattle.bitbuffer.specs.Bits.{value_bits}
use Rattle.bitbuffer.proofs.Laws.{length-value_bits, value_bits-mod}
use Rattle.bitbuffer.proofs.Octets.{value_bits-join}

-- the number of a piece of `a` bits moved up by `b` in 64 bits, and a field of `b` bits
module _ (a b x y : ℕ) (few : a + b ≤ 64) (small : y < 2 ^ b) where
  -- what is left of the piece's number
  abbrev kept : ℕ
  kept = x % 2 ^ (64 - b)

  room : 64 - b + b ≡ 64
  room = omega arith

  nothing-low : x * 2 ^ b % 2 ^ b ≡ 0
  nothing-low = let e : x * 2 ^ b ≡ x * 2 ^ b + 0 = omega arith in ap (λ (n : ℕ). n % 2 ^ b) e ∙ low x b (pow_pos b)

  pub shifted : x * 2 ^ b % 18446744073709551616 ≡ kept * 2 ^ b
  shifted =
      ap (λ (n : ℕ). x * 2 ^ b % 2 ^ n) (sym room) ∙ mod-pow-add (x * 2 ^ b) (64 - b) b
      ∙ rw (shl-shr x b, nothing-low) (omega arith)

  pub joined-fits : x * 2 ^ b % 18446744073709551616 + y < 18446744073709551616
  joined-fits =
      rw shifted
      (subst (λ (n : ℕ). kept * 2 ^ b + y < n) (sym (pow-add 2 (64 - b) b) ∙ ap (λ (n : ℕ). 2 ^ n) room) (digits_lt (mod-lt x (pow_pos (64 - b))) small))

  same : value_bits a kept ≡ value_bits a x
  same =
      let e : 64 - b ≡ 64 - b - a + a = omega arith in
      sym (value_bits-mod a kept) ∙ ap (value_bits a) (ap (λ (n : ℕ). x % 2 ^ n % 2 ^ a) e ∙ mod-mod-pow x (64 - b - a) a) ∙ value_bits-mod a x

  pub joined-bits : value_bits (a + b) (x * 2 ^ b % 18446744073709551616 + y) ≡ value_bits a x ++ value_bits b y
  joined-bits = rw shifted (sym (value_bits-join a b kept y small) ∙ ap (λ (l : List ℕ). l ++ value_bits b y) same)

-- a piece of these bits has as many
pub piece-size : (w v : ℕ) {f : List ℕ} → value_bits w v ≡ f → w ≡ length f
piece-size w v e = sym (length-value_bits w v) ∙ ap length e
