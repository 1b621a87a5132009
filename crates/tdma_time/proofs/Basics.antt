-- Small laws of tests and of numbers in order that the laws of time use.
-- Assumes nothing.
use mathlib.Core.Path.{◌≡◌, refl}
use mathlib.Core.Logic.{◌⊎◌, inl, inr}
use mathlib.Core.Bool.{Bool, true, false}
use mathlib.Core.List.{List, [], ◌∷◌}
use Prim.Native.Nat.{ℕ, ◌+◌, ◌≤◌}
use native.Mathlib.Omega.{arith}

-- ---- tests

-- a test passes or fails
pub either : (b : Bool) → (b ≡ true) ⊎ (b ≡ false)
either true = inl refl
either false = inr refl

-- ---- numbers in order

-- the numbers of a list are at or after n, each after the one before
abbrev pub RisingFrom : ℕ → List ℕ → Type 0
RisingFrom n [] = Unit {0}
RisingFrom n (x ∷ xs) = (n ≤ x) × RisingFrom (x + 1) xs

-- they are then at or after any earlier number
pub rising-earlier : (m n : ℕ) (xs : List ℕ) → m ≤ n → RisingFrom n xs → RisingFrom m xs
rising-earlier m n [] l h = tt
rising-earlier m n (x ∷ xs) l h = (omega (arith, h.0), h.1)
