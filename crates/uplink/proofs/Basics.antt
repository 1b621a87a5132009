-- Small laws of tests and lists. Assumes nothing.
use mathlib.Core.Path.{◌≡◌, refl, sym, ◌∙◌}
use mathlib.Core.Bool.{Bool, true, false, true≢false}
use mathlib.Core.List.{List, [], ◌∷◌}
use native.Mathlib.Omega.{arith}
use lib.ListN.{length, get_or}

-- no test passes and fails
pub not-both {ℓ} : {X : Type ℓ} (b : Bool) → b ≡ true → b ≡ false → X
not-both b p q = absurd (true≢false (sym p ∙ q))

-- a list of four is its elements
pub four : {A : Type 0} (l : List A) (d : A) → length l ≡ 4 → get_or l 0 d ∷ get_or l 1 d ∷ get_or l 2 d ∷ get_or l 3 d ∷ [] ≡ l
four [] d e = absurd (omega arith)
four (a ∷ []) d e = absurd (omega arith)
four (a ∷ b ∷ []) d e = absurd (omega arith)
four (a ∷ b ∷ c ∷ []) d e = absurd (omega arith)
four (a ∷ b ∷ c ∷ k ∷ []) d e = refl
four (a ∷ b ∷ c ∷ k ∷ m ∷ l) d e = absurd (omega arith)
