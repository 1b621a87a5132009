-- A test of every element, by places. Assumes nothing.
use Rattle.std.specs.List.{list_all}
use Rattle.std.proofs.lemmas.Bool.{and_parts}
use Rattle.std.specs.Cmp.Derive.{both_true}
use mathlib.Core.Path.{◌≡◌, refl}
use mathlib.Core.Bool.{Bool, true}
use mathlib.Core.List.{List, [], ◌∷◌}
use Prim.Native.Nat.{ℕ, zero, suc, ◌<◌, zero-le, suc-le-suc}
use native.Mathlib.Nat.{not-suc-le-zero, le_of_suc-le-suc}
use lib.ListN.{length, get_or}

module _ {A : Type 0} (p : A → Bool) where
  -- every element passes exactly if each place's does
  pub all-at : (l : List A) (i : ℕ) (d : A) → i < length l → list_all p l ≡ true → p (get_or l i d) ≡ true
  all-at [] i d h e = absurd (not-suc-le-zero h)
  all-at (x ∷ l) zero d h e = (and_parts (p x) _ e).0
  all-at (x ∷ l) (suc i) d h e = all-at l i d (le_of_suc-le-suc h) ((and_parts (p x) _ e).1)

  pub at_all : (l : List A) (d : A) → ((i : ℕ) → i < length l → p (get_or l i d) ≡ true) → list_all p l ≡ true
  at_all [] d h = refl
  at_all (x ∷ l) d h = both_true (h 0 (suc-le-suc zero-le)) (at_all l d (λ i k. h (suc i) (suc-le-suc k)))
