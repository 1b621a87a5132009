-- Laws of tables: a list read past its end, a test computed over the numbers below a bound. Assumes nothing.
use mathlib.Core.Path.{◌≡◌, refl}
use mathlib.Core.Bool.{Bool, true, ◌&&◌, and-eq-true_iff}
use mathlib.Core.List.{List, [], ◌∷◌, ◌++◌}
use Prim.Native.Nat.{ℕ, zero, suc, ◌≤◌, ◌<◌}
use native.Mathlib.Nat.{le_of_suc-le-suc, not-suc-le-zero}
use lib.Dec.{eqb}
use lib.ListN.{length, get_or}
use borrow.Author.Tests.{eqb-true}

-- the last element repeated: from its place on, a list whose default is its last element has that
pub past-the-last {ℓ} : {A : Type ℓ} (xs : List A) (d : A) (n : ℕ) → length xs ≤ n → get_or (xs ++ (d ∷ [])) n d ≡ d
past-the-last [] d zero h = refl
past-the-last [] d (suc n) h = refl
past-the-last (x ∷ xs) d zero h = absurd (not-suc-le-zero h)
past-the-last (x ∷ xs) d (suc n) h = past-the-last xs d n (le_of_suc-le-suc h)

-- a test passes at each number below n
abbrev pub every : (ℕ → Bool) → ℕ → Bool
every f zero = true
every f (suc n) = f 0 && every (λ k. f (suc k)) n

-- so it passes at one of them
pub at_each : (f : ℕ → Bool) (n : ℕ) → every f n ≡ true → (k : ℕ) → k < n → f k ≡ true
at_each f zero t k h = absurd (not-suc-le-zero h)
at_each f (suc n) t zero h = ((and-eq-true_iff (f 0) (every (λ k. f (suc k)) n)).0 t).0
at_each f (suc n) t (suc k) h = at_each (λ k. f (suc k)) n ((and-eq-true_iff (f 0) (every (λ k. f (suc k)) n)).0 t).1 k (le_of_suc-le-suc h)

-- two functions agree below n
pub agree-below : (f g : ℕ → ℕ) (n : ℕ) → every (λ k. eqb (f k) (g k)) n ≡ true → (k : ℕ) → k < n → f k ≡ g k
agree-below f g n t k h = eqb-true _ _ (at_each (λ k. eqb (f k) (g k)) n t k h)
