-- Every element of a list has a property. Assumes nothing.
use mathlib.Core.Logic.{⊎_elim}
use mathlib.Core.List.Memᴰ
use mathlib.Core.List.{List, [], ◌∷◌, ◌++◌, Memᴰ}
use Prim.Native.Nat.{ℕ, zero, suc}
use lib.ListN.{take, drop}
-- each element of a list has the property, said down the list; std's `All` says it by index
pub use Rattle.std.specs.List.{AllByRecursion as All}

module _ {A : Type 0} (P : A → Type 0) where
  pub all_take : (n : ℕ) (xs : List A) → All P xs → All P (take n xs)
  all_take zero xs h = tt
  all_take (suc n) [] h = tt
  all_take (suc n) (x ∷ xs) h = (h.0, all_take n xs h.1)

  pub all_drop : (n : ℕ) (xs : List A) → All P xs → All P (drop n xs)
  all_drop zero xs h = h
  all_drop (suc n) [] h = tt
  all_drop (suc n) (x ∷ xs) h = all_drop n xs h.1

  pub all_append : (xs ys : List A) → All P xs → All P ys → All P (xs ++ ys)
  all_append [] ys h k = k
  all_append (x ∷ xs) ys h k = (h.0, all_append xs ys h.1 k)

  -- any one that is in the list has it
  pub all-at : {x : A} (xs : List A) → All P xs → Memᴰ x xs → P x
  all-at {x} [] h m = absurd (Memᴰ.not-nil m)
  all-at {x} (y ∷ ys) h m = ⊎_elim (λ e. rw e h.0) (all-at ys h.1) (Memᴰ.cases_cons m)

  -- what everything has, every element has
  pub all-every : ((x : A) → P x) → (xs : List A) → All P xs
  all-every h [] = tt
  all-every h (x ∷ xs) = (h x, all-every h xs)

module _ {A : Type 0} (P Q : A → Type 0) where
  -- what follows from the property
  pub all-weaken : ((x : A) → P x → Q x) → (xs : List A) → All P xs → All Q xs
  all-weaken f [] h = tt
  all-weaken f (x ∷ xs) h = (f x h.0, all-weaken f xs h.1)

  pub all_both : (xs : List A) → All P xs → All Q xs → All (λ (x : A). P x × Q x) xs
  all_both [] h k = tt
  all_both (x ∷ xs) h k = ((h.0, k.0), all_both xs h.1 k.1)
