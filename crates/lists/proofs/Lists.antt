-- Laws of lists that several crates cite and the library lacks. Assumes nothing.
use mathlib.Core.Path.{◌≡◌, ap}
use mathlib.Core.List.{List, [], ◌∷◌, ◌++◌}
use Prim.Native.Nat.{ℕ, ◌+◌, ◌-◌}
use native.Mathlib.Nat.{zero-add, suc-add}
use native.Mathlib.Omega.{arith}
use lib.ListN.{length, set, take, drop, length-drop}
use lib.Seq.{take_all}
-- inside a list the default does not matter; n times one element, without the first k
pub use Rattle.std.proofs.lemmas.List.{get_or_default as get_d_any, drop-replicate}

-- the rest of a list, as the code lends it
pub rest : {A : Type 0} (l : List A) (n : ℕ) → take (length l - n) (drop n l) ≡ drop n l
rest l n = take_all (length l - n) (drop n l) (omega (arith, length-drop n l))

-- an element set in the second of two lists
pub set-append-add : {A : Type 0} (l m : List A) (n : ℕ) (b : A) → set (l ++ m) (length l + n) b ≡ l ++ set m n b
set-append-add [] m n b = rw zero-add
set-append-add (x ∷ l) m n b = rw suc-add (ap (◌∷◌ x) (set-append-add l m n b))
