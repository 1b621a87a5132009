-- The numbers of the refusals. Assumes nothing.
use mathlib.Core.Path.{◌≡◌, refl, sym, ap, ◌∙◌}
use mathlib.Core.Bool.{cond}
use mathlib.Core.List.{List, [], ◌∷◌}
use Prim.Native.Nat.{ℕ, ◌≤◌}
use native.Mathlib.Omega.{arith}
use lib.Dec.{eqb}
use Rattle.questions.specs.declared.Refusal.{Refusal}
use Rattle.questions.specs.Questions.{refusal_number}

-- none is 0
pub number-positive : (r : Refusal) → 1 ≤ refusal_number r
number-positive Refusal.Unsound = omega arith
number-positive Refusal.Lengths = omega arith
number-positive Refusal.Timeslot = omega arith
number-positive Refusal.Requirement = omega arith
number-positive Refusal.Address = omega arith
number-positive Refusal.Header = omega arith
number-positive Refusal.Sdu = omega arith
number-positive Refusal.QueueFull = omega arith
number-positive Refusal.NoRun = omega arith
number-positive Refusal.TooLate = omega arith
number-positive Refusal.NoRoom = omega arith
number-positive Refusal.Malformed = omega arith

-- the first of a list of refusals with a number
abbrev first_with : ℕ → List Refusal → Refusal
first_with n [] = Refusal.Unsound
first_with n (r ∷ rs) = cond (eqb (refusal_number r) n) r (first_with n rs)

-- the refusal of a number
abbrev refusal_of : ℕ → Refusal
refusal_of n =
    first_with n
    (Refusal.Unsound
    ∷ Refusal.Lengths
    ∷ Refusal.Timeslot
    ∷ Refusal.Requirement
    ∷ Refusal.Address
    ∷ Refusal.Header
    ∷ Refusal.Sdu
    ∷ Refusal.QueueFull
    ∷ Refusal.NoRun
    ∷ Refusal.TooLate
    ∷ Refusal.NoRoom
    ∷ Refusal.Malformed
    ∷ [])

refusal-back : (r : Refusal) → refusal_of (refusal_number r) ≡ r
refusal-back Refusal.Unsound = refl
refusal-back Refusal.Lengths = refl
refusal-back Refusal.Timeslot = refl
refusal-back Refusal.Requirement = refl
refusal-back Refusal.Address = refl
refusal-back Refusal.Header = refl
refusal-back Refusal.Sdu = refl
refusal-back Refusal.QueueFull = refl
refusal-back Refusal.NoRun = refl
refusal-back Refusal.TooLate = refl
refusal-back Refusal.NoRoom = refl
refusal-back Refusal.Malformed = refl

-- the number tells the refusal
pub number-tells : (a b : Refusal) → refusal_number a ≡ refusal_number b → a ≡ b
number-tells a b e = sym (refusal-back a) ∙ ap refusal_of e ∙ refusal-back b
