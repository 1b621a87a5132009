-- Laws of the codes as numbers: what is granted is what was asked for, and the octet holds its halves. Assumes nothing.
use mathlib.Core.Path.{◌≡◌, refl, sym, ap, ◌∙◌}
use Rattle.std.proofs.Common.{Ok}
use mathlib.Core.Bool.{Bool, true, false, cond}
use mathlib.Core.List.{List, [], ◌∷◌, map}
use Prim.Native.Nat.{ℕ, zero, suc, ◌+◌, ◌≤◌, ◌<◌}
use native.Mathlib.Nat.{le_of_suc-le-suc, not-suc-le-zero, min-eq_left, min-eq_right}
use native.Mathlib.Omega.{arith}
use lib.Dec.{leb, ltb, lit<, eqb-suc-zero}
use lib.ListN.{length, get_or, get_or-eq_default}
use Rattle.std.specs.List.Sorted.{IsPartitionedBy, IsPartitionPoint}
use Rattle.std.proofs.lemmas.List.Sorted.{IsPartitionedBy-ltb, IsNonDecreasingBy-from_all_adjacent}
use borrow.Author.Tests.{leb-true, ltb-true, ltb-false, le-leb, lt-leb, eq-eqb}
use Rattle.slot_codes.specs.Codes.{slot_counts, slots_of, slots_wanted, slots_granted, capacity_for, first_holding, code_for, code_read, grant_octet, capacity_of, delay_of}
use Rattle.slot_codes.proofs.TableLaws.{at_each, agree-below}

-- past the table: over 68 is taken as 68, and the second half counts as one slot
pub slots-past-table : (past code : ℕ) → 15 ≤ code → slots_of past code ≡ past
slots-past-table past zero h = absurd (not-suc-le-zero h)
slots-past-table past (suc c) h = get_or-eq_default slot_counts past (le_of_suc-le-suc h)

-- the capacity that answers a requirement: the halves, the counts below 68, and 68
pub capacity-of-half : (code : ℕ) (second : Bool) → code ≡ 0 → capacity_for code second ≡ cond second 15 0
capacity-of-half code second h = rw (eq-eqb _ _ h)

pub capacity-of-slots : (code : ℕ) (second : Bool) → 0 < code → code ≤ 14 → capacity_for code second ≡ code
capacity-of-slots zero second p h = absurd (not-suc-le-zero p)
capacity-of-slots (suc c) second p h = rw (eqb-suc-zero c) (min-eq_left h)

pub capacity-of-68 : (code : ℕ) (second : Bool) → 14 ≤ code → capacity_for code second ≡ 14
capacity-of-68 zero second h = absurd (not-suc-le-zero h)
capacity-of-68 (suc c) second h = rw (eqb-suc-zero c) (min-eq_right h)

-- the counts rise, so those below a need stand before the others
counts-rise : (k d : ℕ) → k < 13 → get_or slot_counts k d ≤ get_or slot_counts (k + 1) d
counts-rise k d h = leb-true _ _ (at_each (λ k. leb (get_or slot_counts k d) (get_or slot_counts (k + 1) d)) 13 refl k h)

pub counts-apart : (n : ℕ) → IsPartitionedBy (λ y. ltb y n) slot_counts
counts-apart n = IsPartitionedBy-ltb (λ x. x) slot_counts n (IsNonDecreasingBy-from_all_adjacent (λ x. x) slot_counts (λ k d h. counts-rise k d (omega arith)))

-- where they end the first stands that holds it
pub first-above : (n : ℕ) (xs : List ℕ) (i : ℕ) → i ≤ length xs → IsPartitionPoint (λ y. ltb y n ≡ true) (λ y. ltb y n ≡ false) xs i → i ≡ first_holding xs n
first-above n [] i h p = omega arith
first-above n (x ∷ xs) zero h p = rw (le-leb n x (ltb-false x n (p.1 0 0 (omega arith) (omega arith))))
first-above n (x ∷ xs) (suc i) h p =
    let e : i ≡ first_holding xs n = first-above n xs i (omega arith) (λ k d a b. p.0 (suc k) d (omega arith) (omega arith), λ k d a b. p.1 (suc k) d (omega arith) (omega arith)) in
    rw (lt-leb n x (ltb-true x n (p.0 0 0 (omega arith) (omega arith)))) (omega arith)

-- the code of a need: one past the place of the first count that holds it
pub code-of-some : (n : ℕ) → (n ≡ 0 → ⊥) → 1 + first_holding slot_counts n ≡ code_for n
code-of-some zero h = absurd (h refl)
code-of-some (suc n) h = refl

-- document 01's list, in one table: the slots that codes 0 to 15 ask for, and that capacities 0 to 15 grant
pub wanted-table :
    map slots_wanted (0 ∷ 1 ∷ 2 ∷ 3 ∷ 4 ∷ 5 ∷ 6 ∷ 7 ∷ 8 ∷ 9 ∷ 10 ∷ 11 ∷ 12 ∷ 13 ∷ 14 ∷ 15 ∷ [])
    ≡ 1 ∷ 1 ∷ 2 ∷ 3 ∷ 4 ∷ 5 ∷ 6 ∷ 8 ∷ 10 ∷ 13 ∷ 17 ∷ 24 ∷ 34 ∷ 51 ∷ 68 ∷ 68 ∷ []
wanted-table = refl

pub granted-table :
    map slots_granted (0 ∷ 1 ∷ 2 ∷ 3 ∷ 4 ∷ 5 ∷ 6 ∷ 7 ∷ 8 ∷ 9 ∷ 10 ∷ 11 ∷ 12 ∷ 13 ∷ 14 ∷ 15 ∷ [])
    ≡ 1 ∷ 1 ∷ 2 ∷ 3 ∷ 4 ∷ 5 ∷ 6 ∷ 8 ∷ 10 ∷ 13 ∷ 17 ∷ 24 ∷ 34 ∷ 51 ∷ 68 ∷ 1 ∷ []
granted-table = refl

-- what is granted is what was asked for, for every number taken as a requirement code
wanted-in-range : (second : Bool) (code : ℕ) → code < 15 → slots_granted (capacity_for code second) ≡ slots_wanted code
wanted-in-range true = agree-below (λ k. slots_granted (capacity_for k true)) slots_wanted 15 refl
wanted-in-range false = agree-below (λ k. slots_granted (capacity_for k false)) slots_wanted 15 refl

pub grants-what-was-wanted : (code : ℕ) (second : Bool) → slots_granted (capacity_for code second) ≡ slots_wanted code
grants-what-was-wanted code second = go (ltb code 15) refl
  where
    go : (b : Bool) → ltb code 15 ≡ b → slots_granted (capacity_for code second) ≡ slots_wanted code
    go true e = wanted-in-range second code (ltb-true _ _ e)
    go false e =
        let past : 15 ≤ code = ltb-false _ _ e in
        ap slots_granted (capacity-of-68 code second (omega arith)) ∙ sym (slots-past-table 68 code past)

-- a capacity has four bits
pub capacity-below-16 : (code : ℕ) (second : Bool) → capacity_for code second < 16
capacity-below-16 zero true = lit< tt
capacity-below-16 zero false = lit< tt
capacity-below-16 (suc c) second = rw (eqb-suc-zero c) (omega arith)

-- reading a code, where each number below 16 is the code of its case
module _ {C : Type 0} (case : ℕ → C) (code : C → ℕ) where
  -- what was coded is read back
  pub code-read-back : (c : C) → code c < 16 → case (code c) ≡ c → code_read case (code c) ≡ Ok c
  code-read-back c low same = rw (le-leb (code c) 15 (omega arith)) (ap Ok same)

-- the octet holds its halves, and every octet is that of its halves
pub capacity-in-octet : (c d : ℕ) → d < 16 → capacity_of (grant_octet c d) ≡ c
capacity-in-octet c d h = omega arith

pub delay-in-octet : (c d : ℕ) → d < 16 → delay_of (grant_octet c d) ≡ d
delay-in-octet c d h = omega arith

pub octet-of-its-halves : (octet : ℕ) → grant_octet (capacity_of octet) (delay_of octet) ≡ octet
octet-of-its-halves octet = omega arith
