-- Document 01, "Request and grant": the codes of requirements and capacities as numbers, and the grant octet.
-- EN 300 392-2, clauses 21.5.4 (reservation requirement) and 21.5.6 (slot granting). Assumes nothing.
use Rattle.std.specs.Prelude.{Bool, cond, List, [], ◌∷◌, ℕ, zero, suc, ◌+◌, ◌*◌, ◌/◌, ◌%◌, min, eqb, leb, get_or, Result, Ok, Err}
use Rattle.std.specs.List.{position_or_len}
use Rattle.slot_codes.specs.declared.UnknownCode.{UnknownCode}

-- "1, 2, 3, 4, 5, 6, 8, 10, 13, 17, 24, 34, 51, 68 slots": the counts of codes 1 to 14, of requirements and of capacities alike
abbrev pub slot_counts : List ℕ
slot_counts = 1 ∷ 2 ∷ 3 ∷ 4 ∷ 5 ∷ 6 ∷ 8 ∷ 10 ∷ 13 ∷ 17 ∷ 24 ∷ 34 ∷ 51 ∷ 68 ∷ []

-- "one half-slot": code 0 counts one slot (or half of it), codes 1 to 14 the counts above; `past` are the slots of the codes after those
abbrev pub slots_of : ℕ → ℕ → ℕ
slots_of past zero = 1
slots_of past (suc c) = get_or slot_counts c past

-- "Requirement codes 0–15: one half-slot; [..] over 68, taken as 68.": the slots that a requirement code asks for; code 0
-- asks for (half of) one
abbrev pub slots_wanted : ℕ → ℕ
slots_wanted = slots_of 68

-- "one half-slot": does a requirement code ask for half a slot
abbrev pub wants_half : ℕ → Bool
wants_half c = eqb c 0

-- "Capacity 0 is the first half, 15 the second, 1–14 the slot counts above": the slots that a capacity code grants (half of one
-- counts as one)
abbrev pub slots_granted : ℕ → ℕ
slots_granted = slots_of 1

-- "Capacity 0 is the first half, 15 the second, 1–14 the slot counts above" and "over 68, taken as 68": the capacity code that
-- answers a requirement code, where `second` says which half
abbrev pub capacity_for : ℕ → Bool → ℕ
capacity_for code second = cond (wants_half code) (cond second 15 0) (min code 14)

-- the place of the first number that is at least n; past the end if none is
abbrev pub first_holding : List ℕ → ℕ → ℕ
first_holding counts n = position_or_len (leb n) counts

-- "one half-slot; [..] over 68": the code of a need of n slots is that of the least count that holds them; 0 stands for
-- half a slot, and past 68 comes code 15
abbrev pub code_for : ℕ → ℕ
code_for zero = 0
code_for (suc n) = 1 + first_holding slot_counts (suc n)

-- "Requirement codes 0–15": a code has four bits; what a number is read as, where `case` has the case of each code
abbrev pub code_read : {C : Type 0} → (ℕ → C) → ℕ → Result C UnknownCode
code_read case x = cond (leb x 15) (Ok (case x)) (Err (record { 0 = x }))

-- "Grant octet: four bits capacity, four bits delay."
abbrev pub grant_octet : ℕ → ℕ → ℕ
grant_octet capacity delay = capacity * 16 + delay

abbrev pub capacity_of : ℕ → ℕ
capacity_of octet = octet / 16

abbrev pub delay_of : ℕ → ℕ
delay_of octet = octet % 16
