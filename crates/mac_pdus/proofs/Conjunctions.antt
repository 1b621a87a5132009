-- Conjunctions of tests, taken apart. The tests are given: a conjunction computes, so they are not found. Assumes nothing.
use mathlib.Core.Path.{◌≡◌}
use mathlib.Core.Bool.{Bool, true, false, ◌&&◌}
use Prim.Native.Nat.{ℕ}
use native.Mathlib.Omega.{arith}
use Rattle.std.proofs.lemmas.Bool.{and_parts}

pub false-not-true : {X : Type 0} → false ≡ true → X
false-not-true e = absurd (let z : ◌≡◌ {A = ℕ} 0 1 = cc in omega arith)

pub and2 : (a1 a2 : Bool) → a1 && a2 ≡ true → (a1 ≡ true) × (a2 ≡ true)
and2 a1 a2 h = and_parts a1 a2 h

pub and3 : (a1 a2 a3 : Bool) → a1 && a2 && a3 ≡ true
    → (a1 ≡ true) × (a2 ≡ true) × (a3 ≡ true)
and3 a1 a2 a3 h =
    let q = and2 (a1 && a2) a3 h in
    let p = and2 a1 a2 q.0 in
    (p.0, p.1, q.1)

pub and4 : (a1 a2 a3 a4 : Bool) → a1 && a2 && a3 && a4 ≡ true
    → (a1 ≡ true) × (a2 ≡ true) × (a3 ≡ true) × (a4 ≡ true)
and4 a1 a2 a3 a4 h =
    let q4 = and2 (a1 && a2 && a3) a4 h in
    let p = and3 a1 a2 a3 q4.0 in
    (p.0, p.1, p.2, q4.1)

pub and6 : (a1 a2 a3 a4 a5 a6 : Bool) → a1 && a2 && a3 && a4 && a5 && a6 ≡ true
    → (a1 ≡ true) × (a2 ≡ true) × (a3 ≡ true) × (a4 ≡ true) × (a5 ≡ true) × (a6 ≡ true)
and6 a1 a2 a3 a4 a5 a6 h =
    let q6 = and2 (a1 && a2 && a3 && a4 && a5) a6 h in
    let q5 = and2 (a1 && a2 && a3 && a4) a5 q6.0 in
    let p = and4 a1 a2 a3 a4 q5.0 in
    (p.0, p.1, p.2, p.3, q5.1, q6.1)

pub and7 : (a1 a2 a3 a4 a5 a6 a7 : Bool) → a1 && a2 && a3 && a4 && a5 && a6 && a7 ≡ true
    → (a1 ≡ true) × (a2 ≡ true) × (a3 ≡ true) × (a4 ≡ true) × (a5 ≡ true) × (a6 ≡ true) × (a7 ≡ true)
and7 a1 a2 a3 a4 a5 a6 a7 h =
    let q7 = and2 (a1 && a2 && a3 && a4 && a5 && a6) a7 h in
    let p = and6 a1 a2 a3 a4 a5 a6 q7.0 in
    (p.0, p.1, p.2, p.3, p.4, p.5, q7.1)

pub and10 : (a1 a2 a3 a4 a5 a6 a7 a8 a9 a10 : Bool) → a1 && a2 && a3 && a4 && a5 && a6 && a7 && a8 && a9 && a10 ≡ true
    → (a1 ≡ true) × (a2 ≡ true) × (a3 ≡ true) × (a4 ≡ true) × (a5 ≡ true) × (a6 ≡ true) × (a7 ≡ true) × (a8 ≡ true) × (a9 ≡ true) × (a10 ≡ true)
and10 a1 a2 a3 a4 a5 a6 a7 a8 a9 a10 h =
    let q10 = and2 (a1 && a2 && a3 && a4 && a5 && a6 && a7 && a8 && a9) a10 h in
    let q9 = and2 (a1 && a2 && a3 && a4 && a5 && a6 && a7 && a8) a9 q10.0 in
    let q8 = and2 (a1 && a2 && a3 && a4 && a5 && a6 && a7) a8 q9.0 in
    let p = and7 a1 a2 a3 a4 a5 a6 a7 q8.0 in
    (p.0, p.1, p.2, p.3, p.4, p.5, p.6, q8.1, q9.1, q10.1)
