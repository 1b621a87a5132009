-- Document 01, "Request and grant": the search, as a definition (`found`) and as the loop of `ul_find_grant_opportunity` (`walk`).
-- Assumes nothing.
use Rattle.std.specs.Prelude.{Bool, true, false, ◌&&◌, cond, List, [], ◌∷◌, ◌++◌, ℕ, zero, suc, ◌+◌, length, take, drop, eqb, Option, Some, None}
use Rattle.tdma_time.specs.Time.{usable}

-- the first n of a list are there, and each passes the test
unfoldable pub runs : (ℕ → Bool) → ℕ → List ℕ → Bool
runs p zero cs = true
runs p (suc n) [] = false
runs p (suc n) (c ∷ cs) = let rest : Bool = runs p n cs in p c && rest

unfoldable pub one_past : Option ℕ → Option ℕ
one_past None = None
one_past (Some i) = Some (suc i)

-- "the earliest n in succession": how many of a list stand before the first n in succession that pass; none if no n do
unfoldable pub earliest : (ℕ → Bool) → ℕ → List ℕ → Option ℕ
earliest p n [] = cond (runs p n []) (Some 0) None
earliest p n (c ∷ cs) = let later : Option ℕ = one_past (earliest p n cs) in cond (runs p n (c ∷ cs)) (Some 0) later

-- "Delay [..] is the number of usable slots passed over": a run of slots, and how many usable ones stand before it
pub record Run : Type 0 where
  pub delay : ℕ
  pub slots : List ℕ

unfoldable pub run_at : ℕ → List ℕ → Option ℕ → Option Run
run_at n cs None = None
run_at n cs (Some i) = Some (record { delay = i; slots = take n (drop i cs) })

-- the earliest run of n that pass
unfoldable pub found : (ℕ → Bool) → ℕ → List ℕ → Option Run
found p n cs = run_at n cs (earliest p n cs)

-- The loop of the Rust over the slots of 17 frames. It has passed over `skips` slots and holds the run `held`. Frame 18 is left
-- out; a slot that passes joins the run, any other clears the run and is counted with it; a run of n ends the loop.
unfoldable pub walk : (ℕ → Bool) → ℕ → ℕ → List ℕ → List ℕ → Option Run
walk p n skips held [] = None
walk p n skips held (c ∷ cs) =
    let run : List ℕ = held ++ c ∷ [] in
    let on : Option Run = walk p n skips run cs in
    let anew : Option Run = walk p n (skips + (length held + 1)) [] cs in
    let past : Option Run = walk p n skips held cs in
    cond (usable c) (cond (p c) (cond (eqb (length run) n) (Some (record { delay = skips; slots = run })) on) anew) past
