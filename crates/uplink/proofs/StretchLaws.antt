-- The declarative search, by its elements: `earliest-iff`, `none-iff`. Assumes nothing.
use Rattle.std.proofs.Common.{Some, None}
use Rattle.std.proofs.lemmas.Bool.{and_parts}
use Rattle.std.specs.Cmp.Derive.{both_true}
use mathlib.Core.Path.{◌≡◌, refl}
use mathlib.Core.Logic.{⊎_elim, ◌↔◌}
use mathlib.Core.Bool.{Bool, true, false}
use mathlib.Core.List.{List, [], ◌∷◌}
use Prim.Native.Nat.{ℕ, zero, suc, ◌≤◌, ◌<◌, zero-le, suc-le-suc}
use native.Mathlib.Omega.{arith}
use native.Mathlib.Nat.{not-suc-le-zero, le_of_suc-le-suc}
use lib.ListN.{length, get_or, drop, length-drop}
use lib.Seq.{get_or-drop}
use Rattle.tdma_time.proofs.Basics.{either}
use Rattle.uplink.specs.Search.{runs, earliest}
use Rattle.uplink.specs.GrantedExactly.{Stretch, Earliest}
use Rattle.uplink.proofs.Basics.{not-both}
use Rattle.uplink.proofs.SearchLaws.{Means, earliest-some, earliest-none, some-earliest, none-earliest, runs-length}

-- ---- a run, by its elements

runs-each : (p : ℕ → Bool) (n : ℕ) (cs : List ℕ) → runs p n cs ≡ true → (j : ℕ) → j < n → p (get_or cs j 0) ≡ true
unfolding runs
runs-each p zero cs h j l = absurd (not-suc-le-zero l)
runs-each p (suc n) [] h j l = not-both false h refl
runs-each p (suc n) (c ∷ cs) h zero l = (and_parts (p c) _ h).0
runs-each p (suc n) (c ∷ cs) h (suc j) l = runs-each p n cs (and_parts (p c) _ h).1 j (le_of_suc-le-suc l)

each-runs : (p : ℕ → Bool) (n : ℕ) (cs : List ℕ) → n ≤ length cs → ((j : ℕ) → j < n → p (get_or cs j 0) ≡ true) → runs p n cs ≡ true
unfolding runs
each-runs p zero cs l h = refl
each-runs p (suc n) [] l h = absurd (not-suc-le-zero l)
each-runs p (suc n) (c ∷ cs) l h = both_true (h 0 (suc-le-suc zero-le)) (each-runs p n cs (le_of_suc-le-suc l) (λ j k. h (suc j) (suc-le-suc k)))

module _ (p : ℕ → Bool) (n : ℕ) (pos : 0 < n) (cs : List ℕ) where
  runs-stretch : (i : ℕ) → runs p n (drop i cs) ≡ true → Stretch p n cs i
  runs-stretch i h =
      record { room = omega (arith, runs-length p n (drop i cs) h, length-drop i cs); each = λ j l. rw get_or-drop at (runs-each p n (drop i cs) h j l) }

  stretch-runs : (i : ℕ) → Stretch p n cs i → runs p n (drop i cs) ≡ true
  stretch-runs i s = each-runs p n (drop i cs) (omega (arith, length-drop i cs, s.room)) (λ j l. rw get_or-drop (s.each j l))

  no-stretch : (i : ℕ) → (Stretch p n cs i → ⊥) → runs p n (drop i cs) ≡ false
  no-stretch i h = ⊎_elim (λ e. absurd (h (runs-stretch i e))) (λ e. e) (either (runs p n (drop i cs)))

  pub earliest-iff : (i : ℕ) → (earliest p n cs ≡ Some i) ↔ Earliest p n cs i
  earliest-iff i = (there, back)
    where
      there : earliest p n cs ≡ Some i → Earliest p n cs i
      there e =
          let m : Means p n cs (Some i) = earliest-some p n cs i e in
          record { stretch = runs-stretch i m.0; none_before = λ j l s. not-both _ (stretch-runs j s) (m.1 j l) }

      back : Earliest p n cs i → earliest p n cs ≡ Some i
      back e = some-earliest p n pos cs i (stretch-runs i e.stretch, λ j l. no-stretch j (e.none_before j l))

  pub none-iff : (earliest p n cs ≡ None) ↔ ((i : ℕ) → Stretch p n cs i → ⊥)
  none-iff = (λ e i s. not-both _ (stretch-runs i s) (earliest-none p n cs e i), λ h. none-earliest p n cs (λ i. no-stretch i (h i)))
