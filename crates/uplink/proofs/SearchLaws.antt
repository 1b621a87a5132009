-- The definition of the search is what it says (`earliest-some`, `earliest-none`), and the Rust's loop is that definition (`walk-found`).
-- Assumes nothing.
use Rattle.std.proofs.Common.{Option, Some, None}
use Rattle.std.proofs.lemmas.Bool.{and_parts}
use Rattle.std.specs.Cmp.Derive.{both_true}
use mathlib.Core.Path.{◌≡◌, refl, sym, ap, ◌∙◌}
use mathlib.Core.Logic.{⊎_elim}
use mathlib.Core.Bool.{Bool, true, false, cond, and-false}
use mathlib.Core.List.{List, [], ◌∷◌, ◌++◌, append-nil}
use Prim.Native.Nat.{ℕ, zero, suc, ◌+◌, ◌≤◌, ◌<◌, zero-le, suc-le-suc}
use native.Mathlib.Omega.{arith}
use native.Mathlib.Numerals.{lt_of_le_of_ne}
use native.Mathlib.Nat.{add-zero, zero-add, suc-add, not-suc-le-zero, le_of_suc-le-suc}
use lib.ListN.{length, take, drop, length-append}
use lib.Seq.{take_at, drop-append-add, append_snoc, drop-nil}
use lib.Dec.{eqb}
use borrow.Author.Tests.{eqb-true, eqb-false, eq-eqb, ne_eqb}
use Rattle.lists.proofs.Every.{All}
use Rattle.tdma_time.proofs.Basics.{either}
use Rattle.uplink.proofs.Basics.{not-both}
use Rattle.tdma_time.specs.Time.{usable, usable_of}
use Rattle.uplink.specs.Search.{runs, one_past, earliest, Run, run_at, found, walk}

-- ---- runs

-- fewer than n are no run of n
pub runs-short : (p : ℕ → Bool) (n : ℕ) (cs : List ℕ) → length cs < n → runs p n cs ≡ false
unfolding runs
runs-short p zero cs h = absurd (not-suc-le-zero h)
runs-short p (suc n) [] h = refl
runs-short p (suc n) (c ∷ cs) h = rw (runs-short p n cs (le_of_suc-le-suc h)) (and-false (p c))

-- one that fails, among the first n
pub runs_block : (p : ℕ → Bool) (n : ℕ) (held : List ℕ) (c : ℕ) (cs : List ℕ) → length held < n → p c ≡ false → runs p n (held ++ c ∷ cs) ≡ false
unfolding runs
runs_block p zero held c cs h e = absurd (not-suc-le-zero h)
runs_block p (suc n) [] c cs h e = rw e
runs_block p (suc n) (x ∷ held) c cs h e = rw (runs_block p n held c cs (le_of_suc-le-suc h) e) (and-false (p x))

-- a run that stands at the front of a longer list
pub runs-front : (p : ℕ → Bool) (held cs : List ℕ) → runs p (length held) held ≡ true → runs p (length held) (held ++ cs) ≡ true
unfolding runs
runs-front p [] cs h = refl
runs-front p (x ∷ held) cs h = both_true (and_parts (p x) _ h).0 (runs-front p held cs (and_parts (p x) _ h).1)

-- a run with one more
pub runs-more : (p : ℕ → Bool) (held : List ℕ) (c : ℕ) → runs p (length held) held ≡ true → p c ≡ true
    → runs p (length (held ++ c ∷ [])) (held ++ c ∷ []) ≡ true
unfolding runs
runs-more p [] c h e = rw e
runs-more p (x ∷ held) c h e = both_true (and_parts (p x) _ h).0 (runs-more p held c (and_parts (p x) _ h).1 e)

-- ---- earliest

pub earliest-here : (p : ℕ → Bool) (n : ℕ) (cs : List ℕ) → runs p n cs ≡ true → earliest p n cs ≡ Some 0
unfolding earliest
earliest-here p n [] h = rw h
earliest-here p n (c ∷ cs) h = rw h

pub earliest-later : (p : ℕ → Bool) (n : ℕ) (c : ℕ) (cs : List ℕ) → runs p n (c ∷ cs) ≡ false → earliest p n (c ∷ cs) ≡ one_past (earliest p n cs)
unfolding earliest
earliest-later p n c cs h = rw h

pub earliest-short : (p : ℕ → Bool) (n : ℕ) (cs : List ℕ) → length cs < n → earliest p n cs ≡ None
unfolding earliest one_past
earliest-short p n [] h = rw (runs-short p n [] h)
earliest-short p n (c ∷ cs) h = rw (runs-short p n (c ∷ cs) h, earliest-short p n cs (omega arith))

past : ℕ → Option ℕ → Option ℕ
past k None = None
past k (Some i) = Some (k + i)

one_past-past : (k : ℕ) (o : Option ℕ) → one_past (past k o) ≡ past (suc k) o
unfolding one_past past
one_past-past k None = refl
one_past-past k (Some i) = ap Some (sym (suc-add k i))

-- behind one that fails the search begins anew
earliest-block : (p : ℕ → Bool) (n : ℕ) (held : List ℕ) (c : ℕ) (cs : List ℕ) → length held < n → p c ≡ false
    → earliest p n (held ++ c ∷ cs) ≡ past (suc (length held)) (earliest p n cs)
unfolding one_past past
earliest-block p n [] c cs h e = earliest-later p n c cs (runs_block p n [] c cs h e) ∙ go (earliest p n cs)
  where
    go : (o : Option ℕ) → one_past o ≡ past 1 o
    go None = refl
    go (Some i) = ap Some (omega arith)
earliest-block p n (x ∷ held) c cs h e =
    earliest-later p n x (held ++ c ∷ cs) (runs_block p n (x ∷ held) c cs h e)
    ∙ ap one_past (earliest-block p n held c cs (omega arith) e)
    ∙ one_past-past (suc (length held)) (earliest p n cs)

-- ---- the loop, step by step

module _ (p : ℕ → Bool) (n skips : ℕ) (held : List ℕ) (c : ℕ) (cs : List ℕ) where
  pub walk-skip : usable c ≡ false → walk p n skips held (c ∷ cs) ≡ walk p n skips held cs
  unfolding walk
  walk-skip u = rw u

  pub walk_block : usable c ≡ true → p c ≡ false → walk p n skips held (c ∷ cs) ≡ walk p n (skips + (length held + 1)) [] cs
  unfolding walk
  walk_block u e = rw (u, e)

  pub walk_end : usable c ≡ true → p c ≡ true → length (held ++ c ∷ []) ≡ n
      → walk p n skips held (c ∷ cs) ≡ Some (record { delay = skips; slots = held ++ c ∷ [] })
  unfolding walk
  walk_end u e l = rw (u, e, eq-eqb _ _ l)

  pub walk-on : usable c ≡ true → p c ≡ true → (length (held ++ c ∷ []) ≡ n → ⊥) → walk p n skips held (c ∷ cs) ≡ walk p n skips (held ++ c ∷ []) cs
  unfolding walk
  walk-on u e l = rw (u, e, ne_eqb _ _ l)

-- what the loop comes to: the run at `o`, and the skips so far added to its delay
arrive : ℕ → ℕ → List ℕ → Option ℕ → Option Run
arrive n skips cs None = None
arrive n skips cs (Some i) = Some (record { delay = skips + i; slots = take n (drop i cs) })

-- the same, where the search stands behind one that fails
arrive-past : (n skips : ℕ) (held : List ℕ) (c : ℕ) (cs : List ℕ) (o : Option ℕ)
    → arrive n (skips + (length held + 1)) cs o ≡ arrive n skips (held ++ c ∷ cs) (past (suc (length held)) o)
unfolding arrive past
arrive-past n skips held c cs None = refl
arrive-past n skips held c cs (Some i) =
    let there : suc (length held) + i ≡ length held + suc i = omega arith in
    let delays : skips + (length held + 1) + i ≡ skips + (suc (length held) + i) = omega arith in
    let rest : drop (suc (length held) + i) (held ++ c ∷ cs) ≡ drop i cs = rw there (drop-append-add held (c ∷ cs) (suc i)) in
    rw (delays, rest)

-- the loop at `cs` comes to the earliest run among what it holds and the usable ones of cs
Arrives : (ℕ → Bool) → ℕ → List ℕ → Type 0
Arrives p n cs =
    (skips : ℕ) (held : List ℕ) → length held < n → runs p (length held) held ≡ true
    → walk p n skips held cs ≡ arrive n skips (held ++ usable_of cs) (earliest p n (held ++ usable_of cs))

module _ (p : ℕ → Bool) (n c : ℕ) (cs : List ℕ) (ih : Arrives p n cs) (skips : ℕ) (held : List ℕ) (h : length held < n)
    (g : runs p (length held) held ≡ true) where
  abbrev at_c : Type 0
  at_c = walk p n skips held (c ∷ cs) ≡ arrive n skips (held ++ c ∷ usable_of cs) (earliest p n (held ++ c ∷ usable_of cs))

  if-taken : usable c ≡ true → p c ≡ false → at_c
  unfolding Arrives runs
  if-taken u e =
      walk_block p n skips held c cs u e
      ∙ ih (skips + (length held + 1)) [] (omega arith) refl
      ∙ arrive-past n skips held c (usable_of cs) (earliest p n (usable_of cs))
      ∙ ap (arrive n skips (held ++ c ∷ usable_of cs)) (sym (earliest-block p n held c (usable_of cs) h e))

  if-free : usable c ≡ true → p c ≡ true → at_c
  unfolding Arrives arrive
  if-free u e = ⊎_elim whole more (either (eqb (length (held ++ c ∷ [])) n))
    where
      run : runs p (length (held ++ c ∷ [])) (held ++ c ∷ []) ≡ true
      run = runs-more p held c g e

      whole : eqb (length (held ++ c ∷ [])) n ≡ true → at_c
      whole l =
          let len : length (held ++ c ∷ []) ≡ n = eqb-true _ _ l in
          let found_here : runs p n ((held ++ c ∷ []) ++ usable_of cs) ≡ true = rw (← len) (runs-front p (held ++ c ∷ []) (usable_of cs) run) in
          walk_end p n skips held c cs u e len
          ∙ sym (rw (← append_snoc held c (usable_of cs), earliest-here p n _ found_here, add-zero skips, take_at (held ++ c ∷ []) (usable_of cs) n len))

      more : eqb (length (held ++ c ∷ [])) n ≡ false → at_c
      more l =
          let other : length (held ++ c ∷ []) ≡ n → ⊥ = eqb-false _ _ l in
          let len : length (held ++ c ∷ []) ≡ length held + 1 = length-append held (c ∷ []) in
          let short : length (held ++ c ∷ []) < n = lt_of_le_of_ne (omega arith) other in
          walk-on p n skips held c cs u e other ∙ ih skips (held ++ c ∷ []) short run ∙ rw append_snoc

  arrives-step : walk p n skips held (c ∷ cs) ≡ arrive n skips (held ++ usable_of (c ∷ cs)) (earliest p n (held ++ usable_of (c ∷ cs)))
  unfolding usable_of Arrives
  arrives-step = ⊎_elim yes-use no-use (either (usable c))
    where
      yes-use : usable c ≡ true → walk p n skips held (c ∷ cs) ≡ arrive n skips (held ++ usable_of (c ∷ cs)) (earliest p n (held ++ usable_of (c ∷ cs)))
      yes-use u = rw (u, usable_of) (⊎_elim (if-free u) (if-taken u) (either (p c)))

      no-use : usable c ≡ false → walk p n skips held (c ∷ cs) ≡ arrive n skips (held ++ usable_of (c ∷ cs)) (earliest p n (held ++ usable_of (c ∷ cs)))
      no-use u = rw (u, usable_of) (walk-skip p n skips held c cs u ∙ ih skips held h g)

arrives : (p : ℕ → Bool) (n : ℕ) (cs : List ℕ) → Arrives p n cs
unfolding Arrives walk usable_of arrive
arrives p n [] skips held h g = rw (append-nil held, earliest-short p n held h)
arrives p n (c ∷ cs) skips held h g = arrives-step p n c cs (arrives p n cs) skips held h g

-- the loop is the definition
pub walk-found : (p : ℕ → Bool) (n : ℕ) (cs : List ℕ) → 0 < n → walk p n 0 [] cs ≡ found p n (usable_of cs)
unfolding Arrives found arrive run_at runs
walk-found p n cs h = arrives p n cs 0 [] h (refl) ∙ go (earliest p n (usable_of cs))
  where
    go : (o : Option ℕ) → arrive n 0 (usable_of cs) o ≡ run_at n (usable_of cs) o
    go None = refl
    go (Some i) = rw zero-add

-- ---- what `earliest` means

-- a run of n stands i from the front, and none before it; or there is none
abbrev pub Means : (ℕ → Bool) → ℕ → List ℕ → Option ℕ → Type 0
Means p n cs None = (j : ℕ) → runs p n (drop j cs) ≡ false
Means p n cs (Some i) = (runs p n (drop i cs) ≡ true) × ((j : ℕ) → j < i → runs p n (drop j cs) ≡ false)

module _ (p : ℕ → Bool) (n : ℕ) where
  means-nil : (b : Bool) → runs p n [] ≡ b → Means p n [] (cond b (Some 0) None)
  means-nil true e = (e, λ j h. absurd (not-suc-le-zero h))
  means-nil false e = λ j. rw (drop-nil {A = ℕ} j) e

  means-past : (c : ℕ) (cs : List ℕ) → runs p n (c ∷ cs) ≡ false → (o : Option ℕ) → Means p n cs o → Means p n (c ∷ cs) (one_past o)
  unfolding one_past
  means-past c cs e None m = each
    where
      each : (j : ℕ) → runs p n (drop j (c ∷ cs)) ≡ false
      each zero = e
      each (suc j) = m j
  means-past c cs e (Some i) m = (m.0, before)
    where
      before : (j : ℕ) → j < suc i → runs p n (drop j (c ∷ cs)) ≡ false
      before zero h = e
      before (suc j) h = m.1 j (le_of_suc-le-suc h)

  means-cons : (c : ℕ) (cs : List ℕ) → Means p n cs (earliest p n cs) → (b : Bool) → runs p n (c ∷ cs) ≡ b
      → Means p n (c ∷ cs) (cond b (Some 0) (one_past (earliest p n cs)))
  means-cons c cs m true e = (e, λ j h. absurd (not-suc-le-zero h))
  means-cons c cs m false e = means-past c cs e (earliest p n cs) m

  pub earliest-means : (cs : List ℕ) → Means p n cs (earliest p n cs)
  unfolding earliest
  earliest-means [] = means-nil (runs p n []) refl
  earliest-means (c ∷ cs) = means-cons c cs (earliest-means cs) (runs p n (c ∷ cs)) refl

  pub earliest-some : (cs : List ℕ) (i : ℕ) → earliest p n cs ≡ Some i → Means p n cs (Some i)
  earliest-some cs i h = rw h at (earliest-means cs)

  pub earliest-none : (cs : List ℕ) → earliest p n cs ≡ None → Means p n cs None
  earliest-none cs h = rw h at (earliest-means cs)

  pub some-earliest : 0 < n → (cs : List ℕ) (i : ℕ) → Means p n cs (Some i) → earliest p n cs ≡ Some i
  unfolding one_past
  some-earliest k [] zero m = earliest-here p n [] m.0
  some-earliest k [] (suc i) m = not-both _ m.0 (runs-short p n [] k)
  some-earliest k (c ∷ cs) zero m = earliest-here p n (c ∷ cs) m.0
  some-earliest k (c ∷ cs) (suc i) m =
      earliest-later p n c cs (m.1 0 (omega arith)) ∙ ap one_past (some-earliest k cs i (m.0, λ j l. m.1 (suc j) (omega arith)))

  pub none-earliest : (cs : List ℕ) → Means p n cs None → earliest p n cs ≡ None
  unfolding earliest one_past
  none-earliest [] g = rw (g 0)
  none-earliest (c ∷ cs) g = rw (g 0, none-earliest cs (λ j. g (suc j)))

-- ---- two tests that agree on a list find the same

pub runs-cong : (p q : ℕ → Bool) (n : ℕ) (cs : List ℕ) → All (λ c. p c ≡ q c) cs → runs p n cs ≡ runs q n cs
unfolding runs
runs-cong p q zero cs h = refl
runs-cong p q (suc n) [] h = refl
runs-cong p q (suc n) (c ∷ cs) h = rw (h.0, runs-cong p q n cs h.1)

pub earliest-cong : (p q : ℕ → Bool) (n : ℕ) (cs : List ℕ) → All (λ c. p c ≡ q c) cs → earliest p n cs ≡ earliest q n cs
unfolding earliest
earliest-cong p q n [] h = rw (runs-cong p q n [] tt)
earliest-cong p q n (c ∷ cs) h = rw (runs-cong p q n (c ∷ cs) h, earliest-cong p q n cs h.1)

pub found-cong : (p q : ℕ → Bool) (n : ℕ) (cs : List ℕ) → All (λ c. p c ≡ q c) cs → found p n cs ≡ found q n cs
unfolding found
found-cong p q n cs h = ap (run_at n cs) (earliest-cong p q n cs h)

-- each of the first n of a run passes, and they are n
pub runs-all : (p : ℕ → Bool) (n : ℕ) (cs : List ℕ) → runs p n cs ≡ true → All (λ c. p c ≡ true) (take n cs)
unfolding runs
runs-all p zero cs h = tt
runs-all p (suc n) [] h = tt
runs-all p (suc n) (c ∷ cs) h = ((and_parts (p c) _ h).0, runs-all p n cs (and_parts (p c) _ h).1)

pub runs-length : (p : ℕ → Bool) (n : ℕ) (cs : List ℕ) → runs p n cs ≡ true → n ≤ length cs
unfolding runs
runs-length p zero cs h = zero-le
runs-length p (suc n) [] h = not-both false h refl
runs-length p (suc n) (c ∷ cs) h = suc-le-suc (runs-length p n cs (and_parts (p c) _ h).1)
