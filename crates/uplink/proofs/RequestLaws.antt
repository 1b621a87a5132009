-- What a verdict rests on, and the slots of a run. Assumes nothing.
use Rattle.std.proofs.Common.{Option, Some, None}
use mathlib.Core.Path.{◌≡◌, refl, ap, ◌∙◌}
use mathlib.Core.Logic.{◌≢◌}
use mathlib.Core.Bool.{Bool, true, false, not, cond}
use mathlib.Core.List.{List, [], ◌∷◌}
use Prim.Native.Nat.{ℕ, zero, suc, ◌+◌, ◌-◌, ◌*◌, ◌≤◌, ◌<◌, min}
use native.Mathlib.Omega.{arith}
use native.Mathlib.Nat.{add-zero, not-suc-le-zero}
use lib.ListN.{length, take, drop, get_or, length-drop}
use lib.Seq.{get_or-drop}
use borrow.Author.Tests.{ne_eqb}
use Rattle.sizes.specs.Sizes.{frames_searched}
use Rattle.lists.proofs.Every.{All}
use Rattle.tdma_time.specs.Time.{usable, first_of, frames_on, usable_of}
use Rattle.tdma_time.proofs.SlotLaws.{usable_of-keeps, usable_of-leaves}
use Rattle.slot_codes.specs.Codes.{slot_counts, slots_wanted, wants_half, capacity_for}
use Rattle.uplink.specs.declared.PhyBlockNum.{PhyBlockNum}
use Rattle.uplink.specs.HalfSlot.{first_half, second_half, View, vacant}
use Rattle.uplink.specs.Search.{earliest, Run, run_at, found}
use Rattle.uplink.specs.Request.{candidates, slot_fits, earliest_run, loop_run, halves_of}
use Rattle.uplink.specs.Functions.{block_taken, block_halves}
use Rattle.uplink.proofs.SearchLaws.{earliest-some, runs-length, walk-found}

None≢Some {ℓ} : {X : Type ℓ} (g : Run) → ◌≡◌ {A = Option Run} None (Some g) → X
None≢Some g e = absurd (let z : ◌≡◌ {A = ℕ} 0 1 = cc in omega arith)

-- every code asks for a slot at least
pub wanted-pos : (code : ℕ) → 0 < slots_wanted code
wanted-pos zero = omega arith
wanted-pos (suc c) = at slot_counts c (omega arith)
  where
    at : (xs : List ℕ) (i : ℕ) → All (λ x. 0 < x) xs → 0 < get_or xs i 68
    at [] i h = omega arith
    at (x ∷ xs) zero h = h.0
    at (x ∷ xs) (suc i) h = at xs i h.1

-- ---- the loop and the definition

-- for every table, time, timeslot and request: the Rust's loop finds the run that the declarative search says
pub loop-is-declarative : (v : View) (now t n : ℕ) (half : Bool) → 0 < n → loop_run v now t n half ≡ earliest_run v now t n half
unfolding loop_run earliest_run candidates
loop-is-declarative v now t n half h = walk-found (slot_fits half v) n (frames_on (first_of t now) frames_searched) h

-- ---- the slots of a run

pub found_some : (p : ℕ → Bool) (n : ℕ) (cs : List ℕ) (g : Run) → found p n cs ≡ Some g
    → (earliest p n cs ≡ Some g.delay) × (g.slots ≡ take n (drop g.delay cs))
unfolding found run_at
found_some p n cs g h = go (earliest p n cs) refl h
  where
    go : (o : Option ℕ) → earliest p n cs ≡ o → run_at n cs o ≡ Some g → (earliest p n cs ≡ Some g.delay) × (g.slots ≡ take n (drop g.delay cs))
    go None e k = None≢Some g k
    go (Some i) e k =
        let same : record { delay = i; slots = take n (drop i cs) } ≡ g = cc in
        (e ∙ ap (λ (r : Run). Some r.delay) same, rw (← same))

-- the i-th usable slot of k frames from slot u on stands d frames after u, and the usable ones from it on are those of the frames left
pub record Stands (u k i : ℕ) : Type 0 where
  pub d : ℕ
  pub below : d < k
  pub here : get_or (usable_of (frames_on u k)) i 0 ≡ u + d * 4
  pub can : usable (u + d * 4) ≡ true
  pub on : drop i (usable_of (frames_on u k)) ≡ usable_of (frames_on (u + d * 4) (k - d))

stands-next : (u k i j : ℕ) → ((x : ℕ) → get_or (usable_of (frames_on u (suc k))) i x ≡ get_or (usable_of (frames_on (u + 4) k)) j x)
    → drop i (usable_of (frames_on u (suc k))) ≡ drop j (usable_of (frames_on (u + 4) k)) → Stands (u + 4) k j → Stands u (suc k) i
stands-next u k i j g h s =
    let e : u + 4 + s.d * 4 ≡ u + (s.d + 1) * 4 = omega arith in
    let l : k - s.d ≡ suc k - (s.d + 1) = omega arith in
    record {
      d = s.d + 1;
      below = omega (arith, s.below);
      here = g 0 ∙ s.here ∙ e;
      can = rw (← e) s.can;
      on = h ∙ s.on ∙ ap (λ (x : ℕ). usable_of (frames_on x (k - s.d))) e ∙ ap (λ (x : ℕ). usable_of (frames_on (u + (s.d + 1) * 4) x)) l;
    }

pub stands : (k u i : ℕ) → i < length (usable_of (frames_on u k)) → Stands u k i
unfolding frames_on usable_of
stands zero u i h = absurd (not-suc-le-zero h)
stands (suc k) u i h = go (usable u) refl (λ j. stands k (u + 4) j) i h
  where
    rest : List ℕ
    rest = usable_of (frames_on (u + 4) k)

    go : (b : Bool) → usable u ≡ b → ((j : ℕ) → j < length rest → Stands (u + 4) k j) → (i : ℕ) → i < length (usable_of (frames_on u (suc k)))
        → Stands u (suc k) i
    go true e ih zero l =
        let z : u ≡ u + 0 * 4 = omega arith in
        record {
          d = 0;
          below = omega arith;
          here = rw e z;
          can = rw (← z) e;
          on =
              ap (λ (x : ℕ). usable_of (frames_on x (suc k))) z
              ∙ ap (λ (x : ℕ). usable_of (frames_on (u + 0 * 4) x)) (let q : suc k ≡ suc k - 0 = omega arith in q);
        }
    go true e ih (suc i) l =
        let same : usable_of (frames_on u (suc k)) ≡ u ∷ rest = usable_of-keeps u (frames_on (u + 4) k) e in
        stands-next u k (suc i) i (λ x. ap (λ (cs : List ℕ). get_or cs (suc i) x) same) (ap (drop (suc i)) same)
        (ih i (let q : length (usable_of (frames_on u (suc k))) ≡ suc (length rest) = ap length same in omega (arith, l, q)))
    go false e ih i l =
        let same : usable_of (frames_on u (suc k)) ≡ rest = usable_of-leaves u (frames_on (u + 4) k) e in
        stands-next u k i i (λ x. ap (λ (cs : List ℕ). get_or cs i x) same) (ap (drop i) same)
        (ih i (let q : length (usable_of (frames_on u (suc k))) ≡ length rest = ap length same in omega (arith, l, q)))

pub get_d-take-first : (n : ℕ) (cs : List ℕ) → 0 < n → get_or (take n cs) 0 0 ≡ get_or cs 0 0
get_d-take-first zero cs h = absurd (not-suc-le-zero h)
get_d-take-first (suc n) [] h = refl
get_d-take-first (suc n) (c ∷ cs) h = refl

-- where a run found begins, in frames after slot u, and that its slots are those from there on
pub record Begins (u n : ℕ) (g : Run) : Type 0 where
  pub start : ℕ
  pub below : start < frames_searched
  pub first : get_or g.slots 0 0 ≡ u + start * 4
  pub can : usable (u + start * 4) ≡ true
  pub slots : g.slots ≡ take n (usable_of (frames_on (u + start * 4) (frames_searched - start)))

pub begins : (p : ℕ → Bool) (n u : ℕ) (g : Run) → 0 < n → found p n (usable_of (frames_on u frames_searched)) ≡ Some g → Begins u n g
begins p n u g pos h =
    let f = found_some p n _ g h in
    let r : n ≤ length (drop g.delay (usable_of (frames_on u frames_searched))) = runs-length p n _ (earliest-some p n _ g.delay f.0).0 in
    let s : Stands u frames_searched g.delay =
    stands frames_searched u g.delay (omega (arith, length-drop g.delay (usable_of (frames_on u frames_searched)))) in
    record {
      start = s.d;
      below = s.below;
      first =
          ap (λ (cs : List ℕ). get_or cs 0 0) f.1 ∙ get_d-take-first n _ pos ∙ get_or-drop g.delay (usable_of (frames_on u frames_searched)) 0 0
          ∙ ap (λ (j : ℕ). get_or (usable_of (frames_on u frames_searched)) j 0) (add-zero g.delay) ∙ s.here;
      can = s.can;
      slots = f.1 ∙ ap (take n) s.on;
    }

-- ---- the halves of a grant

pub whole-halves : (cap : ℕ) → cap ≢ 0 → cap ≢ 15 → halves_of cap ≡ first_half ∷ second_half ∷ []
unfolding halves_of
whole-halves cap a b = rw (ne_eqb _ _ a, ne_eqb _ _ b)

-- the halves named by the capacity are those of the block taken
pub capacity-halves : (code : ℕ) (o : Option ℕ) → halves_of (capacity_for code (not (vacant o))) ≡ block_halves (block_taken (wants_half code) o)
unfolding halves_of
capacity-halves zero o = go (vacant o)
  where
    go : (b : Bool) → halves_of (cond (not b) 15 0) ≡ block_halves (cond b PhyBlockNum.Block1 PhyBlockNum.Block2)
    go true = refl
    go false = refl
capacity-halves (suc c) o = rw (ne_eqb (suc c) 0 (omega arith)) (whole-halves (min (suc c) 14) (omega arith) (omega arith))
