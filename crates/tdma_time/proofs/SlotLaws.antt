-- Laws of the slots of one timeslot: the first at or after a slot, those that are usable, and their order.
-- Assumes nothing.
use mathlib.Core.Path.{◌≡◌}
use mathlib.Core.Logic.{◌≢◌}
use mathlib.Core.Bool.{Bool, true, false, cond}
use mathlib.Core.List.{List, [], ◌∷◌}
use Prim.Native.Nat.{ℕ, zero, suc, ◌+◌, ◌*◌, ◌%◌, ◌≤◌, ◌<◌}
use native.Mathlib.Omega.{arith}
use borrow.Author.Tests.{eqb-true, eqb-false, ne_eqb, not-true, not-false}
use Rattle.lists.proofs.Every.{All, all-weaken}
use Rattle.tdma_time.specs.declared.TdmaTime.{TdmaTime}
use Rattle.tdma_time.specs.Time.{Valid, slot_of, clock, timeslot, frame, usable, usable_time, first_of, frames_on, usable_of}
use Rattle.tdma_time.proofs.TimeLaws.{slot_of-frame, clock-add, clock-timeslot}

-- ---- usable slots

-- a usable slot is not of frame 18
pub usable-frame : (n : ℕ) → usable n ≡ true → frame n ≢ 18
unfolding usable
usable-frame n h = eqb-false _ _ (not-true _ h)

-- a slot that is not usable is of frame 18
pub unusable-frame : (n : ℕ) → usable n ≡ false → frame n ≡ 18
unfolding usable
unusable-frame n h = eqb-true _ _ (not-false _ h)

-- a slot of another frame than 18 is usable
pub frame-usable : (n : ℕ) → frame n ≢ 18 → usable n ≡ true
unfolding usable
frame-usable n h = rw (ne_eqb _ _ h)

-- slots of one frame are usable alike
pub usable-cong : (a b : ℕ) → frame a ≡ frame b → usable a ≡ usable b
unfolding usable
usable-cong a b h = rw h

-- `is_usable` tells of a valid time whether its slot is usable
pub usable-time : (x : TdmaTime) → Valid x → usable (slot_of x) ≡ usable_time x
unfolding usable
usable-time x v = rw (slot_of-frame x v)

-- a usable slot of timeslot t
pub record Good (t u : ℕ) : Type 0 where
  pub slot : timeslot u ≡ t
  pub not18 : frame u ≢ 18

-- ---- the first slot of a timeslot

module _ (t n : ℕ) where
  -- it is at or after n
  pub first-from : n ≤ first_of t n
  unfolding first_of
  first-from = omega arith

  -- within four slots
  pub first-near : first_of t n ≤ n + 3
  unfolding first_of
  first-near = omega arith

  -- of that timeslot
  pub first_slot : 1 ≤ t → t ≤ 4 → timeslot (first_of t n) ≡ t
  unfolding first_of
  first_slot h g = omega arith

  -- and no slot of that timeslot at or after n is earlier
  pub first-least : 1 ≤ t → t ≤ 4 → (x : ℕ) → n ≤ x → timeslot x ≡ t → first_of t n ≤ x
  unfolding first_of
  first-least h g x l e = omega arith

-- a slot of the timeslot is itself the first
pub first-self : (t n : ℕ) → timeslot n ≡ t → first_of t n ≡ n
unfolding first_of
first-self t n e = omega arith

-- and the first after it is a frame on
pub first_next : (t n : ℕ) → timeslot n ≡ t → first_of t (n + 1) ≡ n + 4
unfolding first_of
first_next t n e = omega arith

-- from slots that show one time, first slots that show one time
pub first-clock : (t a b : ℕ) → clock a ≡ clock b → clock (first_of t a) ≡ clock (first_of t b)
unfolding first_of
first-clock t a b h = rw (low a b (clock-timeslot a b h)) (clock-add a b _ h)
  where
    low : (a b : ℕ) → timeslot a ≡ timeslot b → a % 4 ≡ b % 4
    low a b h = omega arith

-- ---- slots a frame apart

-- each in k frames from u on, and of u's timeslot
pub frames_on-near : (u k : ℕ) → All (λ c. (u ≤ c) × (c + 4 ≤ u + 4 * k) × (timeslot c ≡ timeslot u)) (frames_on u k)
unfolding frames_on
frames_on-near u zero = tt
frames_on-near u (suc k) = (omega arith, all-weaken _ _ (λ c h. omega arith) (frames_on (u + 4) k) (frames_on-near (u + 4) k))

-- from the first slot of timeslot t at or after n, k of them lie in the 4 k slots from n on
pub frames_on-window : (t n k : ℕ) → All (λ c. (n ≤ c) × (c < n + 4 * k)) (frames_on (first_of t n) k)
frames_on-window t n k =
    all-weaken _ _ (λ c h. (omega (arith, h.0, first-from t n), omega (arith, h.1, first-near t n))) (frames_on (first_of t n) k)
    (frames_on-near (first_of t n) k)

-- ---- the usable ones of a list of slots

-- a usable one stays
pub usable_of-keeps : (c : ℕ) (cs : List ℕ) → usable c ≡ true → usable_of (c ∷ cs) ≡ c ∷ usable_of cs
unfolding usable_of
usable_of-keeps c cs h = rw h

-- any other goes
pub usable_of-leaves : (c : ℕ) (cs : List ℕ) → usable c ≡ false → usable_of (c ∷ cs) ≡ usable_of cs
unfolding usable_of
usable_of-leaves c cs h = rw h

-- what holds of every slot holds of the usable ones
pub usable_of-all : (P : ℕ → Type 0) (cs : List ℕ) → All P cs → All P (usable_of cs)
unfolding usable_of
usable_of-all P [] h = tt
usable_of-all P (c ∷ cs) h = go (usable c) (usable_of-all P cs h.1)
  where
    go : (b : Bool) → All P (usable_of cs) → All P (cond b (c ∷ usable_of cs) (usable_of cs))
    go true ih = (h.0, ih)
    go false ih = ih
