-- Laws of times, of the numbers of slots, and of `clock`.
-- Assumes nothing.
use mathlib.Core.Path.{◌≡◌, refl, sym, ap, ◌∙◌}
use mathlib.Core.Logic.{◌≢◌}
use mathlib.Core.Bool.{true, and-eq-true_iff}
use Prim.Native.Nat.{ℕ, ◌+◌, ◌-◌, ◌*◌, ◌/◌, ◌%◌, ◌≤◌, ◌<◌}
use native.Mathlib.Omega.{arith}
use borrow.Author.Tests.{le-leb, leb-true}
use Rattle.tdma_time.specs.declared.TdmaTime.{TdmaTime}
use Rattle.tdma_time.specs.Time.{Valid, valid, cycle, slot_of, timeslot, frame, multiframe, hyperframe, time_of, clock, first_of, next_time, four_earlier}

-- ---- `valid` is the test of `Valid`

-- a valid time passes the test
pub valid-true : (x : TdmaTime) → Valid x → valid x ≡ true
unfolding valid
valid-true x v =
    rw (
      le-leb _ _ v.t-low,
      le-leb _ _ v.t-high,
      le-leb _ _ v.f-low,
      le-leb _ _ v.f-high,
      le-leb _ _ v.m-low,
      le-leb _ _ v.m-high,
      le-leb _ _
          v.h-high,
    )

-- a time that passes the test is valid
pub true-valid : (x : TdmaTime) → valid x ≡ true → Valid x
unfolding valid
true-valid x e =
    let g = (and-eq-true_iff _ _).0 e in
    let f = (and-eq-true_iff _ _).0 g.0 in
    let d = (and-eq-true_iff _ _).0 f.0 in
    let c = (and-eq-true_iff _ _).0 d.0 in
    let b = (and-eq-true_iff _ _).0 c.0 in
    let a = (and-eq-true_iff _ _).0 b.0 in
    record {
      t-low = leb-true _ _ a.0;
      t-high = leb-true _ _ a.1;
      f-low = leb-true _ _ b.1;
      f-high = leb-true _ _ c.1;
      m-low = leb-true _ _ d.1;
      m-high = leb-true _ _ f.1;
      h-high = leb-true _ _ g.1;
    }

-- ---- a time and its number

-- times with equal parts are equal
pub time-eq : {t f m h t' f' m' h' : ℕ} → t ≡ t' → f ≡ f' → m ≡ m' → h ≡ h'
    → ◌≡◌ {A = TdmaTime} (record { t = t; f = f; m = m; h = h }) (record { t = t'; f = f'; m = m'; h = h' })
time-eq p q r s = λ i. record { t = p i; f = q i; m = r i; h = s i }

-- the parts of a number given by its parts
module _ (a b c d : ℕ) (p : a < 4) (q : b < 18) (r : c < 60) where
  digits_4 : (a + 4 * (b + 18 * (c + 60 * d))) / 4 ≡ b + 18 * (c + 60 * d)
  digits_4 = omega arith

  digits-18 : (b + 18 * (c + 60 * d)) / 18 ≡ c + 60 * d
  digits-18 = omega arith

  digits : d < 65536 → time_of (a + 4 * (b + 18 * (c + 60 * d))) ≡ record { t = a + 1; f = b + 1; m = c + 1; h = d }
  digits s = rw (digits_4, digits-18) (time-eq (omega arith) (omega arith) (omega arith) (omega arith))

-- the slot of a valid time shows that time
pub time_of-slot_of : (x : TdmaTime) → Valid x → time_of (slot_of x) ≡ x
time_of-slot_of x v =
    digits (x.t - 1) (x.f - 1) (x.m - 1) x.h (omega arith) (omega arith) (omega arith) (omega arith)
    ∙ time-eq (omega arith) (omega arith) (omega arith) refl

-- the number of the time that slot n shows
pub slot_of-time_of : (n : ℕ) → slot_of (time_of n) ≡ clock n
slot_of-time_of n = omega arith

-- every slot shows a valid time
pub time_of-valid : (n : ℕ) → Valid (time_of n)
time_of-valid n = omega arith

-- the number of a valid time is below the cycle
pub slot_of-below : (x : TdmaTime) → Valid x → slot_of x < cycle
slot_of-below x v = omega arith

-- a slot and its number on the clock show one time
pub time_of-clock : (n : ℕ) → time_of (clock n) ≡ time_of n
time_of-clock n = ap time_of (sym (slot_of-time_of n)) ∙ time_of-slot_of (time_of n) (time_of-valid n)

-- slots that show one time have one number on the clock
pub time_of-same : (a b : ℕ) → time_of a ≡ time_of b → clock a ≡ clock b
time_of-same a b e = sym (slot_of-time_of a) ∙ ap slot_of e ∙ slot_of-time_of b

-- and the other way round
pub same-time_of : (a b : ℕ) → clock a ≡ clock b → time_of a ≡ time_of b
same-time_of a b e = sym (time_of-clock a) ∙ ap time_of e ∙ time_of-clock b

-- a valid time is the one that the slot of its number shows
pub time-is : (x : TdmaTime) (n : ℕ) → Valid x → slot_of x ≡ n → x ≡ time_of n
time-is x n v e = sym (time_of-slot_of x v) ∙ ap time_of e

-- ---- the first slot of a timeslot at or after a time

-- it is in the same frame where the time's timeslot is not past it
pub first-this-frame : (x : TdmaTime) (t : ℕ) → Valid x → x.t ≤ t → t ≤ 4 → first_of t (slot_of x) ≡ slot_of x + (t - x.t)
unfolding first_of
first-this-frame x t v h g = omega arith

-- and in the next frame where it is
pub first-next-frame : (x : TdmaTime) (t : ℕ) → Valid x → 1 ≤ t → t < x.t → first_of t (slot_of x) ≡ slot_of x + 4 - x.t + t
unfolding first_of
first-next-frame x t v h g = omega arith

-- ---- the parts of a slot

-- the slot of a valid time has the parts of that time
module _ (x : TdmaTime) (v : Valid x) where
  pub slot_of-timeslot : timeslot (slot_of x) ≡ x.t
  slot_of-timeslot = ap (λ y. y.t) (time_of-slot_of x v)

  pub slot_of-frame : frame (slot_of x) ≡ x.f
  slot_of-frame = ap (λ y. y.f) (time_of-slot_of x v)

-- the next slot: the timeslot steps, and what is full carries into the next part
pub next-timeslot : (n : ℕ) → timeslot n ≢ 4
    → (timeslot (n + 1) ≡ timeslot n + 1) × (frame (n + 1) ≡ frame n) × (multiframe (n + 1) ≡ multiframe n) × (hyperframe (n + 1) ≡ hyperframe n)
next-timeslot n h = omega arith

pub next-frame : (n : ℕ) → timeslot n ≡ 4 → frame n ≢ 18
    → (timeslot (n + 1) ≡ 1) × (frame (n + 1) ≡ frame n + 1) × (multiframe (n + 1) ≡ multiframe n) × (hyperframe (n + 1) ≡ hyperframe n)
next-frame n h g = omega arith

pub next-multiframe : (n : ℕ) → timeslot n ≡ 4 → frame n ≡ 18 → multiframe n ≢ 60
    → (timeslot (n + 1) ≡ 1) × (frame (n + 1) ≡ 1) × (multiframe (n + 1) ≡ multiframe n + 1) × (hyperframe (n + 1) ≡ hyperframe n)
next-multiframe n h g k = omega arith

pub next-hyperframe : (n : ℕ) → timeslot n ≡ 4 → frame n ≡ 18 → multiframe n ≡ 60 → hyperframe n ≢ 65535
    → (timeslot (n + 1) ≡ 1) × (frame (n + 1) ≡ 1) × (multiframe (n + 1) ≡ 1) × (hyperframe (n + 1) ≡ hyperframe n + 1)
next-hyperframe n h g k l = omega arith

-- after the last time comes the first
pub next_last : (n : ℕ) → timeslot n ≡ 4 → frame n ≡ 18 → multiframe n ≡ 60 → hyperframe n ≡ 65535 → clock (n + 1) ≡ 0
next_last n h g k l = omega arith

-- ---- the clock

-- it comes round after a cycle
pub clock-period : (n : ℕ) → clock (n + cycle) ≡ clock n
clock-period n = omega arith

-- it may be read before or after a sum
pub clock-clock : (n k : ℕ) → clock (clock n + k) ≡ clock (n + k)
clock-clock n k = omega arith

-- slots that show one time still do so k slots on
pub clock-add : (a b k : ℕ) → clock a ≡ clock b → clock (a + k) ≡ clock (b + k)
clock-add a b k h = omega arith

-- and did so k slots before
pub clock-cancel : (a b k : ℕ) → clock (a + k) ≡ clock (b + k) → clock a ≡ clock b
clock-cancel a b k h = omega arith

-- ---- slots of one timeslot and one frame: those that lie whole multiframes, 72 slots, apart

-- one timeslot and one frame
pub cell : (a b : ℕ) → timeslot a ≡ timeslot b → frame a ≡ frame b → a % 72 ≡ b % 72
cell a b h g = omega arith

-- and the other way round
pub cell_parts : (a b : ℕ) → a % 72 ≡ b % 72 → (timeslot a ≡ timeslot b) × (frame a ≡ frame b)
cell_parts a b h = omega arith

-- slots that show one time are of one timeslot and one frame
pub clock-cell : (a b : ℕ) → clock a ≡ clock b → a % 72 ≡ b % 72
clock-cell a b h = omega arith

pub clock-timeslot : (a b : ℕ) → clock a ≡ clock b → timeslot a ≡ timeslot b
clock-timeslot a b h = (cell_parts a b (clock-cell a b h)).0

pub clock-frame : (a b : ℕ) → clock a ≡ clock b → frame a ≡ frame b
clock-frame a b h = (cell_parts a b (clock-cell a b h)).1

-- ---- frames on

-- ---- the functions of times, on the time that slot n shows

-- the next time is that of the next slot
pub next-time_of : (n : ℕ) → next_time (time_of n) ≡ time_of (n + 1)
next-time_of n = same-time_of (slot_of (time_of n) + 1) (n + 1) (rw (slot_of-time_of n) (clock-clock n 1))

-- four slots on, the slot four earlier is slot n
pub earlier-time_of : (n : ℕ) → four_earlier (time_of (n + 4)) ≡ time_of n
earlier-time_of n = same-time_of (slot_of (time_of (n + 4)) + cycle - 4) n (rw (slot_of-time_of (n + 4)) (back n))
  where
    back : (n : ℕ) → clock (clock (n + 4) + cycle - 4) ≡ clock n
    back n = omega arith
