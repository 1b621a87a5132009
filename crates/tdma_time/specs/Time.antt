-- Document 01, "Time". Assumes nothing.
--
-- A slot is a number: how many slots after the first slot of hyperframe 0 it comes. Numbers go on past the last hyperframe;
-- `time_of n` is the time that slot n shows, and `clock n` is the number of that time. So `clock a ≡ clock b` says that a and b
-- show the same time.
use Rattle.std.specs.Prelude.{Bool, not, ◌&&◌, cond, List, [], ◌∷◌, ℕ, zero, suc, ◌+◌, ◌-◌, ◌*◌, ◌/◌, ◌%◌, ◌≤◌, eqb, leb}
use Rattle.sizes.specs.Sizes.{timeslots}
use Rattle.tdma_time.specs.declared.TdmaTime.{TdmaTime}

-- "Timeslot t 1–4, frame f 1–18, multiframe m 1–60, hyperframe h 0–65,535."
pub record Valid (x : TdmaTime) : Type 0 where
  pub t-low : 1 ≤ x.t
  pub t-high : x.t ≤ 4
  pub f-low : 1 ≤ x.f
  pub f-high : x.f ≤ 18
  pub m-low : 1 ≤ x.m
  pub m-high : x.m ≤ 60
  pub h-high : x.h ≤ 65535

-- the same as a test
unfoldable pub valid : TdmaTime → Bool
valid x = leb 1 x.t && leb x.t 4 && leb 1 x.f && leb x.f 18 && leb 1 x.m && leb x.m 60 && leb x.h 65535

-- "3. Timeslot 1–4?"
abbrev pub legal_timeslot : ℕ → Bool
legal_timeslot t = leb 1 t && leb t timeslots

-- how many times there are: 4 timeslots, 18 frames, 60 multiframes, 65,536 hyperframes
abbrev pub cycle : ℕ
cycle = 4 * 18 * 60 * 65536

-- "Slots count through t, f, m, h in that order of speed": the slot of a time
abbrev pub slot_of : TdmaTime → ℕ
slot_of x = (x.t - 1) + 4 * ((x.f - 1) + 18 * ((x.m - 1) + 60 * x.h))

-- the parts of the time that slot n shows
abbrev pub timeslot : ℕ → ℕ
timeslot n = n % 4 + 1

abbrev pub frame : ℕ → ℕ
frame n = n / 4 % 18 + 1

abbrev pub multiframe : ℕ → ℕ
multiframe n = n / 4 / 18 % 60 + 1

abbrev pub hyperframe : ℕ → ℕ
hyperframe n = n / 4 / 18 / 60 % 65536

-- "after the last time comes the first": the time that slot n shows, and its number
abbrev pub time_of : ℕ → TdmaTime
time_of n = record { t = timeslot n; f = frame n; m = multiframe n; h = hyperframe n }

abbrev pub clock : ℕ → ℕ
clock n = n % cycle

-- "A slot is usable if f is not 18."
unfoldable pub usable : ℕ → Bool
usable n = not (eqb (frame n) 18)

-- the same of a time, whatever its fields; where they are in range it is that of its slot (`usable-time`)
abbrev pub usable_time : TdmaTime → Bool
usable_time x = not (eqb x.f 18)

-- the first slot of timeslot t at or after slot n
unfoldable pub first_of : ℕ → ℕ → ℕ
first_of t n = n + (t + 3 - n % 4) % 4

-- k slots of one timeslot, each a frame after the one before, from slot n on
unfoldable pub frames_on : ℕ → ℕ → List ℕ
frames_on n zero = []
frames_on n (suc k) = n ∷ frames_on (n + 4) k

-- those of a list of slots that are usable
unfoldable pub usable_of : List ℕ → List ℕ
usable_of [] = []
usable_of (c ∷ cs) = let rest : List ℕ = usable_of cs in cond (usable c) (c ∷ rest) rest

-- the first usable slot of timeslot t at or after slot n (no two frames 18 follow each other)
unfoldable pub first_usable : ℕ → ℕ → ℕ
first_usable t n = cond (usable (first_of t n)) (first_of t n) (first_of t n + 4)

-- the first k usable slots of timeslot t at or after slot n
unfoldable pub usables : ℕ → ℕ → ℕ → List ℕ
usables t n zero = []
usables t n (suc k) = first_usable t n ∷ usables t (first_usable t n + 1) k

-- ---- the functions of `TdmaTime`

-- "advance steps one slot"
abbrev pub next_time : TdmaTime → TdmaTime
next_time x = time_of (slot_of x + 1)

-- "the slot four earlier"
abbrev pub four_earlier : TdmaTime → TdmaTime
four_earlier x = time_of (slot_of x + cycle - 4)

-- the first time of timeslot t at or after x
abbrev pub forward_time : TdmaTime → ℕ → TdmaTime
forward_time x t = time_of (first_of t (slot_of x))
