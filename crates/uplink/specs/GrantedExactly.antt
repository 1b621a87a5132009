-- Demand 2, for requests: what a valid request is answered on a sound table, and what is altered. Assumes nothing.
use Rattle.std.specs.Prelude.{◌≡◌, ◌↔◌, ◌≢◌, Bool, true, false, List, ℕ, ◌+◌, ◌≤◌, ◌<◌, min, length, get_or, Option, Some, None, Err}
use Rattle.sizes.specs.Sizes.{timeslots, latest_delay, address_numbers}
use Rattle.questions.specs.declared.Refusal.{Refusal}
use Rattle.tdma_time.specs.Time.{slot_of}
use Rattle.slot_codes.specs.Codes.{slots_wanted, wants_half}
use Rattle.uplink.specs.declared.Uplink.{Uplink}
use Rattle.uplink.specs.HalfSlot.{first_half, vacant}
use Rattle.uplink.specs.UplinkEntry.{FourRowsOfEighteen, SameEntry, entry_at, table_view}
use Rattle.uplink.specs.Uplink.{sound_uplink}
use Rattle.uplink.specs.Request.{Request, candidates, slot_fits, marker_of, markers_after, granted_reply, cap_number, answer}

-- the n slots from the i-th of a list on are there, and each passes
pub record Stretch (p : ℕ → Bool) (n : ℕ) (cs : List ℕ) (i : ℕ) : Type 0 where
  pub room : i + n ≤ length cs
  pub each : (j : ℕ) → j < n → p (get_or cs (i + j) 0) ≡ true

-- the earliest such stretch is at i
pub record Earliest (p : ℕ → Bool) (n : ℕ) (cs : List ℕ) (i : ℕ) : Type 0 where
  pub stretch : Stretch p n cs i
  pub none_before : (j : ℕ) → j < i → Stretch p n cs j → ⊥

-- the slots asked for are free in succession, frame 18 passed over, from the i-th usable slot of the 17 frames on
abbrev pub FreeFrom : Uplink → Request → ℕ → Type 0
FreeFrom u r = Stretch (slot_fits (wants_half r.code) (table_view u.rows)) (slots_wanted r.code) (candidates r.timeslot (slot_of u.time))

-- the earliest such run has i usable slots before it
abbrev pub EarliestFrom : Uplink → Request → ℕ → Type 0
EarliestFrom u r = Earliest (slot_fits (wants_half r.code) (table_view u.rows)) (slots_wanted r.code) (candidates r.timeslot (slot_of u.time))

-- the j-th slot of the run that has i usable slots before it
abbrev pub slot_of_run : Uplink → Request → ℕ → ℕ → ℕ
slot_of_run u r i j = get_or (candidates r.timeslot (slot_of u.time)) (i + j) 0

-- A request granted with the run that has i usable slots before it.
pub record Reserved (u : Uplink) (r : Request) (i : ℕ) : Type 0 where
  -- whole slots: the capacity's count is the one asked for (68 if over 68), the delay is i, and two or more have the marker drawn
  pub whole-reply : wants_half r.code ≡ false → (answer u r).reply ≡ granted_reply (min r.code 14) i (marker_of u.next_usage_marker r)
  -- both halves of each slot of the run stand under the number, with the marker
  pub whole : wants_half r.code ≡ false → (j : ℕ) → j < slots_wanted r.code
      → let who = Some r.number in
      entry_at (answer u r).uplink.rows (slot_of_run u r i j) ≡ record { ul1 = who; ul2 = who; usage_marker = marker_of u.next_usage_marker r }
  -- half a slot: the first half if it is free (capacity 0)
  pub first-half : wants_half r.code ≡ true → vacant (table_view u.rows (slot_of_run u r i 0) first_half) ≡ true
      → ((answer u r).reply ≡ granted_reply 0 i None)
      × (entry_at (answer u r).uplink.rows (slot_of_run u r i 0)
      ≡ record { ul1 = Some r.number; ul2 = None; usage_marker = None })
  -- else the second (capacity 15), beside a first half that stays as it was
  pub second-half : wants_half r.code ≡ true → vacant (table_view u.rows (slot_of_run u r i 0) first_half) ≡ false
      → let before = entry_at u.rows (slot_of_run u r i 0) in
      ((answer u r).reply ≡ granted_reply 15 i None)
      × (entry_at (answer u r).uplink.rows (slot_of_run u r i 0)
      ≡ record { ul1 = before.ul1; ul2 = Some r.number; usage_marker = before.usage_marker })
  -- nothing else in the table changes
  pub others : (c : ℕ) → ((j : ℕ) → j < slots_wanted r.code → SameEntry c (slot_of_run u r i j) → ⊥)
      → entry_at (answer u r).uplink.rows c ≡ entry_at u.rows c
  -- the timeslot's counter steps if a marker was drawn
  pub counters : (answer u r).uplink.next_usage_marker ≡ markers_after u.next_usage_marker r
  -- and the time stays
  pub time : (answer u r).uplink.time ≡ u.time

pub record GrantedExactly (u : Uplink) (r : Request) : Type 0 where
  -- where the earliest run has at most 13 usable slots before it, it is granted and reserved
  pub granted : (i : ℕ) → EarliestFrom u r i → i ≤ latest_delay → Reserved u r i
  -- and a request is granted only then
  pub only_then : (cap delay : ℕ) (m : Option ℕ) → (answer u r).reply ≡ granted_reply cap delay m
      → EarliestFrom u r delay × (delay ≤ latest_delay)
  -- 9 is answered exactly when there is no run
  pub no-run : ((answer u r).reply ≡ Err Refusal.NoRun) ↔ ((i : ℕ) → FreeFrom u r i → ⊥)
  -- 10 exactly when more than 13 usable slots stand before the earliest
  pub too-late : ((answer u r).reply ≡ Err Refusal.TooLate) ↔ ((i : ℕ) × EarliestFrom u r i × (latest_delay < i))
  -- a refusal changes nothing and draws no marker
  pub refused : cap_number (answer u r).reply ≢ 0 → (answer u r).uplink ≡ u
  -- the uplink stays sound
  pub sound : sound_uplink (answer u r).uplink ≡ true

-- a state and a request that questions 1 and 3 to 5 let pass
pub record Proper (u : Uplink) (r : Request) : Type 0 where
  pub shape : FourRowsOfEighteen u.rows
  pub four : length u.next_usage_marker ≡ timeslots
  pub sound : sound_uplink u ≡ true
  pub timeslot-low : 1 ≤ r.timeslot
  pub timeslot-high : r.timeslot ≤ timeslots
  pub code : r.code ≤ 15
  pub number : r.number < address_numbers

-- A request is granted exactly when its n slots are free in succession within the 17 frames, with at most 13 usable slots before the
-- earliest such run, which is reserved.
abbrev pub Demand2 : Type 0
Demand2 = (u : Uplink) (r : Request) → Proper u r → GrantedExactly u r
