-- Document 01, "Request and grant": what a request is answered, what it reserves, and what a mobile station derives from a grant.
-- Assumes nothing.
use Rattle.std.specs.Prelude.{Bool, not, cond, List, [], ◌∷◌, ℕ, ◌+◌, ◌-◌, take, drop, get_or, set, eqb, leb, Option, Some, None, Result, Ok, Err}
use Rattle.sizes.specs.Sizes.{frames_searched, latest_delay}
use Rattle.questions.specs.declared.Refusal.{Refusal}
use Rattle.questions.specs.Questions.{refusal_number}
use Rattle.tdma_time.specs.Time.{slot_of, first_of, frames_on, usable_of, usables}
use Rattle.slot_codes.specs.Codes.{slots_wanted, wants_half, slots_granted, capacity_for}
use Rattle.uplink.specs.declared.Grant.{Grant}
use Rattle.uplink.specs.declared.Uplink.{Uplink}
use Rattle.uplink.specs.HalfSlot.{Half, first_half, second_half, HalfSlot, View, vacant, free_for, halves_of_slots}
use Rattle.uplink.specs.Search.{Run, found, walk}
use Rattle.uplink.specs.UplinkEntry.{Table, table_view, reserve}
use Rattle.uplink.specs.Uplink.{with_table}

-- a request: timeslot, requirement code and address number
pub record Request : Type 0 where
  pub timeslot : ℕ
  pub code : ℕ
  pub number : ℕ

-- ---- the search

-- "From the first slot of the timeslot at or after now, 17 frames are searched." "Frame 18 neither counts nor breaks a run."
unfoldable pub candidates : ℕ → ℕ → List ℕ
candidates t now = usable_of (frames_on (first_of t now) frames_searched)

-- "the earliest n in succession with both halves free, or for half a slot the first with a free half"
abbrev pub slot_fits : Bool → View → ℕ → Bool
slot_fits half v c = free_for half (v c first_half) (v c second_half)

-- the earliest run of n slots (or of one half) of timeslot t from slot `now` on
unfoldable pub earliest_run : View → ℕ → ℕ → ℕ → Bool → Option Run
earliest_run v now t n half = found (slot_fits half v) n (candidates t now)

-- the same as the loop of `ul_find_grant_opportunity` in the Rust finds it
unfoldable pub loop_run : View → ℕ → ℕ → ℕ → Bool → Option Run
loop_run v now t n half = walk (slot_fits half v) n 0 [] (frames_on (first_of t now) frames_searched)

-- ---- the verdict

pub data Verdict : Type 0 where
  no_run too_late : Verdict
  grant : Run → Verdict

-- "Does the run exist? No: 9." "At most 13 before it? No: 10."
unfoldable pub settle : Option Run → Verdict
settle None = no_run
settle (Some r) = cond (leb r.delay latest_delay) (grant r) too_late

-- the answer to a request at slot `now`, where v says who holds what
unfoldable pub verdict : View → ℕ → Request → Verdict
verdict v now r = settle (earliest_run v now r.timeslot (slots_wanted r.code) (wants_half r.code))

-- ---- the grant

-- "for half a slot [..] the first half before the second": the capacity granted with the slots cs
unfoldable pub capacity : View → ℕ → List ℕ → ℕ
capacity v code cs = capacity_for code (not (vacant (v (get_or cs 0 0) first_half)))

-- "Capacity 0 is the first half, 15 the second, 1–14 the slot counts"
unfoldable pub halves_of : ℕ → List Half
halves_of cap = cond (eqb cap 0) (first_half ∷ []) (cond (eqb cap 15) (second_half ∷ []) (first_half ∷ second_half ∷ []))

-- "The half-slots it takes, in order, [..] are its reserved list"
unfoldable pub reserved_by : View → ℕ → Verdict → List HalfSlot
reserved_by v code no_run = []
reserved_by v code too_late = []
reserved_by v code (grant r) = halves_of_slots (halves_of (capacity v code r.slots)) r.slots

-- "from the first usable slot of that timeslot at or after the time of the block it read, pass over the delay, then take the
-- granted slots, usable ones in succession, or the named half of one": what a mobile station (MS) derives from a grant
unfoldable pub ms_half_slots : ℕ → ℕ → ℕ → ℕ → List HalfSlot
ms_half_slots t cap delay block =
    halves_of_slots (halves_of cap) (take (slots_granted cap) (drop delay (usables t block (delay + slots_granted cap))))

-- ---- usage markers

-- "Two or more slots draw a usage marker from the timeslot's counter"
abbrev pub draws : ℕ → Bool
draws code = leb 2 (slots_wanted code)

-- "4 to 62 and round again"
unfoldable pub next_marker : ℕ → ℕ
next_marker m = cond (leb 62 m) 4 (m + 1)

-- the counters after a marker is drawn for timeslot t
abbrev pub drawn : List ℕ → ℕ → List ℕ
drawn ms t = set ms (t - 1) (next_marker (get_or ms (t - 1) 0))

-- the marker of a request that is granted, and the counters after it
unfoldable pub marker_of : List ℕ → Request → Option ℕ
marker_of ms r = cond (draws r.code) (Some (get_or ms (r.timeslot - 1) 0)) None

unfoldable pub markers_after : List ℕ → Request → List ℕ
markers_after ms r = cond (draws r.code) (drawn ms r.timeslot) ms

-- ---- the answer

-- the reply to a request that is granted
abbrev pub granted_reply : ℕ → ℕ → Option ℕ → Result Grant Refusal
granted_reply cap delay m = Ok (record { capacity = cap; delay = delay; usage_marker = m })

-- "for R capacity, delay, marker or 0"; a refusal is its number
unfoldable pub reply_to : View → List ℕ → Request → Verdict → Result Grant Refusal
reply_to v ms r no_run = Err Refusal.NoRun
reply_to v ms r too_late = Err Refusal.TooLate
reply_to v ms r (grant g) = granted_reply (capacity v r.code g.slots) g.delay (marker_of ms r)

-- "number (0 done)", "Does the run exist? No: 9.", "At most 13 before it? No: 10."
abbrev pub cap_number : Result Grant Refusal → ℕ
cap_number (Ok g) = 0
cap_number (Err r) = refusal_number r

-- "a refusal draws none": only a grant alters table and counters
unfoldable pub table_after : Table → List ℕ → Request → Verdict → Table
table_after tb ms r no_run = tb
table_after tb ms r too_late = tb
table_after tb ms r (grant g) = reserve tb (halves_of (capacity (table_view tb) r.code g.slots)) r.number (marker_of ms r) g.slots

unfoldable pub counters_after : List ℕ → Request → Verdict → List ℕ
counters_after ms r no_run = ms
counters_after ms r too_late = ms
counters_after ms r (grant g) = markers_after ms r

-- a reply to a request, and the uplink after it
pub record CapAnswer : Type 0 where
  pub reply : Result Grant Refusal
  pub uplink : Uplink

unfoldable pub given : Uplink → Request → Verdict → CapAnswer
given u r w =
    let ms = u.next_usage_marker in
    record { reply = reply_to (table_view u.rows) ms r w; uplink = with_table u (table_after u.rows ms r w) (counters_after ms r w) }

-- the answer to a request: its reply, and the uplink after it
unfoldable pub answer : Uplink → Request → CapAnswer
answer u r = given u r (verdict (table_view u.rows) (slot_of u.time) r)
