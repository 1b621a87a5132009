-- Document 01, "Uplink entry": entries, the table, owner, usage, reservation and soundness. Assumes nothing.
use Rattle.std.specs.Prelude.{◌≡◌, Bool, true, false, ◌&&◌, ◌||◌, not, cond, List, [], ◌∷◌, ℕ, ◌+◌, ◌-◌, ◌/◌, ◌%◌, ◌<◌, length, get_or, set, replicate, eqb, leb, ltb, Option, Some, None}
use Rattle.std.specs.List.{list_all}
use Rattle.std.specs.Option.{is_none}
use Rattle.sizes.specs.Sizes.{address_numbers}
use Rattle.tdma_time.specs.declared.TdmaTime.{TdmaTime}
use Rattle.tdma_time.specs.Time.{cycle, slot_of, timeslot, frame}
use Rattle.uplink.specs.declared.Entry.{Entry}
use Rattle.uplink.specs.declared.PhyBlockNum.{PhyBlockNum}
use Rattle.uplink.specs.declared.AccessAssignUlUsage.{AccessAssignUlUsage}
use Rattle.uplink.specs.HalfSlot.{Half, first_half, second_half, View, vacant}

-- "The empty entry is a constant of its type."
abbrev pub empty_entry : Entry
empty_entry = record { ul1 = None; ul2 = None; usage_marker = None }

-- "The uplink table is four rows of eighteen entries, indexed by timeslot and frame."
abbrev pub Table : Type 0
Table = List (List Entry)

pub record FourRowsOfEighteen (tb : Table) : Type 0 where
  pub rows : length tb ≡ 4
  pub columns : (i : ℕ) → i < 4 → length (get_or tb i []) ≡ 18

abbrev pub empty_table : Table
empty_table = replicate 4 (replicate 18 empty_entry)

-- the entry of slot c, and the table with another entry there
unfoldable pub entry_at : Table → ℕ → Entry
entry_at tb c = get_or (get_or tb (c % 4) []) (c / 4 % 18) empty_entry

unfoldable pub store : Table → ℕ → Entry → Table
store tb c e = set tb (c % 4) (set (get_or tb (c % 4) []) (c / 4 % 18) e)

-- "indexed by timeslot and frame": slots of one entry
abbrev pub SameEntry : ℕ → ℕ → Type 0
SameEntry c d = (timeslot c ≡ timeslot d) × (frame c ≡ frame d)

-- who holds each half of each slot, by the table
abbrev pub holder : Entry → Half → Option ℕ
holder e first_half = e.ul1
holder e second_half = e.ul2

abbrev pub table_view : Table → View
table_view tb c h = holder (entry_at tb c) h

-- ---- owner

abbrev pub same_owner : Option ℕ → Option ℕ → Bool
same_owner None None = true
same_owner None (Some b) = false
same_owner (Some a) None = false
same_owner (Some a) (Some b) = eqb a b

-- "Owner of both halves: the number if both are equal, else none."
abbrev pub owner_of : PhyBlockNum → Entry → Option ℕ
owner_of PhyBlockNum.Block1 e = e.ul1
owner_of PhyBlockNum.Block2 e = e.ul2
owner_of PhyBlockNum.Both e = cond (same_owner e.ul1 e.ul2) e.ul1 None

-- ---- usage

-- "3 any taken with a marker, the marker beside it"
abbrev pub or_marked : Option ℕ → AccessAssignUlUsage → AccessAssignUlUsage
or_marked None u = u
or_marked (Some m) u = AccessAssignUlUsage.Traffic m

-- "Usage: 0 no half taken, 1 first only, 2 both, 3 any taken with a marker"
abbrev pub usage_of : Entry → AccessAssignUlUsage
usage_of e =
    cond (vacant e.ul1 && vacant e.ul2) AccessAssignUlUsage.CommonOnly
    (or_marked e.usage_marker (cond (vacant e.ul2) AccessAssignUlUsage.CommonAndAssigned AccessAssignUlUsage.AssignedOnly))

-- document 01's number of a usage, and the marker beside it
abbrev pub usage_number : AccessAssignUlUsage → ℕ
usage_number AccessAssignUlUsage.CommonOnly = 0
usage_number AccessAssignUlUsage.CommonAndAssigned = 1
usage_number AccessAssignUlUsage.AssignedOnly = 2
usage_number (AccessAssignUlUsage.Traffic m) = 3

abbrev pub marker_of_usage : AccessAssignUlUsage → Option ℕ
marker_of_usage AccessAssignUlUsage.CommonOnly = None
marker_of_usage AccessAssignUlUsage.CommonAndAssigned = None
marker_of_usage AccessAssignUlUsage.AssignedOnly = None
marker_of_usage (AccessAssignUlUsage.Traffic m) = Some m

-- "marker or 0"
abbrev pub marker_or_zero : Option ℕ → ℕ
marker_or_zero None = 0
marker_or_zero (Some marker) = marker

-- ---- reservation and clearing

-- an entry with a half taken, with each of a list of halves taken, and with a marker
abbrev pub with_half : Entry → Half → ℕ → Entry
with_half e first_half who = record { ul1 = Some who; ul2 = e.ul2; usage_marker = e.usage_marker }
with_half e second_half who = record { ul1 = e.ul1; ul2 = Some who; usage_marker = e.usage_marker }

unfoldable pub with_halves : Entry → List Half → ℕ → Entry
with_halves e [] who = e
with_halves e (h ∷ hs) who = with_halves (with_half e h who) hs who

abbrev pub with_marker : Entry → Option ℕ → Entry
with_marker e None = e
with_marker e (Some m) = record { ul1 = e.ul1; ul2 = e.ul2; usage_marker = Some m }

-- the given halves of each of a list of slots taken by a number, with its marker if it has one
unfoldable pub reserve : Table → List Half → ℕ → Option ℕ → List ℕ → Table
reserve tb hs who m [] = tb
reserve tb hs who m (c ∷ cs) = reserve (store tb c (with_halves (with_marker (entry_at tb c) m) hs who)) hs who m cs

-- "emptying the entry of the slot four earlier"
abbrev pub cleared : Table → TdmaTime → Table
cleared tb x = store tb (slot_of x + cycle - 4) empty_entry

-- ---- soundness (question 1)

-- "an owner (a 24-bit number)"
abbrev pub sound_owner : Option ℕ → Bool
sound_owner None = true
sound_owner (Some w) = ltb w address_numbers

-- "a marker (4–62)"
abbrev pub sound_counter : ℕ → Bool
sound_counter m = leb 4 m && leb m 62

abbrev pub sound_marker : Option ℕ → Bool
sound_marker None = true
sound_marker (Some m) = sound_counter m

-- "no second half without a first, a marker (4–62) only in a taken entry"
abbrev pub sound_entry : Entry → Bool
sound_entry e =
    (not (vacant e.ul1) || (vacant e.ul2 && is_none e.usage_marker)) && sound_owner e.ul1 && sound_owner e.ul2
    && sound_marker e.usage_marker

abbrev pub sound_row : List Entry → Bool
sound_row = list_all sound_entry

abbrev pub sound_table : Table → Bool
sound_table = list_all sound_row

-- "time and counters in range"
abbrev pub sound_counters : List ℕ → Bool
sound_counters = list_all sound_counter
