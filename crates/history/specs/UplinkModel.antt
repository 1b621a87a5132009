-- The reference model (document 01's book), its uplink: time, markers and what is taken, with no table. Assumes nothing.
use Rattle.std.specs.Prelude.{Bool, true, false, ◌&&◌, cond, List, [], ◌∷◌, ℕ, ◌+◌, eqb, replicate, Option, Some, None}
use Rattle.sizes.specs.Sizes.{timeslots}
use Rattle.tdma_time.specs.declared.TdmaTime.{TdmaTime}
use Rattle.tdma_time.specs.Time.{slot_of, clock}
use Rattle.uplink.specs.declared.Entry.{Entry}
use Rattle.uplink.specs.HalfSlot.{Half, first_half, second_half, HalfSlot, View}
use Rattle.uplink.specs.Search.{Run}
use Rattle.uplink.specs.Request.{Request, Verdict, grant, verdict, reserved_by, marker_of, markers_after}
use Rattle.dl_merge.specs.Merge.{or_else}

-- a half-slot that is taken, and the address number that it is taken under; beside it, for the usage call, the marker that its request drew, or none
pub record Taken : Type 0 where
  pub what : HalfSlot
  pub who : ℕ
  pub marker : Option ℕ

-- now's slot, the timeslots' marker counters, and the half-slots taken
pub record UplinkModel : Type 0 where
  pub now : ℕ
  pub markers : List ℕ
  pub taken : List Taken

-- "It begins at the new station's time, markers at 4, no half-slot taken"
unfoldable pub new_uplink_model : TdmaTime → UplinkModel
new_uplink_model x = record { now = slot_of x; markers = replicate timeslots 4; taken = [] }

-- ---- what is taken

abbrev pub same_half : Half → Half → Bool
same_half first_half first_half = true
same_half first_half second_half = false
same_half second_half first_half = false
same_half second_half second_half = true

-- under which number a half of the slot of a time is taken
unfoldable pub taken_by : List Taken → ℕ → Half → Option ℕ
taken_by [] t h = None
taken_by (x ∷ xs) t h =
    let rest : Option ℕ = taken_by xs t h in
    cond (eqb x.what.time t && same_half x.what.half h) (Some x.who) rest

abbrev pub model_view : List Taken → View
model_view xs c h = taken_by xs (clock c) h

-- the marker with which a half of the slot of a time is taken, or none
unfoldable pub marked_by : List Taken → ℕ → Option ℕ
marked_by [] t = None
marked_by (x ∷ xs) t = let rest : Option ℕ = marked_by xs t in cond (eqb x.what.time t) (or_else x.marker rest) rest

-- the entry of slot c in which what is taken stands
abbrev pub model_entry : List Taken → ℕ → Entry
model_entry xs c = record { ul1 = model_view xs c first_half; ul2 = model_view xs c second_half; usage_marker = marked_by xs (clock c) }

-- "frees the half-slots of the slot left"
unfoldable pub freed : List Taken → ℕ → List Taken
freed [] t = []
freed (x ∷ xs) t = let rest : List Taken = freed xs t in cond (eqb x.what.time t) rest (x ∷ rest)

-- "stand as taken under its address number"
unfoldable pub take_halves : List HalfSlot → ℕ → Option ℕ → List Taken → List Taken
take_halves [] who marker xs = xs
take_halves (y ∷ ys) who marker xs = take_halves ys who marker (record { what = y; who = who; marker = marker } ∷ xs)

-- ---- what an advance and a request make of it

-- "An advance takes the next time and frees the half-slots of the slot left."
unfoldable pub advanced_uplink_model : UplinkModel → UplinkModel
advanced_uplink_model u = record { now = clock (u.now + 1); markers = u.markers; taken = freed u.taken u.now }

-- "A request looks at its timeslot's 17 slots from the first at or after now, those of frame 18 left out. It takes the earliest n in
-- succession with both halves free, or for half a slot the first with a free half": 9 and 10 are asked of the model
unfoldable pub model_verdict : UplinkModel → Request → Verdict
model_verdict u r = verdict (model_view u.taken) u.now r

-- with the half-slots of a run taken for a request, and its marker drawn
unfoldable pub taken_for : Request → Run → UplinkModel → UplinkModel
taken_for r g u =
    record {
      now = u.now;
      markers = markers_after u.markers r;
      taken = take_halves (reserved_by (model_view u.taken) r.code (grant g)) r.number (marker_of u.markers r) u.taken;
    }
