-- What a mobile station derives from a slot granting element, as usable slots of its timeslot: slot 1 is the first at or after the block's slot.
-- Document 01, "Request and grant". Assumes nothing.
use Rattle.std.specs.Prelude.{cond, List, [], ◌∷◌, ℕ, ◌+◌, eqb, leb, Option, Some, None}
use Rattle.sizes.specs.Sizes.{latest_delay}
use Rattle.slot_codes.specs.Codes.{slots_granted, capacity_of, delay_of}
use Rattle.uplink.specs.HalfSlot.{Half, first_half, second_half}
use Rattle.blockdump.specs.declared.grant.Part.{Part}
use Rattle.blockdump.specs.declared.grant.Part.TheVariants.{FirstHalf, SecondHalf, Whole}
use Rattle.blockdump.specs.declared.grant.UsableSlots.{UsableSlots}
use Rattle.blockdump.specs.declared.grant.MsGrant.{MsGrant}

-- "Capacity 0 is the first half, 15 the second, 1–14 the slot counts above": the part of its slots that a capacity grants
abbrev pub part_of : ℕ → Part
part_of capacity = cond (eqb capacity 0) FirstHalf (cond (eqb capacity 15) SecondHalf Whole)

-- "a slot's first before its second": the halves of a part
abbrev pub part_halves : Part → List Half
part_halves FirstHalf = first_half ∷ []
part_halves SecondHalf = second_half ∷ []
part_halves Whole = first_half ∷ second_half ∷ []

-- "pass over the delay, then take the granted slots, usable ones in succession": the first of them and the last
abbrev pub first_slot : ℕ → ℕ
first_slot delay = delay + 1

abbrev pub last_slot : ℕ → ℕ → ℕ
last_slot capacity delay = delay + slots_granted capacity

-- "Delay 0–13 is the number of usable slots passed over; the scheduler sends no other."
abbrev pub granted_slots : ℕ → ℕ → Option UsableSlots
granted_slots capacity delay = cond (leb delay latest_delay) (Some (record { first = first_slot delay; last = last_slot capacity delay })) None

-- "Grant octet: four bits capacity, four bits delay."
abbrev pub ms_grant : ℕ → MsGrant
ms_grant octet =
    let capacity : ℕ = capacity_of octet in
    let delay : ℕ = delay_of octet in
    record { part = part_of capacity; count = slots_granted capacity; delay = delay; slots = granted_slots capacity delay }
