-- Document 01, "Request and grant": capacities, delays and grants with their codes. EN 300 392-2, clause 21.5.6. Assumes nothing.
use Rattle.std.specs.Prelude.{cond, List, [], ◌∷◌, ℕ, min, max, eqb, leb, get_or, Result}
use Rattle.sizes.specs.Sizes.{latest_delay}
use Rattle.slot_codes.specs.Codes.{code_read, grant_octet, capacity_of, delay_of}
use Rattle.slot_codes.specs.declared.UnknownCode.{UnknownCode}
use Rattle.basic_slotgrant.specs.declared.basic_slotgrant_cap_alloc.BasicSlotgrantCapAlloc.{BasicSlotgrantCapAlloc}
use Rattle.basic_slotgrant.specs.declared.basic_slotgrant_cap_alloc.BasicSlotgrantCapAlloc.TheVariants.{
  FirstSubslotGranted,
  Grant1Slot,
  Grant2Slots,
  Grant3Slots,
  Grant4Slots,
  Grant5Slots,
  Grant6Slots,
  Grant8Slots,
  Grant10Slots,
  Grant13Slots,
  Grant17Slots,
  Grant24Slots,
  Grant34Slots,
  Grant51Slots,
  Grant68Slots,
  SecondSubslotGranted,
}
use Rattle.basic_slotgrant.specs.declared.basic_slotgrant_granting_delay.BasicSlotgrantGrantingDelay.{BasicSlotgrantGrantingDelay}
use Rattle.basic_slotgrant.specs.declared.basic_slotgrant_granting_delay.BasicSlotgrantGrantingDelay.TheVariants.{
  CapAllocAtNextOpportunity,
  DelayNOpportunities,
  AllocStartsAtOpportunityInFr18,
  WaitForAnotherSlotgrantMessage,
}
use Rattle.basic_slotgrant.specs.declared.BasicSlotgrant.{BasicSlotgrant}

-- "Capacity 0 is the first half, 15 the second, 1–14 the slot counts above"; clause 21.5.6
abbrev pub capacity_code : BasicSlotgrantCapAlloc → ℕ
capacity_code FirstSubslotGranted = 0
capacity_code Grant1Slot = 1
capacity_code Grant2Slots = 2
capacity_code Grant3Slots = 3
capacity_code Grant4Slots = 4
capacity_code Grant5Slots = 5
capacity_code Grant6Slots = 6
capacity_code Grant8Slots = 7
capacity_code Grant10Slots = 8
capacity_code Grant13Slots = 9
capacity_code Grant17Slots = 10
capacity_code Grant24Slots = 11
capacity_code Grant34Slots = 12
capacity_code Grant51Slots = 13
capacity_code Grant68Slots = 14
capacity_code SecondSubslotGranted = 15

-- "Delay 0–13 is the number of usable slots passed over"; clause 21.5.6 has 14 for frame 18 and 15 for a grant to be waited for.
-- A delay of n is coded as the nearest of 1 to 13.
abbrev pub delay_code : BasicSlotgrantGrantingDelay → ℕ
delay_code CapAllocAtNextOpportunity = 0
delay_code (DelayNOpportunities n) = max 1 (min n latest_delay)
delay_code AllocStartsAtOpportunityInFr18 = 14
delay_code WaitForAnotherSlotgrantMessage = 15

abbrev pub capacities : List BasicSlotgrantCapAlloc
capacities =
    FirstSubslotGranted
    ∷ Grant1Slot
    ∷ Grant2Slots
    ∷ Grant3Slots
    ∷ Grant4Slots
    ∷ Grant5Slots
    ∷ Grant6Slots
    ∷ Grant8Slots
    ∷ Grant10Slots
    ∷ Grant13Slots
    ∷ Grant17Slots
    ∷ Grant24Slots
    ∷ Grant34Slots
    ∷ Grant51Slots
    ∷ Grant68Slots
    ∷ SecondSubslotGranted
    ∷ []

abbrev pub capacity_at : ℕ → BasicSlotgrantCapAlloc
capacity_at code = get_or capacities code SecondSubslotGranted

abbrev pub delay_at : ℕ → BasicSlotgrantGrantingDelay
delay_at code =
    cond (eqb code 0) CapAllocAtNextOpportunity
    (cond (leb code latest_delay) (DelayNOpportunities code)
    (cond (eqb code 14) AllocStartsAtOpportunityInFr18 WaitForAnotherSlotgrantMessage))

abbrev pub capacity_read : ℕ → Result BasicSlotgrantCapAlloc UnknownCode
capacity_read = code_read capacity_at

abbrev pub delay_read : ℕ → Result BasicSlotgrantGrantingDelay UnknownCode
delay_read = code_read delay_at

-- "Grant octet: four bits capacity, four bits delay.": the octet of a grant, the grant of two codes, and that of an octet
abbrev pub octet_of : BasicSlotgrant → ℕ
octet_of g = grant_octet (capacity_code g.capacity_allocation) (delay_code g.granting_delay)

abbrev pub grant_of : ℕ → ℕ → BasicSlotgrant
grant_of capacity delay = record { capacity_allocation = capacity_at capacity; granting_delay = delay_at delay }

abbrev pub grant_at : ℕ → BasicSlotgrant
grant_at octet = grant_of (capacity_of octet) (delay_of octet)
