-- Document 01, "Request and grant": the reservation requirements and their codes. EN 300 392-2, clause 21.5.4. Assumes nothing.
use Rattle.std.specs.Prelude.{List, [], ◌∷◌, ℕ, get_or, Result}
use Rattle.reservation_requirement.specs.declared.ReservationRequirement.{ReservationRequirement}
use Rattle.reservation_requirement.specs.declared.ReservationRequirement.TheVariants.{
  Req1Subslot,
  Req1Slot,
  Req2Slots,
  Req3Slots,
  Req4Slots,
  Req5Slots,
  Req6Slots,
  Req8Slots,
  Req10Slots,
  Req13Slots,
  Req17Slots,
  Req24Slots,
  Req34Slots,
  Req51Slots,
  Req68Slots,
  ReqOver68,
}
use Rattle.slot_codes.specs.Codes.{code_read}
use Rattle.slot_codes.specs.declared.UnknownCode.{UnknownCode}

-- "Requirement codes 0–15: one half-slot; [..] over 68"; clause 21.5.4
abbrev pub requirement_code : ReservationRequirement → ℕ
requirement_code Req1Subslot = 0
requirement_code Req1Slot = 1
requirement_code Req2Slots = 2
requirement_code Req3Slots = 3
requirement_code Req4Slots = 4
requirement_code Req5Slots = 5
requirement_code Req6Slots = 6
requirement_code Req8Slots = 7
requirement_code Req10Slots = 8
requirement_code Req13Slots = 9
requirement_code Req17Slots = 10
requirement_code Req24Slots = 11
requirement_code Req34Slots = 12
requirement_code Req51Slots = 13
requirement_code Req68Slots = 14
requirement_code ReqOver68 = 15

-- the cases in the order of their codes
abbrev pub requirements : List ReservationRequirement
requirements =
    Req1Subslot
    ∷ Req1Slot
    ∷ Req2Slots
    ∷ Req3Slots
    ∷ Req4Slots
    ∷ Req5Slots
    ∷ Req6Slots
    ∷ Req8Slots
    ∷ Req10Slots
    ∷ Req13Slots
    ∷ Req17Slots
    ∷ Req24Slots
    ∷ Req34Slots
    ∷ Req51Slots
    ∷ Req68Slots
    ∷ ReqOver68
    ∷ []

-- the case that a code of four bits stands for
abbrev pub requirement_at : ℕ → ReservationRequirement
requirement_at code = get_or requirements code ReqOver68

-- "Requirement code 0–15? No: 4": what a number is read as; past 15 it is no code
abbrev pub requirement_read : ℕ → Result ReservationRequirement UnknownCode
requirement_read = code_read requirement_at
