-- Laws of reservation requirements: code and case are inverse. Assumes nothing.
use mathlib.Core.Path.{◌≡◌, refl}
use Prim.Native.Nat.{ℕ, ◌≤◌, ◌<◌}
use lib.Dec.{lit<}
use lib.ListN.{take}
use Rattle.slot_codes.proofs.TableLaws.{past-the-last, agree-below}
use Rattle.slot_codes.proofs.CodesLaws.{code-read-back}
use Rattle.reservation_requirement.specs.declared.ReservationRequirement.{ReservationRequirement}
use Rattle.std.proofs.Common.{Ok}
use Rattle.reservation_requirement.specs.Requirement.{requirements, requirement_at, requirement_code, requirement_read}

-- every number from 15 on is read as the last case
pub requirement-past-the-last : (code : ℕ) → 15 ≤ code → requirement_at code ≡ ReservationRequirement.ReqOver68
requirement-past-the-last = past-the-last (take 15 requirements) ReservationRequirement.ReqOver68

-- each requirement is the case of its code, which has four bits
requirement-coded : (r : ReservationRequirement) → (requirement_at (requirement_code r) ≡ r) × (requirement_code r < 16)
requirement-coded ReservationRequirement.Req1Subslot = (refl, lit< tt)
requirement-coded ReservationRequirement.Req1Slot = (refl, lit< tt)
requirement-coded ReservationRequirement.Req2Slots = (refl, lit< tt)
requirement-coded ReservationRequirement.Req3Slots = (refl, lit< tt)
requirement-coded ReservationRequirement.Req4Slots = (refl, lit< tt)
requirement-coded ReservationRequirement.Req5Slots = (refl, lit< tt)
requirement-coded ReservationRequirement.Req6Slots = (refl, lit< tt)
requirement-coded ReservationRequirement.Req8Slots = (refl, lit< tt)
requirement-coded ReservationRequirement.Req10Slots = (refl, lit< tt)
requirement-coded ReservationRequirement.Req13Slots = (refl, lit< tt)
requirement-coded ReservationRequirement.Req17Slots = (refl, lit< tt)
requirement-coded ReservationRequirement.Req24Slots = (refl, lit< tt)
requirement-coded ReservationRequirement.Req34Slots = (refl, lit< tt)
requirement-coded ReservationRequirement.Req51Slots = (refl, lit< tt)
requirement-coded ReservationRequirement.Req68Slots = (refl, lit< tt)
requirement-coded ReservationRequirement.ReqOver68 = (refl, lit< tt)

pub requirement-of-its-code : (r : ReservationRequirement) → requirement_at (requirement_code r) ≡ r
requirement-of-its-code r = (requirement-coded r).0

pub requirement-code-below-16 : (r : ReservationRequirement) → requirement_code r < 16
requirement-code-below-16 r = (requirement-coded r).1

-- the code of what a code is read as is that code
pub requirement-code-of-read : (code : ℕ) → code < 16 → requirement_code (requirement_at code) ≡ code
requirement-code-of-read = agree-below (λ k. requirement_code (requirement_at k)) (λ k. k) 16 refl

-- what was coded is read back
pub requirement-read-back : (r : ReservationRequirement) → requirement_read (requirement_code r) ≡ Ok r
requirement-read-back r = code-read-back requirement_at requirement_code r (requirement-code-below-16 r) (requirement-of-its-code r)
