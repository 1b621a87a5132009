-- Laws of basic slot grants: code and case, octet and grant are inverse. Assumes nothing.
use mathlib.Core.Path.{◌≡◌, refl, ◌∙◌}
use Prim.Native.Nat.{ℕ, zero, suc, ◌/◌, ◌%◌, ◌≤◌, ◌<◌, min, max}
use native.Mathlib.Nat.{not-suc-le-zero}
use native.Mathlib.Omega.{arith}
use lib.Dec.{lit<, eqb-suc-zero}
use lib.ListN.{take}
use borrow.Author.Tests.{le-leb, lt-leb, ne_eqb}
use Rattle.sizes.specs.Sizes.{latest_delay}
use Rattle.slot_codes.specs.Codes.{grant_octet}
use Rattle.slot_codes.proofs.TableLaws.{past-the-last, agree-below}
use Rattle.slot_codes.proofs.CodesLaws.{code-read-back, capacity-in-octet, delay-in-octet, octet-of-its-halves}
use Rattle.basic_slotgrant.specs.declared.basic_slotgrant_cap_alloc.BasicSlotgrantCapAlloc.{BasicSlotgrantCapAlloc}
use Rattle.basic_slotgrant.specs.declared.basic_slotgrant_granting_delay.BasicSlotgrantGrantingDelay.{BasicSlotgrantGrantingDelay}
use Rattle.basic_slotgrant.specs.declared.basic_slotgrant_granting_delay.BasicSlotgrantGrantingDelay.TheVariants.{
  CapAllocAtNextOpportunity,
  DelayNOpportunities,
  AllocStartsAtOpportunityInFr18,
  WaitForAnotherSlotgrantMessage,
}
use Rattle.std.proofs.Common.{Ok}
use Rattle.basic_slotgrant.specs.declared.BasicSlotgrant.{BasicSlotgrant}
use Rattle.basic_slotgrant.specs.Slotgrant.{capacities, capacity_at, delay_at, capacity_code, delay_code, capacity_read, delay_read, octet_of, grant_of, grant_at}

pub capacity-past-the-last : (code : ℕ) → 15 ≤ code → capacity_at code ≡ BasicSlotgrantCapAlloc.SecondSubslotGranted
capacity-past-the-last = past-the-last (take 15 capacities) BasicSlotgrantCapAlloc.SecondSubslotGranted

-- a delay that the code tells apart: N is 1 to 13
pub data Plain : BasicSlotgrantGrantingDelay → Type 0 where
  next : Plain CapAllocAtNextOpportunity
  after : {n : ℕ} → 1 ≤ n → n ≤ latest_delay → Plain (DelayNOpportunities n)
  frame18 : Plain AllocStartsAtOpportunityInFr18
  wait : Plain WaitForAnotherSlotgrantMessage

-- codes 1 to 13 are delays of N, 14 is frame 18, from 15 on it is to be waited
pub delay-of-n : (code : ℕ) → 1 ≤ code → code ≤ latest_delay → delay_at code ≡ DelayNOpportunities code
delay-of-n zero p h = absurd (not-suc-le-zero p)
delay-of-n (suc c) p h = rw (eqb-suc-zero c, le-leb (suc c) latest_delay h)

pub delay-to-wait-for : (code : ℕ) → 15 ≤ code → delay_at code ≡ WaitForAnotherSlotgrantMessage
delay-to-wait-for code h =
    simp (ne_eqb code 0 (λ e. omega arith), lt-leb code latest_delay (omega arith), ne_eqb code 14 (λ e. omega arith))

-- N is coded as the nearest of 1 to 13
pub nearest-within : (n : ℕ) → 1 ≤ n → n ≤ latest_delay → max 1 (min n latest_delay) ≡ n
nearest-within n p h = omega arith

-- each capacity is the case of its code, which has four bits
capacity-coded : (c : BasicSlotgrantCapAlloc) → (capacity_at (capacity_code c) ≡ c) × (capacity_code c < 16)
capacity-coded BasicSlotgrantCapAlloc.FirstSubslotGranted = (refl, lit< tt)
capacity-coded BasicSlotgrantCapAlloc.Grant1Slot = (refl, lit< tt)
capacity-coded BasicSlotgrantCapAlloc.Grant2Slots = (refl, lit< tt)
capacity-coded BasicSlotgrantCapAlloc.Grant3Slots = (refl, lit< tt)
capacity-coded BasicSlotgrantCapAlloc.Grant4Slots = (refl, lit< tt)
capacity-coded BasicSlotgrantCapAlloc.Grant5Slots = (refl, lit< tt)
capacity-coded BasicSlotgrantCapAlloc.Grant6Slots = (refl, lit< tt)
capacity-coded BasicSlotgrantCapAlloc.Grant8Slots = (refl, lit< tt)
capacity-coded BasicSlotgrantCapAlloc.Grant10Slots = (refl, lit< tt)
capacity-coded BasicSlotgrantCapAlloc.Grant13Slots = (refl, lit< tt)
capacity-coded BasicSlotgrantCapAlloc.Grant17Slots = (refl, lit< tt)
capacity-coded BasicSlotgrantCapAlloc.Grant24Slots = (refl, lit< tt)
capacity-coded BasicSlotgrantCapAlloc.Grant34Slots = (refl, lit< tt)
capacity-coded BasicSlotgrantCapAlloc.Grant51Slots = (refl, lit< tt)
capacity-coded BasicSlotgrantCapAlloc.Grant68Slots = (refl, lit< tt)
capacity-coded BasicSlotgrantCapAlloc.SecondSubslotGranted = (refl, lit< tt)

-- each plain delay is the case of its code; a code has four bits
pub delay-of-its-code : {d : BasicSlotgrantGrantingDelay} → Plain d → delay_at (delay_code d) ≡ d
delay-of-its-code next = refl
delay-of-its-code (after {n} p h) = rw (nearest-within n p h) (delay-of-n n p h)
delay-of-its-code frame18 = refl
delay-of-its-code wait = refl

pub delay-code-below-16 : (d : BasicSlotgrantGrantingDelay) → delay_code d < 16
delay-code-below-16 CapAllocAtNextOpportunity = lit< tt
delay-code-below-16 (DelayNOpportunities n) = omega arith
delay-code-below-16 AllocStartsAtOpportunityInFr18 = lit< tt
delay-code-below-16 WaitForAnotherSlotgrantMessage = lit< tt

pub capacity-of-its-code : (c : BasicSlotgrantCapAlloc) → capacity_at (capacity_code c) ≡ c
capacity-of-its-code c = (capacity-coded c).0

pub capacity-code-below-16 : (c : BasicSlotgrantCapAlloc) → capacity_code c < 16
capacity-code-below-16 c = (capacity-coded c).1

pub capacity-code-of-read : (code : ℕ) → code < 16 → capacity_code (capacity_at code) ≡ code
capacity-code-of-read = agree-below (λ k. capacity_code (capacity_at k)) (λ k. k) 16 refl

pub delay-code-of-read : (code : ℕ) → code < 16 → delay_code (delay_at code) ≡ code
delay-code-of-read = agree-below (λ k. delay_code (delay_at k)) (λ k. k) 16 refl

pub capacity-read-back : (c : BasicSlotgrantCapAlloc) → capacity_read (capacity_code c) ≡ Ok c
capacity-read-back c = code-read-back capacity_at capacity_code c (capacity-code-below-16 c) (capacity-of-its-code c)

pub delay-read-back : {d : BasicSlotgrantGrantingDelay} → Plain d → delay_read (delay_code d) ≡ Ok d
delay-read-back {d} p = code-read-back delay_at delay_code d (delay-code-below-16 d) (delay-of-its-code p)

-- the octet of the grant of two codes holds them
pub octet-of-codes : (c d : ℕ) → c < 16 → d < 16 → octet_of (grant_of c d) ≡ grant_octet c d
octet-of-codes c d h g = rw (capacity-code-of-read c h, delay-code-of-read d g)

-- every octet has exactly one reading, and its code is that octet
pub octet-of-grant-read : (octet : ℕ) → octet < 256 → octet_of (grant_at octet) ≡ octet
octet-of-grant-read octet h = octet-of-codes (octet / 16) (octet % 16) (omega arith) (omega arith) ∙ octet-of-its-halves octet

-- a grant with a plain delay is read back from its octet
pub grant-read-back : (g : BasicSlotgrant) → Plain g.granting_delay → grant_at (octet_of g) ≡ g
grant-read-back g p =
    rw (
      capacity-in-octet (capacity_code g.capacity_allocation) (delay_code g.granting_delay) (delay-code-below-16 g.granting_delay),
      delay-in-octet (capacity_code g.capacity_allocation) (delay_code g.granting_delay) (delay-code-below-16 g.granting_delay),
      capacity-of-its-code,
      delay-of-its-code p,
    )
