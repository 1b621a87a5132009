-- The codes of a capacity and a delay that are read are those in the octet. Assumes nothing.
use mathlib.Core.Path.{◌≡◌}
use native.Mathlib.Omega.{arith}
use Rattle.slot_codes.specs.Codes.{capacity_of, delay_of}
use Rattle.basic_slotgrant.specs.Slotgrant.{capacity_code, capacity_at, delay_code, delay_at}
use Rattle.basic_slotgrant.proofs.SlotgrantLaws.{capacity-code-of-read, delay-code-of-read}
use Rattle.blockdump.proofs.grant.MsGrantFromU8.from.Goals as goal

pub returns : goal.returns
returns c =
    let octet = c.args.octet in
    let capacity : capacity_code (capacity_at (capacity_of octet)) ≡ capacity_of octet = capacity-code-of-read _ (omega (arith, c.ranges.octet.fits)) in
    let delay : delay_code (delay_at (delay_of octet)) ≡ delay_of octet = delay-code-of-read _ (omega arith) in
    rw (c.into.ensures, c.to_req_slotcount.ensures, c.into-2.ensures.0, c.granted_slots.ensures, c.from-grant.ensures, capacity, delay)
