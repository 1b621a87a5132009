-- The header written for a record, with any fill bit and any length code: as long, within its widths, and one that the reader takes. Assumes nothing.
use mathlib.Core.Path.{◌≡◌, refl, sym, ◌∙◌}
use mathlib.Core.Bool.{true}
use Prim.Native.Nat.{ℕ, ◌+◌, ◌≤◌, ◌<◌}
use native.Mathlib.Omega.{arith}
use lib.ListN.{length}
use Rattle.mac_pdus.specs.declared.Address.{Address}
use Rattle.mac_pdus.specs.Headers.{if_zero, address_type, address_length, resource_bits, opt_length, opt_chan_alloc_length, header_length}
use Rattle.mac_pdus.specs.Within.{ResourceWithin}
use Rattle.mac_pdus.specs.Legal.{legal_to_write, legal_queued, with_length, on_air, writer_takes}
use Rattle.mac_pdus.proofs.LengthLaws.{header-size}
use Rattle.mac_pdus.proofs.LegalLaws.{legal-within, to_write, taken-on-air}
use Rattle.mac_pdus.proofs.QueuedLaws.{queued-to-write, queued-header-length}
use Rattle.dl_record.specs.declared.Record.{Record}
use Rattle.dl_record.specs.Record.{resource_of}
use Rattle.bs_frag.specs.NextPdu.{header_of, header_size}

-- ---- lengths

-- a header has as many bits, whatever its fill bit and its code
pub header-same : (r : Record) (f l : ℕ) → header_length (header_of r f l) ≡ header_size r
unfolding header_size header_of on_air header_length
header-same r f l = refl

pub header-bits : (r : Record) (f l : ℕ) → length (resource_bits (header_of r f l)) ≡ header_size r
header-bits r f l = sym (header-size (header_of r f l)) ∙ header-same r f l

-- "headers in the queue have 43 to 88 bits"
pub header-bounds : (r : Record) → legal_queued (resource_of r 0 0) ≡ true → (43 ≤ header_size r) × (header_size r ≤ 88)
unfolding header_size header_of
header-bounds r h = queued-header-length (resource_of r 0 0) h

-- ---- legal

header-to-write : (r : Record) (f l : ℕ) → legal_queued (resource_of r 0 0) ≡ true → f < 2 → 0 < l → l < 64 → legal_to_write (resource_of r f l) ≡ true
unfolding with_length
header-to-write r f l h hf h0 hl = queued-to-write (resource_of r 0 0) f l h hf h0 hl

-- it can be written
pub header-within : (r : Record) (f l : ℕ) → legal_queued (resource_of r 0 0) ≡ true → f < 2 → 0 < l → l < 64 → ResourceWithin (header_of r f l)
unfolding header_of
header-within r f l h hf h0 hl = legal-within (resource_of r f l) (to_write (resource_of r f l) (header-to-write r f l h hf h0 hl)).fields

-- the reader takes it
pub header-taken : (r : Record) (f l : ℕ) → legal_queued (resource_of r 0 0) ≡ true → f < 2 → 0 < l → l < 64 → writer_takes (header_of r f l) ≡ true
unfolding header_of
header-taken r f l h hf h0 hl = taken-on-air (resource_of r f l) (header-to-write r f l h hf h0 hl)

-- a header that is longer than a null's has an address
longer-typed : (a : Address) (n : ℕ) → 43 ≤ 13 + address_length a + if_zero (address_type a) 0 n → 0 < address_type a
unfolding address_type
longer-typed Address.Null n h = absurd (omega arith)
longer-typed (Address.Ssi x) n h = omega arith
longer-typed (Address.EventLabel x) n h = omega arith
longer-typed (Address.Ussi x) n h = omega arith
longer-typed (Address.Smi x) n h = omega arith
longer-typed (Address.SsiEventLabel x y) n h = omega arith
longer-typed (Address.SsiUsageMarker x y) n h = omega arith
longer-typed (Address.SmiEventLabel x y) n h = omega arith

pub header-address : (r : Record) (f l : ℕ) → legal_queued (resource_of r 0 0) ≡ true → 0 < address_type (header_of r f l).address
unfolding header_length
header-address r f l h =
    let x = header_of r f l in
    longer-typed x.address (opt_length 4 x.power_control_element + opt_length 8 x.slot_granting_element + opt_chan_alloc_length
    x.chan_alloc_element)
    (omega (arith, header-bounds r h, header-same r f l))
