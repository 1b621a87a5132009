-- How many bits a header with elements has, part by part. Assumes nothing.
use mathlib.Core.Path.{◌≡◌, ap}
use Prim.Native.Nat.{◌+◌}
use native.Mathlib.Omega.{arith}
use lib.ListN.{length}
use Rattle.mac_pdus.specs.declared.ResourceHeader.{ResourceHeader}
use Rattle.mac_pdus.specs.Headers.{address_type, opt_bits, address_bits, opt_chan_alloc_bits, fixed_bits, resource_bits}
use Rattle.mac_pdus.proofs.LengthLaws.{resource-length, elements-length, elements-other}

pub some-length : (r : ResourceHeader) → (address_type r.address ≡ 0 → ⊥)
    → length (resource_bits r)
    ≡ length (fixed_bits r.fill_bits r.pos_of_grant r.encryption_mode r.random_access_flag r.length_ind)
    + (length (address_bits r.address) + (length (opt_bits 4 r.power_control_element)
    + (length (opt_bits 8 r.slot_granting_element) + length (opt_chan_alloc_bits r.chan_alloc_element))))
some-length r some =
    let p = r.power_control_element in
    let g = r.slot_granting_element in
    let a = r.chan_alloc_element in
    omega (arith, resource-length r, ap length (elements-other (address_type r.address) p g a some), elements-length p g a)
