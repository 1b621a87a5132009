-- The null PDU as one number, and its bits. Assumes nothing.
use mathlib.Core.Path.{◌≡◌, refl, sym, ap, ◌∙◌}
use lib.ListN.{length}
use Rattle.bitbuffer.specs.Bits.{value_bits}
use Rattle.bitbuffer.proofs.Laws.{length-value_bits}
use Rattle.mac_pdus.specs.Headers.{address_type, address_bits, elements_bits, fixed_bits, resource_bits, null_header}

pub null_bits : value_bits 16 16 ≡ resource_bits null_header
unfolding resource_bits fixed_bits address_bits elements_bits address_type value_bits
null_bits = refl

pub null_size : length (resource_bits null_header) ≡ 16
null_size = ap length (sym null_bits) ∙ length-value_bits 16 16
