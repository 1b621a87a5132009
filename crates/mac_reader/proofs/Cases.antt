-- Document 01's example block and the null PDU, read by the definition. Assumes nothing.
use Rattle.std.proofs.Common.{Some, None}
use mathlib.Core.Path.{◌≡◌, refl}
use mathlib.Core.List.{List, [], ◌∷◌}
use Prim.Native.Nat.{ℕ}
use lib.ListN.{replicate}
use Rattle.sizes.specs.Sizes.{block_octets}
use Rattle.questions.specs.Questions.{ask}
use Rattle.bitbuffer.specs.Bits.{value_bits, bits_value, bits_of, part, field}
use Rattle.mac_pdus.specs.declared.Address.{Address}
use Rattle.mac_pdus.specs.declared.ResourceHeader.{ResourceHeader}
use Rattle.mac_pdus.specs.declared.PduHeader.{PduHeader}
use Rattle.mac_pdus.specs.Headers.{address_type, opt_at, address_at, opt_chan_alloc_at, elements_at, resource_at, null_header}
use Rattle.mac_pdus.specs.Legal.{within_widths, all_absent, legal_parts, legal_fields, legal_to_write, offered, writer_takes}
use Rattle.mac_reader.specs.Reader.{octets_inside, well_placed, resource_step, fragment_at, pdu_at, headers, read_pdus, block_pdus, reply_of, read_block}

-- "20390000014410001000..": the example's block
pub example-block : List ℕ
example-block = 0x20 ∷ 0x39 ∷ 0 ∷ 0 ∷ 1 ∷ 0x44 ∷ 0x10 ∷ 0 ∷ 0x10 ∷ replicate 25 0

-- a whole PDU of 56 bits with a grant of one slot, without delay, for the number 1
pub granted : ResourceHeader
granted =
    record {
      fill_bits = 1;
      pos_of_grant = 0;
      encryption_mode = 0;
      random_access_flag = 0;
      length_ind = 7;
      address = Address.Ssi 1;
      power_control_element = None;
      slot_granting_element = Some 0x10;
      chan_alloc_element = None;
    }

-- and the null behind it
pub example-read : read_block block_octets example-block
    ≡ reply_of (headers (record { at = 0; header = PduHeader.Resource granted } ∷ (record { at = 56; header = PduHeader.Resource null_header } ∷ [])))
unfolding read_block ask block_pdus read_pdus pdu_at resource_step well_placed octets_inside fragment_at resource_at address_at opt_at opt_chan_alloc_at
    elements_at address_type writer_takes offered legal_to_write legal_fields within_widths
    legal_parts all_absent field part bits_value bits_of value_bits example-block granted
example-read = refl

-- the null PDU published in the source, in a block of 124 bits; what stands behind it is not read
pub published-null : read_block 16 (0 ∷ 0x10 ∷ 0x80 ∷ replicate 13 0) ≡ reply_of (headers (record { at = 0; header = PduHeader.Resource null_header } ∷ []))
unfolding read_block ask block_pdus read_pdus pdu_at resource_step well_placed octets_inside fragment_at resource_at address_at opt_at opt_chan_alloc_at
    elements_at address_type writer_takes offered legal_to_write legal_fields within_widths
    legal_parts all_absent field part bits_value bits_of value_bits
published-null = refl
