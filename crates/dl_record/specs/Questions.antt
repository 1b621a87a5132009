-- Document 01, "Questions put to each call", 1 and 5 to 7 for one record. Assumes nothing.
use Rattle.std.specs.Prelude.{Bool, not, ◌&&◌, List, ℕ, ◌*◌, leb, eqb, length}
use Rattle.sizes.specs.Sizes.{sdu_bits}
use Rattle.mac_pdus.specs.Legal.{absent, fits, opt_fits, legal_queued}
use Rattle.dl_record.specs.declared.Record.{Record}
use Rattle.dl_record.specs.declared.QueuedHeader.{QueuedHeader}
use Rattle.dl_record.specs.declared.Kind.{Kind}
use Rattle.dl_record.specs.Kind.{is_grant}
use Rattle.dl_record.specs.Record.{resource_of}

-- "5. Address kind 0–2 and number below 2^24?"
unfoldable pub legal_address : ℕ → ℕ → Bool
legal_address kind n = leb kind 2 && fits 24 n

-- "7. SDU at most 2,048 bits and present in the lent octets?"
unfoldable pub present_sdu : ℕ → List ℕ → Bool
present_sdu bits octets = leb bits sdu_bits && leb bits (8 * length octets)

-- every part of a header but the grant and the marker 0 or absent
unfoldable pub header_holds_grant_only : QueuedHeader → Bool
header_holds_grant_only h =
    eqb h.pos_of_grant 0 && eqb h.encryption_mode 0 && eqb h.random_access_flag 0 && absent h.event_label
    && absent h.power_control_element && absent h.chan_alloc_element

-- no SDU, no tag, and such a header
unfoldable pub holds_grant_only : Record → Bool
holds_grant_only r = eqb r.bits 0 && eqb r.sent 0 && absent r.tag && header_holds_grant_only r.header

-- "A grant or ack holds only its address, a grant its octet and marker too"; "stored records passing 5–7, sent bits within the SDU and 0 unless started"
abbrev pub sound_as : Kind → Record → Bool
sound_as Kind.Grant r =
    holds_grant_only r && not (absent r.header.slot_granting_element) && opt_fits 8 r.header.slot_granting_element
    && opt_fits 6 r.header.usage_marker
sound_as Kind.Ack r = holds_grant_only r && absent r.header.slot_granting_element && absent r.header.usage_marker
sound_as Kind.Record r = legal_queued (resource_of r 0 0) && leb r.bits sdu_bits && eqb r.sent 0
sound_as Kind.Waiting r = legal_queued (resource_of r 0 0) && leb r.bits sdu_bits && eqb r.sent 0
sound_as Kind.Started r = legal_queued (resource_of r 0 0) && leb r.bits sdu_bits && leb r.sent r.bits

-- the record of a filled place
unfoldable pub sound_record : Record → Bool
sound_record r = legal_address r.address.kind r.address.number && sound_as r.kind r

-- the record of a place that is not filled: the empty record, as a test
unfoldable pub is_empty : Record → Bool
is_empty r =
    is_grant r.kind && eqb r.address.kind 0 && eqb r.address.number 0 && holds_grant_only r && absent r.header.slot_granting_element
    && absent r.header.usage_marker
