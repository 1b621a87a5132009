-- Which headers are legal (document 01, question 6), and what an offered header is on the air. Assumes nothing.
use Rattle.std.specs.Prelude.{Bool, true, false, not, ◌&&◌, ◌||◌, ℕ, ◌^◌, ltb, eqb, Option, Some, None}
use Rattle.mac_pdus.specs.declared.Address.{Address}
use Rattle.mac_pdus.specs.declared.AddressKind.{AddressKind}
use Rattle.mac_pdus.specs.declared.ChanAllocElement.{ChanAllocElement}
use Rattle.mac_pdus.specs.declared.ResourceHeader.{ResourceHeader}
use Rattle.mac_pdus.specs.declared.MacResource.{MacResource}

-- ---- single fields

-- a number of w bits
abbrev pub fits : ℕ → ℕ → Bool
fits w v = ltb v (2 ^ w)

abbrev pub absent : {A : Type 0} → Option A → Bool
absent None = true
absent (Some v) = false

abbrev pub absent_or : {A : Type 0} → (A → Bool) → Option A → Bool
absent_or holds None = true
absent_or holds (Some v) = holds v

abbrev pub opt_below : ℕ → Option ℕ → Bool
opt_below limit o = absent_or (λ v. ltb v limit) o

abbrev pub opt_fits : ℕ → Option ℕ → Bool
opt_fits w o = opt_below (2 ^ w) o

abbrev pub label_fits : Option ℕ → Bool
label_fits o = opt_fits 10 o

-- a kind of address; without one a label alone, or the null PDU
abbrev pub has_address : Option AddressKind → Bool
has_address None = false
has_address (Some k) = true

-- ---- "Header legal?"

-- "the frame-18 pattern as laid out": "present exactly if the pattern is 0"
abbrev pub legal_frame18 : ℕ → Option ℕ → Bool
legal_frame18 pattern None = ltb 0 pattern
legal_frame18 pattern (Some f) = eqb pattern 0 && fits 2 f

-- "no extended carrier or augmented allocation (direction code 0)"
unfoldable pub legal_chan_alloc : ChanAllocElement → Bool
legal_chan_alloc c =
    fits 2 c.alloc_type && fits 4 c.ts_assigned && fits 2 c.ul_dl_assigned && ltb 0 c.ul_dl_assigned && fits 1 c.clch_permission
    && fits 1 c.cell_change_flag && fits 12 c.carrier_num && eqb c.ext_carrier_num_flag 0 && fits 2 c.mon_pattern
    && legal_frame18 c.mon_pattern c.frame18_mon_pattern

abbrev pub legal_opt_chan_alloc : Option ChanAllocElement → Bool
legal_opt_chan_alloc o = absent_or legal_chan_alloc o

-- "Every field within its width"
unfoldable pub within_widths : MacResource → Bool
within_widths h =
    fits 1 h.fill_bits && fits 1 h.pos_of_grant && fits 2 h.encryption_mode && fits 1 h.random_access_flag && fits 6 h.length_ind
    && fits 24 h.number && label_fits h.event_label && opt_fits 6 h.usage_marker && opt_fits 4 h.power_control_element
    && opt_fits 8 h.slot_granting_element

-- "in a null all but the length 0 or absent"
unfoldable pub all_absent : MacResource → Bool
all_absent h =
    eqb h.fill_bits 0 && eqb h.pos_of_grant 0 && eqb h.encryption_mode 0 && eqb h.random_access_flag 0
    && absent h.power_control_element && absent h.slot_granting_element && absent h.chan_alloc_element

-- "encryption 0 with an address; a marker only with an address and no label; in a null all but the length 0 or absent": a null has neither address nor
-- label. Without an address there is no number either
unfoldable pub legal_parts : MacResource → Bool
legal_parts h =
    (not (has_address h.address_kind) || eqb h.encryption_mode 0)
    && (absent h.usage_marker || has_address h.address_kind && absent h.event_label)
    && (has_address h.address_kind || not (absent h.event_label) || all_absent h)
    && (has_address h.address_kind || eqb h.number 0)

-- question 6, but for what differs between its callers
unfoldable pub legal_fields : MacResource → Bool
legal_fields h = within_widths h && legal_opt_chan_alloc h.chan_alloc_element && legal_parts h

-- "also takes USSI, without label or marker, and SMI, without marker"
abbrev pub parts_to_write : Option AddressKind → Option ℕ → Option ℕ → Bool
parts_to_write None label marker = true
parts_to_write (Some AddressKind.Ssi) label marker = true
parts_to_write (Some AddressKind.Gssi) label marker = true
parts_to_write (Some AddressKind.Issi) label marker = true
parts_to_write (Some AddressKind.Ussi) label marker = absent label && absent marker
parts_to_write (Some AddressKind.Smi) label marker = absent marker

-- "The lone writer wants a length above 0, and also takes USSI, .. and SMI"
unfoldable pub legal_to_write : MacResource → Bool
legal_to_write h = legal_fields h && ltb 0 h.length_ind && parts_to_write h.address_kind h.event_label h.usage_marker

-- "address kind (0 SSI, 1 GSSI, 2 ISSI)"
abbrev pub queued_kind : Option AddressKind → Bool
queued_kind None = false
queued_kind (Some AddressKind.Ssi) = true
queued_kind (Some AddressKind.Gssi) = true
queued_kind (Some AddressKind.Issi) = true
queued_kind (Some AddressKind.Ussi) = false
queued_kind (Some AddressKind.Smi) = false

-- "in a queued record an address and no label"
unfoldable pub legal_queued : MacResource → Bool
legal_queued h = legal_fields h && queued_kind h.address_kind && absent h.event_label

-- "in one offered to the queue no grant"
unfoldable pub legal_offered : MacResource → Bool
legal_offered h = legal_queued h && absent h.slot_granting_element

-- a queued header with what the builder works out: "header (without length and fill, which the builder works out)"
unfoldable pub with_length : MacResource → ℕ → ℕ → MacResource
with_length h fill length =
    record {
      fill_bits = fill;
      pos_of_grant = h.pos_of_grant;
      encryption_mode = h.encryption_mode;
      random_access_flag = h.random_access_flag;
      length_ind = length;
      address_kind = h.address_kind;
      number = h.number;
      event_label = h.event_label;
      usage_marker = h.usage_marker;
      power_control_element = h.power_control_element;
      slot_granting_element = h.slot_granting_element;
      chan_alloc_element = h.chan_alloc_element;
    }

-- ---- on the air

-- GSSI and ISSI are written as SSI, type 1, or 5 with a label, or 6 with a marker
abbrev pub ssi_on_air : ℕ → Option ℕ → Option ℕ → Address
ssi_on_air n None None = Address.Ssi n
ssi_on_air n None (Some m) = Address.SsiUsageMarker n m
ssi_on_air n (Some e) marker = Address.SsiEventLabel n e

abbrev pub smi_on_air : ℕ → Option ℕ → Address
smi_on_air n None = Address.Smi n
smi_on_air n (Some e) = Address.SmiEventLabel n e

abbrev pub label_on_air : Option ℕ → Address
label_on_air None = Address.Null
label_on_air (Some e) = Address.EventLabel e

unfoldable pub address_on_air : Option AddressKind → ℕ → Option ℕ → Option ℕ → Address
address_on_air None n label marker = label_on_air label
address_on_air (Some AddressKind.Ssi) n label marker = ssi_on_air n label marker
address_on_air (Some AddressKind.Gssi) n label marker = ssi_on_air n label marker
address_on_air (Some AddressKind.Issi) n label marker = ssi_on_air n label marker
address_on_air (Some AddressKind.Ussi) n label marker = Address.Ussi n
address_on_air (Some AddressKind.Smi) n label marker = smi_on_air n label

-- the header that is written for an offered one
unfoldable pub on_air : MacResource → ResourceHeader
on_air h =
    record {
      fill_bits = h.fill_bits;
      pos_of_grant = h.pos_of_grant;
      encryption_mode = h.encryption_mode;
      random_access_flag = h.random_access_flag;
      length_ind = h.length_ind;
      address = address_on_air h.address_kind h.number h.event_label h.usage_marker;
      power_control_element = h.power_control_element;
      slot_granting_element = h.slot_granting_element;
      chan_alloc_element = h.chan_alloc_element;
    }

-- ---- and back: address types 1, 5 and 6 are read as SSI, since the kind is not on the air

abbrev pub kind_of : Address → Option AddressKind
kind_of Address.Null = None
kind_of (Address.Ssi n) = Some AddressKind.Ssi
kind_of (Address.EventLabel e) = None
kind_of (Address.Ussi n) = Some AddressKind.Ussi
kind_of (Address.Smi n) = Some AddressKind.Smi
kind_of (Address.SsiEventLabel n e) = Some AddressKind.Ssi
kind_of (Address.SsiUsageMarker n m) = Some AddressKind.Ssi
kind_of (Address.SmiEventLabel n e) = Some AddressKind.Smi

abbrev pub number_of : Address → ℕ
number_of Address.Null = 0
number_of (Address.Ssi n) = n
number_of (Address.EventLabel e) = 0
number_of (Address.Ussi n) = n
number_of (Address.Smi n) = n
number_of (Address.SsiEventLabel n e) = n
number_of (Address.SsiUsageMarker n m) = n
number_of (Address.SmiEventLabel n e) = n

abbrev pub label_of : Address → Option ℕ
label_of Address.Null = None
label_of (Address.Ssi n) = None
label_of (Address.EventLabel e) = Some e
label_of (Address.Ussi n) = None
label_of (Address.Smi n) = None
label_of (Address.SsiEventLabel n e) = Some e
label_of (Address.SsiUsageMarker n m) = None
label_of (Address.SmiEventLabel n e) = Some e

abbrev pub usage_marker_of : Address → Option ℕ
usage_marker_of Address.Null = None
usage_marker_of (Address.Ssi n) = None
usage_marker_of (Address.EventLabel e) = None
usage_marker_of (Address.Ussi n) = None
usage_marker_of (Address.Smi n) = None
usage_marker_of (Address.SsiEventLabel n e) = None
usage_marker_of (Address.SsiUsageMarker n m) = Some m
usage_marker_of (Address.SmiEventLabel n e) = None

-- a header of the air as a caller offers it
unfoldable pub offered : ResourceHeader → MacResource
offered r =
    record {
      fill_bits = r.fill_bits;
      pos_of_grant = r.pos_of_grant;
      encryption_mode = r.encryption_mode;
      random_access_flag = r.random_access_flag;
      length_ind = r.length_ind;
      address_kind = kind_of r.address;
      number = number_of r.address;
      event_label = label_of r.address;
      usage_marker = usage_marker_of r.address;
      power_control_element = r.power_control_element;
      slot_granting_element = r.slot_granting_element;
      chan_alloc_element = r.chan_alloc_element;
    }

-- the header that comes back for an offered one: the air does not tell GSSI and ISSI from SSI
abbrev pub read_kind : Option AddressKind → Option AddressKind
read_kind None = None
read_kind (Some AddressKind.Ssi) = Some AddressKind.Ssi
read_kind (Some AddressKind.Gssi) = Some AddressKind.Ssi
read_kind (Some AddressKind.Issi) = Some AddressKind.Ssi
read_kind (Some AddressKind.Ussi) = Some AddressKind.Ussi
read_kind (Some AddressKind.Smi) = Some AddressKind.Smi

unfoldable pub as_read : MacResource → MacResource
as_read h =
    record {
      fill_bits = h.fill_bits;
      pos_of_grant = h.pos_of_grant;
      encryption_mode = h.encryption_mode;
      random_access_flag = h.random_access_flag;
      length_ind = h.length_ind;
      address_kind = read_kind h.address_kind;
      number = h.number;
      event_label = h.event_label;
      usage_marker = h.usage_marker;
      power_control_element = h.power_control_element;
      slot_granting_element = h.slot_granting_element;
      chan_alloc_element = h.chan_alloc_element;
    }

-- "a header the lone writer would take" (question 12)
unfoldable pub writer_takes : ResourceHeader → Bool
writer_takes r = legal_to_write (offered r)
