-- Document 01, "Queued record": the record, and the header that is built of it. Assumes nothing.
use Rattle.std.specs.Prelude.{ℕ, zero, suc, Option, Some, None}
use Rattle.mac_pdus.specs.declared.AddressKind.{AddressKind}
use Rattle.mac_pdus.specs.declared.MacResource.{MacResource}
use Rattle.dl_record.specs.declared.Record.{Record}
use Rattle.dl_record.specs.declared.QueuedHeader.{QueuedHeader}
use Rattle.dl_record.specs.declared.Kind.{Kind}

abbrev pub empty_header : QueuedHeader
empty_header =
    record {
      pos_of_grant = 0;
      encryption_mode = 0;
      random_access_flag = 0;
      event_label = None;
      usage_marker = None;
      power_control_element = None;
      slot_granting_element = None;
      chan_alloc_element = None;
    }

-- "the empty record (kind grant, all else 0 or absent)"
abbrev pub empty_record : Record
empty_record = record { kind = Kind.Grant; address = record { kind = 0; number = 0 }; tag = None; header = empty_header; bits = 0; sent = 0 }

-- a header that holds nothing but a grant and a marker
abbrev pub grant_header : ℕ → Option ℕ → Option ℕ → QueuedHeader
grant_header flag marker grant =
    record {
      pos_of_grant = 0;
      encryption_mode = 0;
      random_access_flag = flag;
      event_label = None;
      usage_marker = marker;
      power_control_element = None;
      slot_granting_element = grant;
      chan_alloc_element = None;
    }

-- "A grant or ack holds only its address, a grant its octet and marker too."
abbrev pub grant_record : ℕ → ℕ → ℕ → Option ℕ → Record
grant_record kind n octet marker =
    record { kind = Kind.Grant; address = record { kind = kind; number = n }; tag = None; header = grant_header 0 marker (Some octet); bits = 0; sent = 0 }

abbrev pub ack_record : ℕ → ℕ → Record
ack_record kind n = record { kind = Kind.Ack; address = record { kind = kind; number = n }; tag = None; header = empty_header; bits = 0; sent = 0 }

-- a record as it is offered to the queue
abbrev pub offered_record : ℕ → ℕ → Option ℕ → QueuedHeader → ℕ → Record
offered_record kind n t h size = record { kind = Kind.Record; address = record { kind = kind; number = n }; tag = t; header = h; bits = size; sent = 0 }

-- "address kind (0 SSI, 1 GSSI, 2 ISSI)"
abbrev pub address_kind_of : ℕ → AddressKind
address_kind_of zero = AddressKind.Ssi
address_kind_of (suc zero) = AddressKind.Gssi
address_kind_of (suc (suc n)) = AddressKind.Issi

-- "header (without length and fill, which the builder works out)": the MAC-RESOURCE that it becomes with a fill bit and a length code
abbrev pub resource_of : Record → ℕ → ℕ → MacResource
resource_of r fill len =
    record {
      fill_bits = fill;
      pos_of_grant = r.header.pos_of_grant;
      encryption_mode = r.header.encryption_mode;
      random_access_flag = r.header.random_access_flag;
      length_ind = len;
      address_kind = Some (address_kind_of r.address.kind);
      number = r.address.number;
      event_label = r.header.event_label;
      usage_marker = r.header.usage_marker;
      power_control_element = r.header.power_control_element;
      slot_granting_element = r.header.slot_granting_element;
      chan_alloc_element = r.header.chan_alloc_element;
    }
