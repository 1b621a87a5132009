-- The headers of the downlink signalling PDUs as rows of fields, and how they are read: EN 300 392-2, clauses 21.4.3.1 to 21.4.3.3, 21.5.2 and 21.5.6;
-- document 01, section "Block". A field of w bits is `value_bits w`, most significant bit first. Assumes nothing.
use Rattle.std.specs.Prelude.{ℕ, zero, suc, ◌+◌, List, [], ◌++◌, Option, Some, None}
use Rattle.bitbuffer.specs.Bits.{value_bits, field}
use Rattle.mac_pdus.specs.declared.Address.{Address}
use Rattle.mac_pdus.specs.declared.Address.TheVariants.{Null, Ssi, EventLabel, Ussi, Smi, SsiEventLabel, SsiUsageMarker, SmiEventLabel}
use Rattle.mac_pdus.specs.declared.ChanAllocElement.{ChanAllocElement}
use Rattle.mac_pdus.specs.declared.ResourceHeader.{ResourceHeader}
use Rattle.mac_pdus.specs.declared.MacFragDl.{MacFragDl}
use Rattle.mac_pdus.specs.declared.MacEndDl.{MacEndDl}
use Rattle.mac_pdus.specs.declared.PduHeader.{PduHeader}

-- the first where the number is 0, else the second
abbrev pub if_zero {ℓ} : {X : Type ℓ} → ℕ → X → X → X
if_zero zero a b = a
if_zero (suc n) a b = b

-- ---- an optional element: a flag of one bit, then the element if the flag is 1

abbrev pub optional_bits : {A : Type 0} → (A → List ℕ) → Option A → List ℕ
optional_bits bits None = value_bits 1 0
optional_bits bits (Some v) = value_bits 1 1 ++ bits v

abbrev pub optional_at {ℓ} : {A : Type 0} {X : Type ℓ} → (List ℕ → ℕ → (A → ℕ → X) → X) → List ℕ → ℕ → (Option A → ℕ → X) → X
optional_at element_at l at k = field l at 1 λ flag at. if_zero flag (k None at) (element_at l at λ v at. k (Some v) at)

-- a number of `w` bits
unfoldable pub opt_bits : ℕ → Option ℕ → List ℕ
opt_bits w m = optional_bits (value_bits w) m

unfoldable pub opt_at {ℓ} : {X : Type ℓ} → ℕ → List ℕ → ℕ → (Option ℕ → ℕ → X) → X
opt_at w l at k = optional_at (λ l at k. field l at w k) l at k

-- ---- the address (21.4.3.1, "Address type" and "Address")

-- "Address types: 0 null, 1 SSI, 2 event label, 3 USSI, 4 SMI, 5 SSI and label, 6 SSI and marker, 7 SMI and label."
unfoldable pub address_type : Address → ℕ
address_type Null = 0
address_type (Ssi a) = 1
address_type (EventLabel e) = 2
address_type (Ussi a) = 3
address_type (Smi a) = 4
address_type (SsiEventLabel a e) = 5
address_type (SsiUsageMarker a m) = 6
address_type (SmiEventLabel a e) = 7

-- "three address-type bits; then the address (24), event label (10) or marker (6)"
unfoldable pub address_bits : Address → List ℕ
address_bits Null = value_bits 3 0
address_bits (Ssi a) = value_bits 3 1 ++ value_bits 24 a
address_bits (EventLabel e) = value_bits 3 2 ++ value_bits 10 e
address_bits (Ussi a) = value_bits 3 3 ++ value_bits 24 a
address_bits (Smi a) = value_bits 3 4 ++ value_bits 24 a
address_bits (SsiEventLabel a e) = value_bits 3 5 ++ (value_bits 24 a ++ value_bits 10 e)
address_bits (SsiUsageMarker a m) = value_bits 3 6 ++ (value_bits 24 a ++ value_bits 6 m)
address_bits (SmiEventLabel a e) = value_bits 3 7 ++ (value_bits 24 a ++ value_bits 10 e)

-- the address of each type; three bits write no type above 7
abbrev pub address_of {ℓ} : {X : Type ℓ} → ℕ → List ℕ → ℕ → (Address → ℕ → X) → X
address_of zero l at k = k Null at
address_of (suc zero) l at k = field l at 24 λ a at. k (Ssi a) at
address_of (suc (suc zero)) l at k = field l at 10 λ e at. k (EventLabel e) at
address_of (suc (suc (suc zero))) l at k = field l at 24 λ a at. k (Ussi a) at
address_of (suc (suc (suc (suc zero)))) l at k = field l at 24 λ a at. k (Smi a) at
address_of (suc (suc (suc (suc (suc zero))))) l at k = field l at 24 λ a at. field l at 10 λ e at. k (SsiEventLabel a e) at
address_of (suc (suc (suc (suc (suc (suc zero)))))) l at k = field l at 24 λ a at. field l at 6 λ m at. k (SsiUsageMarker a m) at
address_of (suc (suc (suc (suc (suc (suc (suc zero))))))) l at k = field l at 24 λ a at. field l at 10 λ e at. k (SmiEventLabel a e) at
address_of (suc (suc (suc (suc (suc (suc (suc (suc n)))))))) l at k = k Null at

unfoldable pub address_at {ℓ} : {X : Type ℓ} → List ℕ → ℕ → (Address → ℕ → X) → X
address_at l at k = field l at 3 λ t at. address_of t l at k

-- ---- the channel allocation element (21.5.2)

-- the frame-18 monitoring pattern (2), where there is one
abbrev pub frame18_bits : Option ℕ → List ℕ
frame18_bits None = []
frame18_bits (Some f) = value_bits 2 f

-- "channel allocation (25, or 27 with frame-18 pattern, present exactly if the pattern is 0)": allocation type (2), timeslots assigned (4), up/downlink
-- assigned (2), CLCH permission (1), cell change (1), carrier number (12), extended carrier numbering flag (1; question 6 keeps it 0, so nothing more of
-- it follows), monitoring pattern (2), frame-18 monitoring pattern (2)
unfoldable pub chan_alloc_bits : ChanAllocElement → List ℕ
chan_alloc_bits c =
    value_bits 2 c.alloc_type ++ (value_bits 4 c.ts_assigned ++ (value_bits 2 c.ul_dl_assigned ++ (value_bits 1 c.clch_permission
    ++ (value_bits 1 c.cell_change_flag ++ (value_bits 12 c.carrier_num ++ (value_bits 1 c.ext_carrier_num_flag
    ++ (value_bits 2 c.mon_pattern ++ frame18_bits c.frame18_mon_pattern)))))))

abbrev pub frame18_at {ℓ} : {X : Type ℓ} → ℕ → List ℕ → ℕ → (Option ℕ → ℕ → X) → X
frame18_at pattern l at k = if_zero pattern (field l at 2 λ f at. k (Some f) at) (k None at)

unfoldable pub chan_alloc_at {ℓ} : {X : Type ℓ} → List ℕ → ℕ → (ChanAllocElement → ℕ → X) → X
chan_alloc_at l at k =
    field l at 2 λ type at. field l at 4 λ slots at. field l at 2 λ direction at. field l at 1 λ clch at. field l at 1 λ cell at.
    field l at 12 λ carrier at. field l at 1 λ extended at. field l at 2 λ pattern at. frame18_at pattern l at λ frame18 at.
    k
    (record {
      alloc_type = type;
      ts_assigned = slots;
      ul_dl_assigned = direction;
      clch_permission = clch;
      cell_change_flag = cell;
      carrier_num = carrier;
      ext_carrier_num_flag = extended;
      mon_pattern = pattern;
      frame18_mon_pattern = frame18;
    })
    at

unfoldable pub opt_chan_alloc_bits : Option ChanAllocElement → List ℕ
opt_chan_alloc_bits a = optional_bits chan_alloc_bits a

unfoldable pub opt_chan_alloc_at {ℓ} : {X : Type ℓ} → List ℕ → ℕ → (Option ChanAllocElement → ℕ → X) → X
opt_chan_alloc_at l at k = optional_at (λ l at k. chan_alloc_at l at k) l at k

-- ---- MAC-RESOURCE (21.4.3.1)

-- "MAC-RESOURCE: type 00, fill, position of grant, two encryption bits, random access, six length bits"
unfoldable pub fixed_bits : ℕ → ℕ → ℕ → ℕ → ℕ → List ℕ
fixed_bits fill position encryption random length =
    value_bits 2 0 ++ (value_bits 1 fill ++ (value_bits 1 position ++ (value_bits 2 encryption ++ (value_bits 1 random ++ value_bits 6 length))))

-- "flags for power control (4), grant (8) and channel allocation": the grant is the octet of 21.5.6. A null, address type 0, ends with its type
unfoldable pub elements_bits : ℕ → Option ℕ → Option ℕ → Option ChanAllocElement → List ℕ
elements_bits type power grant alloc = if_zero type [] (opt_bits 4 power ++ (opt_bits 8 grant ++ opt_chan_alloc_bits alloc))

unfoldable pub elements_at {ℓ} : {X : Type ℓ} → ℕ → List ℕ → ℕ → (Option ℕ → Option ℕ → Option ChanAllocElement → ℕ → X) → X
elements_at type l at k =
    if_zero type (k None None None at)
    (opt_at 4 l at λ power at. opt_at 8 l at λ grant at. opt_chan_alloc_at l at λ alloc at. k power grant alloc at)

unfoldable pub resource_bits : ResourceHeader → List ℕ
resource_bits r =
    fixed_bits r.fill_bits r.pos_of_grant r.encryption_mode r.random_access_flag r.length_ind
    ++ (address_bits r.address
    ++ elements_bits (address_type r.address) r.power_control_element r.slot_granting_element r.chan_alloc_element)

-- the header whose fields behind its type stand at `at` of the bits `l`, given to `k` with the position after it
abbrev pub resource_fields_at {ℓ} : {X : Type ℓ} → List ℕ → ℕ → (ResourceHeader → ℕ → X) → X
resource_fields_at l at k =
    field l at 1 λ fill at. field l at 1 λ position at. field l at 2 λ encryption at. field l at 1 λ random at.
    field l at 6 λ length at. address_at l at λ address at. elements_at (address_type address) l at λ power grant alloc at.
    k
    (record {
      fill_bits = fill;
      pos_of_grant = position;
      encryption_mode = encryption;
      random_access_flag = random;
      length_ind = length;
      address = address;
      power_control_element = power;
      slot_granting_element = grant;
      chan_alloc_element = alloc;
    })
    at

-- the header at `at`
unfoldable pub resource_at {ℓ} : {X : Type ℓ} → List ℕ → ℕ → (ResourceHeader → ℕ → X) → X
resource_at l at k = field l at 2 λ t at. resource_fields_at l at k

-- "a null PDU (octets 00 10 hexadecimal)"
abbrev pub null_header : ResourceHeader
null_header =
    record {
      fill_bits = 0;
      pos_of_grant = 0;
      encryption_mode = 0;
      random_access_flag = 0;
      length_ind = 2;
      address = Null;
      power_control_element = None;
      slot_granting_element = None;
      chan_alloc_element = None;
    }

-- ---- MAC-FRAG (21.4.3.2) and MAC-END (21.4.3.3)

-- "MAC-FRAG: 01, 0, fill"
unfoldable pub frag_bits : MacFragDl → List ℕ
frag_bits f = value_bits 2 1 ++ (value_bits 1 0 ++ value_bits 1 f.fill_bits)

-- "MAC-END: 13 bits, 01, 1, fill, position, length (rounded up), two flags 0": the flags of slot grant and channel allocation
unfoldable pub end_bits : MacEndDl → List ℕ
end_bits e =
    value_bits 2 1
    ++ (value_bits 1 1 ++ (value_bits 1 e.fill_bits ++ (value_bits 1 e.pos_of_grant
    ++ (value_bits 6 e.length_ind ++ (value_bits 1 0 ++ value_bits 1 0)))))

unfoldable pub header_bits : PduHeader → List ℕ
header_bits (PduHeader.Resource r) = resource_bits r
header_bits (PduHeader.Frag f) = frag_bits f
header_bits (PduHeader.End e) = end_bits e

-- ---- how many bits a MAC-RESOURCE header has

abbrev pub optional_length : {A : Type 0} → (A → ℕ) → Option A → ℕ
optional_length size None = 1
optional_length size (Some v) = 1 + size v

abbrev pub opt_length : ℕ → Option ℕ → ℕ
opt_length w m = optional_length (λ v. w) m

abbrev pub address_length : Address → ℕ
address_length Null = 3
address_length (Ssi a) = 27
address_length (EventLabel e) = 13
address_length (Ussi a) = 27
address_length (Smi a) = 27
address_length (SsiEventLabel a e) = 37
address_length (SsiUsageMarker a m) = 33
address_length (SmiEventLabel a e) = 37

-- "channel allocation (25, or 27 with frame-18 pattern, ..)"
abbrev pub chan_alloc_length : Option ℕ → ℕ
chan_alloc_length None = 25
chan_alloc_length (Some f) = 27

abbrev pub opt_chan_alloc_length : Option ChanAllocElement → ℕ
opt_chan_alloc_length a = optional_length (λ c. chan_alloc_length c.frame18_mon_pattern) a

unfoldable pub header_length : ResourceHeader → ℕ
header_length r =
    13 + address_length r.address
    + if_zero (address_type r.address) 0
    (opt_length 4 r.power_control_element + opt_length 8 r.slot_granting_element + opt_chan_alloc_length r.chan_alloc_element)
