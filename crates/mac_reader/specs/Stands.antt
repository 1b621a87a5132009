-- Which headers stand in the bits of a block, by the bits that are written for each: nothing here reads a field (document 01, section "Block" and
-- question 12). Assumes nothing.
use Rattle.std.specs.Prelude.{◌≡◌, true, ◌⊎◌, List, [], ◌∷◌, ℕ, ◌+◌, ◌*◌, ◌≤◌, ◌<◌, length, replicate, None}
use Rattle.bitbuffer.specs.Bits.{part}
use Rattle.mac_pdus.specs.declared.Address.{Address}
use Rattle.mac_pdus.specs.declared.ResourceHeader.{ResourceHeader}
use Rattle.mac_pdus.specs.declared.MacEndDl.{MacEndDl}
use Rattle.mac_pdus.specs.declared.PduHeader.{PduHeader}
use Rattle.mac_pdus.specs.Headers.{address_type, resource_bits, header_bits}
use Rattle.mac_pdus.specs.Legal.{writer_takes}
use Rattle.mac_reader.specs.declared.PlacedHeader.{PlacedHeader}
use Rattle.mac_reader.specs.PduList.{Addressed}

-- the header's bits are those of the block at its position; ".. and header inside the block"
pub record BitsStand (w : ℕ) (l : List ℕ) (at : ℕ) (h : PduHeader) : Type 0 where
  pub bits : part l at (length (header_bits h)) ≡ header_bits h
  pub inside : at + length (header_bits h) ≤ w

-- "codes 2–34", "PDU .. inside the block"
pub record Octets (w at code : ℕ) : Type 0 where
  pub low : 2 ≤ code
  pub high : code ≤ 34
  pub inside : at + 8 * code ≤ w

-- "A header may pass its own length by up to four bits at the block's end.": a header that ends at `after`, in a PDU whose octets end at `end`
abbrev pub HeaderInside : ℕ → ℕ → ℕ → Type 0
HeaderInside w after end = (after ≤ end) ⊎ ((end + 4 ≡ w) × (after ≤ end + 4))

-- a null, "a header the lone writer would take". Its 16 bits stand inside its octets
pub record NullStands (w at : ℕ) (r : ResourceHeader) : Type 0 where
  pub taken : writer_takes r ≡ true
  pub null : address_type r.address ≡ 0
  pub octets : Octets w at r.length_ind

-- "Code 63 starts a fragment", "63 not in MAC-END or a null"
pub record FirstStands (r : ResourceHeader) : Type 0 where
  pub sound : Addressed r
  pub code : r.length_ind ≡ 63

-- any other MAC-RESOURCE: "header inside its PDU but for those four bits"
pub record WholeStands (w at : ℕ) (r : ResourceHeader) : Type 0 where
  pub sound : Addressed r
  pub octets : Octets w at r.length_ind
  pub header : HeaderInside w (at + length (resource_bits r)) (at + 8 * r.length_ind)

-- "MAC-END: 13 bits, 01, 1, fill, position, length (rounded up), two flags 0"
pub record EndStands (w at : ℕ) (e : MacEndDl) : Type 0 where
  pub fill : e.fill_bits < 2
  pub position : e.pos_of_grant < 2
  pub octets : Octets w at e.length_ind

-- "lists headers by length code, null and MAC-FRAG too, and stops after a null, a code 63 or a MAC-FRAG": what holds of a header at `at`, and whether it
-- is the last, which is `last`, or the others stand from the end of its octets on, which is `others`
abbrev pub HeaderStands : ℕ → ℕ → PduHeader → Type 0 → (ℕ → Type 0) → Type 0
HeaderStands w at (PduHeader.Resource r) last others =
    (NullStands w at r × last) ⊎ ((FirstStands r × last) ⊎ (WholeStands w at r × others (at + 8 * r.length_ind)))
HeaderStands w at (PduHeader.Frag f) last others = (f.fill_bits < 2) × last
HeaderStands w at (PduHeader.End e) last others = EndStands w at e × others (at + 8 * e.length_ind)

-- these headers, and no others, stand in the bits `l` of a block of `w` bits from `at` on; "stops .. under 16 bits left"
unfoldable pub Stands : ℕ → List ℕ → ℕ → List PlacedHeader → Type 0
Stands w l at [] = w < at + 16
Stands w l at (p ∷ ps) =
    (p.at ≡ at) × (at + 16 ≤ w) × BitsStand w l at p.header × HeaderStands w at p.header (ps ≡ []) (λ next. Stands w l next ps)

-- these headers stand one behind the other from `at` up to `end`, and none of them is one after which the reader stops
unfoldable pub Leads : ℕ → List ℕ → ℕ → List PlacedHeader → ℕ → Type 0
Leads w l at [] end = at ≡ end
Leads w l at (p ∷ ps) end =
    (p.at ≡ at) × (at + 16 ≤ w) × BitsStand w l at p.header × HeaderStands w at p.header ⊥ (λ next. Leads w l next ps end)

-- "the block's last four bits zero"
abbrev pub EndsInZeros : ℕ → List ℕ → Type 0
EndsInZeros w l = part l w 4 ≡ replicate 4 0

-- a null of any length: "in a null all but the length 0 or absent"
abbrev pub null_of : ℕ → ResourceHeader
null_of code =
    record {
      fill_bits = 0;
      pos_of_grant = 0;
      encryption_mode = 0;
      random_access_flag = 0;
      length_ind = code;
      address = Address.Null;
      power_control_element = None;
      slot_granting_element = None;
      chan_alloc_element = None;
    }
