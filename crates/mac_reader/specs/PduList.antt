-- A block as it is built: a list of PDUs, one behind the other (document 01, section "Block"). Assumes nothing.
use Rattle.std.specs.Prelude.{◌≡◌, true, ◌⊎◌, ℕ, ◌+◌, ◌*◌, ◌/◌, ◌<◌, ◌≤◌, List, [], ◌∷◌, ◌++◌, length}
use Rattle.mac_pdus.specs.declared.ResourceHeader.{ResourceHeader}
use Rattle.mac_pdus.specs.declared.MacFragDl.{MacFragDl}
use Rattle.mac_pdus.specs.declared.MacEndDl.{MacEndDl}
use Rattle.mac_pdus.specs.declared.PduHeader.{PduHeader}
use Rattle.mac_pdus.specs.Headers.{address_type, header_bits, null_header}
use Rattle.mac_pdus.specs.Legal.{writer_takes}
use Rattle.mac_reader.specs.declared.PlacedHeader.{PlacedHeader}

-- a PDU: its header, and the bits behind it, SDU and fill
pub data Pdu : Type 0 where
  whole : ResourceHeader → List ℕ → Pdu
  first : ResourceHeader → List ℕ → Pdu
  frag : MacFragDl → List ℕ → Pdu
  final : MacEndDl → List ℕ → Pdu
  null : Pdu

unfoldable pub header : Pdu → PduHeader
header (whole r b) = PduHeader.Resource r
header (first r b) = PduHeader.Resource r
header (frag f b) = PduHeader.Frag f
header (final e b) = PduHeader.End e
header null = PduHeader.Resource null_header

unfoldable pub body : Pdu → List ℕ
body (whole r b) = b
body (first r b) = b
body (frag f b) = b
body (final e b) = b
body null = []

unfoldable pub pdu_bits : Pdu → List ℕ
pdu_bits p = header_bits (header p) ++ body p

unfoldable pub block_bits : List Pdu → List ℕ
block_bits [] = []
block_bits (p ∷ ps) = pdu_bits p ++ block_bits ps

-- the headers with their bit positions
unfoldable pub placed : ℕ → List Pdu → List PlacedHeader
placed at [] = []
placed at (p ∷ ps) = record { at = at; header = header p } ∷ placed (at + length (pdu_bits p)) ps

-- a legal MAC-RESOURCE with an address or a label
pub record Addressed (r : ResourceHeader) : Type 0 where
  pub taken : writer_takes r ≡ true
  pub address : 0 < address_type r.address

-- "Whole PDU: filled .. to the octet, or to the block's end if that is nearer. Length code: whole octets, rounded down."
pub record WholeFits (w at : ℕ) (r : ResourceHeader) (size : ℕ) : Type 0 where
  pub sound : Addressed r
  pub inside : at + size ≤ w
  pub code : r.length_ind ≡ size / 8
  pub low : 2 ≤ r.length_ind
  pub high : r.length_ind ≤ 34
  pub ends : (size ≡ 8 * r.length_ind) ⊎ (at + size ≡ w)

-- "Code 63 starts a fragment": it fills the block
pub record FirstFits (w at : ℕ) (r : ResourceHeader) (size : ℕ) : Type 0 where
  pub sound : Addressed r
  pub ends : at + size ≡ w
  pub code : r.length_ind ≡ 63

-- a MAC-FRAG fills the block
pub record FragFits (w at : ℕ) (f : MacFragDl) (size : ℕ) : Type 0 where
  pub fills : f.fill_bits < 2
  pub ends : at + size ≡ w

-- a MAC-END is whole octets, its code
pub record FinalFits (w at : ℕ) (e : MacEndDl) (size : ℕ) : Type 0 where
  pub fills : e.fill_bits < 2
  pub positions : e.pos_of_grant < 2
  pub inside : at + size ≤ w
  pub code : size ≡ 8 * e.length_ind
  pub low : 2 ≤ e.length_ind
  pub high : e.length_ind ≤ 34

-- the PDUs stand one after the other in the bits from `at` to `w`: a first fragment, a MAC-FRAG or a null is the last; behind any other last PDU fewer
-- than 16 bits are left
unfoldable pub Fits : ℕ → ℕ → List Pdu → Type 0
Fits w at [] = w < at + 16
Fits w at (whole r b ∷ ps) = (at + 16 ≤ w) × WholeFits w at r (length (pdu_bits (whole r b))) × Fits w (at + length (pdu_bits (whole r b))) ps
Fits w at (first r b ∷ ps) = (at + 16 ≤ w) × FirstFits w at r (length (pdu_bits (first r b))) × (ps ≡ [])
Fits w at (frag f b ∷ ps) = (at + 16 ≤ w) × FragFits w at f (length (pdu_bits (frag f b))) × (ps ≡ [])
Fits w at (final e b ∷ ps) = (at + 16 ≤ w) × FinalFits w at e (length (pdu_bits (final e b))) × Fits w (at + length (pdu_bits (final e b))) ps
Fits w at (null ∷ ps) = (at + 16 ≤ w) × (ps ≡ [])
