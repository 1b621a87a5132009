-- A record's next PDU in the room that is left in a block: document 01, section "Block", and document 02, W-201. Assumes nothing.
use Rattle.std.specs.Prelude.{◌≡◌, Bool, true, ◌||◌, not, cond, List, [], ◌∷◌, ◌++◌, ℕ, zero, suc, ◌+◌, ◌-◌, ◌*◌, ◌/◌, ◌^◌, ◌<◌, ◌≤◌, min, leb, ltb, length}
use Rattle.std.specs.Prelude.{take}
use Rattle.sizes.specs.Sizes.{sdu_bits, block_width}
use Rattle.bitbuffer.specs.Bits.{bits_of, part, Wrote}
use Rattle.fillbits.specs.Fill.{fill_wanted, fill_bits}
use Rattle.mac_pdus.specs.declared.ResourceHeader.{ResourceHeader}
use Rattle.mac_pdus.specs.Headers.{header_length}
use Rattle.mac_pdus.specs.Legal.{legal_queued, on_air}
use Rattle.mac_reader.specs.PduList.{Pdu, whole, first, frag, final, block_bits}
use Rattle.dl_record.specs.declared.Record.{Record}
use Rattle.dl_record.specs.Kind.{is_started}
use Rattle.dl_record.specs.Record.{resource_of}
use Rattle.bs_frag.specs.declared.ChunkOutcome.{ChunkOutcome}
use Rattle.bs_frag.specs.declared.ChunkOutcome.TheVariants.{Finished, Waiting, Started}
use Rattle.bs_frag.specs.declared.body.Body.{Body}
use Rattle.bs_frag.specs.declared.Chunk.{Chunk}

-- ---- the four PDUs

-- the fill bit of a PDU with k fill bits
unfoldable pub fill_flag : ℕ → ℕ
fill_flag zero = 0
fill_flag (suc k) = 1

-- "header (without length and fill, which the builder works out)": the header as written, with its fill bit and its length code
unfoldable pub header_of : Record → ℕ → ℕ → ResourceHeader
header_of r fill len = on_air (resource_of r fill len)

-- how many bits it has
unfoldable pub header_size : Record → ℕ
header_size r = header_length (header_of r 0 0)

-- "Whole PDU: filled with 1 then zeros .. Length code: whole octets, rounded down."
abbrev pub whole_pdu : Record → List ℕ → ℕ → Pdu
whole_pdu r sdu fill = whole (header_of r (fill_flag fill) ((header_size r + r.bits + fill) / 8)) (sdu ++ fill_bits fill)

-- "Code 63 starts a fragment."
abbrev pub first_pdu : Record → List ℕ → Pdu
first_pdu r sdu = first (header_of r 0 63) sdu

-- "MAC-FRAG: 01, 0, fill"
abbrev pub frag_pdu : List ℕ → ℕ → Pdu
frag_pdu sdu fill = frag (record { fill_bits = fill_flag fill }) (sdu ++ fill_bits fill)

-- "MAC-END: 13 bits, 01, 1, fill, position, length (rounded up), two flags 0"
abbrev pub end_pdu : ℕ → List ℕ → ℕ → Pdu
end_pdu octets sdu fill = final (record { fill_bits = fill_flag fill; pos_of_grant = 0; length_ind = octets }) (sdu ++ fill_bits fill)

-- the octets of a MAC-END with n SDU bits, rounded up
abbrev pub end_octets : ℕ → ℕ
end_octets n = (13 + n + 7) / 8

-- a part of the SDU, and then fill
abbrev pub body_bits : Body → List ℕ
body_bits b = part (bits_of b.store.now) b.from b.n ++ fill_bits b.fill

-- ---- a record's turn

-- the PDUs that it writes (one or none), the room behind them, and what becomes of the record
pub record Next : Type 0 where
  pub pdus : List Pdu
  pub room : ℕ
  pub outcome : ChunkOutcome

-- The first PDU: whole, "filled .. to the octet, or to the block's end if that is nearer"; nothing, for "A record that does not fit, with fewer than 32
-- bits left or fewer than its header", and for one that may not start fragments in this block; or the first fragment, which fills the block.
unfoldable pub begin_with : Bool → ℕ → ℕ → Record → List ℕ → Next
begin_with may h room r sdu =
    let n : ℕ = h + r.bits in
    let fill : ℕ = fill_wanted room n in
    cond (leb n room) (record { pdus = whole_pdu r sdu fill ∷ []; room = room - (n + fill); outcome = Finished })
    (cond (not may || ltb room 32 || ltb room h) (record { pdus = []; room = room; outcome = Waiting })
    (record { pdus = first_pdu r (take (room - h) sdu) ∷ []; room = 0; outcome = Started (room - h) }))

unfoldable pub begin : Bool → ℕ → Record → List ℕ → Next
begin may room r sdu = begin_with may (header_size r) room r sdu

-- A later one: MAC-END, "used if its octets fit"; nothing, "Continuations need 16"; or a MAC-FRAG with as many SDU bits as fit behind its four, filled to
-- the block's end.
unfoldable pub continue : ℕ → Record → List ℕ → Next
continue room r sdu =
    let rest : ℕ = r.bits - r.sent in
    let size : ℕ = end_octets rest * 8 in
    let n : ℕ = min (room - 4) rest in
    cond (leb size room) (record { pdus = end_pdu (end_octets rest) (part sdu r.sent rest) (size - (13 + rest)) ∷ []; room = room - size; outcome = Finished })
    (cond (ltb room 16) (record { pdus = []; room = room; outcome = Started r.sent })
    (record { pdus = frag_pdu (part sdu r.sent n) (room - 4 - n) ∷ []; room = 0; outcome = Started (r.sent + n) }))

-- may: W-201, whether a record may start fragments in this block. "The fragmenter must be told this by the builder"; what is started goes on.
unfoldable pub next : Bool → ℕ → Record → List ℕ → Next
next may room r sdu = cond (is_started r.kind) (continue room r sdu) (begin may room r sdu)

-- ---- what the code works on

-- "The SDU store is 64 cells of 256 octets": the first n bits of a cell
unfoldable pub sdu_at : List ℕ → ℕ → ℕ → List ℕ
sdu_at store cell n = part (bits_of store) (sdu_bits * cell) n

-- what can be sent: a legal header, an SDU that fits a cell, and no more sent than there is
pub record Sendable (r : Record) : Type 0 where
  pub legal : legal_queued (resource_of r 0 0) ≡ true
  pub bits : r.bits ≤ sdu_bits
  pub sent : r.sent ≤ r.bits

-- a block of w bits of which `at` are written, a store, and a record whose SDU is in the given cell
pub record Ready (block : List ℕ) (at w : ℕ) (store : List ℕ) (cell : ℕ) (r : Record) : Type 0 where
  pub place : at ≤ w
  pub width : w ≤ block_width
  pub room : w ≤ 8 * length block
  pub small : 8 * length block < 2 ^ 64
  pub inside : sdu_bits * cell + sdu_bits ≤ 8 * length store
  pub bounded : 8 * length store < 2 ^ 64
  pub sendable : Sendable r

-- what one record's turn leaves: the bits of its PDU written from `at` on, in a block of w bits; where they end; and what becomes of the record
pub record Chunked (l : List ℕ) (at w : ℕ) (m : List ℕ) (c : Chunk) (x : Next) : Type 0 where
  pub wrote : Wrote l at m c.next (block_bits x.pdus)
  pub left : c.next + x.room ≡ w
  pub outcome : c.outcome ≡ x.outcome
