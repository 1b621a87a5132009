-- What the block reader lists and refuses (document 01, section "Block" and questions 2 and 12). Assumes nothing.
use Rattle.std.specs.Prelude.{Bool, true, false, cond, not, ◌&&◌, ◌||◌, ℕ, zero, suc, ◌+◌, ◌-◌, ◌*◌}
use Rattle.std.specs.Prelude.{◌%◌, List, [], ◌∷◌, ◌++◌, length, get_or, replicate, ltb, leb, eqb, Result, Ok, Err, Option, Some, None}
use Rattle.questions.specs.declared.Refusal.{Refusal}
use Rattle.questions.specs.Questions.{Question, question, refusal_number, ask}
use Rattle.bitbuffer.specs.Bits.{bits_of, field}
use Rattle.mac_pdus.specs.declared.ResourceHeader.{ResourceHeader}
use Rattle.mac_pdus.specs.declared.MacEndDl.{MacEndDl}
use Rattle.mac_pdus.specs.declared.PduHeader.{PduHeader}
use Rattle.mac_pdus.specs.Headers.{if_zero, address_type, resource_at}
use Rattle.mac_pdus.specs.Legal.{writer_takes}
use Rattle.mac_reader.specs.declared.PlacedHeader.{PlacedHeader}
use Rattle.arrayvec.specs.ArrayVec.{ArrayVec}

-- ---- question 12: one PDU, from bit `at` of a block of `w` bits

-- "codes 2–34", "PDU .. inside the block"
unfoldable pub octets_inside : ℕ → ℕ → ℕ → Bool
octets_inside w at code = leb 2 code && leb code 34 && leb (at + 8 * code) w

-- "header inside its PDU but for those four bits": where the header of a PDU that ends at `end` may end. With no octet left behind the PDU it is the
-- block's end: bit 268 for a PDU that ends at bit 264
abbrev pub header_end : ℕ → ℕ → ℕ
header_end w end = cond (ltb w (end + 8)) w end

-- "Code 63 starts a fragment", "63 not in .. a null"
abbrev pub starts_fragment : ResourceHeader → Bool
starts_fragment r = not (eqb (address_type r.address) 0) && eqb r.length_ind 63

-- a MAC-RESOURCE whose header ends at `after`: "codes 2–34 or 63 (63 not in .. a null)", "a header the lone writer would take, PDU and header inside the
-- block, header inside its PDU but for those four bits"
unfoldable pub well_placed : ℕ → ℕ → ResourceHeader → ℕ → Bool
well_placed w at r after =
    writer_takes r && leb after w
    && (starts_fragment r || octets_inside w at r.length_ind && leb after (header_end w (at + 8 * r.length_ind)))

-- "stops after a null, a code 63 or a MAC-FRAG"
abbrev pub stops_after : ResourceHeader → Bool
stops_after r = eqb (address_type r.address) 0 || eqb r.length_ind 63

-- the header at a position, and where the next PDU begins, or none if the reader stops after this one
abbrev pub Step : Type 0
Step = Result (PduHeader × Option ℕ) Refusal

-- "lists headers by length code"
unfoldable pub resource_step : ℕ → ℕ → ResourceHeader → ℕ → Step
resource_step w at r after =
    cond (well_placed w at r after)
    (Ok (PduHeader.Resource r, cond (stops_after r) None (Some (at + 8 * r.length_ind))))
    (Err Refusal.Malformed)

-- "MAC-END flags 0", "codes 2–34"
unfoldable pub end_step : ℕ → ℕ → MacEndDl → ℕ → ℕ → Step
end_step w at e grant_flag alloc_flag =
    cond (eqb grant_flag 0 && eqb alloc_flag 0 && octets_inside w at e.length_ind) (Ok (PduHeader.End e, Some (at + 8 * e.length_ind)))
    (Err Refusal.Malformed)

-- a MAC-END that begins at `start`, behind its first three bits
unfoldable pub end_at : ℕ → List ℕ → ℕ → ℕ → Step
end_at w l start at =
    field l at 1 λ fill at. field l at 1 λ position at. field l at 6 λ length at. field l at 1 λ grant_flag at. field l at 1 λ alloc_flag at.
    end_step w start (record { fill_bits = fill; pos_of_grant = position; length_ind = length }) grant_flag alloc_flag

-- type 01: MAC-FRAG or MAC-END, by the third bit
unfoldable pub fragment_at : ℕ → List ℕ → ℕ → ℕ → Step
fragment_at w l start at =
    field l at 1 λ sub at. if_zero sub (field l at 1 λ fill at. Ok (PduHeader.Frag (record { fill_bits = fill }), None)) (end_at w l start at)

-- "type 00 or 01"
abbrev pub of_type : ℕ → ℕ → List ℕ → ℕ → ℕ → Step
of_type zero w l start at = resource_at l start λ r after. resource_step w start r after
of_type (suc zero) w l start at = fragment_at w l start at
of_type (suc (suc n)) w l start at = Err Refusal.Malformed

unfoldable pub pdu_at : ℕ → List ℕ → ℕ → Step
pdu_at w l start = field l start 2 λ t at. of_type t w l start at

-- ---- the list of headers

pub data Listing : Type 0 where
  refused : Listing
  headers : List PlacedHeader → Listing

abbrev pub before : PlacedHeader → Listing → Listing
before p refused = refused
before p (headers ps) = headers (p ∷ ps)

abbrev pub on_step : Step → ℕ → (ℕ → Listing) → Listing
on_step (Err r) at k = refused
on_step (Ok (h, None)) at k = headers (record { at = at; header = h } ∷ [])
on_step (Ok (h, Some next)) at k = before (record { at = at; header = h }) (k next)

-- the PDUs from `at` on, at most `n`; "stops .. under 16 bits left"
unfoldable pub read_pdus : ℕ → ℕ → List ℕ → ℕ → Listing
read_pdus zero w l at = headers []
read_pdus (suc n) w l at = cond (ltb w (at + 16)) (headers []) (on_step (pdu_at w l at) at (λ next. read_pdus n w l next))

-- a block holds no more PDUs than this: each but the last takes 16 bits or more (`sixteen`)
abbrev pub most_pdus : ℕ
most_pdus = 16

-- the PDUs of a block of `o` octets, 8 * o - 4 bits and four more. Behind it stand zeros; no header that reaches into them is taken
unfoldable pub block_pdus : ℕ → List ℕ → Listing
block_pdus o s = read_pdus most_pdus (8 * o - 4) (bits_of (s ++ replicate 14 0)) 0

-- ---- the reply

-- by document 01's number, "(0 done)", with the headers, `count` of them
pub record Reading : Type 0 where
  pub number : ℕ
  pub count : ℕ
  pub headers : List PlacedHeader

abbrev pub reading : ℕ → ℕ → List PlacedHeader → Reading
reading n count ps = record { number = n; count = count; headers = ps }

-- what fills the list behind its last header
abbrev pub no_header : PlacedHeader
no_header = record { at = 0; header = PduHeader.Frag (record { fill_bits = 0 }) }

-- "On a no, the number is the whole reply"
abbrev pub no_headers : ℕ → Reading
no_headers n = reading n 0 (replicate most_pdus no_header)

abbrev pub reply_of : Listing → Reading
reply_of refused = no_headers 12
reply_of (headers ps) = reading 0 (length ps) (ps ++ replicate (most_pdus - length ps) no_header)

-- "When an answer is an enum, a definition gives this paper's number and values for each of its cases."
abbrev pub reading_of : Result (ArrayVec PlacedHeader) Refusal → Reading
reading_of (Ok b) = reply_of (headers b.items)
reading_of (Err r) = no_headers (refusal_number r)

-- "the block's last four bits zero"
abbrev pub last_four_zero : ℕ → List ℕ → Bool
last_four_zero o s = eqb (get_or s (o - 1) 0 % 16) 0

abbrev pub is_list : Listing → Bool
is_list refused = false
is_list (headers ps) = true

-- "2. Are the lent lengths those above?", and 12
abbrev pub read_questions : ℕ → List ℕ → List Question
read_questions o s =
    question (eqb (length s) o) 2
    ∷ question (last_four_zero o s && is_list (block_pdus o s)) 12
    ∷ []

-- the reader on a block of `o` octets: 34 of them make a full slot, 268 bits
unfoldable pub read_block : ℕ → List ℕ → Reading
read_block o s = ask (read_questions o s) (reply_of (block_pdus o s)) no_headers
