-- Document 01, "Cases": all cases marked *, as rows of one table. Assumes nothing.
use Rattle.std.specs.Prelude.{◌≡◌, true, List, [], ◌∷◌, ◌++◌, map, ℕ, ◌-◌, length, replicate, None, Result, Ok, Err}
use Prim.Native.String.{String}
use Rattle.sizes.specs.Sizes.{timeslots, block_width}
use Rattle.questions.specs.declared.Refusal.{Refusal}
use Rattle.tdma_time.specs.declared.TdmaTime.{TdmaTime}
use Rattle.tdma_time.specs.Time.{slot_of, frame, frames_on, next_time}
use Rattle.uplink.specs.Request.{CapAnswer}
use Rattle.uplink.specs.declared.Grant.{Grant}
use Rattle.uplink.specs.declared.Uplink.{Uplink}
use Rattle.uplink.specs.HalfSlot.{Half, first_half, second_half}
use Rattle.uplink.specs.UplinkEntry.{Table, empty_table, table_view, reserve, marker_or_zero}
use Rattle.uplink.specs.Uplink.{uplink_of}
use Rattle.uplink.specs.Request.{Request, Verdict, no_run, too_late, grant, verdict, cap_number, answer}
use Rattle.mac_reader.specs.PduList.{Pdu, whole, first, frag, final, null, body, pdu_bits}
use Rattle.dl_record.specs.declared.Kind.{Kind}
use Rattle.dl_record.specs.declared.Record.{Record}
use Rattle.dl_record.specs.Record.{grant_header}
use Rattle.bs_frag.specs.declared.ChunkOutcome.TheVariants.{Waiting}
use Rattle.dl_send.specs.Carried.{sdu_in, over}

-- a case: what the definitions give, and what document 01 says, each as a list of numbers
pub record Case : Type 0 where
  pub name : String
  pub gives : List ℕ
  pub says : List ℕ

-- a table of cases holds: in every row the two lists are equal
abbrev pub Holds : List Case → Type 0
Holds cases = map (λ (x : Case). x.gives) cases ≡ map (λ (x : Case). x.says) cases

-- ---- what a row about time, search, delay and markers is made of

-- "Empty table, timeslot 1, unless said": frame f of the first multiframe
abbrev pub in_frame : ℕ → TdmaTime
in_frame f = record { t = 1; f = f; m = 1; h = 0 }

abbrev pub asking : ℕ → Request
asking code = record { timeslot = 1; code = code; number = 1 }

-- the table with halves of some slots taken by number 9
abbrev pub taken_by9 : List Half → List ℕ → Table
taken_by9 hs slots = reserve empty_table hs 9 None slots

abbrev pub both : List Half
both = first_half ∷ second_half ∷ []

-- "number (0 done); after a 0 only, [..] capacity, delay, marker or 0"
abbrev pub shown : Result Grant Refusal → List ℕ
shown (Ok g) = 0 ∷ g.capacity ∷ g.delay ∷ marker_or_zero g.usage_marker ∷ []
shown (Err r) = cap_number (Err r) ∷ []

-- the frames of the slots granted
abbrev pub frames_granted : Verdict → List ℕ
frames_granted no_run = []
frames_granted too_late = []
frames_granted (grant g) = map (λ (c : ℕ). frame c) g.slots

-- the uplink in frame f with a table, the counters at k
abbrev pub uplink_in : ℕ → Table → ℕ → Uplink
uplink_in f tb k = uplink_of (in_frame f) tb (replicate timeslots k)

-- a request in frame f on a table, with the counters at k: the reply as shown, then the frames granted
unfoldable pub request_shown : Table → ℕ → ℕ → ℕ → List ℕ
request_shown tb k f code =
    shown (answer (uplink_in f tb k) (asking code)).reply ++ frames_granted (verdict (table_view tb) (slot_of (in_frame f)) (asking code))

-- the markers of two requests for two slots, one after the other, in frame 1 of an empty table
abbrev pub marker_in : Result Grant Refusal → ℕ
marker_in (Ok g) = marker_or_zero g.usage_marker
marker_in (Err r) = 0

unfoldable pub two_markers : ℕ → List ℕ
two_markers k =
    let one : CapAnswer = answer (uplink_in 1 empty_table k) (asking 2) in
    marker_in one.reply ∷ marker_in (answer one.uplink (asking 2)).reply ∷ []

-- a time as h, m, f, t
abbrev pub time_shown : TdmaTime → List ℕ
time_shown x = x.h ∷ x.m ∷ x.f ∷ x.t ∷ []

-- ---- what a row about an SDU is made of

-- "header 43 bits means SSI only": a record of so many SDU bits
abbrev pub ssi_only : ℕ → Record
ssi_only bits =
    record {
      kind = Kind.Record;
      address = record { kind = 0; number = 1 };
      tag = None;
      header = grant_header 0 None None;
      bits = bits;
      sent = 0;
    }

abbrev pub length_code : Pdu → ℕ
length_code (whole r b) = r.length_ind
length_code (first r b) = r.length_ind
length_code (frag f b) = 0
length_code (final e b) = e.length_ind
length_code null = 2

-- of each PDU its bits, its length code, its SDU bits and its fill bits
unfoldable pub pdus_shown : List Pdu → List ℕ
pdus_shown [] = []
pdus_shown (p ∷ ps) = length (pdu_bits p) ∷ length_code p ∷ length (sdu_in p) ∷ (length (body p) - length (sdu_in p)) ∷ pdus_shown ps

-- the PDUs that a record writes in an empty block, and if it is not finished there, in a second one, as the first left it
unfoldable pub shown_of : Record → List ℕ
shown_of r = pdus_shown (over ((true, block_width) ∷ (true, block_width) ∷ []) Waiting r (replicate r.bits 1)).pdus

-- ---- the rows

unfoldable pub starred_cases : List Case
starred_cases =
    record {
      name = "Frame 1, 17 slots: frames 1–17, delay 0, marker 4";
      gives = request_shown empty_table 4 1 10;
      says = 0 ∷ 10 ∷ 0 ∷ 4 ∷ 1 ∷ 2 ∷ 3 ∷ 4 ∷ 5 ∷ 6 ∷ 7 ∷ 8 ∷ 9 ∷ 10 ∷ 11 ∷ 12 ∷ 13 ∷ 14 ∷ 15 ∷ 16 ∷ 17 ∷ [];
    }
    ∷ record { name = "Frame 2 (17 slots): 9"; gives = request_shown empty_table 4 2 10; says = 9 ∷ [] }
    ∷ record { name = "Frame 17, two slots: 17 and next 1"; gives = request_shown empty_table 4 17 2; says = 0 ∷ 2 ∷ 0 ∷ 4 ∷ 17 ∷ 1 ∷ [] }
    ∷ record {
      name = "Frame 16, two slots, frame 17 taken: delay 2, frames 1 and 2";
      gives = request_shown (taken_by9 both (slot_of (in_frame 17) ∷ [])) 4 16 2;
      says = 0 ∷ 2 ∷ 2 ∷ 4 ∷ 1 ∷ 2 ∷ [];
    }
    ∷ record {
      name = "Frame 1, frames 1–13 taken, one slot: delay 13";
      gives = request_shown (taken_by9 both (frames_on (slot_of (in_frame 1)) 13)) 4 1 1;
      says = 0 ∷ 1 ∷ 13 ∷ 0 ∷ 14 ∷ [];
    }
    ∷ record { name = "1–14 taken: 10"; gives = request_shown (taken_by9 both (frames_on (slot_of (in_frame 1)) 14)) 4 1 1; says = 10 ∷ [] }
    ∷ record {
      name = "First half of now taken, half-slot: capacity 15";
      gives = request_shown (taken_by9 (first_half ∷ []) (slot_of (in_frame 1) ∷ [])) 4 1 0;
      says = 0 ∷ 15 ∷ 0 ∷ 0 ∷ 1 ∷ [];
    }
    ∷ record { name = "Marker 62, then 4"; gives = two_markers 62; says = 62 ∷ 4 ∷ [] }
    ∷ record {
      name = "h 65535, m 60, f 18, t 4 advances to h 0, m 1, f 1, t 1";
      gives = time_shown (next_time (record { t = 4; f = 18; m = 60; h = 65535 }));
      says = 0 ∷ 1 ∷ 1 ∷ 1 ∷ [];
    }
    ∷ record { name = "SDU 221: 264 bits, code 33"; gives = shown_of (ssi_only 221); says = 264 ∷ 33 ∷ 221 ∷ 0 ∷ [] }
    ∷ record { name = "222: three fill bits, code 33"; gives = shown_of (ssi_only 222); says = 268 ∷ 33 ∷ 222 ∷ 3 ∷ [] }
    ∷ record {
      name = "226: 225 sent, then a MAC-END of 16 bits";
      gives = shown_of (ssi_only 226);
      says = 268 ∷ 63 ∷ 225 ∷ 0 ∷ 16 ∷ 2 ∷ 1 ∷ 2 ∷ [];
    }
    ∷ []
