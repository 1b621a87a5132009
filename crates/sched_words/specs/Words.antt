-- The station and the queue as words of 32 bits, for callers in C: the table of include/bs_sched.h. Assumes nothing.
use Rattle.std.specs.Prelude.{ℕ, zero, suc, ◌+◌, ◌*◌, ◌%◌, ◌^◌, Bool, true, false, cond}
use Rattle.std.specs.Prelude.{◌&&◌, List, [], ◌∷◌, ◌++◌, length, drop, replicate, ◌==◌, nat_le, Option, Some, None}
use Rattle.std.specs.Prelude.{slice_index, slice_index_or}
use Rattle.sizes.specs.Sizes.{timeslots, queue_places}
use Rattle.tdma_time.specs.declared.TdmaTime.{TdmaTime}
use Rattle.uplink.specs.declared.Entry.{Entry}
use Rattle.uplink.specs.UplinkEntry.{Table, empty_table}
use Rattle.uplink.specs.Uplink.{uplink_of}
use Rattle.mac_pdus.specs.declared.ChanAllocElement.{ChanAllocElement}
use Rattle.dl_record.specs.declared.Kind.{Kind}
use Rattle.dl_record.specs.declared.QueuedHeader.{QueuedHeader}
use Rattle.dl_record.specs.declared.Record.{Record}
use Rattle.dl_record.specs.Record.{empty_header, offered_record}
use Rattle.sched_core.specs.declared.Station.{Station}
use Rattle.sched_core.specs.Station.{station_of}
use Rattle.sched_words.specs.Front.{begins}

-- ---- how many words

-- those of a station, of a record, and of "a lent run of 64 records"
abbrev pub station_word_count : ℕ
station_word_count = 228

abbrev pub record_word_count : ℕ
record_word_count = 23

abbrev pub queue_word_count : ℕ
queue_word_count = record_word_count * queue_places

-- ---- one value

-- the low bits of a word that is too wide (such words are no station's and no record's: `same_words` below): all below n
abbrev pub low : ℕ → ℕ → ℕ
low n w = w % n

-- the word of a field, or the field of a word, where either is the other as it stands
abbrev pub itself : ℕ → ℕ
itself v = v

-- a value that may be absent: 0, or the word of the value and 1
abbrev pub word_or_zero : {A : Type 0} → (A → ℕ) → Option A → ℕ
word_or_zero word None = 0
word_or_zero word (Some v) = (word v + 1) % 2 ^ 32

-- and back
abbrev pub unless_zero : {A : Type 0} → (ℕ → A) → ℕ → Option A
unless_zero from_word zero = None
unless_zero from_word (suc w) = Some (from_word w)

-- of a number
abbrev pub opt_word : Option ℕ → ℕ
opt_word o = word_or_zero itself o

-- of one below n
abbrev pub opt_low : ℕ → ℕ → Option ℕ
opt_low n w = unless_zero (low n) w

-- "kind (grant, ack, record, waiting, started)"
abbrev pub kind_word : Kind → ℕ
kind_word Kind.Grant = 0
kind_word Kind.Ack = 1
kind_word Kind.Record = 2
kind_word Kind.Waiting = 3
kind_word Kind.Started = 4

abbrev pub kind_from : ℕ → Kind
kind_from zero = Kind.Grant
kind_from (suc zero) = Kind.Ack
kind_from (suc (suc zero)) = Kind.Record
kind_from (suc (suc (suc zero))) = Kind.Waiting
kind_from (suc (suc (suc (suc n)))) = Kind.Started

-- ---- words one after another

-- the words of each element of a list
unfoldable pub words_of_all : {A : Type 0} → (A → List ℕ) → List A → List ℕ
words_of_all f [] = []
words_of_all f (x ∷ xs) = f x ++ words_of_all f xs

-- n elements, each read from the front of k words
unfoldable pub read_all : {A : Type 0} → (List ℕ → A) → ℕ → ℕ → List ℕ → List A
read_all f k zero ws = []
read_all f k (suc n) ws = f ws ∷ read_all f k n (drop k ws)

abbrev pub word_at : List ℕ → ℕ → ℕ
word_at ws i = slice_index ws i

-- ---- the station

-- words 0 to 3: t, f, m, h
abbrev pub time_words : TdmaTime → List ℕ
time_words x = x.t ∷ x.f ∷ x.m ∷ x.h ∷ []

abbrev pub time_from : List ℕ → TdmaTime
time_from ws = record { t = word_at ws 0 % 256; f = word_at ws 1 % 256; m = word_at ws 2 % 256; h = word_at ws 3 % 65536 }

-- 3 words of an entry: the owners of the first half and of the second, the marker
abbrev pub entry_words : Entry → List ℕ
entry_words e = opt_word e.ul1 ∷ opt_word e.ul2 ∷ opt_word e.usage_marker ∷ []

abbrev pub entry_of : ℕ → ℕ → ℕ → Entry
entry_of a b m = record { ul1 = unless_zero itself a; ul2 = unless_zero itself b; usage_marker = opt_low 256 m }

abbrev pub entry_from : List ℕ → Entry
entry_from ws = entry_of (word_at ws 0) (word_at ws 1) (word_at ws 2)

-- 54 words of a row: frames 1 to 18
abbrev pub words_of_row : List Entry → List ℕ
words_of_row row = words_of_all entry_words row

abbrev pub row_from : List ℕ → List Entry
row_from ws = read_all entry_from 3 18 ws

-- 4 words, one for each timeslot
abbrev pub four_from : List ℕ → List ℕ
four_from ws = word_at ws 0 % 256 ∷ word_at ws 1 % 256 ∷ word_at ws 2 % 256 ∷ word_at ws 3 % 256 ∷ []

-- words 4 to 219: rows 1 to 4
abbrev pub table_words : Table → List ℕ
table_words tb = words_of_row (slice_index_or tb 0 []) ++ words_of_row (slice_index_or tb 1 [])
    ++ words_of_row (slice_index_or tb 2 []) ++ words_of_row (slice_index_or tb 3 [])

abbrev pub table_from : List ℕ → Table
table_from ws = row_from (drop 4 ws) ∷ row_from (drop 58 ws) ∷ row_from (drop 112 ws) ∷ row_from (drop 166 ws) ∷ []

-- the time, the table, the counters of usage markers (from word 220), the numbers of records queued (from word 224)
unfoldable pub station_words : Station → List ℕ
station_words s =
    time_words s.uplink.time ++ table_words s.uplink.rows ++ s.uplink.next_usage_marker ++ s.queued

unfoldable pub station_read : List ℕ → Station
station_read ws = station_of (uplink_of (time_from ws) (table_from ws) (four_from (drop 220 ws))) (four_from (drop 224 ws))

-- ---- a record

-- ten words: 1, then the channel allocation; all 0 if there is none
abbrev pub alloc_words : Option ChanAllocElement → List ℕ
alloc_words None = replicate 10 0
alloc_words (Some c) =
    1 ∷ c.alloc_type ∷ c.ts_assigned ∷ c.ul_dl_assigned ∷ c.clch_permission ∷ c.cell_change_flag ∷ c.carrier_num ∷ c.ext_carrier_num_flag
    ∷ c.mon_pattern ∷ opt_word c.frame18_mon_pattern ∷ []

abbrev pub alloc_fields : List ℕ → ChanAllocElement
alloc_fields ws =
    record {
      alloc_type = word_at ws 1 % 256;
      ts_assigned = word_at ws 2 % 256;
      ul_dl_assigned = word_at ws 3 % 256;
      clch_permission = word_at ws 4 % 256;
      cell_change_flag = word_at ws 5 % 256;
      carrier_num = word_at ws 6 % 65536;
      ext_carrier_num_flag = word_at ws 7 % 256;
      mon_pattern = word_at ws 8 % 256;
      frame18_mon_pattern = opt_low 256 (word_at ws 9);
    }

-- by the first of them
abbrev pub alloc_by : ℕ → List ℕ → Option ChanAllocElement
alloc_by zero ws = None
alloc_by (suc n) ws = Some (alloc_fields ws)

abbrev pub alloc_from : List ℕ → Option ChanAllocElement
alloc_from ws = alloc_by (word_at ws 0) ws

-- word 3: the tag; 4 to 10: the header but for the allocation; 11 to 20: that
abbrev pub queued_header_words : Option ℕ → QueuedHeader → List ℕ
queued_header_words tag h =
    opt_word tag ∷ h.pos_of_grant ∷ h.encryption_mode ∷ h.random_access_flag ∷ opt_word h.event_label ∷ opt_word h.usage_marker
    ∷ opt_word h.power_control_element ∷ opt_word h.slot_granting_element ∷ alloc_words h.chan_alloc_element

-- words 0 to 2: kind, address kind, number; 3 to 20: tag and header; 21 and 22: bits, sent
unfoldable pub record_words : Record → List ℕ
record_words r = kind_word r.kind ∷ r.address.kind ∷ r.address.number ∷ (queued_header_words r.tag r.header ++ r.bits ∷ r.sent ∷ [])

abbrev pub header_from : List ℕ → QueuedHeader
header_from ws =
    record {
      pos_of_grant = word_at ws 4 % 256;
      encryption_mode = word_at ws 5 % 256;
      random_access_flag = word_at ws 6 % 256;
      event_label = opt_low 65536 (word_at ws 7);
      usage_marker = opt_low 256 (word_at ws 8);
      power_control_element = opt_low 256 (word_at ws 9);
      slot_granting_element = opt_low 256 (word_at ws 10);
      chan_alloc_element = alloc_from (drop 11 ws);
    }

unfoldable pub record_read : List ℕ → Record
record_read ws =
    record {
      kind = kind_from (word_at ws 0);
      address = record { kind = word_at ws 1 % 256; number = word_at ws 2 };
      tag = opt_low 65536 (word_at ws 3);
      header = header_from ws;
      bits = word_at ws 21 % 65536;
      sent = word_at ws 22 % 65536;
    }

-- "a lent run of 64 records"
abbrev pub queue_words : List Record → List ℕ
queue_words rs = words_of_all record_words rs

abbrev pub records_read : List ℕ → List Record
records_read ws = read_all record_read record_word_count queue_places ws

-- ---- words that are no station's and no queue's

-- two lists of words are the same
unfoldable pub same_words : List ℕ → List ℕ → Bool
same_words [] [] = true
same_words [] (w ∷ ws) = false
same_words (v ∷ vs) [] = false
same_words (v ∷ vs) (w ∷ ws) = v == w && same_words vs ws

-- a station that question 1 refuses: its timeslot is 0
abbrev pub no_station : Station
no_station = station_of (uplink_of (record { t = 0; f = 0; m = 0; h = 0 }) empty_table (replicate timeslots 0)) (replicate timeslots 0)

-- a record that no place may hold: its kind of address is none
abbrev pub no_record : Record
no_record = record { kind = Kind.Grant; address = record { kind = 255; number = 0 }; tag = None; header = empty_header; bits = 0; sent = 0 }

-- the station that words stand for: words that are no station's stand for one that is refused
unfoldable pub station_from : List ℕ → Station
station_from ws = cond (same_words (station_words (station_read ws)) ws) (station_read ws) no_station

-- the records of the queue, likewise
unfoldable pub queue_from : List ℕ → List Record
queue_from ws = cond (same_words (queue_words (records_read ws)) ws) (records_read ws) (replicate queue_places no_record)

-- and none of any other number of words: question 2 refuses it
unfoldable pub records_from : List ℕ → List Record
records_from ws = cond (length ws == queue_word_count) (queue_from ws) []

-- ---- a record that is offered: its words of kind and sent do not count, and each other word is judged by the question of its field

-- a number that its field does not hold is the greatest that it holds
abbrev pub saturated : ℕ → ℕ → ℕ
saturated most w = cond (nat_le w most) w most

-- are words 3 to 20 those of the tag and the header that are read from them
abbrev pub header_fits : List ℕ → Bool
header_fits ws = begins (queued_header_words (opt_low 65536 (word_at ws 3)) (header_from ws)) (drop 3 ws)

-- "6. Header legal? Every field within its width; encryption 0 with an address": a header that is refused
abbrev pub illegal_header : QueuedHeader
illegal_header =
    record {
      pos_of_grant = 0;
      encryption_mode = 255;
      random_access_flag = 0;
      event_label = None;
      usage_marker = None;
      power_control_element = None;
      slot_granting_element = None;
      chan_alloc_element = None;
    }

-- Words that no header has get 6. Document 01 has no question for a tag of over 16 bits: it goes with the fields of the header.
abbrev pub offered_header : List ℕ → QueuedHeader
offered_header ws = cond (header_fits ws) (header_from ws) illegal_header

-- An address kind above 255 gets 5, like 255, and bits above 65,535 get 7, like 65,535.
unfoldable pub offered_from : List ℕ → Record
offered_from ws =
    offered_record (saturated 255 (word_at ws 1)) (word_at ws 2) (opt_low 65536 (word_at ws 3)) (offered_header ws) (saturated 65535 (word_at ws 21))
