-- What each exported function answers and leaves, by the calls of document 01 on what the caller's words stand for. Assumes nothing.
use Rattle.std.specs.Prelude.{cond, List, [], ◌∷◌, ℕ, eqb, length, replicate, Option, Some, None, Result, Ok, Err}
use Rattle.sizes.specs.Sizes.{per_timeslot}
use Rattle.tdma_time.specs.declared.TdmaTime.{TdmaTime}
use Rattle.uplink.specs.declared.PhyBlockNum.{PhyBlockNum}
use Rattle.uplink.specs.declared.Entry.{Entry}
use Rattle.uplink.specs.UplinkEntry.{owner_of, usage_of, usage_number, marker_of_usage, marker_or_zero}
use Rattle.dl_send.specs.Arrays.{tag_row}
use Rattle.questions.specs.declared.Refusal.{Refusal}
use Rattle.questions.specs.Questions.{Question, question, refusal_number, ask}
use Rattle.dl_send.specs.declared.Tags.{Tags}
use Rattle.sched_core.specs.Station.{new_station}
use Rattle.sched_core.specs.Questions.{Memory, memory, asks_time, memory_questions}
use Rattle.sched_core.specs.Replies.{Numbered, reply_number, tags_in}
use Rattle.sched_core.specs.Calls.{Outcome, StationOutcome, BuildOutcome}
use Rattle.sched_core.specs.Calls.{advance_call, owner_call, usage_call, request_call, ack_call, tma_call, build_call}
use Rattle.sched_words.specs.Words.{station_word_count, record_word_count, opt_word, station_words, station_from, queue_words, records_from, offered_from}
use Rattle.bs_sched_c.specs.declared.reply.BsSchedGrant.{BsSchedGrant}
use Rattle.bs_sched_c.specs.declared.reply.BsSchedBuilt.{BsSchedBuilt}
use Rattle.bs_sched_c.specs.declared.reply.BsSchedOwners.{BsSchedOwners}
use Rattle.bs_sched_c.specs.declared.reply.BsSchedUsage.{BsSchedUsage}

-- ---- replies

-- "On a no, the number is the whole reply": all else 0
abbrev pub not_granted_struct : ℕ → BsSchedGrant
not_granted_struct n = record { refusal = n; capacity = 0; delay = 0; usage_marker = 0 }

-- document 01: "for R capacity, delay, marker or 0"
abbrev pub grant_struct : Numbered → BsSchedGrant
grant_struct Numbered.done = not_granted_struct 0
grant_struct (Numbered.refused n) = not_granted_struct n
grant_struct (Numbered.granted c d m) = record { refusal = 0; capacity = c; delay = d; usage_marker = marker_or_zero m }
grant_struct (Numbered.block octets tags) = not_granted_struct 0
grant_struct Numbered.no_block = not_granted_struct 0
grant_struct (Numbered.owned o) = not_granted_struct 0
grant_struct (Numbered.used n m) = not_granted_struct 0

-- is there a block
abbrev pub built_word : Numbered → ℕ
built_word Numbered.done = 0
built_word (Numbered.refused n) = 0
built_word (Numbered.granted c d m) = 0
built_word (Numbered.block octets tags) = 1
built_word Numbered.no_block = 0
built_word (Numbered.owned o) = 0
built_word (Numbered.used n m) = 0

abbrev pub not_built_struct : ℕ → BsSchedBuilt
not_built_struct n = record { refusal = n; built = 0; tag_count = 0; tags = replicate per_timeslot 0 }

-- "Tags of finished records come back in order": as many as a timeslot has places, zeros behind those that come back
abbrev pub built_struct : Numbered → BsSchedBuilt
built_struct r = record { refusal = reply_number r; built = built_word r; tag_count = length (tags_in r); tags = tag_row per_timeslot (tags_in r) }

-- an owner: 0 for none, else the number and 1
abbrev pub owner_word : Numbered → ℕ
owner_word Numbered.done = 0
owner_word (Numbered.refused n) = 0
owner_word (Numbered.granted c d m) = 0
owner_word (Numbered.block octets tags) = 0
owner_word Numbered.no_block = 0
owner_word (Numbered.owned o) = opt_word o
owner_word (Numbered.used n m) = 0

-- "On a no, the number is the whole reply": all else 0
abbrev pub no_owners_struct : ℕ → BsSchedOwners
no_owners_struct n = record { refusal = n; both = 0; first = 0; second = 0 }

-- those of the slot of an entry
abbrev pub entry_owners : Entry → BsSchedOwners
entry_owners e =
    record {
      refusal = 0;
      both = opt_word (owner_of PhyBlockNum.Both e);
      first = opt_word (owner_of PhyBlockNum.Block1 e);
      second = opt_word (owner_of PhyBlockNum.Block2 e);
    }

abbrev pub owners_struct : Numbered → Numbered → Numbered → BsSchedOwners
owners_struct both first second = record { refusal = reply_number both; both = owner_word both; first = owner_word first; second = owner_word second }

-- "Usage: 0 no half taken, 1 first only, 2 both, 3 any taken with a marker, the marker beside it."
abbrev pub usage_struct : ℕ → ℕ → ℕ → BsSchedUsage
usage_struct n u m = record { refusal = n; usage = u; usage_marker = m }

abbrev pub usage_struct_of : Numbered → BsSchedUsage
usage_struct_of Numbered.done = usage_struct 0 0 0
usage_struct_of (Numbered.refused n) = usage_struct n 0 0
usage_struct_of (Numbered.granted c d m) = usage_struct 0 0 0
usage_struct_of (Numbered.block octets tags) = usage_struct 0 0 0
usage_struct_of Numbered.no_block = usage_struct 0 0 0
usage_struct_of (Numbered.owned o) = usage_struct 0 0 0
usage_struct_of (Numbered.used n m) = usage_struct 0 n (marker_or_zero m)

-- ---- the same by the code's answers

-- the tags of a build: as many as a timeslot has places, zeros behind those that come back
abbrev pub built_of : Result (Option Tags) Refusal → BsSchedBuilt
built_of (Ok (Some t)) = record { refusal = 0; built = 1; tag_count = t.tag_count; tags = t.tags }
built_of (Ok None) = not_built_struct 0
built_of (Err r) = not_built_struct (refusal_number r)

-- of the slot of an entry
abbrev pub owners_of : Result Entry Refusal → BsSchedOwners
owners_of (Ok e) = entry_owners e
owners_of (Err r) = no_owners_struct (refusal_number r)

abbrev pub usage_of_slot : Result Entry Refusal → BsSchedUsage
usage_of_slot (Ok e) = usage_struct 0 (usage_number (usage_of e)) (marker_or_zero (marker_of_usage (usage_of e)))
usage_of_slot (Err r) = usage_struct (refusal_number r) 0 0

-- the time that a caller names
abbrev pub time_at : ℕ → ℕ → ℕ → ℕ → TdmaTime
time_at h m f t = record { t = t; f = f; m = m; h = h }

-- ---- what is asked of the words, in front of the questions of each call

-- "2. Are the lent lengths those above?": of the station. Another number of words is no state to judge, so this comes before 1
abbrev pub asks_station_words : List ℕ → Question
asks_station_words ws = question (eqb (length ws) station_word_count) 2

-- of the record that is offered
abbrev pub asks_record_words : List ℕ → Question
asks_record_words rs = question (eqb (length rs) record_word_count) 2

-- "a time given to the call is judged here too": that needs no state
abbrev pub time_then_words : TdmaTime → List ℕ → List Question
time_then_words x ws = asks_time x ∷ asks_station_words ws ∷ []

-- ---- calls on the station alone

-- all that such a call answers and leaves
pub record StationLeft : Type 0 where
  pub reply : ℕ
  pub station : List ℕ

abbrev pub station_left : ℕ → List ℕ → StationLeft
station_left n ws = record { reply = n; station = ws }

-- the station's words where the number is 0, else those that came in
abbrev pub station_left_by : List ℕ → StationOutcome → StationLeft
station_left_by ws a = cond (eqb (reply_number a.reply) 0) (station_left 0 (station_words a.station)) (station_left (reply_number a.reply) ws)

unfoldable pub new_left : List ℕ → TdmaTime → StationLeft
new_left ws x = ask (time_then_words x ws) (station_left 0 (station_words (new_station x))) (λ n. station_left n ws)

unfoldable pub advance_left : List ℕ → StationLeft
advance_left ws = ask (asks_station_words ws ∷ []) (station_left_by ws (advance_call (station_from ws))) (λ n. station_left n ws)

unfoldable pub owner_answer : List ℕ → TdmaTime → BsSchedOwners
owner_answer ws x =
    let s = station_from ws in
    ask (time_then_words x ws) (owners_struct (owner_call s x PhyBlockNum.Both) (owner_call s x PhyBlockNum.Block1) (owner_call s x PhyBlockNum.Block2))
    no_owners_struct

unfoldable pub usage_answer : List ℕ → TdmaTime → BsSchedUsage
usage_answer ws x = ask (time_then_words x ws) (usage_struct_of (usage_call (station_from ws) x)) (λ n. usage_struct n 0 0)

-- ---- calls that queue

-- all that such a call answers and leaves
pub record Left (R : Type 0) : Type 0 where
  pub reply : R
  pub station : List ℕ
  pub queue : List ℕ
  pub store : List ℕ

abbrev pub left : {R : Type 0} → R → List ℕ → List ℕ → List ℕ → Left R
left r ws qs st = record { reply = r; station = ws; queue = qs; store = st }

-- the memory that a station, a queue of words and a store stand for
abbrev pub memory_from : List ℕ → List ℕ → List ℕ → Memory
memory_from ws qs st = memory (station_from ws) (records_from qs) st

-- what an outcome leaves: its memory in words where the number is 0, else all as it came in
abbrev pub words_left_by : {R : Type 0} → (Numbered → R) → List ℕ → List ℕ → List ℕ → Outcome → Left R
words_left_by reply ws qs st o =
    cond (eqb (reply_number o.reply) 0) (left (reply o.reply) (station_words o.memory.station) (queue_words o.memory.records) o.memory.store)
    (left (reply o.reply) ws qs st)

unfoldable pub request_left : List ℕ → List ℕ → List ℕ → ℕ → ℕ → ℕ → ℕ → Left BsSchedGrant
request_left ws qs st t code kind n =
    ask (asks_station_words ws ∷ []) (words_left_by grant_struct ws qs st (request_call (memory_from ws qs st) t code kind n))
    (λ i. left (not_granted_struct i) ws qs st)

unfoldable pub ack_left : List ℕ → List ℕ → List ℕ → ℕ → ℕ → ℕ → Left ℕ
ack_left ws qs st t kind n =
    ask (asks_station_words ws ∷ []) (words_left_by reply_number ws qs st (ack_call (memory_from ws qs st) t kind n)) (λ i. left i ws qs st)

-- the record's words are lent, so their number is asked with the other lengths, before records and cells are looked at
unfoldable pub enqueue_left : List ℕ → List ℕ → List ℕ → ℕ → List ℕ → List ℕ → Left ℕ
enqueue_left ws qs st t rs sdu =
    let m = memory_from ws qs st in
    let r = offered_from rs in
    ask (asks_station_words ws ∷ memory_questions m (asks_record_words rs ∷ []))
    (words_left_by reply_number ws qs st (tma_call m t r.address.kind r.address.number r.tag r.header r.bits sdu)) (λ i. left i ws qs st)

-- ---- a build

-- all that a build answers and leaves
pub record BuildWordsLeft : Type 0 where
  pub reply : BsSchedBuilt
  pub station : List ℕ
  pub queue : List ℕ
  pub store : List ℕ
  pub block : List ℕ

abbrev pub build_words_left : BsSchedBuilt → List ℕ → List ℕ → List ℕ → List ℕ → BuildWordsLeft
build_words_left r ws qs st block = record { reply = r; station = ws; queue = qs; store = st; block = block }

abbrev pub build_words_left_by : List ℕ → List ℕ → List ℕ → List ℕ → BuildOutcome → BuildWordsLeft
build_words_left_by ws qs st block o =
    cond (eqb (reply_number o.reply) 0) (build_words_left (built_struct o.reply) (station_words o.memory.station) (queue_words o.memory.records)
    o.memory.store o.block)
    (build_words_left (built_struct o.reply) ws qs st block)

unfoldable pub built_left : List ℕ → List ℕ → List ℕ → List ℕ → BuildWordsLeft
built_left ws qs st block =
    ask (asks_station_words ws ∷ []) (build_words_left_by ws qs st block (build_call (memory_from ws qs st) block))
    (λ i. build_words_left (not_built_struct i) ws qs st block)
