-- The calls of a history with their arguments, and what a call comes to. Assumes nothing.
use Rattle.std.specs.Prelude.{List, [], ◌∷◌, ℕ, Option}
use Rattle.questions.specs.Questions.{Question, ask}
use Rattle.tdma_time.specs.declared.TdmaTime.{TdmaTime}
use Rattle.uplink.specs.declared.PhyBlockNum.{PhyBlockNum}
use Rattle.uplink.specs.Request.{Request}
use Rattle.dl_record.specs.declared.QueuedHeader.{QueuedHeader}
use Rattle.dl_record.specs.declared.Record.{Record}
use Rattle.dl_record.specs.Record.{offered_record}
use Rattle.sched_core.specs.Replies.{Numbered, refused}

-- a request for capacity, as the call is given it: timeslot, requirement code, address kind and number
pub record CapacityRequest : Type 0 where
  pub timeslot : ℕ
  pub code : ℕ
  pub kind : ℕ
  pub number : ℕ

-- what the search is asked
abbrev pub request_of : CapacityRequest → Request
request_of a = record { timeslot = a.timeslot; code = a.code; number = a.number }

-- "the queue call takes acks and records": an ack
pub record AckOffer : Type 0 where
  pub timeslot : ℕ
  pub kind : ℕ
  pub number : ℕ

-- and a record, with the octets of its SDU: "An SDU or block is lent with its call, whatever it holds."
pub record RecordOffer : Type 0 where
  pub timeslot : ℕ
  pub kind : ℕ
  pub number : ℕ
  pub tag : Option ℕ
  pub header : QueuedHeader
  pub bits : ℕ
  pub octets : List ℕ

abbrev pub record_of : RecordOffer → Record
record_of o = offered_record o.kind o.number o.tag o.header o.bits

-- "those that only read the station": who holds a half of the slot at a time or both, and how that slot is used
pub data Query : Type 0 where
  owner : TdmaTime → PhyBlockNum → Query
  usage : TdmaTime → Query

abbrev pub time_read : Query → TdmaTime
time_read (owner x half) = x
time_read (usage x) = x

-- "Its calls are advances, requests, queueings, builds and those that only read the station"; a build with its block, "whatever it holds"
pub data Call : Type 0 where
  advance : Call
  request : CapacityRequest → Call
  enqueue_ack : AckOffer → Call
  enqueue_record : RecordOffer → Call
  build : List ℕ → Call
  read : Query → Call

-- ---- a step: what a call leaves, and its reply

pub record Stepped (S : Type 0) : Type 0 where
  pub after : S
  pub reply : Numbered

module _ {S : Type 0} where
  abbrev pub stepped : S → Numbered → Stepped S
  stepped s r = record { after = s; reply = r }

  -- "On a no, the number is the whole reply and each lent bit and the state are those that came in."
  unfoldable pub unless_refused : List Question → S → Stepped S → Stepped S
  unless_refused qs s fine = ask qs fine (λ n. stepped s (refused n))

  -- "In a history each call gets state, queue and store as the last one left them"
  unfoldable pub run : (Call → S → Stepped S) → List Call → S → S
  run step [] s = s
  run step (c ∷ cs) s = run step cs (step c s).after
