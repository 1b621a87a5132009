-- A list of exported calls is a history. Assumes nothing.
use Rattle.std.specs.Prelude.{◌≡◌, cond, List, [], ◌∷◌, ◌++◌, ℕ, eqb, length}
use Rattle.tdma_time.specs.declared.TdmaTime.{TdmaTime}
use Rattle.uplink.specs.declared.PhyBlockNum.{PhyBlockNum}
use Rattle.dl_record.specs.declared.Record.{Record}
use Rattle.sched_core.specs.Questions.{Memory}
use Rattle.sched_core.specs.Replies.{Numbered, reply_number}
use Rattle.sched_core.specs.Calls.{owner_call, usage_call}
use Rattle.sched_words.specs.Words.{record_word_count, offered_from}
use Rattle.history.specs.Call as call
use Rattle.history.specs.Call.{Call}
use Rattle.history.specs.Memory.{memory_step, memory_at}
use Rattle.history.specs.Demand3.{Demand3}
use Rattle.bs_sched_c.specs.Exports.{grant_struct, built_struct, owners_struct, usage_struct_of}
use Rattle.history_words.specs.WordCalls.{WordCall, advance, request, enqueue_ack, enqueue, build, slot_owner, usage}
use Rattle.history_words.specs.WordCalls.{WordReply, number, grant, built, owners, used, words_of, word_step, words_after, new_words}

-- ---- the calls of the history

abbrev pub capacity_request : ℕ → ℕ → ℕ → ℕ → call.CapacityRequest
capacity_request t code kind n = record { timeslot = t; code = code; kind = kind; number = n }

abbrev pub ack_offer : ℕ → ℕ → ℕ → call.AckOffer
ack_offer t kind n = record { timeslot = t; kind = kind; number = n }

-- the record that words offer
abbrev pub record_offer : ℕ → Record → List ℕ → call.RecordOffer
record_offer t r sdu =
    record { timeslot = t; kind = r.address.kind; number = r.address.number; tag = r.tag; header = r.header; bits = r.bits; octets = sdu }

-- an offer of another number of words is no call; the owners of a slot are read by three
abbrev pub calls_of : WordCall → List Call
calls_of advance = call.advance ∷ []
calls_of (request t code kind n) = call.request (capacity_request t code kind n) ∷ []
calls_of (enqueue_ack t kind n) = call.enqueue_ack (ack_offer t kind n) ∷ []
calls_of (enqueue t offered sdu) = cond (eqb (length offered) record_word_count) (call.enqueue_record (record_offer t (offered_from offered) sdu) ∷ []) []
calls_of (build block) = call.build block ∷ []
calls_of (slot_owner x) =
    call.read (call.owner x PhyBlockNum.Both) ∷ call.read (call.owner x PhyBlockNum.Block1) ∷ call.read (call.owner x PhyBlockNum.Block2) ∷ []
calls_of (usage x) = call.read (call.usage x) ∷ []

unfoldable pub word_history : List WordCall → List Call
word_history [] = []
word_history (c ∷ cs) = calls_of c ++ word_history cs

-- ---- the replies of its calls, as the exported functions give them

-- "for B the block or -": the caller's block behind a reply, over the one that was lent
abbrev pub block_left : Numbered → List ℕ → List ℕ
block_left Numbered.done lent = lent
block_left (Numbered.refused n) lent = lent
block_left (Numbered.granted capacity delay marker) lent = lent
block_left (Numbered.block octets tags) lent = octets
block_left Numbered.no_block lent = lent
block_left (Numbered.owned o) lent = lent
block_left (Numbered.used n marker) lent = lent

-- the reply to an exported call in a history that has come to memory m
abbrev pub reply_in : Memory → WordCall → WordReply
reply_in m advance = number (reply_number (memory_step call.advance m).reply)
reply_in m (request t code kind n) = grant (grant_struct (memory_step (call.request (capacity_request t code kind n)) m).reply)
reply_in m (enqueue_ack t kind n) = number (reply_number (memory_step (call.enqueue_ack (ack_offer t kind n)) m).reply)
reply_in m (enqueue t offered sdu) =
    number (cond (eqb (length offered) record_word_count) (reply_number (memory_step (call.enqueue_record (record_offer t (offered_from offered) sdu)) m).reply)
    2)
reply_in m (build block) = let r = (memory_step (call.build block) m).reply in built (built_struct r) (block_left r block)
reply_in m (slot_owner x) =
    let s = m.station in owners (owners_struct (owner_call s x PhyBlockNum.Both) (owner_call s x PhyBlockNum.Block1) (owner_call s x PhyBlockNum.Block2))
reply_in m (usage x) = used (usage_struct_of (usage_call m.station x))

-- ---- the claim

-- cs is any list of exported calls, on what `bs_sched_new` leaves of any 228 words ws for time x
pub record WordsAreAHistory (x : TdmaTime) (ws : List ℕ) (cs : List WordCall) : Type 0 where
  -- the words left are those of the history's memory
  pub left : words_after cs (new_words ws x) ≡ words_of (memory_at x (word_history cs))
  -- and each reply is that of the history's call
  pub replies : (before since : List WordCall) (c : WordCall) → cs ≡ before ++ c ∷ since
      → (word_step c (words_after before (new_words ws x))).reply ≡ reply_in (memory_at x (word_history before)) c
  -- of which demand 3 is proved
  pub demand : Demand3 x (word_history cs)
