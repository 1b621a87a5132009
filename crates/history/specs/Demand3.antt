-- Demand 3: one claim about a whole history. Assumes nothing.
--
-- cs is any list of calls on a new station at time x. A call of the history is a way to cut the list, `before ++ c ∷ since`; the reference
-- model as the call met it is `model_at x before`.
use Rattle.std.specs.Prelude.{◌≡◌, ◌↔◌, ◌⊎◌, true, false, ℕ, ◌+◌, ◌*◌, ◌≤◌, ◌<◌, length, get_or, Option, Some, None}
use mathlib.Core.List.{List, [], ◌∷◌, ◌++◌, map, Memᴰ}
use Rattle.sizes.specs.Sizes.{timeslots, per_timeslot, frames_searched, block_octets}
use Rattle.tdma_time.specs.declared.TdmaTime.{TdmaTime}
use Rattle.tdma_time.specs.Time.{Valid, cycle, slot_of, time_of, clock, first_usable, timeslot}
use Rattle.slot_codes.specs.Codes.{grant_octet, capacity_of, delay_of}
use Rattle.uplink.specs.declared.Entry.{Entry}
use Rattle.uplink.specs.declared.PhyBlockNum.{PhyBlockNum}
use Rattle.uplink.specs.HalfSlot.{Half, HalfSlot}
use Rattle.uplink.specs.UplinkEntry.{empty_entry, SameEntry, owner_of, table_view}
use Rattle.uplink.specs.Request.{ms_half_slots}
use Rattle.mac_pdus.specs.declared.ResourceHeader.{ResourceHeader}
use Rattle.mac_pdus.specs.declared.PduHeader.{PduHeader}
use Rattle.mac_pdus.specs.Legal.{number_of}
use Rattle.mac_reader.specs.PduList.{placed}
use Rattle.mac_reader.specs.Reader.{headers, no_header, reply_of, read_block}
use Rattle.dl_record.specs.Kind.{is_started}
use Rattle.dl_record.specs.Record.{empty_record}
use Rattle.dl_queue.specs.Queue.{Item}
use Rattle.sched_core.specs.Questions.{Memory}
use Rattle.sched_core.specs.Replies.{Numbered, granted, block, owned, used_as}
use Rattle.sched_core.specs.Calls.{owner_call, usage_call}
use Rattle.sched_core.specs.Invariant.{SoundMemory}
use Rattle.history.specs.Call.{CapacityRequest, Query, owner, usage, time_read, Call, advance, request, enqueue_ack, enqueue_record, build, read}
use Rattle.history.specs.UplinkModel.{model_entry}
use Rattle.history.specs.Model.{NamedSdu, Model, reserved, model_step, model_at, queue_now, pdus_built, names_built, pending, replaces}
use Rattle.history.specs.Memory.{read_answer, memory_step, memory_at}

-- "4,320 to a hyperframe": the slots of 65,535 hyperframes
abbrev pub farthest : ℕ
farthest = 65535 * 4320

-- "Requests are apart by the slots advanced between them"
abbrev pub slots_in : Call → ℕ
slots_in advance = 1
slots_in (request a) = 0
slots_in (enqueue_ack o) = 0
slots_in (enqueue_record o) = 0
slots_in (build b) = 0
slots_in (read q) = 0

unfoldable pub slots_advanced : List Call → ℕ
slots_advanced [] = 0
slots_advanced (c ∷ cs) = slots_in c + slots_advanced cs

-- "The 17 frames in which table and book agree are 68 slots, now's the first."
abbrev pub slots_agreed : ℕ
slots_agreed = timeslots * frames_searched

-- the i-th header that the reader lists in a block is this MAC-RESOURCE, with this grant octet
pub record GrantRead (octets : List ℕ) (i : ℕ) (h : ResourceHeader) (octet : ℕ) : Type 0 where
  pub listed : i < (read_block block_octets octets).count
  pub header : (get_or (read_block block_octets octets).headers i no_header).header ≡ PduHeader.Resource h
  pub grant : h.slot_granting_element ≡ Some octet

-- The granted request of a history that a grant is named after: the name is the request's place, the octet is that of its grant, and timeslot and
-- address number are the request's.
pub record Origin (x : TdmaTime) (cs : List Call) (t number octet name : ℕ) : Type 0 where
  pub before : List Call
  pub since : List Call
  pub asker : CapacityRequest
  pub cut : cs ≡ before ++ request asker ∷ since
  pub place : length before ≡ name
  pub its-timeslot : asker.timeslot ≡ t
  pub its-number : asker.number ≡ number
  pub capacity : ℕ
  pub delay : ℕ
  pub marker : Option ℕ
  pub reply : (model_step (request asker) (model_at x before)).reply ≡ granted capacity delay marker
  pub its-octet : grant_octet capacity delay ≡ octet

-- the half-slots reserved for a request met by model m, and those that a mobile station derives from a grant octet at slot b, are equal exactly
-- when the first usable slot of the timeslot at or after the request's time is the first at or after b
abbrev pub DerivedAt : Model → CapacityRequest → ℕ → ℕ → Type 0
DerivedAt m a octet b =
    (reserved a m ≡ ms_half_slots a.timeslot (capacity_of octet) (delay_of octet) b)
    ↔ (clock (first_usable a.timeslot m.uplink.now) ≡ clock (first_usable a.timeslot b))

-- the grant octet in a header h of the block built after the calls cs is that of the request called `name`, and what a mobile station derives from it,
-- read at the block's slot, is as above
abbrev pub ItsGrant : TdmaTime → List Call → ResourceHeader → ℕ → ℕ → Type 0
ItsGrant x cs h octet name =
    (o : Origin x cs (timeslot (model_at x cs).uplink.now) (number_of h.address) octet name)
    × DerivedAt (model_at x o.before) o.asker octet (model_at x cs).uplink.now

-- what an entry answers to a call that only reads
abbrev pub entry_reading : Query → Entry → Numbered
entry_reading (owner x half) e = owned (owner_of half e)
entry_reading (usage x) e = used_as e

-- asked for a valid time with the timeslot and frame of slot c, a call that only reads answers what entry e holds
abbrev pub AnswersAt : Query → Memory → ℕ → Entry → Type 0
AnswersAt q m c e = Valid (time_read q) → SameEntry (slot_of (time_read q)) c → read_answer q m ≡ entry_reading q e

-- Half-slot y stands reserved under number w: a request of number w reserved it, and its slot is not passed.
pub record Standing (x : TdmaTime) (cs : List Call) (y : HalfSlot) (w : ℕ) : Type 0 where
  pub before : List Call
  pub since : List Call
  pub asker : CapacityRequest
  pub cut : cs ≡ before ++ request asker ∷ since
  pub number : asker.number ≡ w
  pub has : Memᴰ y (reserved asker (model_at x before))
  pub off : ℕ
  pub there : y.time ≡ clock ((model_at x before).uplink.now + off)
  pub soon : off < slots_agreed
  pub not-passed : slots_advanced since ≤ off

pub record Demand3 (x : TdmaTime) (cs : List Call) : Type 0 where
  -- "The station grants the requests, with those grants, and builds the blocks that the book does, and no others."
  pub replies : (before since : List Call) (c : Call) → cs ≡ before ++ c ∷ since
      → (memory_step c (memory_at x before)).reply ≡ (model_step c (model_at x before)).reply
  -- "read in the block as the build left it": a reader takes each built block, and lists the headers that the model wrote, at their bit positions
  pub listed : (before since : List Call) (b : List ℕ) → cs ≡ before ++ build b ∷ since → (octets tags : List ℕ)
      → (memory_step (build b) (memory_at x before)).reply ≡ block octets tags
      → read_block block_octets octets ≡ reply_of (headers (placed 0 (pdus_built (model_at x before))))
  -- "In that header [..] the request's grant stands": where the model wrote a grant's name, the reader lists a MAC-RESOURCE with the grant of the
  -- request of this name
  pub stands : (before since : List Call) (b : List ℕ) → cs ≡ before ++ build b ∷ since → (octets tags : List ℕ)
      → (memory_step (build b) (memory_at x before)).reply ≡ block octets tags
      → (i name : ℕ) → get_or (names_built (model_at x before)) i None ≡ Some name
      → (h : ResourceHeader) × (octet : ℕ) × GrantRead octets i h octet × ItsGrant x before h octet name
  -- and the other way: each grant that is read in a built block is named after a granted request, and is that request's grant; what was reserved for
  -- the request is what a mobile station derives from the grant, read at the block's slot, exactly when the two first usable slots are one
  pub derived : (before since : List Call) (b : List ℕ) → cs ≡ before ++ build b ∷ since → (octets tags : List ℕ)
      → (memory_step (build b) (memory_at x before)).reply ≡ block octets tags
      → (i : ℕ) (h : ResourceHeader) (octet : ℕ) → GrantRead octets i h octet
      → (name : ℕ) × (get_or (names_built (model_at x before)) i None ≡ Some name) × ItsGrant x before h octet name
  -- no grant gets lost: one that is queued and in no header yet is written by the build, in the header of its name, or it stays queued, unless a grant
  -- behind it replaces it
  pub kept : (before since : List Call) (b : List ℕ) → cs ≡ before ++ build b ∷ since → (octets tags : List ℕ)
      → (memory_step (build b) (memory_at x before)).reply ≡ block octets tags
      → (front back : List (Item NamedSdu)) (g : Item NamedSdu) (name : ℕ)
      → queue_now (model_at x before) ≡ front ++ g ∷ back → pending g ≡ Some name
      → ((y : Item NamedSdu) → Memᴰ y back → replaces y g ≡ false)
      → Memᴰ (Some name) (names_built (model_at x before))
      ⊎ Memᴰ (Some name) (map pending (queue_now (model_at x (before ++ build b ∷ []))))
  -- two requests at most 65,535 hyperframes apart reserve no half-slot both
  pub disjoint : (before between since : List Call) (a a' : CapacityRequest) → cs ≡ before ++ request a ∷ between ++ request a' ∷ since
      → slots_advanced between ≤ farthest
      → (y : HalfSlot) → Memᴰ y (reserved a (model_at x before))
      → Memᴰ y (reserved a' (model_at x (before ++ request a ∷ between))) → ⊥
  -- "It begins at the new station's time", "An advance takes the next time": the station's time is a valid one, and the model's now
  pub time : Valid (memory_at x cs).station.uplink.time
  pub now : slot_of (memory_at x cs).station.uplink.time ≡ (model_at x cs).uplink.now
  pub in-range : (model_at x cs).uplink.now < cycle
  -- in the 68 slots from now on the table has taken exactly the half-slots reserved and not passed, each under its request's number
  pub table : (k : ℕ) → k < slots_agreed → (h : Half) (w : ℕ)
      → (table_view (memory_at x cs).station.uplink.rows (slot_of (memory_at x cs).station.uplink.time + k) h ≡ Some w)
      ↔ Standing x cs (record { time = clock (slot_of (memory_at x cs).station.uplink.time + k); half = h }) w
  -- asked for a time in these 68 slots, owner call and usage call answer as the model has the slot's halves taken, with the marker that their request
  -- drew or none
  pub owners : (k : ℕ) → k < slots_agreed → (half : PhyBlockNum)
      → let c = slot_of (memory_at x cs).station.uplink.time + k in
      owner_call (memory_at x cs).station (time_of c) half ≡ owned (owner_of half (model_entry (model_at x cs).uplink.taken c))
  pub usages : (k : ℕ) → k < slots_agreed
      → let c = slot_of (memory_at x cs).station.uplink.time + k in
      usage_call (memory_at x cs).station (time_of c) ≡ used_as (model_entry (model_at x cs).uplink.taken c)
  -- and so do they where they stand in the list, by value: asked for a time in the 68 slots from the model's now on, they answer what the model has
  -- taken in that slot then
  pub reads : (before since : List Call) (q : Query) → cs ≡ before ++ read q ∷ since → (k : ℕ) → k < slots_agreed
      → let c = (model_at x before).uplink.now + k in
      time_read q ≡ time_of c → read_answer q (memory_at x before) ≡ entry_reading q (model_entry (model_at x before).uplink.taken c)
  -- The table is "indexed by timeslot and frame", so that a time outside of these slots is answered for a slot some times 18 frames away: for that of
  -- the 68 which has its timeslot and frame,
  pub elsewhere : (before since : List Call) (q : Query) → cs ≡ before ++ read q ∷ since → (k : ℕ) → k < slots_agreed
      → let c = (model_at x before).uplink.now + k in
      AnswersAt q (memory_at x before) c (model_entry (model_at x before).uplink.taken c)
  -- or the next behind them, whose entry is that of "the slot four earlier" and empty,
  pub emptied : (before since : List Call) (q : Query) → cs ≡ before ++ read q ∷ since
      → AnswersAt q (memory_at x before) ((model_at x before).uplink.now + slots_agreed) empty_entry
  -- or one of the three slots left last, whose entries stand as they were left
  pub left : (before between since : List Call) (q : Query) → cs ≡ before ++ advance ∷ between ++ read q ∷ since → slots_advanced between ≤ 2
      → let c = (model_at x before).uplink.now in
      AnswersAt q (memory_at x (before ++ advance ∷ between)) c (model_entry (model_at x before).uplink.taken c)
  -- what the code holds is sound: question 1 is never answered no
  pub sound : SoundMemory (memory_at x cs)
  -- W-201: "MAC-FRAG carries no address, so handsets join the wrong bits. From now on, once a record has found no place in a block, no later record
  -- starts fragments in that block": of the records queued for a timeslot (counted from 0) at most one is started, and it is the first. So a MAC-FRAG
  -- or MAC-END goes on with the one message that is open in its timeslot, and needs no address.
  pub one-open : (t i : ℕ) → t < timeslots → i < get_or (memory_at x cs).station.queued t 0
      → is_started (get_or (memory_at x cs).records (per_timeslot * t + i) empty_record).kind ≡ true → i ≡ 0
