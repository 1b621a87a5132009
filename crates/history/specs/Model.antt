-- The reference model (document 01's book), whole: its uplink, and the queues with named grants. Assumes nothing.
use Rattle.std.specs.Prelude.{Bool, true, ◌&&◌, cond, List, [], map, ℕ, suc, eqb, take, Option, Some, None}
use Rattle.sizes.specs.Sizes.{block_width, block_octets}
use Rattle.questions.specs.Questions.{Question, ask}
use Rattle.bitbuffer.specs.Bits.{bits_of}
use Rattle.tdma_time.specs.declared.TdmaTime.{TdmaTime}
use Rattle.tdma_time.specs.Time.{timeslot}
use Rattle.slot_codes.specs.Codes.{grant_octet}
use Rattle.uplink.specs.HalfSlot.{HalfSlot}
use Rattle.uplink.specs.Request.{Verdict, no_run, too_late, grant, capacity, reserved_by, marker_of}
use Rattle.mac_reader.specs.PduList.{Pdu, whole, first, frag, final, null, block_bits}
use Rattle.dl_record.specs.declared.Kind.{Kind}
use Rattle.dl_record.specs.Record.{grant_record, ack_record}
use Rattle.dl_record.specs.Kind.{is_grant}
use Rattle.dl_queue.specs.Queue.{Item, item}
use Rattle.dl_merge.specs.Merge.{Named, merge_named}
use Rattle.dl_send.specs.Send.{Sent, block_of, null_in, Turn, turns, read_off}
use Rattle.dl_build.specs.Build.{in_order, build_list}
use Rattle.sched_core.specs.Questions.{request_questions, ack_questions, tma_questions, build_lent, time_questions}
use Rattle.sched_core.specs.Replies.{Numbered, done, refused, granted, block, no_block}
use Rattle.history.specs.Call.{CapacityRequest, request_of, record_of, time_read, Call, advance, request, enqueue_ack, enqueue_record, build, read}
use Rattle.history.specs.Call.{Stepped, stepped, unless_refused, run}
use Rattle.history.specs.Queues.{Queues, no_queues, queue_at, queued_at, with_queue_at, appended, can_build}
use Rattle.history.specs.UplinkModel.{UplinkModel, new_uplink_model, model_view, advanced_uplink_model, model_verdict, taken_for}

-- an SDU's bits, and the name of the grant in the header, if it has one: a place in the history
abbrev pub NamedSdu : Type 0
NamedSdu = Named (List ℕ) ℕ

abbrev pub named_sdu : NamedSdu → ℕ → List ℕ
named_sdu c n = c.sdu

-- what goes with a request's grant, with a record without SDU, and with one that has an SDU of n bits in these octets
abbrev pub named : ℕ → NamedSdu
named k = record { sdu = []; name = Some k }

abbrev pub bare : NamedSdu
bare = record { sdu = []; name = None }

abbrev pub of_sdu : ℕ → List ℕ → NamedSdu
of_sdu n octets = record { sdu = take n (bits_of octets); name = None }

-- the uplink, the queues, and how many calls there were
pub record Model : Type 0 where
  pub uplink : UplinkModel
  pub queues : Queues NamedSdu
  pub count : ℕ

-- "It begins at the new station's time, markers at 4, no half-slot taken, nothing queued."
unfoldable pub new_model : TdmaTime → Model
new_model x = record { uplink = new_uplink_model x; queues = no_queues; count = 0 }

-- one call more: with this uplink, these queues and this reply
abbrev pub became : Model → UplinkModel → Queues NamedSdu → Numbered → Stepped Model
became m u qs r = stepped (record { uplink = u; queues = qs; count = suc m.count }) r

-- "a refused call, or one that only reads, changes nothing": it is counted
abbrev pub only_counted : Model → Model
only_counted m = record { uplink = m.uplink; queues = m.queues; count = suc m.count }

-- ---- a request

-- what it is asked before the search: "Questions about table or queue are asked of the book"
abbrev pub request_asked : CapacityRequest → Model → List Question
request_asked a m = request_questions (queued_at m.queues a.timeslot) a.timeslot a.code a.kind a.number

-- "The half-slots it takes, in order, [..] are its reserved list": none where a question is answered no
unfoldable pub reserved : CapacityRequest → Model → List HalfSlot
reserved a m = ask (request_asked a m) (reserved_by (model_view m.uplink.taken) a.code (model_verdict m.uplink (request_of a))) (λ n. [])

-- "9. Does the run exist?" "10. At most 13 before it?" "Its grant, with the delay counted there and any marker drawn as above, is queued and
-- named after the request": after its place in the history
unfoldable pub requested : CapacityRequest → Verdict → Model → Stepped Model
requested a no_run m = stepped (only_counted m) (refused 9)
requested a too_late m = stepped (only_counted m) (refused 10)
requested a (grant g) m =
    let cap = capacity (model_view m.uplink.taken) a.code g.slots in
    let marker = marker_of m.uplink.markers (request_of a) in
    let its = item (grant_record a.kind a.number (grant_octet cap g.delay) marker) (named m.count) in
    became m (taken_for (request_of a) g m.uplink) (appended m.queues a.timeslot its) (granted cap g.delay marker)

-- ---- a build

abbrev pub queue_now : Model → List (Item NamedSdu)
queue_now m = queue_at m.queues (timeslot m.uplink.now)

-- "A build works on the current timeslot, merges, then takes waiting and started records in queue order, then records": a block of w bits
unfoldable pub named_built : ℕ → List (Item NamedSdu) → Sent NamedSdu
named_built w xs = build_list named_sdu w (merge_named [] xs)

-- "268 bits in 34 octets"; "What did not finish stays"; "Tags of finished records come back in order"
unfoldable pub built : Model → Stepped Model
built m =
    let s : Sent NamedSdu = named_built block_width (queue_now m) in
    cond (can_build m.uplink.now m.queues)
    (became m m.uplink (with_queue_at m.queues (timeslot m.uplink.now) s.left) (block (block_of block_octets (block_bits s.pdus)) s.tags))
    (stepped (only_counted m) no_block)

-- ---- a call

-- "Questions about table or queue are asked of the book"; "Queueings and builds follow the two sections above"
unfoldable pub model_step : Call → Model → Stepped Model
model_step advance m = became m (advanced_uplink_model m.uplink) m.queues done
model_step (request a) m =
    unless_refused (request_asked a m) (only_counted m) (requested a (model_verdict m.uplink (request_of a)) m)
model_step (enqueue_ack o) m =
    unless_refused (ack_questions (queued_at m.queues o.timeslot) o.timeslot o.kind o.number) (only_counted m)
    (became m m.uplink (appended m.queues o.timeslot (item (ack_record o.kind o.number) bare)) done)
model_step (enqueue_record o) m =
    unless_refused (tma_questions (queued_at m.queues o.timeslot) o.timeslot (record_of o) o.octets) (only_counted m)
    (became m m.uplink (appended m.queues o.timeslot (item (record_of o) (of_sdu o.bits o.octets))) done)
model_step (build b) m = unless_refused (build_lent b) (only_counted m) (built m)
model_step (read q) m = unless_refused (time_questions (time_read q)) (only_counted m) (stepped (only_counted m) done)

-- the model after a list of calls on a new station at time x
abbrev pub model_at : TdmaTime → List Call → Model
model_at x cs = run model_step cs (new_model x)

-- ---- the block that the model builds now

-- its PDUs
unfoldable pub pdus_built : Model → List Pdu
pdus_built m = (named_built block_width (queue_now m)).pdus

-- "into the header written": the name goes with the MAC-RESOURCE that has the record's header; MAC-FRAG, MAC-END and the null PDU have none
abbrev pub name_in : Option ℕ → Pdu → Option ℕ
name_in name (whole r b) = name
name_in name (first r b) = name
name_in name (frag f b) = None
name_in name (final e b) = None
name_in name null = None

-- "a grant keeps its name through merging into the header written": for each PDU of the turns the name of the grant in its header, or none
abbrev pub names_in : ℕ → List (Turn NamedSdu) → List (Option ℕ)
names_in room ts = read_off (λ t. map (name_in t.taken.load.name) t.next.pdus) (λ left. map (name_in None) (null_in left)) room ts

unfoldable pub names_built : Model → List (Option ℕ)
names_built m = names_in block_width (turns named_sdu true block_width (in_order (merge_named [] (queue_now m))))

-- ---- grants in no header yet

-- the name of a grant that is queued, alone or in a record that waits, and in no header yet
abbrev pub pending_as : Kind → Option ℕ → Option ℕ
pending_as Kind.Grant name = name
pending_as Kind.Ack name = None
pending_as Kind.Record name = None
pending_as Kind.Waiting name = name
pending_as Kind.Started name = None

abbrev pub pending : Item NamedSdu → Option ℕ
pending y = pending_as y.rec.kind y.load.name

-- "A grant replaces the grant there": y, queued behind the grant g, is a grant for its number
abbrev pub replaces : Item NamedSdu → Item NamedSdu → Bool
replaces y g = is_grant g.rec.kind && is_grant y.rec.kind && eqb y.rec.address.number g.rec.address.number
