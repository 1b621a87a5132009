-- Every call keeps a sound memory sound, and a new station's memory is sound. Assumes nothing.
use Rattle.std.proofs.lemmas.Bool.{and_parts}
use Rattle.std.proofs.Common.{Option, Some, None, Result, Ok, Err}
use mathlib.Core.Path.{◌≡◌, refl, sym, ap, ◌∙◌}
use mathlib.Core.Bool.{Bool, true, false, cond}
use mathlib.Core.List.{List, [], ◌∷◌, ◌++◌}
use Prim.Native.Nat.{ℕ, ◌+◌, ◌-◌, ◌*◌, ◌^◌, ◌≤◌, ◌<◌}
use native.Mathlib.Omega.{arith}
use lib.Dec.{leb}
use lib.ListN.{length, get_or, take, drop, replicate, length-set, length-replicate, get_or-replicate, replicate-append-replicate}
use lib.Seq.{take_at, drop_at, length-paste}
use borrow.Author.Tests.{leb-true, le-leb, lt-ltb, le-ltb}
use Rattle.lists.proofs.Every.{all-weaken}
use Rattle.questions.specs.declared.Refusal.{Refusal}
use Rattle.sizes.specs.Sizes.{cell_octets, per_timeslot, queue_places, store_octets, timeslot_octets, timeslots, latest_delay}
use Rattle.tdma_time.specs.declared.TdmaTime.{TdmaTime}
use Rattle.tdma_time.specs.Time.{Valid}
use Rattle.slot_codes.specs.Codes.{grant_octet}
use Rattle.uplink.specs.Request.{CapAnswer}
use Rattle.uplink.specs.declared.Grant.{Grant}
use Rattle.uplink.specs.declared.Uplink.{Uplink}
use Rattle.uplink.specs.UplinkEntry.{FourRowsOfEighteen, sound_counter, sound_counters}
use Rattle.uplink.specs.Request.{Request, draws, marker_of, answer}
use Rattle.uplink.specs.Uplink.{new_uplink, sound_uplink}
use Rattle.uplink.specs.GrantedExactly.{Proper}
use Rattle.uplink.proofs.Everywhere.{all-at, at_all}
use Rattle.uplink.proofs.TableLaws.{empty-shape, store-shape}
use Rattle.uplink.proofs.SoundLaws.{uplink-parts, advanced-sound}
use Rattle.uplink.proofs.SoundLaws.{new-uplink-sound}
use Rattle.uplink.proofs.AnswerLaws.{answer-shape, answer-four}
use Rattle.uplink.proofs.GrantedExactly.{granted-exactly}
use Rattle.mac_pdus.specs.Legal.{opt_fits, legal_offered}
use Rattle.dl_record.specs.declared.Record.{Record}
use Rattle.dl_record.specs.declared.QueuedHeader.{QueuedHeader}
use Rattle.dl_record.specs.Record.{empty_record, grant_record, ack_record, offered_record, resource_of}
use Rattle.dl_record.specs.Questions.{legal_address, present_sdu}
use Rattle.dl_sdu_store.specs.Cells.{cell_of}
use Rattle.dl_sdu_store.proofs.OctetLaws.{Octets, octets-zero}
use Rattle.dl_queue.specs.Queue.{Item, zero_cell, enqueued, with_cell, records_of, cells_of, Cells}
use Rattle.dl_queue.specs.Questions.{sound_places, sound_queue}
use Rattle.dl_queue.proofs.PushLaws.{rec-shift, cell-shift}
use Rattle.dl_queue.proofs.SoundLaws.{queue-at, queue-all, places-all, empty-sound}
use Rattle.dl_queue.proofs.SetLaws.{length-records, length-cells}
use Rattle.dl_queue.proofs.EnqueueLaws.{grant-joins, ack-joins, offered-joins}
use Rattle.dl_merge.proofs.SoundMerge.{OneCell, each-cells}
use Rattle.dl_send.proofs.KeptLaws.{Staying}
use Rattle.dl_build.specs.Build.{built_of}
use Rattle.dl_build.proofs.AfterBuild.{build-stays, build-holds}
use Rattle.sched_core.specs.Station.{station_of}
use Rattle.sched_core.specs.Questions.{Memory, memory, sound_count, asks_station, queued_for, memory_questions, request_questions, ack_questions, tma_questions}
use Rattle.sched_core.specs.Questions.{build_lent}
use Rattle.sched_core.specs.Replies.{Numbered}
use Rattle.sched_core.specs.Calls.{Outcome, StationOutcome, BuildOutcome, with_record, with_sdu, grant_queued, request_answered}
use Rattle.sched_core.specs.Calls.{request_call, ack_call, tma_call}
use Rattle.sched_core.specs.Calls.{not_built, current, builds_now, built_now, with_left, block_built, build_call, advance_call, new_memory, advance_memory}
use Rattle.sched_core.specs.Invariant.{SoundMemory, EveryCallKeeps}
use Rattle.questions.proofs.AskLaws.{AllYes, ask-elim}
use Rattle.sched_core.proofs.StationLaws.{station-parts, parts-sound}
use Rattle.sched_core.proofs.QuestionLaws.{right-lengths, timeslot-range, address-number, room-left}
use Rattle.sched_core.proofs.GrantLaws.{grant-holds}
use Rattle.sched_core.proofs.QueuesLaws.{record-queued, sdu-queued}

-- what the parts must be for a memory to be sound
pub record Parts (u : Uplink) (ns : List ℕ) (rs : List Record) (st : List ℕ) : Type 0 where
  pub shape : FourRowsOfEighteen u.rows
  pub four-counters : length u.next_usage_marker ≡ timeslots
  pub uplink : sound_uplink u ≡ true
  pub four-counts : length ns ≡ timeslots
  pub places : length rs ≡ queue_places
  pub cells : length st ≡ store_octets
  pub octets : Octets st
  pub queue : sound_queue ns rs st ≡ true

pub parts-memory : (u : Uplink) (ns : List ℕ) (rs : List Record) (st : List ℕ) → Parts u ns rs st → SoundMemory (memory (station_of u ns) rs st)
parts-memory u ns rs st p =
    record {
      station = parts-sound (station_of u ns)
          (record {
            uplink = p.uplink;
            counts = at_all sound_count ns 0 (λ i h. le-leb (get_or ns i 0) per_timeslot (queue-at ns rs st p.queue i h).0);
          });
      queue = p.queue;
      places = p.places;
      cells = p.cells;
      table = p.shape;
      counters = p.four-counters;
      counts = p.four-counts;
      octets = p.octets;
    }

pub memory-parts : (m : Memory) → SoundMemory m → Parts m.station.uplink m.station.queued m.records m.store
memory-parts m h =
    record {
      shape = h.table;
      four-counters = h.counters;
      uplink = (station-parts m.station h.station).uplink;
      four-counts = h.counts;
      places = h.places;
      cells = h.cells;
      octets = h.octets;
      queue = h.queue;
    }

-- ---- advance

pub advance-keeps : (m : Memory) → SoundMemory m → SoundMemory (advance_memory m).memory
unfolding advance_memory advance_call
advance-keeps m h =
    ask-elim (λ (a : StationOutcome). SoundMemory (memory a.station m.records m.store)) (asks_station m.station ∷ []) _ _ (λ r. h)
    (λ yes.
    let p = memory-parts m h in
    parts-memory _ _ _ _
    (record {
      shape = store-shape m.station.uplink.rows _ _ p.shape;
      four-counters = p.four-counters;
      uplink = advanced-sound m.station.uplink p.shape p.uplink;
      four-counts = p.four-counts;
      places = p.places;
      cells = p.cells;
      octets = p.octets;
      queue = p.queue;
    }))

-- ---- a new station

abbrev zeros : ℕ → List ℕ
zeros n = replicate {A = ℕ} n 0

-- 256 octets of a run of zeros are a zero cell
zeros-cell : (n d : ℕ) → d + cell_octets ≤ n → take cell_octets (drop d (zeros n)) ≡ zero_cell
unfolding zero_cell
zeros-cell n d h =
    let e : n ≡ d + (cell_octets + (n - d - cell_octets)) = omega arith in
    let split : zeros n ≡ zeros d ++ (zeros cell_octets ++ zeros (n - d - cell_octets)) =
    ap (λ (k : ℕ). zeros k) e ∙ sym (replicate-append-replicate {A = ℕ} d (cell_octets + (n - d - cell_octets)) 0)
    ∙ ap (λ (l : List ℕ). zeros d ++ l) (sym (replicate-append-replicate {A = ℕ} cell_octets (n - d - cell_octets) 0)) in
    ap (λ (l : List ℕ). take cell_octets (drop d l)) split
    ∙ ap (take cell_octets) (drop_at (zeros d) (zeros cell_octets ++ zeros (n - d - cell_octets)) d (length-replicate {A = ℕ} d 0))
    ∙ take_at (zeros cell_octets) (zeros (n - d - cell_octets)) cell_octets (length-replicate {A = ℕ} cell_octets 0)

-- "every place and cell empty"
pub empty-queue-sound : (k a b : ℕ) → a ≡ per_timeslot * k → b ≡ timeslot_octets * k → sound_queue (zeros k) (replicate a empty_record) (zeros b) ≡ true
empty-queue-sound k a b ea eb = queue-all (zeros k) (replicate a empty_record) (zeros b) (λ u h. timeslot u (omega (arith, h, length-replicate {A = ℕ} k 0)))
  where
    timeslot : (u : ℕ) → u < k → (get_or (zeros k) u 0 ≤ per_timeslot)
        × (sound_places per_timeslot (get_or (zeros k) u 0) (drop (per_timeslot * u) (replicate a empty_record)) (drop (cell_octets * (per_timeslot * u)) (zeros b))
        ≡ true)
    timeslot u h =
        rw (get_or-replicate {A = ℕ} k u 0 0 h) (
          omega arith,
          places-all per_timeslot 0 (drop (per_timeslot * u) (replicate a empty_record)) (drop (cell_octets * (per_timeslot * u)) (zeros b))
              (λ i l.
              rw (
                le-ltb i 0 (omega arith),
                rec-shift (per_timeslot * u) (replicate a empty_record) i ∙ get_or-replicate a (per_timeslot * u + i) empty_record empty_record (omega arith),
                cell-shift (per_timeslot * u) (zeros b) i ∙ zeros-cell b (cell_octets * (per_timeslot * u + i)) (omega arith),
              ) empty-sound),
        )

pub new-memory-sound : (x : TdmaTime) → Valid x → SoundMemory (new_memory x)
unfolding new_memory
new-memory-sound x h =
    parts-memory (new_uplink x) (zeros timeslots) (replicate queue_places empty_record) (zeros store_octets)
    (record {
      shape = empty-shape;
      four-counters = refl;
      uplink = new-uplink-sound x h;
      four-counts = refl;
      places = length-replicate queue_places empty_record;
      cells = length-replicate {A = ℕ} store_octets 0;
      octets = octets-zero store_octets;
      queue = empty-queue-sound timeslots queue_places store_octets refl refl;
    })

-- ---- acks and records

module _ (m : Memory) (t : ℕ) (h : SoundMemory m) (low : 1 ≤ t) (high : t ≤ timeslots) (room : get_or m.station.queued (t - 1) 0 < per_timeslot) where
  abbrev ns : List ℕ
  ns = m.station.queued

  abbrev inside : t - 1 < length ns
  inside = omega (arith, h.counts, low, high)

  -- the memory with a record queued, where the queue stays sound
  joined : (r : Record) (st : List ℕ) (u : Uplink) → FourRowsOfEighteen u.rows → length u.next_usage_marker ≡ timeslots → sound_uplink u ≡ true
      → length st ≡ store_octets → Octets st → sound_queue (enqueued ns m.records (t - 1) r).counts (enqueued ns m.records (t - 1) r).records st ≡ true
      → SoundMemory (memory (station_of u (enqueued ns m.records (t - 1) r).counts) (enqueued ns m.records (t - 1) r).records st)
  joined r st u shape four sound size octets queue =
      parts-memory u _ _ st
      (record {
        shape = shape;
        four-counters = four;
        uplink = sound;
        four-counts = length-set ns (t - 1) (get_or ns (t - 1) 0 + 1) ∙ h.counts;
        places = (record-queued m t r).places ∙ h.places;
        cells = size;
        octets = octets;
        queue = queue;
      })

  abbrev places : length m.records ≡ per_timeslot * length ns
  places = omega (arith, h.counts, h.places)

  abbrev cells : length m.store ≡ timeslot_octets * length ns
  cells = omega (arith, h.counts, h.cells)

  abbrev p : Parts m.station.uplink ns m.records m.store
  p = memory-parts m h

  ack-joined : (kind n : ℕ) → legal_address kind n ≡ true → SoundMemory (with_record m t (ack_record kind n))
  ack-joined kind n a =
      joined (ack_record kind n) m.store m.station.uplink p.shape p.four-counters p.uplink h.cells h.octets
      (ack-joins ns m.records m.store (t - 1) inside room places cells h.queue kind n h.octets a).sound

  tma-joined : (kind n : ℕ) (tag : Option ℕ) (header : QueuedHeader) (bits : ℕ) (sdu : List ℕ) → legal_address kind n ≡ true
      → legal_offered (resource_of (offered_record kind n tag header bits) 0 0) ≡ true → present_sdu bits sdu ≡ true
      → SoundMemory (with_sdu m t (offered_record kind n tag header bits) sdu)
  tma-joined kind n tag header bits sdu a l s =
      let r = offered_record kind n tag header bits in
      let q = offered-joins ns m.records m.store (t - 1) inside room places cells h.queue kind n tag header bits sdu h.octets a l s in
      joined r (with_cell m.store ns (t - 1) (cell_of bits sdu)) m.station.uplink p.shape p.four-counters p.uplink
      ((sdu-queued m t r sdu h.cells low high room).cells ∙ h.cells) q.octets q.sound

  -- ---- requests

  module _ (kind n : ℕ) (address : legal_address kind n ≡ true) (a : CapAnswer) (shape : FourRowsOfEighteen a.uplink.rows)
      (four-ms : length a.uplink.next_usage_marker ≡ timeslots) (sound : sound_uplink a.uplink ≡ true) where
    grant-joined : (g : Grant) → g.capacity ≤ 15 → g.delay ≤ latest_delay → opt_fits 6 g.usage_marker ≡ true
        → SoundMemory (grant_queued m t kind n a (Ok g)).memory
    unfolding grant_queued
    grant-joined g c d w =
        let octet = grant_octet g.capacity g.delay in
        joined (grant_record kind n octet g.usage_marker) m.store a.uplink shape four-ms sound h.cells h.octets
        (grant-joins ns m.records m.store (t - 1) inside room places cells h.queue kind n octet g.usage_marker h.octets address
        (lt-ltb octet (2 ^ 8) (omega (arith, c, d))) w).sound

    answer-joined : (x : Result Grant Refusal) → ((g : Grant) → x ≡ Ok g → (g.capacity ≤ 15) × (g.delay ≤ latest_delay) × (opt_fits 6 g.usage_marker ≡ true))
        → SoundMemory (grant_queued m t kind n a x).memory
    unfolding grant_queued
    answer-joined (Err r) f = h
    answer-joined (Ok g) f = let k = f g refl in grant-joined g k.0 k.1 k.2

module _ (ms : List ℕ) (r : Request) where
  -- a marker drawn from sound counters has six bits
  drawn-fits : (b : Bool) → sound_counter (get_or ms (r.timeslot - 1) 0) ≡ true → opt_fits 6 (cond b (Some (get_or ms (r.timeslot - 1) 0)) None) ≡ true
  drawn-fits true e =
      lt-ltb (get_or ms (r.timeslot - 1) 0) (2 ^ 6) (omega (
        arith,
        leb-true (get_or ms (r.timeslot - 1) 0) 62
            ((and_parts (leb 4 (get_or ms (r.timeslot - 1) 0)) (leb (get_or ms (r.timeslot - 1) 0) 62) e).1),
      ))
  drawn-fits false e = refl

  marker-fits : length ms ≡ timeslots → sound_counters ms ≡ true → 1 ≤ r.timeslot → r.timeslot ≤ timeslots → opt_fits 6 (marker_of ms r) ≡ true
  unfolding marker_of
  marker-fits l e a b = drawn-fits (draws r.code) (all-at sound_counter ms (r.timeslot - 1) 0 (omega (arith, l, a, b)) e)

-- ---- the calls

pub ack-keeps : (m : Memory) (t kind n : ℕ) → SoundMemory m → SoundMemory (ack_call m t kind n).memory
unfolding ack_call
ack-keeps m t kind n h =
    ask-elim (λ (o : Outcome). SoundMemory o.memory) (memory_questions m [] ++ ack_questions (queued_for m.station.queued t) t kind n) _ _ (λ r. h)
    (λ yes.
    let ts = timeslot-range t yes.1.1.1.0 in
    ack-joined m t h ts.0 ts.1 (room-left (queued_for m.station.queued t) yes.1.1.1.1.1.0) kind n yes.1.1.1.1.0)

pub tma-keeps : (m : Memory) (t kind n : ℕ) (tag : Option ℕ) (header : QueuedHeader) (bits : ℕ) (sdu : List ℕ) → SoundMemory m
    → SoundMemory (tma_call m t kind n tag header bits sdu).memory
unfolding tma_call
tma-keeps m t kind n tag header bits sdu h =
    ask-elim (λ (o : Outcome). SoundMemory o.memory)
    (memory_questions m [] ++ tma_questions (queued_for m.station.queued t) t (offered_record kind n tag header bits) sdu) _ _ (λ r. h)
    (λ yes.
    let ts = timeslot-range t yes.1.1.1.0 in
    tma-joined m t h ts.0 ts.1 (room-left (queued_for m.station.queued t) yes.1.1.1.1.1.1.1.0) kind n tag header bits sdu
    yes.1.1.1.1.0 yes.1.1.1.1.1.0 yes.1.1.1.1.1.1.0)

pub request-keeps : (m : Memory) (t code kind n : ℕ) → SoundMemory m → SoundMemory (request_call m t code kind n).memory
unfolding request_call request_answered
request-keeps m t code kind n h =
    ask-elim (λ (o : Outcome). SoundMemory o.memory)
    (memory_questions m [] ++ request_questions (queued_for m.station.queued t) t code kind n) _ _ (λ r. h)
    (λ yes.
    let ts = timeslot-range t yes.1.1.1.0 in
    let p = memory-parts m h in
    let u = m.station.uplink in
    let r : Request = record { timeslot = t; code = code; number = n } in
    let good : Proper u r =
    record {
      shape = p.shape;
      four = p.four-counters;
      sound = p.uplink;
      timeslot-low = ts.0;
      timeslot-high = ts.1;
      code = leb-true code 15 yes.1.1.1.1.0;
      number = address-number kind n yes.1.1.1.1.1.0;
    } in
    answer-joined m t h ts.0 ts.1 (room-left (queued_for m.station.queued t) yes.1.1.1.1.1.1.0) kind n yes.1.1.1.1.1.0
    (answer u r) (answer-shape u r p.shape) (answer-four u r ∙ p.four-counters) (granted-exactly u r good).sound
    (answer u r).reply
    (λ g e.
    let k = grant-holds u r g e in
    let counters = (uplink-parts u p.uplink).counters in
    (k.cap-fits, k.delay-fits, rw k.marker-drawn (marker-fits u.next_usage_marker r p.four-counters counters ts.0 ts.1))))

-- what a build leaves: the timeslot's queue is shorter or as long, and every other stays
left-sound : (m : Memory) → SoundMemory m → SoundMemory (with_left m (current m.station) (built_now m))
unfolding built_now
left-sound m h =
    let p = memory-parts m h in
    let ns = m.station.queued in
    let t = current m.station in
    let left : List (Item (List ℕ)) = (built_of ns m.records m.store t).left in
    let inside : t < length ns = omega (arith, p.four-counts) in
    let many : length m.records ≡ per_timeslot * length ns = omega (arith, p.places, p.four-counts) in
    let size : length m.store ≡ timeslot_octets * length ns = omega (arith, p.cells, p.four-counts) in
    let whole : Cells left =
    each-cells left (all-weaken Staying OneCell (λ x q. q.stored.cell) left (build-stays ns m.records m.store t inside many size h.queue)) in
    let q = build-holds ns m.records m.store t inside many size h.queue h.octets in
    parts-memory _ _ _ _
    (record {
      shape = p.shape;
      four-counters = p.four-counters;
      uplink = p.uplink;
      four-counts = length-set ns _ _ ∙ p.four-counts;
      places =
          length-paste m.records (per_timeslot * t) (records_of per_timeslot left) per_timeslot (omega (arith, p.places))
          (omega (arith, length-records per_timeslot left)) ∙ p.places;
      cells =
          length-paste m.store (cell_octets * (per_timeslot * t)) (cells_of per_timeslot left) timeslot_octets (omega (arith, p.cells))
          (omega (arith, length-cells per_timeslot left whole)) ∙ p.cells;
      octets = q.octets;
      queue = q.sound;
    })

pub build-keeps : (m : Memory) (block : List ℕ) → SoundMemory m → SoundMemory (build_call m block).memory
unfolding build_call
build-keeps m block h =
    ask-elim (λ (o : BuildOutcome). SoundMemory o.memory) (memory_questions m (build_lent block)) _ _ (λ r. h) (λ yes. go (builds_now m.station))
  where
    go : (b : Bool) → SoundMemory (cond b (block_built m (current m.station) (built_now m)) (not_built Numbered.no_block m block)).memory
    go true = left-sound m h
    go false = h

pub every-call-keeps : EveryCallKeeps
every-call-keeps = record { new = new-memory-sound; advance = advance-keeps; request = request-keeps; ack = ack-keeps; tma = tma-keeps; build = build-keeps }

-- of a sound memory questions 1 and 2 are answered yes
pub sound-yes : (m : Memory) → SoundMemory m → AllYes (memory_questions m [])
sound-yes m h = (h.station, (right-lengths m h.places h.cells, (h.queue, tt)))
