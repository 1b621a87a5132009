-- The same for records and the queue. Assumes nothing.
use Rattle.std.proofs.lemmas.Bool.{and_parts}
use Rattle.std.proofs.Common.{◌≡◌, ℕ, zero, suc, ◌*◌, ◌%◌, ◌^◌, ◌<◌, ◌≤◌, true, false, not, ◌&&◌}
use Rattle.std.proofs.Common.{eqb, ltb, leb, List, [], ◌∷◌, ◌++◌, length, get_or, take, Option, Some, None}
use Rattle.std.proofs.Common.{drop, replicate, sym, refl, ap, ◌∙◌, subst, append_assoc, append-nil, arith, length-drop, take-append-drop, ltb-true, eq-eqb}
use Rattle.std.proofs.Common.{eqb-true, leb-true}
use Rattle.lists.proofs.Every.{All, all_append, all_drop}
use Rattle.sizes.specs.Sizes.{per_timeslot, queue_places, timeslot_octets}
use Rattle.uplink.proofs.Basics.{not-both}
use Rattle.mac_pdus.specs.declared.ChanAllocElement.{ChanAllocElement}
use Rattle.dl_record.specs.declared.Kind.{Kind}
use Rattle.dl_record.specs.declared.Record.{Record}
use Rattle.mac_pdus.specs.Legal.{fits, absent, opt_below, opt_fits, legal_frame18, legal_chan_alloc}
use Rattle.mac_pdus.specs.Legal.{legal_opt_chan_alloc, legal_queued}
use Rattle.mac_pdus.specs.Within.{OptWithin}
use Rattle.mac_pdus.proofs.LegalLaws.{is-absent}
use Rattle.mac_pdus.proofs.Conjunctions.{and3, and4, and10, and6}
use Rattle.dl_record.specs.Record.{empty_record, resource_of}
use Rattle.dl_record.proofs.HeaderLaws.{legal-fields}
use Rattle.dl_record.proofs.RecordLaws.{empty-is}
use Rattle.dl_sdu_store.specs.Cells.{clean_past}
use Rattle.dl_record.specs.Questions.{legal_address, header_holds_grant_only, holds_grant_only, sound_as, sound_record, is_empty}
use Rattle.dl_queue.specs.Questions.{sound_place, sound_places, sound_queue}
use Rattle.sched_core.specs.Questions.{Memory}
use Rattle.sched_core.specs.Invariant.{SoundMemory}
use Rattle.sched_words.specs.Words.{record_word_count, queue_word_count, station_words, station_from, kind_word}
use Rattle.sched_words.specs.Words.{kind_from}
use Rattle.sched_words.specs.Words.{alloc_words, alloc_from, record_words, record_read, no_record, queue_words, records_read, queue_from}
use Rattle.sched_words.specs.Words.{records_from}
use Rattle.sched_words.proofs.WordLaws.{record-size, length-joined}
use Rattle.sched_words.proofs.RoundTrip.{small, opt-back, read_back, words_of, parts-back, station-back}

-- ---- a record whose fields have the widths of their types

pub record ChanAllocFits (c : ChanAllocElement) : Type 0 where
  pub kind : c.alloc_type < 256
  pub slots : c.ts_assigned < 256
  pub direction : c.ul_dl_assigned < 256
  pub clch : c.clch_permission < 256
  pub change : c.cell_change_flag < 256
  pub carrier : c.carrier_num < 65536
  pub extended : c.ext_carrier_num_flag < 256
  pub pattern : c.mon_pattern < 256
  pub frame18 : OptWithin 8 c.frame18_mon_pattern

abbrev pub AllocFits : Option ChanAllocElement → Type 0
AllocFits None = Unit
AllocFits (Some c) = ChanAllocFits c

pub record RecordFits (r : Record) : Type 0 where
  pub address : r.address.kind < 256
  pub tag : OptWithin 16 r.tag
  pub position : r.header.pos_of_grant < 256
  pub encryption : r.header.encryption_mode < 256
  pub access : r.header.random_access_flag < 256
  pub label : OptWithin 16 r.header.event_label
  pub marker : OptWithin 8 r.header.usage_marker
  pub power : OptWithin 8 r.header.power_control_element
  pub grant : OptWithin 8 r.header.slot_granting_element
  pub alloc : AllocFits r.header.chan_alloc_element
  pub bits : r.bits < 65536
  pub sent : r.sent < 65536

-- ---- read back

kind-back : (k : Kind) → kind_from (kind_word k) ≡ k
kind-back Kind.Grant = refl
kind-back Kind.Ack = refl
kind-back Kind.Record = refl
kind-back Kind.Waiting = refl
kind-back Kind.Started = refl

pub alloc-back : (o : Option ChanAllocElement) → AllocFits o → (rest : List ℕ) → alloc_from (alloc_words o ++ rest) ≡ o
alloc-back None h rest = refl
alloc-back (Some c) h rest =
    λ i. Some (record {
      alloc_type = small 256 c.alloc_type h.kind i;
      ts_assigned = small 256 c.ts_assigned h.slots i;
      ul_dl_assigned = small 256 c.ul_dl_assigned h.direction i;
      clch_permission = small 256 c.clch_permission h.clch i;
      cell_change_flag = small 256 c.cell_change_flag h.change i;
      carrier_num = small 65536 c.carrier_num h.carrier i;
      ext_carrier_num_flag = small 256 c.ext_carrier_num_flag h.extended i;
      mon_pattern = small 256 c.mon_pattern h.pattern i;
      frame18_mon_pattern = opt-back 8 c.frame18_mon_pattern (omega arith) h.frame18 i;
    })

-- words 11 to 22, and what follows them
abbrev tail : Option ChanAllocElement → ℕ → ℕ → List ℕ → List ℕ
tail o bits sent rest = (alloc_words o ++ bits ∷ sent ∷ []) ++ rest

module _ (bits sent : ℕ) (rest : List ℕ) where
  bits_at : (o : Option ChanAllocElement) → get_or (tail o bits sent rest) 10 0 ≡ bits
  bits_at None = refl
  bits_at (Some c) = refl

  sent-at : (o : Option ChanAllocElement) → get_or (tail o bits sent rest) 11 0 ≡ sent
  sent-at None = refl
  sent-at (Some c) = refl

record-read-back : (r : Record) → RecordFits r → (rest : List ℕ) → record_read (record_words r ++ rest) ≡ r
unfolding record_read record_words
record-read-back r f rest =
    let h = r.header in
    let o = h.chan_alloc_element in
    λ i. record {
      kind = kind-back r.kind i;
      address = record { kind = small 256 r.address.kind f.address i; number = r.address.number };
      tag = opt-back 16 r.tag (omega arith) f.tag i;
      header = record {
        pos_of_grant = small 256 h.pos_of_grant f.position i;
        encryption_mode = small 256 h.encryption_mode f.encryption i;
        random_access_flag = small 256 h.random_access_flag f.access i;
        event_label = opt-back 16 h.event_label (omega arith) f.label i;
        usage_marker = opt-back 8 h.usage_marker (omega arith) f.marker i;
        power_control_element = opt-back 8 h.power_control_element (omega arith) f.power i;
        slot_granting_element = opt-back 8 h.slot_granting_element (omega arith) f.grant i;
        chan_alloc_element = (ap alloc_from (append_assoc (alloc_words o) (r.bits ∷ r.sent ∷ []) rest) ∙ alloc-back o f.alloc (r.bits ∷ r.sent ∷ rest)) i;
      };
      bits = (ap (λ (n : ℕ). n % 65536) (bits_at r.bits r.sent rest o) ∙ small 65536 r.bits f.bits) i;
      sent = (ap (λ (n : ℕ). n % 65536) (sent-at r.bits r.sent rest o) ∙ small 65536 r.sent f.sent) i;
    }

-- 64 records are those that their words stand for
pub queue-back : (rs : List Record) → length rs ≡ queue_places → All RecordFits rs → records_from (queue_words rs) ≡ rs
unfolding records_from queue_from
queue-back rs e f =
    let size : length (queue_words rs) ≡ queue_word_count = length-joined record_words record_word_count record-size rs ∙ omega (arith, e) in
    rw (eq-eqb _ _ size)
    (read_back queue_words records_read (replicate queue_places no_record) rs
    (ap records_read (sym (append-nil (queue_words rs))) ∙ parts-back record_words record_read record_word_count record-size RecordFits record-read-back
    queue_places
    rs [] e f))

-- ---- the fields of a sound record have the widths of their types, but for the tag, of which question 1 asks nothing

below : (limit : ℕ) (o : Option ℕ) → limit ≤ 256 → opt_below limit o ≡ true → OptWithin 8 o
below limit None l h = tt
below limit (Some v) l h = let k : v < limit = ltb-true v limit h in omega arith

if-absent : {A : Type 0} (P : Option A → Type 0) → P None → (o : Option A) → absent o ≡ true → P o
if-absent P none o h = subst P (sym (is-absent o h)) none

frame18-fits : (n : ℕ) (o : Option ℕ) → legal_frame18 n o ≡ true → OptWithin 8 o
frame18-fits n None h = tt
frame18-fits n (Some v) h = let k : v < 2 ^ 2 = ltb-true v (2 ^ 2) (and_parts (eqb n 0) (fits 2 v) h).1 in omega arith

alloc-fits : (o : Option ChanAllocElement) → legal_opt_chan_alloc o ≡ true → AllocFits o
unfolding legal_chan_alloc
alloc-fits None h = tt
alloc-fits (Some c) h =
    let p = and10 (fits 2 c.alloc_type) (fits 4 c.ts_assigned) (fits 2 c.ul_dl_assigned) (ltb 0 c.ul_dl_assigned)
    (fits 1 c.clch_permission)
    (fits 1 c.cell_change_flag) (fits 12 c.carrier_num) (eqb c.ext_carrier_num_flag 0) (fits 2 c.mon_pattern)
    (legal_frame18 c.mon_pattern c.frame18_mon_pattern) h in
    record {
      kind = let k : c.alloc_type < 2 ^ 2 = ltb-true _ _ p.0 in omega arith;
      slots = let k : c.ts_assigned < 2 ^ 4 = ltb-true _ _ p.1 in omega arith;
      direction = let k : c.ul_dl_assigned < 2 ^ 2 = ltb-true _ _ p.2 in omega arith;
      clch = let k : c.clch_permission < 2 ^ 1 = ltb-true _ _ p.4 in omega arith;
      change = let k : c.cell_change_flag < 2 ^ 1 = ltb-true _ _ p.5 in omega arith;
      carrier = let k : c.carrier_num < 2 ^ 12 = ltb-true _ _ p.6 in omega arith;
      extended = omega (arith, eqb-true c.ext_carrier_num_flag 0 p.7);
      pattern = let k : c.mon_pattern < 2 ^ 2 = ltb-true _ _ p.8 in omega arith;
      frame18 = frame18-fits c.mon_pattern c.frame18_mon_pattern p.9;
    }

module _ (r : Record) (kind-small : r.address.kind < 256) (tag-Fits : OptWithin 16 r.tag) where
  -- a grant or an ack
  bare-fits : holds_grant_only r ≡ true → OptWithin 8 r.header.slot_granting_element → OptWithin 8 r.header.usage_marker → RecordFits r
  unfolding holds_grant_only header_holds_grant_only
  bare-fits e g u =
      let h = r.header in
      let b = and4 (eqb r.bits 0) (eqb r.sent 0) (absent r.tag) (header_holds_grant_only h) e in
      let q = and6 (eqb h.pos_of_grant 0) (eqb h.encryption_mode 0) (eqb h.random_access_flag 0) (absent h.event_label)
      (absent h.power_control_element) (absent h.chan_alloc_element) b.3 in
      record {
        address = kind-small;
        tag = tag-Fits;
        position = omega (arith, eqb-true h.pos_of_grant 0 q.0);
        encryption = omega (arith, eqb-true h.encryption_mode 0 q.1);
        access = omega (arith, eqb-true h.random_access_flag 0 q.2);
        label = if-absent (OptWithin 16) tt h.event_label q.3;
        marker = u;
        power = if-absent (OptWithin 8) tt h.power_control_element q.4;
        grant = g;
        alloc = if-absent AllocFits tt h.chan_alloc_element q.5;
        bits = omega (arith, eqb-true r.bits 0 b.0);
        sent = omega (arith, eqb-true r.sent 0 b.1);
      }

  -- a record, waiting or started
  header-fits : legal_queued (resource_of r 0 0) ≡ true → r.bits ≤ 2048 → r.sent ≤ 2048 → RecordFits r
  header-fits e b n =
      let h = r.header in
      let l = legal-fields r 0 0 e in
      record {
        address = kind-small;
        tag = tag-Fits;
        position = let k : h.pos_of_grant < 2 ^ 1 = ltb-true _ _ l.position in omega arith;
        encryption = omega (arith, eqb-true h.encryption_mode 0 l.encryption);
        access = let k : h.random_access_flag < 2 ^ 1 = ltb-true _ _ l.flag in omega arith;
        label = if-absent (OptWithin 16) tt h.event_label l.label;
        marker = below (2 ^ 6) h.usage_marker (omega arith) l.marker;
        power = below (2 ^ 4) h.power_control_element (omega arith) l.power;
        grant = below (2 ^ 8) h.slot_granting_element (omega arith) l.grant;
        alloc = alloc-fits h.chan_alloc_element l.alloc;
        bits = omega arith;
        sent = omega arith;
      }

  as-kind : (k : Kind) → sound_as k r ≡ true → RecordFits r
  as-kind Kind.Grant e =
      let h = r.header in
      let p = and4 (holds_grant_only r) (not (absent h.slot_granting_element)) (opt_fits 8 h.slot_granting_element)
      (opt_fits 6 h.usage_marker) e in
      bare-fits p.0 (below (2 ^ 8) h.slot_granting_element (omega arith) p.2) (below (2 ^ 6) h.usage_marker (omega arith) p.3)
  as-kind Kind.Ack e =
      let h = r.header in
      let p = and3 (holds_grant_only r) (absent h.slot_granting_element) (absent h.usage_marker) e in
      bare-fits p.0 (if-absent (OptWithin 8) tt h.slot_granting_element p.1) (if-absent (OptWithin 8) tt h.usage_marker p.2)
  as-kind Kind.Record e =
      let p = and3 (legal_queued (resource_of r 0 0)) (leb r.bits 2048) (eqb r.sent 0) e in
      header-fits p.0 (leb-true _ _ p.1) (omega (arith, eqb-true r.sent 0 p.2))
  as-kind Kind.Waiting e =
      let p = and3 (legal_queued (resource_of r 0 0)) (leb r.bits 2048) (eqb r.sent 0) e in
      header-fits p.0 (leb-true _ _ p.1) (omega (arith, eqb-true r.sent 0 p.2))
  as-kind Kind.Started e =
      let p = and3 (legal_queued (resource_of r 0 0)) (leb r.bits 2048) (leb r.sent r.bits) e in
      let b : r.bits ≤ 2048 = leb-true _ _ p.1 in
      let n : r.sent ≤ r.bits = leb-true _ _ p.2 in
      header-fits p.0 b (omega arith)

pub sound-fits : (r : Record) → sound_record r ≡ true → OptWithin 16 r.tag → RecordFits r
unfolding sound_record legal_address
sound-fits r e t =
    let a = (and_parts (leb r.address.kind 2 && fits 24 r.address.number) (sound_as r.kind r) e).0 in
    let k : r.address.kind ≤ 2 = leb-true _ _ (and_parts (leb r.address.kind 2) (fits 24 r.address.number) a).0 in
    as-kind r (omega arith) t r.kind (and_parts (leb r.address.kind 2 && fits 24 r.address.number) (sound_as r.kind r) e).1

-- the record of an empty place
pub empty-fits : RecordFits empty_record
empty-fits =
    record {
      address = omega arith;
      tag = tt;
      position = omega arith;
      encryption = omega arith;
      access = omega arith;
      label = tt;
      marker = tt;
      power = tt;
      grant = tt;
      alloc = tt;
      bits = omega arith;
      sent = omega arith;
    }

-- ---- a sound queue

-- a tag of 16 bits
abbrev pub Tagged : Record → Type 0
Tagged r = OptWithin 16 r.tag

all-parts : (P : Record → Type 0) (n : ℕ) (rs : List Record) → All P (take n rs) → All P (drop n rs) → All P rs
all-parts P n rs h k = subst (λ (l : List Record). All P l) (take-append-drop n rs) (all_append P (take n rs) (drop n rs) h k)

empty-place : (r : Record) → is_empty r ≡ true → RecordFits r
empty-place r h = rw (empty-is r h) empty-fits

places-fit : (k n : ℕ) (rs : List Record) (s : List ℕ) → sound_places k n rs s ≡ true → All Tagged rs → All RecordFits (take k rs)
unfolding sound_places sound_place
places-fit zero n rs s h t = tt
places-fit (suc k) n [] s h t = tt
places-fit (suc k) zero (r ∷ rs) s h t =
    let p = (and_parts (is_empty r && clean_past r.bits (take 256 s)) (sound_places k zero rs (drop 256 s)) h).0 in (
      empty-place r (and_parts (is_empty r) (clean_past r.bits (take 256 s)) p).0,
      places-fit k zero rs (drop 256 s) (and_parts (is_empty r && clean_past r.bits (take 256 s)) (sound_places k zero rs (drop 256 s)) h).1 t.1,
    )
places-fit (suc k) (suc n) (r ∷ rs) s h t =
    let p = (and_parts (sound_record r && clean_past r.bits (take 256 s)) (sound_places k n rs (drop 256 s)) h).0 in (
      sound-fits r (and_parts (sound_record r) (clean_past r.bits (take 256 s)) p).0 t.0,
      places-fit k n rs (drop 256 s) (and_parts (sound_record r && clean_past r.bits (take 256 s)) (sound_places k n rs (drop 256 s)) h).1 t.1,
    )

queue-fits : (ns : List ℕ) (rs : List Record) (s : List ℕ) → sound_queue ns rs s ≡ true → All Tagged rs → length rs ≡ per_timeslot * length ns
    → All RecordFits rs
unfolding sound_queue
queue-fits [] [] s h t e = tt
queue-fits [] (r ∷ rs) s h t e = absurd (omega (arith, e))
queue-fits (n ∷ ns) rs s h t e =
    let a = (and_parts (leb n per_timeslot && sound_places per_timeslot n rs s) (sound_queue ns (drop per_timeslot rs) (drop timeslot_octets s)) h).0 in
    let b = (and_parts (leb n per_timeslot && sound_places per_timeslot n rs s) (sound_queue ns (drop per_timeslot rs) (drop timeslot_octets s)) h).1 in
    all-parts RecordFits per_timeslot rs (places-fit per_timeslot n rs s (and_parts (leb n per_timeslot) (sound_places per_timeslot n rs s) a).1 t)
    (queue-fits ns (drop per_timeslot rs) (drop timeslot_octets s) b (all_drop Tagged per_timeslot rs t) (length-drop per_timeslot rs ∙ omega (arith, e)))

-- a sound memory, with tags of 16 bits, is the one that its words stand for
pub memory-back : (m : Memory) → SoundMemory m → All Tagged m.records
    → (station_from (station_words m.station) ≡ m.station) × (records_from (queue_words m.records) ≡ m.records)
memory-back m h t = (
  station-back m.station (record { table = h.table; counters = h.counters; counts = h.counts }) h.station,
  queue-back m.records h.places (queue-fits m.station.queued m.records m.store h.queue t (omega (arith, h.places, h.counts))),
)

-- ---- words that stand for sound records

not_sound : sound_record no_record ≡ false
unfolding sound_record legal_address
not_sound = refl

not-empty : is_empty no_record ≡ false
unfolding is_empty holds_grant_only
not-empty = refl

no_place : (n : ℕ) (s : List ℕ) → sound_places per_timeslot n (replicate queue_places no_record) s ≡ false
unfolding sound_places sound_place
no_place zero s = rw not-empty
no_place (suc n) s = rw not_sound

pub no-queue : (n : ℕ) (ns s : List ℕ) → sound_queue (n ∷ ns) (replicate queue_places no_record) s ≡ true → ⊥
unfolding sound_queue
no-queue n ns s h =
    not-both (sound_places per_timeslot n (replicate queue_places no_record) s)
    (and_parts (leb n per_timeslot) (sound_places per_timeslot n (replicate queue_places no_record) s) (and_parts
    (leb n per_timeslot && sound_places per_timeslot n (replicate queue_places no_record) s) (sound_queue ns (drop per_timeslot
    (replicate queue_places no_record)) (drop timeslot_octets s)) h).0).1
    (no_place n s)

-- of 1,472 words that stand for a sound queue: they are its words
pub queue-words-back : (n : ℕ) (ns s ws : List ℕ) → length ws ≡ queue_word_count → sound_queue (n ∷ ns) (records_from ws) s ≡ true → queue_words
    (records_from ws)
    ≡ ws
unfolding records_from queue_from
queue-words-back n ns s ws e =
    rw (eq-eqb _ _ e) (words_of queue_words records_read (replicate queue_places no_record) (λ (rs : List Record). sound_queue (n ∷ ns) rs s ≡ true)
    (no-queue n ns s) ws)
