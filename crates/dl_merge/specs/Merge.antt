-- Document 01, "Queued record": merging. A record goes with a load that merging does not look at: its cell, the place that it comes from,
-- or its SDU with the name of its grant. Assumes nothing.
use Rattle.std.specs.Prelude.{Bool, ◌&&◌, cond, List, [], ◌∷◌, ℕ, eqb, Option, None}
use Rattle.std.specs.Option.{option_or}
use Rattle.dl_record.specs.declared.Record.{Record}
use Rattle.dl_record.specs.declared.QueuedHeader.{QueuedHeader}
use Rattle.dl_record.specs.declared.Kind.{Kind}
use Rattle.dl_record.specs.Kind.{is_grant_or_ack, is_kept, is_record}
use Rattle.dl_record.specs.Record.{grant_header}
use Rattle.dl_queue.specs.Queue.{Item, item, zero_cell}

abbrev pub or_else : Option ℕ → Option ℕ → Option ℕ
or_else m o = option_or m o

-- "A grant replaces the grant there; the marker is set only if there was none."
abbrev pub with_grant : QueuedHeader → QueuedHeader → QueuedHeader
with_grant g h =
    record {
      pos_of_grant = h.pos_of_grant;
      encryption_mode = h.encryption_mode;
      random_access_flag = h.random_access_flag;
      event_label = h.event_label;
      usage_marker = or_else h.usage_marker g.usage_marker;
      power_control_element = h.power_control_element;
      slot_granting_element = g.slot_granting_element;
      chan_alloc_element = h.chan_alloc_element;
    }

-- an ack sets the random-access flag
abbrev pub with_ack : QueuedHeader → QueuedHeader
with_ack h =
    record {
      pos_of_grant = h.pos_of_grant;
      encryption_mode = h.encryption_mode;
      random_access_flag = 1;
      event_label = h.event_label;
      usage_marker = h.usage_marker;
      power_control_element = h.power_control_element;
      slot_granting_element = h.slot_granting_element;
      chan_alloc_element = h.chan_alloc_element;
    }

abbrev pub joined_header : Kind → QueuedHeader → QueuedHeader → QueuedHeader
joined_header Kind.Grant g h = with_grant g h
joined_header Kind.Ack g h = with_ack h
joined_header Kind.Record g h = h
joined_header Kind.Waiting g h = h
joined_header Kind.Started g h = h

-- a record that a grant or ack g has joined
abbrev pub joined : Record → Record → Record
joined g r =
    record {
      kind = r.kind;
      address = r.address;
      tag = r.tag;
      header = joined_header g.kind g.header r.header;
      bits = r.bits;
      sent = r.sent;
    }

abbrev pub ack_flag : Kind → ℕ
ack_flag Kind.Grant = 0
ack_flag Kind.Ack = 1
ack_flag Kind.Record = 0
ack_flag Kind.Waiting = 0
ack_flag Kind.Started = 0

-- "a minimal one, without tag": the address, and the grant or the acknowledgement
abbrev pub minimal : Record → Record
minimal g =
    record {
      kind = Kind.Record;
      address = g.address;
      tag = None;
      header = grant_header (ack_flag g.kind) g.header.usage_marker g.header.slot_granting_element;
      bits = 0;
      sent = 0;
    }

-- a record "with its number": only numbers are compared
unfoldable pub takes_number : ℕ → Record → Bool
takes_number m r = is_record r.kind && eqb r.address.number m

-- the items of these kinds, in order
unfoldable pub only : {C : Type 0} → (Kind → Bool) → List (Item C) → List (Item C)
only p [] = []
only {C} p (x ∷ xs) = let rest : List (Item C) = only p xs in cond (p x.rec.kind) (x ∷ rest) rest

-- fresh g is the load of the minimal record that g makes, join g c that of a record with load c that g has joined
module _ {C : Type 0} (fresh : Item C → C) (join : Item C → C → C) where
  -- "each grant or ack goes to the first record .. With no such record a minimal one .. joins the end."
  unfoldable pub put : Item C → List (Item C) → List (Item C)
  put g [] = item (minimal g.rec) (fresh g) ∷ []
  put g (x ∷ xs) =
      let rest : List (Item C) = put g xs in cond (takes_number g.rec.address.number x.rec) (item (joined g.rec x.rec) (join g x.load) ∷ xs) (x ∷ rest)

  -- "in queue order"
  unfoldable pub puts : List (Item C) → List (Item C) → List (Item C)
  puts [] xs = xs
  puts (g ∷ gs) xs = puts gs (put g xs)

  unfoldable pub merge : List (Item C) → List (Item C)
  merge xs = puts (only is_grant_or_ack xs) (only is_kept xs)

-- ---- the loads

-- a record keeps its load, and a minimal one has always the same
abbrev pub keep : {C : Type 0} → Item C → C → C
keep g c = c

abbrev pub always : {C : Type 0} → C → Item C → C
always z g = z

-- cells: "an SDU moves with its record", and a minimal record has none
abbrev pub merge_cells : List (Item (List ℕ)) → List (Item (List ℕ))
merge_cells xs = merge (always zero_cell) keep xs

-- names: "a grant keeps its name through merging into the header written"
pub record Named (S N : Type 0) : Type 0 where
  pub sdu : S
  pub name : Option N

abbrev pub name_after : {N : Type 0} → Kind → Option N → Option N → Option N
name_after Kind.Grant new old = new
name_after Kind.Ack new old = old
name_after Kind.Record new old = old
name_after Kind.Waiting new old = old
name_after Kind.Started new old = old

abbrev pub fresh_name : {S N : Type 0} → S → Item (Named S N) → Named S N
fresh_name z g = record { sdu = z; name = g.load.name }

abbrev pub join_name : {S N : Type 0} → Item (Named S N) → Named S N → Named S N
join_name g c = record { sdu = c.sdu; name = name_after g.rec.kind g.load.name c.name }

abbrev pub merge_named : {S N : Type 0} → S → List (Item (Named S N)) → List (Item (Named S N))
merge_named z xs = merge (fresh_name z) join_name xs
