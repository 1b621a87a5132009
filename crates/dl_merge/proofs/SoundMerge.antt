-- Merging keeps records and cells sound. Assumes nothing.
use Rattle.std.proofs.lemmas.Bool.{and_parts, and_from}
use Rattle.std.proofs.Common.{Option, Some, None}
use mathlib.Core.Path.{◌≡◌, refl, ap, ◌∙◌}
use mathlib.Core.Bool.{true, not, ◌&&◌}
use mathlib.Core.List.{List, [], ◌∷◌}
use Prim.Native.Nat.{ℕ, zero, suc, ◌*◌, ◌≤◌}
use lib.Dec.{eqb, leb}
use native.Mathlib.Omega.{arith}
use lib.ListN.{length, drop, length-drop}
use lib.Seq.{length-take-le}
use Rattle.lists.proofs.Every.{All}
use Rattle.sizes.specs.Sizes.{cell_octets, sdu_bits}
use Rattle.mac_pdus.specs.Legal.{absent, fits, opt_fits, legal_queued}
use Rattle.mac_pdus.proofs.Conjunctions.{false-not-true, and3, and4}
use Rattle.dl_record.proofs.HeaderLaws.{LegalHeader, legal-fields, fields-legal}
use Rattle.dl_record.specs.declared.Record.{Record}
use Rattle.dl_record.specs.declared.Kind.{Kind}
use Rattle.dl_record.specs.Record.{resource_of}
use Rattle.dl_record.specs.Questions.{legal_address, holds_grant_only, sound_as, sound_record}
use Rattle.dl_sdu_store.specs.Cells.{clean_past}
use Rattle.dl_sdu_store.proofs.OctetLaws.{Octets, octets-take, octets-drop, octets-append, octets-zero}
use Rattle.dl_queue.specs.Queue.{Item, item, zero_cell, queue_of, cells_of, Cells}
use Rattle.dl_queue.specs.Questions.{sound_place, sound_items}
use Rattle.dl_queue.proofs.SetLaws.{zero-size}
use Rattle.dl_queue.proofs.SoundLaws.{zero-clean}
use Rattle.dl_record.specs.Kind.{is_grant_or_ack, is_record}
use Rattle.dl_merge.specs.Merge.{or_else, joined_header, joined, ack_flag, minimal, takes_number, keep, always, merge_cells}
use Rattle.dl_merge.proofs.MergeLaws.{merge-all}

-- ---- records

absent-fits : (w : ℕ) (o : Option ℕ) → absent o ≡ true → opt_fits w o ≡ true
absent-fits w None e = refl
absent-fits w (Some x) e = false-not-true e

either-fits : (w : ℕ) (a b : Option ℕ) → opt_fits w a ≡ true → opt_fits w b ≡ true → opt_fits w (or_else a b) ≡ true
either-fits w None b p q = q
either-fits w (Some x) b p q = p

-- the grant and the marker of a sound grant or ack have their widths
grant-fits : (k : Kind) (g : Record) → is_grant_or_ack k ≡ true → sound_as k g ≡ true
    → (opt_fits 8 g.header.slot_granting_element ≡ true) × (opt_fits 6 g.header.usage_marker ≡ true)
grant-fits Kind.Grant g l e =
    let h = g.header in
    let p = and4 (holds_grant_only g) (not (absent h.slot_granting_element)) (opt_fits 8 h.slot_granting_element) (opt_fits 6 h.usage_marker) e in
    (p.2, p.3)
grant-fits Kind.Ack g l e =
    let h = g.header in
    let p = and3 (holds_grant_only g) (absent h.slot_granting_element) (absent h.usage_marker) e in
    (absent-fits 8 h.slot_granting_element p.1, absent-fits 6 h.usage_marker p.2)
grant-fits Kind.Record g l e = false-not-true l
grant-fits Kind.Waiting g l e = false-not-true l
grant-fits Kind.Started g l e = false-not-true l

abbrev joined_as : Kind → Record → Record → Record
joined_as k g r =
    record {
      kind = r.kind;
      address = r.address;
      tag = r.tag;
      header = joined_header k g.header r.header;
      bits = r.bits;
      sent = r.sent;
    }

header-joined : (k : Kind) (g r : Record) → opt_fits 8 g.header.slot_granting_element ≡ true → opt_fits 6 g.header.usage_marker ≡ true → LegalHeader r
    → LegalHeader (joined_as k g r)
header-joined Kind.Grant g r o m l =
    record {
      position = l.position;
      encryption = l.encryption;
      flag = l.flag;
      number = l.number;
      label = l.label;
      marker = either-fits 6 r.header.usage_marker g.header.usage_marker l.marker m;
      power = l.power;
      grant = o;
      alloc = l.alloc;
    }
header-joined Kind.Ack g r o m l =
    record {
      position = l.position;
      encryption = l.encryption;
      flag = refl;
      number = l.number;
      label = l.label;
      marker = l.marker;
      power = l.power;
      grant = l.grant;
      alloc = l.alloc;
    }
header-joined Kind.Record g r o m l = l
header-joined Kind.Waiting g r o m l = l
header-joined Kind.Started g r o m l = l

-- a record with another header, both legal
record-header : (k : Kind) (r q : Record) → is_record k ≡ true → q.bits ≡ r.bits → q.sent ≡ r.sent → (LegalHeader r → LegalHeader q) → sound_as k r ≡ true
    → sound_as k q ≡ true
record-header Kind.Grant r q p b s f e = false-not-true p
record-header Kind.Ack r q p b s f e = false-not-true p
record-header Kind.Record r q p b s f e =
    let h = and3 (legal_queued (resource_of r 0 0)) (leb r.bits sdu_bits) (eqb r.sent 0) e in
    and_from (legal_queued (resource_of q 0 0) && leb q.bits sdu_bits) (eqb q.sent 0)
    (and_from (legal_queued (resource_of q 0 0)) (leb q.bits sdu_bits) (fields-legal q 0 0 refl refl (f (legal-fields r 0 0 h.0)))
    (ap (λ (n : ℕ). leb n sdu_bits) b ∙ h.1))
    (ap (λ (n : ℕ). eqb n 0) s ∙ h.2)
record-header Kind.Waiting r q p b s f e = false-not-true p
record-header Kind.Started r q p b s f e = false-not-true p

pub joined-sound : (g r : Record) → sound_record g ≡ true → is_grant_or_ack g.kind ≡ true → sound_record r ≡ true → is_record r.kind ≡ true
    → sound_record (joined g r) ≡ true
unfolding sound_record
joined-sound g r eg kg er kr =
    let fit = grant-fits g.kind g kg (and_parts (legal_address g.address.kind g.address.number) (sound_as g.kind g) eg).1 in
    and_from (legal_address r.address.kind r.address.number) (sound_as r.kind (joined g r))
    (and_parts (legal_address r.address.kind r.address.number) (sound_as r.kind r) er).0
    (record-header r.kind r (joined g r) kr refl refl (header-joined g.kind g r fit.0 fit.1)
    (and_parts (legal_address r.address.kind r.address.number) (sound_as r.kind r) er).1)

flag-fits : (k : Kind) → fits 1 (ack_flag k) ≡ true
flag-fits Kind.Grant = refl
flag-fits Kind.Ack = refl
flag-fits Kind.Record = refl
flag-fits Kind.Waiting = refl
flag-fits Kind.Started = refl

pub minimal-sound : (g : Record) → sound_record g ≡ true → is_grant_or_ack g.kind ≡ true → sound_record (minimal g) ≡ true
unfolding sound_record legal_address
minimal-sound g e k =
    let a : legal_address g.address.kind g.address.number ≡ true = (and_parts (legal_address g.address.kind g.address.number) (sound_as g.kind g) e).0 in
    let fit = grant-fits g.kind g k (and_parts (legal_address g.address.kind g.address.number) (sound_as g.kind g) e).1 in
    let legal : legal_queued (resource_of (minimal g) 0 0) ≡ true =
    fields-legal (minimal g) 0 0 refl refl
    (record {
      position = refl;
      encryption = refl;
      flag = flag-fits g.kind;
      number = (and_parts (leb g.address.kind 2)
          (fits 24 g.address.number) a).1;
      label = refl;
      marker = fit.1;
      power = refl;
      grant = fit.0;
      alloc = refl;
    }) in
    and_from (legal_address g.address.kind g.address.number) (legal_queued (resource_of (minimal g) 0 0) && true && true) a
    (and_from (legal_queued (resource_of (minimal g) 0 0) && true) true (and_from (legal_queued (resource_of (minimal g) 0 0)) true legal refl) refl)

-- ---- lists

abbrev pub SoundItem : Item (List ℕ) → Type 0
SoundItem x = sound_place true x.rec x.load ≡ true

pub items-each : (xs : List (Item (List ℕ))) → sound_items xs ≡ true → All SoundItem xs
unfolding sound_items
items-each [] e = tt
items-each (x ∷ xs) e =
    ((and_parts (sound_place true x.rec x.load) (sound_items xs) e).0, items-each xs (and_parts (sound_place true x.rec x.load) (sound_items xs) e).1)

pub each-items : (xs : List (Item (List ℕ))) → All SoundItem xs → sound_items xs ≡ true
unfolding sound_items
each-items [] h = refl
each-items (x ∷ xs) h = and_from (sound_place true x.rec x.load) (sound_items xs) h.0 (each-items xs h.1)

taken : (n : ℕ) (r : Record) → takes_number n r ≡ true → is_record r.kind ≡ true
unfolding takes_number
taken n r e = (and_parts (is_record r.kind) (eqb r.address.number n) e).0

item-joined : (g x : Item (List ℕ)) → is_grant_or_ack g.rec.kind ≡ true → takes_number g.rec.address.number x.rec ≡ true → SoundItem g → SoundItem x
    → SoundItem (item (joined g.rec x.rec) x.load)
unfolding sound_place
item-joined g x k t eg ex =
    and_from (sound_record (joined g.rec x.rec)) (clean_past x.rec.bits x.load)
    (joined-sound g.rec x.rec (and_parts (sound_record g.rec) (clean_past g.rec.bits g.load) eg).0 k
    (and_parts (sound_record x.rec) (clean_past x.rec.bits x.load) ex).0 (taken g.rec.address.number x.rec t))
    (and_parts (sound_record x.rec) (clean_past x.rec.bits x.load) ex).1

item-minimal : (g : Item (List ℕ)) → is_grant_or_ack g.rec.kind ≡ true → SoundItem g → SoundItem (item (minimal g.rec) zero_cell)
unfolding sound_place
item-minimal g k e =
    and_from (sound_record (minimal g.rec)) (clean_past 0 zero_cell)
    (minimal-sound g.rec (and_parts (sound_record g.rec) (clean_past g.rec.bits g.load) e).0 k) zero-clean

pub merge-sound : (xs : List (Item (List ℕ))) → sound_items xs ≡ true → sound_items (merge_cells xs) ≡ true
merge-sound xs e = each-items (merge_cells xs) (merge-all (always zero_cell) keep SoundItem item-joined item-minimal xs (items-each xs e))

-- ---- cells stay cells

abbrev pub OneCell : Item (List ℕ) → Type 0
OneCell x = length x.load ≡ cell_octets

pub cells-each : (xs : List (Item (List ℕ))) → Cells xs → All OneCell xs
unfolding Cells
cells-each [] h = tt
cells-each (x ∷ xs) h = (h.0, cells-each xs h.1)

pub each-cells : (xs : List (Item (List ℕ))) → All OneCell xs → Cells xs
unfolding Cells
each-cells [] h = tt
each-cells (x ∷ xs) h = (h.0, each-cells xs h.1)

pub queue-cells : (n : ℕ) (rs : List Record) (s : List ℕ) → cell_octets * n ≤ length s → Cells (queue_of n rs s)
unfolding queue_of Cells
queue-cells zero rs s h = tt
queue-cells (suc n) rs s h = (length-take-le cell_octets s (omega arith), queue-cells n (drop 1 rs) (drop cell_octets s) (rw length-drop (omega arith)))

pub merge-cells : (xs : List (Item (List ℕ))) → Cells xs → Cells (merge_cells xs)
merge-cells xs h = each-cells (merge_cells xs) (merge-all (always zero_cell) keep OneCell (λ g x k t p q. q) (λ g k p. zero-size) xs (cells-each xs h))

-- ---- and octets octets

abbrev pub OctetItem : Item (List ℕ) → Type 0
OctetItem x = Octets x.load

pub queue-octets : (n : ℕ) (rs : List Record) (s : List ℕ) → Octets s → All OctetItem (queue_of n rs s)
unfolding queue_of
queue-octets zero rs s h = tt
queue-octets (suc n) rs s h = (octets-take cell_octets s h, queue-octets n (drop 1 rs) (drop cell_octets s) (octets-drop cell_octets s h))

pub zero-octets : Octets zero_cell
unfolding zero_cell
zero-octets = octets-zero cell_octets

pub octets-cells : (k : ℕ) (xs : List (Item (List ℕ))) → All OctetItem xs → Octets (cells_of k xs)
unfolding cells_of
octets-cells zero xs h = λ i. omega arith
octets-cells (suc k) [] h = octets-append zero_cell (cells_of k []) zero-octets (octets-cells k [] h)
octets-cells (suc k) (x ∷ xs) h = octets-append x.load (cells_of k xs) h.0 (octets-cells k xs h.1)
