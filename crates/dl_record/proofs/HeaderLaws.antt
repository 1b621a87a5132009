-- The header of a stored record is legal exactly if its fields are as question 6 asks, whatever the fill bit and the length code. Assumes nothing.
use Rattle.std.proofs.lemmas.Bool.{and_from}
use Rattle.std.proofs.Common.{Option, Some, None}
use Rattle.std.specs.Prelude.{is_some}
use mathlib.Core.Path.{◌≡◌, refl, sym}
use mathlib.Core.Bool.{Bool, true, false, not, ◌&&◌, ◌||◌}
use Prim.Native.Nat.{ℕ, zero, suc}
use native.Mathlib.Omega.{arith}
use lib.Dec.{eqb}
use borrow.Author.Tests.{lt-ltb, eqb-true}
use Rattle.mac_pdus.specs.Legal.{fits, absent, opt_fits, label_fits, has_address, queued_kind, legal_opt_chan_alloc, within_widths}
use Rattle.mac_pdus.specs.Legal.{all_absent, legal_parts}
use Rattle.mac_pdus.specs.Legal.{legal_fields, legal_queued}
use Rattle.mac_pdus.proofs.Conjunctions.{false-not-true, and3, and4, and7, and10}
use Rattle.dl_record.specs.declared.Record.{Record}
use Rattle.dl_record.specs.Record.{address_kind_of, resource_of}
use Rattle.dl_record.proofs.Tests.{same_test}

-- what question 6 asks of the header of a stored record
pub record LegalHeader (r : Record) : Type 0 where
  pub position : fits 1 r.header.pos_of_grant ≡ true
  pub encryption : eqb r.header.encryption_mode 0 ≡ true
  pub flag : fits 1 r.header.random_access_flag ≡ true
  pub number : fits 24 r.address.number ≡ true
  pub label : absent r.header.event_label ≡ true
  pub marker : opt_fits 6 r.header.usage_marker ≡ true
  pub power : opt_fits 4 r.header.power_control_element ≡ true
  pub grant : opt_fits 8 r.header.slot_granting_element ≡ true
  pub alloc : legal_opt_chan_alloc r.header.chan_alloc_element ≡ true

-- every kind of address that a stored record can have is a queued one
queued : (k : ℕ) → queued_kind (Some (address_kind_of k)) ≡ true
queued zero = refl
queued (suc zero) = refl
queued (suc (suc k)) = refl

-- with an address and no label only the encryption is asked about
parts-hold : (a e u l n z : Bool) → a ≡ true → e ≡ true → l ≡ true → (not a || e) && (u || a && l) && (a || not l || n) && (a || z) ≡ true
parts-hold true true true true n z p q r = refl
parts-hold true true false true n z p q r = refl
parts-hold true true u false n z p q r = false-not-true r
parts-hold true false u l n z p q r = false-not-true q
parts-hold false e u l n z p q r = false-not-true p

not-encrypted : (a e : Bool) → a ≡ true → not a || e ≡ true → e ≡ true
not-encrypted true e p h = h
not-encrypted false e p h = false-not-true p

no_label : (o : Option ℕ) → absent o ≡ true → label_fits o ≡ true
no_label None e = refl
no_label (Some x) e = false-not-true e

small-encryption : (e : ℕ) → eqb e 0 ≡ true → fits 2 e ≡ true
small-encryption e h = lt-ltb e 4 (omega (arith, eqb-true e 0 h))

ten-hold : (a1 a2 a3 a4 a5 a6 a7 a8 a9 a10 : Bool) → a1 ≡ true → a2 ≡ true → a3 ≡ true → a4 ≡ true → a5 ≡ true → a6 ≡ true → a7 ≡ true → a8 ≡ true → a9 ≡ true
    → a10 ≡ true
    → a1 && a2 && a3 && a4 && a5 && a6 && a7 && a8 && a9 && a10 ≡ true
ten-hold a1 a2 a3 a4 a5 a6 a7 a8 a9 a10 h1 h2 h3 h4 h5 h6 h7 h8 h9 h10 = rw (h1, h2, h3, h4, h5, h6, h7, h8, h9, h10)

pub legal-fields : (r : Record) (fill len : ℕ) → legal_queued (resource_of r fill len) ≡ true → LegalHeader r
unfolding legal_queued legal_fields within_widths legal_parts
legal-fields r fill len e =
    let h = r.header in
    let m = resource_of r fill len in
    let k = Some (address_kind_of r.address.kind) in
    let q = and3 (legal_fields m) (queued_kind k) (absent h.event_label) e in
    let f = and3 (within_widths m) (legal_opt_chan_alloc h.chan_alloc_element) (legal_parts m) q.0 in
    let w = and10 (fits 1 fill) (fits 1 h.pos_of_grant) (fits 2 h.encryption_mode) (fits 1 h.random_access_flag) (fits 6 len)
    (fits 24 r.address.number)
    (label_fits h.event_label) (opt_fits 6 h.usage_marker) (opt_fits 4 h.power_control_element) (opt_fits 8 h.slot_granting_element) f.0 in
    let p = and4 (not (has_address k) || eqb h.encryption_mode 0) (absent h.usage_marker || has_address k && absent h.event_label)
    (has_address k || not (absent h.event_label) || all_absent m) (has_address k || eqb r.address.number 0) f.2 in
    record {
      position = w.1;
      encryption = not-encrypted (has_address k) (eqb h.encryption_mode 0) refl p.0;
      flag = w.3;
      number = w.5;
      label = q.2;
      marker = w.7;
      power = w.8;
      grant = w.9;
      alloc = f.1;
    }

pub fields-legal : (r : Record) (fill len : ℕ) → fits 1 fill ≡ true → fits 6 len ≡ true → LegalHeader r → legal_queued (resource_of r fill len) ≡ true
unfolding legal_queued legal_fields within_widths legal_parts
fields-legal r fill len a b l =
    let h = r.header in
    let m = resource_of r fill len in
    let k = Some (address_kind_of r.address.kind) in
    let w : within_widths m ≡ true =
    ten-hold (fits 1 fill) (fits 1 h.pos_of_grant) (fits 2 h.encryption_mode) (fits 1 h.random_access_flag) (fits 6 len) (fits 24 r.address.number)
    (label_fits h.event_label) (opt_fits 6 h.usage_marker) (opt_fits 4 h.power_control_element) (opt_fits 8 h.slot_granting_element)
    a l.position (small-encryption h.encryption_mode l.encryption) l.flag b l.number (no_label h.event_label l.label) l.marker
    l.power l.grant in
    let p : legal_parts m ≡ true =
    parts-hold (has_address k) (eqb h.encryption_mode 0) (absent h.usage_marker) (absent h.event_label) (all_absent m) (eqb r.address.number 0)
    refl l.encryption l.label in
    and_from (legal_fields m && queued_kind k) (absent h.event_label)
    (and_from (legal_fields m) (queued_kind k) (and_from (within_widths m && legal_opt_chan_alloc h.chan_alloc_element) (legal_parts m)
    (and_from (within_widths m) (legal_opt_chan_alloc h.chan_alloc_element) w l.alloc) p) (queued r.address.kind)) l.label

-- `is_none` says what is absent
pub none-absent : {A : Type 0} (o : Option A) (b : Bool) → is_some o ≡ not b → b ≡ absent o
none-absent None true e = refl
none-absent None false e = false-not-true e
none-absent (Some v) true e = false-not-true (sym e)
none-absent (Some v) false e = refl

-- so its fields are asked one by one
pub fields-asked : (r : Record)
    → fits 1 r.header.pos_of_grant && eqb r.header.encryption_mode 0 && fits 1 r.header.random_access_flag && fits 24 r.address.number
    && absent r.header.event_label && opt_fits 6 r.header.usage_marker && opt_fits 4 r.header.power_control_element
    && opt_fits 8 r.header.slot_granting_element && legal_opt_chan_alloc r.header.chan_alloc_element ≡ legal_queued (resource_of r 0 0)
fields-asked r =
    let h = r.header in
    let a1 = fits 1 h.pos_of_grant in
    let a2 = eqb h.encryption_mode 0 in
    let a3 = fits 1 h.random_access_flag in
    let a4 = fits 24 r.address.number in
    let a5 = absent h.event_label in
    let a6 = opt_fits 6 h.usage_marker in
    let a7 = opt_fits 4 h.power_control_element in
    let a8 = opt_fits 8 h.slot_granting_element in
    let a9 = legal_opt_chan_alloc h.chan_alloc_element in
    same_test (a1 && a2 && a3 && a4 && a5 && a6 && a7 && a8 && a9) (legal_queued (resource_of r 0 0))
    (λ e.
    let q = and3 (a1 && a2 && a3 && a4 && a5 && a6 && a7) a8 a9 e in
    let p = and7 a1 a2 a3 a4 a5 a6 a7 q.0 in
    fields-legal r 0 0 refl refl
    (record { position = p.0; encryption = p.1; flag = p.2; number = p.3; label = p.4; marker = p.5; power = p.6; grant = q.1; alloc = q.2 }))
    (λ e.
    let l = legal-fields r 0 0 e in
    rw (l.position, l.encryption, l.flag, l.number, l.label, l.marker, l.power, l.grant, l.alloc))
