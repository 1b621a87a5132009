-- A queued header, given its fill bit and its length, is one that the header writer takes; it has 43 to 88 bits. Assumes nothing.
use Rattle.std.proofs.Common.{Option, Some, None}
use mathlib.Core.Path.{◌≡◌, refl}
use mathlib.Core.Bool.{Bool, true, false, ◌||◌}
use Prim.Native.Nat.{ℕ, ◌<◌, ◌≤◌}
use lib.Dec.{eqb}
use borrow.Author.Tests.{lt-ltb}
use Rattle.mac_pdus.specs.declared.AddressKind.{AddressKind}
use Rattle.mac_pdus.specs.declared.MacResource.{MacResource}
use Rattle.mac_pdus.specs.Headers.{header_length}
use Rattle.mac_pdus.specs.Legal.{fits, absent, opt_fits, label_fits, has_address, within_widths, legal_parts, legal_fields, parts_to_write}
use Rattle.mac_pdus.specs.Legal.{legal_to_write, queued_kind, legal_queued, with_length, address_on_air, on_air}
use Rattle.mac_pdus.proofs.Conjunctions.{false-not-true, and3, and10}
use Rattle.mac_pdus.proofs.LengthLaws.{Queued, ssi, marked, queued-length}
use Rattle.mac_pdus.proofs.LegalLaws.{fields, parts}

pub record QueuedHeader (h : MacResource) : Type 0 where
  pub fields : legal_fields h ≡ true
  pub kind : queued_kind h.address_kind ≡ true
  pub label : absent h.event_label ≡ true

pub queued : (h : MacResource) → legal_queued h ≡ true → QueuedHeader h
unfolding legal_queued
queued h e =
    let p = and3 (legal_fields h) (queued_kind h.address_kind) (absent h.event_label) e in
    record { fields = p.0; kind = p.1; label = p.2 }

queued-address : (k : Option AddressKind) → queued_kind k ≡ true → has_address k ≡ true
queued-address None h = false-not-true h
queued-address (Some AddressKind.Ssi) h = refl
queued-address (Some AddressKind.Gssi) h = refl
queued-address (Some AddressKind.Issi) h = refl
queued-address (Some AddressKind.Ussi) h = refl
queued-address (Some AddressKind.Smi) h = refl

queued-parts : (k : Option AddressKind) (l : Option ℕ) (m : Option ℕ) → queued_kind k ≡ true → parts_to_write k l m ≡ true
queued-parts None l m h = refl
queued-parts (Some AddressKind.Ssi) l m h = refl
queued-parts (Some AddressKind.Gssi) l m h = refl
queued-parts (Some AddressKind.Issi) l m h = refl
queued-parts (Some AddressKind.Ussi) l m h = false-not-true h
queued-parts (Some AddressKind.Smi) l m h = false-not-true h

or-absent : (a b : Bool) → b ≡ true → a || b ≡ true
or-absent true b h = refl
or-absent false b h = h

widths-kept : (h : MacResource) (f n : ℕ) → within_widths h ≡ true → f < 2 → n < 64 → within_widths (with_length h f n) ≡ true
unfolding within_widths with_length
widths-kept h f n e hf hn =
    let p = and10 (fits 1 h.fill_bits) (fits 1 h.pos_of_grant) (fits 2 h.encryption_mode) (fits 1 h.random_access_flag)
    (fits 6 h.length_ind)
    (fits 24 h.number) (label_fits h.event_label) (opt_fits 6 h.usage_marker) (opt_fits 4 h.power_control_element)
    (opt_fits 8 h.slot_granting_element) e in
    rw (lt-ltb f 2 hf, lt-ltb n 64 hn, p.1, p.2, p.3, p.5, p.6, p.7, p.8, p.9)

parts-kept : (h : MacResource) (f n : ℕ) → has_address h.address_kind ≡ true → absent h.event_label ≡ true → legal_parts h ≡ true
    → legal_parts (with_length h f n) ≡ true
unfolding legal_parts with_length
parts-kept h f n a l e =
    let p = parts h e in
    let q : eqb h.encryption_mode 0 ≡ true = rw a at p.encryption in
    rw (a, q, or-absent (absent h.usage_marker) (absent h.event_label) l)

-- what the builder writes for a queued header is legal
pub queued-to-write : (h : MacResource) (f n : ℕ) → legal_queued h ≡ true → f < 2 → 0 < n → n < 64 → legal_to_write (with_length h f n) ≡ true
unfolding legal_to_write legal_fields
queued-to-write h f n e hf h0 hn =
    let q = queued h e in
    let s = fields h q.fields in
    let a = queued-address h.address_kind q.kind in
    rw (widths-kept h f n s.widths hf hn, parts-kept h f n a q.label s.parts)
    (unfold with_length in rw (s.alloc, lt-ltb 0 n h0, queued-parts h.address_kind h.event_label h.usage_marker q.kind))

-- its address is SSI, with a marker or without
queued-on-air : (k : Option AddressKind) (n : ℕ) (l : Option ℕ) (m : Option ℕ) → queued_kind k ≡ true → absent l ≡ true → Queued (address_on_air k n l m)
unfolding address_on_air
queued-on-air None n l m hk hl = false-not-true hk
queued-on-air (Some AddressKind.Ssi) n None None hk hl = ssi
queued-on-air (Some AddressKind.Ssi) n None (Some m) hk hl = marked
queued-on-air (Some AddressKind.Ssi) n (Some e) m hk hl = false-not-true hl
queued-on-air (Some AddressKind.Gssi) n None None hk hl = ssi
queued-on-air (Some AddressKind.Gssi) n None (Some m) hk hl = marked
queued-on-air (Some AddressKind.Gssi) n (Some e) m hk hl = false-not-true hl
queued-on-air (Some AddressKind.Issi) n None None hk hl = ssi
queued-on-air (Some AddressKind.Issi) n None (Some m) hk hl = marked
queued-on-air (Some AddressKind.Issi) n (Some e) m hk hl = false-not-true hl
queued-on-air (Some AddressKind.Ussi) n l m hk hl = false-not-true hk
queued-on-air (Some AddressKind.Smi) n l m hk hl = false-not-true hk

pub queued-header-length : (h : MacResource) → legal_queued h ≡ true → (43 ≤ header_length (on_air h)) × (header_length (on_air h) ≤ 88)
queued-header-length h e = let q = queued h e in queued-length (on_air h)
    (unfold on_air in queued-on-air h.address_kind h.number h.event_label h.usage_marker q.kind q.label)
