-- A legal header has its fields within their widths; what is offered comes back from the air, and what is on the air is offered again. Assumes nothing.
use Rattle.std.proofs.Common.{Option, Some, None, IfSome}
use mathlib.Core.Path.{◌≡◌, refl, sym, ap, ◌∙◌, subst}
use mathlib.Core.Bool.{Bool, true, not, ◌&&◌, ◌||◌}
use Prim.Native.Nat.{ℕ, ◌^◌, ◌<◌}
use native.Mathlib.Omega.{arith}
use lib.Dec.{ltb, eqb}
use borrow.Author.Tests.{ltb-true, eqb-true}
use Rattle.mac_pdus.specs.declared.Address.{Address}
use Rattle.mac_pdus.specs.declared.AddressKind.{AddressKind}
use Rattle.mac_pdus.specs.declared.ChanAllocElement.{ChanAllocElement}
use Rattle.mac_pdus.specs.declared.ResourceHeader.{ResourceHeader}
use Rattle.mac_pdus.specs.declared.MacResource.{MacResource}
use Rattle.mac_pdus.specs.Headers.{address_type}
use Rattle.mac_pdus.specs.Within.{OptWithin, AddressWithin, Frame18Within, ChanAllocWithin, NullWithin, ResourceWithin}
use Rattle.mac_pdus.specs.Legal.{fits, absent, opt_fits, label_fits, has_address, legal_frame18, legal_chan_alloc}
use Rattle.mac_pdus.specs.Legal.{legal_opt_chan_alloc, within_widths, all_absent, legal_parts, legal_fields, parts_to_write, legal_to_write}
use Rattle.mac_pdus.specs.Legal.{address_on_air, on_air, kind_of, number_of, label_of, usage_marker_of, offered, read_kind, as_read, writer_takes}
use Rattle.mac_pdus.proofs.Conjunctions.{false-not-true, and2, and3, and4, and7, and10}

-- ---- the parts of question 6

pub record Fields (h : MacResource) : Type 0 where
  pub widths : within_widths h ≡ true
  pub alloc : legal_opt_chan_alloc h.chan_alloc_element ≡ true
  pub parts : legal_parts h ≡ true

pub fields : (h : MacResource) → legal_fields h ≡ true → Fields h
unfolding legal_fields
fields h e =
    let p = and3 (within_widths h) (legal_opt_chan_alloc h.chan_alloc_element) (legal_parts h) e in
    record { widths = p.0; alloc = p.1; parts = p.2 }

pub record ToWrite (h : MacResource) : Type 0 where
  pub fields : legal_fields h ≡ true
  pub length : 0 < h.length_ind
  pub parts : parts_to_write h.address_kind h.event_label h.usage_marker ≡ true

pub to_write : (h : MacResource) → legal_to_write h ≡ true → ToWrite h
unfolding legal_to_write
to_write h e =
    let p = and3 (legal_fields h) (ltb 0 h.length_ind) (parts_to_write h.address_kind h.event_label h.usage_marker) e in
    record { fields = p.0; length = ltb-true 0 h.length_ind p.1; parts = p.2 }

pub record Parts (h : MacResource) : Type 0 where
  pub encryption : not (has_address h.address_kind) || eqb h.encryption_mode 0 ≡ true
  pub marker : absent h.usage_marker || has_address h.address_kind && absent h.event_label ≡ true
  pub null : has_address h.address_kind || not (absent h.event_label) || all_absent h ≡ true
  pub number : has_address h.address_kind || eqb h.number 0 ≡ true

pub parts : (h : MacResource) → legal_parts h ≡ true → Parts h
unfolding legal_parts
parts h e =
    let p = and4
    (not (has_address h.address_kind) || eqb h.encryption_mode 0)
    (absent h.usage_marker || has_address h.address_kind && absent h.event_label)
    (has_address h.address_kind || not (absent h.event_label) || all_absent h)
    (has_address h.address_kind || eqb h.number 0) e in
    record { encryption = p.0; marker = p.1; null = p.2; number = p.3 }

-- ---- widths

opt-within : (w : ℕ) (o : Option ℕ) → opt_fits w o ≡ true → OptWithin w o
opt-within w None h = tt
opt-within w (Some v) h = ltb-true v (2 ^ w) h

frame18-within : (p : ℕ) (f : Option ℕ) → legal_frame18 p f ≡ true → Frame18Within p f
frame18-within p None h = ltb-true 0 p h
frame18-within p (Some f) h = let q = and2 (eqb p 0) (fits 2 f) h in (eqb-true p 0 q.0, ltb-true f 4 q.1)

chan-alloc-within : (c : ChanAllocElement) → legal_chan_alloc c ≡ true → ChanAllocWithin c
unfolding legal_chan_alloc
chan-alloc-within c h =
    let p = and10 (fits 2 c.alloc_type) (fits 4 c.ts_assigned) (fits 2 c.ul_dl_assigned) (ltb 0 c.ul_dl_assigned)
    (fits 1 c.clch_permission)
    (fits 1 c.cell_change_flag) (fits 12 c.carrier_num) (eqb c.ext_carrier_num_flag 0) (fits 2 c.mon_pattern)
    (legal_frame18 c.mon_pattern c.frame18_mon_pattern) h in
    let z : c.ext_carrier_num_flag ≡ 0 = eqb-true c.ext_carrier_num_flag 0 p.7 in
    record {
      alloc_type = ltb-true c.alloc_type 4 p.0;
      ts_assigned = ltb-true c.ts_assigned 16 p.1;
      ul_dl_assigned = ltb-true c.ul_dl_assigned 4 p.2;
      clch_permission = ltb-true c.clch_permission 2 p.4;
      cell_change_flag = ltb-true c.cell_change_flag 2 p.5;
      carrier_num = ltb-true c.carrier_num 4096 p.6;
      ext_carrier_num_flag = omega arith;
      mon_pattern = ltb-true c.mon_pattern 4 p.8;
      frame18_mon_pattern = frame18-within c.mon_pattern c.frame18_mon_pattern p.9;
    }

opt-chan-alloc-within : (a : Option ChanAllocElement) → legal_opt_chan_alloc a ≡ true → IfSome a ChanAllocWithin
opt-chan-alloc-within None h = tt
opt-chan-alloc-within (Some c) h = chan-alloc-within c h

label-within : (e : ℕ) → label_fits (Some e) ≡ true → e < 2 ^ 10
label-within e h = ltb-true e 1024 h

address-within : (k : Option AddressKind) (n : ℕ) (l : Option ℕ) (m : Option ℕ) → n < 2 ^ 24 → label_fits l ≡ true → opt_fits 6 m ≡ true
    → AddressWithin (address_on_air k n l m)
unfolding address_on_air
address-within None n None m hn hl hm = tt
address-within None n (Some e) m hn hl hm = label-within e hl
address-within (Some AddressKind.Ssi) n None None hn hl hm = hn
address-within (Some AddressKind.Ssi) n None (Some m) hn hl hm = (hn, ltb-true m 64 hm)
address-within (Some AddressKind.Ssi) n (Some e) m hn hl hm = (hn, label-within e hl)
address-within (Some AddressKind.Gssi) n None None hn hl hm = hn
address-within (Some AddressKind.Gssi) n None (Some m) hn hl hm = (hn, ltb-true m 64 hm)
address-within (Some AddressKind.Gssi) n (Some e) m hn hl hm = (hn, label-within e hl)
address-within (Some AddressKind.Issi) n None None hn hl hm = hn
address-within (Some AddressKind.Issi) n None (Some m) hn hl hm = (hn, ltb-true m 64 hm)
address-within (Some AddressKind.Issi) n (Some e) m hn hl hm = (hn, label-within e hl)
address-within (Some AddressKind.Ussi) n l m hn hl hm = hn
address-within (Some AddressKind.Smi) n None m hn hl hm = hn
address-within (Some AddressKind.Smi) n (Some e) m hn hl hm = (hn, label-within e hl)

-- ---- the null

pub is-absent : {A : Type 0} (o : Option A) → absent o ≡ true → o ≡ None
is-absent None h = refl
is-absent (Some v) h = false-not-true h

no-elements : (h : MacResource) → all_absent h ≡ true
    → (h.power_control_element ≡ None) × (h.slot_granting_element ≡ None) × (h.chan_alloc_element ≡ None)
unfolding all_absent
no-elements h e =
    let p = and7 (eqb h.fill_bits 0) (eqb h.pos_of_grant 0) (eqb h.encryption_mode 0) (eqb h.random_access_flag 0)
    (absent h.power_control_element) (absent h.slot_granting_element) (absent h.chan_alloc_element) e in
    (is-absent h.power_control_element p.4, is-absent h.slot_granting_element p.5, is-absent h.chan_alloc_element p.6)

null-within : (k : Option AddressKind) (n : ℕ) (l : Option ℕ) (m p g : Option ℕ) (a : Option ChanAllocElement) (b : Bool)
    → has_address k || not (absent l) || b ≡ true
    → (b ≡ true → (p ≡ None) × (g ≡ None) × (a ≡ None)) → NullWithin (address_type (address_on_air k n l m)) p g a
unfolding address_on_air address_type
null-within None n None m p g a b h f = f h
null-within None n (Some e) m p g a b h f = tt
null-within (Some AddressKind.Ssi) n None None p g a b h f = tt
null-within (Some AddressKind.Ssi) n None (Some m) p g a b h f = tt
null-within (Some AddressKind.Ssi) n (Some e) m p g a b h f = tt
null-within (Some AddressKind.Gssi) n None None p g a b h f = tt
null-within (Some AddressKind.Gssi) n None (Some m) p g a b h f = tt
null-within (Some AddressKind.Gssi) n (Some e) m p g a b h f = tt
null-within (Some AddressKind.Issi) n None None p g a b h f = tt
null-within (Some AddressKind.Issi) n None (Some m) p g a b h f = tt
null-within (Some AddressKind.Issi) n (Some e) m p g a b h f = tt
null-within (Some AddressKind.Ussi) n l m p g a b h f = tt
null-within (Some AddressKind.Smi) n None m p g a b h f = tt
null-within (Some AddressKind.Smi) n (Some e) m p g a b h f = tt

-- a legal header is written in fields that have their widths
pub legal-within : (h : MacResource) → legal_fields h ≡ true → ResourceWithin (on_air h)
unfolding on_air within_widths
legal-within h e =
    let q = fields h e in
    let p = and10 (fits 1 h.fill_bits) (fits 1 h.pos_of_grant) (fits 2 h.encryption_mode) (fits 1 h.random_access_flag)
    (fits 6 h.length_ind)
    (fits 24 h.number) (label_fits h.event_label) (opt_fits 6 h.usage_marker) (opt_fits 4 h.power_control_element)
    (opt_fits 8 h.slot_granting_element)
    q.widths in
    record {
      fill_bits = ltb-true h.fill_bits 2 p.0;
      pos_of_grant = ltb-true h.pos_of_grant 2 p.1;
      encryption_mode = ltb-true h.encryption_mode 4 p.2;
      random_access_flag = ltb-true h.random_access_flag 2 p.3;
      length_ind = ltb-true h.length_ind 64 p.4;
      address = address-within h.address_kind h.number h.event_label h.usage_marker (ltb-true h.number 16777216 p.5) p.6 p.7;
      power_control_element = opt-within 4 h.power_control_element p.8;
      slot_granting_element = opt-within 8 h.slot_granting_element p.9;
      chan_alloc_element = opt-chan-alloc-within h.chan_alloc_element q.alloc;
      null = null-within h.address_kind h.number h.event_label h.usage_marker h.power_control_element
          h.slot_granting_element h.chan_alloc_element (all_absent h) (parts h q.parts).null (no-elements h);
    }

-- ---- what is on the air, offered and written again, is the same

address-again : (a : Address) → address_on_air (kind_of a) (number_of a) (label_of a) (usage_marker_of a) ≡ a
unfolding address_on_air
address-again Address.Null = refl
address-again (Address.Ssi n) = refl
address-again (Address.EventLabel e) = refl
address-again (Address.Ussi n) = refl
address-again (Address.Smi n) = refl
address-again (Address.SsiEventLabel n e) = refl
address-again (Address.SsiUsageMarker n m) = refl
address-again (Address.SmiEventLabel n e) = refl

pub on-air-again : (r : ResourceHeader) → on_air (offered r) ≡ r
unfolding on_air offered
on-air-again r =
    ap {B = ResourceHeader} (λ (a : Address). record {
      fill_bits = r.fill_bits;
      pos_of_grant = r.pos_of_grant;
      encryption_mode = r.encryption_mode;
      random_access_flag = r.random_access_flag;
      length_ind = r.length_ind;
      address = a;
      power_control_element = r.power_control_element;
      slot_granting_element = r.slot_granting_element;
      chan_alloc_element = r.chan_alloc_element;
    }) (address-again r.address)

pub taken-within : (r : ResourceHeader) → writer_takes r ≡ true → ResourceWithin r
unfolding writer_takes
taken-within r h = subst ResourceWithin (on-air-again r) (legal-within (offered r) (to_write (offered r) h).fields)

-- ---- what the header writer takes comes back: GSSI and ISSI as SSI, all else as it was

pub record SameAddress (k : Option AddressKind) (n : ℕ) (l : Option ℕ) (m : Option ℕ) : Type 0 where
  pub kind : kind_of (address_on_air k n l m) ≡ read_kind k
  pub number : number_of (address_on_air k n l m) ≡ n
  pub label : label_of (address_on_air k n l m) ≡ l
  pub marker : usage_marker_of (address_on_air k n l m) ≡ m

same_address : (k : Option AddressKind) (n : ℕ) (l : Option ℕ) (m : Option ℕ) → has_address k || eqb n 0 ≡ true → absent m || has_address k && absent l ≡ true
    → parts_to_write k l m ≡ true → SameAddress k n l m
unfolding address_on_air
same_address None n l (Some v) hn hm hp = false-not-true hm
same_address None n None None hn hm hp = record { kind = refl; number = sym (eqb-true n 0 hn); label = refl; marker = refl }
same_address None n (Some e) None hn hm hp = record { kind = refl; number = sym (eqb-true n 0 hn); label = refl; marker = refl }
same_address (Some AddressKind.Ssi) n None None hn hm hp = record { kind = refl; number = refl; label = refl; marker = refl }
same_address (Some AddressKind.Ssi) n None (Some v) hn hm hp = record { kind = refl; number = refl; label = refl; marker = refl }
same_address (Some AddressKind.Ssi) n (Some e) None hn hm hp = record { kind = refl; number = refl; label = refl; marker = refl }
same_address (Some AddressKind.Ssi) n (Some e) (Some v) hn hm hp = false-not-true hm
same_address (Some AddressKind.Gssi) n None None hn hm hp = record { kind = refl; number = refl; label = refl; marker = refl }
same_address (Some AddressKind.Gssi) n None (Some v) hn hm hp = record { kind = refl; number = refl; label = refl; marker = refl }
same_address (Some AddressKind.Gssi) n (Some e) None hn hm hp = record { kind = refl; number = refl; label = refl; marker = refl }
same_address (Some AddressKind.Gssi) n (Some e) (Some v) hn hm hp = false-not-true hm
same_address (Some AddressKind.Issi) n None None hn hm hp = record { kind = refl; number = refl; label = refl; marker = refl }
same_address (Some AddressKind.Issi) n None (Some v) hn hm hp = record { kind = refl; number = refl; label = refl; marker = refl }
same_address (Some AddressKind.Issi) n (Some e) None hn hm hp = record { kind = refl; number = refl; label = refl; marker = refl }
same_address (Some AddressKind.Issi) n (Some e) (Some v) hn hm hp = false-not-true hm
same_address (Some AddressKind.Ussi) n None None hn hm hp = record { kind = refl; number = refl; label = refl; marker = refl }
same_address (Some AddressKind.Ussi) n None (Some v) hn hm hp = false-not-true hp
same_address (Some AddressKind.Ussi) n (Some e) m hn hm hp = false-not-true hp
same_address (Some AddressKind.Smi) n None None hn hm hp = record { kind = refl; number = refl; label = refl; marker = refl }
same_address (Some AddressKind.Smi) n (Some e) None hn hm hp = record { kind = refl; number = refl; label = refl; marker = refl }
same_address (Some AddressKind.Smi) n l (Some v) hn hm hp = false-not-true hp

pub offered-again : (h : MacResource) → legal_to_write h ≡ true → offered (on_air h) ≡ as_read h
unfolding on_air offered as_read
offered-again h e =
    let p = to_write h e in
    let q = parts h (fields h p.fields).parts in
    let s = same_address h.address_kind h.number h.event_label h.usage_marker q.number q.marker p.parts in
    rw (s.kind, s.number, s.label, s.marker)

read-address : (k : Option AddressKind) → has_address (read_kind k) ≡ has_address k
read-address None = refl
read-address (Some AddressKind.Ssi) = refl
read-address (Some AddressKind.Gssi) = refl
read-address (Some AddressKind.Issi) = refl
read-address (Some AddressKind.Ussi) = refl
read-address (Some AddressKind.Smi) = refl

read-parts : (k : Option AddressKind) (l : Option ℕ) (m : Option ℕ) → parts_to_write (read_kind k) l m ≡ parts_to_write k l m
read-parts None l m = refl
read-parts (Some AddressKind.Ssi) l m = refl
read-parts (Some AddressKind.Gssi) l m = refl
read-parts (Some AddressKind.Issi) l m = refl
read-parts (Some AddressKind.Ussi) l m = refl
read-parts (Some AddressKind.Smi) l m = refl

as-read-legal : (h : MacResource) → legal_to_write (as_read h) ≡ legal_to_write h
unfolding legal_to_write legal_fields within_widths legal_parts all_absent as_read
as-read-legal h = rw (read-address h.address_kind, read-parts h.address_kind h.event_label h.usage_marker)

-- what the header writer takes, the reader takes
pub taken-on-air : (h : MacResource) → legal_to_write h ≡ true → writer_takes (on_air h) ≡ true
unfolding writer_takes
taken-on-air h e = ap legal_to_write (offered-again h e) ∙ as-read-legal h ∙ e
