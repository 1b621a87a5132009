-- The empty record is the only one that passes its test; what a sound record has. Assumes nothing.
use Rattle.std.proofs.lemmas.Bool.{and_parts}
use Rattle.std.proofs.Common.{Option}
use mathlib.Core.Path.{◌≡◌, refl}
use mathlib.Core.Bool.{true, not}
use mathlib.Core.List.{List}
use lib.ListN.{length}
use Prim.Native.Nat.{ℕ, ◌*◌, ◌≤◌}
use native.Mathlib.Omega.{arith}
use lib.Dec.{eqb, leb}
use borrow.Author.Tests.{leb-true, eqb-true}
use Rattle.mac_pdus.proofs.LegalLaws.{is-absent}
use Rattle.sizes.specs.Sizes.{sdu_bits}
use Rattle.mac_pdus.specs.Legal.{absent, fits, opt_fits, legal_queued, legal_offered}
use Rattle.dl_record.specs.declared.Record.{Record}
use Rattle.dl_record.specs.declared.QueuedHeader.{QueuedHeader}
use Rattle.dl_record.specs.declared.Kind.{Kind}
use Rattle.dl_record.specs.Record.{empty_record, grant_record, ack_record, offered_record, resource_of}
use Rattle.dl_record.specs.Kind.{is_grant}
use Rattle.dl_record.specs.Questions.{header_holds_grant_only, holds_grant_only, is_empty, legal_address, present_sdu, sound_as, sound_record}
use Rattle.mac_pdus.proofs.Conjunctions.{false-not-true, and3, and4, and6}

grant-kind : (k : Kind) → is_grant k ≡ true → k ≡ Kind.Grant
grant-kind Kind.Grant e = refl
grant-kind Kind.Ack e = false-not-true e
grant-kind Kind.Record e = false-not-true e
grant-kind Kind.Waiting e = false-not-true e
grant-kind Kind.Started e = false-not-true e

pub empty-is : (r : Record) → is_empty r ≡ true → r ≡ empty_record
unfolding is_empty holds_grant_only header_holds_grant_only
empty-is r e =
    let h = r.header in
    let p =
    and6 (is_grant r.kind) (eqb r.address.kind 0) (eqb r.address.number 0) (holds_grant_only r) (absent h.slot_granting_element)
    (absent h.usage_marker) e in
    let b = and4 (eqb r.bits 0) (eqb r.sent 0) (absent r.tag) (header_holds_grant_only h) p.3 in
    let q =
    and6 (eqb h.pos_of_grant 0) (eqb h.encryption_mode 0) (eqb h.random_access_flag 0) (absent h.event_label)
    (absent h.power_control_element) (absent h.chan_alloc_element) b.3 in
    λ i. record {
      kind = grant-kind r.kind p.0 i;
      address = record { kind = eqb-true r.address.kind 0 p.1 i; number = eqb-true r.address.number 0 p.2 i };
      tag = is-absent r.tag b.2 i;
      header = record {
        pos_of_grant = eqb-true h.pos_of_grant 0 q.0 i;
        encryption_mode = eqb-true h.encryption_mode 0 q.1 i;
        random_access_flag = eqb-true h.random_access_flag 0 q.2 i;
        event_label = is-absent h.event_label q.3 i;
        usage_marker = is-absent h.usage_marker p.5 i;
        power_control_element = is-absent h.power_control_element q.4 i;
        slot_granting_element = is-absent h.slot_granting_element p.4 i;
        chan_alloc_element = is-absent h.chan_alloc_element q.5 i;
      };
      bits = eqb-true r.bits 0 b.0 i;
      sent = eqb-true r.sent 0 b.1 i;
    }

pub is-empty : is_empty empty_record ≡ true
unfolding is_empty holds_grant_only header_holds_grant_only
is-empty = refl

no-sdu : (r : Record) → holds_grant_only r ≡ true → r.bits ≤ sdu_bits
unfolding holds_grant_only
no-sdu r e = omega (arith, eqb-true r.bits 0 (and4 (eqb r.bits 0) (eqb r.sent 0) (absent r.tag) (header_holds_grant_only r.header) e).0)

-- the SDU of a sound record fits its cell
small-as : (k : Kind) (r : Record) → sound_as k r ≡ true → r.bits ≤ sdu_bits
small-as Kind.Grant r e =
    let h = r.header in
    let p = and4 (holds_grant_only r) (not (absent h.slot_granting_element)) (opt_fits 8 h.slot_granting_element) (opt_fits 6 h.usage_marker) e in
    no-sdu r p.0
small-as Kind.Ack r e = no-sdu r (and3 (holds_grant_only r) (absent r.header.slot_granting_element) (absent r.header.usage_marker) e).0
small-as Kind.Record r e = leb-true r.bits sdu_bits (and3 (legal_queued (resource_of r 0 0)) (leb r.bits sdu_bits) (eqb r.sent 0) e).1
small-as Kind.Waiting r e = leb-true r.bits sdu_bits (and3 (legal_queued (resource_of r 0 0)) (leb r.bits sdu_bits) (eqb r.sent 0) e).1
small-as Kind.Started r e = leb-true r.bits sdu_bits (and3 (legal_queued (resource_of r 0 0)) (leb r.bits sdu_bits) (leb r.sent r.bits) e).1

pub sound-small : (r : Record) → sound_record r ≡ true → r.bits ≤ sdu_bits
unfolding sound_record
sound-small r e = small-as r.kind r (and_parts (legal_address r.address.kind r.address.number) (sound_as r.kind r) e).1

-- what is queued is sound: a grant and an ack to a legal address, a record that passes questions 5 to 7
pub grant-sound : (k n octet : ℕ) (m : Option ℕ) → legal_address k n ≡ true → fits 8 octet ≡ true → opt_fits 6 m ≡ true
    → sound_record (grant_record k n octet m) ≡ true
unfolding sound_record holds_grant_only header_holds_grant_only
grant-sound k n octet m a o w = rw (a, o, w)

pub ack-sound : (k n : ℕ) → legal_address k n ≡ true → sound_record (ack_record k n) ≡ true
unfolding sound_record holds_grant_only header_holds_grant_only
ack-sound k n a = rw a

pub offered-sound : (k n : ℕ) (t : Option ℕ) (h : QueuedHeader) (b : ℕ) (s : List ℕ) → legal_address k n ≡ true
    → legal_offered (resource_of (offered_record k n t h b) 0 0) ≡ true → present_sdu b s ≡ true
    → sound_record (offered_record k n t h b) ≡ true
unfolding sound_record legal_offered present_sdu
offered-sound k n t h b s a o p =
    let m = resource_of (offered_record k n t h b) 0 0 in
    rw (a, (and_parts (legal_queued m) (absent m.slot_granting_element) o).0, (and_parts (leb b sdu_bits) (leb b (8 * length s)) p).0)
