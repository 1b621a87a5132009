-- `record_is_empty` meets its contract: a record is the empty one exactly if each part is. Assumes nothing.
use mathlib.Core.Path.{◌≡◌, refl, sym, ◌∙◌}
use mathlib.Core.Bool.{Bool, true, false, ◌&&◌}
use lib.Dec.{eqb}
use Rattle.std.proofs.Common.{Option, None, Some}
use Rattle.std.specs.Option.{option_eq}
use Rattle.mac_pdus.proofs.Conjunctions.{and2}
use Rattle.mac_pdus.specs.Legal.{absent}
use denote.Enum.Bare.{sameb}
use Rattle.dl_record.specs.contracts.Kind.{the_type}
use Rattle.dl_record.specs.contracts.RecordPartialEq.TheImpl.{eq-value}
use Rattle.dl_record.specs.declared.Kind.{Kind}
use Rattle.dl_record.specs.Kind.{is_grant}
use Rattle.dl_record.specs.Record.{empty_record}
use Rattle.dl_record.specs.Questions.{is_empty, holds_grant_only, header_holds_grant_only}
use Rattle.dl_record.proofs.RecordLaws.{empty-is}
use Rattle.dl_record_sound.proofs.record_is_empty.Goals as goal

-- two tests that hold together are one
same : (a b : Bool) → (a ≡ true → b ≡ true) → (b ≡ true → a ≡ true) → a ≡ b
same true b f g = sym (f refl)
same false true f g = g refl
same false false f g = refl

-- none is told by the library's test and by the paper's
none-told : {A : Type 0} (e : A → A → Bool) (o : Option A) → option_eq e o None ≡ true → absent o ≡ true
none-told e None h = refl
none-told e (Some x) h = h

-- the kind is told by the derived test and by the paper's
grant-told : (k : Kind) → sameb the_type k Kind.Grant ≡ true → is_grant k ≡ true
grant-told Kind.Grant h = refl
grant-told Kind.Ack h = h
grant-told Kind.Record h = h
grant-told Kind.Waiting h = h
grant-told Kind.Started h = h

-- the parts of a header that are told together
header-parts : (a b c d e f g h : Bool) → a && (b && (c && (d && (e && (f && (g && h)))))) ≡ true
    → (a ≡ true) × (b ≡ true) × (c ≡ true) × (d ≡ true) × (e ≡ true) × (f ≡ true) × (g ≡ true) × (h ≡ true)
header-parts a b c d e f g h s =
    let p = and2 a _ s in
    let q = and2 b _ p.1 in
    let r = and2 c _ q.1 in
    let t = and2 d _ r.1 in
    let u = and2 e _ t.1 in
    let v = and2 f _ u.1 in
    let w = and2 g h v.1 in
    (p.0, q.0, r.0, t.0, u.0, v.0, w.0, w.1)

-- and those of a record
record-parts : (k a n t h b s : Bool) → k && (a && n && (t && (h && (b && s)))) ≡ true
    → (k ≡ true) × (a ≡ true) × (n ≡ true) × (t ≡ true) × (h ≡ true) × (b ≡ true) × (s ≡ true)
record-parts k a n t h b s e =
    let p = and2 k _ e in
    let q = and2 (a && n) _ p.1 in
    let o = and2 a n q.0 in
    let r = and2 t _ q.1 in
    let v = and2 h _ r.1 in
    let w = and2 b s v.1 in
    (p.0, o.0, o.1, r.0, v.0, w.0, w.1)

pub returns : goal.returns
unfolding is_empty holds_grant_only header_holds_grant_only
returns c =
    let r = c.args.r in
    let told : c.eq.result ≡ eq-value.it r empty_record = c.eq.ensures in
    told
    ∙ same _ (is_empty r)
    (λ e.
    let p =
    record-parts (sameb the_type r.kind Kind.Grant) (eqb r.address.kind 0) (eqb r.address.number 0) (option_eq eqb r.tag None) _
    (eqb r.bits 0) (eqb r.sent 0) e in
    let d = r.header in
    let h =
    header-parts (eqb d.pos_of_grant 0) (eqb d.encryption_mode 0) (eqb d.random_access_flag 0) (option_eq eqb d.event_label None)
    (option_eq eqb d.usage_marker None) (option_eq eqb d.power_control_element None) (option_eq eqb d.slot_granting_element None) _ p.4 in
    let alloc : absent r.header.chan_alloc_element ≡ true = none-told _ r.header.chan_alloc_element h.7 in
    rw (
      grant-told r.kind p.0,
      p.1,
      p.2,
      none-told eqb r.tag p.3,
      h.0,
      h.1,
      h.2,
      none-told eqb r.header.event_label h.3,
      none-told eqb r.header.usage_marker h.4,
      none-told eqb r.header.power_control_element h.5,
      none-told eqb r.header.slot_granting_element h.6,
      alloc,
      p.5,
      p.6,
    ) refl)
    (λ e. rw (empty-is r e) refl)
