-- One element after another.
use Rattle.std.proofs.Common.{◌≡◌, ◌≢◌, ℕ, ◌+◌, Option, Some, None, IfSome, IfNone, sym, ◌∙◌, refl}
use borrow.Author.Tests.{eqb-false}
use Rattle.bitbuffer.specs.Bits.{bits_of, bits_value, part, field}
use Rattle.mac_pdus.specs.declared.ChanAllocElement.{ChanAllocElement}
use Rattle.mac_pdus.specs.Headers.{chan_alloc_at, opt_chan_alloc_at}
use Rattle.mac_pdus.proofs.LengthLaws.{if-not-zero}
use Rattle.mac_pdus.proofs.ReadLaws.{chan-alloc-run, goes-on, elements-then, elements_of}
use Rattle.mac_resource_reader.specs.declared.Cursor.{Cursor}
use Rattle.mac_resource_reader.proofs.Cursor.read_elements.Goals as goal

-- the flag at `old` is 1, and the element stands behind it, up to `new`
abbrev Behind : Cursor → Cursor → ChanAllocElement → Type 0
Behind old new v =
    (bits_value (part (bits_of old.octets.now) old.at 1) ≢ 0)
    × (chan_alloc_at {X = ChanAllocElement × ℕ} (bits_of old.octets.now) (old.at + 1) (λ c n. (c, n)) ≡ (v, new.at))

if-some : {A : Type 0} {P Q : A → Type 0} (m : Option A) → ((v : A) → P v → Q v) → IfSome m P → IfSome m Q
if-some None f p = tt
if-some (Some v) f p = f v p

-- an element that stands behind its flag
found : (old new : Cursor) (m : Option ChanAllocElement)
    → IfNone m ((bits_value (part (bits_of old.octets.now) old.at 1) ≡ 0) × (new.octets ≡ old.octets) × (new.at ≡ old.at + 1))
    → IfSome m (Behind old new) → opt_chan_alloc_at {X = Option ChanAllocElement × ℕ} (bits_of old.octets.now) old.at (λ a n. (a, n)) ≡ (m, new.at)
unfolding opt_chan_alloc_at field
found old new None n s = rw (n.0, n.2) refl
found old new (Some v) n s =
    if-not-zero _ _ _ s.0
    ∙ sym (goes-on (λ a next. (Some a, next)) (sym s.1) (chan-alloc-run _ _ (λ a next. (Some a, next))))

pub returns-clause-value : goal.returns-clause-value
returns-clause-value c =
    let p = c.read_opt_u8.ensures in
    let g = c.read_opt_u8-2.ensures in
    let old = c.read_opt_u8-2.new.self in
    let new = c.read_optional.new.self in
    let alloc = found old new c.read_optional.result c.read_optional.ensures.none
    (if-some {Q = Behind old new} _ (λ v s. (s.0, rw (s.4.shows, s.2, s.3, s.4.leaves) at s.4.met.0)) c.read_optional.ensures.some) in
    sym (elements-then _ _ _ _ _ _ elements_of
    (eqb-false _ 0 (sym c.is_null.ensures ∙ c.if-is_null.false)) (sym p.value) (sym (rw p.place.0 at g.value)) (sym (rw (g.place.0, p.place.0) at alloc)))
