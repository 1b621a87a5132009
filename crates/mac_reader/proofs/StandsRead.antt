-- The headers that stand in the bits of a block (`Stands`) are those that the reader lists. Assumes nothing.
use Rattle.std.proofs.Common.{Ok, Some, None}
use mathlib.Core.Path.{◌≡◌, refl, sym, ap, ◌∙◌}
use mathlib.Core.Bool.{true, or-true}
use mathlib.Core.Logic.{inl, inr}
use mathlib.Core.List.{List, [], ◌∷◌, ◌++◌}
use Prim.Native.Nat.{ℕ, zero, suc, ◌+◌, ◌*◌, ◌≤◌, ◌<◌}
use native.Mathlib.Omega.{arith}
use lib.ListN.{length, drop, length-drop}
use borrow.Author.Tests.{le-leb, eq-eqb, ne_eqb}
use Rattle.mac_pdus.specs.declared.Address.{Address}
use Rattle.mac_pdus.specs.declared.Address.TheVariants.{Null, Ssi, EventLabel, Ussi, Smi, SsiEventLabel, SsiUsageMarker, SmiEventLabel}
use Rattle.mac_pdus.specs.declared.ResourceHeader.{ResourceHeader}
use Rattle.mac_pdus.specs.declared.MacEndDl.{MacEndDl}
use Rattle.mac_pdus.specs.declared.PduHeader.{PduHeader}
use Rattle.mac_pdus.specs.Headers.{address_type, address_length, resource_bits, header_bits}
use Rattle.mac_pdus.specs.Within.{EndWithin}
use Rattle.mac_pdus.specs.Legal.{writer_takes}
use Rattle.mac_pdus.proofs.LengthLaws.{header-size, header-none}
use Rattle.mac_pdus.proofs.LegalLaws.{taken-within}
use Rattle.mac_pdus.proofs.Found.{cut-between}
use Rattle.mac_reader.specs.declared.PlacedHeader.{PlacedHeader}
use Rattle.mac_reader.specs.Reader.{octets_inside, header_end, starts_fragment, well_placed, resource_step, end_step, pdu_at, headers, before, read_pdus}
use Rattle.mac_reader.specs.Stands.{BitsStand, Octets, HeaderInside, NullStands, FirstStands, WholeStands, EndStands, HeaderStands, Stands}
use Rattle.mac_reader.proofs.Steps.{limit-end, limit-block, at-end, last-read, more-read}
use Rattle.mac_reader.proofs.ListRoundTrip.{resource-pdu, frag-pdu, final-pdu, octets-pass}

-- ---- where a header may end

inside-limit : (w after end : ℕ) → end ≤ w → HeaderInside w after end → after ≤ header_end w end
inside-limit w after end h (inl k) = let least = limit-end w end h in omega arith
inside-limit w after end h (inr k) = let all = limit-block w end (omega (arith, k.0)) in omega (arith, k.0, k.1)

-- a null has 16 bits
null-address : (a : Address) → address_type a ≡ 0 → address_length a ≡ 3
unfolding address_type
null-address Null h = refl
null-address (Ssi a) h = absurd (omega arith)
null-address (EventLabel e) h = absurd (omega arith)
null-address (Ussi a) h = absurd (omega arith)
null-address (Smi a) h = absurd (omega arith)
null-address (SsiEventLabel a e) h = absurd (omega arith)
null-address (SsiUsageMarker a m) h = absurd (omega arith)
null-address (SmiEventLabel a e) h = absurd (omega arith)

pub null-length : (r : ResourceHeader) → address_type r.address ≡ 0 → length (resource_bits r) ≡ 16
null-length r h = sym (header-size r) ∙ sym (header-none r 3 h (sym (null-address r.address h)))

-- ---- one step of the reader

module _ (w at : ℕ) where
  octets-stand : (code : ℕ) → Octets w at code → octets_inside w at code ≡ true
  octets-stand code o = octets-pass w at code o.low o.high o.inside

  null-stands : (r : ResourceHeader) → NullStands w at r → at + length (resource_bits r) ≤ w
      → resource_step w at r (at + length (resource_bits r)) ≡ Ok (PduHeader.Resource r, None)
  unfolding resource_step well_placed
  null-stands r n h =
      let code = r.length_ind in
      let size = null-length r n.null in
      let limit = inside-limit w (at + length (resource_bits r)) (at + 8 * code) n.octets.inside (inl (omega (arith, n.octets.low))) in
      rw (
        n.taken,
        le-leb (at + length (resource_bits r)) w h,
        octets-stand code n.octets,
        le-leb (at + length (resource_bits r)) (header_end w (at + 8 * code)) limit,
        eq-eqb (address_type r.address) 0 n.null,
      )

  first-stands : (r : ResourceHeader) → FirstStands r → at + length (resource_bits r) ≤ w
      → resource_step w at r (at + length (resource_bits r)) ≡ Ok (PduHeader.Resource r, None)
  unfolding resource_step well_placed
  first-stands r f h =
      rw (
        f.sound.taken,
        le-leb (at + length (resource_bits r)) w h,
        ne_eqb (address_type r.address) 0 (λ z. omega (arith, f.sound.address)),
        eq-eqb r.length_ind 63 f.code,
      )

  whole-placed : (r : ResourceHeader) → WholeStands w at r → at + length (resource_bits r) ≤ w → well_placed w at r (at + length (resource_bits r)) ≡ true
  unfolding well_placed
  whole-placed r s h =
      let code = r.length_ind in
      let limit = inside-limit w (at + length (resource_bits r)) (at + 8 * code) s.octets.inside s.header in
      rw (
        s.sound.taken,
        le-leb (at + length (resource_bits r)) w h,
        octets-stand code s.octets,
        le-leb (at + length (resource_bits r)) (header_end w (at + 8 * code)) limit,
      )
      (or-true (starts_fragment r))

  whole-stands : (r : ResourceHeader) → WholeStands w at r → at + length (resource_bits r) ≤ w
      → resource_step w at r (at + length (resource_bits r)) ≡ Ok (PduHeader.Resource r, Some (at + 8 * r.length_ind))
  unfolding resource_step
  whole-stands r s h =
      rw (
        whole-placed r s h,
        ne_eqb (address_type r.address) 0 (λ z. omega (arith, s.sound.address)),
        ne_eqb r.length_ind 63 (λ z. omega (arith, s.octets.high)),
      )

  end-stands : (e : MacEndDl) → EndStands w at e → end_step w at e 0 0 ≡ Ok (PduHeader.End e, Some (at + 8 * e.length_ind))
  unfolding end_step
  end-stands e s = rw (octets-stand e.length_ind s.octets)

-- ---- the list, in bits that go on behind the block

module _ (w : ℕ) (l : List ℕ) (more : w < length l) where
  resource-there : (at : ℕ) (r : ResourceHeader) → BitsStand w l at (PduHeader.Resource r)
      → drop at l ≡ resource_bits r ++ drop (at + length (resource_bits r)) l
  unfolding header_bits
  resource-there at r h = (cut-between l at (resource_bits r) h.bits).bits

  left : (at : ℕ) (f : List ℕ) → at + length f ≤ w → 0 < length (drop (at + length f) l)
  left at f h = simp length-drop (omega arith)

  pub resource-read : (at : ℕ) (r : ResourceHeader) → BitsStand w l at (PduHeader.Resource r) → writer_takes r ≡ true
      → pdu_at w l at ≡ resource_step w at r (at + length (resource_bits r))
  unfolding header_bits
  resource-read at r h taken =
      resource-pdu r w at l (drop (at + length (resource_bits r)) l) (taken-within r taken) (resource-there at r h) (left at (resource_bits r) h.inside)

  header_read : (h : PduHeader) (n at : ℕ) (ps : List PlacedHeader)
      → ((next : ℕ) → at + 16 ≤ next → Stands w l next ps → read_pdus n w l next ≡ headers ps) → at + 16 ≤ w → BitsStand w l at h
      → HeaderStands w at h (ps ≡ []) (λ next. Stands w l next ps) → read_pdus (suc n) w l at ≡ headers (record { at = at; header = h } ∷ ps)
  unfolding header_bits
  header_read (PduHeader.Resource r) n at ps ih k b (inl (s, e)) =
      last-read n w l at (PduHeader.Resource r) k (resource-read at r b s.taken ∙ null-stands w at r s b.inside)
      ∙ ap (λ (x : List PlacedHeader). headers (record { at = at; header = PduHeader.Resource r } ∷ x)) (sym e)
  header_read (PduHeader.Resource r) n at ps ih k b (inr (inl (s, e))) =
      last-read n w l at (PduHeader.Resource r) k (resource-read at r b s.sound.taken ∙ first-stands w at r s b.inside)
      ∙ ap (λ (x : List PlacedHeader). headers (record { at = at; header = PduHeader.Resource r } ∷ x)) (sym e)
  header_read (PduHeader.Resource r) n at ps ih k b (inr (inr (s, st))) =
      more-read n w l at (at + 8 * r.length_ind) (PduHeader.Resource r) k (resource-read at r b s.sound.taken ∙ whole-stands w at r s b.inside)
      ∙ ap (before (record { at = at; header = PduHeader.Resource r })) (ih (at + 8 * r.length_ind) (omega (arith, s.octets.low)) st)
  header_read (PduHeader.Frag f) n at ps ih k b (s, e) =
      last-read n w l at (PduHeader.Frag f) k (frag-pdu f w at l _ s (cut-between l at _ b.bits).bits)
      ∙ ap (λ (x : List PlacedHeader). headers (record { at = at; header = PduHeader.Frag f } ∷ x)) (sym e)
  header_read (PduHeader.End e) n at ps ih k b (s, st) =
      let within : EndWithin e = record { fill_bits = s.fill; pos_of_grant = s.position; length_ind = omega (arith, s.octets.high) } in
      more-read n w l at (at + 8 * e.length_ind) (PduHeader.End e) k
      (final-pdu e w at l _ within (cut-between l at _ b.bits).bits ∙ end-stands w at e s)
      ∙ ap (before (record { at = at; header = PduHeader.End e })) (ih (at + 8 * e.length_ind) (omega (arith, s.octets.low)) st)

  pub stands_read : (hs : List PlacedHeader) (n at : ℕ) → w < at + 16 * (n + 1) → Stands w l at hs → read_pdus n w l at ≡ headers hs
  unfolding Stands
  stands_read [] n at few s = at-end n w l at s
  stands_read (p ∷ ps) zero at few s = absurd (omega (arith, s.1))
  stands_read (p ∷ ps) (suc n) at few s =
      header_read p.header n at ps (λ next k st. stands_read ps n next (omega arith) st) s.1 s.2 s.3
      ∙ ap (λ (a : ℕ). headers (record { at = a; header = p.header } ∷ ps)) (sym s.0)
