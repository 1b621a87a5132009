-- What the reader lists stands in the bits that it read (`Stands`), header by header. Assumes nothing.
use Rattle.std.proofs.Common.{Ok, Err, Some, None}
use mathlib.Core.Path.{◌≡◌, refl, subst}
use mathlib.Core.Bool.{Bool, true, false, cond, not, ◌&&◌, ◌||◌}
use mathlib.Core.Logic.{inl, inr, ⊎_elim}
use mathlib.Core.List.{List, [], ◌∷◌}
use Prim.Native.Nat.{ℕ, zero, suc, ◌+◌, ◌*◌, ◌%◌, ◌^◌, ◌≤◌, ◌<◌}
use native.Mathlib.Omega.{arith}
use lib.ListN.{length}
use lib.Dec.{ltb, leb, eqb}
use borrow.Author.Tests.{ltb-true, ltb-false, leb-true, eqb-true, eqb-false}
use Rattle.bitbuffer.specs.Bits.{value_bits, field, AreBits}
use Rattle.mac_pdus.specs.declared.ResourceHeader.{ResourceHeader}
use Rattle.mac_pdus.specs.declared.PduHeader.{PduHeader}
use Rattle.mac_pdus.specs.Headers.{if_zero, address_type, resource_bits, frag_bits, end_bits, header_bits}
use Rattle.mac_pdus.specs.Legal.{writer_takes}
use Rattle.mac_pdus.proofs.Conjunctions.{and2, and3}
use Rattle.mac_pdus.proofs.Found.{Between, joined, ends-behind, cut_out, field_found, resource-found}
use Rattle.questions.specs.declared.Refusal.{Refusal}
use Rattle.mac_reader.specs.declared.PlacedHeader.{PlacedHeader}
use Rattle.mac_reader.specs.Reader.{Step, octets_inside, header_end, starts_fragment, well_placed, resource_step, end_step, end_at, fragment_at, of_type, pdu_at}
use Rattle.mac_reader.specs.Reader.{Listing, refused, headers, before, on_step, read_pdus}
use Rattle.mac_reader.specs.Stands.{BitsStand, HeaderInside, Stands}
use Rattle.mac_reader.proofs.Steps.{octets-true, limit-only, same-list, never-listed}

-- what stands from `at` on, after a step of the reader
abbrev StepStands : ℕ → List ℕ → ℕ → Step → Type 0
StepStands w l at (Err r) = Unit
StepStands w l at (Ok (h, None)) = Stands w l at (record { at = at; header = h } ∷ [])
StepStands w l at (Ok (h, Some next)) =
    (next % 8 ≡ 0) × (at + 16 ≤ next) × ((ps : List PlacedHeader) → Stands w l next ps → Stands w l at (record { at = at; header = h } ∷ ps))

cond-stands : (w : ℕ) (l : List ℕ) (at : ℕ) (b : Bool) (s : Step) → (b ≡ true → StepStands w l at s) → StepStands w l at (cond b s (Err Refusal.Malformed))
cond-stands w l at true s h = h refl
cond-stands w l at false s h = tt

-- the limit that the reader keeps to is the PDU's end, or four bits more at the block's end
header-limit : (w after end : ℕ) → w % 8 ≡ 4 → end % 8 ≡ 0 → end ≤ w → leb after (header_end w end) ≡ true → HeaderInside w after end
header-limit w after end four whole inside h =
    ⊎_elim inl (λ k. let ends : end + 4 ≡ w = omega (arith, k.0) in inr (ends, omega (arith, k.1)))
    (limit-only w after end (leb-true after (header_end w end) h))

-- in the bits `l` of a block of `w`, four more than whole octets, and of what is behind it
module _ (w : ℕ) (l : List ℕ) (four : w % 8 ≡ 4) (bits : AreBits l) (room : w + 76 ≤ length l) where
  there : (at after : ℕ) (h : PduHeader) → at + 16 ≤ w → after ≤ w → Between l at (header_bits h) after → BitsStand w l at h
  there at after h a k b =
      let e : after ≡ at + length (header_bits h) = ends-behind b (omega arith) (omega arith) in
      record { bits = cut_out b; inside = omega arith }

  resource-stands : (at : ℕ) (r : ResourceHeader) (after : ℕ) → at % 8 ≡ 0 → at + 16 ≤ w → Between l at (resource_bits r) after
      → StepStands w l at (resource_step w at r after)
  unfolding resource_step well_placed Stands header_bits
  resource-stands at r after k h b =
      cond-stands w l at (well_placed w at r after) _ λ t.
      let p = and3 (writer_takes r) (leb after w)
      (starts_fragment r || octets_inside w at r.length_ind && leb after (header_end w (at + 8 * r.length_ind))) t in
      go (eqb (address_type r.address) 0) (eqb r.length_ind 63) refl refl p.0 (leb-true after w p.1) p.2
    where
      go : (a c : Bool) → eqb (address_type r.address) 0 ≡ a → eqb r.length_ind 63 ≡ c → writer_takes r ≡ true → after ≤ w
          → (not a && c) || (octets_inside w at r.length_ind && leb after (header_end w (at + 8 * r.length_ind))) ≡ true
          → StepStands w l at (Ok (PduHeader.Resource r, cond (a || c) None (Some (at + 8 * r.length_ind))))
      go true c ea ec taken inside t =
          let p = and2 (octets_inside w at r.length_ind) (leb after (header_end w (at + 8 * r.length_ind))) t in (
            refl,
            h,
            there at after (PduHeader.Resource r) h inside b,
            inl (record { taken = taken; null = eqb-true (address_type r.address) 0 ea; octets = octets-true w at r.length_ind p.0 }, refl),
          )
      go false true ea ec taken inside t =
          let some = eqb-false (address_type r.address) 0 ea in (
            refl,
            h,
            there at after (PduHeader.Resource r) h inside b,
            inr (inl (record { sound = record { taken = taken; address = omega arith }; code = eqb-true r.length_ind 63 ec }, refl)),
          )
      go false false ea ec taken inside t =
          let p = and2 (octets_inside w at r.length_ind) (leb after (header_end w (at + 8 * r.length_ind))) t in
          let o = octets-true w at r.length_ind p.0 in
          let some = eqb-false (address_type r.address) 0 ea in
          let ends : after ≡ at + length (resource_bits r) = ends-behind b (omega arith) (omega arith) in
          let kept = header-limit w after (at + 8 * r.length_ind) four (omega arith) o.inside p.1 in (
            omega arith,
            omega (arith, o.low),
            λ ps s. (
              refl,
              h,
              there at after (PduHeader.Resource r) h inside b,
              inr (inr (
                record {
                  sound = record { taken = taken; address = omega arith };
                  octets = o;
                  header = subst (λ (n : ℕ). HeaderInside w n (at + 8 * r.length_ind)) ends kept;
                },
                s,
              )),
            ),
          )

  end-stands : (at : ℕ) → at % 8 ≡ 0 → at + 16 ≤ w → Between l at (value_bits 2 1) (at + 2) → Between l (at + 2) (value_bits 1 1) (at + 2 + 1)
      → StepStands w l at (end_at w l at (at + 2 + 1))
  unfolding end_at end_step Stands header_bits end_bits
  end-stands at k h e₁ e₂ =
      field_found 1 l (at + 2 + 1) _ (StepStands w l at) bits (omega arith) λ v₃ s₃ e₃.
      field_found 1 l (at + 2 + 1 + 1) _ (StepStands w l at) bits (omega arith) λ v₄ s₄ e₄.
      field_found 6 l (at + 2 + 1 + 1 + 1) _ (StepStands w l at) bits (omega arith) λ v₅ s₅ e₅.
      field_found 1 l (at + 2 + 1 + 1 + 1 + 6) _ (StepStands w l at) bits (omega arith) λ v₆ s₆ e₆.
      field_found 1 l (at + 2 + 1 + 1 + 1 + 6 + 1) _ (StepStands w l at) bits (omega arith) λ v₇ s₇ e₇.
      cond-stands w l at (eqb v₆ 0 && eqb v₇ 0 && octets_inside w at v₅) _ λ t.
      let p = and3 (eqb v₆ 0) (eqb v₇ 0) (octets_inside w at v₅) t in
      let o = octets-true w at v₅ p.2 in
      let z₆ = rw (eqb-true v₆ 0 p.0) at e₆ in
      let z₇ = rw (eqb-true v₇ 0 p.1) at e₇ in (
        omega arith,
        omega (arith, o.low),
        λ ps s. (
          refl,
          h,
          there at _ (PduHeader.End (record { fill_bits = v₃; pos_of_grant = v₄; length_ind = v₅ })) h (omega arith)
              (joined e₁ (joined e₂ (joined e₃ (joined e₄ (joined e₅ (joined z₆ z₇)))))),
          (record { fill = s₃; position = s₄; octets = o }, s),
        ),
      )

  fragment-stands : (at : ℕ) → at % 8 ≡ 0 → at + 16 ≤ w → Between l at (value_bits 2 1) (at + 2) → StepStands w l at (fragment_at w l at (at + 2))
  unfolding fragment_at Stands header_bits frag_bits
  fragment-stands at k h e₁ = field_found 1 l (at + 2) _ (StepStands w l at) bits (omega arith) sub
    where
      sub : (v : ℕ) → v < 2 ^ 1 → Between l (at + 2) (value_bits 1 v) (at + 2 + 1)
          → StepStands w l at (if_zero v (field l (at + 2 + 1) 1 λ fill at. Ok (PduHeader.Frag (record { fill_bits = fill }), None)) (end_at w l at (at + 2 + 1)))
      sub zero s e₂ =
          field_found 1 l (at + 2 + 1) _ (StepStands w l at) bits (omega arith) λ v s₃ e₃.
          (refl, h, there at _ (PduHeader.Frag (record { fill_bits = v })) h (omega arith) (joined e₁ (joined e₂ e₃)), (s₃, refl))
      sub (suc zero) s e₂ = end-stands at k h e₁ e₂
      sub (suc (suc n)) s e₂ = absurd (omega arith)

  pdu-stands : (at : ℕ) → at % 8 ≡ 0 → at + 16 ≤ w → StepStands w l at (pdu_at w l at)
  unfolding pdu_at
  pdu-stands at k h = field_found 2 l at _ (StepStands w l at) bits (omega arith) typed
    where
      typed : (t : ℕ) → t < 2 ^ 2 → Between l at (value_bits 2 t) (at + 2) → StepStands w l at (of_type t w l at (at + 2))
      typed zero s e = resource-found l at _ (StepStands w l at) bits (omega arith) e λ r after n b. resource-stands at r after k h b
      typed (suc zero) s e = fragment-stands at k h e
      typed (suc (suc t)) s e = tt

  -- ---- the list

  step-listed : (at : ℕ) (s : Step) (k : ℕ → Listing) (hs : List PlacedHeader) → StepStands w l at s
      → ((next : ℕ) (ps : List PlacedHeader) → next % 8 ≡ 0 → at + 16 ≤ next → k next ≡ headers ps → Stands w l next ps) → on_step s at k ≡ headers hs
      → Stands w l at hs
  step-listed at (Err r) k hs st ih e = never-listed e
  step-listed at (Ok (h, None)) k hs st ih e = subst (Stands w l at) (same-list e) st
  step-listed at (Ok (h, Some next)) k hs st ih e = go (k next) refl e
    where
      go : (r : Listing) → k next ≡ r → before (record { at = at; header = h }) r ≡ headers hs → Stands w l at hs
      go refused q e = never-listed e
      go (headers ps) q e = subst (Stands w l at) (same-list e) (st.2 ps (ih next ps st.0 st.1 q))

  pub list-stands : (n at : ℕ) (hs : List PlacedHeader) → at % 8 ≡ 0 → w < at + 16 * (n + 1) → read_pdus n w l at ≡ headers hs → Stands w l at hs
  unfolding read_pdus Stands
  list-stands zero at hs k few e =
      let none : Stands w l at [] = omega arith in
      subst (Stands w l at) (same-list e) none
  list-stands (suc n) at hs k few e = go (ltb w (at + 16)) refl e (λ next ps z h x. list-stands n next ps z (omega arith) x)
    where
      go : (b : Bool) → ltb w (at + 16) ≡ b → cond b (headers []) (on_step (pdu_at w l at) at (λ next. read_pdus n w l next)) ≡ headers hs
          → ((next : ℕ) (ps : List PlacedHeader) → next % 8 ≡ 0 → at + 16 ≤ next → read_pdus n w l next ≡ headers ps → Stands w l next ps) → Stands w l at hs
      go true q e ih =
          let none : Stands w l at [] = ltb-true w (at + 16) q in
          subst (Stands w l at) (same-list e) none
      go false q e ih = step-listed at (pdu_at w l at) (λ next. read_pdus n w l next) hs (pdu-stands at k (ltb-false w (at + 16) q)) ih e
