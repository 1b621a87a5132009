-- The loop that reads a block. Assumes nothing.
use Rattle.std.proofs.Common.{Ok, Err, Some, None}
use mathlib.Core.Path.{◌≡◌, refl, sym, ap, ◌∙◌, subst}
use mathlib.Core.Bool.{Bool, true, false, cond, ◌&&◌, ◌||◌}
use mathlib.Core.List.{List, [], ◌∷◌, ◌++◌, append-nil}
use Prim.Native.Nat.{ℕ, zero, suc, ◌+◌, ◌-◌, ◌*◌, ◌≤◌, ◌<◌}
use native.Mathlib.Nat.{zero-add, suc-add}
use native.Mathlib.Omega.{arith}
use lib.ListN.{length, length-append}
use lib.Seq.{append_snoc}
use lib.Dec.{ltb, leb, eqb}
use Rattle.sizes.specs.Sizes.{block_width}
use Rattle.bitbuffer.specs.Bits.{bits_value, part, field}
use Rattle.mac_pdus.specs.declared.ResourceHeader.{ResourceHeader}
use Rattle.mac_pdus.specs.Headers.{if_zero, address_type}
use Rattle.mac_pdus.proofs.ReadLaws.{resource-parts, resource_parts, resource_next}
use Rattle.mac_pdus.specs.declared.PduHeader.{PduHeader}
use Rattle.questions.specs.declared.Refusal.{Refusal}
use Rattle.questions.specs.Questions.{refusal_number}
use Rattle.mac_reader.specs.declared.PlacedHeader.{PlacedHeader}
use Rattle.mac_pdus.specs.declared.MacEndDl.{MacEndDl}
use Rattle.mac_pdus.specs.Legal.{writer_takes}
use Rattle.mac_pdus.proofs.Conjunctions.{and2, and3}
use Rattle.mac_reader.specs.Reader.{Step, octets_inside, header_end, starts_fragment, stops_after, well_placed, resource_step, end_step, end_at, fragment_at, of_type}
use Rattle.mac_reader.specs.Reader.{pdu_at, Listing, refused, headers, before, on_step, read_pdus, no_headers, reply_of, most_pdus}
use Rattle.mac_reader.specs.Stands.{Octets}
use Rattle.mac_reader.proofs.Steps.{at-end, last-read, more-read, refused-read, none_left, octets-true, or-false, neither}

-- ---- a PDU that is not the last ends 16 bits or more behind its start, and inside the block; what may not stand there is refused as malformed

abbrev pub Onward : ℕ → ℕ → Step → Type 0
Onward w at (Err r) = r ≡ Refusal.Malformed
Onward w at (Ok (h, None)) = Unit
Onward w at (Ok (h, Some next)) = (at + most_pdus ≤ next) × (next ≤ w)

octets-on : (w at len : ℕ) (h : PduHeader) → Octets w at len → Onward w at (Ok (h, Some (at + 8 * len)))
octets-on w at len h o = (omega arith, omega arith)

-- behind a test nothing else is said
cond-on : (w at : ℕ) (b : Bool) (s : Step) → (b ≡ true → Onward w at s) → Onward w at (cond b s (Err Refusal.Malformed))
cond-on w at true s h = h refl
cond-on w at false s h = refl

resource-on : (w at : ℕ) (r : ResourceHeader) (after : ℕ) → Onward w at (resource_step w at r after)
unfolding resource_step well_placed
resource-on w at r after = cond-on w at (well_placed w at r after) _ λ e. go (stops_after r) refl e
  where
    go : (b : Bool) → stops_after r ≡ b → well_placed w at r after ≡ true
        → Onward w at (Ok (PduHeader.Resource r, cond b None (Some (at + 8 * r.length_ind))))
    go true q e = tt
    go false q e =
        let inside = octets_inside w at r.length_ind in
        let limit = leb after (header_end w (at + 8 * r.length_ind)) in
        let p = and3 (writer_takes r) (leb after w) (starts_fragment r || inside && limit) e in
        let o = or-false (starts_fragment r) (inside && limit) (neither (eqb (address_type r.address) 0) (eqb r.length_ind 63) q) p.2 in
        octets-on w at r.length_ind (PduHeader.Resource r) (octets-true w at r.length_ind (and2 inside limit o).0)

end_on : (w at : ℕ) (m : MacEndDl) (x y : ℕ) → Onward w at (end_step w at m x y)
unfolding end_step
end_on w at m x y =
    cond-on w at (eqb x 0 && eqb y 0 && octets_inside w at m.length_ind) _ λ e.
    octets-on w at m.length_ind (PduHeader.End m) (octets-true w at m.length_ind
    (and3 (eqb x 0) (eqb y 0) (octets_inside w at m.length_ind) e).2)

fragment-on : (w : ℕ) (l : List ℕ) (start at : ℕ) → Onward w start (fragment_at w l start at)
unfolding fragment_at end_at field
fragment-on w l start at = go (bits_value (part l at 1))
  where
    go : (n : ℕ) → Onward w start (if_zero n (Ok (PduHeader.Frag (record { fill_bits = bits_value (part l (at + 1) 1) }), None)) (end_at w l start (at + 1)))
    go zero = tt
    go (suc n) = end_on w start _ _ _

type-on : (t w : ℕ) (l : List ℕ) (start at : ℕ) → Onward w start (of_type t w l start at)
type-on zero w l start at =
    subst (Onward w start) (resource-parts l start (λ r after. resource_step w start r after))
    (resource-on w start (resource_parts l start) (resource_next l start))
type-on (suc zero) w l start at = fragment-on w l start at
type-on (suc (suc t)) w l start at = refl

pub pdu-on : (w : ℕ) (l : List ℕ) (at : ℕ) → Onward w at (pdu_at w l at)
unfolding pdu_at field
pdu-on w l at = type-on (bits_value (part l at 2)) w l at (at + 2)

more-on : (w : ℕ) (l : List ℕ) (at next : ℕ) (h : PduHeader) → pdu_at w l at ≡ Ok (h, Some next) → next ≤ w
more-on w l at next h e = (subst (Onward w at) e (pdu-on w l at)).1

-- ---- the loop that reads

abbrev pub listed_after : List PlacedHeader → Listing → Listing
listed_after ds refused = refused
listed_after ds (headers ps) = headers (ds ++ ps)

-- what is read so far, up to `at`: with what is left to read from there on it gives the whole
pub record Got (w : ℕ) (l : List ℕ) (ds : List PlacedHeader) (at : ℕ) : Type 0 where
  pub few : length ds ≤ most_pdus
  pub inside : at ≤ w
  pub left : read_pdus most_pdus w l 0 ≡ listed_after ds (read_pdus (most_pdus - length ds) w l at)

listed-after-one : (ds : List PlacedHeader) (p : PlacedHeader) (r : Listing) → listed_after ds (before p r) ≡ listed_after (ds ++ (p ∷ [])) r
listed-after-one ds p refused = refl
listed-after-one ds p (headers ps) = ap headers (sym (append_snoc ds p ps))

module _ (w : ℕ) (l : List ℕ) (ds : List PlacedHeader) (at : ℕ) (g : Got w l ds at) where
  one : length ds < most_pdus → most_pdus - length ds ≡ suc (most_pdus - (length ds + 1))
  one h = omega arith

  nothing-left : read_pdus (most_pdus - length ds) w l at ≡ headers [] → reply_of (headers ds) ≡ reply_of (read_pdus most_pdus w l 0)
  nothing-left e = ap reply_of (ap headers (sym (append-nil ds)) ∙ ap (listed_after ds) (sym e) ∙ sym g.left)

  pub got-end : w < at + 16 → reply_of (headers ds) ≡ reply_of (read_pdus most_pdus w l 0)
  got-end h = nothing-left (at-end (most_pdus - length ds) w l at h)

  pub got-full : most_pdus ≤ length ds → reply_of (headers ds) ≡ reply_of (read_pdus most_pdus w l 0)
  got-full h = nothing-left (none_left (most_pdus - length ds) w l at (omega arith))

  pub got-refused : (r : Refusal) → length ds < most_pdus → at + 16 ≤ w → pdu_at w l at ≡ Err r
      → no_headers (refusal_number r) ≡ reply_of (read_pdus most_pdus w l 0)
  got-refused r k h e =
      ap (λ (x : Refusal). no_headers (refusal_number x)) (subst (Onward w at) e (pdu-on w l at))
      ∙ ap reply_of (ap (listed_after ds) (sym (ap (λ (m : ℕ). read_pdus m w l at) (one k) ∙ refused-read (most_pdus - (length ds + 1)) w l at r h e)) ∙ sym g.left)

  pub got_last : (h : PduHeader) → length ds < most_pdus → at + 16 ≤ w → pdu_at w l at ≡ Ok (h, None)
      → reply_of (headers (ds ++ (record { at = at; header = h } ∷ []))) ≡ reply_of (read_pdus most_pdus w l 0)
  got_last h k i e =
      ap reply_of (ap (listed_after ds) (sym (ap (λ (m : ℕ). read_pdus m w l at) (one k) ∙ last-read (most_pdus - (length ds + 1)) w l at h i e)) ∙ sym g.left)

  pub got-more : (h : PduHeader) (next : ℕ) → length ds < most_pdus → at + 16 ≤ w → pdu_at w l at ≡ Ok (h, Some next)
      → Got w l (ds ++ (record { at = at; header = h } ∷ [])) next
  got-more h next k i e =
      let p : PlacedHeader = record { at = at; header = h } in
      let size : length (ds ++ (p ∷ [])) ≡ length ds + 1 = length-append ds (p ∷ []) in
      record {
        few = omega arith;
        inside = more-on w l at next h e;
        left =
            g.left ∙ ap (listed_after ds) (ap (λ (m : ℕ). read_pdus m w l at) (one k) ∙ more-read (most_pdus - (length ds + 1)) w l at next h i e)
            ∙ listed-after-one ds p (read_pdus (most_pdus - (length ds + 1)) w l next)
            ∙ ap (λ (m : ℕ). listed_after (ds ++ (p ∷ [])) (read_pdus (most_pdus - m) w l next)) (sym size);
      }

-- ---- sixteen are enough: each PDU that is not the last takes 16 bits or more

same_step : (s : Step) (w at : ℕ) (j k : ℕ → Listing) → Onward w at s
    → ((next : ℕ) → at + most_pdus ≤ next → j next ≡ k next) → on_step s at j ≡ on_step s at k
same_step (Err r) w at j k o h = refl
same_step (Ok (x, None)) w at j k o h = refl
same_step (Ok (x, Some next)) w at j k o h = ap (before (record { at = at; header = x })) (h next o.0)

pub enough : (n m w : ℕ) (l : List ℕ) (at : ℕ) → w < at + 16 * (n + 1) → read_pdus n w l at ≡ read_pdus (n + m) w l at
unfolding read_pdus
enough zero m w l at h = rw zero-add (sym (at-end m w l at (omega arith)))
enough (suc n) m w l at h =
    rw suc-add
    (ap (λ (x : Listing). cond (ltb w (at + 16)) (headers []) x)
    (same_step (pdu_at w l at) w at (λ next. read_pdus n w l next) (λ next. read_pdus (n + m) w l next) (pdu-on w l at)
    (λ next k. enough n m w l next (omega arith))))

-- so the reader's list cuts nothing off
pub sixteen : (m : ℕ) (l : List ℕ) → read_pdus most_pdus block_width l 0 ≡ read_pdus (most_pdus + m) block_width l 0
sixteen m l = enough most_pdus m block_width l 0 (omega arith)
