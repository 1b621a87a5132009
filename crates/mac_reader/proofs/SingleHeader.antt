-- What the theorems of `TakenExactly` say of a single header: of a null, of each header that is listed, of the first, of one that is alone. Assumes nothing.
use Rattle.std.proofs.Common.{Ok, Err, Some, None}
use mathlib.Core.Path.{◌≡◌, refl, sym, ap, ◌∙◌, subst}
use mathlib.Core.Bool.{Bool, true, false, cond}
use mathlib.Core.Logic.{inl, inr}
use mathlib.Core.List.{List, [], ◌∷◌, ◌++◌}
use Prim.Native.Nat.{ℕ, suc, ◌+◌, ◌-◌, ◌*◌, ◌≤◌, ◌<◌}
use native.Mathlib.Omega.{arith}
use lib.ListN.{length, replicate}
use borrow.Author.Tests.{lt-ltb, le-ltb}
use Rattle.lists.proofs.Every.{All}
use Rattle.sizes.specs.Sizes.{block_octets}
use Rattle.bitbuffer.specs.Bits.{bits_of, part}
use Rattle.mac_pdus.specs.declared.ResourceHeader.{ResourceHeader}
use Rattle.mac_pdus.specs.declared.PduHeader.{PduHeader}
use Rattle.mac_pdus.specs.Headers.{address_type, resource_bits, header_bits}
use Rattle.mac_pdus.specs.Legal.{within_widths, all_absent, legal_parts, legal_fields, legal_to_write, offered, writer_takes}
use Rattle.questions.specs.declared.Refusal.{Refusal}
use Rattle.mac_reader.specs.declared.PlacedHeader.{PlacedHeader}
use Rattle.mac_reader.specs.Reader.{Step, Listing, refused, headers, before, on_step, stops_after, well_placed, pdu_at, resource_step, read_pdus, block_pdus}
use Rattle.mac_reader.specs.Stands.{BitsStand, Octets, HeaderStands, Stands, Leads, null_of}
use Rattle.mac_reader.proofs.Steps.{same-list, never-listed}
use Rattle.mac_reader.proofs.StandsRead.{null-length, resource-read}
use Rattle.mac_reader.proofs.TakenExactly.{header-map, padded-part, padded-size, taken-exactly}

-- behind headers that lead to `end` stands what stands from there on
leads-then : (w : ℕ) (l : List ℕ) (hs ps : List PlacedHeader) (at end : ℕ) → Leads w l at hs end → Stands w l end ps → Stands w l at (hs ++ ps)
unfolding Leads Stands
leads-then w l [] ps at end s t = subst (λ (n : ℕ). Stands w l n ps) (sym s) t
leads-then w l (h ∷ hs) ps at end s t =
    (s.0, s.1, s.2, header-map w at h.header ⊥ _ _ _ (λ none. absurd none) (λ next k. leads-then w l hs ps next end k t) s.3)

null-taken : (code : ℕ) → 0 < code → code < 64 → writer_takes (null_of code) ≡ true
unfolding writer_takes offered legal_to_write legal_fields within_widths legal_parts all_absent
null-taken code a b = rw (lt-ltb code 64 b, lt-ltb 0 code a)

null-type : (code : ℕ) → address_type (null_of code).address ≡ 0
unfolding address_type
null-type code = refl

-- what follows of a header that stands, from what follows where it is the last and where others stand behind it
header-elim : (w at : ℕ) (h : PduHeader) (last X : Type 0) (f : ℕ → Type 0) → (last → X) → ((n : ℕ) → f n → X) → HeaderStands w at h last f → X
header-elim w at (PduHeader.Resource r) last X f j k (inl s) = j s.1
header-elim w at (PduHeader.Resource r) last X f j k (inr (inl s)) = j s.1
header-elim w at (PduHeader.Resource r) last X f j k (inr (inr s)) = k _ s.1
header-elim w at (PduHeader.Frag i) last X f j k s = j s.1
header-elim w at (PduHeader.End e) last X f j k s = k _ s.1

stands-bits : (w : ℕ) (l : List ℕ) (hs : List PlacedHeader) (at : ℕ) → Stands w l at hs → All (λ (p : PlacedHeader). BitsStand w l p.at p.header) hs
unfolding Stands
stands-bits w l [] at s = tt
stands-bits w l (p ∷ ps) at s =
    let P : PlacedHeader → Type 0 = λ p. BitsStand w l p.at p.header in (
      subst (λ (n : ℕ). BitsStand w l n p.header) (sym s.0) s.2,
      header-elim w at p.header (ps ≡ []) (All P ps) _ (λ e. subst (All P) (sym e) tt) (λ next k. stands-bits w l ps next k) s.3,
    )

-- the header that a step of the reader begins its list with
step-first : (b c : Bool) (x : PduHeader) (next at : ℕ) (k : ℕ → Listing) (hs : List PlacedHeader)
    → on_step (cond b (Ok (x, cond c None (Some next))) (Err Refusal.Malformed)) at k ≡ headers hs
    → (ps : List PlacedHeader) × (hs ≡ record { at = at; header = x } ∷ ps)
step-first true true x next at k hs e = ([], sym (same-list e))
step-first true false x next at k hs e = go (k next) e
  where
    go : (r : Listing) → before (record { at = at; header = x }) r ≡ headers hs → (ps : List PlacedHeader) × (hs ≡ record { at = at; header = x } ∷ ps)
    go refused e = never-listed e
    go (headers ps) e = (ps, sym (same-list e))
step-first false c x next at k hs e = never-listed e

resource-first : (w at : ℕ) (r : ResourceHeader) (after : ℕ) (k : ℕ → Listing) (hs : List PlacedHeader)
    → on_step (resource_step w at r after) at k ≡ headers hs
    → (ps : List PlacedHeader) × (hs ≡ record { at = at; header = PduHeader.Resource r } ∷ ps)
unfolding resource_step
resource-first w at r after k hs e =
    step-first (well_placed w at r after) (stops_after r) (PduHeader.Resource r) (at + 8 * r.length_ind) at k hs e

step-read : (n w : ℕ) (l : List ℕ) (at : ℕ) → at + 16 ≤ w → read_pdus (suc n) w l at ≡ on_step (pdu_at w l at) at (λ next. read_pdus n w l next)
unfolding read_pdus
step-read n w l at h = rw (le-ltb w (at + 16) h)

-- ---- a block of up to 34 octets

module _ (o : ℕ) (s : List ℕ) (some : 0 < o) (few : o ≤ block_octets) (size : length s ≡ o) where
  -- "lists headers .., null .. too": a null of any code from 2 to 34 inside the block is listed behind the headers that lead to it
  pub null-reads-back : (hs : List PlacedHeader) (at code : ℕ) → Leads (8 * o - 4) (bits_of s) 0 hs at → Octets (8 * o - 4) at code
      → part (bits_of s) at 16 ≡ header_bits (PduHeader.Resource (null_of code))
      → block_pdus o s ≡ headers (hs ++ (record { at = at; header = PduHeader.Resource (null_of code) } ∷ []))
  unfolding Stands header_bits
  null-reads-back hs at code k i e =
      let n = null-length (null_of code) (null-type code) in
      let p : PlacedHeader = record { at = at; header = PduHeader.Resource (null_of code) } in
      let low = i.low in
      let high = i.high in
      let inside = i.inside in
      (taken-exactly o s some few size (hs ++ (p ∷ []))).1
      (leads-then (8 * o - 4) (bits_of s) hs (p ∷ []) 0 at k (
        refl,
        omega arith,
        record { bits = rw n e; inside = rw n (omega arith) },
        inl (record { taken = null-taken code (omega arith) (omega arith); null = null-type code; octets = i }, refl),
      ))

  -- the bits of every header that the reader lists are the writer's bits of it, where it says that it stands
  pub read_back : (hs : List PlacedHeader) → block_pdus o s ≡ headers hs → All (λ (p : PlacedHeader). BitsStand (8 * o - 4) (bits_of s) p.at p.header) hs
  read_back hs e = stands-bits (8 * o - 4) (bits_of s) hs 0 ((taken-exactly o s some few size hs).0 e)

  -- a legal header whose bits stand at the block's front is the first that the reader lists, if it lists any
  pub first-listed : (r : ResourceHeader) → 16 ≤ 8 * o - 4 → writer_takes r ≡ true → BitsStand (8 * o - 4) (bits_of s) 0 (PduHeader.Resource r)
      → (hs : List PlacedHeader) → block_pdus o s ≡ headers hs
      → (ps : List PlacedHeader) × (hs ≡ record { at = 0; header = PduHeader.Resource r } ∷ ps)
  unfolding block_pdus
  first-listed r h taken b hs e =
      let w = 8 * o - 4 in
      let l = bits_of (s ++ replicate 14 0) in
      let long = padded-size s in
      let inside = b.inside in
      let here : BitsStand w l 0 (PduHeader.Resource r) = record { bits = padded-part s 0 _ (omega arith) ∙ b.bits; inside = inside } in
      resource-first w 0 r (0 + length (resource_bits r)) (λ next. read_pdus 15 w l next) hs
      (ap (λ (x : Step). on_step x 0 (λ next. read_pdus 15 w l next)) (sym (resource-read w l (omega arith) 0 r here taken))
      ∙ sym (step-read 15 w l 0 h) ∙ e)

  -- a header that stands alone in the block is all that the reader lists
  pub only-listed : (h : PduHeader) → 16 ≤ 8 * o - 4 → BitsStand (8 * o - 4) (bits_of s) 0 h → HeaderStands (8 * o - 4) 0 h Unit (λ next. 8 * o - 4 < next + 16)
      → block_pdus o s ≡ headers (record { at = 0; header = h } ∷ [])
  unfolding Stands
  only-listed h k b x =
      (taken-exactly o s some few size (record { at = 0; header = h } ∷ [])).1
      (refl, k, b, header-map (8 * o - 4) 0 h Unit _ _ _ (λ u. refl) (λ next i. i) x)
