-- The headers of a block that was built are the headers that are read. Assumes nothing.
use Rattle.std.proofs.Common.{Ok, Some, None}
use mathlib.Core.Path.{◌≡◌, refl, sym, ap, ◌∙◌}
use mathlib.Core.Bool.{true, or-true}
use mathlib.Core.Logic.{◌⊎◌, ⊎_elim}
use mathlib.Core.List.{List, [], ◌∷◌, ◌++◌, append_assoc}
use Prim.Native.Nat.{ℕ, zero, suc, ◌+◌, ◌*◌, ◌/◌, ◌≤◌, ◌<◌}
use native.Mathlib.Omega.{arith}
use lib.ListN.{length, drop, length-append, length-drop}
use lib.Seq.{drop_at, drop-drop}
use borrow.Author.Tests.{le-leb, eq-eqb, ne_eqb}
use Rattle.bitbuffer.proofs.Laws.{field_back}
use Rattle.mac_pdus.specs.declared.ResourceHeader.{ResourceHeader}
use Rattle.mac_pdus.specs.Headers.{address_type, fixed_bits, resource_bits, frag_bits, end_bits, header_bits, null_header}
use Rattle.mac_pdus.proofs.RoundTrip.{resource-back}
use Rattle.mac_pdus.proofs.ShortHeaders.{null_size}
use Rattle.mac_pdus.specs.declared.PduHeader.{PduHeader}
use Rattle.mac_pdus.specs.declared.MacFragDl.{MacFragDl}
use Rattle.mac_pdus.specs.declared.MacEndDl.{MacEndDl}
use Rattle.mac_pdus.specs.Within.{ResourceWithin, EndWithin}
use Rattle.mac_pdus.specs.Legal.{within_widths, all_absent, legal_parts, legal_fields, legal_to_write, offered, writer_takes}
use Rattle.mac_pdus.proofs.LegalLaws.{taken-within}
use Rattle.mac_reader.specs.Reader.{Step, octets_inside, header_end, starts_fragment, well_placed, resource_step}
use Rattle.mac_reader.specs.Reader.{end_step, end_at, fragment_at, pdu_at, headers, before}
use Rattle.mac_reader.specs.Reader.{read_pdus}
use Rattle.mac_reader.proofs.Steps.{limit-end, limit-block, at-end, last-read, more-read}
use Rattle.mac_reader.specs.PduList.{Pdu, whole, first, frag, final, null, header, body, pdu_bits, block_bits, placed, WholeFits, FirstFits, FragFits}
use Rattle.mac_reader.specs.PduList.{FinalFits, Fits}

-- ---- one PDU

-- what stands behind the bits `f` stands where they end
after_is : (l f rest : List ℕ) (at after : ℕ) → drop at l ≡ f ++ rest → drop after l ≡ rest → 0 < length rest → after ≡ at + length f
after_is l f rest at after e d h =
    omega (arith, simp (length-append, length-drop) at (ap length e), simp length-drop at (ap length d))

pub resource-pdu : (r : ResourceHeader) (w at : ℕ) (l rest : List ℕ) → ResourceWithin r → drop at l ≡ resource_bits r ++ rest → 0 < length rest
    → pdu_at w l at ≡ resource_step w at r (at + length (resource_bits r))
unfolding pdu_at resource_bits fixed_bits
resource-pdu r w at l rest h e some =
    field_back {X = Step} 2 0 (omega arith) l at _ _ (λ x. x ≡ resource_step w at r (at + length (resource_bits r))) (simp append_assoc at e) λ a d.
    resource-back {X = Step} r h l at rest _ (λ x. x ≡ resource_step w at r (at + length (resource_bits r))) e λ after d.
    ap (resource_step w at r) (after_is l (resource_bits r) rest at after e d some)

pub frag-pdu : (f : MacFragDl) (w at : ℕ) (l rest : List ℕ) → f.fill_bits < 2 → drop at l ≡ frag_bits f ++ rest → pdu_at w l at ≡ Ok (PduHeader.Frag f, None)
unfolding pdu_at frag_bits fragment_at
frag-pdu f w at l rest h e =
    let P : Step → Type 0 = λ x. x ≡ Ok (PduHeader.Frag f, None) in
    field_back {X = Step} 2 1 (omega arith) l at _ _ P (simp append_assoc at e) λ a₁ e₁.
    field_back {X = Step} 1 0 (omega arith) l a₁ _ _ P e₁ λ a₂ e₂.
    field_back {X = Step} 1 f.fill_bits h l a₂ _ _ P e₂ λ a₃ e₃. refl

pub final-pdu : (m : MacEndDl) (w at : ℕ) (l rest : List ℕ) → EndWithin m → drop at l ≡ end_bits m ++ rest → pdu_at w l at ≡ end_step w at m 0 0
unfolding pdu_at end_bits fragment_at end_at
final-pdu m w at l rest h e =
    let P : Step → Type 0 = λ x. x ≡ end_step w at m 0 0 in
    field_back {X = Step} 2 1 (omega arith) l at _ _ P (simp append_assoc at e) λ a₁ e₁.
    field_back {X = Step} 1 1 (omega arith) l a₁ _ _ P e₁ λ a₂ e₂.
    field_back {X = Step} 1 m.fill_bits h.fill_bits l a₂ _ _ P e₂ λ a₃ e₃.
    field_back {X = Step} 1 m.pos_of_grant h.pos_of_grant l a₃ _ _ P e₃ λ a₄ e₄.
    field_back {X = Step} 6 m.length_ind h.length_ind l a₄ _ _ P e₄ λ a₅ e₅.
    field_back {X = Step} 1 0 (omega arith) l a₅ _ _ P e₅ λ a₆ e₆.
    field_back {X = Step} 1 0 (omega arith) l a₆ _ _ P e₆ λ a₇ e₇. refl

-- ---- what is asked of it

pub octets-pass : (w at len : ℕ) → 2 ≤ len → len ≤ 34 → at + 8 * len ≤ w → octets_inside w at len ≡ true
unfolding octets_inside
octets-pass w at len a b c = rw (le-leb 2 len a, le-leb len 34 b, le-leb (at + 8 * len) w c)

header-inside : (w at head len size : ℕ) → head ≤ size → at + size ≤ w → len ≡ size / 8 → (size ≡ 8 * len) ⊎ (at + size ≡ w) → at + head ≤ header_end w
    (at + 8 * len)
header-inside w at head len size k i d e =
    ⊎_elim (λ x. let least = limit-end w (at + 8 * len) (omega arith) in omega arith)
    (λ x. let all = limit-block w (at + 8 * len) (omega arith) in omega arith) e

whole-placed : (w at head size : ℕ) (r : ResourceHeader) → WholeFits w at r size → head ≤ size → well_placed w at r (at + head) ≡ true
unfolding well_placed
whole-placed w at head size r h k =
    rw (
      h.sound.taken,
      le-leb (at + head) w (omega arith),
      octets-pass w at r.length_ind h.low h.high (omega arith),
      le-leb (at + head)
          (header_end w (at + 8 * r.length_ind)) (header-inside w at head r.length_ind size k h.inside h.code h.ends),
    )
    (or-true (starts_fragment r))

whole-step : (w at head size : ℕ) (r : ResourceHeader) → WholeFits w at r size → head ≤ size → resource_step w at r (at + head)
    ≡ Ok (PduHeader.Resource r, Some (at + 8 * r.length_ind))
unfolding resource_step
whole-step w at head size r h k =
    rw (
      whole-placed w at head size r h k,
      ne_eqb (address_type r.address) 0 (λ z. omega (arith, h.sound.address)),
      ne_eqb r.length_ind 63
          (λ z. omega arith),
    )

first_step : (w at head size : ℕ) (r : ResourceHeader) → FirstFits w at r size → head ≤ size → resource_step w at r (at + head) ≡ Ok (PduHeader.Resource r, None)
unfolding resource_step well_placed
first_step w at head size r h k =
    rw (
      h.sound.taken,
      le-leb (at + head) w (omega arith),
      ne_eqb (address_type r.address) 0 (λ z. omega (arith, h.sound.address)),
      eq-eqb
          r.length_ind 63 h.code,
    )

null-taken : writer_takes null_header ≡ true
unfolding writer_takes offered legal_to_write legal_fields within_widths legal_parts all_absent
null-taken = refl

null-step : (w at : ℕ) → at + 16 ≤ w → resource_step w at null_header (at + 16) ≡ Ok (PduHeader.Resource null_header, None)
unfolding resource_step well_placed address_type
null-step w at h =
    rw (null-taken, le-leb (at + 16) w h, octets-pass w at 2 (omega arith) (omega arith) h, le-leb (at + 16) (header_end w (at + 16)) (limit-end w (at + 16) h))

final-step : (w at : ℕ) (m : MacEndDl) (size : ℕ) → FinalFits w at m size → end_step w at m 0 0 ≡ Ok (PduHeader.End m, Some (at + 8 * m.length_ind))
unfolding end_step
final-step w at m size h = rw (octets-pass w at m.length_ind h.low h.high (omega arith))

-- ---- the list

-- where a PDU stands, the next stands behind it
behind : (l : List ℕ) (at : ℕ) (p : Pdu) (ps : List Pdu) (rest : List ℕ) → drop at l ≡ block_bits (p ∷ ps) ++ rest → drop (at + length (pdu_bits p)) l
    ≡ block_bits ps ++ rest
unfolding block_bits
behind l at p ps rest e =
    sym (drop-drop (length (pdu_bits p)) at l) ∙ ap (drop (length (pdu_bits p))) (simp append_assoc at e)
    ∙ drop_at (pdu_bits p) (block_bits ps ++ rest) (length (pdu_bits p)) refl

-- its header stands at its front
front : (l : List ℕ) (at : ℕ) (p : Pdu) (ps : List Pdu) (rest : List ℕ) → drop at l ≡ block_bits (p ∷ ps) ++ rest
    → drop at l ≡ header_bits (header p) ++ (body p ++ (block_bits ps ++ rest))
unfolding block_bits pdu_bits
front l at p ps rest e = simp append_assoc at e

some_left : (p : Pdu) (ps : List Pdu) (rest : List ℕ) → 0 < length rest → 0 < length (body p ++ (block_bits ps ++ rest))
some_left p ps rest h = simp length-append (omega arith)

head-size : (p : Pdu) → length (header_bits (header p)) ≤ length (pdu_bits p)
unfolding pdu_bits
head-size p = simp length-append (omega arith)

-- a PDU that ends with the block is the last
none-behind : (w at : ℕ) (ps : List Pdu) → w < at + 16 → Fits w at ps → ps ≡ []
unfolding Fits
none-behind w at [] h f = refl
none-behind w at (whole r b ∷ ps) h f = absurd (omega arith)
none-behind w at (first r b ∷ ps) h f = absurd (omega arith)
none-behind w at (frag i b ∷ ps) h f = absurd (omega arith)
none-behind w at (final i b ∷ ps) h f = absurd (omega arith)
none-behind w at (null ∷ ps) h f = absurd (omega arith)

-- what the reader finds where each kind of PDU stands
module _ (w at : ℕ) (l : List ℕ) (ps : List Pdu) (rest : List ℕ) (some : 0 < length rest) where
  whole-at : (r : ResourceHeader) (b : List ℕ) → WholeFits w at r (length (pdu_bits (whole r b))) → drop at l ≡ block_bits (whole r b ∷ ps) ++ rest
      → pdu_at w l at ≡ Ok (PduHeader.Resource r, Some (at + 8 * r.length_ind))
  unfolding header header_bits
  whole-at r b f e =
      resource-pdu r w at l _ (taken-within r f.sound.taken) (front l at (whole r b) ps rest e) (some_left (whole r b) ps rest some)
      ∙ whole-step w at (length (resource_bits r)) _ r f (head-size (whole r b))

  first-at : (r : ResourceHeader) (b : List ℕ) → FirstFits w at r (length (pdu_bits (first r b))) → drop at l ≡ block_bits (first r b ∷ ps) ++ rest
      → pdu_at w l at ≡ Ok (PduHeader.Resource r, None)
  unfolding header header_bits
  first-at r b f e =
      resource-pdu r w at l _ (taken-within r f.sound.taken) (front l at (first r b) ps rest e) (some_left (first r b) ps rest some)
      ∙ first_step w at (length (resource_bits r)) _ r f (head-size (first r b))

  null-at : at + 16 ≤ w → drop at l ≡ block_bits (null ∷ ps) ++ rest → pdu_at w l at ≡ Ok (PduHeader.Resource null_header, None)
  unfolding header header_bits
  null-at h e =
      resource-pdu null_header w at l _ (taken-within null_header null-taken) (front l at null ps rest e) (some_left null ps rest some)
      ∙ ap (λ (n : ℕ). resource_step w at null_header (at + n)) null_size ∙ null-step w at h

  frag-at : (i : MacFragDl) (b : List ℕ) → FragFits w at i (length (pdu_bits (frag i b))) → drop at l ≡ block_bits (frag i b ∷ ps) ++ rest
      → pdu_at w l at ≡ Ok (PduHeader.Frag i, None)
  unfolding header header_bits
  frag-at i b f e = frag-pdu i w at l _ f.fills (front l at (frag i b) ps rest e)

  final-at : (m : MacEndDl) (b : List ℕ) → FinalFits w at m (length (pdu_bits (final m b))) → drop at l ≡ block_bits (final m b ∷ ps) ++ rest
      → pdu_at w l at ≡ Ok (PduHeader.End m, Some (at + 8 * m.length_ind))
  unfolding header header_bits
  final-at m b f e =
      let h = f.high in
      final-pdu m w at l _ (record { fill_bits = f.fills; pos_of_grant = f.positions; length_ind = omega arith }) (front l at (final m b) ps rest e)
      ∙ final-step w at m _ f

-- the PDUs behind a whole one, whose code leads to them or to the block's end
whole-rest : (n w at size len : ℕ) (l : List ℕ) (ps : List Pdu) → len ≡ size / 8 → (size ≡ 8 * len) ⊎ (at + size ≡ w) → Fits w (at + size) ps
    → read_pdus n w l (at + size) ≡ headers (placed (at + size) ps) → read_pdus n w l (at + 8 * len) ≡ headers (placed (at + size) ps)
unfolding placed
whole-rest n w at size len l ps d ends f e =
    ⊎_elim
    (λ q. ap (λ (m : ℕ). read_pdus n w l (at + m)) (sym q) ∙ e)
    (λ q. at-end n w l (at + 8 * len) (omega arith) ∙ ap (λ (x : List Pdu). headers (placed (at + size) x))
    (sym (none-behind w (at + size) ps (omega arith) f)))
    ends

alone : (at : ℕ) (p : Pdu) (ps : List Pdu) → ps ≡ [] → headers (record { at = at; header = header p } ∷ []) ≡ headers (placed at (p ∷ ps))
unfolding placed
alone at p ps e = ap (λ (x : List Pdu). headers (record { at = at; header = header p } ∷ placed (at + length (pdu_bits p)) x)) (sym e)

-- THE ROUND TRIP: a block that was built of these PDUs reads as their headers, each at its position
pub pdus-read-back : (ps : List Pdu) (n w at : ℕ) (l rest : List ℕ) → length ps ≤ n → Fits w at ps → drop at l ≡ block_bits ps ++ rest → 0 < length rest
    → read_pdus n w l at ≡ headers (placed at ps)
unfolding Fits placed header
pdus-read-back [] n w at l rest k f e some = at-end n w l at f
pdus-read-back (p ∷ ps) zero w at l rest k f e some = absurd (omega arith)
pdus-read-back (whole r b ∷ ps) (suc n) w at l rest k f e some =
    let x = whole r b in
    let size = length (pdu_bits x) in
    more-read n w l at _ (PduHeader.Resource r) f.0 (whole-at w at l ps rest some r b f.1 e)
    ∙ ap (before (record { at = at; header = PduHeader.Resource r }))
    (whole-rest n w at size r.length_ind l ps f.1.code f.1.ends f.2
    (pdus-read-back ps n w (at + size) l rest (omega arith) f.2 (behind l at x ps rest e) some))
pdus-read-back (first r b ∷ ps) (suc n) w at l rest k f e some =
    last-read n w l at (PduHeader.Resource r) f.0 (first-at w at l ps rest some r b f.1 e) ∙ alone at (first r b) ps f.2
pdus-read-back (frag i b ∷ ps) (suc n) w at l rest k f e some =
    last-read n w l at (PduHeader.Frag i) f.0 (frag-at w at l ps rest some i b f.1 e) ∙ alone at (frag i b) ps f.2
pdus-read-back (final m b ∷ ps) (suc n) w at l rest k f e some =
    let x = final m b in
    let size = length (pdu_bits x) in
    more-read n w l at _ (PduHeader.End m) f.0 (final-at w at l ps rest some m b f.1 e)
    ∙ ap (before (record { at = at; header = PduHeader.End m }))
    (ap (λ (z : ℕ). read_pdus n w l (at + z)) (sym f.1.code)
    ∙ pdus-read-back ps n w (at + size) l rest (omega arith) f.2 (behind l at x ps rest e) some)
pdus-read-back (null ∷ ps) (suc n) w at l rest k f e some =
    last-read n w l at (PduHeader.Resource null_header) f.0 (null-at w at l ps rest some f.0 e) ∙ alone at null ps f.1
