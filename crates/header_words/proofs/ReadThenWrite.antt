-- WHAT THE BLOCK READER LISTS CAN BE WRITTEN: the words of each MAC-RESOURCE that it lists, handed to the header writer, are taken wherever there is
-- room. Assumes nothing.
use Rattle.std.proofs.Common.{Ok, Err, Some, None}
use mathlib.Core.Path.{◌≡◌, refl, sym, ap, subst, ◌∙◌}
use mathlib.Core.Bool.{Bool, true, false, cond, ◌&&◌, ◌||◌}
use mathlib.Core.List.{List, [], ◌∷◌}
use Prim.Native.Nat.{ℕ, zero, suc, ◌+◌, ◌*◌}
use lib.Dec.{ltb, leb, eqb}
use Rattle.lists.proofs.Every.{All, all-weaken}
use Rattle.sizes.specs.Sizes.{block_octets}
use Rattle.bitbuffer.specs.Bits.{bits_value, part, field}
use Rattle.questions.proofs.AskLaws.{every-yes}
use Rattle.mac_pdus.specs.declared.ResourceHeader.{ResourceHeader}
use Rattle.mac_pdus.specs.declared.MacResource.{MacResource}
use Rattle.mac_pdus.specs.declared.MacEndDl.{MacEndDl}
use Rattle.mac_pdus.specs.declared.PduHeader.{PduHeader}
use Rattle.mac_pdus.specs.Headers.{if_zero, header_length}
use Rattle.mac_pdus.specs.Legal.{fits, label_fits, opt_fits, within_widths, on_air, offered, writer_takes}
use Rattle.mac_pdus.proofs.Conjunctions.{and3, and10}
use Rattle.mac_pdus.proofs.LegalLaws.{to_write, fields, on-air-again}
use Rattle.mac_pdus.proofs.ReadLaws.{resource-parts, resource_parts, resource_next}
use Rattle.mac_reader.specs.declared.PlacedHeader.{PlacedHeader}
use Rattle.questions.specs.declared.Refusal.{Refusal}
use Rattle.mac_reader.specs.Reader.{Step, octets_inside, header_end, starts_fragment, well_placed, resource_step, end_step, end_at, fragment_at}
use Rattle.mac_reader.specs.Reader.{of_type, pdu_at}
use Rattle.mac_reader.specs.Reader.{Listing, refused, headers, before, on_step, read_pdus, most_pdus, block_pdus}
use Rattle.mac_writer.specs.Writer.{room_for, write_questions, write_reply}
use Rattle.header_words.specs.HeaderWords.{header_words, write_words_reply}
use Rattle.header_words.proofs.HeaderLaws.{header-size}
use Rattle.header_words.proofs.HeaderRoundTrip.{listed-words-taken}
use Rattle.header_words.proofs.WriteLaws.{as-header}

-- ---- a MAC-RESOURCE that is listed is one that the writer takes

abbrev Taken : PduHeader → Type 0
Taken (PduHeader.Resource r) = writer_takes r ≡ true
Taken (PduHeader.Frag f) = Unit
Taken (PduHeader.End e) = Unit

abbrev StepTaken : Step → Type 0
StepTaken (Err r) = Unit
StepTaken (Ok (h, next)) = Taken h

abbrev ListTaken : Listing → Type 0
ListTaken refused = Unit
ListTaken (headers ps) = All (λ (p : PlacedHeader). Taken p.header) ps

if-true : (b : Bool) (s : Step) → (b ≡ true → StepTaken s) → StepTaken (cond b s (Err Refusal.Malformed))
if-true true s h = h refl
if-true false s h = tt

resource-taken : (w at : ℕ) (r : ResourceHeader) (after : ℕ) → StepTaken (resource_step w at r after)
unfolding resource_step well_placed
resource-taken w at r after =
    if-true (well_placed w at r after) _ λ e.
    let inside = octets_inside w at r.length_ind && leb after (header_end w (at + 8 * r.length_ind)) in
    (and3 (writer_takes r) (leb after w) (starts_fragment r || inside) e).0

end-taken : (w at : ℕ) (m : MacEndDl) (x y : ℕ) → StepTaken (end_step w at m x y)
unfolding end_step
end-taken w at m x y = if-true (eqb x 0 && eqb y 0 && octets_inside w at m.length_ind) _ λ e. tt

zero-taken : (n : ℕ) (s t : Step) → StepTaken s → StepTaken t → StepTaken (if_zero n s t)
zero-taken zero s t h g = h
zero-taken (suc n) s t h g = g

fragment-taken : (w : ℕ) (l : List ℕ) (start at : ℕ) → StepTaken (fragment_at w l start at)
unfolding fragment_at end_at field
fragment-taken w l start at = zero-taken (bits_value (part l at 1)) _ _ tt (end-taken w start _ _ _)

type-taken : (t w : ℕ) (l : List ℕ) (start at : ℕ) → StepTaken (of_type t w l start at)
type-taken zero w l start at =
    subst StepTaken (resource-parts l start (λ r after. resource_step w start r after))
    (resource-taken w start (resource_parts l start) (resource_next l start))
type-taken (suc zero) w l start at = fragment-taken w l start at
type-taken (suc (suc t)) w l start at = tt

pdu-taken : (w : ℕ) (l : List ℕ) (at : ℕ) → StepTaken (pdu_at w l at)
unfolding pdu_at field
pdu-taken w l at = type-taken (bits_value (part l at 2)) w l at (at + 2)

before-taken : (p : PlacedHeader) (r : Listing) → Taken p.header → ListTaken r → ListTaken (before p r)
before-taken p refused h g = tt
before-taken p (headers ps) h g = (h, g)

step-taken : (at : ℕ) (s : Step) (k : ℕ → Listing) → StepTaken s → ((next : ℕ) → ListTaken (k next)) → ListTaken (on_step s at k)
step-taken at (Err r) k h f = tt
step-taken at (Ok (x, None)) k h f = (h, tt)
step-taken at (Ok (x, Some next)) k h f = before-taken _ (k next) h (f next)

none-taken : (b : Bool) (r : Listing) → ListTaken r → ListTaken (cond b (headers []) r)
none-taken true r g = tt
none-taken false r g = g

pdus-taken : (n w : ℕ) (l : List ℕ) (at : ℕ) → ListTaken (read_pdus n w l at)
unfolding read_pdus
pdus-taken zero w l at = tt
pdus-taken (suc n) w l at =
    none-taken (ltb w (at + 16)) (on_step (pdu_at w l at) at (λ (next : ℕ). read_pdus n w l next))
    (step-taken at (pdu_at w l at) (λ (next : ℕ). read_pdus n w l next) (pdu-taken w l at) (λ next. pdus-taken n w l next))

-- ---- and its words are taken

-- the writer's number question is one of its widths
number_fits : (h : MacResource) → within_widths h ≡ true → fits 24 h.number ≡ true
unfolding within_widths
number_fits h e =
    (and10 (fits 1 h.fill_bits) (fits 1 h.pos_of_grant) (fits 2 h.encryption_mode) (fits 1 h.random_access_flag)
    (fits 6 h.length_ind) (fits 24 h.number) (label_fits h.event_label) (opt_fits 6 h.usage_marker) (opt_fits 4 h.power_control_element)
    (opt_fits 8 h.slot_granting_element) e).5

taken-reply : (r : ResourceHeader) → writer_takes r ≡ true → (octets at : ℕ) → room_for octets at (header_length r) ≡ true
    → write_reply octets at (offered r) ≡ 0 ∷ (at + header_length r) ∷ []
unfolding write_reply writer_takes
taken-reply r legal octets at room =
    let h = offered r in
    let air : on_air h ≡ r = on-air-again r in
    let number = number_fits h (fields h (to_write h legal).fields).widths in
    let has : room_for octets at (header_length (on_air h)) ≡ true = ap (λ (x : ResourceHeader). room_for octets at (header_length x)) air ∙ room in
    sym (every-yes _ _ (write_questions octets at h) (((tt, number), legal), has))
    ∙ ap (λ (x : ResourceHeader). 0 ∷ (at + header_length x) ∷ []) air

pub resource-writes : (place : ℕ) (r : ResourceHeader) → writer_takes r ≡ true → (octets at : ℕ) → room_for octets at (header_length r) ≡ true
    → write_words_reply octets at (header_words place (PduHeader.Resource r)) ≡ 0 ∷ (at + header_length r) ∷ []
resource-writes place r legal octets at room =
    let t = listed-words-taken place r legal in
    let ws = header_words place (PduHeader.Resource r) in
    as-header [] at ws (header-size place (PduHeader.Resource r)) t.0 octets
    ∙ ap (λ (x : ResourceHeader). write_reply octets at (offered x)) t.1
    ∙ taken-reply r legal octets at room

-- the words of a header that is listed are written, with room for it, up to the position behind it
abbrev pub Writes : ℕ → PduHeader → Type 0
Writes place (PduHeader.Resource r) =
    (octets at : ℕ) → room_for octets at (header_length r) ≡ true
    → write_words_reply octets at (header_words place (PduHeader.Resource r)) ≡ 0 ∷ (at + header_length r) ∷ []
Writes place (PduHeader.Frag f) = Unit
Writes place (PduHeader.End e) = Unit

writes : (place : ℕ) (h : PduHeader) → Taken h → Writes place h
writes place (PduHeader.Resource r) t = resource-writes place r t
writes place (PduHeader.Frag f) t = tt
writes place (PduHeader.End e) t = tt

pub read-then-write : (s : List ℕ) (ps : List PlacedHeader) → block_pdus block_octets s ≡ headers ps → All (λ (p : PlacedHeader). Writes p.at p.header) ps
unfolding block_pdus
read-then-write s ps e =
    all-weaken (λ (p : PlacedHeader). Taken p.header) (λ (p : PlacedHeader). Writes p.at p.header) (λ p t. writes p.at p.header t) ps
    (subst ListTaken e (pdus-taken most_pdus _ _ 0))
