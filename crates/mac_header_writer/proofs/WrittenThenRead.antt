-- WRITTEN, THEN READ: a header that the lone writer put at the front of a block is the first that the block reader lists. Assumes nothing.
use Rattle.std.proofs.Common.{Ok}
use mathlib.Core.Path.{◌≡◌, sym, ap, ◌∙◌}
use mathlib.Core.Logic.{inl, inr}
use mathlib.Core.List.{List, [], ◌∷◌}
use Prim.Native.Nat.{ℕ, ◌+◌, ◌*◌, ◌≤◌, ◌<◌}
use native.Mathlib.Omega.{arith}
use lib.ListN.{length}
use Rattle.sizes.specs.Sizes.{block_width, block_octets}
use Rattle.bitbuffer.specs.Bits.{bits_of, written, part}
use Rattle.bitbuffer.proofs.Laws.{length-bits_of, length-written, part-written, part-after}
use Rattle.mac_pdus.specs.declared.PduHeader.{PduHeader}
use Rattle.mac_pdus.specs.declared.MacResource.{MacResource}
use Rattle.mac_pdus.specs.Headers.{address_type, resource_bits, header_bits}
use Rattle.mac_pdus.specs.Legal.{on_air}
use Rattle.mac_pdus.proofs.LengthLaws.{header-size, header-most}
use Rattle.mac_pdus.proofs.LegalLaws.{taken-on-air}
use Rattle.mac_reader.specs.declared.PlacedHeader.{PlacedHeader}
use Rattle.mac_reader.specs.Reader.{headers, block_pdus}
use Rattle.mac_reader.specs.Stands.{BitsStand, HeaderStands, EndsInZeros}
use Rattle.mac_reader.proofs.SingleHeader.{first-listed, only-listed}
use Rattle.mac_writer.specs.Writer.{WrittenAs}
use Rattle.mac_writer.proofs.WriterLaws.{was-taken}

-- the header as it stands on the air, at the block's front
abbrev pub at_front : MacResource → PlacedHeader
at_front h = record { at = 0; header = PduHeader.Resource (on_air h) }

-- the octets `s` of a block became `t` when the writer put `h` at bit 0
pub record WrittenThenRead (s t : List ℕ) (h : MacResource) : Type 0 where
  -- "the last four bits zero" are left so
  pub zeros : EndsInZeros block_width (bits_of s) → EndsInZeros block_width (bits_of t)
  -- if the reader takes the block, its first header is the one that was written
  pub first : (hs : List PlacedHeader) → block_pdus block_octets t ≡ headers hs → (ps : List PlacedHeader) × (hs ≡ at_front h ∷ ps)
  -- it is the only one, if the block holds no other behind it: "stops after a null, a code 63 .., or under 16 bits left"
  pub null : address_type (on_air h).address ≡ 0 → 2 ≤ h.length_ind → 8 * h.length_ind ≤ block_width → block_pdus block_octets t ≡ headers (at_front h ∷ [])
  pub fragment : 0 < address_type (on_air h).address → h.length_ind ≡ 63 → block_pdus block_octets t ≡ headers (at_front h ∷ [])
  pub whole : 0 < address_type (on_air h).address → 8 * h.length_ind ≤ block_width → block_width < 8 * h.length_ind + 16
      → block_pdus block_octets t ≡ headers (at_front h ∷ [])

-- a write leaves the block's length
block-kept : (s t f : List ℕ) → length s ≡ block_octets → bits_of t ≡ written (bits_of s) 0 f → length t ≡ block_octets
block-kept s t f size e =
    let kept : 8 * length t ≡ 8 * length s = sym (length-bits_of t) ∙ ap length e ∙ length-written (bits_of s) 0 f ∙ length-bits_of s in
    omega arith

pub written-then-read : (s t : List ℕ) (h : MacResource) (next : ℕ) → length s ≡ block_octets → WrittenAs s 0 h (Ok next) t
    → WrittenThenRead s t h
unfolding header_bits on_air
written-then-read s t h next size w =
    let r = on_air h in
    let f = resource_bits r in
    let k = was-taken s 0 h next w.replies in
    let taken = taken-on-air h k.legal in
    let became : bits_of t ≡ written (bits_of s) 0 f = w.bits ∙ k.bits in
    let n = header-size r in
    let most = header-most r in
    let bits = length-bits_of s in
    let octets = block-kept s t f size became in
    let stood = ap (λ (l : List ℕ). part l 0 (length f)) became ∙ part-written (bits_of s) 0 f (omega arith) in
    let there : BitsStand block_width (bits_of t) 0 (PduHeader.Resource r) = record { bits = stood; inside = omega arith } in
    let alone : HeaderStands block_width 0 (PduHeader.Resource r) Unit (λ end. block_width < end + 16) → block_pdus block_octets t ≡ headers (at_front h ∷ []) =
    λ x. only-listed block_octets t (omega arith) (omega arith) octets (PduHeader.Resource r) (omega arith) there x in
    record {
      zeros = λ z. ap (λ (l : List ℕ). part l block_width 4) became ∙ part-after (bits_of s) 0 f block_width 4 (omega arith) ∙ z;
      first = λ hs e. first-listed block_octets t (omega arith) (omega arith) octets r (omega arith) taken there hs e;
      null = λ z lo hi. alone (inl (record { taken = taken; null = z; octets = record { low = lo; high = omega arith; inside = omega arith } }, tt));
      fragment = λ a c. alone (inr (inl (record { sound = record { taken = taken; address = a }; code = c }, tt)));
      whole = λ a hi left. alone (inr (inr (
        record {
          sound = record { taken = taken; address = a };
          octets = record { low = omega arith; high = omega arith; inside = omega arith };
          header = inl (omega arith);
        },
        omega arith,
      )));
    }
