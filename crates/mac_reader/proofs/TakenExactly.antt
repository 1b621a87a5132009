-- THE BLOCK READER, EXACTLY: it lists these headers where they stand in the block's bits, and refuses a block in which none stand. What stands is defined
-- by the writer's bits (`Stands`), and by nothing of the reader. Assumes nothing.
use mathlib.Core.Path.{◌≡◌, refl, sym, ap, ◌∙◌}
use mathlib.Core.Bool.{Bool, true, false, cond, ◌&&◌}
use mathlib.Core.Logic.{◌↔◌, ◌⊎◌, inl, inr}
use mathlib.Core.List.{List, [], ◌∷◌, ◌++◌}
use Prim.Native.Nat.{ℕ, ◌+◌, ◌-◌, ◌*◌, ◌%◌, ◌≤◌, ◌<◌}
use native.Mathlib.Omega.{arith}
use lib.ListN.{length, take, drop, get_or, replicate, length-append, length-drop, length-replicate}
use lib.Seq.{take_all, take-append-le, drop-append-le}
use borrow.Author.Tests.{eq-eqb, eqb-true}
use Rattle.sizes.specs.Sizes.{block_octets}
use Rattle.questions.specs.Questions.{ask}
use Rattle.bitbuffer.specs.Bits.{value_bits, bits_value, bits_of, part}
use Rattle.bitbuffer.proofs.Laws.{length-bits_of, length-value_bits, bits-bits_of, value-value_bits, value_bits-mod}
use Rattle.mac_pdus.specs.declared.PduHeader.{PduHeader}
use Rattle.mac_pdus.specs.Headers.{header_bits}
use Rattle.mac_pdus.proofs.Conjunctions.{false-not-true}
use Rattle.mac_reader.specs.declared.PlacedHeader.{PlacedHeader}
use Rattle.mac_reader.specs.Reader.{Listing, refused, headers, block_pdus, most_pdus, last_four_zero, is_list, read_block}
use Rattle.mac_reader.specs.Stands.{HeaderStands, Stands, EndsInZeros}
use Rattle.mac_reader.proofs.Steps.{never-listed}
use Rattle.mac_reader.proofs.Replies.{block-number}
use Rattle.mac_reader.proofs.BlockRoundTrip.{bits_of-append, last-bits, nothing}
use Rattle.mac_reader.proofs.ReadStands.{list-stands}
use Rattle.mac_reader.proofs.StandsRead.{stands_read}

-- what stands behind a header may be said in other words
pub header-map : (w at : ℕ) (h : PduHeader) (last final : Type 0) (f g : ℕ → Type 0) → (last → final) → ((n : ℕ) → f n → g n) → HeaderStands w at h last f
    → HeaderStands w at h final g
header-map w at (PduHeader.Resource r) last final f g j k (inl s) = inl (s.0, j s.1)
header-map w at (PduHeader.Resource r) last final f g j k (inr (inl s)) = inr (inl (s.0, j s.1))
header-map w at (PduHeader.Resource r) last final f g j k (inr (inr s)) = inr (inr (s.0, k _ s.1))
header-map w at (PduHeader.Frag i) last final f g j k s = (s.0, j s.1)
header-map w at (PduHeader.End e) last final f g j k s = (s.0, k _ s.1)

-- ---- the same bits up to the block's end

stands_same : (w : ℕ) (l m : List ℕ) → ((at n : ℕ) → at + n ≤ w → part m at n ≡ part l at n) → (hs : List PlacedHeader) (at : ℕ)
    → Stands w l at hs → Stands w m at hs
unfolding Stands
stands_same w l m same [] at s = s
stands_same w l m same (p ∷ ps) at s = (
  s.0,
  s.1,
  record { bits = same at (length (header_bits p.header)) s.2.inside ∙ s.2.bits; inside = s.2.inside },
  header-map w at p.header (ps ≡ []) (ps ≡ []) _ _ (λ e. e) (λ next. stands_same w l m same ps next) s.3,
)

-- the zeros that the reader puts behind the block
pub padded-part : (s : List ℕ) (at n : ℕ) → at + n ≤ 8 * length s → part (bits_of (s ++ replicate 14 0)) at n ≡ part (bits_of s) at n
unfolding part
padded-part s at n h =
    let z = bits_of (replicate 14 0) in
    let k : at ≤ length (bits_of s) = rw length-bits_of (omega arith) in
    let j : n ≤ length (drop at (bits_of s)) = simp (length-drop, length-bits_of) (omega arith) in
    ap (λ (x : List ℕ). take n (drop at x)) (bits_of-append s (replicate 14 0)) ∙ ap (take n) (drop-append-le at (bits_of s) z k)
    ∙ take-append-le n (drop at (bits_of s)) z j

pub padded-size : (s : List ℕ) → length (bits_of (s ++ replicate 14 0)) ≡ 8 * length s + 112
padded-size s = simp (length-bits_of, length-append, length-replicate) (omega arith)

-- ---- a block of up to 34 octets

module _ (o : ℕ) (s : List ℕ) (some : 0 < o) (few : o ≤ block_octets) (size : length s ≡ o) where
  -- the reader lists these headers exactly if they stand in the block
  pub taken-exactly : (hs : List PlacedHeader) → (block_pdus o s ≡ headers hs) ↔ Stands (8 * o - 4) (bits_of s) 0 hs
  unfolding block_pdus
  taken-exactly hs =
      let w = 8 * o - 4 in
      let l = bits_of (s ++ replicate 14 0) in
      let long = padded-size s in (
        λ e. stands_same w l (bits_of s) (λ at n h. sym (padded-part s at n (omega arith))) hs 0
            (list-stands w l (omega arith) (bits-bits_of (s ++ replicate 14 0)) (omega arith) most_pdus 0 hs (omega arith) (omega arith) e),
        λ st. stands_read w l (omega arith) hs most_pdus 0 (omega arith)
            (stands_same w (bits_of s) l (λ at n h. padded-part s at n (omega arith)) hs 0 st),
      )

  -- it lists none exactly if none stand
  pub none-exactly : (block_pdus o s ≡ refused) ↔ ((hs : List PlacedHeader) → Stands (8 * o - 4) (bits_of s) 0 hs → ⊥)
  none-exactly = (λ e hs st. never-listed (sym e ∙ (taken-exactly hs).1 st), λ none. go (block_pdus o s) refl none)
    where
      go : (r : Listing) → block_pdus o s ≡ r → ((hs : List PlacedHeader) → Stands (8 * o - 4) (bits_of s) 0 hs → ⊥) → block_pdus o s ≡ refused
      go refused q none = q
      go (headers ps) q none = absurd (none ps ((taken-exactly ps).0 q))

  -- ---- the last four bits

  last-part : part (bits_of s) (8 * o - 4) 4 ≡ value_bits 4 (get_or s (o - 1) 0)
  unfolding part
  last-part =
      let at : 8 * o - 4 ≡ 8 * (o - 1) + 4 = omega arith in
      ap (λ (n : ℕ). take 4 (drop n (bits_of s))) at ∙ ap (take 4) (last-bits s (o - 1) (omega arith))
      ∙ take_all 4 (value_bits 4 (get_or s (o - 1) 0)) (rw length-value_bits (omega arith))

  no_bits : value_bits 4 0 ≡ replicate 4 0
  unfolding value_bits
  no_bits = refl

  pub zeros-exactly : (last_four_zero o s ≡ true) ↔ EndsInZeros (8 * o - 4) (bits_of s)
  zeros-exactly =
      let x = get_or s (o - 1) 0 in (
        λ e. last-part ∙ sym (value_bits-mod 4 x) ∙ ap (value_bits 4) (eqb-true (x % 16) 0 e) ∙ no_bits,
        λ z. eq-eqb (x % 16) 0 (sym (value-value_bits 4 x) ∙ ap bits_value (sym last-part ∙ z) ∙ nothing),
      )

  -- ---- the number

  abbrev numbered : Bool → Listing → ℕ
  numbered b r = cond (b && is_list r) 0 12

  number : (read_block o s).number ≡ numbered (last_four_zero o s) (block_pdus o s)
  unfolding read_block ask
  number = rw (eq-eqb (length s) o size) (block-number (last_four_zero o s) (block_pdus o s))

  -- the reader says 12 exactly if the last four bits are not zero or no headers stand in the block
  pub refused-exactly : ((read_block o s).number ≡ 12)
      ↔ ((EndsInZeros (8 * o - 4) (bits_of s) → ⊥) ⊎ ((hs : List PlacedHeader) → Stands (8 * o - 4) (bits_of s) 0 hs → ⊥))
  refused-exactly =
      (λ e. there (last_four_zero o s) (block_pdus o s) refl refl (sym number ∙ e), λ x. number ∙ back (last_four_zero o s) (block_pdus o s) refl refl x)
    where
      there : (b : Bool) (r : Listing) → last_four_zero o s ≡ b → block_pdus o s ≡ r → numbered b r ≡ 12
          → (EndsInZeros (8 * o - 4) (bits_of s) → ⊥) ⊎ ((hs : List PlacedHeader) → Stands (8 * o - 4) (bits_of s) 0 hs → ⊥)
      there false r p q e = inl (λ z. false-not-true (sym p ∙ zeros-exactly.1 z))
      there true refused p q e = inr (none-exactly.0 q)
      there true (headers ps) p q e = absurd (omega arith)

      back : (b : Bool) (r : Listing) → last_four_zero o s ≡ b → block_pdus o s ≡ r
          → (EndsInZeros (8 * o - 4) (bits_of s) → ⊥) ⊎ ((hs : List PlacedHeader) → Stands (8 * o - 4) (bits_of s) 0 hs → ⊥)
          → numbered b r ≡ 12
      back false r p q x = refl
      back true refused p q x = refl
      back true (headers ps) p q (inl f) = absurd (f (zeros-exactly.0 p))
      back true (headers ps) p q (inr f) = absurd (f ps ((taken-exactly ps).0 q))
