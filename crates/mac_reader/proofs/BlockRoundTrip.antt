-- THE ROUND TRIP of a block: PDUs that fit it, written as bits, are listed with their headers and positions. Assumes nothing.
use mathlib.Core.Path.{◌≡◌, refl, sym, ap, ◌∙◌}
use mathlib.Core.List.{List, [], ◌∷◌, ◌++◌, append_assoc, append-nil}
use Prim.Native.Nat.{ℕ, suc, ◌+◌, ◌-◌, ◌*◌, ◌%◌, ◌≤◌, ◌<◌}
use native.Mathlib.Omega.{arith}
use lib.ListN.{length, drop, get_or, replicate, length-append, length-replicate}
use lib.Seq.{drop-append-add, drop-cons, drop-drop, drop-length}
use borrow.Author.Tests.{eq-eqb}
use Rattle.sizes.specs.Sizes.{block_octets}
use Rattle.mac_pdus.proofs.ShortHeaders.{null_size}
use Rattle.lists.proofs.Lists.{drop-replicate}
use Rattle.bitbuffer.specs.Bits.{value_bits, bits_value, bits_of}
use Rattle.bitbuffer.proofs.Laws.{length-bits_of, value-value_bits}
use Rattle.bitbuffer.proofs.Octets.{drop-bits_of}
use Rattle.mac_pdus.specs.Headers.{header_bits}
use Rattle.mac_reader.specs.Reader.{headers, block_pdus, reply_of, read_block, most_pdus}
use Rattle.mac_reader.proofs.Replies.{listed-or-not}
use Rattle.questions.specs.Questions.{ask}
use Rattle.mac_reader.specs.PduList.{Pdu, whole, first, frag, final, null, header, body, pdu_bits, block_bits, placed, Fits}
use Rattle.mac_reader.proofs.ListRoundTrip.{pdus-read-back}

null-whole : length (pdu_bits null) ≡ 16
unfolding pdu_bits header body header_bits
null-whole = simp append-nil null_size

-- each PDU has 16 bits or more to begin in
pub fits-few : (ps : List Pdu) (w at : ℕ) → at ≤ w → Fits w at ps → at + 16 * length ps ≤ w
unfolding Fits
fits-few [] w at h f = omega arith
fits-few (whole r b ∷ ps) w at h f =
    let i = f.1.inside in
    let q = fits-few ps w (at + length (pdu_bits (whole r b))) i f.2 in
    omega (arith, f.1.code, f.1.low)
fits-few (first r b ∷ ps) w at h f = rw f.2 (omega arith)
fits-few (frag i b ∷ ps) w at h f = rw f.2 (omega arith)
fits-few (final m b ∷ ps) w at h f =
    let q = fits-few ps w (at + length (pdu_bits (final m b))) f.1.inside f.2 in
    omega (arith, f.1.code, f.1.low)
fits-few (null ∷ ps) w at h f = rw f.1 (omega arith)

-- they stand inside the block
one_size : (p : Pdu) (ps : List Pdu) → ps ≡ [] → length (block_bits (p ∷ ps)) ≡ length (pdu_bits p)
unfolding block_bits
one_size p ps e = rw (e, append-nil)

more-size : (p : Pdu) (ps : List Pdu) → length (block_bits (p ∷ ps)) ≡ length (pdu_bits p) + length (block_bits ps)
unfolding block_bits
more-size p ps = length-append (pdu_bits p) (block_bits ps)

pub fits-inside : (ps : List Pdu) (w at : ℕ) → at ≤ w → Fits w at ps → at + length (block_bits ps) ≤ w
unfolding Fits
fits-inside [] w at h f = unfold block_bits in omega arith
fits-inside (whole r b ∷ ps) w at h f =
    let q = fits-inside ps w (at + length (pdu_bits (whole r b))) f.1.inside f.2 in
    omega (arith, more-size (whole r b) ps)
fits-inside (first r b ∷ ps) w at h f = omega (arith, one_size (first r b) ps f.2, f.1.ends)
fits-inside (frag i b ∷ ps) w at h f = omega (arith, one_size (frag i b) ps f.2, f.1.ends)
fits-inside (final m b ∷ ps) w at h f =
    let q = fits-inside ps w (at + length (pdu_bits (final m b))) f.1.inside f.2 in
    omega (arith, more-size (final m b) ps)
fits-inside (null ∷ ps) w at h f = omega (arith, one_size null ps f.1, null-whole)

-- ---- the last four bits

last-octet : (s : List ℕ) (o : ℕ) → length s ≡ suc o → drop o s ≡ get_or s o 0 ∷ []
last-octet s o h = drop-cons s o 0 (omega arith) ∙ ap (λ (x : List ℕ). get_or s o 0 ∷ x) (ap (λ (n : ℕ). drop n s) (sym h) ∙ drop-length s)

low_bits : (x : ℕ) → drop 4 (bits_of (x ∷ [])) ≡ value_bits 4 x
unfolding bits_of value_bits
low_bits x = refl

pub nothing : bits_value (replicate 4 0) ≡ 0
unfolding bits_value
nothing = refl

pub last-bits : (s : List ℕ) (o : ℕ) → length s ≡ suc o → drop (8 * o + 4) (bits_of s) ≡ value_bits 4 (get_or s o 0)
last-bits s o n = sym (drop-drop 4 (8 * o) (bits_of s)) ∙ ap (drop 4) (drop-bits_of o s ∙ ap bits_of (last-octet s o n)) ∙ low_bits (get_or s o 0)

four-zeros : (s f : List ℕ) (k o : ℕ) → length s ≡ suc o → length f ≤ 8 * o + 4 → bits_of s ≡ f ++ replicate k 0 → get_or s o 0 % 16 ≡ 0
four-zeros s f k o n h e =
    sym (value-value_bits 4 (get_or s o 0)) ∙ ap bits_value (sym (last-bits s o n) ∙ back) ∙ nothing
  where
    size : length f + k ≡ 8 * o + 8
    size =
        let a : length (f ++ replicate k 0) ≡ length f + k = length-append f (replicate k 0) ∙ ap (λ (x : ℕ). length f + x) (length-replicate k 0) in
        omega (arith, ap length e, length-bits_of s)

    here : 8 * o + 4 ≡ length f + (8 * o + 4 - length f)
    here = omega arith

    left : k - (8 * o + 4 - length f) ≡ 4
    left = omega (arith, size)

    back : drop (8 * o + 4) (bits_of s) ≡ replicate 4 0
    back =
        ap (drop (8 * o + 4)) e ∙ ap (λ (m : ℕ). drop m (f ++ replicate k 0)) here ∙ drop-append-add f (replicate k 0) (8 * o + 4 - length f)
        ∙ drop-replicate (8 * o + 4 - length f) k 0 ∙ ap (λ (m : ℕ). replicate m 0) left

pub bits_of-append : (s t : List ℕ) → bits_of (s ++ t) ≡ bits_of s ++ bits_of t
unfolding bits_of
bits_of-append [] t = refl
bits_of-append (x ∷ s) t = rw (append_assoc, bits_of-append s t)

some : (k : ℕ) → 0 < length (replicate k 0 ++ bits_of (replicate 14 0))
some k = simp (length-append, length-bits_of) (omega arith)

-- octets whose bits are those of the PDUs, and then zeros, read as the PDUs' headers at their positions: a block of up to 34 octets
pub block-reads-back : (o : ℕ) (ps : List Pdu) (s : List ℕ) (k : ℕ) → 0 < o → o ≤ block_octets → length s ≡ o → Fits (8 * o - 4) 0 ps
    → bits_of s ≡ block_bits ps ++ replicate k 0
    → read_block o s ≡ reply_of (headers (placed 0 ps))
unfolding read_block ask block_pdus
block-reads-back o ps s k pos few n f e =
    let w = 8 * o - 4 in
    let inside = fits-inside ps w 0 (omega arith) f in
    let many = fits-few ps w 0 (omega arith) f in
    rw (eq-eqb (length s) o n, eq-eqb (get_or s (o - 1) 0 % 16) 0 (four-zeros s (block_bits ps) k (o - 1) (omega arith) (omega arith) e))
    (sym (listed-or-not (block_pdus o s)) ∙ ap reply_of (pdus-read-back ps most_pdus w 0 (bits_of (s ++ replicate 14 0))
    (replicate k 0 ++ bits_of (replicate 14 0))
    (omega arith) f
    (bits_of-append s (replicate 14 0) ∙ ap (λ (x : List ℕ). x ++ bits_of (replicate 14 0)) e
    ∙ append_assoc (block_bits ps) (replicate k 0) (bits_of (replicate 14 0)))
    (some k)))
