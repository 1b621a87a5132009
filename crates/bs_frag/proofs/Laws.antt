-- A record's turn: what it comes to in each case, and the bits written for it. Assumes nothing.
use mathlib.Core.Path.{◌≡◌, refl, sym, ap, ◌∙◌, subst}
use mathlib.Core.Bool.{Bool, true, false, or-true}
use mathlib.Core.Logic.{◌⊎◌, inl, inr}
use mathlib.Core.List.{List, [], ◌∷◌, ◌++◌, append-nil}
use Prim.Native.Nat.{ℕ, zero, suc, ◌+◌, ◌-◌, ◌*◌, ◌/◌, ◌≤◌, ◌<◌, min}
use native.Mathlib.Nat.{add-zero}
use native.Mathlib.Omega.{arith}
use Rattle.std.specs.Int.{div_ceil}
use lib.ListN.{length, take, drop}
use lib.Seq.{take_at, drop_at, take-take}
use borrow.Author.Tests.{lt-ltb, le-ltb, le-leb, lt-leb}
use Rattle.sizes.specs.Sizes.{sdu_bits}
use Rattle.bitbuffer.specs.Bits.{bits_of, part, written, Wrote}
use Rattle.bitbuffer.proofs.Laws.{length_part}
use Rattle.bitbuffer.proofs.Octets.{part-split}
use Rattle.fillbits.specs.Fill.{fill_wanted, fill_bits}
use Rattle.mac_pdus.specs.declared.ResourceHeader.{ResourceHeader}
use Rattle.mac_pdus.specs.Headers.{resource_bits, frag_bits, end_bits, header_bits}
use Rattle.mac_reader.specs.PduList.{Pdu, header, body, pdu_bits, block_bits}
use Rattle.dl_record.specs.declared.Record.{Record}
use Rattle.dl_record.specs.Kind.{is_started}
use Rattle.bs_frag.specs.NextPdu.{fill_flag, header_of, header_size, whole_pdu, first_pdu, frag_pdu, end_pdu, end_octets, Next, begin_with, begin, continue}
use Rattle.bs_frag.specs.NextPdu.{next}
use Rattle.bs_frag.specs.NextPdu.{sdu_at, Chunked}
use Rattle.bs_frag.specs.declared.ChunkOutcome.{ChunkOutcome}
use Rattle.bs_frag.specs.declared.ChunkOutcome.TheVariants.{Finished, Waiting, Started}

-- ---- the fill bit

pub flag-lt : (n : ℕ) → fill_flag n < 2
unfolding fill_flag
flag-lt zero = omega arith
flag-lt (suc n) = omega arith

-- ---- the SDU in its cell

part-inner : (l : List ℕ) (at from k : ℕ) (tail : List ℕ) → at + from + k ≤ length l
    → part (part l at from ++ (part l (at + from) k ++ tail)) from k ≡ part l (at + from) k
unfolding part
part-inner l at from k tail h =
    ap (take k) (drop_at (part l at from) _ from (length_part l at from (omega arith)))
    ∙ take_at (part l (at + from) k) _ k (length_part l (at + from) k (omega arith))

-- a part of a part
pub part-part : (l : List ℕ) (at n from k : ℕ) → at + n ≤ length l → from + k ≤ n → part (part l at n) from k ≡ part l (at + from) k
part-part l at n from k h i =
    let rest : ℕ = n - from - k in
    let all : n ≡ from + (k + rest) = omega arith in
    subst (λ (x : ℕ). part (part l at x) from k ≡ part l (at + from) k) (sym all)
    (ap (λ (x : List ℕ). part x from k) (part-split l at from (k + rest) ∙ ap (λ (y : List ℕ). part l at from ++ y) (part-split l (at + from) k rest))
    ∙ part-inner l at from k (part l (at + from + k) rest) (omega arith))

pub part-sdu : (store : List ℕ) (cell n from k : ℕ) → sdu_bits * cell + n ≤ length (bits_of store) → from + k ≤ n
    → part (sdu_at store cell n) from k ≡ part (bits_of store) (sdu_bits * cell + from) k
unfolding sdu_at
part-sdu store cell n from k h i = part-part (bits_of store) (sdu_bits * cell) n from k h i

pub take-sdu : (store : List ℕ) (cell n k : ℕ) → k ≤ n → take k (sdu_at store cell n) ≡ part (bits_of store) (sdu_bits * cell) k
unfolding sdu_at part
take-sdu store cell n k h = take-take k n (drop (sdu_bits * cell) (bits_of store)) h

pub whole-sdu : (store : List ℕ) (cell n : ℕ) → sdu_at store cell n ≡ part (bits_of store) (sdu_bits * cell) n
unfolding sdu_at
whole-sdu store cell n = refl

-- ---- bits written

pub wrote-part : {l m : List ℕ} (at : ℕ) (src : List ℕ) (from n : ℕ) → from + n ≤ length src → m ≡ written l at (part src from n)
    → Wrote l at m (at + n) (part src from n)
wrote-part at src from n h e = record { ends = ap (λ (k : ℕ). at + k) (sym (length_part src from n h)); bits = e }

pub wrote_as : {l m : List ℕ} {at e : ℕ} {f g : List ℕ} → f ≡ g → Wrote l at m e f → Wrote l at m e g
wrote_as {l} {m} {at} {e} h w = subst (λ (x : List ℕ). Wrote l at m e x) h w

pub whole-bits : (r : Record) (h : ResourceHeader) (f : ℕ) (s s' : List ℕ) (fill : ℕ) → h ≡ header_of r f ((header_size r + r.bits + fill) / 8)
    → f ≡ fill_flag fill → s ≡ s'
    → resource_bits h ++ (s ++ fill_bits fill) ≡ pdu_bits (whole_pdu r s' fill)
unfolding pdu_bits header body header_bits
whole-bits r h f s s' fill e i j = rw (e, i, j)

pub first-bits : (r : Record) (h : ResourceHeader) (s s' : List ℕ) → h ≡ header_of r 0 63 → s ≡ s'
    → resource_bits h ++ (s ++ fill_bits 0) ≡ pdu_bits (first_pdu r s')
unfolding pdu_bits header body header_bits fill_bits
first-bits r h s s' e j = ap (◌++◌ (resource_bits h)) (append-nil s) ∙ rw (e, j)

pub frag-bits : (s s' : List ℕ) (fill fill' : ℕ) → s ≡ s' → fill ≡ fill'
    → frag_bits (record { fill_bits = fill_flag fill }) ++ (s ++ fill_bits fill) ≡ pdu_bits (frag_pdu s' fill')
unfolding pdu_bits header body header_bits
frag-bits s s' fill fill' i j = rw (i, j)

pub end-bits : (octets : ℕ) (s s' : List ℕ) (fill : ℕ) → s ≡ s'
    → end_bits (record { fill_bits = fill_flag fill; pos_of_grant = 0; length_ind = octets }) ++ (s ++ fill_bits fill) ≡ pdu_bits (end_pdu octets s' fill)
unfolding pdu_bits header body header_bits
end-bits octets s s' fill i = rw i

pub chunk-one : {l m : List ℕ} {at w e room : ℕ} {o : ChunkOutcome} {p : Pdu} {x : Next} {f : List ℕ}
    → x ≡ record { pdus = p ∷ []; room = room; outcome = o } → f ≡ pdu_bits p → Wrote l at m e f → e + room ≡ w
    → Chunked l at w m (record { next = e; outcome = o }) x
unfolding block_bits
chunk-one {l} {m} {at} {w} {e} {room} {o} {p} {x} d g h k =
    subst (λ (y : Next). Chunked l at w m (record { next = e; outcome = o }) y) (sym d)
    (record { wrote = wrote_as (g ∙ sym (append-nil (pdu_bits p))) h; left = k; outcome = refl })

pub chunk-none : {l : List ℕ} {at w room : ℕ} {o : ChunkOutcome} {x : Next}
    → x ≡ record { pdus = []; room = room; outcome = o } → at + room ≡ w → Chunked l at w l (record { next = at; outcome = o }) x
unfolding block_bits written
chunk-none {l} {at} {w} {room} {o} {x} d k =
    subst (λ (y : Next). Chunked l at w l (record { next = at; outcome = o }) y) (sym d)
    (record { wrote = record { ends = sym (add-zero at); bits = refl }; left = k; outcome = refl })

-- ---- what a turn comes to

module _ (may : Bool) (room : ℕ) (r : Record) (sdu : List ℕ) (h : ℕ) (e : h ≡ header_size r) where
  pub begin-whole : (fill : ℕ) → fill ≡ fill_wanted room (h + r.bits) → h + r.bits ≤ room
      → begin may room r sdu ≡ record { pdus = whole_pdu r sdu fill ∷ []; room = room - (h + r.bits + fill); outcome = Finished }
  unfolding begin begin_with
  begin-whole fill f k = rw (← e, ← f, le-leb (h + r.bits) room k)

  pub begin-waits : room < h + r.bits → (may ≡ false) ⊎ (room < 32) ⊎ (room < h)
      → begin may room r sdu ≡ record { pdus = []; room = room; outcome = Waiting }
  unfolding begin begin_with
  begin-waits k (inl i) = rw (← e, lt-leb (h + r.bits) room k, i)
  begin-waits k (inr (inl i)) = rw (← e, lt-leb (h + r.bits) room k, lt-ltb room 32 i, or-true)
  begin-waits k (inr (inr i)) = rw (← e, lt-leb (h + r.bits) room k, lt-ltb room h i, or-true)

  pub begin-starts : may ≡ true → room < h + r.bits → 32 ≤ room → h ≤ room
      → begin may room r sdu ≡ record { pdus = first_pdu r (take (room - h) sdu) ∷ []; room = 0; outcome = Started (room - h) }
  unfolding begin begin_with
  begin-starts m k i j = rw (← e, m, lt-leb (h + r.bits) room k, le-ltb room 32 i, le-ltb room h j)

-- whole octets, rounded up
pub octets-up : (rest : ℕ) → div_ceil (13 + rest) 8 ≡ end_octets rest
octets-up rest = omega arith

module _ (room : ℕ) (r : Record) (sdu : List ℕ) (rest : ℕ) (e : rest ≡ r.bits - r.sent) (o : ℕ) (is : o ≡ end_octets rest) where
  pub continue-ends : o * 8 ≤ room
      → continue room r sdu
      ≡ record { pdus = end_pdu o (part sdu r.sent rest) (o * 8 - (13 + rest)) ∷ []; room = room - o * 8; outcome = Finished }
  unfolding continue
  continue-ends k = rw (← e, ← is, le-leb (o * 8) room k)

  pub continue-waits : room < o * 8 → room < 16 → continue room r sdu ≡ record { pdus = []; room = room; outcome = Started r.sent }
  unfolding continue
  continue-waits k i = rw (← e, ← is, lt-leb (o * 8) room k, lt-ltb room 16 i)

  pub continue-frags : (n : ℕ) → n ≡ min (room - 4) rest → room < o * 8 → 16 ≤ room
      → continue room r sdu ≡ record { pdus = frag_pdu (part sdu r.sent n) (room - 4 - n) ∷ []; room = 0; outcome = Started (r.sent + n) }
  unfolding continue
  continue-frags n f k i = rw (← e, ← f, ← is, lt-leb (o * 8) room k, le-ltb room 16 i)

pub next-later : (may : Bool) (room : ℕ) (r : Record) (sdu : List ℕ) → is_started r.kind ≡ true → next may room r sdu ≡ continue room r sdu
unfolding next
next-later may room r sdu h = rw h

pub next-first : (may : Bool) (room : ℕ) (r : Record) (sdu : List ℕ) → is_started r.kind ≡ false → next may room r sdu ≡ begin may room r sdu
unfolding next
next-first may room r sdu h = rw h
