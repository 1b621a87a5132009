-- A built block: its bits are its PDUs' and zeros, its PDUs fit, and a reader lists exactly their headers at their positions. Assumes nothing.
use mathlib.Core.Path.{◌≡◌, refl, sym, ap, ap₂, ◌∙◌, subst}
use mathlib.Core.Bool.{Bool, true, false, ◌&&◌, cond}
use mathlib.Core.Logic.{inl, inr}
use mathlib.Core.List.{List, [], ◌∷◌, ◌++◌}
use Prim.Native.Nat.{ℕ, ◌+◌, ◌-◌, ◌*◌, ◌<◌, ◌≤◌}
use native.Mathlib.Omega.{arith}
use lib.Dec.{ltb}
use lib.ListN.{length, replicate, length-append, length-replicate}
use borrow.Author.Tests.{ltb-true, ltb-false}
use Rattle.lists.proofs.Every.{All}
use Rattle.sizes.specs.Sizes.{block_width, block_octets}
use Rattle.bitbuffer.specs.Bits.{bits_of, AreBits}
use Rattle.bitbuffer.proofs.Laws.{bits-append}
use Rattle.bitbuffer.proofs.Octets.{bits_of-packed, length-packed, zeros-are-bits}
use Rattle.mac_reader.specs.PduList.{Pdu, null, body, block_bits, placed, Fits}
use Rattle.mac_reader.specs.Reader.{headers, reply_of, read_block}
use Rattle.mac_reader.proofs.BlockRoundTrip.{block-reads-back}
use Rattle.dl_record.specs.declared.Record.{Record}
use Rattle.dl_queue.specs.Queue.{Item}
use Rattle.dl_record.specs.Kind.{is_started}
use Rattle.bs_frag.specs.NextPdu.{header_size, Next, next, Sendable}
use Rattle.bs_frag.proofs.HeaderLaws.{header-bounds}
use Rattle.bs_frag.proofs.Laws.{begin-waits, continue-waits, next-later, next-first}
use Rattle.dl_send.specs.Send.{Turn, turn, wrote, turns, read_off, room_after, Sent, sent_in, null_in, send_all, block_of}
use Rattle.dl_send.proofs.BitLaws.{no-bit, one-is-bits}
use Rattle.dl_send.proofs.SendLaws.{block-append, null-fits}
use Rattle.dl_send.proofs.TurnLaws.{Aligned, SoundTurn, sent_before, next-turn}

-- a record that can be sent, whose load stands for as many bits as it says
pub record Loaded {C : Type 0} (sdu : C → ℕ → List ℕ) (x : Item C) : Type 0 where
  pub sendable : Sendable x.rec
  pub bits : AreBits (sdu x.load x.rec.bits)
  pub size : length (sdu x.load x.rec.bits) ≡ x.rec.bits

-- ---- a block with no room left

pub record Nothing (x : Next) : Type 0 where
  pub pdus : x.pdus ≡ []
  pub room : x.room ≡ 0

no_room : (may : Bool) (r : Record) (sdu : List ℕ) → Sendable r → Nothing (next may 0 r sdu)
no_room may r sdu s = go (is_started r.kind) refl
  where
    go : (b : Bool) → is_started r.kind ≡ b → Nothing (next may 0 r sdu)
    go true e =
        subst Nothing (sym (next-later may 0 r sdu e ∙ continue-waits 0 r sdu (r.bits - r.sent) refl _ refl (omega arith) (omega arith)))
        (record { pdus = refl; room = refl })
    go false e =
        subst Nothing
        (sym
        (next-first may 0 r sdu e ∙ begin-waits may 0 r sdu (header_size r) refl (omega (arith, (header-bounds r s.legal).0)) (inr (inl (omega arith)))))
        (record { pdus = refl; room = refl })

-- Turns one after another, each in the room that the one before left, by whatever rule a record may start: what holds of these holds of `turns`.
abbrev pub Chained : {C : Type 0} → (C → ℕ → List ℕ) → ℕ → List (Turn C) → Type 0
Chained sdu room [] = Unit
Chained sdu room (t ∷ ts) = ((may : Bool) × (t.next ≡ turn sdu may room t.taken)) × Loaded sdu t.taken × Chained sdu t.next.room ts

module _ {C : Type 0} (sdu : C → ℕ → List ℕ) where
  pub turns-chained : (may : Bool) (room : ℕ) (xs : List (Item C)) → All (Loaded sdu) xs → Chained sdu room (turns sdu may room xs)
  unfolding turns
  turns-chained may room [] h = tt
  turns-chained may room (x ∷ xs) h =
      let s : Next = turn sdu may room x in ((may, refl), h.0, turns-chained (may && wrote s.pdus) s.room xs h.1)

  pub nothing_left : (room : ℕ) (ts : List (Turn C)) → Chained sdu room ts → room ≡ 0 → (sent_in room ts).pdus ≡ []
  unfolding read_off
  nothing_left room [] h z = rw z
  nothing_left room (t ∷ ts) h z =
      let x : Item C = t.taken in
      let q : Nothing t.next =
      subst Nothing (sym (h.0.1 ∙ ap (λ (k : ℕ). turn sdu h.0.0 k x) z)) (no_room h.0.0 x.rec (sdu x.load x.rec.bits) h.1.sendable) in
      ap₂ (λ (a b : List Pdu). a ++ b) q.pdus (nothing_left t.next.room ts h.2 q.room)

-- ---- the null PDU

null-bits : (b : Bool) → AreBits (block_bits (cond b [] (null ∷ [])))
null-bits true = unfold block_bits in no-bit
null-bits false = one-is-bits null (unfold body in no-bit)

null-place : (w at room : ℕ) → at + room ≡ w → Fits w at (null_in room)
unfolding Fits
null-place w at room e = go (ltb room 16) refl
  where
    go : (b : Bool) → ltb room 16 ≡ b → Fits w at (cond b [] (null ∷ []))
    go true l = omega (arith, ltb-true room 16 l)
    go false l = (omega (arith, ltb-false room 16 l), refl)

-- ---- the list of records

-- what holds of the PDUs sent: bits, no more than there is room for; and they fit
pub record SentWell {C : Type 0} (w at room : ℕ) (s : Sent C) : Type 0 where
  pub bits : AreBits (block_bits s.pdus)
  pub size : length (block_bits s.pdus) ≤ room
  pub fits : Fits w at s.pdus
  pub aligned : Aligned room → Aligned s.room

pub chained-well : {C : Type 0} (sdu : C → ℕ → List ℕ) (w at room : ℕ) (ts : List (Turn C)) → at + room ≡ w → w ≤ block_width → Chained sdu room ts
    → SentWell w at room (sent_in room ts)
unfolding read_off room_after
chained-well sdu w at room [] e width h = record { bits = null-bits (ltb room 16); size = null-fits room; fits = null-place w at room e; aligned = λ a. a }
chained-well sdu w at room (t ∷ ts) e width h =
    let x = t.taken in
    let s : List ℕ = sdu x.load x.rec.bits in
    let n : Next = t.next in
    let one : SoundTurn w room (sent_before (is_started x.rec.kind) x.rec) x.rec s n =
    subst (SoundTurn w room _ x.rec s) (sym h.0.1)
    (next-turn w h.0.0 room x.rec s (omega arith) width h.1.sendable h.1.bits h.1.size) in
    let rest : List Pdu = (sent_in n.room ts).pdus in
    let ih = chained-well sdu w (at + length (block_bits n.pdus)) n.room ts (omega (arith, one.size)) width h.2 in
    record {
      bits = subst AreBits (sym (block-append n.pdus _)) (bits-append _ _ one.bits ih.bits);
      size =
          omega (
            arith,
            ap length (block-append n.pdus rest),
            length-append (block_bits n.pdus)
                (block_bits rest),
            one.size,
            ih.size,
          );
      fits = one.fits at _ e (nothing_left sdu n.room ts h.2) ih.fits;
      aligned = λ a. ih.aligned (one.aligned a);
    }

-- ---- the block

pub length-block : (n : ℕ) (f : List ℕ) → length (block_of n f) ≡ n
unfolding block_of
length-block n f = length-packed n (f ++ replicate (8 * n - length f) 0)

module _ {C : Type 0} (sdu : C → ℕ → List ℕ) (n w : ℕ) (ts : List (Turn C)) (inside : w ≤ 8 * n) (width : w ≤ block_width) (h : Chained sdu w ts) where
  abbrev bits : List ℕ
  bits = block_bits (sent_in w ts).pdus

  well : SentWell w 0 w (sent_in w ts)
  well = chained-well sdu w 0 w ts (omega arith) width h

  -- "the last four bits zero": a built block's bits are its PDUs' and then zeros
  pub chained-bits : bits_of (block_of n bits) ≡ bits ++ replicate (8 * n - length bits) 0
  unfolding block_of
  chained-bits =
      bits_of-packed n (bits ++ replicate (8 * n - length bits) 0) (bits-append bits _ well.bits (zeros-are-bits (8 * n - length bits)))
      (length-append bits (replicate (8 * n - length bits) 0) ∙ omega (arith, length-replicate {A = ℕ} (8 * n - length bits) 0, well.size))

-- the turns in a block of n octets: read by the reader's definition, it gives the headers of the PDUs that were written, at their positions
pub chained-read : {C : Type 0} (sdu : C → ℕ → List ℕ) (n : ℕ) (ts : List (Turn C)) → 0 < n → n ≤ block_octets → Chained sdu (8 * n - 4) ts
    → read_block n (block_of n (block_bits (sent_in (8 * n - 4) ts).pdus)) ≡ reply_of (headers (placed 0 (sent_in (8 * n - 4) ts).pdus))
chained-read sdu n ts some few h =
    let w : ℕ = 8 * n - 4 in
    let f : List ℕ = block_bits (sent_in w ts).pdus in
    block-reads-back n (sent_in w ts).pdus (block_of n f) (8 * n - length f) some few (length-block n f)
    (chained-well sdu w 0 w ts (omega arith) (omega arith) h).fits (chained-bits sdu n w ts (omega arith) (omega arith) h)

-- and so does a built block
pub built-read : {C : Type 0} (sdu : C → ℕ → List ℕ) (n : ℕ) (may : Bool) (xs : List (Item C)) → 0 < n → n ≤ block_octets → All (Loaded sdu) xs
    → read_block n (block_of n (block_bits (send_all sdu may (8 * n - 4) xs).pdus)) ≡ reply_of (headers (placed 0 (send_all sdu may (8 * n - 4) xs).pdus))
unfolding send_all
built-read sdu n may xs some few h = chained-read sdu n (turns sdu may (8 * n - 4) xs) some few (turns-chained sdu may (8 * n - 4) xs h)
