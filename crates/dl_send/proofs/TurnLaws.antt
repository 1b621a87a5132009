-- A record's turn keeps what a block has to be: bits, as many as the room loses; PDUs that fit; a room that is aligned; and every SDU bit once.
-- One analysis of its six ways. Assumes nothing.
use mathlib.Core.Path.{◌≡◌, refl, sym, ap, ap₂, ◌∙◌, subst}
use mathlib.Core.Bool.{Bool, true, false}
use mathlib.Core.Logic.{◌⊎◌, inl, inr, ⊎_elim}
use mathlib.Core.List.{List, [], ◌∷◌, ◌++◌, append-nil}
use Prim.Native.Nat.{ℕ, ◌+◌, ◌-◌, ◌*◌, ◌/◌, ◌%◌, ◌<◌, ◌≤◌, min}
use native.Mathlib.Omega.{arith}
use lib.Dec.{leb, ltb}
use lib.ListN.{length, take, drop, length-append, length-drop, drop_of_length-le, take-append-drop}
use lib.Seq.{length-take-le, take_all, drop-drop}
use borrow.Author.Tests.{ltb-true, ltb-false, leb-true, leb-false}
use Rattle.sizes.specs.Sizes.{block_width}
use Rattle.bitbuffer.specs.Bits.{part, AreBits}
use Rattle.bitbuffer.proofs.Laws.{bits-take, bits-drop, length_part, length-value_bits}
use Rattle.fillbits.specs.Fill.{fill_wanted, fill_bits}
use Rattle.fillbits.proofs.Laws.{length-fill_bits, fill-fits, fill-ends}
use Rattle.mac_pdus.specs.Headers.{header_bits, resource_bits, frag_bits, end_bits}
use Rattle.mac_pdus.specs.Legal.{on_air}
use Rattle.mac_reader.specs.PduList.{Pdu, header, body, pdu_bits, block_bits, Fits}
use Rattle.dl_record.specs.declared.Record.{Record}
use Rattle.dl_record.specs.Kind.{is_started}
use Rattle.bs_frag.specs.NextPdu.{fill_flag, header_of, header_size, whole_pdu, first_pdu, frag_pdu, end_pdu, end_octets, Next, begin, continue, next, Sendable}
use Rattle.bs_frag.specs.declared.ChunkOutcome.{ChunkOutcome}
use Rattle.bs_frag.specs.declared.ChunkOutcome.TheVariants.{Waiting, Started}
use Rattle.bs_frag.proofs.HeaderLaws.{header-bits, header-bounds, header-taken, header-address}
use Rattle.bs_frag.proofs.Laws.{flag-lt, begin-whole, begin-waits, begin-starts, continue-ends, continue-waits, continue-frags, next-later, next-first}
use Rattle.dl_send.specs.Carried.{unfilled, sdu_in, carried, sent_by}
use Rattle.dl_send.proofs.BitLaws.{no-bit, body-are-bits, one-is-bits, body-length, fill-left-out}

-- "bits left in a block are 0, or 4 more than a multiple of eight"
abbrev pub Aligned : ℕ → Type 0
Aligned n = (n ≡ 0) ⊎ (n % 8 ≡ 4)

-- what a turn of a record with `from` bits sent leaves, in a block of w bits with `room` left
pub record SoundTurn (w room from : ℕ) (r : Record) (sdu : List ℕ) (x : Next) : Type 0 where
  -- it writes bits
  pub bits : AreBits (block_bits x.pdus)
  -- as many as the room loses
  pub size : length (block_bits x.pdus) + x.room ≡ room
  pub aligned : Aligned room → Aligned x.room
  -- its PDU fits, before any others that do
  pub fits : (at : ℕ) (ps : List Pdu) → at + room ≡ w → (x.room ≡ 0 → ps ≡ []) → Fits w (at + length (block_bits x.pdus)) ps → Fits w at (x.pdus ++ ps)
  -- the SDU bits sent and those still to be sent are the rest of the SDU
  pub once : carried x.pdus ++ drop (sent_by x.outcome r) sdu ≡ drop from sdu
  -- no more is sent than there is
  pub within : sent_by x.outcome r ≤ r.bits

turn-as : {w room from : ℕ} {r : Record} {sdu : List ℕ} {x y : Next} → x ≡ y → SoundTurn w room from r sdu y → SoundTurn w room from r sdu x
turn-as {w} {room} {from} {r} {sdu} e h = subst (λ (z : Next). SoundTurn w room from r sdu z) (sym e) h

-- ---- one PDU

one-length : (p : Pdu) → length (block_bits (p ∷ [])) ≡ length (pdu_bits p)
unfolding block_bits
one-length p = ap length (append-nil (pdu_bits p))

none-length : length (block_bits []) ≡ 0
unfolding block_bits
none-length = refl

whole_length : (r : Record) (s : List ℕ) (k : ℕ) → length (pdu_bits (whole_pdu r s k)) ≡ header_size r + (length s + k)
unfolding pdu_bits header body header_bits
whole_length r s k =
    let h = header_of r (fill_flag k) ((header_size r + r.bits + k) / 8) in
    length-append (resource_bits h) (s ++ fill_bits k) ∙ ap₂ ◌+◌ (header-bits r (fill_flag k) ((header_size r + r.bits + k) / 8)) (body-length s k)

first-length : (r : Record) (s : List ℕ) → length (pdu_bits (first_pdu r s)) ≡ header_size r + length s
unfolding pdu_bits header body header_bits
first-length r s = length-append (resource_bits (header_of r 0 63)) s ∙ ap (λ (n : ℕ). n + length s) (header-bits r 0 63)

frag-length : (s : List ℕ) (k : ℕ) → length (pdu_bits (frag_pdu s k)) ≡ 4 + (length s + k)
unfolding pdu_bits header body header_bits frag_bits
frag-length s k = simp (length-append, length-value_bits) (omega (arith, length-fill_bits k))

end-length : (o : ℕ) (s : List ℕ) (k : ℕ) → length (pdu_bits (end_pdu o s k)) ≡ 13 + (length s + k)
unfolding pdu_bits header body header_bits end_bits
end-length o s k = simp (length-append, length-value_bits) (omega (arith, length-fill_bits k))

whole-bits : (r : Record) (s : List ℕ) (k : ℕ) → AreBits s → AreBits (block_bits (whole_pdu r s k ∷ []))
whole-bits r s k h = one-is-bits (whole_pdu r s k) (unfold body in body-are-bits s k h)

first-bits : (r : Record) (s : List ℕ) → AreBits s → AreBits (block_bits (first_pdu r s ∷ []))
first-bits r s h = one-is-bits (first_pdu r s) (unfold body in h)

frag-bits : (s : List ℕ) (k : ℕ) → AreBits s → AreBits (block_bits (frag_pdu s k ∷ []))
frag-bits s k h = one-is-bits (frag_pdu s k) (unfold body in body-are-bits s k h)

end-bits : (o : ℕ) (s : List ℕ) (k : ℕ) → AreBits s → AreBits (block_bits (end_pdu o s k ∷ []))
end-bits o s k h = one-is-bits (end_pdu o s k) (unfold body in body-are-bits s k h)

no_bits : AreBits (block_bits [])
unfolding block_bits
no_bits = no-bit

fill-of : (r : Record) (f l : ℕ) → (header_of r f l).fill_bits ≡ f
unfolding header_of on_air
fill-of r f l = refl

code_of : (r : Record) (f l : ℕ) → (header_of r f l).length_ind ≡ l
unfolding header_of on_air
code_of r f l = refl

whole-sdu : (r : Record) (s : List ℕ) (k : ℕ) → carried (whole_pdu r s k ∷ []) ≡ s
unfolding carried sdu_in
whole-sdu r s k =
    let l : ℕ = (header_size r + r.bits + k) / 8 in
    append-nil (unfilled (header_of r (fill_flag k) l).fill_bits (s ++ fill_bits k)) ∙ ap (λ (f : ℕ). unfilled f (s ++ fill_bits k)) (fill-of r (fill_flag k) l)
    ∙ fill-left-out s k

first-sdu : (r : Record) (s : List ℕ) → carried (first_pdu r s ∷ []) ≡ s
unfolding carried sdu_in unfilled
first-sdu r s = append-nil (unfilled (header_of r 0 63).fill_bits s) ∙ ap (λ (f : ℕ). unfilled f s) (fill-of r 0 63)

frag-sdu : (s : List ℕ) (k : ℕ) → carried (frag_pdu s k ∷ []) ≡ s
unfolding carried sdu_in
frag-sdu s k = append-nil _ ∙ fill-left-out s k

end-sdu : (o : ℕ) (s : List ℕ) (k : ℕ) → carried (end_pdu o s k ∷ []) ≡ s
unfolding carried sdu_in
end-sdu o s k = append-nil _ ∙ fill-left-out s k

none-sdu : carried [] ≡ []
unfolding carried
none-sdu = refl

-- ---- rooms

octets-less : (room m : ℕ) → m ≤ room → m % 8 ≡ 0 → Aligned room → Aligned (room - m)
octets-less room m h e (inl z) = inl (omega arith)
octets-less room m h e (inr z) = inr (omega arith)

filled : (room n : ℕ) → n ≤ room → Aligned room → Aligned (room - (n + fill_wanted room n))
filled room n h a = go (ltb (n + fill_wanted room n) room) refl
  where
    go : (b : Bool) → ltb (n + fill_wanted room n) room ≡ b → Aligned (room - (n + fill_wanted room n))
    go true e = let l = ltb-true (n + fill_wanted room n) room e in octets-less room (n + fill_wanted room n) (omega arith) (fill-ends room n l) a
    go false e = let l = ltb-false (n + fill_wanted room n) room e in inl (omega arith)

whole-ends : (room n : ℕ) → n ≤ room → (n + fill_wanted room n ≡ 8 * ((n + fill_wanted room n) / 8)) ⊎ (n + fill_wanted room n ≡ room)
whole-ends room n h = go (ltb (n + fill_wanted room n) room) refl
  where
    go : (b : Bool) → ltb (n + fill_wanted room n) room ≡ b → (n + fill_wanted room n ≡ 8 * ((n + fill_wanted room n) / 8)) ⊎ (n + fill_wanted room n ≡ room)
    go true e = let z = fill-ends room n (ltb-true (n + fill_wanted room n) room e) in inl (omega (arith, z))
    go false e = let l = ltb-false (n + fill_wanted room n) room e in let k = fill-fits room n h in inr (omega (arith, l, k))

end-octets : (rest : ℕ) → (end_octets rest * 8) % 8 ≡ 0
end-octets rest = omega arith

-- ---- the six ways

module _ (w room : ℕ) (r : Record) (sdu : List ℕ) (few : room ≤ w) (width : w ≤ block_width) (sendable : Sendable r) (are : AreBits sdu)
    (long : length sdu ≡ r.bits) where
  bounds : (43 ≤ header_size r) × (header_size r ≤ 88)
  bounds = header-bounds r sendable.legal

  nothing : (from : ℕ) (o : ChunkOutcome) → sent_by o r ≡ from → from ≤ r.bits → SoundTurn w room from r sdu (record { pdus = []; room = room; outcome = o })
  nothing from o e b =
      record {
        bits = no_bits;
        size = omega (arith, none-length);
        aligned = λ a. a;
        fits = λ at ps q stop f. subst (λ (k : ℕ). Fits w k ps) (omega (arith, none-length)) f;
        once = ap₂ (λ (a : List ℕ) (k : ℕ). a ++ drop k sdu) none-sdu e;
        within = omega arith;
      }

  whole-turn : (may : Bool) → header_size r + r.bits ≤ room → SoundTurn w room 0 r sdu (begin may room r sdu)
  unfolding Fits
  whole-turn may i =
      let n : ℕ = header_size r + r.bits in
      let k : ℕ = fill_wanted room n in
      let p : Pdu = whole_pdu r sdu k in
      let l : ℕ = (n + k) / 8 in
      let size : length (pdu_bits p) ≡ n + k = whole_length r sdu k ∙ omega (arith, long) in
      let inside : n + k ≤ room = fill-fits room n i in
      let code : (header_of r (fill_flag k) l).length_ind ≡ l = code_of r (fill_flag k) l in
      turn-as (begin-whole may room r sdu (header_size r) refl k refl i)
      (record {
        bits = whole-bits r sdu k are;
        size = omega (arith, one-length p, size, inside);
        aligned = filled room n i;
        fits = λ at ps q stop f. (
          omega (arith, bounds.0, i),
          record {
            sound =
                record {
                  taken = header-taken r (fill_flag k) l sendable.legal (flag-lt k) (omega (arith, bounds.0)) (omega (arith, inside));
                  address = header-address r (fill_flag k) l sendable.legal;
                };
            inside = omega (arith, size, inside);
            code = code ∙ ap (λ (m : ℕ). m / 8) (sym size);
            low = omega (arith, code, bounds.0);
            high = omega (arith, code, inside);
            ends = ⊎_elim (λ e. inl (omega (arith, size, code, e))) (λ e. inr (omega (arith, size, e))) (whole-ends room n i);
          },
          subst (λ (m : ℕ). Fits w (at + m) ps) (one-length p) f,
        );
        once = ap₂ (λ (a b : List ℕ). a ++ b) (whole-sdu r sdu k) (drop_of_length-le sdu {i = r.bits} (omega (arith, long))) ∙ append-nil sdu;
        within = omega arith;
      })

  first-turn : (may : Bool) → may ≡ true → room < header_size r + r.bits → 32 ≤ room → header_size r ≤ room → SoundTurn w room 0 r sdu (begin may room r sdu)
  unfolding Fits
  first-turn may on i j k =
      let m : ℕ = room - header_size r in
      let s : List ℕ = take m sdu in
      let p : Pdu = first_pdu r s in
      let some : length s ≡ m = length-take-le m sdu (omega (arith, long)) in
      let size : length (pdu_bits p) ≡ room = first-length r s ∙ omega (arith, some) in
      turn-as (begin-starts may room r sdu (header_size r) refl on i j k)
      (record {
        bits = first-bits r s (bits-take m sdu are);
        size = omega (arith, one-length p, size);
        aligned = λ a. inl refl;
        fits = λ at ps q stop f. (
          omega (arith, j),
          record {
            sound =
                record {
                  taken = header-taken r 0 63 sendable.legal (omega arith) (omega arith) (omega arith);
                  address = header-address r 0 63 sendable.legal;
                };
            ends = omega (arith, size);
            code = code_of r 0 63;
          },
          stop refl,
        );
        once = ap (λ (a : List ℕ). a ++ drop m sdu) (first-sdu r s) ∙ take-append-drop m sdu;
        within = omega arith;
      })

  end-turn : end_octets (r.bits - r.sent) * 8 ≤ room → SoundTurn w room r.sent r sdu (continue room r sdu)
  unfolding part Fits
  end-turn i =
      let rest : ℕ = r.bits - r.sent in
      let o : ℕ = end_octets rest in
      let k : ℕ = o * 8 - (13 + rest) in
      let s : List ℕ = part sdu r.sent rest in
      let p : Pdu = end_pdu o s k in
      let sent = sendable.sent in
      let some : length s ≡ rest = length_part sdu r.sent rest (omega (arith, long)) in
      let size : length (pdu_bits p) ≡ o * 8 = end-length o s k ∙ omega (arith, some) in
      turn-as (continue-ends room r sdu rest refl o refl i)
      (record {
        bits = end-bits o s k (bits-take rest _ (bits-drop r.sent sdu are));
        size = omega (arith, one-length p, size, i);
        aligned = octets-less room (o * 8) i (end-octets rest);
        fits = λ at ps q stop f. (
          omega (arith, i),
          record {
            fills = flag-lt k;
            positions = omega arith;
            inside = omega (arith, size, i);
            code = omega (arith, size);
            low = omega arith;
            high = omega (arith, i);
          },
          subst (λ (m : ℕ). Fits w (at + m) ps) (one-length p) f,
        );
        once =
            ap₂ (λ (a b : List ℕ). a ++ b) (end-sdu o s k) (drop_of_length-le sdu {i = r.bits} (omega (arith, long))) ∙ append-nil s
            ∙ take_all rest (drop r.sent sdu) (rw length-drop (omega (arith, long)));
        within = omega arith;
      })

  frag-turn : room < end_octets (r.bits - r.sent) * 8 → 16 ≤ room → SoundTurn w room r.sent r sdu (continue room r sdu)
  unfolding part Fits
  frag-turn i j =
      let rest : ℕ = r.bits - r.sent in
      let n : ℕ = min (room - 4) rest in
      let k : ℕ = room - 4 - n in
      let s : List ℕ = part sdu r.sent n in
      let p : Pdu = frag_pdu s k in
      let sent = sendable.sent in
      let some : length s ≡ n = length_part sdu r.sent n (omega (arith, long)) in
      let size : length (pdu_bits p) ≡ room = frag-length s k ∙ omega (arith, some) in
      turn-as (continue-frags room r sdu rest refl (end_octets rest) refl n refl i j)
      (record {
        bits = frag-bits s k (bits-take n _ (bits-drop r.sent sdu are));
        size = omega (arith, one-length p, size);
        aligned = λ a. inl refl;
        fits = λ at ps q stop f. (omega (arith, j), record { fills = flag-lt k; ends = omega (arith, size) }, stop refl);
        once = ap₂ (λ (a b : List ℕ). a ++ b) (frag-sdu s k) (sym (drop-drop n r.sent sdu)) ∙ take-append-drop n (drop r.sent sdu);
        within = omega arith;
      })

  pub begin-turn : (may : Bool) → SoundTurn w room 0 r sdu (begin may room r sdu)
  begin-turn may = go (leb (header_size r + r.bits) room) refl
    where
      waits : room < header_size r + r.bits → (may ≡ false) ⊎ (room < 32) ⊎ (room < header_size r) → SoundTurn w room 0 r sdu (begin may room r sdu)
      waits i why = turn-as (begin-waits may room r sdu (header_size r) refl i why) (nothing 0 Waiting refl (omega arith))

      start : room < header_size r + r.bits → (a : Bool) → may ≡ a → (b : Bool) → ltb room 32 ≡ b → (c : Bool) → ltb room (header_size r) ≡ c
          → SoundTurn w room 0 r sdu (begin may room r sdu)
      start i false d b e c f = waits i (inl d)
      start i true d true e c f = waits i (inr (inl (ltb-true room 32 e)))
      start i true d false e true f = waits i (inr (inr (ltb-true room (header_size r) f)))
      start i true d false e false f = first-turn may d i (ltb-false room 32 e) (ltb-false room (header_size r) f)

      go : (b : Bool) → leb (header_size r + r.bits) room ≡ b → SoundTurn w room 0 r sdu (begin may room r sdu)
      go true e = whole-turn may (leb-true (header_size r + r.bits) room e)
      go false e = start (leb-false (header_size r + r.bits) room e) may refl (ltb room 32) refl (ltb room (header_size r)) refl

  pub continue-turn : SoundTurn w room r.sent r sdu (continue room r sdu)
  continue-turn = go (leb (end_octets (r.bits - r.sent) * 8) room) refl
    where
      on : room < end_octets (r.bits - r.sent) * 8 → (b : Bool) → ltb room 16 ≡ b → SoundTurn w room r.sent r sdu (continue room r sdu)
      on i true e =
          turn-as (continue-waits room r sdu (r.bits - r.sent) refl (end_octets (r.bits - r.sent)) refl i (ltb-true room 16 e)) (nothing r.sent (Started r.sent) refl sendable.sent)
      on i false e = frag-turn i (ltb-false room 16 e)

      go : (b : Bool) → leb (end_octets (r.bits - r.sent) * 8) room ≡ b → SoundTurn w room r.sent r sdu (continue room r sdu)
      go true e = end-turn (leb-true (end_octets (r.bits - r.sent) * 8) room e)
      go false e = on (leb-false (end_octets (r.bits - r.sent) * 8) room e) (ltb room 16) refl

-- how many bits of a record are sent when its turn comes
abbrev pub sent_before : Bool → Record → ℕ
sent_before true r = r.sent
sent_before false r = 0

pub next-turn : (w : ℕ) (may : Bool) (room : ℕ) (r : Record) (sdu : List ℕ) → room ≤ w → w ≤ block_width → Sendable r → AreBits sdu → length sdu ≡ r.bits
    → SoundTurn w room (sent_before (is_started r.kind) r) r sdu (next may room r sdu)
next-turn w may room r sdu few width sendable are long = go (is_started r.kind) refl
  where
    go : (b : Bool) → is_started r.kind ≡ b → SoundTurn w room (sent_before b r) r sdu (next may room r sdu)
    go true e = turn-as (next-later may room r sdu e) (continue-turn w room r sdu few width sendable are long)
    go false e = turn-as (next-first may room r sdu e) (begin-turn w room r sdu few width sendable are long may)
