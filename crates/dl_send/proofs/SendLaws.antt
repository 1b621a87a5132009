-- The turns of the sending loop, and the octets of the block. Assumes nothing.
use Rattle.std.proofs.Common.{Option, Some, None}
use mathlib.Core.Path.{◌≡◌, refl, sym, ap, ap₂, ◌∙◌}
use mathlib.Core.Bool.{Bool, true, false, ◌&&◌}
use mathlib.Core.List.{List, [], ◌∷◌, ◌++◌, append_assoc, append-nil}
use Prim.Native.Nat.{ℕ, zero, suc, ◌+◌, ◌-◌, ◌*◌, ◌%◌, ◌^◌, ◌<◌, ◌≤◌}
use native.Mathlib.Nat.{zero-add}
use native.Mathlib.Omega.{arith}
use lib.Dec.{ltb}
use lib.ListN.{length, drop, get_or, replicate, length-append, length-replicate, replicate-append-replicate}
use borrow.Author.Tests.{lt-ltb, le-ltb, ltb-true, ltb-false}
use Rattle.lists.proofs.Lists.{drop-replicate}
use Rattle.mac_pdus.proofs.LengthLaws.{header-size}
use Rattle.mac_pdus.proofs.ShortHeaders.{null_size}
use Rattle.sizes.specs.Sizes.{per_timeslot}
use Rattle.bitbuffer.specs.Bits.{bits_of, written, packed}
use Rattle.bitbuffer.proofs.Chunks.{value_bits-zero}
use Rattle.bitbuffer.proofs.Laws.{written-append, length-bits_of, written-eq, length-value_bits}
use Rattle.bitbuffer.proofs.Octets.{packed-bits_of}
use Rattle.mac_pdus.specs.declared.ResourceHeader.{ResourceHeader}
use Rattle.mac_pdus.specs.Headers.{resource_bits, frag_bits, end_bits, null_header, header_bits, header_length}
use Rattle.mac_reader.specs.PduList.{Pdu, whole, first, frag, final, null, header, body, pdu_bits, block_bits}
use Rattle.dl_record.specs.declared.Record.{Record}
use Rattle.dl_record.specs.Record.{empty_record}
use Rattle.dl_queue.specs.Queue.{Item, item}
use Rattle.bs_frag.specs.NextPdu.{Next, next, sdu_at, Chunked}
use Rattle.bs_frag.specs.declared.ChunkOutcome.{ChunkOutcome}
use Rattle.bs_frag.specs.declared.ChunkOutcome.TheVariants.{Finished, Waiting, Started}
use Rattle.bs_frag.specs.declared.Chunk.{Chunk}
use Rattle.dl_send.specs.declared.Progress.{Progress}
use Rattle.dl_send.specs.Send.{staying, tags_of, wrote, Sent, null_in, send_all, block_of}
use Rattle.dl_send.specs.Arrays.{listed, place_sdu, sent_of, progress_with, SentInto, BuiltAs}
use Rattle.dl_send.proofs.StepLaws.{and_then, send-none, send-next}
use Rattle.dl_send.proofs.ArrayLaws.{listed_next, listed-end}

-- ---- bits of PDUs

pub block-append : (ps qs : List Pdu) → block_bits (ps ++ qs) ≡ block_bits ps ++ block_bits qs
unfolding block_bits
block-append [] qs = refl
block-append (p ∷ ps) qs = ap (◌++◌ (pdu_bits p)) (block-append ps qs) ∙ sym (append_assoc (pdu_bits p) (block_bits ps) (block_bits qs))

null-bits : block_bits (null ∷ []) ≡ resource_bits null_header
unfolding block_bits pdu_bits header body header_bits
null-bits = append-nil (resource_bits null_header ++ []) ∙ append-nil (resource_bits null_header)

no_bits : block_bits [] ≡ []
unfolding block_bits
no_bits = refl

-- ---- a record wrote a PDU exactly if bits were written

resource-some : (r : ResourceHeader) → 0 < length (resource_bits r)
unfolding header_length
resource-some r = omega (arith, header-size r)

pdu-some : (p : Pdu) → 0 < length (pdu_bits p)
unfolding pdu_bits header body header_bits frag_bits end_bits
pdu-some (whole r b) = rw length-append (omega (arith, resource-some r))
pdu-some (first r b) = rw length-append (omega (arith, resource-some r))
pdu-some (frag f b) = simp (length-append, length-value_bits) (omega arith)
pdu-some (final e b) = simp (length-append, length-value_bits) (omega arith)
pdu-some null = rw length-append (omega (arith, resource-some null_header))

wrote-bits : (ps : List Pdu) → wrote ps ≡ ltb 0 (length (block_bits ps))
unfolding block_bits
wrote-bits [] = refl
wrote-bits (p ∷ ps) = sym (lt-ltb 0 (length (pdu_bits p ++ block_bits ps)) (rw length-append (omega (arith, pdu-some p))))

wrote-behind : (at end : ℕ) (ps : List Pdu) → end ≡ at + length (block_bits ps) → wrote ps ≡ ltb at end
wrote-behind at end ps e = go (wrote ps) refl
  where
    go : (b : Bool) → wrote ps ≡ b → wrote ps ≡ ltb at end
    go true f = f ∙ sym (lt-ltb at end (omega (arith, ltb-true 0 (length (block_bits ps)) (sym (wrote-bits ps) ∙ f))))
    go false f = f ∙ sym (le-ltb at end (omega (arith, ltb-false 0 (length (block_bits ps)) (sym (wrote-bits ps) ∙ f))))

pub null-some : (room : ℕ) → 16 ≤ room → block_bits (null_in room) ≡ resource_bits null_header
null-some room h = rw (le-ltb room 16 h) null-bits

pub null-none : (room : ℕ) → room < 16 → block_bits (null_in room) ≡ []
null-none room h = rw (lt-ltb room 16 h) no_bits

pub null-fits : (room : ℕ) → length (block_bits (null_in room)) ≤ room
null-fits room = go (ltb room 16) refl
  where
    go : (b : Bool) → ltb room 16 ≡ b → length (block_bits (null_in room)) ≤ room
    go true e = omega (arith, ap length (null-none room (ltb-true room 16 e)))
    go false e = omega (arith, ap length (null-some room (ltb-false room 16 e)), null_size, ltb-false room 16 e)

pub nothing_written : (l : List ℕ) (at room : ℕ) → room < 16 → l ≡ written l at (block_bits (null_in room))
unfolding written
nothing_written l at room h = rw (null-none room h)

-- ---- the loop

-- a turn leaves one record at most, and one tag at most
pub stays-most : {C : Type 0} (o : ChunkOutcome) (x : Item C) → length (staying o x) ≤ 1
stays-most Finished x = omega arith
stays-most Waiting x = omega arith
stays-most (Started n) x = omega arith

tags-most : (o : ChunkOutcome) (t : Option ℕ) → length (tags_of o t) ≤ 1
tags-most Finished None = omega arith
tags-most Finished (Some t) = omega arith
tags-most Waiting t = omega arith
tags-most (Started n) t = omega arith

module _ (block₀ : List ℕ) (w : ℕ) (store : List ℕ) (first : ℕ) (records : List Record) (from : List ℕ) (n : ℕ) where
  abbrev rest : Bool → ℕ → ℕ → Sent ℕ
  rest may at i = send_all (place_sdu store first) may (w - at) (drop i (listed n records from))

  -- after i turns: what is held so far, and what the other records come to, make the whole
  pub record Running (block : List ℕ) (p : Progress) (at : ℕ) (may : Bool) (i : ℕ) : Type 0 where
    pub held : List (Item ℕ)
    pub noted : List ℕ
    pub place : i ≤ n
    pub room : at ≤ w
    pub size : length block ≡ length block₀
    pub holds : p ≡ progress_with held noted
    pub few : length held ≤ i
    pub few-tags : length noted ≤ i
    pub bits : written (bits_of block) at (block_bits (send_all (place_sdu store first) may (w - at) (drop i (listed n records from))).pdus)
        ≡ written (bits_of block₀) 0 (block_bits (sent_of store first w records from n).pdus)
    pub total : at + length (block_bits (send_all (place_sdu store first) may (w - at) (drop i (listed n records from))).pdus)
        ≡ length (block_bits (sent_of store first w records from n).pdus)
    pub stay : held ++ (send_all (place_sdu store first) may (w - at) (drop i (listed n records from))).left ≡ (sent_of store first w records from n).left
    pub tagged : noted ++ (send_all (place_sdu store first) may (w - at) (drop i (listed n records from))).tags ≡ (sent_of store first w records from n).tags

  pub running-start : (p : Progress) → p ≡ progress_with [] [] → Running block₀ p 0 true 0
  unfolding sent_of
  running-start p e =
      let z : w - 0 ≡ w = omega arith in
      let start : rest true 0 0 ≡ sent_of store first w records from n = ap (λ (y : ℕ). send_all (place_sdu store first) true y (listed n records from)) z in
      record {
        held = [];
        noted = [];
        place = omega arith;
        room = omega arith;
        size = refl;
        holds = e;
        few = omega arith;
        few-tags = omega arith;
        bits = ap (λ (y : Sent ℕ). written (bits_of block₀) 0 (block_bits y.pdus)) start;
        total = omega (arith, ap (λ (y : Sent ℕ). length (block_bits y.pdus)) start);
        stay = ap (λ (y : Sent ℕ). y.left) start;
        tagged = ap (λ (y : Sent ℕ). y.tags) start;
      }

  -- there is room for one more
  pub running-room : (block : List ℕ) (p : Progress) (at : ℕ) (may : Bool) (i : ℕ) → n ≤ per_timeslot → i < n → Running block p at may i
      → (p.left < per_timeslot) × (p.tags.tag_count < per_timeslot)
  running-room block p at may i few less run =
      (omega (arith, run.few, ap (λ (q : Progress). q.left) run.holds), omega (arith, run.few-tags, ap (λ (q : Progress). q.tags.tag_count) run.holds))

  pub running-step : (block : List ℕ) (p p' : Progress) (at : ℕ) (may : Bool) (i : ℕ) (m : List ℕ) (c : Chunk) (r : Record) (f : ℕ) (on : Bool)
      → i < n → r ≡ get_or records i empty_record → f ≡ get_or from i 0 → Running block p at may i → length m ≡ length block
      → Chunked (bits_of block) at w (bits_of m) c (next may (w - at) r (sdu_at store (first + f % per_timeslot) r.bits))
      → ((xs : List (Item ℕ)) (ts : List ℕ) → p ≡ progress_with xs ts
      → p' ≡ progress_with (xs ++ staying c.outcome (item r f)) (ts ++ tags_of c.outcome r.tag)) → on ≡ may && ltb at c.next → Running m p' c.next on (i + 1)
  unfolding place_sdu
  running-step block p p' at may i m c r f on hi is from-is run e ch notes eo =
      let y : Item ℕ = item r f in
      let s : Next = next may (w - at) y.rec (place_sdu store first y.load y.rec.bits) in
      let u : Sent ℕ = rest on c.next (i + 1) in
      let room : s.room ≡ w - c.next = omega (arith, ch.left) in
      let same : may && wrote s.pdus ≡ on = ap (λ (b : Bool). may && b) (wrote-behind at c.next s.pdus ch.wrote.ends) ∙ sym eo in
      let here : rest may at i ≡ and_then s y u =
      ap (send_all (place_sdu store first) may (w - at))
      (listed_next n records from i hi ∙ ap₂ (λ (z : Record) (q : ℕ). item z q ∷ drop (i + 1) (listed n records from)) (sym is) (sym from-is))
      ∙ send-next (place_sdu store first) may (w - at) y _
      ∙ ap₂ (λ (b : Bool) (z : ℕ). and_then s y (send_all (place_sdu store first) b z (drop (i + 1) (listed n records from)))) same room
      in
      let joined : block_bits (rest may at i).pdus ≡ block_bits s.pdus ++ block_bits u.pdus =
      ap (λ (z : Sent ℕ). block_bits z.pdus) here ∙ block-append s.pdus u.pdus in
      record {
        held = run.held ++ staying c.outcome y;
        noted = run.noted ++ tags_of c.outcome y.rec.tag;
        place = omega arith;
        room = omega (arith, ch.left);
        size = e ∙ run.size;
        holds = notes run.held run.noted run.holds;
        few = omega (arith, run.few, length-append run.held (staying c.outcome y), stays-most c.outcome y);
        few-tags = omega (arith, run.few-tags, length-append run.noted (tags_of c.outcome r.tag), tags-most c.outcome r.tag);
        bits =
            ap₂ (λ (z : List ℕ) (a : ℕ). written z a (block_bits u.pdus)) ch.wrote.bits ch.wrote.ends
            ∙ sym (written-append (bits_of block) at (block_bits s.pdus) (block_bits u.pdus))
            ∙ ap (written (bits_of block) at) (sym joined) ∙ run.bits;
        total = omega (arith, run.total, ap length joined, length-append (block_bits s.pdus) (block_bits u.pdus), ch.wrote.ends);
        stay =
            ap (λ (o : ChunkOutcome). (run.held ++ staying o y) ++ u.left) ch.outcome
            ∙ append_assoc run.held (staying s.outcome y) u.left
            ∙ ap (λ (z : Sent ℕ). run.held ++ z.left) (sym here) ∙ run.stay;
        tagged =
            ap (λ (o : ChunkOutcome). (run.noted ++ tags_of o y.rec.tag) ++ u.tags) ch.outcome
            ∙ append_assoc run.noted (tags_of s.outcome y.rec.tag) u.tags
            ∙ ap (λ (z : Sent ℕ). run.noted ++ z.tags) (sym here) ∙ run.tagged;
      }

  pub running-end : (block : List ℕ) (p : Progress) (at : ℕ) (may : Bool) (i : ℕ) (m : List ℕ) → n ≤ per_timeslot → n ≤ i → Running block p at may i
      → w ≤ 8 * length block₀ → bits_of m ≡ written (bits_of block) at (block_bits (null_in (w - at)))
      → SentInto (bits_of block₀) (bits_of m) p (sent_of store first w records from n)
  running-end block p at may i m n16 hi run hw e =
      let t : Sent ℕ = record { pdus = null_in (w - at); room = w - at; left = []; tags = [] } in
      let here : rest may at i ≡ t =
      ap (send_all (place_sdu store first) may (w - at)) (listed-end n records from i hi) ∙ send-none (place_sdu store first) may (w - at) in
      let stayed : run.held ≡ (sent_of store first w records from n).left =
      sym (append-nil run.held) ∙ ap (λ (y : Sent ℕ). run.held ++ y.left) (sym here) ∙ run.stay
      in
      let given : run.noted ≡ (sent_of store first w records from n).tags =
      sym (append-nil run.noted) ∙ ap (λ (y : Sent ℕ). run.noted ++ y.tags) (sym here) ∙ run.tagged
      in
      record {
        bits = e ∙ ap (λ (y : Sent ℕ). written (bits_of block) at (block_bits y.pdus)) (sym here) ∙ run.bits;
        size = rw (length-bits_of block₀) (omega (arith, run.total, run.room, ap (λ (y : Sent ℕ). length (block_bits y.pdus)) here, null-fits (w - at)));
        arrays = run.holds ∙ ap₂ progress_with stayed given;
        few = omega (arith, run.few, run.place, ap (λ (q : Progress). q.left) run.holds);
        few-tags = omega (arith, run.few-tags, run.place, ap (λ (q : Progress). q.tags.tag_count) run.holds);
      }

-- ---- the block's octets

abbrev zeros : ℕ → List ℕ
zeros n = replicate n 0

zeros-bits : (n : ℕ) → bits_of (replicate n 0) ≡ replicate (8 * n) 0
unfolding bits_of
zeros-bits zero = refl
zeros-bits (suc n) =
    ap₂ ◌++◌ (value_bits-zero 8) (zeros-bits n) ∙ replicate-append-replicate 8 (8 * n) 0
    ∙ ap (λ (k : ℕ). replicate {A = ℕ} k 0) (let e : 8 + 8 * n ≡ 8 * suc n = omega arith in e)

block-octets : (n : ℕ) (m f : List ℕ) → ((i : ℕ) → get_or m i 0 < 2 ^ 8) → length m ≡ n → length f ≤ 8 * n → bits_of m ≡ written (bits_of (zeros n)) 0 f
    → m ≡ block_of n f
unfolding block_of
block-octets n m f h k i e =
    let big : 0 + length f ≤ length (zeros (8 * n)) = rw length-replicate (omega arith) in
    sym (packed-bits_of m h)
    ∙ ap₂ packed k
    (e ∙ ap (λ (l : List ℕ). written l 0 f) (zeros-bits n) ∙ written-eq (zeros (8 * n)) 0 f big
    ∙ ap (λ (l : List ℕ). f ++ l) (ap (λ (j : ℕ). drop j (zeros (8 * n))) (zero-add (length f)) ∙ drop-replicate (length f) (8 * n) 0))

pub built-as : (l₀ l m : List ℕ) (p : Progress) (s : Sent ℕ) → ((i : ℕ) → get_or m i 0 < 2 ^ 8) → length m ≡ length l₀
    → l ≡ zeros (length l₀) → SentInto (bits_of l) (bits_of m) p s
    → BuiltAs (length l₀) m p s
built-as l₀ l m p s h k e w =
    let n : ℕ = length l₀ in
    let f : List ℕ = block_bits s.pdus in
    let size : length f ≤ 8 * n = omega (arith, w.size, length-bits_of l, ap length e, length-replicate {A = ℕ} n 0) in
    record {
      block = block-octets n m f h k size (w.bits ∙ ap (λ (x : List ℕ). written (bits_of x) 0 f) e);
      arrays = w.arrays;
      few = w.few;
      few-tags = w.few-tags;
    }
