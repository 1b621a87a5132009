-- Document 02, W-201, beside document 01: both rules send alike unless the rule arises. Where it arises document 01's block has a first fragment and the
-- new one has none, which a reader sees. Assumes nothing.
use mathlib.Core.Path.{◌≡◌, refl, sym, ap, ap₂, ◌∙◌}
use mathlib.Core.Bool.{Bool, true, false, ◌&&◌, ◌||◌, not, cond, or_assoc, and-false}
use mathlib.Core.Logic.{◌⊎◌, inl, inr}
use mathlib.Core.List.{List, [], ◌∷◌, ◌++◌}
use Prim.Native.Nat.{ℕ, zero, suc, ◌+◌, ◌-◌, ◌*◌, ◌<◌, ◌≤◌}
use native.Mathlib.Omega.{arith}
use lib.Dec.{leb, ltb, eqb}
use lib.ListN.{length, replicate}
use borrow.Author.Tests.{ne_eqb, eq-eqb}
use Rattle.lists.proofs.Every.{All}
use Rattle.sizes.specs.Sizes.{block_octets}
use Rattle.mac_pdus.specs.declared.PduHeader.{PduHeader}
use Rattle.mac_pdus.specs.Headers.{address_type}
use Rattle.mac_pdus.proofs.Conjunctions.{false-not-true}
use Rattle.mac_reader.specs.declared.PlacedHeader.{PlacedHeader}
use Rattle.mac_reader.specs.PduList.{Pdu, whole, first, frag, final, null, header, pdu_bits, block_bits, placed, Fits}
use Rattle.mac_reader.specs.Reader.{starts_fragment, most_pdus, no_header, Reading, read_block}
use Rattle.dl_record.specs.declared.Record.{Record}
use Rattle.dl_record.specs.Kind.{is_started}
use Rattle.dl_queue.specs.Queue.{Item}
use Rattle.bs_frag.specs.NextPdu.{header_size, end_octets, Next, begin_with, begin, continue, next}
use Rattle.dl_send.specs.Send.{Turn, wrote, turn, turns, read_off, Sent, sent_in, null_in, send_all, block_of}
use Rattle.dl_send.specs.Document01.{turns01, send_all01, is_first, starts, starts_behind, arises}
use Rattle.dl_send.proofs.BlockLaws.{Loaded, Chained, turns-chained, nothing_left, chained-well, chained-read}

-- ---- one turn

-- a turn that may start fragments and one that may not: they come to the same, or the one starts in all the room there is and the other writes nothing
abbrev Alike : Next → Next → Type 0
Alike free held = ((starts free.pdus ≡ false) × (held ≡ free)) ⊎ ((starts free.pdus ≡ true) × (free.room ≡ 0) × (held.pdus ≡ []))

alike : (later fits none : Bool) (a b c d : Next) → starts a.pdus ≡ false → starts b.pdus ≡ false → starts c.pdus ≡ false → c.pdus ≡ []
    → starts d.pdus ≡ true → d.room ≡ 0
    → Alike (cond later a (cond fits b (cond none c d))) (cond later a (cond fits b c))
alike true fits none a b c d p q r s t u = inl (p, refl)
alike false true none a b c d p q r s t u = inl (q, refl)
alike false false true a b c d p q r s t u = inl (r, refl)
alike false false false a b c d p q r s t u = inr (t, u, s)

module _ (room : ℕ) (r : Record) (sdu : List ℕ) where
  continue-starts-none : starts (continue room r sdu).pdus ≡ false
  unfolding continue starts
  continue-starts-none = go (leb (end_octets (r.bits - r.sent) * 8) room) (ltb room 16) _ _ _ refl refl refl
    where
      go : (ends waits : Bool) (a b c : Next) → starts a.pdus ≡ false → starts b.pdus ≡ false → starts c.pdus ≡ false
          → starts (cond ends a (cond waits b c)).pdus ≡ false
      go true waits a b c p q s = p
      go false true a b c p q s = q
      go false false a b c p q s = s

  next-alike : Alike (next true room r sdu) (next false room r sdu)
  unfolding next begin begin_with starts
  next-alike =
      alike (is_started r.kind) (leb (header_size r + r.bits) room) (ltb room 32 || ltb room (header_size r)) (continue room r sdu) _ _ _
      continue-starts-none refl refl refl refl refl

  -- what may not start does not
  next-starts-none : starts (next false room r sdu).pdus ≡ false
  next-starts-none = go next-alike
    where
      go : Alike (next true room r sdu) (next false room r sdu) → starts (next false room r sdu).pdus ≡ false
      go (inl h) = ap (λ (x : Next). starts x.pdus) h.1 ∙ h.0
      go (inr h) = ap starts h.2 ∙ (unfold starts in refl)

  -- a first fragment fills the block
  next-fills : starts (next true room r sdu).pdus ≡ true → (next true room r sdu).room ≡ 0
  next-fills e = go next-alike
    where
      go : Alike (next true room r sdu) (next false room r sdu) → (next true room r sdu).room ≡ 0
      go (inl h) = false-not-true (sym h.0 ∙ e)
      go (inr h) = h.1

  -- what would not start needs no leave to
  next-same : starts (next true room r sdu).pdus ≡ false → next false room r sdu ≡ next true room r sdu
  next-same e = go next-alike
    where
      go : Alike (next true room r sdu) (next false room r sdu) → next false room r sdu ≡ next true room r sdu
      go (inl h) = h.1
      go (inr h) = false-not-true (sym e ∙ h.0)

-- ---- the turns

or-none : (a b : Bool) → a || b ≡ false → (a ≡ false) × (b ≡ false)
or-none true b h = false-not-true (sym h)
or-none false b h = (refl, h)

never : {b : Bool} → (b ≡ true → ⊥) → b ≡ false
never {b = true} h = absurd (h refl)
never {b = false} h = refl

starts-append : (ps qs : List Pdu) → starts (ps ++ qs) ≡ starts ps || starts qs
unfolding starts
starts-append [] qs = refl
starts-append (p ∷ ps) qs = ap (λ (b : Bool). is_first p || b) (starts-append ps qs) ∙ sym (or_assoc (is_first p) (starts ps) (starts qs))

-- the null PDU starts nothing
null-starts-none : (room : ℕ) → starts (null_in room) ≡ false
unfolding starts
null-starts-none room = go (ltb room 16)
  where
    go : (b : Bool) → starts (cond b [] (null ∷ [])) ≡ false
    go true = refl
    go false = refl

-- what starts behind another starts
behind-starts : {C : Type 0} (may : Bool) (room : ℕ) (ts : List (Turn C)) → starts_behind may ts ≡ true → starts (sent_in room ts).pdus ≡ true
unfolding starts_behind read_off
behind-starts may room [] h = false-not-true h
behind-starts may room (t ∷ ts) h =
    starts-append t.next.pdus _ ∙ go may (starts t.next.pdus) h (behind-starts (may && wrote t.next.pdus) t.next.room ts)
  where
    go : (m a : Bool) {b c : Bool} → not m && a || b ≡ true → (b ≡ true → c ≡ true) → a || c ≡ true
    go m true h k = refl
    go true false h k = k h
    go false false h k = k h

module _ {C : Type 0} (sdu : C → ℕ → List ℕ) where
  turns01-chained : (room : ℕ) (xs : List (Item C)) → All (Loaded sdu) xs → Chained sdu room (turns01 sdu room xs)
  unfolding turns01
  turns01-chained room [] h = tt
  turns01-chained room (x ∷ xs) h = ((true, refl), h.0, turns01-chained (turn sdu true room x).room xs h.1)

  -- where nothing starts behind a record that wrote nothing, the turns are document 01's
  turns_same : (may : Bool) (room : ℕ) (xs : List (Item C)) → starts_behind may (turns01 sdu room xs) ≡ false → turns sdu may room xs ≡ turns01 sdu room xs
  unfolding turns turns01 starts_behind
  turns_same may room [] h = refl
  turns_same true room (x ∷ xs) h =
      let s : Next = turn sdu true room x in ap (◌∷◌ (record { taken = x; next = s })) (turns_same (wrote s.pdus) s.room xs h)
  turns_same false room (x ∷ xs) h =
      let s : Next = turn sdu true room x in
      let k = or-none (starts s.pdus) (starts_behind false (turns01 sdu s.room xs)) h in
      let e : turn sdu false room x ≡ s = next-same room x.rec (sdu x.load x.rec.bits) k.0 in
      ap (λ (n : Next). record { taken = x; next = n } ∷ turns sdu false n.room xs) e
      ∙ ap (◌∷◌ (record { taken = x; next = s })) (turns_same false s.room xs k.1)

  -- where the rule does not arise, all that is sent is document 01's
  pub sent-same : (room : ℕ) (xs : List (Item C)) → arises sdu room xs ≡ false → send_all sdu true room xs ≡ send_all01 sdu room xs
  unfolding arises send_all send_all01
  sent-same room xs h = ap (sent_in room) (turns_same true room xs h)

  -- behind a record that wrote nothing, nothing starts
  held_none : (room : ℕ) (xs : List (Item C)) → starts (sent_in room (turns sdu false room xs)).pdus ≡ false
  unfolding turns read_off
  held_none room [] = null-starts-none room
  held_none room (x ∷ xs) =
      let s : Next = turn sdu false room x in
      starts-append s.pdus _ ∙ ap₂ ◌||◌ (next-starts-none room x.rec (sdu x.load x.rec.bits)) (held_none s.room xs)

  -- with no room left nothing starts
  full-starts-none : (may : Bool) (room : ℕ) (xs : List (Item C)) → All (Loaded sdu) xs → room ≡ 0 → starts_behind may (turns01 sdu room xs) ≡ true → ⊥
  full-starts-none may room xs l z h =
      false-not-true
      (sym (ap starts (nothing_left sdu room (turns01 sdu room xs) (turns01-chained room xs l) z) ∙ (unfold starts in refl))
      ∙ behind-starts may room (turns01 sdu room xs) h)

  -- where document 01 starts behind one, nothing starts at all
  arises-none : (may : Bool) (room : ℕ) (xs : List (Item C)) → All (Loaded sdu) xs → starts_behind may (turns01 sdu room xs) ≡ true
      → starts (sent_in room (turns sdu may room xs)).pdus ≡ false
  unfolding turns turns01 starts_behind read_off
  arises-none may room [] l h = null-starts-none room
  arises-none false room (x ∷ xs) l h = held_none room (x ∷ xs)
  arises-none true room (x ∷ xs) l h =
      let s : Next = turn sdu true room x in
      starts-append s.pdus _
      ∙ ap₂ ◌||◌ (never λ e. full-starts-none (wrote s.pdus) s.room xs l.1 (next-fills room x.rec (sdu x.load x.rec.bits) e) h)
      (arises-none (wrote s.pdus) s.room xs l.1 h)

  -- where it arises, document 01's block has a first fragment and this one none
  pub sent-starts : (room : ℕ) (xs : List (Item C)) → All (Loaded sdu) xs → arises sdu room xs ≡ true
      → (starts (send_all01 sdu room xs).pdus ≡ true) × (starts (send_all sdu true room xs).pdus ≡ false)
  unfolding arises send_all send_all01
  sent-starts room xs l h = (behind-starts true room (turns01 sdu room xs) h, arises-none true room xs l h)

-- ---- as a reader sees it

-- a header of code 63 with an address
abbrev is_start : PduHeader → Bool
is_start (PduHeader.Resource r) = starts_fragment r
is_start (PduHeader.Frag f) = false
is_start (PduHeader.End e) = false

starts_in : List PlacedHeader → Bool
starts_in [] = false
starts_in (p ∷ ps) = is_start p.header || starts_in ps

padded : (ps : List PlacedHeader) (k : ℕ) → starts_in (ps ++ replicate k no_header) ≡ starts_in ps
unfolding starts_in
padded [] zero = refl
padded [] (suc k) = padded [] k
padded (p ∷ ps) k = ap (λ (b : Bool). is_start p.header || b) (padded ps k)

-- of PDUs that fit a block, the first fragments are those that a reader takes for such
placed-starts : (w at : ℕ) (ps : List Pdu) → Fits w at ps → starts_in (placed at ps) ≡ starts ps
unfolding Fits placed header starts starts_in address_type
placed-starts w at [] f = refl
placed-starts w at (whole r b ∷ ps) f =
    ap₂ (λ (a c : Bool). not (eqb (address_type r.address) 0) && a || c) (ne_eqb r.length_ind 63 (λ z. omega (arith, f.1.high)))
    (placed-starts w (at + length (pdu_bits (whole r b))) ps f.2)
    ∙ ap (λ (a : Bool). a || starts ps) (and-false (not (eqb (address_type r.address) 0)))
placed-starts w at (first r b ∷ ps) f =
    rw (ne_eqb (address_type r.address) 0 (λ z. omega (arith, f.1.sound.address)), eq-eqb r.length_ind 63 f.1.code)
placed-starts w at (frag e b ∷ ps) f = rw f.2
placed-starts w at (final e b ∷ ps) f = placed-starts w (at + length (pdu_bits (final e b))) ps f.2
placed-starts w at (null ∷ ps) f = rw f.1

module _ {C : Type 0} (sdu : C → ℕ → List ℕ) (n : ℕ) (some : 0 < n) (few : n ≤ block_octets) where
  abbrev w : ℕ
  w = 8 * n - 4

  abbrev block_in : Sent C → List ℕ
  block_in s = block_of n (block_bits s.pdus)

  -- whether a block starts fragments is read in it
  block-starts : (ts : List (Turn C)) → Chained sdu w ts → starts_in (read_block n (block_in (sent_in w ts))).headers ≡ starts (sent_in w ts).pdus
  block-starts ts h =
      ap (λ (y : Reading). starts_in y.headers) (chained-read sdu n ts some few h)
      ∙ padded (placed 0 (sent_in w ts).pdus) (most_pdus - length (placed 0 (sent_in w ts).pdus))
      ∙ placed-starts w 0 (sent_in w ts).pdus (chained-well sdu w 0 w ts (omega arith) (omega arith) h).fits

  -- so where the rule arises, it is another block
  pub sent-other : (xs : List (Item C)) → All (Loaded sdu) xs → arises sdu w xs ≡ true → block_in (send_all sdu true w xs) ≡ block_in (send_all01 sdu w xs) → ⊥
  unfolding send_all send_all01
  sent-other xs l h e =
      let k = sent-starts sdu w xs l h in
      false-not-true
      (sym k.1 ∙ sym (block-starts (turns sdu true w xs) (turns-chained sdu true w xs l)) ∙ ap (λ (b : List ℕ). starts_in (read_block n b).headers) e
      ∙ block-starts (turns01 sdu w xs) (turns01-chained sdu w xs l) ∙ k.0)
