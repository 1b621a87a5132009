-- The SDU bits of a record over its blocks are its SDU, in order, each once. Assumes nothing.
use mathlib.Core.Path.{◌≡◌, refl, sym, ap, ◌∙◌}
use mathlib.Core.Bool.{Bool}
use mathlib.Core.List.{List, [], ◌∷◌, ◌++◌, append_assoc, append-nil}
use Prim.Native.Nat.{ℕ, ◌≤◌}
use native.Mathlib.Omega.{arith}
use lib.ListN.{length, drop, drop_of_length-le}
use Rattle.lists.proofs.Every.{All}
use Rattle.sizes.specs.Sizes.{block_width}
use Rattle.bitbuffer.specs.Bits.{AreBits}
use Rattle.mac_reader.specs.PduList.{Pdu}
use Rattle.dl_record.specs.declared.Kind.{Kind}
use Rattle.dl_record.specs.declared.Record.{Record}
use Rattle.bs_frag.specs.NextPdu.{Next, next, Sendable}
use Rattle.bs_frag.specs.declared.ChunkOutcome.{ChunkOutcome}
use Rattle.bs_frag.specs.declared.ChunkOutcome.TheVariants.{Finished, Waiting, Started}
use Rattle.dl_send.specs.Send.{again}
use Rattle.dl_send.specs.Carried.{sdu_in, carried, sent_by, over}
use Rattle.dl_send.proofs.TurnLaws.{next-turn}

carried-append : (ps qs : List Pdu) → carried (ps ++ qs) ≡ carried ps ++ carried qs
unfolding carried
carried-append [] qs = refl
carried-append (p ∷ ps) qs = ap (◌++◌ (sdu_in p)) (carried-append ps qs) ∙ sym (append_assoc (sdu_in p) (carried ps) (carried qs))

-- a record's header and SDU, whatever has become of it
pub record Sendable-SDU (r : Record) (sdu : List ℕ) : Type 0 where
  pub sendable : Sendable r
  pub bits : AreBits sdu
  pub size : length sdu ≡ r.bits

sent-again : (o : ChunkOutcome) (k : Kind) (n : ℕ) (r : Record) → sent_by o (again k n r) ≡ sent_by o r
sent-again Finished k n r = refl
sent-again Waiting k n r = refl
sent-again (Started m) k n r = refl

again-sendable : (k : Kind) (n : ℕ) (r : Record) → Sendable r → n ≤ r.bits → Sendable (again k n r)
again-sendable k n r s h = record { legal = s.legal; bits = s.bits; sent = h }

-- the SDU bits sent in any blocks, and those still to be sent, are what was to be sent
pub each-once : (bs : List (Bool × ℕ)) (o : ChunkOutcome) (r : Record) (sdu : List ℕ) → All (λ (b : Bool × ℕ). b.1 ≤ block_width) bs → Sendable-SDU r sdu
    → sent_by o r ≤ r.bits
    → carried (over bs o r sdu).pdus ++ drop (sent_by (over bs o r sdu).outcome r) sdu ≡ drop (sent_by o r) sdu
unfolding over
each-once [] o r sdu h s e₀ = unfold carried in refl
each-once (b ∷ bs) Finished r sdu h s e₀ = unfold carried in refl
each-once (b ∷ bs) Waiting r sdu h s e₀ =
    let r' : Record = again Kind.Waiting 0 r in
    let x : Next = next b.0 b.1 r' sdu in
    let t = next-turn block_width b.0 b.1 r' sdu h.0 (omega arith) (again-sendable Kind.Waiting 0 r s.sendable (omega arith)) s.bits s.size in
    let e = sent-again x.outcome Kind.Waiting 0 r in
    ap (λ (l : List ℕ). l ++ drop (sent_by (over bs x.outcome r sdu).outcome r) sdu) (carried-append x.pdus (over bs x.outcome r sdu).pdus)
    ∙ append_assoc (carried x.pdus) (carried (over bs x.outcome r sdu).pdus) _
    ∙ ap (◌++◌ (carried x.pdus)) (each-once bs x.outcome r sdu h.1 s (omega (arith, t.within, e)) ∙ ap (λ (k : ℕ). drop k sdu) (sym e))
    ∙ t.once
each-once (b ∷ bs) (Started n) r sdu h s e₀ =
    let r' : Record = again Kind.Started n r in
    let x : Next = next b.0 b.1 r' sdu in
    let t = next-turn block_width b.0 b.1 r' sdu h.0 (omega arith) (again-sendable Kind.Started n r s.sendable e₀) s.bits s.size in
    let e = sent-again x.outcome Kind.Started n r in
    ap (λ (l : List ℕ). l ++ drop (sent_by (over bs x.outcome r sdu).outcome r) sdu) (carried-append x.pdus (over bs x.outcome r sdu).pdus)
    ∙ append_assoc (carried x.pdus) (carried (over bs x.outcome r sdu).pdus) _
    ∙ ap (◌++◌ (carried x.pdus)) (each-once bs x.outcome r sdu h.1 s (omega (arith, t.within, e)) ∙ ap (λ (k : ℕ). drop k sdu) (sym e))
    ∙ t.once

-- when a record is finished its PDUs carry its SDU
pub finished-whole : (bs : List (Bool × ℕ)) (r : Record) (sdu : List ℕ) → All (λ (b : Bool × ℕ). b.1 ≤ block_width) bs → Sendable-SDU r sdu
    → (over bs Waiting r sdu).outcome ≡ Finished
    → carried (over bs Waiting r sdu).pdus ≡ sdu
finished-whole bs r sdu h s e =
    sym (append-nil (carried (over bs Waiting r sdu).pdus))
    ∙ ap (◌++◌ (carried (over bs Waiting r sdu).pdus))
    (sym (drop_of_length-le sdu {i = r.bits} (omega (arith, s.size))) ∙ ap (λ (o : ChunkOutcome). drop (sent_by o r) sdu) (sym e))
    ∙ each-once bs Waiting r sdu h s (omega arith)
