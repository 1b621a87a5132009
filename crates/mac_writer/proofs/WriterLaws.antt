-- The header writer's reply, case by case. Assumes nothing.
use Rattle.std.proofs.Common.{Ok, Err}
use mathlib.Core.Path.{◌≡◌, refl, sym, ap, ◌∙◌, subst}
use mathlib.Core.Bool.{true, false}
use mathlib.Core.List.{List, [], ◌∷◌}
use Prim.Native.Nat.{ℕ, ◌+◌, ◌*◌, ◌^◌, ◌<◌, ◌≤◌}
use native.Mathlib.Omega.{arith}
use lib.ListN.{length, get_or}
use lib.Dec.{ltb, leb}
use borrow.Author.Tests.{ltb-true, leb-true, lt-ltb, le-ltb}
use Rattle.questions.specs.declared.Refusal.{Refusal}
use Rattle.questions.specs.Questions.{refusal_number, reply}
use Rattle.questions.proofs.AskLaws.{FirstYes, nth, first-no, every-yes, ask-elim}
use Rattle.bitbuffer.specs.Bits.{bits_of, written, Wrote}
use Rattle.mac_pdus.specs.declared.MacResource.{MacResource}
use Rattle.mac_pdus.specs.declared.ResourceHeader.{ResourceHeader}
use Rattle.mac_pdus.specs.Within.{ResourceWithin}
use Rattle.mac_pdus.proofs.LegalLaws.{legal-within, to_write}
use Rattle.mac_pdus.specs.Headers.{resource_bits, header_length}
use Rattle.mac_pdus.specs.Legal.{legal_to_write, on_air}
use Rattle.mac_pdus.proofs.Conjunctions.{and2}
use Rattle.mac_pdus.proofs.LengthLaws.{header-size}
use Rattle.mac_writer.specs.Writer.{room_for, write_questions, write_reply, bits_after, WrittenAs}

-- ---- question 11

pub record Room (octets at n : ℕ) : Type 0 where
  pub number : at + n < 2 ^ 64
  pub inside : at + n ≤ 8 * octets

pub room-true : (octets at n : ℕ) → room_for octets at n ≡ true → Room octets at n
unfolding room_for
room-true octets at n h =
    let p = and2 (ltb (at + n) (2 ^ 64)) (leb (at + n) (8 * octets)) h in
    record { number = ltb-true (at + n) (2 ^ 64) p.0; inside = leb-true (at + n) (8 * octets) p.1 }

-- ---- the reply

-- the first no is the whole reply, and the octets are as they were
refused-written : (s : List ℕ) (at : ℕ) (h : MacResource) (k : ℕ) (r : Refusal)
    → let qs = write_questions (length s) at h in
    FirstYes k qs → (nth k qs).holds ≡ false → refusal_number r ≡ (nth k qs).number → WrittenAs s at h (Err r) s
unfolding write_reply bits_after
refused-written s at h k r past other e =
    let qs = write_questions (length s) at h in
    record { replies = ap (λ (n : ℕ). n ∷ []) e ∙ first-no _ _ k qs past other; bits = first-no _ _ k qs past other }

pub refused-address : (s : List ℕ) (at : ℕ) (h : MacResource) → 16777216 ≤ h.number → WrittenAs s at h (Err Refusal.Address) s
refused-address s at h k = refused-written s at h 0 Refusal.Address tt (le-ltb h.number 16777216 k) refl

pub refused-header : (s : List ℕ) (at : ℕ) (h : MacResource) → h.number < 16777216 → legal_to_write h ≡ false
    → WrittenAs s at h (Err Refusal.Header) s
refused-header s at h k l = refused-written s at h 1 Refusal.Header (tt, lt-ltb h.number 16777216 k) l refl

pub refused-room : (s : List ℕ) (at : ℕ) (h : MacResource) (r : ResourceHeader) (n : ℕ) → h.number < 16777216 → legal_to_write h ≡ true → r ≡ on_air h
    → n ≡ header_length r
    → room_for (length s) at n ≡ false → WrittenAs s at h (Err Refusal.NoRoom) s
refused-room s at h r n k l er en lacks =
    let room : room_for (length s) at (header_length (on_air h)) ≡ false = ap (room_for (length s) at) (sym (en ∙ ap header_length er)) ∙ lacks in
    refused-written s at h 2 Refusal.NoRoom ((tt, lt-ltb h.number 16777216 k), l) room refl

pub header-written : (s t : List ℕ) (at : ℕ) (h : MacResource) (r : ResourceHeader) (n next : ℕ) → h.number < 16777216 → legal_to_write h ≡ true → r ≡ on_air h
    → n ≡ header_length r → room_for (length s) at n ≡ true → Wrote (bits_of s) at (bits_of t) next (resource_bits r) → WrittenAs s at h (Ok next) t
unfolding write_reply bits_after
header-written s t at h r n next k l er en has w =
    let room : room_for (length s) at (header_length (on_air h)) ≡ true = ap (room_for (length s) at) (sym (en ∙ ap header_length er)) ∙ has in
    let ends : next ≡ at + header_length (on_air h) = w.ends ∙ ap (λ (x : ℕ). at + x) (sym (header-size r) ∙ ap header_length er) in
    let qs = write_questions (length s) at h in
    let yes : FirstYes 3 qs = (((tt, lt-ltb h.number 16777216 k), l), room) in
    record {
      replies = ap (λ (n : ℕ). 0 ∷ n ∷ []) ends ∙ every-yes _ _ qs yes;
      bits = w.bits ∙ ap (λ (x : ResourceHeader). written (bits_of s) at (resource_bits x)) er ∙ every-yes _ _ qs yes;
    }

-- the header that passed has its fields within their widths
pub passed-within : (h : MacResource) (r : ResourceHeader) → legal_to_write h ≡ true → r ≡ on_air h → ResourceWithin r
passed-within h r l e = subst ResourceWithin (sym e) (legal-within h (to_write h l).fields)

-- what was written was taken
pub record TakenHeader (s : List ℕ) (at : ℕ) (h : MacResource) (next : ℕ) : Type 0 where
  pub legal : legal_to_write h ≡ true
  pub room : room_for (length s) at (header_length (on_air h)) ≡ true
  pub ends : next ≡ at + header_length (on_air h)
  pub bits : bits_after s at h ≡ written (bits_of s) at (resource_bits (on_air h))

-- a refusal's number stands alone
never : {X : Type 0} (next n : ℕ) → 0 ∷ next ∷ [] ≡ n ∷ [] → X
never next n e = let z = ap length e in absurd (omega arith)

pub was-taken : (s : List ℕ) (at : ℕ) (h : MacResource) (next : ℕ) → reply (Ok next) ≡ write_reply (length s) at h → TakenHeader s at h next
unfolding write_reply bits_after
was-taken s at h next =
    ask-elim (λ (r : List ℕ). 0 ∷ next ∷ [] ≡ r → TakenHeader s at h next) (write_questions (length s) at h) _ _
    (λ n e. never next n e)
    (λ yes e. record {
      legal = yes.1.0;
      room = yes.1.1.0;
      ends = ap (λ (l : List ℕ). get_or l 1 0) e;
      bits = sym (every-yes _ _ (write_questions (length s) at h) (((tt, yes.0), yes.1.0), yes.1.1.0));
    })
