-- What each question tells where it is answered yes. Assumes nothing.
use Rattle.std.proofs.lemmas.Bool.{and_parts}
use Rattle.std.proofs.Common.{Result, Ok, Err}
use mathlib.Core.Path.{◌≡◌, refl}
use mathlib.Core.Bool.{Bool, true, false, cond}
use mathlib.Core.List.{List, [], ◌∷◌, ◌++◌}
use Prim.Native.Nat.{ℕ, ◌*◌, ◌^◌, ◌≤◌, ◌<◌}
use native.Mathlib.Omega.{arith}
use lib.Dec.{leb, ltb, eqb}
use lib.ListN.{length}
use borrow.Author.Tests.{leb-true, ltb-true, eqb-true, eq-eqb, ne_eqb}
use Rattle.sizes.specs.Sizes.{timeslots, per_timeslot, queue_places, store_octets, sdu_bits}
use Rattle.questions.specs.declared.Refusal.{Refusal}
use Rattle.questions.specs.Questions.{Question, ask}
use Rattle.questions.proofs.AskLaws.{AllYes, Positive, yes-between}
use Rattle.dl_record.specs.Questions.{legal_address, present_sdu}
use Rattle.tdma_time.specs.Time.{legal_timeslot}
use Rattle.sched_core.specs.Questions.{Memory, asks_lengths, asks_queue, memory_questions, has_room}

-- a question that let the call pass was answered yes
pub asked-yes : (b : Bool) (q : Refusal) {x : Unit {0}} {r : Result (Unit {0}) Refusal} → r ≡ cond b (Ok tt) (Err q) → r ≡ Ok x → b ≡ true
asked-yes true q e h = refl
asked-yes false q e h = absurd (cc)

-- question 2
pub right-lengths : (m : Memory) → length m.records ≡ queue_places → length m.store ≡ store_octets → (asks_lengths m).holds ≡ true
right-lengths m a b = rw (eq-eqb _ _ a, eq-eqb _ _ b)

pub lengths-right : (m : Memory) → (asks_lengths m).holds ≡ true → (length m.records ≡ queue_places) × (length m.store ≡ store_octets)
lengths-right m h =
    let both = and_parts (eqb (length m.records) queue_places) (eqb (length m.store) store_octets) h in
    (eqb-true _ _ both.0, eqb-true _ _ both.1)

pub other-places : (m : Memory) → (length m.records ≡ queue_places → ⊥) → (asks_lengths m).holds ≡ false
other-places m other = rw (ne_eqb _ _ other)

pub other-octets : (m : Memory) → length m.records ≡ queue_places → (length m.store ≡ store_octets → ⊥) → (asks_lengths m).holds ≡ false
other-octets m a other = rw (eq-eqb _ _ a, ne_eqb _ _ other)

-- question 3
pub timeslot-range : (t : ℕ) → legal_timeslot t ≡ true → (1 ≤ t) × (t ≤ timeslots)
timeslot-range t h = let both = and_parts (leb 1 t) (leb t timeslots) h in (leb-true 1 t both.0, leb-true t timeslots both.1)

-- question 5
pub address-number : (kind n : ℕ) → legal_address kind n ≡ true → n < 2 ^ 24
unfolding legal_address
address-number kind n h = ltb-true _ _ (and_parts (leb kind 2) (ltb n (2 ^ 24)) h).1

-- question 7
pub sdu-range : (bits : ℕ) (sdu : List ℕ) → present_sdu bits sdu ≡ true → (bits ≤ sdu_bits) × (bits ≤ 8 * length sdu)
unfolding present_sdu
sdu-range bits sdu h =
    let both = and_parts (leb bits sdu_bits) (leb bits (8 * length sdu)) h in
    (leb-true _ _ both.0, leb-true _ _ both.1)

-- question 8
pub room-left : (queued : ℕ) → has_room queued ≡ true → queued < per_timeslot
room-left queued h = ltb-true _ _ h

-- ---- a memory that questions 1 and 2 let pass

-- What is asked of the memory is answered yes: the further lengths, and what is the call's own, decide.
pub memory-passes : {A : Type 0} (m : Memory) (lent own : List Question) (done : A) (refused : ℕ → A) → AllYes (memory_questions m [])
    → ask (memory_questions m lent ++ own) done refused ≡ ask (lent ++ own) done refused
unfolding ask
memory-passes m lent own done refused h = rw (h.0, h.1.0) (yes-between done refused lent (asks_queue m) own h.1.1.0)

-- their numbers are 1 and 2
pub memory-positive : (m : Memory) (lent : List Question) → Positive lent → Positive (memory_questions m lent)
memory-positive m lent p = (omega arith, (omega arith, go lent p))
  where
    go : (qs : List Question) → Positive qs → Positive (qs ++ asks_queue m ∷ [])
    go [] h = (omega arith, tt)
    go (q ∷ qs) h = (h.0, go qs h.1)
