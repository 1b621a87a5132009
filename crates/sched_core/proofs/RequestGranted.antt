-- The theorem of demand 2 at the call: `request-granted-exactly`. Assumes nothing.
use Rattle.std.proofs.Common.{Option, None, Result, Ok, Err}
use mathlib.Core.Path.{◌≡◌, refl, sym, ap, ◌∙◌}
use mathlib.Core.Logic.{◌↔◌}
use mathlib.Core.Bool.{Bool, true, false}
use mathlib.Core.List.{List, [], ◌++◌}
use Prim.Native.Nat.{ℕ, ◌-◌, ◌≤◌, ◌<◌}
use native.Mathlib.Omega.{arith}
use borrow.Author.Tests.{eqb-true, le-leb, lt-ltb}
use Rattle.sizes.specs.Sizes.{timeslots, latest_delay}
use Rattle.questions.specs.declared.Refusal.{Refusal}
use Rattle.questions.specs.Questions.{Question, refusal_number}
use Rattle.questions.proofs.AskLaws.{FirstYes, nth, first-no, every-yes}
use Rattle.questions.proofs.NumberLaws.{number-positive, number-tells}
use Rattle.slot_codes.specs.Codes.{wants_half}
use Rattle.uplink.specs.Request.{CapAnswer}
use Rattle.uplink.specs.declared.Grant.{Grant}
use Rattle.uplink.specs.declared.Uplink.{Uplink}
use Rattle.uplink.specs.HalfSlot.{first_half, vacant}
use Rattle.uplink.specs.UplinkEntry.{table_view}
use Rattle.uplink.specs.Request.{Request, marker_of, granted_reply, answer}
use Rattle.uplink.specs.GrantedExactly.{FreeFrom, EarliestFrom, slot_of_run, Reserved, Proper, GrantedExactly}
use Rattle.uplink.proofs.AnswerLaws.{answer-shape, marker-none}
use Rattle.uplink.proofs.GrantedExactly.{granted-exactly}
use Rattle.dl_queue.proofs.EnqueueLaws.{empty-joins}
use Rattle.tdma_time.specs.Time.{legal_timeslot}
use Rattle.sched_core.specs.Questions.{Memory, queued_for, memory_questions, request_questions}
use Rattle.sched_core.specs.Replies.{Numbered, reply_number}
use Rattle.sched_core.specs.Calls.{Outcome, outcome, grant_queued, request_answered, request_call}
use Rattle.sched_core.specs.Invariant.{SoundMemory}
use Rattle.sched_core.specs.RequestGranted.{RefusedWith, GrantedWith, RequestAsked, MayBeGranted, search_for, capacity_at, grant_at, GrantedRun}
use Rattle.sched_core.specs.RequestGranted.{Demand2AtCall}
use Rattle.sched_core.proofs.QuestionLaws.{right-lengths, address-number}
use Rattle.sched_core.proofs.KeptLaws.{memory-parts}

-- what tells two replies apart
abbrev delay_in : Numbered → ℕ
delay_in Numbered.done = 0
delay_in (Numbered.refused n) = 0
delay_in (Numbered.granted capacity delay marker) = delay
delay_in (Numbered.block octets tags) = 0
delay_in Numbered.no_block = 0
delay_in (Numbered.owned o) = 0
delay_in (Numbered.used n marker) = 0

abbrev number_in : Outcome → ℕ
number_in o = reply_number o.reply

module _ (m : Memory) (t code kind n : ℕ) where
  abbrev questions : List Question
  questions = memory_questions m [] ++ request_questions (queued_for m.station.queued t) t code kind n

  -- ---- the questions in order

  -- question k of the call, counted from 0, is the first that is answered no
  no-at : (k : ℕ) → FirstYes k questions → (nth k questions).holds ≡ false → RefusedWith m (request_call m t code kind n) (nth k questions).number
  unfolding request_call
  no-at k h e = sym (first-no (request_answered m t code kind n) (λ x. outcome (Numbered.refused x) m) k questions h e)

  -- questions 1 and 2 of a sound memory
  sound-first : SoundMemory m → FirstYes 3 questions
  sound-first h = (((tt, h.station), right-lengths m h.places h.cells), h.queue)

  asked-in-order : RequestAsked m t code kind n
  asked-in-order =
      record {
        state = λ e. no-at 0 tt e;
        lengths = λ a e. no-at 1 (tt, a) e;
        queue = λ a b e. no-at 2 ((tt, a), b) e;
        timeslot = λ h e. no-at 3 (sound-first h) e;
        requirement = λ h a e. no-at 4 (sound-first h, a) e;
        address = λ h a b e. no-at 5 ((sound-first h, a), b) e;
        room = λ h a b c e. no-at 6 (((sound-first h, a), b), c) e;
      }

  -- ---- questions 9 and 10

  module _ (may : MayBeGranted m t code kind n) where
    abbrev u : Uplink
    u = m.station.uplink

    abbrev r : Request
    r = search_for t code n

    abbrev a : CapAnswer
    a = answer u r

    abbrev o : Outcome
    o = request_call m t code kind n

    proper : Proper u r
    proper =
        let p = memory-parts m may.sound in
        record {
          shape = p.shape;
          four = p.four-counters;
          sound = p.uplink;
          timeslot-low = may.timeslot-low;
          timeslot-high = may.timeslot-high;
          code = may.requirement;
          number = address-number kind n may.address;
        }

    exactly : GrantedExactly u r
    exactly = granted-exactly u r proper

    legal : legal_timeslot t ≡ true
    legal = rw (le-leb 1 t may.timeslot-low, le-leb t timeslots may.timeslot-high)

    -- every question before 9 is answered yes
    passes : o ≡ grant_queued m t kind n a a.reply
    unfolding request_call request_answered
    passes =
        sym (every-yes (request_answered m t code kind n) (λ x. outcome (Numbered.refused x) m) questions
        ((((sound-first may.sound, legal), le-leb code 15 may.requirement), may.address), lt-ltb _ _ may.room))

    answered : (x : Result Grant Refusal) → a.reply ≡ x → o ≡ grant_queued m t kind n a x
    answered x e = passes ∙ ap (grant_queued m t kind n a) e

    -- ---- a grant

    module _ (i : ℕ) (at : EarliestFrom u r i) (low : i ≤ latest_delay) where
      has : Reserved u r i
      has = exactly.granted i at low

      abbrev cap : ℕ
      cap = capacity_at u r i

      abbrev marker : Option ℕ
      marker = marker_of u.next_usage_marker r

      -- the reply of the search, by one definition of the capacity
      reply-is : a.reply ≡ granted_reply cap i marker
      reply-is = go (wants_half code) refl (vacant (table_view u.rows (slot_of_run u r i 0) first_half)) refl
        where
          unmarked-half : wants_half code ≡ true → marker ≡ None
          unmarked-half e = (marker-none u.next_usage_marker r (let z : code ≡ 0 = eqb-true _ _ e in rw z (omega arith))).0

          go : (b : Bool) → wants_half code ≡ b → (v : Bool) → vacant (table_view u.rows (slot_of_run u r i 0) first_half) ≡ v
              → a.reply ≡ granted_reply cap i marker
          go false e v ev = has.whole-reply e ∙ rw e
          go true e true ev = (has.first-half e ev).0 ∙ rw (e, ev, unmarked-half e)
          go true e false ev = (has.second-half e ev).0 ∙ rw (e, ev, unmarked-half e)

      outcome-is : o ≡ grant_queued m t kind n a (granted_reply cap i marker)
      outcome-is = answered _ reply-is

      granted-run : GrantedRun m kind r o i
      unfolding grant_queued
      granted-run =
          let p = memory-parts m may.sound in
          record {
            reply = ap (λ (x : Outcome). x.reply) outcome-is;
            uplink = ap (λ (x : Outcome). x.memory.station.uplink) outcome-is;
            reserved = has;
            shape = rw outcome-is (answer-shape u r p.shape);
            queued =
                rw outcome-is
                (empty-joins m.station.queued m.records m.store (t - 1) (omega (arith, p.four-counts, may.timeslot-low, may.timeslot-high))
                may.room (omega (arith, p.four-counts, p.places)) (omega (arith, p.four-counts, p.cells)) may.sound.queue
                (grant_at u kind r i) may.sound.octets);
            others = rw outcome-is refl;
          }

    -- ---- and only then

    only_then : (c d : ℕ) (k : Option ℕ) → GrantedWith o c d k → EarliestFrom u r d × (d ≤ latest_delay)
    unfolding grant_queued
    only_then c d k e = go a.reply refl (rw passes at e)
      where
        go : (x : Result Grant Refusal) → a.reply ≡ x → GrantedWith (grant_queued m t kind n a x) c d k → EarliestFrom u r d × (d ≤ latest_delay)
        go (Ok g) f h = let same : g.delay ≡ d = ap delay_in h in rw (← same) (exactly.only_then g.capacity g.delay g.usage_marker f)
        go (Err r) f h = absurd (let z : ◌≡◌ {A = ℕ} (refusal_number r) 0 = ap reply_number h in omega (arith, number-positive r))

    -- the search refuses with k where the request is refused with its number
    refused-by : (k : Refusal) → RefusedWith m o (refusal_number k) → a.reply ≡ Err k
    unfolding grant_queued
    refused-by k e = go a.reply refl (sym passes ∙ e)
      where
        go : (x : Result Grant Refusal) → a.reply ≡ x → RefusedWith m (grant_queued m t kind n a x) (refusal_number k) → a.reply ≡ Err k
        go (Ok g) f h = absurd (let z : ◌≡◌ {A = ℕ} 0 (refusal_number k) = ap number_in h in omega (arith, number-positive k))
        go (Err r) f h = f ∙ ap (λ (x : Refusal). Err x) (number-tells r k (ap number_in h))

    no-run : RefusedWith m o 9 ↔ ((i : ℕ) → FreeFrom u r i → ⊥)
    unfolding grant_queued
    no-run = (λ e. exactly.no-run.0 (refused-by Refusal.NoRun e), λ h. answered (Err Refusal.NoRun) (exactly.no-run.1 h))

    too-late : RefusedWith m o 10 ↔ ((i : ℕ) × EarliestFrom u r i × (latest_delay < i))
    unfolding grant_queued
    too-late = (λ e. exactly.too-late.0 (refused-by Refusal.TooLate e), λ h. answered (Err Refusal.TooLate) (exactly.too-late.1 h))

-- of any memory, and whatever the request
pub request-granted-exactly : (m : Memory) (t code kind n : ℕ) → Demand2AtCall m t code kind n
request-granted-exactly m t code kind n =
    record {
      asked = asked-in-order m t code kind n;
      exactly = λ may. record {
        granted = granted-run m t code kind n may;
        only_then = only_then m t code kind n may;
        no-run = no-run m t code kind n may;
        too-late = too-late m t code kind n may;
      };
    }
