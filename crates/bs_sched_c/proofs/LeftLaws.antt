-- What an export leaves, exit by exit. Assumes nothing.
use mathlib.Core.Path.{◌≡◌, refl, sym, ap, ◌∙◌}
use Rattle.std.proofs.Common.{Result, Ok, Err}
use lib.Dec.{eqb}
use mathlib.Core.Bool.{Bool, true, false, cond}
use mathlib.Core.List.{List, [], ◌∷◌}
use Prim.Native.Nat.{ℕ, ◌*◌, ◌≤◌}
use native.Mathlib.Omega.{arith}
use lib.ListN.{length}
use lib.Seq.{sets}
use borrow.Author.Tests.{eq-eqb, ne_eqb}
use Rattle.tdma_time.specs.declared.TdmaTime.{TdmaTime}
use Rattle.tdma_time.specs.Time.{valid, slot_of}
use Rattle.uplink.specs.declared.Entry.{Entry}
use Rattle.uplink.specs.declared.PhyBlockNum.{PhyBlockNum}
use Rattle.uplink.specs.UplinkEntry.{entry_at, usage_of, usage_number, marker_of_usage, marker_or_zero}
use Rattle.dl_record.specs.declared.Record.{Record}
use Rattle.sched_core.specs.declared.Station.{Station}
use Rattle.questions.specs.Questions.{Question, question, refusal_number, ask, asked_number, number_of}
use Rattle.questions.proofs.AskLaws.{first-no, every-yes, yes-before, number-yes, number-no}
use Rattle.sched_core.specs.Station.{new_station, advanced_station}
use Rattle.sched_core.specs.Questions.{Memory, sound_station, memory_questions}
use Rattle.sched_core.specs.Replies.{Numbered, reply_number}
use Rattle.sched_core.specs.Calls.{Outcome, outcome, judged, new_call, advance_call, owner_call, usage_call}
use Rattle.sched_core.proofs.QuestionLaws.{memory-positive}
use Rattle.sched_core.proofs.ReplyLaws.{usage-numbered}
use Rattle.sched_enqueue.specs.Plan.{SoundQueue, Joins, Refuses}
use Rattle.questions.specs.declared.Refusal.{Refusal}
use Rattle.questions.proofs.NumberLaws.{number-positive}
use Rattle.sched_words.specs.Words.{station_word_count, record_word_count, station_words, station_from, record_words, records_from}
use Rattle.bs_sched_c.specs.declared.reply.BsSchedGrant.{BsSchedGrant}
use Rattle.bs_sched_c.specs.declared.reply.BsSchedOwners.{BsSchedOwners}
use Rattle.bs_sched_c.specs.Exports.{no_owners_struct, entry_owners, owners_struct, usage_struct, usage_struct_of, station_left, station_left_by, Left}
use Rattle.bs_sched_c.specs.Exports.{asks_station_words, time_then_words, left, memory_from, words_left_by, not_granted_struct, grant_struct}
use Rattle.bs_sched_c.proofs.AskedLaws.{record-stored}

-- a question that refuses
pub asked-no : (b : Bool) (q : Refusal) {a : Result (Unit {0}) Refusal} {r : Refusal} → a ≡ cond b (Ok tt) (Err q) → a ≡ Err r → (b ≡ false) × (r ≡ q)
asked-no true q e h = absurd (cc)
asked-no false q e h = (refl, cc)

-- a station of its number of words, and one of another
module _ {A : Type 0} (ws : List ℕ) (done : A) (refused : ℕ → A) where
  pub is-station : {a : A} → length ws ≡ station_word_count → a ≡ done → a ≡ ask (asks_station_words ws ∷ []) done refused
  is-station h e = e ∙ every-yes done refused (asks_station_words ws ∷ []) (tt, eq-eqb _ _ h)

  -- with further questions
  pub no-station : (more : List Question) → eqb (length ws) station_word_count ≡ false → refused 2 ≡ ask (asks_station_words ws ∷ more) done refused
  no-station more h = first-no done refused 0 (asks_station_words ws ∷ more) tt h

  -- behind a time that is given
  module _ (x : TdmaTime) where
    pub no-time : valid x ≡ false → refused 1 ≡ ask (time_then_words x ws) done refused
    no-time v = first-no done refused 0 (time_then_words x ws) tt v

    pub no-station-then : valid x ≡ true → eqb (length ws) station_word_count ≡ false → refused 2 ≡ ask (time_then_words x ws) done refused
    no-station-then v h = first-no done refused 1 (time_then_words x ws) (tt, v) h

    pub is-station-then : {a : A} → valid x ≡ true → length ws ≡ station_word_count → a ≡ done → a ≡ ask (time_then_words x ws) done refused
    is-station-then v h e = e ∙ every-yes done refused (time_then_words x ws) ((tt, v), eq-eqb _ _ h)

-- ---- calls on the station alone

-- an advance
module _ (ws : List ℕ) where
  pub advance-no : sound_station (station_from ws) ≡ false → station_left 1 ws ≡ station_left_by ws (advance_call (station_from ws))
  unfolding advance_call ask
  advance-no h = rw h

  pub advance-yes : sound_station (station_from ws) ≡ true → (ws' : List ℕ) → ws' ≡ station_words (advanced_station (station_from ws))
      → station_left 0 ws' ≡ station_left_by ws (advance_call (station_from ws))
  unfolding advance_call ask
  advance-yes h ws' e = rw h (ap (station_left 0) e)

-- the slot at a time
module _ (s : Station) (x : TdmaTime) where
  abbrev owners : BsSchedOwners
  owners = owners_struct (owner_call s x PhyBlockNum.Both) (owner_call s x PhyBlockNum.Block1) (owner_call s x PhyBlockNum.Block2)

  pub owner-unsound : sound_station s ≡ false → no_owners_struct 1 ≡ owners
  unfolding owner_call ask
  owner-unsound h = rw h

  pub owner-yes : sound_station s ≡ true → valid x ≡ true → entry_owners (entry_at s.uplink.rows (slot_of x)) ≡ owners
  unfolding owner_call ask
  owner-yes h v = rw (h, v)

  pub usage-unsound : sound_station s ≡ false → usage_struct 1 0 0 ≡ usage_struct_of (usage_call s x)
  unfolding usage_call ask
  usage-unsound h = rw h

  pub usage-yes : sound_station s ≡ true → valid x ≡ true → (e : Entry) → e ≡ entry_at s.uplink.rows (slot_of x)
      → usage_struct 0 (usage_number (usage_of e)) (marker_or_zero (marker_of_usage (usage_of e))) ≡ usage_struct_of (usage_call s x)
  unfolding usage_call ask
  usage-yes h v e g = ap usage_struct_of (usage-numbered e) ∙ rw (h, v, g)

-- ---- calls that queue

-- how such a call answers: its replies, and its refusals, as the export's
pub record Replies (R : Type 0) : Type 0 where
  pub reply : Numbered → R
  pub numbered : ℕ → R
  pub told : (n : ℕ) → numbered n ≡ reply (Numbered.refused n)

abbrev pub queue_replies : Replies ℕ
queue_replies = record { reply = reply_number; numbered = λ n. n; told = λ n. refl }

abbrev pub grant_replies : Replies BsSchedGrant
grant_replies = record { reply = grant_struct; numbered = not_granted_struct; told = λ n. refl }

-- a station of its number of words
module _ {R : Type 0} (k : Replies R) (ws qs st : List ℕ) (size : length ws ≡ station_word_count) where
  -- a refusal
  abbrev no : ℕ → Left R
  no n = left (k.numbered n) ws qs st

  abbrev m : Memory
  m = memory_from ws qs st

  -- what the export promises of a call
  abbrev promised : Outcome → Left R
  promised o = ask (asks_station_words ws ∷ []) (words_left_by k.reply ws qs st o) no

  refused-left : (a : Numbered) (m' : Memory) (o : Outcome) → outcome a m' ≡ o → (reply_number a ≡ 0 → ⊥)
      → left (k.reply a) ws qs st ≡ words_left_by k.reply ws qs st o
  refused-left a m' o e h = rw (sym e, ne_eqb _ _ h)

  -- a no to one of the first questions
  module _ {A : Type 0} {a : Result A Refusal} {x : Refusal} (no-is : a ≡ Err x) where
    same : {n : ℕ} → number_of a ≡ n → refusal_number x ≡ n
    same e = sym (ap (λ (r : Result A Refusal). number_of r) no-is) ∙ e

    pub exit-no : (own : List Question) (fine : Outcome) → number_of a ≡ asked_number (memory_questions m (question true 2 ∷ []))
        → left (k.numbered (refusal_number x)) ws qs st ≡ promised (judged m own fine)
    unfolding ask
    exit-no own fine e =
        ap no (same e)
        ∙ is-station ws _ no size
        (number-no (λ (i : ℕ) (o : Outcome). left (k.numbered i) ws qs st ≡ words_left_by k.reply ws qs st o) fine (λ i. outcome (Numbered.refused i) m)
        (λ i p. ap (λ (y : R). left y ws qs st) (k.told i) ∙ refused-left (Numbered.refused i) m _ refl (λ z. omega (arith, z, p)))
        (memory_questions m []) own (memory-positive m [] tt) (λ z. omega (arith, same e, z, number-positive x)))

    -- where the length of what else is lent is asked too
    pub lent-no : (lent : Question) → 1 ≤ lent.number → number_of a ≡ asked_number (memory_questions m (lent ∷ [])) → (done : Left R)
        → no (refusal_number x) ≡ ask (asks_station_words ws ∷ memory_questions m (lent ∷ [])) done no
    lent-no lent positive e done =
        ap no (same e)
        ∙ number-no (λ (i : ℕ) (o : Left R). no i ≡ o) done no (λ i p. refl) (memory_questions m (lent ∷ [])) []
        (memory-positive m (lent ∷ []) (positive, tt)) (λ z. omega (arith, same e, z, number-positive x))
        ∙ sym (yes-before done no (asks_station_words ws ∷ []) (memory_questions m (lent ∷ [])) (eq-eqb _ _ size, tt))

  -- and a yes to all
  pub lent-yes : (lent : Question) → 1 ≤ lent.number → {A : Type 0} {a : Result A Refusal} {x : A} → a ≡ Ok x
      → number_of a ≡ asked_number (memory_questions m (lent ∷ [])) → (l done : Left R) → l ≡ ask (asks_station_words ws ∷ []) done no
      → l ≡ ask (asks_station_words ws ∷ memory_questions m (lent ∷ [])) done no
  lent-yes lent positive {A = A} passed e l done h =
      let none : asked_number (memory_questions m (lent ∷ [])) ≡ 0 =
      sym e ∙ ap (λ (r : Result A Refusal). number_of r) passed in
      h ∙ yes-before done no (asks_station_words ws ∷ []) [] (eq-eqb _ _ size, tt)
      ∙ sym (yes-before done no (asks_station_words ws ∷ memory_questions m (lent ∷ [])) []
      (eq-eqb _ _ size, number-yes (memory_questions m (lent ∷ [])) (memory-positive m (lent ∷ []) (positive, tt)) none))

  -- every one of them is answered yes: there is a plan
  module _ (queue : SoundQueue (station_from ws) (records_from qs) st) (call : Memory → Outcome) (st' : List ℕ) where
    pub exit-refused : (x : Refusal) → Refuses call (station_from ws) st st' (refusal_number x)
        → left (k.reply (Numbered.refused (refusal_number x))) ws qs st' ≡ promised (call m)
    exit-refused x plan =
        ap (λ (l : List ℕ). left (k.reply (Numbered.refused (refusal_number x))) ws qs l) plan.store
        ∙ is-station ws _ no size
        (refused-left (Numbered.refused (refusal_number x)) m _ (plan.whole (records_from qs) queue) (λ z. omega (arith, z, number-positive x)))

    pub exit-done : (a : Numbered) (s' : Station) (place : ℕ) (r : Record) → Joins call (station_from ws) st st' a s' place r
        → (ws' qs' : List ℕ) → ws' ≡ station_words s' → qs' ≡ sets qs (record_word_count * place) (record_words r)
        → left (k.reply a) ws' qs' st' ≡ promised (call m)
    exit-done a s' place r plan ws' qs' ew eq =
        is-station ws _ no size
        (rw (sym (plan.whole (records_from qs) queue), ew, eq, record-stored ws qs st queue place plan.place-in-queue r, eq-eqb _ _ plan.done))
