-- The three slots before now keep the entries that they were left with. Assumes nothing.
use Rattle.std.proofs.Common.{Result, Ok, Err}
use Rattle.questions.specs.declared.Refusal.{Refusal}
use mathlib.Core.Path.{◌≡◌, refl, ap, ◌∙◌}
use mathlib.Core.Logic.{◌≢◌}
use mathlib.Core.Bool.{Bool, true, false, cond}
use mathlib.Core.List.{List, [], ◌∷◌, ◌++◌}
use Prim.Native.Nat.{ℕ, ◌+◌, ◌%◌, ◌≤◌, ◌<◌}
use native.Mathlib.Omega.{arith}
use Rattle.lists.proofs.Every.{all-weaken}
use Rattle.tdma_time.specs.declared.TdmaTime.{TdmaTime}
use Rattle.tdma_time.specs.Time.{Valid, slot_of, clock, next_time}
use Rattle.tdma_time.proofs.TimeLaws.{slot_of-time_of}
use Rattle.uplink.specs.declared.Grant.{Grant}
use Rattle.uplink.specs.declared.Uplink.{Uplink}
use Rattle.uplink.specs.UplinkEntry.{FourRowsOfEighteen, empty_entry, entry_at, table_view}
use Rattle.uplink.specs.Request.{Request, Verdict, no_run, too_late, grant, verdict, table_after, given, answer}
use Rattle.uplink.proofs.TableLaws.{store_other}
use Rattle.uplink.proofs.ReserveLaws.{reserve-other}
use Rattle.uplink.proofs.VerdictLaws.{verdict-grant, granted-near}
use Rattle.questions.specs.Questions.{ask}
use Rattle.questions.proofs.AskLaws.{ask-elim}
use Rattle.sched_core.specs.Replies.{no_block}
use Rattle.sched_core.specs.Questions.{Memory, queued_for, memory_questions, request_questions, ack_questions, tma_questions, build_lent}
use Rattle.sched_core.specs.Calls.{Outcome, BuildOutcome, grant_queued, request_answered, request_call, ack_call, tma_call}
use Rattle.sched_core.specs.Calls.{current, builds_now, built_now, block_built, not_built, build_call, advance_call, advance_memory}
use Rattle.sched_core.specs.Invariant.{SoundMemory}
use Rattle.history.specs.Call.{Call, advance, request, enqueue_ack, enqueue_record, build, read, run, RecordOffer, record_of}
use Rattle.history.specs.UplinkModel.{model_entry}
use Rattle.history.specs.Model.{model_at}
use Rattle.history.specs.Memory.{memory_step, memory_at}
use Rattle.history.specs.Demand3.{slots_agreed, slots_in, slots_advanced}
use Rattle.history.proofs.Steps.{run-append}
use Rattle.history.proofs.Match.{emptied-cell}
use Rattle.history.proofs.WholeSimulation.{histories, step-sound}

-- slot c is the j-th before slot n, as the table has it
abbrev Behind : ℕ → ℕ → ℕ → Type 0
Behind c n j = (c + j) % 72 ≡ n % 72

apart-from-near : (c n j d : ℕ) → Behind c n j → 1 ≤ j → j ≤ 3 → n ≤ d → d < n + slots_agreed → c % 72 ≢ d % 72
apart-from-near c n j d b low high l h = λ e. omega arith

-- the next advance empties the fourth before its slot
apart-from-emptied : (c n j : ℕ) → Behind c n j → j ≤ 2 → c % 72 ≢ (n + (slots_agreed + 1)) % 72
apart-from-emptied c n j b high = λ e. omega arith

one-behind : (c n j : ℕ) → Behind c n j → Behind c (clock (n + 1)) (j + 1)
one-behind c n j b = omega arith

-- ---- a request takes none of the three

module _ (u : Uplink) (shape : FourRowsOfEighteen u.rows) (r : Request) (c j : ℕ) (low : 1 ≤ j) (high : j ≤ 3) (behind : Behind c (slot_of u.time) j) where
  verdict-left : (w : Verdict) → verdict (table_view u.rows) (slot_of u.time) r ≡ w
      → entry_at (table_after u.rows u.next_usage_marker r w) c ≡ entry_at u.rows c
  unfolding table_after
  verdict-left no_run e = refl
  verdict-left too_late e = refl
  verdict-left (grant g) e =
      let near = granted-near (table_view u.rows) (slot_of u.time) r g (verdict-grant (table_view u.rows) (slot_of u.time) r g e) in
      reserve-other _ r.number _ g.slots u.rows shape c
      (all-weaken _ _ (λ d h. apart-from-near c (slot_of u.time) j d behind low high h.0 h.1) g.slots near)

  answer-left : entry_at (answer u r).uplink.rows c ≡ entry_at u.rows c
  unfolding answer given
  answer-left = verdict-left (verdict (table_view u.rows) (slot_of u.time) r) refl

-- ---- what a call leaves of an entry

-- time and entry are as they were
abbrev Stays : ℕ → Memory → Memory → Type 0
Stays c m after = (after.station.uplink.time ≡ m.station.uplink.time) × (entry_at after.station.uplink.rows c ≡ entry_at m.station.uplink.rows c)

module _ (m : Memory) (k : SoundMemory m) (c j : ℕ) (behind : Behind c (slot_of m.station.uplink.time) j) where
  advance-left : j ≤ 2
      → (entry_at (memory_step advance m).after.station.uplink.rows c ≡ entry_at m.station.uplink.rows c)
      × Behind c (slot_of (memory_step advance m).after.station.uplink.time) (j + 1)
  unfolding memory_step advance_memory advance_call ask
  advance-left high =
      let n = slot_of m.station.uplink.time in
      let next : slot_of (next_time m.station.uplink.time) ≡ clock (n + 1) = slot_of-time_of (n + 1) in
      rw (k.station, next) (
        store_other m.station.uplink.rows _ empty_entry k.table c (λ e. apart-from-emptied c n j behind high (e ∙ emptied-cell n)),
        one-behind c n j behind,
      )

  request-left : 1 ≤ j → j ≤ 3 → (t code kind n : ℕ) → Stays c m (request_call m t code kind n).memory
  unfolding request_call request_answered grant_queued answer given
  request-left low high t code kind n =
      ask-elim (λ (o : Outcome). Stays c m o.memory)
      (memory_questions m [] ++ request_questions (queued_for m.station.queued t) t code kind n) _ _ (λ r. (refl, refl))
      (λ h. go (answer m.station.uplink r).reply)
    where
      r : Request
      r = record { timeslot = t; code = code; number = n }

      go : (x : Result Grant Refusal) → Stays c m (grant_queued m t kind n (answer m.station.uplink r) x).memory
      go (Err r) = (refl, refl)
      go (Ok g) = (refl, answer-left m.station.uplink k.table r c j low high behind)

  ack-left : (t kind n : ℕ) → Stays c m (ack_call m t kind n).memory
  unfolding ack_call
  ack-left t kind n =
      ask-elim (λ (o : Outcome). Stays c m o.memory)
      (memory_questions m [] ++ ack_questions (queued_for m.station.queued t) t kind n) _ _ (λ r. (refl, refl)) (λ h. (refl, refl))

  tma-left : (o : RecordOffer)
      → Stays c m (tma_call m o.timeslot o.kind o.number o.tag o.header o.bits o.octets).memory
  unfolding tma_call
  tma-left o =
      ask-elim (λ (y : Outcome). Stays c m y.memory)
      (memory_questions m [] ++ tma_questions (queued_for m.station.queued o.timeslot) o.timeslot (record_of o) o.octets) _ _
      (λ r. (refl, refl)) (λ h. (refl, refl))

  build-left : (block : List ℕ) → Stays c m (build_call m block).memory
  unfolding build_call
  build-left block =
      ask-elim (λ (o : BuildOutcome). Stays c m o.memory) (memory_questions m (build_lent block)) _ _ (λ r. (refl, refl))
      (λ h. go (builds_now m.station))
    where
      go : (b : Bool) → Stays c m (cond b (block_built m (current m.station) (built_now m)) (not_built no_block m block)).memory
      go true = (refl, refl)
      go false = (refl, refl)

  stays-behind : (after : Memory) → Stays c m after
      → (entry_at after.station.uplink.rows c ≡ entry_at m.station.uplink.rows c) × Behind c (slot_of after.station.uplink.time) (j + 0)
  stays-behind after s = (s.1, rw s.0 (omega (arith, behind)))

  step_left : 1 ≤ j → (call : Call) → j + slots_in call ≤ 3
      → (entry_at (memory_step call m).after.station.uplink.rows c ≡ entry_at m.station.uplink.rows c)
      × Behind c (slot_of (memory_step call m).after.station.uplink.time) (j + slots_in call)
  unfolding memory_step
  step_left low advance high = advance-left (omega arith)
  step_left low (request a) high = stays-behind (memory_step (request a) m).after (request-left low (omega arith) a.timeslot a.code a.kind a.number)
  step_left low (enqueue_ack o) high = stays-behind (memory_step (enqueue_ack o) m).after (ack-left o.timeslot o.kind o.number)
  step_left low (enqueue_record o) high = stays-behind (memory_step (enqueue_record o) m).after (tma-left o)
  step_left low (build b) high = stays-behind (memory_step (build b) m).after (build-left b)
  step_left low (read q) high = stays-behind m (refl, refl)

-- ---- calls after an advance

run-left : (cs : List Call) (m : Memory) → SoundMemory m → (c j : ℕ) → Behind c (slot_of m.station.uplink.time) j → 1 ≤ j → j + slots_advanced cs ≤ 3
    → entry_at (run memory_step cs m).station.uplink.rows c ≡ entry_at m.station.uplink.rows c
unfolding run slots_advanced
run-left [] m k c j b low high = refl
run-left (call ∷ cs) m k c j b low high =
    let s = step_left m k c j b low call (omega arith) in
    run-left cs (memory_step call m).after (step-sound call m k) c (j + slots_in call) s.1 (omega arith) (omega arith) ∙ s.0

pub left-stands : (x : TdmaTime) → Valid x → (before since : List Call) → slots_advanced since ≤ 2
    → let c = (model_at x before).uplink.now in
    entry_at (memory_at x (before ++ advance ∷ since)).station.uplink.rows c ≡ model_entry (model_at x before).uplink.taken c
unfolding run
left-stands x v before since few =
    let h = histories x v before in
    let c = (model_at x before).uplink.now in
    let m = memory_at x before in
    let first = advance-left m h.sound c 0 (rw h.same.uplink.now (omega arith)) (omega arith) in
    ap (λ (y : Memory). entry_at y.station.uplink.rows c) (run-append memory_step before (advance ∷ since) _)
    ∙ run-left since (memory_step advance m).after (step-sound advance m h.sound) c 1 first.1 (omega arith) (omega arith)
    ∙ first.0 ∙ h.same.uplink.matched.agree c (omega arith) (omega arith)
