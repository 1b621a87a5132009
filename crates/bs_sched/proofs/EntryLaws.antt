-- The entries' answers: questions 1 and 2 asked apart, a plan stored in the queue, and the plan of a build. Assumes nothing.
use Rattle.std.proofs.Common.{Some, None, Result, Ok, Err}
use mathlib.Core.Path.{◌≡◌, refl, sym, ap, ap₂, ◌∙◌, subst}
use mathlib.Core.Bool.{Bool, true, false}
use mathlib.Core.List.{List, [], ◌∷◌, ◌++◌}
use Prim.Native.Nat.{ℕ, zero, suc, ◌-◌, ◌*◌, ◌≤◌, ◌<◌}
use native.Mathlib.Omega.{arith}
use lib.ListN.{length, get_or, set, take, drop}
use lib.Seq.{paste}
use borrow.Author.Tests.{eqb-true}
use Rattle.sizes.specs.Sizes.{timeslots, per_timeslot, cell_octets, block_width, block_octets}
use Rattle.questions.specs.declared.Refusal.{Refusal}
use Rattle.questions.specs.Questions.{Question, question, refusal_number, ask, asked_number, number_of}
use Rattle.questions.proofs.AskLaws.{AllYes, Positive, number-yes, number-no}
use Rattle.questions.proofs.NumberLaws.{number-positive}
use Rattle.dl_record.specs.declared.Record.{Record}
use Rattle.dl_send.specs.Arrays.{tag_row}
use Rattle.dl_send.specs.declared.Progress.{Progress}
use Rattle.dl_queue.specs.Questions.{sound_places}
use Rattle.dl_build.specs.Build.{built_from, CanBuild, BuiltIn}
use Rattle.sched_core.specs.declared.Station.{Station}
use Rattle.sched_core.specs.Station.{with_queued}
use Rattle.sched_core.specs.Questions.{Memory, memory, asks_block, memory_questions, build_lent}
use Rattle.sched_core.specs.Replies.{Numbered}
use Rattle.sched_core.specs.Calls.{Outcome, outcome, judged, not_built, current, builds_now, built_now, build_call}
use Rattle.sched_core.proofs.QuestionLaws.{memory-positive}
use Rattle.sched_core.proofs.StationLaws.{sound-time, current-is, current-low, count-few}
use Rattle.sched_enqueue.specs.Plan.{SoundQueue, Joins, Refuses}
use Rattle.sched_enqueue.proofs.PlanLaws.{Told, yes-told}
use Rattle.sched_build.proofs.BuildCallLaws.{records-sound, can-build, plan-now, plan-called}
use Rattle.bs_sched.specs.Entries.{build_left, left_by}

-- a refusal leaves the queue, and the store as it came in
pub refusal-left : (call : Memory → Outcome) (s : Station) (before after : List ℕ) (n : ℕ) (q : List Record) → Refuses call s before after n
    → SoundQueue s q before → outcome (Numbered.refused n) (memory s q after) ≡ call (memory s q before)
refusal-left call s before after n q k sound = ap (λ (l : List ℕ). outcome (Numbered.refused n) (memory s q l)) k.store ∙ k.whole q sound

-- with its counts written and its record stored a plan is the call's whole outcome
pub joins-left : (call : Memory → Outcome) (s : Station) (before after : List ℕ) (reply : Numbered) (next : Station) (place : ℕ) (r : Record)
    (q : List Record) → Joins call s before after reply next place r → SoundQueue s q before
    → (y : Station) (z : List Record) → y ≡ next → z ≡ set q place r → outcome reply (memory y z after) ≡ call (memory s q before)
joins-left call s before after reply next place r q k sound y z ey ez =
    ap₂ (λ (x : Station) (l : List Record). outcome reply (memory x l after)) ey ez ∙ k.whole q sound

-- ---- questions 1 and 2, asked apart

-- their no is the call's
refused-first : {A B : Type 0} (fine : A) (refused : ℕ → A) (qs own : List Question) → Positive qs → {a : Result B Refusal} {r : Refusal}
    → number_of a ≡ asked_number qs → a ≡ Err r → refused (refusal_number r) ≡ ask (qs ++ own) fine refused
refused-first {A} fine refused qs own pos {a} {r} e n =
    let same : refusal_number r ≡ asked_number qs = sym (ap number_of n) ∙ e in
    number-no (λ (i : ℕ) (o : A). refusal_number r ≡ i → refused (refusal_number r) ≡ o) fine refused (λ i p h. ap refused h) qs own pos
    (λ z. omega (arith, same, z, number-positive r)) same

-- the tags that come back stand first in their array
tags-taken : (k : ℕ) (ts : List ℕ) → length ts ≤ k → take (length ts) (tag_row k ts) ≡ ts
unfolding tag_row
tags-taken zero [] h = refl
tags-taken zero (t ∷ ts) h = absurd (omega arith)
tags-taken (suc k) [] h = refl
tags-taken (suc k) (t ∷ ts) h = ap (λ (l : List ℕ). t ∷ l) (tags-taken k ts (omega arith))

-- what they tell then
module _ (s : Station) (rs : List Record) (st : List ℕ) where
  abbrev asked : Bool → List Question
  asked lent = memory_questions (memory s rs st) (question lent 2 ∷ [])

  positive : (lent : Bool) → Positive (asked lent)
  positive lent = memory-positive (memory s rs st) (question lent 2 ∷ []) (omega arith, tt)

  yes : {B : Type 0} (lent : Bool) {a : Result B Refusal} {x : B} → number_of a ≡ asked_number (asked lent) → a ≡ Ok x → AllYes (asked lent)
  yes lent e passed = number-yes (asked lent) (positive lent) (sym e ∙ ap number_of passed)

  pub told : {B : Type 0} (lent : Bool) {a : Result B Refusal} {x : B} → number_of a ≡ asked_number (asked lent) → a ≡ Ok x → Told s rs st lent
  told lent e passed = yes-told s rs st lent (yes lent e passed)

  -- a call that queues refuses what they refuse
  pub plan-refused : {B : Type 0} (own : List Question) (fine : Outcome) {a : Result B Refusal} {r : Refusal}
      → number_of a ≡ asked_number (asked true) → a ≡ Err r
      → outcome (Numbered.refused (refusal_number r)) (memory s rs st) ≡ judged (memory s rs st) own fine
  unfolding ask
  plan-refused own fine e refused =
      let m = memory s rs st in
      refused-first fine (λ n. outcome (Numbered.refused n) m) (asked true) own (positive true) e refused

  -- and so does a build
  module _ {B : Type 0} (block : List ℕ) {a : Result B Refusal}
      (e : number_of a ≡ asked_number (memory_questions (memory s rs st) (build_lent block))) where
    pub build-refused : {r : Refusal} → a ≡ Err r → build_left (Err r) (memory s rs st) block ≡ left_by (build_call (memory s rs st) block)
    unfolding build_call
    build-refused refused =
        let m = memory s rs st in
        ap left_by
        (refused-first _ (λ n. not_built (Numbered.refused n) m block) (memory_questions m (build_lent block)) [] (positive (asks_block block).holds) e refused)

    -- every question is answered yes, and there is nothing to build
    pub build-nothing : {x : B} → a ≡ Ok x → builds_now s ≡ false
        → build_left (Ok None) (memory s rs st) block ≡ left_by (build_call (memory s rs st) block)
    unfolding build_call ask
    build-nothing passed nothing =
        let y = yes (asks_block block).holds e passed in
        ap left_by (sym (rw (y.0, y.1.0, y.1.1.0, y.1.1.1.0, nothing)))

-- a build of a memory that questions 1 and 2 let pass, of the row of its time
module _ (s : Station) (rs : List Record) (st block : List ℕ) (passed : Told s rs st (asks_block block).holds) (four : length s.queued ≡ timeslots)
    (row : ℕ) (at : row ≡ s.uplink.time.t - 1) where
  here : row ≡ current s
  here = at ∙ current-is s (sound-time s passed.station)

  low : row < timeslots
  low = omega (arith, here, current-low s (sound-time s passed.station))

  pub few-here : get_or s.queued row 0 ≤ per_timeslot
  few-here = count-few s passed.station row (omega (arith, low, four))

  -- the records that are loaded
  abbrev own : List Record
  own = take per_timeslot (drop (per_timeslot * row) rs)

  own-is : take per_timeslot (drop (per_timeslot * current s) rs) ≡ own
  own-is = ap (λ (u : ℕ). take per_timeslot (drop (per_timeslot * u) rs)) (sym here)

  own-sound : sound_places per_timeslot (get_or s.queued (current s) 0) own (drop (cell_octets * (per_timeslot * current s)) st) ≡ true
  own-sound =
      subst (λ (l : List Record). sound_places per_timeslot (get_or s.queued (current s) 0) l (drop (cell_octets * (per_timeslot * current s)) st) ≡ true)
      own-is (records-sound (memory s rs st) passed.station passed.queue.places passed.queue.cells passed.queue.sound four)

  pub can-here : CanBuild (length block) block_width st (per_timeslot * row) (get_or s.queued row 0) own
  can-here = can-build s own st row here low passed.queue.cells own-sound few-here (length block) (eqb-true _ _ passed.lengths)

  module _ (p : Progress) (st' block' : List ℕ)
      (h : BuiltIn (built_from block_width (get_or s.queued row 0) own (drop (cell_octets * (per_timeslot * row)) st)) (length block) st (per_timeslot * row)
      p st' block') where
    now : BuiltIn (built_now (memory s rs st)) block_octets st (per_timeslot * current s) p st' block'
    now = plan-now s own st row here low passed.queue.cells own-sound few-here (length block) p st' block' (eqb-true _ _ passed.lengths) h rs own-is

    -- of its plan as many records are stored as were queued
    pub plan-built : builds_now s ≡ true → (z : List Record) → z ≡ paste rs (per_timeslot * row) p.records (get_or s.queued row 0)
        → build_left (Ok (Some p.tags)) (memory (with_queued s (set s.queued row p.left)) z st') block' ≡ left_by (build_call (memory s rs st) block)
    plan-built builds z ez =
        rw (now.tags, now.tag-count, tags-taken per_timeslot (built_now (memory s rs st)).tags (omega (arith, now.few-tags, now.tag-count)))
        (ap left_by
        (plan-called (memory s rs st) passed.station passed.queue.places passed.queue.cells passed.queue.sound block
        (eqb-true _ _ passed.lengths) builds four p _ _ st' block' now (ap (λ (u : ℕ). with_queued s (set s.queued u p.left)) here)
        (ez ∙ ap (λ (u : ℕ). paste rs (per_timeslot * u) p.records (get_or s.queued u 0)) here)))
