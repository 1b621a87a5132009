-- The commands that `slotrun` reads are a history: `slotrun-is-a-history`. Assumes nothing.
use mathlib.Core.Path.{◌≡◌, refl, sym, ap, ap₂, subst, ◌∙◌}
use mathlib.Core.Bool.{Bool, true, false, cond}
use mathlib.Core.List.{List, [], ◌∷◌, ◌++◌}
use Prim.Native.Nat.{ℕ, zero, suc}
use Rattle.questions.specs.Questions.{ask}
use Rattle.tdma_time.specs.Time.{Valid, valid}
use Rattle.tdma_time.proofs.TimeLaws.{true-valid}
use Rattle.sched_core.specs.Questions.{Memory}
use Rattle.sched_core.specs.Calls.{new_call, new_memory}
use Rattle.history.specs.Call.{Call, advance, request, enqueue_record, build, run}
use Rattle.history.specs.Memory.{memory_step, memory_at}
use Rattle.history.proofs.Steps.{run_more}
use Rattle.history.proofs.Demand3.{demand3}
use Rattle.std.proofs.Common.{Option, None, Some}
use Rattle.interpreter.specs.declared.command.Command.{Command}
use Rattle.interpreter.specs.declared.session.Session.{Session}
use Rattle.interpreter.specs.Text.{line}
use Rattle.interpreter.specs.Slotrun.{memory_of, first_time, start, first_command, time_given}
use Rattle.interpreter.specs.Slotrun.{new_step, advance_step, request_step, queue_step, build_step}
use Rattle.interpreter.specs.Slotrun.{Step, step, is_whole, step_found, first_step, behind_first, Ran, ran, commands}
use Rattle.history_slotrun.specs.Events.{Event, begins, calls, event_of, event_found, first_event, stage_after, events, History, history_after}
use Rattle.history_slotrun.specs.Events.{first_history, history_of, letter_of, fields_of, line_of, text_of}
use Rattle.history_slotrun.specs.SlotrunHistory.{SlotrunHistory}

-- ---- a command

-- the session has the memory of the history
pub record Stands (s : Session) (h : History) : Type 0 where
  pub valid : Valid h.begun
  pub memory : memory_of s ≡ memory_at h.begun h.calls

-- a command's step: what it leaves and prints is what the history says
pub record StepStands (x : Step) (h : History) (before : List ℕ) (e : Event) : Type 0 where
  pub stands : Stands x.session (history_after h e)
  pub stage : x.session.stage ≡ stage_after before e
  pub line : x.line ≡ line_of h e

module _ (s : Session) (h : History) (k : Stands s h) where
  -- a call goes behind the others, and prints what the history answers
  call-stands : (c : Call) (x : Step) → memory_of x.session ≡ (memory_step c (memory_of s)).after → x.session.stage ≡ s.stage
      → x.line ≡ line (letter_of c) (fields_of c (memory_step c (memory_of s)).reply) → StepStands x h s.stage (calls c)
  call-stands c x after stage printed =
      record {
        stands =
            record {
              valid = k.valid;
              memory =
                  after ∙ ap (λ (m : Memory). (memory_step c m).after) k.memory
                  ∙ sym (run_more memory_step h.calls c (new_memory h.begun));
            };
        stage = stage;
        line = printed ∙ ap (λ (m : Memory). line (letter_of c) (fields_of c (memory_step c m).reply)) k.memory;
      }

  -- a new station begins another history, if its time is valid
  new-stands : (ops : List ℕ) → StepStands (step s Command.New ops) h s.stage (begins (time_given ops))
  unfolding step new_step new_call ask run
  new-stands ops = go (valid (time_given ops)) refl
    where
      go : (b : Bool) → valid (time_given ops) ≡ b → StepStands (step s Command.New ops) h s.stage (begins (time_given ops))
      go true e = record { stands = record { valid = rw e (true-valid (time_given ops) e); memory = rw e }; stage = refl; line = rw e }
      go false e = record { stands = record { valid = rw e k.valid; memory = rw e k.memory }; stage = refl; line = rw e }

  step-stands : (command : Command) (ops : List ℕ) → StepStands (step s command ops) h s.stage (event_of s.stage command ops)
  unfolding step advance_step request_step queue_step build_step memory_step
  step-stands Command.New ops = new-stands ops
  step-stands Command.Advance ops = call-stands advance _ refl refl refl
  step-stands Command.Request ops = call-stands (request _) _ refl refl refl
  step-stands Command.Stage ops = record { stands = record { valid = k.valid; memory = k.memory }; stage = refl; line = refl }
  step-stands Command.Queue ops = call-stands (enqueue_record _) _ refl refl refl
  step-stands Command.Build ops = call-stands (build _) _ refl refl refl

  found-stands : (f : Option (Command × List ℕ)) → StepStands (step_found s f) h s.stage (event_found s.stage f)
  found-stands None = record { stands = k; stage = refl; line = refl }
  found-stands (Some x) = step-stands x.0 x.1

  first-stands : (input : List ℕ) → StepStands (first_step s input) h s.stage (first_event s.stage input)
  first-stands input = found-stands (first_command input)

-- ---- a run

pub record RunStands (r : Ran) (h : History) (es : List Event) : Type 0 where
  pub stands : Stands r.session (history_of h es)
  pub printed : r.printed ≡ text_of h es

-- n commands more
abbrev Later : ℕ → List ℕ → Type 0
Later n input = (s : Session) (h : History) → Stands s h → RunStands (commands n s input) h (events n s.stage input)

module _ (n : ℕ) (s : Session) (h : History) (input : List ℕ) (k : Stands s h) (more : Later n (behind_first input)) where
  abbrev e : Event
  e = first_event s.stage input

  abbrev x : Step
  x = first_step s input

  first : StepStands x h s.stage e
  first = first-stands s h k input

  later : RunStands (commands n x.session (behind_first input)) (history_after h e) (events n (stage_after s.stage e) (behind_first input))
  later =
      subst (λ (stage : List ℕ). RunStands (commands n x.session (behind_first input)) (history_after h e) (events n stage (behind_first input)))
      first.stage (more x.session (history_after h e) first.stands)

  turn-stands : RunStands (commands (suc n) s input) h (events (suc n) s.stage input)
  unfolding commands events history_of text_of
  turn-stands = go (is_whole input)
    where
      go : (b : Bool)
          → RunStands
          (cond b
          (ran (commands n x.session (behind_first input)).session (x.line ++ (commands n x.session (behind_first input)).printed)
          (commands n x.session (behind_first input)).left)
          (ran s [] input))
          h (cond b (e ∷ events n (stage_after s.stage e) (behind_first input)) [])
      go true = record { stands = later.stands; printed = ap₂ (λ (a b : List ℕ). a ++ b) first.line later.printed }
      go false = record { stands = k; printed = refl }

run-stands : (n : ℕ) (input : List ℕ) → Later n input
unfolding commands events history_of text_of
run-stands zero input s h k = record { stands = k; printed = refl }
run-stands (suc n) input s h k = turn-stands n s h input k (run-stands n (behind_first input))

start-stands : Stands start first_history
unfolding run valid
start-stands = record { valid = true-valid first_time refl; memory = refl }

-- after any number of commands of any input
pub slotrun-is-a-history : (n : ℕ) (input : List ℕ) → SlotrunHistory n input
slotrun-is-a-history n input =
    let r = run-stands n input start first_history start-stands in
    record { valid = r.stands.valid; memory = r.stands.memory; demand3 = demand3 _ r.stands.valid _; printed = r.printed }
