-- The plan of a request: what it leaves to a caller that keeps the queue elsewhere. Assumes nothing.
use Rattle.std.specs.Prelude.{◌≡◌, List, ℕ, set, Result, Ok, Err}
use Rattle.questions.specs.declared.Refusal.{Refusal}
use Rattle.questions.specs.Questions.{refusal_number, ask}
use Rattle.uplink.specs.declared.Uplink.{Uplink}
use Rattle.sched_core.specs.declared.Station.{Station}
use Rattle.sched_core.specs.Station.{station_of}
use Rattle.sched_core.specs.Questions.{Memory, memory, queued_for, request_questions}
use Rattle.sched_core.specs.Replies.{Numbered, request_reply}
use Rattle.sched_core.specs.Calls.{Outcome, outcome, request_answered}
use Rattle.sched_enqueue.specs.Plan.{Joins, Refuses}
use Rattle.sched_request.specs.declared.RequestPlan.{RequestPlan}

-- a plan with its record stored, and the uplink that goes with it; "On a no, the number is the whole reply and each lent bit and the state
-- are those that came in."
abbrev pub planned_outcome : Result RequestPlan Refusal → Uplink → Memory → Outcome
planned_outcome (Ok p) u m =
    outcome (request_reply (Ok p.grant)) (memory (station_of u p.joining.queued) (set m.records p.joining.place p.joining.«record») m.store)
planned_outcome (Err x) u m = outcome (request_reply (Err x)) m

-- a request that questions 1 and 2 let pass: 3, 4, 5 and 8, then the search
unfoldable pub request_asked : Memory → ℕ → ℕ → ℕ → ℕ → Outcome
request_asked m t code kind n =
    ask (request_questions (queued_for m.station.queued t) t code kind n) (request_answered m t code kind n) (λ i. outcome (Numbered.refused i) m)

-- The plan of a request on station s, with uplink u after it, whatever the store: a request leaves it.
abbrev pub RequestPlanned : (Memory → Outcome) → Station → Uplink → Result RequestPlan Refusal → Type 0
RequestPlanned call s u (Ok p) =
    (store : List ℕ) → Joins call s store store (request_reply (Ok p.grant)) (station_of u p.joining.queued) p.joining.place p.joining.«record»
RequestPlanned call s u (Err x) = (u ≡ s.uplink) × ((store : List ℕ) → Refuses call s store store (refusal_number x))
