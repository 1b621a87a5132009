-- Questions 1 and 2, then the plan, whose record is stored.
use Rattle.std.proofs.lemmas.Result.{err_from_is_err_and}
use mathlib.Core.Path.{subst}
use mathlib.Core.Bool.{true}
use native.Mathlib.Omega.{arith}
use Rattle.sched_core.specs.Questions.{Memory}
use Rattle.sched_core.specs.Calls.{Outcome, request_call}
use Rattle.sched_core.proofs.StationLaws.{sound-time}
use Rattle.sched_enqueue.proofs.PlanLaws.{Told}
use Rattle.sched_request.specs.RequestPlan.{RequestPlanned}
use Rattle.sched_request.proofs.RowPlan.{request-planned}
use Rattle.bs_sched.proofs.EntryLaws.{told, plan-refused, refusal-left, joins-left}
use Rattle.bs_sched.proofs.ul_process_cap_req.Goals as goal
use Rattle.bs_sched.proofs.ul_process_cap_req.Goals.{After-request_plan}

pub returns-in_err-ask_memory : goal.returns-in_err-ask_memory
unfolding request_call
returns-in_err-ask_memory c =
    let a = c.args in
    let p = err_from_is_err_and c.from_residual.result c.from_residual.ensures.1 in
    rw (p.1, p.2) (plan-refused a.station.now a.queue.now a.store.now _ _ c.ask_memory.ensures c.in_err-ask_memory.was)

pub request_plan-requires : goal.request_plan-requires
request_plan-requires c =
    let a = c.args in
    sound-time a.station.now (told a.station.now a.queue.now a.store.now true c.ask_memory.ensures c.in_ok-ask_memory.was).station

-- the questions are answered yes, and the plan is that of the call
passed : (l : After-request_plan) → Told l.args.station.now l.args.queue.now l.args.store.now true
passed l = let a = l.args in told a.station.now a.queue.now a.store.now true l.ask_memory.ensures l.in_ok-ask_memory.was

abbrev call : After-request_plan → Memory → Outcome
call l m = request_call m l.args.timeslot l.args.code l.args.address.kind l.args.address.number

planned : (l : After-request_plan) → RequestPlanned (call l) l.args.station.now l.request_plan.new.uplink l.request_plan.result
planned l =
    let a = l.args in
    let e = l.request_plan.ensures in
    request-planned a.station.now a.timeslot a.code a.address.kind a.address.number l.request_plan.new.uplink l.request_plan.result (passed l).station
    e.whole e.left e.place

pub returns-in_err-plan : goal.returns-in_err-plan
returns-in_err-plan c =
    let l = (goal.at.returns-in_err-plan c).After-request_plan in
    let a = c.args in
    let p = err_from_is_err_and c.from_residual-in_err-plan.result c.from_residual-in_err-plan.ensures.1 in
    let refused = subst (RequestPlanned (call l) a.station.now l.request_plan.new.uplink) c.in_err-plan.was (planned l) in
    rw (p.1, p.2, refused.0) (refusal-left (call l) a.station.now a.store.now _ _ a.queue.now (refused.1 a.store.now) (passed l).queue)

pub join-requires : goal.join-requires
join-requires c =
    let l = (goal.at.join-requires c).After-request_plan in
    let a = c.args in
    let joins = subst (RequestPlanned (call l) a.station.now l.request_plan.new.uplink) c.in_ok-plan.was (planned l) a.store.now in
    omega (arith, joins.place-in-queue, (passed l).queue.places)

pub returns : goal.returns
returns c =
    let l = (goal.at.returns c).After-request_plan in
    let a = c.args in
    let joins = subst (RequestPlanned (call l) a.station.now l.request_plan.new.uplink) c.in_ok-plan.was (planned l) a.store.now in
    joins-left (call l) a.station.now a.store.now _ _ _ _ _ a.queue.now joins (passed l).queue _ _ c.join.ensures.station c.join.ensures.queue
