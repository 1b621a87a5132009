-- Questions 1 and 2, then the plan, whose record is stored.
use Rattle.std.proofs.lemmas.Result.{err_from_is_err_and}
use mathlib.Core.Path.{subst}
use mathlib.Core.Bool.{true}
use native.Mathlib.Omega.{arith}
use Rattle.sched_core.specs.Questions.{Memory}
use Rattle.sched_core.specs.Calls.{Outcome, ack_call}
use Rattle.sched_enqueue.specs.Plan.{QueuePlanned}
use Rattle.sched_enqueue.proofs.PlanLaws.{Told, ack-planned}
use Rattle.bs_sched.proofs.EntryLaws.{told, plan-refused, refusal-left, joins-left}
use Rattle.bs_sched.proofs.dl_enqueue_random_access_ack.Goals as goal
use Rattle.bs_sched.proofs.dl_enqueue_random_access_ack.Goals.{After-ack_joins}

pub returns-in_err-ask_memory : goal.returns-in_err-ask_memory
unfolding ack_call
returns-in_err-ask_memory c =
    let a = c.args in
    let p = err_from_is_err_and c.from_residual.result c.from_residual.ensures.1 in
    rw (p.1, p.2) (plan-refused a.station.now a.queue.now a.store.now _ _ c.ask_memory.ensures c.in_err-ask_memory.was)

-- the questions are answered yes, and the plan is that of the call
passed : (l : After-ack_joins) → Told l.args.station.now l.args.queue.now l.args.store.now true
passed l = let a = l.args in told a.station.now a.queue.now a.store.now true l.ask_memory.ensures l.in_ok-ask_memory.was

abbrev call : After-ack_joins → Memory → Outcome
call l m = ack_call m l.args.timeslot l.args.address.kind l.args.address.number

planned : (l : After-ack_joins) → QueuePlanned (call l) l.args.station.now l.args.store.now l.args.store.now l.ack_joins.result
planned l =
    let a = l.args in
    ack-planned a.station.now a.store.now a.timeslot a.address.kind a.address.number l.ack_joins.result (passed l).station (l.ack_joins.ensures a.store.now)

pub returns-in_err-joining : goal.returns-in_err-joining
returns-in_err-joining c =
    let l = (goal.at.returns-in_err-joining c).After-ack_joins in
    let a = c.args in
    let p = err_from_is_err_and c.from_residual-in_err-joining.result c.from_residual-in_err-joining.ensures.1 in
    rw (p.1, p.2)
    (refusal-left (call l) a.station.now a.store.now _ _ a.queue.now
    (subst (QueuePlanned (call l) a.station.now a.store.now a.store.now) c.in_err-joining.was (planned l)) (passed l).queue)

pub join-requires : goal.join-requires
join-requires c =
    let l = (goal.at.join-requires c).After-ack_joins in
    let a = c.args in
    let joins = subst (QueuePlanned (call l) a.station.now a.store.now a.store.now) c.in_ok-joining.was (planned l) in
    omega (arith, joins.place-in-queue, (passed l).queue.places)

pub returns : goal.returns
returns c =
    let l = (goal.at.returns c).After-ack_joins in
    let a = c.args in
    let joins = subst (QueuePlanned (call l) a.station.now a.store.now a.store.now) c.in_ok-joining.was (planned l) in
    joins-left (call l) a.station.now a.store.now _ _ _ _ _ a.queue.now joins (passed l).queue _ _ c.join.ensures.station c.join.ensures.queue
