-- Each question is answered no, there is nothing to build, or the plan of the current timeslot is stored. Assumes nothing.
use Rattle.std.proofs.lemmas.Result.{err_from_is_err_and}
use mathlib.Core.Path.{◌≡◌, ◌∙◌}
use native.Mathlib.Omega.{arith}
use borrow.Author.Rules.{rules}
use lib.ListN.{length}
use Rattle.sizes.specs.Sizes.{timeslots}
use Rattle.questions.proofs.AskLaws.{said-no, said-yes}
use Rattle.sched_core.specs.Questions.{asks_block}
use Rattle.sched_core.specs.Calls.{builds_now}
use Rattle.sched_core.proofs.StationLaws.{sound-time}
use Rattle.sched_enqueue.proofs.PlanLaws.{Told}
use Rattle.sched_build.proofs.BuildCallLaws.{builds-now}
use Rattle.bs_sched.proofs.EntryLaws.{told, build-refused, build-nothing, few-here, can-here, plan-built}
use Rattle.bs_sched.proofs.dl_build_block.Goals as goal
use Rattle.bs_sched.proofs.dl_build_block.Goals.{In_ok-ask_memory, After-builds_at}

pub returns-in_err-ask_memory : goal.returns-in_err-ask_memory
returns-in_err-ask_memory c =
    let a = c.args in
    let p = err_from_is_err_and c.from_residual.result c.from_residual.ensures.1 in
    rw (p.1, p.2) (build-refused a.station.now a.queue.now a.store.now a.block.now c.ask_memory.ensures c.in_err-ask_memory.was)

-- the questions are answered yes
passed : (l : In_ok-ask_memory) → Told l.args.station.now l.args.queue.now l.args.store.now (asks_block l.args.block.now).holds
passed l = let a = l.args in told a.station.now a.queue.now a.store.now (asks_block a.block.now).holds l.ask_memory.ensures l.in_ok-ask_memory.was

four : (l : In_ok-ask_memory) → length l.args.station.now.queued ≡ timeslots
four l = search rules

pub row-row-requires : goal.row-row-requires
row-row-requires c = sound-time _ (passed (goal.at.row-row-requires c).In_ok-ask_memory).station

-- is there a block to build
says : (l : After-builds_at) → l.builds_at.result ≡ builds_now l.args.station.now
says l =
    let a = l.args in
    let s = a.station.now in
    let p = told s a.queue.now a.store.now (asks_block a.block.now).holds l.ask_memory.ensures l.in_ok-ask_memory.was in
    l.builds_at.ensures ∙ rw l.row-row.ensures.0 (builds-now s (sound-time s p.station))

pub returns-then-not-builds_at : goal.returns-then-not-builds_at
returns-then-not-builds_at c =
    let a = c.args in
    build-nothing a.station.now a.queue.now a.store.now a.block.now c.ask_memory.ensures c.in_ok-ask_memory.was
    (said-no (says (goal.at.returns-then-not-builds_at c).After-builds_at) c.if-not-builds_at.true)

pub load_timeslot-records-requires : goal.load_timeslot-records-requires
load_timeslot-records-requires c =
    let p = passed (goal.at.load_timeslot-records-requires c).In_ok-ask_memory in
    omega (arith, c.row-row.ensures.1, p.queue.places)

pub build_timeslot-plan-requires : goal.build_timeslot-plan-requires
build_timeslot-plan-requires c =
    let a = c.args in
    let l = (goal.at.build_timeslot-plan-requires c).In_ok-ask_memory in
    rw c.load_timeslot-records.ensures
    (can-here a.station.now a.queue.now a.store.now a.block.now (passed l) (four l) c.row-row.result c.row-row.ensures.0)

pub save_timeslot-requires : goal.save_timeslot-requires
save_timeslot-requires c =
    let a = c.args in
    let l = (goal.at.save_timeslot-requires c).In_ok-ask_memory in (
      omega (arith, c.row-row.ensures.1, (passed l).queue.places),
      few-here a.station.now a.queue.now a.store.now a.block.now (passed l) (four l) c.row-row.result c.row-row.ensures.0,
    )

pub returns : goal.returns
returns c =
    let a = c.args in
    let at = goal.at.returns c in
    let l = at.In_ok-ask_memory in
    let plan = c.build_timeslot-plan in
    plan-built a.station.now a.queue.now a.store.now a.block.now (passed l) (four l) c.row-row.result c.row-row.ensures.0 plan.result _ _
    (rw c.load_timeslot-records.ensures at plan.ensures) (said-yes (says at.After-builds_at) c.if-not-builds_at.false) _ c.save_timeslot.ensures
