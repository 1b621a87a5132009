-- The search, where its own questions are answered yes. Assumes nothing.
use Rattle.std.proofs.Common.{Ok, Err}
use Rattle.std.proofs.lemmas.Result.{err_from_is_err_and}
use mathlib.Core.Path.{◌≡◌, ◌∙◌}
use mathlib.Core.Bool.{true}
use mathlib.Core.List.{List}
use Prim.Native.Nat.{ℕ}
use lib.Dec.{leb}
use Rattle.questions.specs.declared.Refusal.{Refusal}
use Rattle.questions.specs.Questions.{refusal_number, ask}
use Rattle.questions.proofs.AskLaws.{said-yes, every-yes}
use Rattle.tdma_time.specs.Time.{legal_timeslot}
use Rattle.uplink.specs.Request.{CapAnswer}
use Rattle.uplink.specs.declared.Grant.{Grant}
use Rattle.uplink.specs.Request.{answer}
use Rattle.dl_record.specs.declared.Record.{Record}
use Rattle.dl_record.specs.Questions.{legal_address}
use Rattle.sched_core.specs.declared.Station.{Station}
use Rattle.sched_core.specs.Station.{station_of}
use Rattle.sched_core.specs.Questions.{Memory, memory, has_room, queued_for, request_questions}
use Rattle.sched_core.specs.Replies.{Numbered}
use Rattle.sched_core.specs.Calls.{outcome, grant_queued}
use Rattle.sched_core.proofs.GrantLaws.{answered-refused, answered-grant, grant-fits, refusal-leaves}
use Rattle.sched_core.proofs.QuestionLaws.{asked-yes}
use Rattle.sched_request.specs.RequestPlan.{request_asked}
use Rattle.sched_request.proofs.request_plan.Goals as goal

-- what follows where every one is answered yes, and timeslot and requirement have their numbers
module _ (s : Station) (t code kind n j k : ℕ) (a : CapAnswer) (is : a ≡ answer s.uplink (record { timeslot = j; code = k; number = n }))
    (timed : (j ≡ t) × (legal_timeslot t ≡ true)) (coded : (leb code 15 ≡ true) × (k ≡ code)) (address : legal_address kind n ≡ true)
    (room : has_room (queued_for s.queued j) ≡ true) (rs : List Record) (st : List ℕ) where
  abbrev m : Memory
  m = memory s rs st

  passed : {A : Type 0} (fine : A) (refused : ℕ → A) → fine ≡ ask (request_questions (queued_for s.queued t) t code kind n) fine refused
  passed fine refused = every-yes fine refused (request_questions (queued_for s.queued t) t code kind n)
      ((((tt, timed.1), coded.0), address), rw timed.0 at room)

  refused-here : (x : Refusal) → a.reply ≡ Err x → outcome (Numbered.refused (refusal_number x)) m ≡ request_asked m t code kind n
  unfolding request_asked
  refused-here x e = answered-refused m t code kind n a (rw (timed.0, coded.1) at is) x e ∙ passed _ _

  granted-here : (g : Grant) → a.reply ≡ Ok g → grant_queued m t kind n a (Ok g) ≡ request_asked m t code kind n
  unfolding request_asked
  granted-here g e = answered-grant m t code kind n a (rw (timed.0, coded.1) at is) g e ∙ passed _ _

pub returns-in_err-grant-clause-whole : goal.returns-in_err-grant-clause-whole
returns-in_err-grant-clause-whole c rs st =
    let a = c.args in
    let address = said-yes c.is_legal.ensures (asked-yes _ _ c.ask.ensures c.in_ok-ask.was) in
    let p = err_from_is_err_and c.from_residual-in_err-grant.result c.from_residual-in_err-grant.ensures.1 in
    rw (p.1, p.2)
    (refused-here (station_of a.uplink.now a.queued) a.timeslot a.code a.address.kind a.address.number _ _ _ c.ul_process_cap_req.ensures
    c.in_ok-timeslot.ensures.0 c.in_ok-requirement.ensures.ok address c.in_ok-room.ensures.ok.2 rs st _ c.in_err-grant.was)

pub returns-in_err-grant-clause-left : goal.returns-in_err-grant-clause-left
returns-in_err-grant-clause-left c =
    let p = err_from_is_err_and c.from_residual-in_err-grant.result c.from_residual-in_err-grant.ensures.1 in
    rw p.1 (refusal-leaves _ _ _ c.ul_process_cap_req.ensures _ c.in_err-grant.was)

pub grant_record-requires : goal.grant_record-requires
grant_record-requires c = grant-fits _ _ _ c.ul_process_cap_req.ensures _ c.in_ok-grant.was

pub returns-clause-whole : goal.returns-clause-whole
unfolding grant_queued
returns-clause-whole c rs st =
    let a = c.args in
    let address = said-yes c.is_legal.ensures (asked-yes _ _ c.ask.ensures c.in_ok-ask.was) in
    let timed = c.in_ok-timeslot.ensures.0 in
    let room = c.in_ok-room.ensures.ok in
    rw (c.joined-joining.ensures.value, c.grant_record.ensures, room.0, room.1, timed.0)
    (granted-here (station_of a.uplink.now a.queued) a.timeslot a.code a.address.kind a.address.number _ _ _ c.ul_process_cap_req.ensures timed
    c.in_ok-requirement.ensures.ok address room.2 rs st _ c.in_ok-grant.was)
