-- No run, a run too late, or a grant. Assumes nothing.
use mathlib.Core.Path.{◌≡◌, sym, ◌∙◌}
use Rattle.std.proofs.Common.{Option}
use Rattle.std.proofs.lemmas.Option.{same_Some}
use Rattle.slot_codes.specs.Codes.{slots_wanted, wants_half}
use Rattle.reservation_requirement.specs.Requirement.{requirement_code}
use Rattle.uplink.specs.declared.Opportunity.{Opportunity}
use Rattle.uplink.specs.Request.{Request}
use Rattle.uplink.specs.Functions.{opportunity}
use Rattle.uplink.proofs.AnswerLaws.{found_at, answer-nothing, answer-late, answer-granted}
use Rattle.ul_grant.proofs.ul_process_cap_req.Goals as goal
use Rattle.ul_grant.proofs.ul_process_cap_req.Goals.{After-ul_find_grant_opportunity-grant_op}

abbrev asked : After-ul_find_grant_opportunity-grant_op → Request
asked c = record { timeslot = c.args.timeslot.number; code = requirement_code c.args.requirement; number = c.args.number }

abbrev defined : After-ul_find_grant_opportunity-grant_op → Option Opportunity
defined c = opportunity c.args.u.now.rows c.args.u.now.time c.args.timeslot.number (slots_wanted (asked c).code) (wants_half (asked c).code)

-- what the search found is what the definition says
searched : (c : After-ul_find_grant_opportunity-grant_op) → c.ul_find_grant_opportunity-grant_op.result ≡ defined c
searched c = rw (c.to_req_slotcount-num_slots.ensures, c.is_halfslot.ensures) at c.ul_find_grant_opportunity-grant_op.ensures.0

pub granted-requires-clause-can : goal.granted-requires-clause-can
granted-requires-clause-can c =
    let p = (goal.at.granted-requires-clause-can c).After-ul_find_grant_opportunity-grant_op in
    (found_at c.args.u.now (asked p) _ _ (sym (searched p) ∙ c.in-Some-2.is)).can

pub returns-in-None : goal.returns-in-None
returns-in-None c =
    let p = (goal.at.returns-in-None c).After-ul_find_grant_opportunity-grant_op in
    answer-nothing _ (asked p) (sym (searched p) ∙ c.in-None.is)

pub returns-in-Some : goal.returns-in-Some
returns-in-Some c =
    let p = (goal.at.returns-in-Some c).After-ul_find_grant_opportunity-grant_op in
    answer-late _ (asked p) _ _ (sym (searched p) ∙ c.in-Some.is) c.if-found-gt-LATEST_DELAY.true

pub returns-in-Some-2 : goal.returns-in-Some-2
returns-in-Some-2 c =
    let p = (goal.at.returns-in-Some-2 c).After-ul_find_grant_opportunity-grant_op in
    let one : c.in-Some.found ≡ c.in-Some-2.found = same_Some _ _ (sym c.in-Some.is ∙ c.in-Some-2.is) in
    c.granted.ensures ∙ answer-granted _ (asked p) _ _ (sym (searched p) ∙ c.in-Some-2.is) (rw one at c.if-found-gt-LATEST_DELAY.false)
