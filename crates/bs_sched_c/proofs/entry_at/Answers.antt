-- The time, the words, the state, then the entry of the time. Assumes nothing.
use Rattle.std.proofs.Common.{◌≡◌, ℕ, List, length, ap, ◌∙◌}
use Rattle.std.proofs.lemmas.Result.{err_from_is_err_and}
use Rattle.tdma_time.specs.Time.{slot_of}
use Rattle.tdma_time.proofs.TimeLaws.{true-valid}
use Rattle.uplink.specs.UplinkEntry.{entry_at}
use Rattle.sched_core.proofs.QuestionLaws.{asked-yes}
use Rattle.sched_words.specs.Words.{station_word_count, station_from}
use Rattle.bs_sched_c.specs.Exports.{no_owners_struct, entry_owners, owner_answer, usage_struct, usage_answer}
use Rattle.bs_sched_c.proofs.LentLaws.{lent-other, lent-whole, now, sound-yes, sound-no}
use Rattle.bs_sched_c.proofs.LeftLaws.{asked-no, no-time, no-station-then, is-station-then, owner-unsound, owner-yes, usage-unsound, usage-yes}
use Rattle.bs_sched_c.proofs.entry_at.Goals as goal
use Rattle.bs_sched_c.proofs.entry_at.Goals.{In_ok-station}

-- the station's words, as they are lent
lent : (c : In_ok-station) → (length c.in_ok-station.station.now ≡ station_word_count) × (c.args.station.now ≡ c.in_ok-station.station.now)
lent c = lent-whole now c.args.station.now station_word_count c.as_array.result c.ok_or.ensures.value c.in_ok-station.was c.as_array.ensures.cases

pub entry-requires : goal.entry-requires
entry-requires c = true-valid _ (asked-yes _ _ c.ask_time.ensures c.in_ok-ask_time.was)

pub returns-in_err-ask_time-clause-owners : goal.returns-in_err-ask_time-clause-owners
unfolding owner_answer
returns-in_err-ask_time-clause-owners c =
    let a = c.args in
    let p = err_from_is_err_and c.from_residual.result c.from_residual.ensures.1 in
    let n = asked-no _ _ c.ask_time.ensures c.in_err-ask_time.was in
    rw (p.1, p.2, n.1) (no-time a.station.now _ no_owners_struct a.time n.0)

pub returns-in_err-station-clause-owners : goal.returns-in_err-station-clause-owners
unfolding owner_answer
returns-in_err-station-clause-owners c =
    let a = c.args in
    let p = err_from_is_err_and c.from_residual-in_err-station.result c.from_residual-in_err-station.ensures.1 in
    let n = lent-other now a.station.now station_word_count c.as_array.result c.ok_or.ensures.value c.in_err-station.was c.as_array.ensures.cases in
    rw (p.1, p.2, n.1) (no-station-then a.station.now _ no_owners_struct a.time (asked-yes _ _ c.ask_time.ensures c.in_ok-ask_time.was) n.0)

pub returns-in_err-sound-clause-owners : goal.returns-in_err-sound-clause-owners
unfolding owner_answer
returns-in_err-sound-clause-owners c =
    let ws = c.in_ok-station.station.now in
    let w = lent (goal.at.returns-in_err-sound-clause-owners c).In_ok-station in
    let p = err_from_is_err_and c.from_residual-in_err-sound.result c.from_residual-in_err-sound.ensures.1 in
    let n = sound-no ws c.try_from.ensures.1 c.in_err-sound.was in
    rw (p.1, p.2, n.0, w.1)
    (is-station-then ws _ no_owners_struct c.args.time (asked-yes _ _ c.ask_time.ensures c.in_ok-ask_time.was) w.0
    (owner-unsound (station_from ws) c.args.time n.1))

pub returns-clause-owners : goal.returns-clause-owners
unfolding owner_answer
returns-clause-owners c =
    let ws = c.in_ok-station.station.now in
    let x = c.args.time in
    let w = lent (goal.at.returns-clause-owners c).In_ok-station in
    let s = sound-yes {ws = ws} c.try_from.ensures.0 c.in_ok-sound.was in
    let yes = asked-yes _ _ c.ask_time.ensures c.in_ok-ask_time.was in
    let read = c.entry.ensures ∙ ap (λ (l : List ℕ). entry_at (station_from l).uplink.rows (slot_of x)) s.0 in
    rw w.1 (is-station-then ws _ no_owners_struct x yes w.0 (ap entry_owners read ∙ owner-yes (station_from ws) x s.1 yes))

pub returns-in_err-ask_time-clause-usage : goal.returns-in_err-ask_time-clause-usage
unfolding usage_answer
returns-in_err-ask_time-clause-usage c =
    let a = c.args in
    let p = err_from_is_err_and c.from_residual.result c.from_residual.ensures.1 in
    let n = asked-no _ _ c.ask_time.ensures c.in_err-ask_time.was in
    rw (p.1, p.2, n.1) (no-time a.station.now _ (λ (n : ℕ). usage_struct n 0 0) a.time n.0)

pub returns-in_err-station-clause-usage : goal.returns-in_err-station-clause-usage
unfolding usage_answer
returns-in_err-station-clause-usage c =
    let a = c.args in
    let p = err_from_is_err_and c.from_residual-in_err-station.result c.from_residual-in_err-station.ensures.1 in
    let n = lent-other now a.station.now station_word_count c.as_array.result c.ok_or.ensures.value c.in_err-station.was c.as_array.ensures.cases in
    rw (p.1, p.2, n.1) (no-station-then a.station.now _ (λ (n : ℕ). usage_struct n 0 0) a.time (asked-yes _ _ c.ask_time.ensures c.in_ok-ask_time.was) n.0)

pub returns-in_err-sound-clause-usage : goal.returns-in_err-sound-clause-usage
unfolding usage_answer
returns-in_err-sound-clause-usage c =
    let ws = c.in_ok-station.station.now in
    let w = lent (goal.at.returns-in_err-sound-clause-usage c).In_ok-station in
    let p = err_from_is_err_and c.from_residual-in_err-sound.result c.from_residual-in_err-sound.ensures.1 in
    let n = sound-no ws c.try_from.ensures.1 c.in_err-sound.was in
    rw (p.1, p.2, n.0, w.1)
    (is-station-then ws _ (λ (n : ℕ). usage_struct n 0 0) c.args.time (asked-yes _ _ c.ask_time.ensures c.in_ok-ask_time.was) w.0
    (usage-unsound (station_from ws) c.args.time n.1))

pub returns-clause-usage : goal.returns-clause-usage
unfolding usage_answer
returns-clause-usage c =
    let ws = c.in_ok-station.station.now in
    let x = c.args.time in
    let w = lent (goal.at.returns-clause-usage c).In_ok-station in
    let s = sound-yes {ws = ws} c.try_from.ensures.0 c.in_ok-sound.was in
    let yes = asked-yes _ _ c.ask_time.ensures c.in_ok-ask_time.was in
    let read = c.entry.ensures ∙ ap (λ (l : List ℕ). entry_at (station_from l).uplink.rows (slot_of x)) s.0 in
    rw w.1 (is-station-then ws _ (λ (n : ℕ). usage_struct n 0 0) x yes w.0 (usage-yes (station_from ws) x s.1 yes _ read))
