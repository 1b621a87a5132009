-- The time, then a station of its number of words. Assumes nothing.
use Rattle.std.proofs.Common.{◌≡◌, ℕ, length, ap, ◌∙◌}
use Rattle.std.proofs.lemmas.Result.{err_from_is_err_and}
use Rattle.sched_core.proofs.QuestionLaws.{asked-yes}
use Rattle.sched_words.specs.Words.{station_word_count, station_words}
use Rattle.bs_sched_c.specs.Exports.{station_left, new_left}
use Rattle.bs_sched_c.proofs.LentLaws.{lent-other, lent-whole, mut_now}
use Rattle.bs_sched_c.proofs.LeftLaws.{asked-no, no-time, no-station-then, is-station-then}
use Rattle.bs_sched_c.proofs.new.Goals as goal
use Rattle.bs_sched_c.proofs.new.Goals.{In_ok-station}

-- the station's words, as they are lent
lent : (c : In_ok-station) → (length c.in_ok-station.station.now ≡ station_word_count) × (c.args.station.now ≡ c.in_ok-station.station.now)
lent c = lent-whole mut_now c.args.station.now station_word_count c.as_mut_array.result c.ok_or.ensures.value c.in_ok-station.was c.as_mut_array.ensures.cases

pub returns-in_err-ask_time : goal.returns-in_err-ask_time
unfolding new_left
returns-in_err-ask_time c =
    let a = c.args in
    let p = err_from_is_err_and c.from_residual.result c.from_residual.ensures.1 in
    let n = asked-no _ _ c.ask_time.ensures c.in_err-ask_time.was in
    rw (p.1, p.2, n.1) (no-time a.station.now _ (λ (n : ℕ). station_left n a.station.now) a.time n.0)

pub returns-in_err-station : goal.returns-in_err-station
unfolding new_left
returns-in_err-station c =
    let a = c.args in
    let p = err_from_is_err_and c.from_residual-in_err-station.result c.from_residual-in_err-station.ensures.1 in
    let n = lent-other mut_now a.station.now station_word_count c.as_mut_array.result c.ok_or.ensures.value c.in_err-station.was
    c.as_mut_array.ensures.cases in
    rw (p.1, p.2, n.1)
    (no-station-then a.station.now _ (λ (n : ℕ). station_left n a.station.now) a.time (asked-yes _ _ c.ask_time.ensures c.in_ok-ask_time.was) n.0)

pub returns : goal.returns
unfolding new_left
returns c =
    let ws = c.in_ok-station.station.now in
    let w = lent (goal.at.returns c).In_ok-station in
    rw w.1
    (is-station-then ws _ (λ (n : ℕ). station_left n ws) c.args.time (asked-yes _ _ c.ask_time.ensures c.in_ok-ask_time.was) w.0
    (ap (station_left 0) (c.put_station.ensures ∙ ap station_words c.new.ensures)))
