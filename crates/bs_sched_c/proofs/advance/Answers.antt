-- A station of its number of words, and what they stand for. Assumes nothing.
use Rattle.std.proofs.Common.{◌≡◌, ℕ, [], length}
use Rattle.std.proofs.lemmas.Result.{err_from_is_err_and}
use Rattle.questions.proofs.AskLaws.{said-no, said-yes}
use Rattle.sched_core.proofs.QuestionLaws.{asked-yes}
use Rattle.sched_words.specs.Words.{station_word_count}
use Rattle.bs_sched_c.specs.Exports.{station_left, advance_left}
use Rattle.bs_sched_c.proofs.LentLaws.{lent-other, lent-whole, mut_now}
use Rattle.bs_sched_c.proofs.LeftLaws.{asked-no, no-station, is-station, advance-no, advance-yes}
use Rattle.bs_sched_c.proofs.advance.Goals as goal
use Rattle.bs_sched_c.proofs.advance.Goals.{In_ok-station}

-- the station's words, as they are lent
lent : (c : In_ok-station) → (length c.in_ok-station.station.now ≡ station_word_count) × (c.args.station.now ≡ c.in_ok-station.station.now)
lent c = lent-whole mut_now c.args.station.now station_word_count c.as_mut_array.result c.ok_or.ensures.value c.in_ok-station.was c.as_mut_array.ensures.cases

pub returns-in_err-station : goal.returns-in_err-station
unfolding advance_left
returns-in_err-station c =
    let a = c.args in
    let p = err_from_is_err_and c.from_residual.result c.from_residual.ensures.1 in
    let n = lent-other mut_now a.station.now station_word_count c.as_mut_array.result c.ok_or.ensures.value c.in_err-station.was
    c.as_mut_array.ensures.cases in
    rw (p.1, p.2, n.1) (no-station a.station.now _ (λ (n : ℕ). station_left n a.station.now) [] n.0)

pub returns-in_err-ask : goal.returns-in_err-ask
unfolding advance_left
returns-in_err-ask c =
    let ws = c.in_ok-station.station.now in
    let w = lent (goal.at.returns-in_err-ask c).In_ok-station in
    let p = err_from_is_err_and c.from_residual-in_err-ask.result c.from_residual-in_err-ask.ensures.1 in
    let n = asked-no _ _ c.ask.ensures c.in_err-ask.was in
    rw (p.1, p.2, n.1, w.1) (is-station ws _ (λ (n : ℕ). station_left n ws) w.0 (advance-no ws (said-no c.station_is_sound.ensures n.0)))

pub returns : goal.returns
unfolding advance_left
returns c =
    let ws = c.in_ok-station.station.now in
    let w = lent (goal.at.returns c).In_ok-station in
    let yes = said-yes c.station_is_sound.ensures (asked-yes _ _ c.ask.ensures c.in_ok-ask.was) in
    rw w.1 (is-station ws _ (λ (n : ℕ). station_left n ws) w.0 (advance-yes ws yes _ c.advance.ensures))
