-- The words of the time, and of the entry that is emptied. Assumes nothing.
use Rattle.std.proofs.Common.{◌≡◌, ℕ, ◌+◌, ◌-◌, ◌*◌, ◌≤◌, ◌++◌, List, [], ◌∷◌, length, take, drop, replicate, refl, ap, ◌∙◌, arith, rules, length-take-le, length-drop}
use lib.Seq.{sets, length-sets}
use Rattle.tdma_time.specs.Time.{next_time}
use Rattle.sched_words.specs.Words.{time_words, time_from}
use Rattle.sched_words.proofs.FrontLaws.{first-lent, time-front}
use Rattle.sched_words.proofs.WordLaws.{copied, copied-front}
use Rattle.sched_words.proofs.StationWords.{time-valid, advanced-words}
use Rattle.sched_words.proofs.station.advance.Goals as goal

pub next-next-requires : goal.next-next-requires
next-next-requires c = rw (c.time_from-time.ensures ∙ ap time_from (first-lent _ _ _ _ c.unwrap.ensures c.first_chunk.ensures.cases) ∙ time-front c.args.words.now) (time-valid _ c.requires)

pub returns : goal.returns
returns c =
    let ws = c.args.words.now in
    let next = c.next-next.result in
    let old = c.four_earlier-old.result in
    let size : length ws ≡ 228 = search rules in
    let read = c.time_from-time.ensures ∙ ap time_from (first-lent _ _ _ _ c.unwrap.ensures c.first_chunk.ensures.cases) ∙ time-front ws in
    let at : ℕ = 4 + 54 * c.row.result + 3 * c.column.result in
    let place : at ≡ 4 + (54 * (next.t - 1) + 3 * (old.f - 1)) = omega (arith, c.row.ensures.0, c.column.ensures.0) in
    let time = copied-front ws c.copy_from_slice.new.self (time_words next) 4 (c.copy_from_slice.ensures.after ∙ c.time_words.ensures) refl (omega (arith, size)) in
    let first : List ℕ = c.copy_from_slice.new.self ++ drop 4 ws in
    let long : length first ≡ 228 = ap length time ∙ length-sets ws 0 (time_words next) ∙ size in
    let v = c.next-next.ensures.1 in
    let w = c.four_earlier-old.ensures.1 in
    let room : at + 3 ≤ length first = omega (arith, long, place, v.t-low, v.t-high, w.f-low, w.f-high) in
    let three : length (take (at + 3 - at) (drop at first)) ≡ 3 = length-take-le (at + 3 - at) (drop at first) (rw length-drop (omega arith)) ∙ omega arith in
    copied first c.fill.new.self (replicate 3 0) at (at + 3 - at) (c.fill.ensures.after (λ y e. e) ∙ ap (λ (n : ℕ). replicate n 0) three)
    (omega arith) (omega arith)
    ∙ (λ i. sets (time i) (place i) (0 ∷ 0 ∷ 0 ∷ []))
    ∙ advanced-words ws c.requires next old (c.next-next.ensures.0 ∙ ap next_time read)
    c.next-next.ensures.1 c.four_earlier-old.ensures.0 c.four_earlier-old.ensures.1
