-- The time, the entries, the counters and the counts. Assumes nothing.
use Rattle.std.specs.List.{list_all}
use Rattle.std.proofs.Common.{◌≡◌, ℕ, ◌&&◌, List, length, drop, ap, ◌∙◌, rules, arith}
use Rattle.tdma_time.specs.Time.{valid}
use Rattle.uplink.specs.UplinkEntry.{sound_counter, sound_counters}
use Rattle.sched_core.specs.Questions.{sound_count}
use Rattle.sched_words.specs.Words.{time_words, time_from, four_from}
use Rattle.sched_words.specs.Front.{begins}
use Rattle.sched_words.proofs.FrontLaws.{first-lent, part-lent, last-lent, time-front, time-begins, four-front, four-begins}
use Rattle.sched_words.proofs.SoundStation.{station-judged}
use Rattle.sched_words.proofs.station.station_is_sound.Goals as goal

pub returns : goal.returns
returns c =
    let ws = c.args.words.now in
    let size : length ws ≡ 228 = search rules in
    let time = c.time_is_sound.ensures
    ∙ ap (λ (l : List ℕ). begins (time_words (time_from l)) l && valid (time_from l)) (first-lent _ _ _ _ c.unwrap.ensures c.first_chunk.ensures.cases)
    ∙ (λ i. time-begins ws i && valid (time-front ws i)) in
    let counters = c.four_are_sound.ensures sound_counter (λ w b e. e)
    ∙ ap (λ (l : List ℕ). begins (four_from l) l && sound_counters (four_from l)) (part-lent 4 8 ws 220 (omega (arith, size)) _ _ c.unwrap-2.ensures c.first_chunk-2.ensures.cases)
    ∙ (λ i. four-begins (drop 220 ws) i && sound_counters (four-front (drop 220 ws) i)) in
    let counts = c.four_are_sound-2.ensures sound_count (λ w b e. e)
    ∙ ap (λ (l : List ℕ). begins (four_from l) l && list_all sound_count (four_from l)) (last-lent ws 224 size _ _ c.unwrap-3.ensures c.last_chunk.ensures.cases) in
    (λ i. time i && c.entries_are_sound.ensures i && counters i && counts i) ∙ station-judged ws size
