-- The last four words. Assumes nothing.
use Rattle.std.proofs.Common.{◌≡◌, length, ◌∙◌, arith, rules}
use Rattle.sched_words.proofs.WordLaws.{copied}
use Rattle.sched_words.proofs.StationWords.{queued-words}
use Rattle.sched_words.proofs.station.put_queued.Goals as goal

pub returns : goal.returns
returns c =
    let ws = c.args.words.now in
    let size : length ws ≡ 228 = search rules in
    copied ws c.copy_from_slice.new.self c.args.queued 224 4 (c.copy_from_slice.ensures.after ∙ c.four_words.ensures.0) c.four_words.ensures.1 (omega (arith, size))
    ∙ queued-words ws c.requires c.args.queued c.four_words.ensures.1
