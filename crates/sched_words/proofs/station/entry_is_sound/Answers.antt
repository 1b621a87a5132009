-- The tests are those of the entry, and the words are its words. Assumes nothing.
use Rattle.std.proofs.Common.{◌&&◌, Bool, ap, ◌∙◌, rules}
use Rattle.uplink.specs.UplinkEntry.{sound_entry}
use Rattle.sched_words.specs.Words.{word_at, entry_from}
use Rattle.sched_words.proofs.FitStation.{entry-fits}
use Rattle.sched_words.proofs.SoundStation.{entry-sound}
use Rattle.sched_words.proofs.station.entry_is_sound.Goals as goal

pub returns : goal.returns
returns c =
    let ws = c.args.words.now in
    entry-sound (word_at ws 0) (word_at ws 1) (word_at ws 2) _ c.marker_is_sound.ensures
    ∙ ap (λ (b : Bool). b && sound_entry (entry_from ws)) (entry-fits ws (search rules) c.fits-words)
