-- Each place so far is sound, and so is each timeslot; one place that is not decides. Assumes nothing.
use Rattle.std.proofs.Common.{◌≡◌, ℕ, ◌+◌, ◌-◌, ◌*◌, ◌<◌, ◌≤◌, true, ltb}
use Rattle.sizes.specs.Sizes.{per_timeslot}
use Rattle.sched_words.proofs.WordsQueue.{sound_at, Timeslot}
use Rattle.sched_words.proofs.queue.queue_is_sound.Given as goal

abbrev pub invariant-loop-t : goal.invariant-loop-t
invariant-loop-t l = (u : ℕ) → u < l.t → Timeslot l.count-items l.store l.words u

abbrev pub invariant-loop-i : goal.invariant-loop-i
invariant-loop-i l = (l.i ≤ l.n) × (l.n ≤ per_timeslot)
    × ((j : ℕ) → j < l.i → sound_at (ltb j l.n) l.words l.store (per_timeslot * l.t + j) ≡ true)

abbrev pub decreases-loop-i : goal.decreases-loop-i
decreases-loop-i l = l.n - l.i

abbrev pub invariant-loop-i-2 : goal.invariant-loop-i-2
invariant-loop-i-2 l = (l.n ≤ l.i) × (l.i ≤ per_timeslot)
    × ((j : ℕ) → j < l.i → sound_at (ltb j l.n) l.words l.store (per_timeslot * l.t + j) ≡ true)

abbrev pub decreases-loop-i-2 : goal.decreases-loop-i-2
decreases-loop-i-2 l = per_timeslot - l.i
