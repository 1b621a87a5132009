-- Each place so far is sound, and so is each timeslot; one place that is not decides. Assumes nothing.
use Rattle.std.proofs.Common.{◌≡◌, ℕ, ◌+◌, ◌*◌, true, false, ltb, get_or, sym, ◌∙◌, arith, rules, below_more, le-ltb, lt-ltb}
use Rattle.sizes.specs.Sizes.{per_timeslot}
use Rattle.sched_words.proofs.WordsQueue.{sound_at, slots-sound, place-told, too_many, place-fails}
use Rattle.sched_words.proofs.queue.queue_is_sound.Goals as goal

pub returns-then-n-gt-PER_TIMESLOT : goal.returns-then-n-gt-PER_TIMESLOT
returns-then-n-gt-PER_TIMESLOT c =
    let a = c.args in
    too_many a.counts a.store.now a.words.now (search rules) (search rules) c.loop-t.t (omega arith) (omega (arith, c.if-n-gt-PER_TIMESLOT.true))

pub returns-then-not-filled_is_sound : goal.returns-then-not-filled_is_sound
returns-then-not-filled_is_sound c =
    let a = c.args in
    let t : ℕ = c.loop-t.t in
    let i : ℕ = c.loop-i.i in
    let n : ℕ = get_or a.counts t 0 in
    let told = place-told a.words.now a.store.now (search rules) c.requires true (per_timeslot * t + i) (omega arith) _ _ c.as_chunks.ensures.front
    c.as_chunks-2.ensures.front _ c.filled_is_sound.ensures (ltb i n) (lt-ltb i n (omega arith)) in
    place-fails a.counts a.store.now a.words.now (search rules) (search rules) t i (omega arith) (omega arith) (sym told ∙ c.if-not-filled_is_sound.true)

pub loop-i-preserved : goal.loop-i-preserved
loop-i-preserved c =
    let a = c.args in
    let t : ℕ = c.loop-t.t in
    let i : ℕ = c.loop-i.i in
    let n : ℕ = get_or a.counts t 0 in
    let told = place-told a.words.now a.store.now (search rules) c.requires true (per_timeslot * t + i) (omega arith) _ _ c.as_chunks.ensures.front
    c.as_chunks-2.ensures.front _ c.filled_is_sound.ensures (ltb i n) (lt-ltb i n (omega arith)) in (
      omega arith,
      c.loop-i.invariant.1,
      below_more (λ (j : ℕ). sound_at (ltb j n) a.words.now a.store.now (per_timeslot * t + j) ≡ true) i
          c.loop-i.invariant.2 (sym told ∙ c.if-not-filled_is_sound.false),
    )

pub returns-then-not-unfilled_is_sound : goal.returns-then-not-unfilled_is_sound
returns-then-not-unfilled_is_sound c =
    let a = c.args in
    let t : ℕ = c.loop-t.t in
    let i : ℕ = c.loop-i-2.i in
    let n : ℕ = get_or a.counts t 0 in
    let told = place-told a.words.now a.store.now (search rules) c.requires false (per_timeslot * t + i) (omega arith) _ _ c.as_chunks.ensures.front
    c.as_chunks-2.ensures.front _ c.unfilled_is_sound.ensures (ltb i n) (le-ltb i n c.loop-i-2.invariant.0) in
    place-fails a.counts a.store.now a.words.now (search rules) (search rules) t i (omega arith) (omega arith) (sym told ∙ c.if-not-unfilled_is_sound.true)

pub loop-i-2-preserved : goal.loop-i-2-preserved
loop-i-2-preserved c =
    let a = c.args in
    let t : ℕ = c.loop-t.t in
    let i : ℕ = c.loop-i-2.i in
    let n : ℕ = get_or a.counts t 0 in
    let told = place-told a.words.now a.store.now (search rules) c.requires false (per_timeslot * t + i) (omega arith) _ _ c.as_chunks.ensures.front
    c.as_chunks-2.ensures.front _ c.unfilled_is_sound.ensures (ltb i n) (le-ltb i n c.loop-i-2.invariant.0) in (
      omega (arith, c.loop-i-2.invariant.0),
      omega arith,
      below_more (λ (j : ℕ). sound_at (ltb j n) a.words.now a.store.now (per_timeslot * t + j) ≡ true) i
          c.loop-i-2.invariant.2 (sym told ∙ c.if-not-unfilled_is_sound.false),
    )

pub returns : goal.returns
returns c =
    let a = c.args in
    sym (slots-sound a.counts a.store.now a.words.now (search rules) (search rules) (λ t h. c.loop-t.invariant t (omega arith)))
