-- Each timeslot is judged with its count, its records and its cells. Assumes nothing.
use Rattle.std.proofs.Common.{rules, tests, ap, ◌∙◌, ◌≡◌, ℕ, ◌/◌, arith, length}
use Rattle.std.proofs.lemmas.Iterator.{YieldsList-from_slice, YieldsList-from_zip}
use Rattle.std.proofs.lemmas.Iterator.Consumers.{YieldsList-at}
use Rattle.std.proofs.lemmas.Iterator.Search.{all_from_yields_List}
use Rattle.std.specs.Simd.{first_chunks}
use Rattle.sizes.specs.Sizes.{timeslots, per_timeslot, timeslot_octets}
use Rattle.bs_sched.proofs.CellLaws.{timeslot_passes, queue-pass-all}
use Rattle.bs_sched.proofs.queue_is_sound.Goals as goal

pub returns : goal.returns
returns c =
    let a = c.args in
    let records : length a.queue.now / per_timeslot ≡ timeslots = omega arith in
    let cells : length a.store.now / timeslot_octets ≡ timeslots = omega arith in
    all_from_yields_List timeslot_passes c.all.new.self _ _ c.all.ensures.ran
    (YieldsList-from_zip
    (YieldsList-at c.zip-2.ensures.first
    (YieldsList-from_zip (YieldsList-from_slice a.queued cc)
    (YieldsList-from_slice (first_chunks per_timeslot timeslots a.queue.now)
    (c.zip.ensures.second.0 ∙ c.as_chunks.ensures.front ∙ ap (λ (k : ℕ). first_chunks per_timeslot k a.queue.now) records))))
    (YieldsList-from_slice (first_chunks timeslot_octets timeslots a.store.now)
    (c.zip-2.ensures.second.0 ∙ c.as_chunks-2.ensures.front ∙ ap (λ (k : ℕ). first_chunks timeslot_octets k a.store.now) cells)))
    (λ x b q k. search (rules, tests))
    ∙ queue-pass-all timeslots a.queued a.queue.now a.store.now (omega arith)
