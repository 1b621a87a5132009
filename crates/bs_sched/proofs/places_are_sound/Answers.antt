-- Each place is judged with its record and its cell. Assumes nothing.
use Rattle.std.proofs.Common.{rules, tests, ap, ◌∙◌, ◌≡◌, ℕ, ◌-◌, ◌/◌, arith, length}
use Rattle.std.proofs.lemmas.Iterator.{YieldsList-from_slice, YieldsList-from_zip}
use Rattle.std.proofs.lemmas.Iterator.Consumers.{YieldsList-at, YieldsList-from_enumerate}
use Rattle.std.proofs.lemmas.Iterator.Search.{all_from_yields_List}
use Rattle.std.specs.Simd.{first_chunks}
use Rattle.sizes.specs.Sizes.{per_timeslot, cell_octets}
use Rattle.dl_queue.specs.Questions.{sound_places}
use Rattle.bs_sched.proofs.CellLaws.{place_passes, places-pass-all}
use Rattle.bs_sched.proofs.places_are_sound.Goals as goal

pub returns : goal.returns
returns c =
    let a = c.args in
    let many : length a.cells.now / cell_octets ≡ per_timeslot = omega arith in
    let zero : a.n - 0 ≡ a.n = omega arith in
    all_from_yields_List (place_passes a.n) c.all.new.self _ _ c.all.ensures.ran
    (YieldsList-from_enumerate
    (YieldsList-at c.enumerate.ensures.source
    (YieldsList-from_zip
    (YieldsList-from_slice a.records.now cc)
    (YieldsList-from_slice (first_chunks cell_octets per_timeslot a.cells.now)
    (c.zip.ensures.second.0 ∙ c.as_chunks.ensures.front ∙ ap (λ (k : ℕ). first_chunks cell_octets k a.cells.now) many))))
    c.enumerate.ensures.count)
    (λ x b q k. search (rules, tests))
    ∙ places-pass-all a.n per_timeslot 0 a.records.now a.cells.now (omega arith)
    ∙ ap (λ (m : ℕ). sound_places per_timeslot m a.records.now a.cells.now) zero
