-- Three words at a time are an entry's. Assumes nothing.
use Rattle.std.proofs.Common.{◌≡◌, ℕ, ◌/◌, true, Bool, ◌&&◌, List, length, take, drop, ◌∙◌, ap, arith, rules, tests, length-take-le, length-drop}
use Rattle.std.proofs.lemmas.List.{take-take}
use Rattle.std.proofs.lemmas.Iterator.{YieldsList-from_slice}
use Rattle.std.proofs.lemmas.Iterator.Consumers.{fold_from_yields_List}
use Rattle.std.specs.List.{list_all}
use Rattle.std.specs.Simd.{first_chunks}
use Rattle.sched_words.proofs.FrontLaws.{parts-front, runs-read}
use Rattle.sched_words.proofs.SoundStation.{judged, entries-judged, all-folded}
use Rattle.sched_words.proofs.station.entries_are_sound.Goals as goal

pub returns : goal.returns
returns c =
    let d : List ℕ = drop 4 c.args.words.now in
    let runs = c.as_chunks.result.0.now in
    let long : length c.args.words.now ≡ 228 = search rules in
    let size : length (take 216 d) / 3 ≡ 72 = omega (arith, length-take-le 216 d (rw length-drop (omega (arith, long)))) in
    let three = c.as_chunks.ensures.front ∙ ap (λ (n : ℕ). first_chunks 3 n (take 216 d)) size ∙ runs-read 3 72 (take 216 d)
    ∙ parts-front (take 3) 3 (λ l. take-take 3 3 l (omega arith)) 72 d in
    fold_from_yields_List _ (λ (b : Bool) (e : List ℕ). b && judged e) true _ c.fold.ensures.ran (YieldsList-from_slice runs cc) (λ a x b q k. search (rules, tests))
    ∙ all-folded true runs ∙ ap (list_all judged) three ∙ entries-judged 72 d
