-- Neither grant nor ack, or merged.
use mathlib.Core.Path.{◌≡◌, sym, ap, ◌∙◌}
use mathlib.Core.List.{List}
use Prim.Native.Nat.{ℕ, ◌≤◌}
use native.Mathlib.Nat.{zero-add}
use native.Mathlib.Omega.{arith}
use borrow.Author.Rules.{rules}
use lib.ListN.{length, take}
use lib.Seq.{length-take-le}
use Rattle.std.proofs.lemmas.List.{get_or-take}
use Rattle.sizes.specs.Sizes.{per_timeslot, no_place}
use Rattle.dl_record.specs.declared.Record.{Record}
use Rattle.dl_record.specs.Record.{empty_record}
use Rattle.dl_record.specs.Kind.{is_grant_or_ack}
use Rattle.dl_queue.specs.Queue.{Item}
use Rattle.dl_merge.specs.Merge.{always, keep}
use Rattle.dl_merge.specs.Places.{counted, merge_places, merged_of}
use Rattle.dl_merge.specs.declared.Merged.{Merged}
use Rattle.dl_merge.proofs.MergeLaws.{merge-few}
use Rattle.dl_merge.proofs.ListLaws.{length-counted}
use Rattle.dl_send.specs.Arrays.{listed}
use Rattle.dl_build.proofs.PlaceLaws.{listed_back, listed-counted, counted-take, merge_none}
use Rattle.dl_build.proofs.merged_records.Goals as goal

pub returns-then-none_to_merge : goal.returns-then-none_to_merge
returns-then-none_to_merge c =
    let a = c.args in
    let full : length a.records ≡ per_timeslot = search rules in
    let size : length (take a.n a.records) ≡ a.n = length-take-le a.n a.records (omega (arith, full, c.requires)) in (
      listed-counted 0 a.n a.records c.own_places.result (λ j h. c.own_places.ensures j (omega (arith, c.requires)) ∙ sym (zero-add j))
          ∙ sym (merge_none a.n a.records
          (λ j h. ap (λ (r : Record). is_grant_or_ack r.kind) (sym (get_or-take a.n a.records j empty_record h))
          ∙ c.none_to_merge.ensures c.if-none_to_merge.true j (omega (arith, size, h)))),
      c.requires,
    )

pub returns : goal.returns
returns c =
    let a = c.args in
    let full : length a.records ≡ per_timeslot = search rules in
    let size : length (take a.n a.records) ≡ a.n = length-take-le a.n a.records (omega (arith, full, c.requires)) in
    let merged = merge_places (counted 0 a.n a.records) in
    let is : c.dl_integrate_sched_elems_for_timeslot.result ≡ merged_of merged =
    c.dl_integrate_sched_elems_for_timeslot.ensures
    ∙ ap (λ (k : ℕ). merged_of (merge_places (counted 0 k (take a.n a.records)))) size
    ∙ ap (λ (xs : List (Item ℕ)). merged_of (merge_places xs)) (counted-take 0 a.n a.records) in
    let few : length merged ≤ per_timeslot =
    omega (arith, merge-few (always no_place) keep (counted 0 a.n a.records), length-counted 0 a.n a.records, c.requires) in (
      ap (λ (m : Merged). listed m.count m.records m.from) is ∙ listed_back per_timeslot merged few,
      omega (arith, ap (λ (m : Merged). m.count) is, few),
    )
