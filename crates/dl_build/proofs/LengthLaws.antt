-- Whether the rule of W-201 arises in a build, found by places: it is a matter of the records alone. Assumes nothing.
use mathlib.Core.Path.{◌≡◌, refl, sym, ap, ◌∙◌}
use mathlib.Core.List.{List, [], ◌∷◌, map}
use Prim.Native.Nat.{ℕ, zero, suc, ◌≤◌}
use native.Mathlib.Omega.{arith}
use lib.ListN.{get_or, take, drop}
use lib.Seq.{get_or-take}
use Rattle.sizes.specs.Sizes.{per_timeslot, no_place, cell_octets}
use Rattle.dl_record.specs.declared.Record.{Record}
use Rattle.dl_record.specs.Record.{empty_record}
use Rattle.dl_queue.specs.Queue.{Item, item, zero_cell, queue_of}
use Rattle.dl_queue.proofs.PushLaws.{queue-agree}
use Rattle.dl_merge.specs.Merge.{merge, merge_cells, always, keep}
use Rattle.dl_merge.specs.Places.{counted, merge_places}
use Rattle.dl_merge.proofs.MergeLaws.{reload, merge-map, kept-loads}
use Rattle.dl_send.specs.Send.{cell_sdu}
use Rattle.dl_send.specs.Document01.{arises}
use Rattle.dl_send.proofs.LengthLaws.{arises-map}
use Rattle.dl_build.specs.Build.{in_order}
use Rattle.dl_build.specs.Document01.{arises_in}
use Rattle.dl_build.proofs.OrderLaws.{order-map}

-- records with no load: 0 for each
abbrev unloaded : {C : Type 0} → Record → C → ℕ
unloaded r c = 0

queue-unloaded : (i n : ℕ) (rs : List Record) (s : List ℕ) → map (reload unloaded) (queue_of n rs s) ≡ map (reload unloaded) (counted i n rs)
unfolding queue_of counted
queue-unloaded i zero rs s = refl
queue-unloaded i (suc n) rs s = ap (◌∷◌ (item (get_or rs 0 empty_record) 0)) (queue-unloaded (suc i) n (drop 1 rs) (drop cell_octets s))

merge-unloaded : {C : Type 0} (z : C) (xs : List (Item C)) → map (reload unloaded) (merge (always z) keep xs) ≡ merge (always 0) keep (map (reload unloaded) xs)
merge-unloaded z xs = merge-map unloaded (always z) keep (always 0) keep (kept-loads unloaded z 0 (λ g. refl) (λ g r c. refl)) xs

module _ (w n : ℕ) (rs : List Record) (s : List ℕ) where
  abbrev cells : List (Item (List ℕ))
  cells = merge_cells (queue_of n rs s)

  abbrev places : List (Item ℕ)
  places = merge_places (counted 0 n rs)

  same-records : map (reload unloaded) (in_order cells) ≡ map (reload unloaded) (in_order places)
  same-records =
      order-map unloaded cells
      ∙ ap in_order
      (merge-unloaded zero_cell (queue_of n rs s) ∙ ap (merge (always 0) keep) (queue-unloaded 0 n rs s) ∙ sym (merge-unloaded no_place (counted 0 n rs)))
      ∙ sym (order-map unloaded places)

  -- by places, whatever SDUs they stand for
  pub arises-places : (sdu : ℕ → ℕ → List ℕ) → arises sdu w (in_order places) ≡ arises_in w n rs s
  unfolding arises_in
  arises-places sdu =
      sym (arises-map unloaded sdu (λ u k. []) w (in_order places)) ∙ ap (arises (λ u k. []) w) (sym same-records)
      ∙ arises-map unloaded cell_sdu (λ u k. []) w (in_order cells)

-- in a build of a timeslot's own records as in that of the queue
pub arises-own : (w n : ℕ) (rs : List Record) (s : List ℕ) → n ≤ per_timeslot → arises_in w n (take per_timeslot rs) s ≡ arises_in w n rs s
unfolding arises_in
arises-own w n rs s h =
    ap (λ (q : List (Item (List ℕ))). arises cell_sdu w (in_order (merge_cells q)))
    (queue-agree n _ _ _ _ (λ i l. get_or-take per_timeslot rs i empty_record (omega arith)) (λ i l. refl))
