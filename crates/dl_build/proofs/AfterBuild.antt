-- What a build of a sound memory leaves: the timeslot's list is what stays, no other list changes, the memory stays sound; and its block reads as it was
-- written. Assumes nothing.
use mathlib.Core.Path.{◌≡◌, sym, ap, ◌∙◌}
use mathlib.Core.Bool.{true}
use mathlib.Core.List.{List, map}
use Prim.Native.Nat.{ℕ, ◌*◌, ◌<◌, ◌≤◌}
use native.Mathlib.Omega.{arith}
use lib.ListN.{length, get_or, set, drop}
use Rattle.lists.proofs.Every.{All, all-weaken}
use Rattle.sizes.specs.Sizes.{per_timeslot, cell_octets, timeslot_octets, block_width, block_octets}
use Rattle.mac_reader.specs.PduList.{block_bits, placed}
use Rattle.mac_reader.specs.Reader.{headers, reply_of, read_block}
use Rattle.dl_record.specs.declared.Record.{Record}
use Rattle.dl_queue.specs.Queue.{Item, zero_cell, queue_of, queues_of, cells_of, with_queue, with_cells, Cells}
use Rattle.dl_queue.specs.Questions.{sound_queue, sound_items}
use Rattle.dl_queue.proofs.QueueLaws.{HoldsQueues}
use Rattle.dl_queue.proofs.SetLaws.{queues-set}
use Rattle.dl_queue.proofs.SoundLaws.{queue-at, set-sound}
use Rattle.dl_sdu_store.proofs.OctetLaws.{Octets, octets-drop, octets-paste}
use Rattle.dl_merge.specs.Merge.{merge_cells, always, keep}
use Rattle.dl_merge.proofs.MergeLaws.{merge-all, reload}
use Rattle.dl_merge.proofs.SoundMerge.{SoundItem, each-items, OneCell, each-cells, OctetItem, queue-octets, zero-octets, octets-cells}
use Rattle.dl_send.specs.Send.{send_all, cell_sdu, block_of}
use Rattle.dl_send.proofs.BlockLaws.{built-read}
use Rattle.dl_send.proofs.KeptLaws.{StoredItem, Staying, all-loaded, left-stays, left-few, left-all}
use Rattle.dl_send.proofs.MapLaws.{Steady, SameSdu, reload_sent, send_all-map}
use Rattle.dl_build.specs.Build.{built_from, in_order, build_list, built_of}
use Rattle.dl_build.proofs.OrderLaws.{order-length, order-all, order-map}
use Rattle.dl_build.proofs.BuildLaws.{merged_queue, merged-stored, merged-most}

-- to build and then map the loads is to map them and then build: the model's SDUs by value, with the names of their grants, and the code's cells give the same
-- PDUs and tags
pub build-map : {C D : Type 0} (f : Record → C → D) (steady : Steady f) (sc : C → ℕ → List ℕ) (sd : D → ℕ → List ℕ) (w : ℕ) (xs : List (Item C))
    → All (SameSdu f sc sd) xs
    → build_list sd w (map (reload f) xs) ≡ reload_sent f steady (build_list sc w xs)
unfolding build_list
build-map f steady sc sd w xs h =
    ap (send_all sd true w) (sym (order-map f xs)) ∙ send_all-map f steady sc sd true w (in_order xs) (order-all (SameSdu f sc sd) xs h)

module _ (ns : List ℕ) (rs : List Record) (s : List ℕ) (t : ℕ) (inside : t < length ns)
    (places : length rs ≡ per_timeslot * length ns) (size : length s ≡ timeslot_octets * length ns) (sound : sound_queue ns rs s ≡ true) where
  taken : All StoredItem (in_order (merged_queue ns rs s t))
  taken = order-all StoredItem (merged_queue ns rs s t) (merged-stored ns rs s t inside places size sound)

  -- "What did not finish stays .. as waiting or started."
  pub build-stays : All Staying (built_of ns rs s t).left
  unfolding built_of built_from build_list merged_queue
  build-stays = left-stays true block_width (in_order (merged_queue ns rs s t)) (omega arith) taken

  -- a build raises no count
  pub build-few : length (built_of ns rs s t).left ≤ length (merged_queue ns rs s t)
  unfolding built_of built_from build_list merged_queue
  build-few = omega (arith, left-few cell_sdu true block_width (in_order (merged_queue ns rs s t)), order-length (merged_queue ns rs s t))

  few : length (built_of ns rs s t).left ≤ per_timeslot
  few = omega (arith, build-few, merged-most ns rs s t inside places size sound)

  cells : Cells (built_of ns rs s t).left
  cells = each-cells (built_of ns rs s t).left (all-weaken Staying OneCell (λ x q. q.stored.cell) (built_of ns rs s t).left build-stays)

  items : sound_items (built_of ns rs s t).left ≡ true
  items = each-items (built_of ns rs s t).left (all-weaken Staying SoundItem (λ x q. q.stored.sound) (built_of ns rs s t).left build-stays)

  octets : Octets s → Octets (cells_of per_timeslot (built_of ns rs s t).left)
  unfolding built_of built_from build_list merged_queue
  octets h =
      let own = queue_of (get_or ns t 0) (drop (per_timeslot * t) rs) (drop (cell_octets * (per_timeslot * t)) s) in
      octets-cells per_timeslot (built_of ns rs s t).left
      (left-all OctetItem (λ k n x q. q) cell_sdu true block_width (in_order (merge_cells own))
      (order-all OctetItem (merge_cells own)
      (merge-all (always zero_cell) keep OctetItem (λ g x k t p q. q) (λ g k p. zero-octets) own
      (queue-octets (get_or ns t 0) (drop (per_timeslot * t) rs) (drop (cell_octets * (per_timeslot * t)) s)
      (octets-drop (cell_octets * (per_timeslot * t)) s h)))))

  -- the four lists after a build; the memory stays sound
  pub build-holds : Octets s
      → HoldsQueues (set (queues_of ns rs s) t (built_of ns rs s t).left) (with_queue ns rs t (built_of ns rs s t).left)
      (with_cells s t (built_of ns rs s t).left)
  build-holds h =
      record {
        lists = queues-set ns rs s t (built_of ns rs s t).left inside (λ u h. (queue-at ns rs s sound u h).0) places size few cells;
        sound = set-sound ns rs s t (built_of ns rs s t).left inside places size few cells items sound;
        octets = octets-paste s (cell_octets * (per_timeslot * t)) (cells_of per_timeslot (built_of ns rs s t).left) timeslot_octets h (octets h);
      }

  -- the block reads as the headers of the PDUs that were written, at their positions
  pub build-read : read_block block_octets (block_of block_octets (block_bits (built_of ns rs s t).pdus))
      ≡ reply_of (headers (placed 0 (built_of ns rs s t).pdus))
  unfolding built_of built_from build_list merged_queue
  build-read =
      built-read cell_sdu block_octets true (in_order (merged_queue ns rs s t)) (omega arith) (omega arith)
      (all-loaded (in_order (merged_queue ns rs s t)) taken)
