-- A build by places is the build by cells: what the calls of the building function say, put together. Assumes nothing.
use mathlib.Core.Path.{◌≡◌, refl, sym, ap, ◌∙◌, subst}
use mathlib.Core.Bool.{Bool, true, false, cond}
use mathlib.Core.Logic.{inr, ⊎_elim}
use mathlib.Core.List.{List, [], ◌∷◌, map}
use Prim.Native.Nat.{ℕ, ◌*◌, ◌<◌, ◌≤◌}
use native.Mathlib.Omega.{arith}
use lib.ListN.{length, take, drop, get_or, length-drop, length-map}
use lib.Seq.{paste, get_or-take}
use Rattle.lists.proofs.Every.{All, all-weaken, all_both}
use Rattle.sizes.specs.Sizes.{per_timeslot, no_place, cell_octets, timeslot_octets, block_width}
use Rattle.mac_reader.specs.PduList.{block_bits}
use Rattle.dl_record.specs.declared.Record.{Record}
use Rattle.dl_record.specs.Record.{empty_record}
use Rattle.dl_record.specs.Kind.{is_grant_or_ack, is_kept}
use Rattle.dl_sdu_store.proofs.OctetLaws.{Octets, octets-drop}
use Rattle.dl_queue.specs.Queue.{Item, item, zero_cell, queue_of, records_of, cells_of, Cells}
use Rattle.dl_queue.specs.Questions.{sound_places, sound_queue}
use Rattle.dl_queue.proofs.QueueLaws.{length-queue, cells-back}
use Rattle.dl_queue.proofs.PushLaws.{queue-agree}
use Rattle.dl_queue.proofs.SoundLaws.{queue-at, items-sound}
use Rattle.dl_merge.specs.declared.Merged.{Merged}
use Rattle.dl_merge.specs.Merge.{takes_number, joined, only, put, puts, merge, merge_cells, always, keep}
use Rattle.dl_merge.specs.Places.{counted, merge_places}
use Rattle.dl_merge.proofs.MergeLaws.{only-all, merge-all, merge-few, reload, records-map}
use Rattle.dl_merge.proofs.SoundMerge.{SoundItem, items-each, OneCell, cells-each, each-cells, queue-cells, merge-sound, merge-cells}
use Rattle.dl_merge.proofs.ListLaws.{length-counted}
use Rattle.bs_frag.specs.NextPdu.{Sendable}
use Rattle.dl_send.specs.declared.Progress.{Progress}
use Rattle.dl_send.specs.Send.{Sent, send_all, cell_sdu, block_of}
use Rattle.dl_send.specs.Arrays.{listed, records_at, places_at, place_sdu, sent_of, tag_row, progress_of, CanSend, BuiltAs}
use Rattle.dl_send.proofs.ArrayLaws.{length-listed}
use Rattle.dl_send.proofs.MapLaws.{SameSdu, reload_sent, send_all-map}
use Rattle.dl_send.proofs.KeptLaws.{StoredItem, stored_loaded, left-few, left-all}
use Rattle.dl_build.specs.Moved.{cells_at, arranged, moved}
use Rattle.dl_build.specs.Build.{in_order, build_list, built_from, built_of, Takes, CanBuild, BuiltIn}
use Rattle.dl_build.proofs.MergeMap.{cell_from, cells-map, merged-cells}
use Rattle.dl_build.proofs.OrderLaws.{order-length, order-all, order-map}
use Rattle.dl_build.proofs.PlaceLaws.{Sourced, counted-sourced, all-reload, all-sendable, place-sdu, no-sdu, cells-behind}

-- ---- merging leaves no grant and no ack

abbrev Kept : {C : Type 0} → Item C → Type 0
Kept x = is_kept x.rec.kind ≡ true

module _ {C : Type 0} (fresh : Item C → C) (join : Item C → C → C) where
  put-kept : (g : Item C) (xs : List (Item C)) → All Kept xs → All Kept (put fresh join g xs)
  unfolding put
  put-kept g [] h = (refl, tt)
  put-kept g (x ∷ xs) h = go (takes_number g.rec.address.number x.rec) (put-kept g xs h.1)
    where
      go : (b : Bool) → All Kept (put fresh join g xs) → All Kept (cond b (item (joined g.rec x.rec) (join g x.load) ∷ xs) (x ∷ put fresh join g xs))
      go true ih = h
      go false ih = (h.0, ih)

  puts-kept : (gs xs : List (Item C)) → All Kept xs → All Kept (puts fresh join gs xs)
  unfolding puts
  puts-kept [] xs h = h
  puts-kept (g ∷ gs) xs h = puts-kept gs (put fresh join g xs) (put-kept g xs h)

  any : (xs : List (Item C)) → All (λ (x : Item C). Unit) xs
  any [] = tt
  any (x ∷ xs) = (tt, any xs)

  pub merge-kept : (xs : List (Item C)) → All Kept (merge fresh join xs)
  unfolding merge
  merge-kept xs =
      puts-kept (only is_grant_or_ack xs) (only is_kept xs) (all-weaken _ Kept (λ x q. q.1) (only is_kept xs)
      (only-all (λ (x : Item C). Unit) is_kept xs (any xs)))

stored-all : (xs : List (Item (List ℕ))) → All Kept xs → All SoundItem xs → All OneCell xs → All StoredItem xs
stored-all [] a b c = tt
stored-all (x ∷ xs) a b c = (record { kind = a.0; sound = b.0; cell = c.0 }, stored-all xs a.1 b.1 c.1)

pub sendables : (xs : List (Item (List ℕ))) → All StoredItem xs → All (λ (x : Item (List ℕ)). Sendable x.rec) xs
sendables [] h = tt
sendables (x ∷ xs) h = ((stored_loaded x h.0).sendable, sendables xs h.1)

-- ---- a timeslot: n records and their cells

module _ (n : ℕ) (rs : List Record) (s : List ℕ) (few : n ≤ per_timeslot) (long : timeslot_octets ≤ length s)
    (sound : sound_places per_timeslot n rs s ≡ true) where
  own-cells : Cells (merge_cells (queue_of n rs s))
  own-cells = merge-cells (queue_of n rs s) (queue-cells n rs s (omega arith))

  -- the merged records can be sent
  pub own-stored : All StoredItem (merge_cells (queue_of n rs s))
  own-stored =
      stored-all (merge_cells (queue_of n rs s)) (merge-kept (always zero_cell) keep (queue_of n rs s))
      (items-each (merge_cells (queue_of n rs s)) (merge-sound (queue_of n rs s) (items-sound per_timeslot n rs s few sound)))
      (cells-each (merge_cells (queue_of n rs s)) own-cells)

  -- no more stay than there were, each in a cell
  pub built-few : (w : ℕ) → length (built_from w n rs s).left ≤ n
  unfolding built_from build_list
  built-few w =
      omega (
        arith,
        left-few cell_sdu true w (in_order (merge_cells (queue_of n rs s))),
        order-length (merge_cells (queue_of n rs s)),
        merge-few (always zero_cell) keep (queue_of n rs s),
        length-queue n rs s,
      )

  built-cells : (w : ℕ) → Cells (built_from w n rs s).left
  unfolding built_from build_list
  built-cells w =
      each-cells (built_from w n rs s).left
      (left-all OneCell (λ k n x q. q) cell_sdu true w (in_order (merge_cells (queue_of n rs s)))
      (order-all OneCell (merge_cells (queue_of n rs s)) (cells-each (merge_cells (queue_of n rs s)) own-cells)))

  -- behind the first n places there is nothing before a build and nothing after it
  pub built-behind : (w : ℕ) → Octets s → drop (cell_octets * n) (cells_of per_timeslot (built_from w n rs s).left)
      ≡ drop (cell_octets * n) (take timeslot_octets s)
  built-behind w o =
      cells-behind per_timeslot n (built_from w n rs s).left (built-few w) few (built-cells w)
      ∙ sym
      (ap (drop (cell_octets * n)) (sym (cells-back per_timeslot n rs s few long o sound))
      ∙ cells-behind per_timeslot n (queue_of n rs s) (omega (arith, length-queue n rs s)) few (queue-cells n rs s (omega arith)))

-- ---- the code

module _ (octets w : ℕ) (store : List ℕ) (first n : ℕ) (rs : List Record) (can : CanBuild octets w store first n rs) where
  abbrev s : List ℕ
  s = drop (cell_octets * first) store

  abbrev cells : List ℕ
  cells = cells_at store first

  abbrev merged : List (Item ℕ)
  merged = merge_places (counted 0 n rs)

  abbrev taken : List (Item ℕ)
  taken = in_order merged

  few : n ≤ per_timeslot
  few = can.count

  long : timeslot_octets ≤ length s
  long = rw length-drop (omega (arith, can.cells))

  by-cells : map (reload (cell_from cells)) merged ≡ merge_cells (queue_of n rs s)
  by-cells = merged-cells n rs s few long

  merged-few : length merged ≤ n
  merged-few = omega (arith, merge-few (always no_place) keep (counted 0 n rs), length-counted 0 n rs)

  taken-few : length taken ≤ per_timeslot
  taken-few = omega (arith, order-length merged, merged-few, few)

  sendable : All (λ (x : Item ℕ). Sendable x.rec) merged
  sendable =
      all-reload Sendable (cell_from cells) merged
      (subst (λ (xs : List (Item (List ℕ))). All (λ (x : Item (List ℕ)). Sendable x.rec) xs) (sym by-cells)
      (sendables (merge_cells (queue_of n rs s)) (own-stored n rs s few long can.sound)))

  sourced : All Sourced merged
  sourced = merge-all (always no_place) keep Sourced (λ g x k t p q. q) (λ g k p. inr refl) (counted 0 n rs) (counted-sourced 0 n rs (omega (arith, few)))

  same-sdu : (x : Item ℕ) → Sendable x.rec × Sourced x → SameSdu (cell_from cells) (place_sdu store first) cell_sdu x
  same-sdu x h = ⊎_elim (λ l. place-sdu store first x.load x.rec.bits l h.0.bits) (λ z. no-sdu store _ first x.load x.rec.bits z) h.1

  sent : Sent ℕ
  sent = send_all (place_sdu store first) true w taken

  -- merging, ordering and sending by places is merging, ordering and sending by cells
  sent-same : built_from w n rs s ≡ reload_sent (cell_from cells) (λ k n r c. refl) sent
  unfolding built_from build_list sent
  sent-same =
      ap (send_all cell_sdu true w) (sym (order-map (cell_from cells) merged ∙ ap in_order by-cells))
      ∙ send_all-map (cell_from cells) (λ k n r c. refl) (place_sdu store first) cell_sdu true w taken
      (order-all (SameSdu (cell_from cells) (place_sdu store first) cell_sdu) merged
      (all-weaken _ (SameSdu (cell_from cells) (place_sdu store first) cell_sdu) same-sdu merged
      (all_both (λ (x : Item ℕ). Sendable x.rec) Sourced merged sendable sourced)))

  module _ (m : Merged) (merges : listed m.count m.records m.from ≡ merge_places (counted 0 n rs)) where
    module _ (o : List ℕ) (orders : Takes m.records m.from o (length o) (in_order (listed m.count m.records m.from))) where
      abbrev chosen : List Record
      chosen = records_at o m.records

      abbrev sources : List ℕ
      sources = places_at o m.from

      listed-as : listed (length o) chosen sources ≡ taken
      listed-as = orders.items ∙ ap in_order merges

      pub can-send : CanSend octets w store first chosen sources (length o)
      can-send =
          record {
            count = omega (arith, sym (length-listed (length o) chosen sources) ∙ ap length listed-as, taken-few);
            width = can.width;
            inside = can.inside;
            bounded = can.bounded;
            cells = can.cells;
            stored = can.stored;
            all = rw listed-as (all-sendable taken (order-all (λ (x : Item ℕ). Sendable x.rec) merged sendable));
          }

      sent_is : sent_of store first w chosen sources (length o) ≡ sent
      unfolding sent_of sent
      sent_is = ap (send_all (place_sdu store first) true w) listed-as

      module _ (p : Progress) (b : List ℕ) (builds : BuiltAs octets b p (sent_of store first w chosen sources (length o))) where
        x : Sent (List ℕ)
        x = built_from w n rs s

        is : p ≡ progress_of sent
        is = builds.arrays ∙ ap progress_of sent_is

        same_left : (built_from w n rs s).left ≡ map (reload (cell_from cells)) sent.left
        same_left = ap (λ (y : Sent (List ℕ)). y.left) sent-same

        given : sent.tags ≡ (built_from w n rs s).tags
        given = ap (λ (y : Sent (List ℕ)). y.tags) (sym sent-same)

        kept : arranged cells p.from ≡ cells_of per_timeslot (built_from w n rs s).left
        kept = ap (λ (y : Progress). arranged cells y.from) is ∙ cells-map cells per_timeslot sent.left ∙ ap (cells_of per_timeslot) (sym same_left)

        pub behind-kept : Octets store → drop (cell_octets * n) (arranged cells p.from) ≡ drop (cell_octets * n) cells
        behind-kept h = ap (drop (cell_octets * n)) kept ∙ built-behind n rs s few long can.sound w (octets-drop (cell_octets * first) store h)

        pub build-says : (s' : List ℕ) → s' ≡ moved store first p.from
            → BuiltIn (built_from w n rs (drop (cell_octets * first) store)) octets store first p s' b
        build-says s' moves =
            record {
              records = ap (λ (y : Progress). y.records) is ∙ sym (records-map (cell_from cells) per_timeslot sent.left)
                  ∙ ap (records_of per_timeslot) (sym same_left);
              count = ap (λ (y : Progress). y.left) is ∙ sym (length-map sent.left (reload (cell_from cells))) ∙ ap length (sym same_left);
              tags = ap (λ (y : Progress). y.tags.tags) is ∙ ap (tag_row per_timeslot) given;
              tag-count = ap (λ (y : Progress). y.tags.tag_count) is ∙ ap length given;
              few = builds.few;
              few-tags = builds.few-tags;
              cells = moves ∙ ap (λ (l : List ℕ). paste store (cell_octets * first) l timeslot_octets) kept;
              block =
                  builds.block ∙ ap (λ (y : Sent ℕ). block_of octets (block_bits y.pdus)) sent_is
                  ∙ ap (λ (y : Sent (List ℕ)). block_of octets (block_bits y.pdus)) (sym sent-same);
            }

-- ---- the queue

-- what merging makes of the queue of timeslot t, counted from 0
unfoldable pub merged_queue : List ℕ → List Record → List ℕ → ℕ → List (Item (List ℕ))
merged_queue ns rs s t = merge_cells (queue_of (get_or ns t 0) (drop (per_timeslot * t) rs) (drop (cell_octets * (per_timeslot * t)) s))

-- a build of a timeslot's own records is that of the queue
pub built-own : (ns : List ℕ) (rs : List Record) (s : List ℕ) (t : ℕ) → get_or ns t 0 ≤ per_timeslot
    → built_from block_width (get_or ns t 0) (take per_timeslot (drop (per_timeslot * t) rs)) (drop (cell_octets * (per_timeslot * t)) s) ≡ built_of ns rs s t
unfolding built_of built_from
built-own ns rs s t h =
    ap (λ (q : List (Item (List ℕ))). build_list cell_sdu block_width (merge_cells q))
    (queue-agree (get_or ns t 0) _ _ _ _ (λ i l. get_or-take per_timeslot (drop (per_timeslot * t) rs) i empty_record (omega arith)) (λ i l. refl))

module _ (ns : List ℕ) (rs : List Record) (s : List ℕ) (t : ℕ) (inside : t < length ns)
    (places : length rs ≡ per_timeslot * length ns) (size : length s ≡ timeslot_octets * length ns) (sound : sound_queue ns rs s ≡ true) where
  count : get_or ns t 0 ≤ per_timeslot
  count = (queue-at ns rs s sound t inside).0

  -- the merged records can be sent
  pub merged-stored : All StoredItem (merged_queue ns rs s t)
  unfolding merged_queue
  merged-stored =
      own-stored (get_or ns t 0) (drop (per_timeslot * t) rs) (drop (cell_octets * (per_timeslot * t)) s) count (rw length-drop (omega arith))
      (queue-at ns rs s sound t inside).1

  pub merged-most : length (merged_queue ns rs s t) ≤ per_timeslot
  unfolding merged_queue
  merged-most =
      let own : List (Item (List ℕ)) = queue_of (get_or ns t 0) (drop (per_timeslot * t) rs) (drop (cell_octets * (per_timeslot * t)) s) in
      omega (
        arith,
        merge-few (always zero_cell) keep own,
        length-queue (get_or ns t 0) (drop (per_timeslot * t) rs)
            (drop (cell_octets * (per_timeslot * t)) s),
        count,
      )
