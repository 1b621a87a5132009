-- Document 02, W-201: a build beside document 01's, for every sound timeslot and every length of block. Assumes nothing.
use mathlib.Core.Path.{◌≡◌}
use mathlib.Core.Bool.{true}
use mathlib.Core.List.{List}
use Prim.Native.Nat.{ℕ, ◌-◌, ◌*◌, ◌<◌, ◌≤◌}
use lib.ListN.{length}
use Rattle.lists.proofs.Every.{All}
use Rattle.sizes.specs.Sizes.{per_timeslot, timeslot_octets, block_octets}
use Rattle.dl_record.specs.declared.Record.{Record}
use Rattle.dl_queue.specs.Queue.{Item, queue_of}
use Rattle.dl_queue.specs.Questions.{sound_places}
use Rattle.dl_merge.specs.Merge.{merge_cells}
use Rattle.dl_send.specs.Send.{cell_sdu}
use Rattle.dl_send.proofs.BlockLaws.{Loaded}
use Rattle.dl_send.proofs.KeptLaws.{StoredItem, all-loaded}
use Rattle.dl_send.proofs.Document01Laws.{sent-same, sent-starts, sent-other}
use Rattle.dl_build.specs.Build.{in_order, build_list, built_from}
use Rattle.dl_build.specs.Document01.{built01, arises_in, AsDocument01}
use Rattle.dl_build.proofs.OrderLaws.{order-all}
use Rattle.dl_build.proofs.BuildLaws.{own-stored}

pub as-document-01 : (octets n : ℕ) (rs : List Record) (s : List ℕ) → 0 < octets → octets ≤ block_octets → n ≤ per_timeslot → timeslot_octets ≤ length s
    → sound_places per_timeslot n rs s ≡ true → AsDocument01 octets n rs s
unfolding built_from build_list built01 arises_in
as-document-01 octets n rs s some most few long sound =
    let merged : List (Item (List ℕ)) = merge_cells (queue_of n rs s) in
    let loaded : All (Loaded cell_sdu) (in_order merged) = all-loaded (in_order merged) (order-all StoredItem merged (own-stored n rs s few long sound)) in
    record {
      same = sent-same cell_sdu (8 * octets - 4) (in_order merged);
      starting = sent-starts cell_sdu (8 * octets - 4) (in_order merged) loaded;
      other = sent-other cell_sdu octets some most (in_order merged) loaded;
    }
