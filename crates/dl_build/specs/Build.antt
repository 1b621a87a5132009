-- Document 01, section "Block": "A build works on the current timeslot, merges, then takes waiting and started records in queue order, then records."
-- Assumes nothing.
use Rattle.std.specs.Prelude.{◌≡◌, Bool, true, List, ◌++◌, ℕ, ◌+◌, ◌*◌, ◌^◌, ◌<◌, ◌≤◌, length, get_or, drop}
use Rattle.std.proofs.Math.Seq.{paste}
use Rattle.sizes.specs.Sizes.{per_timeslot, cell_octets, timeslot_octets, block_width}
use Rattle.mac_reader.specs.PduList.{block_bits}
use Rattle.dl_record.specs.declared.Kind.{Kind}
use Rattle.dl_record.specs.declared.Record.{Record}
use Rattle.dl_record.specs.Kind.{is_record, is_underway}
use Rattle.dl_queue.specs.Queue.{Item, queue_of, records_of, cells_of}
use Rattle.dl_queue.specs.Questions.{sound_places}
use Rattle.dl_merge.specs.Merge.{only, merge_cells}
use Rattle.dl_send.specs.declared.Progress.{Progress}
use Rattle.dl_send.specs.Send.{Sent, send_all, cell_sdu, block_of}
use Rattle.dl_send.specs.Arrays.{listed, records_at, places_at, tag_row}

-- "waiting and started records in queue order, then records"
unfoldable pub in_order : {C : Type 0} → List (Item C) → List (Item C)
in_order xs = only is_underway xs ++ only is_record xs

-- a merged list built into an empty block of w bits, where the first record may start fragments; sdu c n is the SDU, of n bits, that a load c stands for
unfoldable pub build_list : {C : Type 0} → (C → ℕ → List ℕ) → ℕ → List (Item C) → Sent C
build_list sdu w xs = send_all sdu true w (in_order xs)

-- what a build makes of a timeslot's first n records and their cells
unfoldable pub built_from : ℕ → ℕ → List Record → List ℕ → Sent (List ℕ)
built_from w n rs s = build_list cell_sdu w (merge_cells (queue_of n rs s))

-- and of timeslot t of the queue, counted from 0: "268 bits in 34 octets"
unfoldable pub built_of : List ℕ → List Record → List ℕ → ℕ → Sent (List ℕ)
built_of ns rs s t = built_from block_width (get_or ns t 0) (drop (per_timeslot * t) rs) (drop (cell_octets * (per_timeslot * t)) s)

-- ---- the contract

-- a test that code decides
abbrev pub Decides : (Kind → Bool → Type 0) → (Kind → Bool) → Type 0
Decides post p = (k : Kind) (b : Bool) → post k b → b ≡ p k

-- a list of records as the code takes them: k of them, each by its place in the arrays of the records and of the places that they come from
pub record Takes (records : List Record) (places at : List ℕ) (k : ℕ) (xs : List (Item ℕ)) : Type 0 where
  pub items : listed k (records_at at records) (places_at at places) ≡ xs
  pub within : (i : ℕ) → i < k → get_or at i 0 < per_timeslot

-- a block of w bits in so many octets, and a timeslot, from place `first` on, whose records and cells are sound, n of them filled
pub record CanBuild (octets w : ℕ) (store : List ℕ) (first n : ℕ) (records : List Record) : Type 0 where
  pub count : n ≤ per_timeslot
  pub width : w ≤ block_width
  pub inside : w ≤ 8 * octets
  pub bounded : 8 * octets < 2 ^ 64
  pub cells : cell_octets * first + timeslot_octets ≤ length store
  pub stored : 8 * length store < 2 ^ 64
  pub sound : sound_places per_timeslot n records (drop (cell_octets * first) store) ≡ true

-- the plan: what stays as the timeslot's records, how many they are, and the tags; and the caller's buffers
pub record BuiltIn (x : Sent (List ℕ)) (octets : ℕ) (store : List ℕ) (first : ℕ) (p : Progress) (store' block' : List ℕ) : Type 0 where
  pub records : p.records ≡ records_of per_timeslot x.left
  pub count : p.left ≡ length x.left
  pub tags : p.tags.tags ≡ tag_row per_timeslot x.tags
  pub tag-count : p.tags.tag_count ≡ length x.tags
  pub few : p.left ≤ per_timeslot
  pub few-tags : p.tags.tag_count ≤ per_timeslot
  pub cells : store' ≡ paste store (cell_octets * first) (cells_of per_timeslot x.left) timeslot_octets
  pub block : block' ≡ block_of octets (block_bits x.pdus)
