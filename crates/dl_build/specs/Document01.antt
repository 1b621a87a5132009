-- A timeslot's build beside document 01's: document 02, W-201, "Blocks are compared with the Rust on queues where this never arises". No promise of an
-- entry rests on it. Assumes nothing.
use Rattle.std.specs.Prelude.{◌≡◌, Bool, true, false, List, ℕ, ◌-◌, ◌*◌}
use Rattle.mac_reader.specs.PduList.{block_bits}
use Rattle.dl_record.specs.declared.Record.{Record}
use Rattle.dl_queue.specs.Queue.{queue_of}
use Rattle.dl_merge.specs.Merge.{merge_cells}
use Rattle.dl_send.specs.Send.{Sent, cell_sdu, block_of}
use Rattle.dl_send.specs.Document01.{send_all01, starts, arises}
use Rattle.dl_build.specs.Build.{in_order, built_from}

-- what document 01's build makes of a timeslot's first n records and their cells, in a block of w bits
unfoldable pub built01 : ℕ → ℕ → List Record → List ℕ → Sent (List ℕ)
built01 w n rs s = send_all01 cell_sdu w (in_order (merge_cells (queue_of n rs s)))

-- whether the rule of W-201 arises in this build
unfoldable pub arises_in : ℕ → ℕ → List Record → List ℕ → Bool
arises_in w n rs s = arises cell_sdu w (in_order (merge_cells (queue_of n rs s)))

-- "Blocks are compared with the Rust on queues where this never arises; for the others the new rule is the definition": a build into so many octets
pub record AsDocument01 (octets n : ℕ) (rs : List Record) (s : List ℕ) : Type 0 where
  -- where it does not arise, PDUs, room, what stays and tags are document 01's
  pub same : arises_in (8 * octets - 4) n rs s ≡ false → built_from (8 * octets - 4) n rs s ≡ built01 (8 * octets - 4) n rs s
  -- where it arises, document 01's block has a first fragment and this one has none
  pub starting : arises_in (8 * octets - 4) n rs s ≡ true
      → (starts (built01 (8 * octets - 4) n rs s).pdus ≡ true) × (starts (built_from (8 * octets - 4) n rs s).pdus ≡ false)
  -- so the octets are others
  pub other : arises_in (8 * octets - 4) n rs s ≡ true
      → block_of octets (block_bits (built_from (8 * octets - 4) n rs s).pdus) ≡ block_of octets (block_bits (built01 (8 * octets - 4) n rs s).pdus) → ⊥
