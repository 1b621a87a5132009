-- What the sending loop works on: arrays of records with their places, and what they hold in the end. Assumes nothing.
use Rattle.std.specs.Prelude.{◌≡◌, true, List, [], ◌∷◌, map, ℕ, zero, suc, ◌+◌, ◌*◌, ◌%◌, ◌^◌, ◌<◌, ◌≤◌, length, get_or, drop}
use Rattle.sizes.specs.Sizes.{per_timeslot, cell_octets, timeslot_octets, block_width}
use Rattle.bitbuffer.specs.Bits.{written}
use Rattle.mac_reader.specs.PduList.{block_bits}
use Rattle.dl_record.specs.declared.Record.{Record}
use Rattle.dl_record.specs.Record.{empty_record}
use Rattle.dl_queue.specs.Queue.{Item, item, records_of}
use Rattle.dl_merge.specs.Places.{sources_of}
use Rattle.bs_frag.specs.NextPdu.{sdu_at, Sendable}
use Rattle.dl_send.specs.Send.{Sent, send_all, block_of}
use Rattle.dl_send.specs.declared.Progress.{Progress}

-- the first n of the records with their places
unfoldable pub listed : ℕ → List Record → List ℕ → List (Item ℕ)
listed zero rs fs = []
listed (suc n) rs fs = item (get_or rs 0 empty_record) (get_or fs 0 0) ∷ listed n (drop 1 rs) (drop 1 fs)

-- the records at these places of an array
abbrev pub records_at : List ℕ → List Record → List Record
records_at places rs = map (λ (p : ℕ). get_or rs p empty_record) places

-- and what stands at them in an array of places
abbrev pub places_at : List ℕ → List ℕ → List ℕ
places_at places fs = map (λ (p : ℕ). get_or fs p 0) places

-- the SDU of a record that comes from a place of the timeslot whose first place is `first`; one that comes from none has no bits, whatever cell is read
unfoldable pub place_sdu : List ℕ → ℕ → ℕ → ℕ → List ℕ
place_sdu store first place n = sdu_at store (first + place % per_timeslot) n

-- what the first n records come to
unfoldable pub sent_of : List ℕ → ℕ → ℕ → List Record → List ℕ → ℕ → Sent ℕ
sent_of store first w records from n = send_all (place_sdu store first) true w (listed n records from)

-- ---- the arrays

-- k tags: those of a list, then zeros
unfoldable pub tag_row : ℕ → List ℕ → List ℕ
tag_row zero ts = []
tag_row (suc k) [] = 0 ∷ tag_row k []
tag_row (suc k) (t ∷ ts) = t ∷ tag_row k ts

-- what stays, empty records behind it; and tags
abbrev pub progress_with : List (Item ℕ) → List ℕ → Progress
progress_with xs ts =
    record {
      records = records_of per_timeslot xs;
      from = sources_of per_timeslot xs;
      left = length xs;
      tags = record { tags = tag_row per_timeslot ts; tag_count = length ts };
    }

abbrev pub progress_of : Sent ℕ → Progress
progress_of s = progress_with s.left s.tags

-- ---- the contract

-- each record can be sent
unfoldable pub AllSendable : List (Item ℕ) → Type 0
AllSendable [] = Unit
AllSendable (x ∷ xs) = Sendable x.rec × AllSendable xs

-- a block of w bits in so many octets, a store with the cells of a timeslot, and records with their places
pub record CanSend (octets w : ℕ) (store : List ℕ) (first : ℕ) (records : List Record) (from : List ℕ) (n : ℕ) : Type 0 where
  pub count : n ≤ per_timeslot
  pub width : w ≤ block_width
  pub inside : w ≤ 8 * octets
  pub bounded : 8 * octets < 2 ^ 64
  pub cells : cell_octets * first + timeslot_octets ≤ length store
  pub stored : 8 * length store < 2 ^ 64
  pub all : AllSendable (listed n records from)

-- the block as built, and the arrays as they are left
pub record BuiltAs (octets : ℕ) (b : List ℕ) (p : Progress) (s : Sent ℕ) : Type 0 where
  pub block : b ≡ block_of octets (block_bits s.pdus)
  pub arrays : p ≡ progress_of s
  pub few : p.left ≤ per_timeslot
  pub few-tags : p.tags.tag_count ≤ per_timeslot

-- the same with the bits written over those of l, from 0 on
pub record SentInto (l m : List ℕ) (p : Progress) (s : Sent ℕ) : Type 0 where
  pub bits : m ≡ written l 0 (block_bits s.pdus)
  pub size : length (block_bits s.pdus) ≤ length l
  pub arrays : p ≡ progress_of s
  pub few : p.left ≤ per_timeslot
  pub few-tags : p.tags.tag_count ≤ per_timeslot
