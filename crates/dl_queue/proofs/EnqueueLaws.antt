-- What queueing does to a sound memory: the record joins the end of its timeslot's list, no other list changes, and the memory stays sound. Assumes nothing.
use Rattle.std.proofs.lemmas.Bool.{and_parts, and_from}
use Rattle.std.proofs.Common.{Option}
use mathlib.Core.Path.{◌≡◌, refl, ap, ◌∙◌}
use mathlib.Core.Bool.{true}
use mathlib.Core.List.{List, [], ◌∷◌, ◌++◌}
use Prim.Native.Nat.{ℕ, ◌*◌, ◌<◌}
use lib.Dec.{leb}
use lib.ListN.{length, get_or, set}
use borrow.Author.Tests.{leb-true}
use Rattle.sizes.specs.Sizes.{per_timeslot, cell_octets, timeslot_octets, sdu_bits}
use Rattle.mac_pdus.specs.Legal.{fits, opt_fits, legal_offered}
use Rattle.dl_record.specs.declared.Record.{Record}
use Rattle.dl_record.specs.declared.QueuedHeader.{QueuedHeader}
use Rattle.dl_record.specs.Record.{grant_record, ack_record, offered_record, resource_of}
use Rattle.dl_record.specs.Questions.{legal_address, present_sdu, sound_record}
use Rattle.dl_record.proofs.RecordLaws.{grant-sound, ack-sound, offered-sound}
use Rattle.dl_sdu_store.specs.Cells.{clean_past, cell_of}
use Rattle.dl_sdu_store.proofs.CellBits.{length-cell_of, clean-cell_of}
use Rattle.dl_sdu_store.proofs.OctetLaws.{Octets, octets-paste, octets-cell_of}
use Rattle.dl_queue.specs.Queue.{Item, item, zero_cell, queues_of, next_place, enqueued, with_cell}
use Rattle.dl_queue.specs.Questions.{sound_place, sound_queue}
use Rattle.dl_queue.proofs.QueueLaws.{HoldsQueues}
use Rattle.dl_queue.proofs.PushLaws.{queues-push}
use Rattle.dl_queue.proofs.SetLaws.{zero-size}
use Rattle.dl_queue.proofs.SoundLaws.{queue-at, push-sound, unused-cell, zero-clean}

-- the lists with one more item at the end of that of timeslot t
abbrev pub with_last : List (List (Item (List ℕ))) → ℕ → Item (List ℕ) → List (List (Item (List ℕ)))
with_last qs t x = set qs t (get_or qs t [] ++ x ∷ [])

module _ (ns : List ℕ) (rs : List Record) (s : List ℕ) (t : ℕ) (inside : t < length ns) (room : get_or ns t 0 < per_timeslot)
    (places : length rs ≡ per_timeslot * length ns) (size : length s ≡ timeslot_octets * length ns) (sound : sound_queue ns rs s ≡ true) where
  -- with its cell, in the place behind its timeslot's records
  pub cell-joins : (r : Record) (c : List ℕ) → length c ≡ cell_octets
      → queues_of (enqueued ns rs t r).counts (enqueued ns rs t r).records (with_cell s ns t c) ≡ with_last (queues_of ns rs s) t (item r c)
  cell-joins r c l = queues-push ns rs s t (get_or ns t 0) r c inside refl room (λ u b. (queue-at ns rs s sound u b).0) places size l

  record-keeps : (r : Record) (sdu : List ℕ) → sound_record r ≡ true → present_sdu r.bits sdu ≡ true
      → sound_queue (enqueued ns rs t r).counts (enqueued ns rs t r).records (with_cell s ns t (cell_of r.bits sdu)) ≡ true
  unfolding sound_place present_sdu
  record-keeps r sdu good present =
      push-sound ns rs s t (get_or ns t 0) r (cell_of r.bits sdu) inside refl room places size (length-cell_of r.bits sdu)
      (and_from (sound_record r) (clean_past r.bits (cell_of r.bits sdu)) good
      (clean-cell_of r.bits sdu (leb-true r.bits sdu_bits (and_parts (leb r.bits sdu_bits) (leb r.bits (8 * length sdu)) present).0)
      (leb-true r.bits (8 * length sdu) (and_parts (leb r.bits sdu_bits) (leb r.bits (8 * length sdu)) present).1))) sound

  -- without SDU: its cell is zero as it stands
  pub empty-joins : (r : Record) → Octets s
      → queues_of (enqueued ns rs t r).counts (enqueued ns rs t r).records s ≡ with_last (queues_of ns rs s) t (item r zero_cell)
  empty-joins r octets =
      ap (queues_of (enqueued ns rs t r).counts (enqueued ns rs t r).records) (unused-cell ns rs s t (get_or ns t 0) inside refl room size octets sound)
      ∙ cell-joins r zero_cell zero-size

  empty-keeps : (r : Record) → Octets s → sound_record r ≡ true → r.bits ≡ 0 → sound_queue (enqueued ns rs t r).counts (enqueued ns rs t r).records s ≡ true
  unfolding sound_place
  empty-keeps r octets good none =
      ap (sound_queue (enqueued ns rs t r).counts (enqueued ns rs t r).records) (unused-cell ns rs s t (get_or ns t 0) inside refl room size octets sound)
      ∙ push-sound ns rs s t (get_or ns t 0) r zero_cell inside refl room places size zero-size
      (and_from (sound_record r) (clean_past r.bits zero_cell) good (ap (λ (b : ℕ). clean_past b zero_cell) none ∙ zero-clean)) sound

  -- a grant, an ack and a record join the end of their timeslot's list, no other list changes, and the memory stays sound
  pub grant-joins : (k number octet : ℕ) (m : Option ℕ) → Octets s → legal_address k number ≡ true → fits 8 octet ≡ true → opt_fits 6 m ≡ true
      → HoldsQueues (with_last (queues_of ns rs s) t (item (grant_record k number octet m) zero_cell)) (enqueued ns rs t (grant_record k number octet m)) s
  grant-joins k number octet m octets a o w =
      let r = grant_record k number octet m in
      record { lists = empty-joins r octets; sound = empty-keeps r octets (grant-sound k number octet m a o w) refl; octets = octets }

  pub ack-joins : (k number : ℕ) → Octets s → legal_address k number ≡ true
      → HoldsQueues (with_last (queues_of ns rs s) t (item (ack_record k number) zero_cell)) (enqueued ns rs t (ack_record k number)) s
  ack-joins k number octets a =
      let r = ack_record k number in
      record { lists = empty-joins r octets; sound = empty-keeps r octets (ack-sound k number a) refl; octets = octets }

  pub offered-joins : (k number : ℕ) (tag : Option ℕ) (h : QueuedHeader) (bits : ℕ) (sdu : List ℕ) → Octets s → legal_address k number ≡ true
      → legal_offered (resource_of (offered_record k number tag h bits) 0 0) ≡ true → present_sdu bits sdu ≡ true
      → HoldsQueues (with_last (queues_of ns rs s) t (item (offered_record k number tag h bits) (cell_of bits sdu)))
      (enqueued ns rs t (offered_record k number tag h bits)) (with_cell s ns t (cell_of bits sdu))
  offered-joins k number tag h bits sdu octets a l p =
      let r = offered_record k number tag h bits in
      record {
        lists = cell-joins r (cell_of bits sdu) (length-cell_of bits sdu);
        sound = record-keeps r sdu (offered-sound k number tag h bits sdu a l p) p;
        octets = octets-paste s (cell_octets * next_place ns t) (cell_of bits sdu) cell_octets octets (octets-cell_of bits sdu);
      }
