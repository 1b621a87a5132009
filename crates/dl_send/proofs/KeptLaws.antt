-- What stays after a build: waiting and started records only, as sound as before. Assumes nothing.
use mathlib.Core.Path.{◌≡◌, refl}
use mathlib.Core.Bool.{Bool, true, ◌&&◌}
use mathlib.Core.List.{List, [], ◌∷◌}
use Prim.Native.Nat.{ℕ, ◌≤◌}
use native.Mathlib.Omega.{arith}
use lib.Dec.{leb, eqb}
use lib.ListN.{length, length-append}
use lib.Seq.{length-take-le}
use borrow.Author.Tests.{leb-true, le-leb, eqb-true}
use Rattle.lists.proofs.Every.{All, all_append}
use Rattle.sizes.specs.Sizes.{cell_octets, sdu_bits, block_width}
use Rattle.bitbuffer.specs.Bits.{bits_of}
use Rattle.bitbuffer.proofs.Laws.{bits-take, bits-bits_of, length-bits_of}
use Rattle.mac_pdus.specs.Legal.{legal_queued}
use Rattle.mac_pdus.proofs.Conjunctions.{false-not-true, and2, and3}
use Rattle.dl_sdu_store.specs.Cells.{clean_past}
use Rattle.dl_record.specs.declared.Kind.{Kind}
use Rattle.dl_record.specs.declared.Record.{Record}
use Rattle.dl_record.specs.Record.{resource_of}
use Rattle.dl_record.specs.Questions.{legal_address, sound_as, sound_record}
use Rattle.dl_queue.specs.Queue.{Item, item}
use Rattle.dl_queue.specs.Questions.{sound_place}
use Rattle.dl_record.specs.Kind.{is_kept, is_underway}
use Rattle.bs_frag.specs.NextPdu.{Next, next, Sendable}
use Rattle.bs_frag.specs.declared.ChunkOutcome.{ChunkOutcome}
use Rattle.bs_frag.specs.declared.ChunkOutcome.TheVariants.{Finished, Waiting, Started}
use Rattle.dl_send.specs.Send.{again, staying, wrote, send_all, cell_sdu, turns, read_off, room_after}
use Rattle.dl_send.specs.Carried.{sent_by}
use Rattle.dl_send.proofs.TurnLaws.{next-turn}
use Rattle.dl_send.proofs.BlockLaws.{Loaded}

-- ---- a sound record can be sent

pub record RecordParts (r : Record) : Type 0 where
  pub address : legal_address r.address.kind r.address.number ≡ true
  pub legal : legal_queued (resource_of r 0 0) ≡ true
  pub bits : leb r.bits sdu_bits ≡ true
  pub sent : r.sent ≤ r.bits

parts-as : (k : Kind) (r : Record) → is_kept k ≡ true → legal_address r.address.kind r.address.number ≡ true → sound_as k r ≡ true → RecordParts r
parts-as Kind.Grant r h a e = false-not-true h
parts-as Kind.Ack r h a e = false-not-true h
parts-as Kind.Record r h a e =
    let p = and3 (legal_queued (resource_of r 0 0)) (leb r.bits sdu_bits) (eqb r.sent 0) e in
    record { address = a; legal = p.0; bits = p.1; sent = omega (arith, eqb-true r.sent 0 p.2) }
parts-as Kind.Waiting r h a e =
    let p = and3 (legal_queued (resource_of r 0 0)) (leb r.bits sdu_bits) (eqb r.sent 0) e in
    record { address = a; legal = p.0; bits = p.1; sent = omega (arith, eqb-true r.sent 0 p.2) }
parts-as Kind.Started r h a e =
    let p = and3 (legal_queued (resource_of r 0 0)) (leb r.bits sdu_bits) (leb r.sent r.bits) e in
    record { address = a; legal = p.0; bits = p.1; sent = leb-true r.sent r.bits p.2 }

pub record-parts : (r : Record) → is_kept r.kind ≡ true → sound_record r ≡ true → RecordParts r
unfolding sound_record
record-parts r k e = let p = and2 (legal_address r.address.kind r.address.number) (sound_as r.kind r) e in parts-as r.kind r k p.0 p.1

pub parts-sendable : (r : Record) → RecordParts r → Sendable r
parts-sendable r p = record { legal = p.legal; bits = leb-true r.bits sdu_bits p.bits; sent = p.sent }

-- and as it stays it is sound
waiting-sound : (r : Record) → RecordParts r → sound_record (again Kind.Waiting 0 r) ≡ true
unfolding sound_record
waiting-sound r p = rw (p.address, p.legal, p.bits)

started-sound : (r : Record) (n : ℕ) → RecordParts r → n ≤ r.bits → sound_record (again Kind.Started n r) ≡ true
unfolding sound_record
started-sound r n p h = rw (p.address, p.legal, p.bits, le-leb n r.bits h)

-- ---- a record in its cell

-- a record that is no grant and no ack, sound, with its cell
pub record StoredItem (x : Item (List ℕ)) : Type 0 where
  pub kind : is_kept x.rec.kind ≡ true
  pub sound : sound_place true x.rec x.load ≡ true
  pub cell : length x.load ≡ cell_octets

-- one that stays: "as waiting or started"
pub record Staying (x : Item (List ℕ)) : Type 0 where
  pub stored : StoredItem x
  pub underway : is_underway x.rec.kind ≡ true

place-parts : (x : Item (List ℕ)) → StoredItem x → (sound_record x.rec ≡ true) × (clean_past x.rec.bits x.load ≡ true)
unfolding sound_place
place-parts x s = and2 (sound_record x.rec) (clean_past x.rec.bits x.load) s.sound

stored-parts : (x : Item (List ℕ)) → StoredItem x → RecordParts x.rec
stored-parts x s = record-parts x.rec s.kind (place-parts x s).0

pub stored_loaded : (x : Item (List ℕ)) → StoredItem x → Loaded cell_sdu x
stored_loaded x s =
    let p = parts-sendable x.rec (stored-parts x s) in
    record {
      sendable = p;
      bits = bits-take x.rec.bits (bits_of x.load) (bits-bits_of x.load);
      size = length-take-le x.rec.bits (bits_of x.load) (rw (length-bits_of, s.cell) (omega (arith, p.bits)));
    }

pub all-loaded : (xs : List (Item (List ℕ))) → All StoredItem xs → All (Loaded cell_sdu) xs
all-loaded [] h = tt
all-loaded (x ∷ xs) h = (stored_loaded x h.0, all-loaded xs h.1)

place-sound : (r : Record) (c : List ℕ) → sound_record r ≡ true → clean_past r.bits c ≡ true → sound_place true r c ≡ true
unfolding sound_place
place-sound r c a b = rw (a, b)

kept-stays : (o : ChunkOutcome) (x : Item (List ℕ)) → StoredItem x → sent_by o x.rec ≤ x.rec.bits → All Staying (staying o x)
kept-stays Finished x s h = tt
kept-stays Waiting x s h = (
  record {
    stored = record {
      kind = refl;
      sound = place-sound (again Kind.Waiting 0 x.rec) x.load (waiting-sound x.rec (stored-parts x s))
          (place-parts x s).1;
      cell = s.cell;
    };
    underway = refl;
  },
  tt,
)
kept-stays (Started n) x s h = (
  record {
    stored = record {
      kind = refl;
      sound = place-sound (again Kind.Started n x.rec) x.load (started-sound x.rec n (stored-parts x s) h)
          (place-parts x s).1;
      cell = s.cell;
    };
    underway = refl;
  },
  tt,
)

-- after a build only waiting and started records are left, and they are sound
pub left-stays : (may : Bool) (room : ℕ) (xs : List (Item (List ℕ))) → room ≤ block_width → All StoredItem xs → All Staying (send_all cell_sdu may room xs).left
unfolding send_all turns read_off room_after
left-stays may room [] w h = tt
left-stays may room (x ∷ xs) w h =
    let l = stored_loaded x h.0 in
    let s : List ℕ = cell_sdu x.load x.rec.bits in
    let n : Next = next may room x.rec s in
    let t = next-turn block_width may room x.rec s w (omega arith) l.sendable l.bits l.size in
    all_append Staying (staying n.outcome x) _ (kept-stays n.outcome x h.0 t.within)
    (left-stays (may && wrote n.pdus) n.room xs (omega (arith, t.size)) h.1)

kept-few : {C : Type 0} (o : ChunkOutcome) (x : Item C) → length (staying o x) ≤ 1
kept-few Finished x = omega arith
kept-few Waiting x = omega arith
kept-few (Started n) x = omega arith

-- no more stay than there were
pub left-few : {C : Type 0} (sdu : C → ℕ → List ℕ) (may : Bool) (room : ℕ) (xs : List (Item C)) → length (send_all sdu may room xs).left ≤ length xs
unfolding send_all turns read_off room_after
left-few sdu may room [] = omega arith
left-few sdu may room (x ∷ xs) =
    let n : Next = next may room x.rec (sdu x.load x.rec.bits) in
    let on : Bool = may && wrote n.pdus in
    omega (arith, length-append (staying n.outcome x) (send_all sdu on n.room xs).left, kept-few n.outcome x, left-few sdu on n.room xs)

-- what holds of an item, and not of what a turn changes, holds of those that stay
module _ {C : Type 0} (P : Item C → Type 0) (steady : (k : Kind) (n : ℕ) (x : Item C) → P x → P (item (again k n x.rec) x.load)) where
  kept-all : (o : ChunkOutcome) (x : Item C) → P x → All P (staying o x)
  kept-all Finished x h = tt
  kept-all Waiting x h = (steady Kind.Waiting 0 x h, tt)
  kept-all (Started n) x h = (steady Kind.Started n x h, tt)

  pub left-all : (sdu : C → ℕ → List ℕ) (may : Bool) (room : ℕ) (xs : List (Item C)) → All P xs → All P (send_all sdu may room xs).left
  unfolding send_all turns read_off room_after
  left-all sdu may room [] h = tt
  left-all sdu may room (x ∷ xs) h =
      let n : Next = next may room x.rec (sdu x.load x.rec.bits) in
      all_append P (staying n.outcome x) _ (kept-all n.outcome x h.0) (left-all sdu (may && wrote n.pdus) n.room xs h.1)
