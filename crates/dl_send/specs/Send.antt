-- A list of records sent in a block, one after another, and then the null PDU: document 01, section "Block", and document 02, W-201. A record goes with a
-- load by which its SDU is known: its cell, the place that it stands at, or its SDU with the name of its grant. Assumes nothing.
use Rattle.std.specs.Prelude.{Bool, true, false, ◌&&◌, cond, List, [], ◌∷◌, ◌++◌, ℕ, ◌-◌, ◌*◌, ltb, length, take, replicate, Option, Some, None}
use Rattle.bitbuffer.specs.Bits.{bits_of, packed}
use Rattle.mac_reader.specs.PduList.{Pdu, null}
use Rattle.dl_record.specs.declared.Kind.{Kind}
use Rattle.dl_record.specs.declared.Record.{Record}
use Rattle.dl_queue.specs.Queue.{Item, item}
use Rattle.bs_frag.specs.NextPdu.{Next, next}
use Rattle.bs_frag.specs.declared.ChunkOutcome.{ChunkOutcome}
use Rattle.bs_frag.specs.declared.ChunkOutcome.TheVariants.{Finished, Waiting, Started}

-- a record as it stays, with so many bits sent
abbrev pub again : Kind → ℕ → Record → Record
again k sent r = record { kind = k; address = r.address; tag = r.tag; header = r.header; bits = r.bits; sent = sent }

-- "What did not finish stays .. as waiting or started."
abbrev pub staying : {C : Type 0} → ChunkOutcome → Item C → List (Item C)
staying Finished x = []
staying Waiting x = item (again Kind.Waiting 0 x.rec) x.load ∷ []
staying (Started n) x = item (again Kind.Started n x.rec) x.load ∷ []

abbrev pub tag_in : Option ℕ → List ℕ
tag_in None = []
tag_in (Some t) = t ∷ []

-- "Tags of finished records come back in order."
abbrev pub tags_of : ChunkOutcome → Option ℕ → List ℕ
tags_of Finished t = tag_in t
tags_of Waiting t = []
tags_of (Started n) t = []

-- "If 16 bits or more are left, a null PDU (octets 00 10 hexadecimal) follows."
abbrev pub null_in : ℕ → List Pdu
null_in room = cond (ltb room 16) [] (null ∷ [])

-- ---- turns

-- a record's turn: the record as it is taken, and its PDUs, the room behind them and what becomes of it
pub record Turn (C : Type 0) : Type 0 where
  pub taken : Item C
  pub next : Next

-- whether a record wrote a PDU: one that wrote none "has found no place"
abbrev pub wrote : List Pdu → Bool
wrote [] = false
wrote (p ∷ ps) = true

-- sdu c n is the SDU, of n bits, that a load c stands for
module _ {C : Type 0} (sdu : C → ℕ → List ℕ) where
  abbrev pub turn : Bool → ℕ → Item C → Next
  turn may room x = next may room x.rec (sdu x.load x.rec.bits)

  -- one record after another, each in the room that the one before left. W-201: "once a record has found no place in a block, no later record starts
  -- fragments in that block; one that fits whole still goes in"
  unfoldable pub turns : Bool → ℕ → List (Item C) → List (Turn C)
  turns may room [] = []
  turns may room (x ∷ xs) = let s : Next = turn may room x in record { taken = x; next = s } ∷ turns (may && wrote s.pdus) s.room xs

-- ---- what is read off the turns in a room

-- of each turn a list, one after another; the last is of the room that is left
unfoldable pub read_off : {C A : Type 0} → (Turn C → List A) → (ℕ → List A) → ℕ → List (Turn C) → List A
read_off each end room [] = end room
read_off each end room (t ∷ ts) = each t ++ read_off each end t.next.room ts

unfoldable pub room_after : {C : Type 0} → ℕ → List (Turn C) → ℕ
room_after room [] = room
room_after room (t ∷ ts) = room_after t.next.room ts

-- what a list of records comes to: the PDUs, the room behind them, what stays "in the order taken", and the tags
pub record Sent (C : Type 0) : Type 0 where
  pub pdus : List Pdu
  pub room : ℕ
  pub left : List (Item C)
  pub tags : List ℕ

abbrev pub sent_in : {C : Type 0} → ℕ → List (Turn C) → Sent C
sent_in room ts =
    record {
      pdus = read_off (λ t. t.next.pdus) null_in room ts;
      room = room_after room ts;
      left = read_off (λ t. staying t.next.outcome t.taken) (λ r. []) room ts;
      tags = read_off (λ t. tags_of t.next.outcome t.taken.rec.tag) (λ r. []) room ts;
    }

-- may: whether the first of them may start fragments
unfoldable pub send_all : {C : Type 0} → (C → ℕ → List ℕ) → Bool → ℕ → List (Item C) → Sent C
send_all sdu may room xs = sent_in room (turns sdu may room xs)

-- ---- the loads

-- "one to a place": the SDU in a cell
abbrev pub cell_sdu : List ℕ → ℕ → List ℕ
cell_sdu cell n = take n (bits_of cell)

-- ---- the block

-- n octets that begin with these bits; zeros follow
unfoldable pub block_of : ℕ → List ℕ → List ℕ
block_of n f = packed n (f ++ replicate (8 * n - length f) 0)
