-- Document 02, W-201, beside document 01: "Blocks are compared with the Rust on queues where this never arises". Document 01's rule of sending stands
-- here for that comparison alone; no promise of an entry rests on it. Assumes nothing.
use Rattle.std.specs.Prelude.{Bool, true, false, ◌&&◌, ◌||◌, not, List, [], ◌∷◌, ℕ}
use Rattle.mac_reader.specs.PduList.{Pdu, whole, first, frag, final, null}
use Rattle.dl_queue.specs.Queue.{Item}
use Rattle.bs_frag.specs.NextPdu.{Next}
use Rattle.dl_send.specs.Send.{Turn, wrote, turn, Sent, sent_in}

-- document 01's sending: any record may start fragments
module _ {C : Type 0} (sdu : C → ℕ → List ℕ) where
  unfoldable pub turns01 : ℕ → List (Item C) → List (Turn C)
  turns01 room [] = []
  turns01 room (x ∷ xs) = let s : Next = turn sdu true room x in record { taken = x; next = s } ∷ turns01 s.room xs

  unfoldable pub send_all01 : ℕ → List (Item C) → Sent C
  send_all01 room xs = sent_in room (turns01 room xs)

-- "Code 63 starts a fragment": a first fragment
abbrev pub is_first : Pdu → Bool
is_first (whole h b) = false
is_first (first h b) = true
is_first (frag h b) = false
is_first (final h b) = false
is_first null = false

-- one of these PDUs starts fragments
unfoldable pub starts : List Pdu → Bool
starts [] = false
starts (p ∷ ps) = is_first p || starts ps

-- some record starts fragments behind one that wrote nothing; may: none before these wrote nothing
unfoldable pub starts_behind : {C : Type 0} → Bool → List (Turn C) → Bool
starts_behind may [] = false
starts_behind may (t ∷ ts) = not may && starts t.next.pdus || starts_behind (may && wrote t.next.pdus) ts

-- "this [..] arises": document 01's sending starts fragments behind a record that wrote nothing
unfoldable pub arises : {C : Type 0} → (C → ℕ → List ℕ) → ℕ → List (Item C) → Bool
arises sdu room xs = starts_behind true (turns01 sdu room xs)
