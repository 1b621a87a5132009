-- What a list of records comes to, record by record. Assumes nothing.
use mathlib.Core.Path.{◌≡◌, refl}
use mathlib.Core.Bool.{Bool, ◌&&◌}
use mathlib.Core.List.{List, [], ◌∷◌, ◌++◌}
use Prim.Native.Nat.{ℕ}
use Rattle.dl_queue.specs.Queue.{Item}
use Rattle.bs_frag.specs.NextPdu.{Next}
use Rattle.dl_send.specs.Send.{staying, tags_of, null_in, wrote, turn, turns, read_off, room_after, Sent, send_all}

abbrev pub and_then : {C : Type 0} → Next → Item C → Sent C → Sent C
and_then s x t =
    record { pdus = s.pdus ++ t.pdus; room = t.room; left = staying s.outcome x ++ t.left; tags = tags_of s.outcome x.rec.tag ++ t.tags }

module _ {C : Type 0} (sdu : C → ℕ → List ℕ) (may : Bool) (room : ℕ) where
  pub send-none : send_all sdu may room [] ≡ record { pdus = null_in room; room = room; left = []; tags = [] }
  unfolding send_all turns read_off room_after
  send-none = refl

  pub send-next : (x : Item C) (xs : List (Item C))
      → send_all sdu may room (x ∷ xs)
      ≡ and_then (turn sdu may room x) x (send_all sdu (may && wrote (turn sdu may room x).pdus) (turn sdu may room x).room xs)
  unfolding send_all turns read_off room_after
  send-next x xs = refl
