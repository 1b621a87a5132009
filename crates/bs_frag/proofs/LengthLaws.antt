-- A turn looks at lengths: the kind and the header of its PDU, the room behind it and what becomes of the record do not depend on the SDU's bits. Assumes
-- nothing.
use mathlib.Core.Path.{◌≡◌, refl}
use mathlib.Core.Bool.{Bool, true, false, ◌||◌, not, cond}
use mathlib.Core.List.{List, [], map}
use Prim.Native.Nat.{ℕ, ◌+◌, ◌-◌, ◌*◌}
use lib.Dec.{leb, ltb}
use Rattle.mac_reader.specs.PduList.{Pdu, whole, first, frag, final, null}
use Rattle.dl_record.specs.declared.Record.{Record}
use Rattle.dl_record.specs.Kind.{is_started}
use Rattle.bs_frag.specs.NextPdu.{header_size, end_octets, Next, begin_with, begin, continue, next}

-- a PDU without the bits behind its header
abbrev pub bare : Pdu → Pdu
bare (whole h b) = whole h []
bare (first h b) = first h []
bare (frag h b) = frag h []
bare (final h b) = final h []
bare null = null

-- a turn without them
abbrev pub bare_next : Next → Next
bare_next x = record { pdus = map bare x.pdus; room = x.room; outcome = x.outcome }

-- of two turns in each case
either : (b : Bool) (x y x' y' : Next) → bare_next x ≡ bare_next x' → bare_next y ≡ bare_next y' → bare_next (cond b x y) ≡ bare_next (cond b x' y')
either true x y x' y' h k = h
either false x y x' y' h k = k

module _ (may : Bool) (room : ℕ) (r : Record) (sdu sdu' : List ℕ) where
  begin-lengths : bare_next (begin may room r sdu) ≡ bare_next (begin may room r sdu')
  unfolding begin begin_with
  begin-lengths =
      either (leb (header_size r + r.bits) room) _ _ _ _ refl (either (not may || ltb room 32 || ltb room (header_size r)) _ _ _ _ refl refl)

  continue-lengths : bare_next (continue room r sdu) ≡ bare_next (continue room r sdu')
  unfolding continue
  continue-lengths = either (leb (end_octets (r.bits - r.sent) * 8) room) _ _ _ _ refl (either (ltb room 16) _ _ _ _ refl refl)

  -- two turns of a record that differ in the SDU's bits
  pub next-lengths : bare_next (next may room r sdu) ≡ bare_next (next may room r sdu')
  unfolding next
  next-lengths = either (is_started r.kind) _ _ _ _ continue-lengths begin-lengths
