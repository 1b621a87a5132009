-- A turn by lengths. Assumes nothing.
use Rattle.std.specs.Prelude.{◌≡◌, Bool, true, false, ℕ}
use Rattle.bs_frag.specs.NextPdu.{Next}
use Rattle.dl_send.specs.Send.{wrote}
use Rattle.dl_send.specs.Document01.{starts}
use Rattle.as_document_01.specs.declared.lengths.TurnLengths.{TurnLengths}
use Rattle.as_document_01.specs.declared.lengths.TurnLengths.TheVariants.{Waits, Writes, Starts}

-- the room behind a turn that had so much
abbrev pub room_behind : ℕ → TurnLengths → ℕ
room_behind room Waits = room
room_behind room (Writes left) = left
room_behind room Starts = 0

-- whether it wrote a PDU
abbrev pub writes : TurnLengths → Bool
writes Waits = false
writes (Writes left) = true
writes Starts = true

-- and whether that starts fragments
abbrev pub starts_fragments : TurnLengths → Bool
starts_fragments Waits = false
starts_fragments (Writes left) = false
starts_fragments Starts = true

-- the lengths of a turn that had so much room
pub record LengthsOf (before : ℕ) (s : Next) (x : TurnLengths) : Type 0 where
  pub room : room_behind before x ≡ s.room
  pub wrote : writes x ≡ wrote s.pdus
  pub starts : starts_fragments x ≡ starts s.pdus
