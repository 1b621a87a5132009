-- The SDU bits that PDUs carry, as their receiver finds them, and a record's PDUs over several blocks. Assumes nothing.
use Rattle.std.specs.Prelude.{Bool, List, [], ◌∷◌, ◌++◌, ℕ, ◌-◌, length, take}
use Rattle.fillbits.specs.Fill.{from_last_set}
use Rattle.mac_pdus.specs.Headers.{if_zero}
use Rattle.mac_reader.specs.PduList.{Pdu, whole, first, frag, final, null}
use Rattle.dl_record.specs.declared.Kind.{Kind}
use Rattle.dl_record.specs.declared.Record.{Record}
use Rattle.bs_frag.specs.NextPdu.{Next, next}
use Rattle.bs_frag.specs.declared.ChunkOutcome.{ChunkOutcome}
use Rattle.bs_frag.specs.declared.ChunkOutcome.TheVariants.{Finished, Waiting, Started}
use Rattle.dl_send.specs.Send.{again}

-- what stands behind a header, without the fill bits that its fill bit tells of
unfoldable pub unfilled : ℕ → List ℕ → List ℕ
unfilled flag b = if_zero flag b (take (length b - from_last_set b) b)

unfoldable pub sdu_in : Pdu → List ℕ
sdu_in (whole r b) = unfilled r.fill_bits b
sdu_in (first r b) = unfilled r.fill_bits b
sdu_in (frag f b) = unfilled f.fill_bits b
sdu_in (final e b) = unfilled e.fill_bits b
sdu_in null = []

-- one after another
unfoldable pub carried : List Pdu → List ℕ
carried [] = []
carried (p ∷ ps) = sdu_in p ++ carried ps

-- ---- a record over its blocks

-- how many of its bits are sent
abbrev pub sent_by : ChunkOutcome → Record → ℕ
sent_by Finished r = r.bits
sent_by Waiting r = 0
sent_by (Started n) r = n

-- the PDUs written so far, and what has become of the record
pub record Progressed : Type 0 where
  pub pdus : List Pdu
  pub outcome : ChunkOutcome

abbrev pub behind : List Pdu → Progressed → Progressed
behind ps x = record { pdus = ps ++ x.pdus; outcome = x.outcome }

-- its turns in blocks, until it is finished: of each block whether it may start there, and the room left
unfoldable pub over : List (Bool × ℕ) → ChunkOutcome → Record → List ℕ → Progressed
over [] o r sdu = record { pdus = []; outcome = o }
over (b ∷ bs) Finished r sdu = record { pdus = []; outcome = Finished }
over (b ∷ bs) Waiting r sdu = let x : Next = next b.0 b.1 (again Kind.Waiting 0 r) sdu in behind x.pdus (over bs x.outcome r sdu)
over (b ∷ bs) (Started n) r sdu = let x : Next = next b.0 b.1 (again Kind.Started n r) sdu in behind x.pdus (over bs x.outcome r sdu)
