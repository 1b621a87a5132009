-- After i turns what is to come says the same as the whole. Assumes nothing.
use lib.ListN.{length}
use Rattle.dl_send.specs.Arrays.{records_at}
use Rattle.as_document_01.proofs.TurnLaws.{Behind}
use Rattle.as_document_01.proofs.lengths.starts_behind.Given as goal

abbrev pub invariant-loop-place : goal.invariant-loop-place
invariant-loop-place l = Behind l.w (records_at l.order l.records) (length l.order) l.may l.room l.place-index
