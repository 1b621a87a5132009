-- Bits are present exactly if their octets are.
use Rattle.dl_record.proofs.QuestionLaws.{present-sdu}
use Rattle.dl_record.proofs.sdu_is_present.Goals as goal

pub returns : goal.returns
returns c = rw c.div_ceil-octets.ensures (present-sdu _ _)
