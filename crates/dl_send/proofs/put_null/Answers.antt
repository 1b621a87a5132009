-- Sixteen bits where they are left, else none.
use Rattle.dl_send.proofs.SendLaws.{null-some, nothing_written}
use Rattle.dl_send.proofs.put_null.Goals as goal

pub returns-then-w-at-lt16 : goal.returns-then-w-at-lt16
returns-then-w-at-lt16 c = nothing_written _ _ _ c.if-w-at-lt16.true

pub returns : goal.returns
returns c = rw (null-some _ c.if-w-at-lt16.false) c.put_null.ensures.1.bits
