-- After i turns what is held and what is to come make the whole.
use lib.ListN.{length}
use Rattle.dl_send.specs.Arrays.{records_at, places_at}
use Rattle.dl_send.proofs.SendLaws.{Running}
use Rattle.dl_send.proofs.build_records.Given as goal

abbrev pub invariant-loop-stands : goal.invariant-loop-stands
invariant-loop-stands l =
    Running l.initial.block l.w l.store l.first (records_at l.order l.merged.records) (places_at l.order l.merged.from) (length l.order) l.block l.progress
    l.at l.may_start l.stands-index
