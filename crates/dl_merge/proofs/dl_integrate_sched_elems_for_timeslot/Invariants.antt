-- After the turns of the first records what stays is held, with the grants and acks among these put to it.
use mathlib.Core.Path.{◌≡◌}
use lib.ListN.{length}
use Rattle.dl_merge.specs.Places.{merged_of}
use Rattle.dl_merge.proofs.TurnLaws.{joins}
use Rattle.dl_merge.proofs.dl_integrate_sched_elems_for_timeslot.Given as goal

abbrev pub invariant-loop-g : goal.invariant-loop-g
invariant-loop-g l = l.merged ≡ merged_of (joins (length l.records) l.g-index l.records)
