-- After i turns what stays of the first i records is held.
use mathlib.Core.Path.{◌≡◌}
use Rattle.dl_merge.specs.Places.{merged_of}
use Rattle.dl_merge.proofs.TurnLaws.{kept_up_to}
use Rattle.dl_merge.proofs.dl_take_all_grants_and_acks.Given as goal

abbrev pub invariant-loop-i : goal.invariant-loop-i
invariant-loop-i l = l.kept ≡ merged_of (kept_up_to l.i l.records)
