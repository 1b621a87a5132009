-- The search's loop: each turn is one of four steps of `Looking`. Assumes nothing.
use Rattle.uplink.proofs.FrameWalk.{Looking}
use Rattle.ul_search.proofs.ul_find_grant_opportunity.Given as goal

abbrev pub invariant-loop-dist : goal.invariant-loop-dist
invariant-loop-dist l =
    Looking l.u.rows l.is_halfslot l.num_slots l.row l.first l.start l.run l.skips l.dist
