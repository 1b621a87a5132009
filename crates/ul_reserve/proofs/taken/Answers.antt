-- One arm for each block. Assumes nothing.
use Rattle.uplink.specs.UplinkEntry.{with_halves}
use Rattle.uplink.proofs.ReserveLaws.{with_marker-or}
use Rattle.ul_reserve.proofs.taken.Goals as goal

pub returns-in-Both : goal.returns-in-Both
unfolding with_halves
returns-in-Both c = rw (c.in-Both.is, c.or.ensures, ← with_marker-or c.args.e c.args.usage_marker)

pub returns-in-Block1 : goal.returns-in-Block1
unfolding with_halves
returns-in-Block1 c = rw (c.in-Block1.is, c.or.ensures, ← with_marker-or c.args.e c.args.usage_marker)

pub returns-in-Block2 : goal.returns-in-Block2
unfolding with_halves
returns-in-Block2 c = rw (c.in-Block2.is, c.or.ensures, ← with_marker-or c.args.e c.args.usage_marker)
