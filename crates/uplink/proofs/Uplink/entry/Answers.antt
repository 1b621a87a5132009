-- The entry stands in the row of the timeslot, in the column of the frame. Assumes nothing.
use Rattle.uplink.proofs.TableLaws.{entry-of-time}
use Rattle.uplink.proofs.Uplink.entry.Goals as goal

pub returns : goal.returns
returns c = rw (c.row.ensures.0, c.column.ensures.0) (entry-of-time _ _ c.requires)
