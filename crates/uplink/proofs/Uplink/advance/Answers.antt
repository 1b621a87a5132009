-- The time steps, and one entry is emptied. Assumes nothing.
use mathlib.Core.Path.{ap, ◌∙◌}
use Rattle.tdma_time.specs.declared.TdmaTime.{TdmaTime}
use Rattle.uplink.specs.UplinkEntry.{Table, cleared}
use Rattle.uplink.specs.Uplink.{uplink_of}
use Rattle.uplink.proofs.TableLaws.{cleared_at}
use Rattle.uplink.proofs.Uplink.advance.Goals as goal

pub returns : goal.returns
returns c =
    let u = c.args.self.now in
    let now = c.next-now in
    rw (c.row.ensures.0, c.column.ensures.0)
    (ap (λ (tb : Table). uplink_of now.result tb u.next_usage_marker) (cleared_at u.rows _ _ now.ensures.1 c.four_earlier-old.ensures.0)
    ∙ ap (λ (x : TdmaTime). uplink_of x (cleared u.rows x) u.next_usage_marker) now.ensures.0)
