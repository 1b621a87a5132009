-- A shift to the right and back.
use Rattle.dl_sdu_store.proofs.CellLaws.{edge_none, edge-some}
use Rattle.dl_sdu_store.proofs.edge.Goals as goal

pub returns-then-rest-eq0 : goal.returns-then-rest-eq0
returns-then-rest-eq0 c = edge_none _ _ c.if-rest-eq0.true

pub returns : goal.returns
returns c = edge-some _ _ c.if-rest-eq0.false c.requires.1 (c.type_inv.sdu c.args.whole).fits
