-- Field by field.
use Rattle.dl_record.proofs.HeaderLaws.{fields-asked, none-absent}
use Rattle.dl_record.proofs.Record.header_is_legal.Goals as goal

pub returns : goal.returns
returns c =
    rw (none-absent _ _ c.is_none.ensures, c.opt_below.ensures, c.opt_below-2.ensures, c.opt_below-3.ensures, c.legal_opt_chan_alloc.ensures)
    (fields-asked c.args.self)
