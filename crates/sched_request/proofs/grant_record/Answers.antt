-- The octet is that of capacity and delay. Assumes nothing.
use mathlib.Core.Path.{◌≡◌, ap, ◌∙◌}
use native.Mathlib.Omega.{arith}
use Rattle.slot_codes.specs.Codes.{grant_octet}
use Rattle.basic_slotgrant.specs.Slotgrant.{octet_of}
use Rattle.basic_slotgrant.proofs.SlotgrantLaws.{octet-of-codes}
use Rattle.sched_request.proofs.grant_record.Goals as goal

pub returns : goal.returns
returns c =
    let g = c.args.grant in
    let is : c.from-octet.result ≡ grant_octet g.capacity g.delay =
    c.from-octet.ensures ∙ ap octet_of c.of_codes.ensures
    ∙ octet-of-codes g.capacity g.delay (omega (arith, c.requires.0)) (omega (arith, c.requires.1)) in
    rw (c.grant.ensures, is)
