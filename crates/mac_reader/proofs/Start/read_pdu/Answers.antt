-- A MAC-RESOURCE.
use Rattle.mac_pdus.specs.Headers.{resource_at}
use Rattle.mac_pdus.proofs.ReadLaws.{resource-then}
use Rattle.mac_reader.specs.Reader.{pdu_at, resource_step}
use Rattle.bitbuffer.specs.Bits.{field}
use mathlib.Core.Path.{sym, ◌∙◌}
use Rattle.mac_reader.proofs.Start.read_pdu.Goals as goal

pub returns-in-0 : goal.returns-in-0
unfolding pdu_at resource_at field
returns-in-0 c =
    let a = c.args in
    let type = c.read.ensures in
    let header = rw (type.place.0, type.place.1) at c.read_resource-r.ensures.value in
    rw (sym type.value.0 ∙ c.in-0.is)
    (c.resource_step.ensures ∙ resource-then _ a.self.at _ (λ r after. resource_step a.self.w a.self.at r after) (sym header))
