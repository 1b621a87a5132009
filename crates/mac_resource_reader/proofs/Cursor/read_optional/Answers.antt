-- The element behind a flag that is 1.
use mathlib.Core.Path.{refl, ◌∙◌}
use Rattle.mac_resource_reader.proofs.Cursor.read_optional.Goals as goal

pub returns-else-read-eq0-clause-some : goal.returns-else-read-eq0-clause-some
returns-else-read-eq0-clause-some g c = (
  λ z. c.if-read-eq0.false (c.read.ensures.value.0 ∙ z),
  c.read.new.self,
  c.read.ensures.place.0,
  c.read.ensures.place.1,
  record { shown = _; shows = refl; left = _; met = c.element.ensures; leaves = refl },
)
