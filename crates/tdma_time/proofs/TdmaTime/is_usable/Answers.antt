-- `TdmaTime::is_usable` meets its contract: the test, which for a valid time is that of its slot. Assumes nothing.
use mathlib.Core.Path.{refl, sym}
use Rattle.tdma_time.proofs.SlotLaws.{usable-time}
use Rattle.tdma_time.proofs.TdmaTime.is_usable.Goals as goal

pub returns : goal.returns
returns c = (refl, λ v. sym (usable-time _ v))
