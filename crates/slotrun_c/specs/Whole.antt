-- What a host gets of a whole input. Assumes nothing.
use Rattle.std.specs.Prelude.{◌≡◌, List, ℕ, ◌-◌, ◌*◌, ◌^◌, ◌≤◌, ◌<◌, length}
use Rattle.bitbuffer.specs.Bits.{Wrote}
use Rattle.interpreter.specs.Text.{line_octets}
use Rattle.interpreter.specs.Slotrun.{start, commands}

-- With room for 173 octets for each octet of the input, what the commands at its front print stands at the front of `out`, and the answer is how
-- many octets that are; else nothing is done.
pub record Whole (input out out' : List ℕ) (r : ℕ) : Type 0 where
  pub done : line_octets * length input ≤ length out → Wrote out 0 out' r (commands (length input) start input).printed
  pub refused : length out < line_octets * length input → (r ≡ 2 ^ 64 - 1) × (out' ≡ out)
