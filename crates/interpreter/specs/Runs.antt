-- What a run of the interpreter answers and leaves. Assumes nothing.
use Rattle.std.specs.Prelude.{◌≡◌, List, ℕ, ◌*◌, ◌≤◌, length, drop}
use Rattle.bitbuffer.specs.Bits.{Wrote}
use Rattle.interpreter.specs.declared.session.RunAnswer.{RunAnswer}
use Rattle.interpreter.specs.declared.session.Session.{Session}
use Rattle.interpreter.specs.Text.{line_octets}
use Rattle.interpreter.specs.Slotrun.{Ran}

-- a run over `input` has taken the commands at its front, and printed what they print
pub record Runs (x : Ran) (r : RunAnswer) (input : List ℕ) (s : Session) (out out' : List ℕ) : Type 0 where
  pub session-after : s ≡ x.session
  pub printed : Wrote out 0 out' r.count x.printed
  pub left : drop r.taken input ≡ x.left
  pub inside : r.taken ≤ length input
  pub room : r.count ≤ line_octets * length input
