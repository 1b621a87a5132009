-- Thirty-two octets of the stage are those behind the index. Assumes nothing.
use mathlib.Core.Path.{◌≡◌, ap, ◌∙◌}
use native.Mathlib.Omega.{arith}
use borrow.Author.Rules.{rules}
use borrow.Author.Tests.{le-leb}
use Prim.Native.Nat.{◌+◌, ◌-◌, ◌*◌}
use lib.ListN.{length}
use Rattle.interpreter.specs.Slotrun.{octet, staged, stage_line, step}
use Rattle.bitbuffer.specs.Bits.{written, part}
use Rattle.interpreter.proofs.StepLaws.{put_written}
use Rattle.interpreter.proofs.session.Session.stage_step.Goals as goal

pub returns : goal.returns
unfolding step staged stage_line part
returns c =
    let size : length c.args.self.now.stage ≡ 256 = search rules in
    let at = 32 * octet c.args.operands.now 0 in
    let filled =
    put_written c.args.self.now.stage c.copy_from_slice.new.self at (at + 32 - at) (search rules) (omega arith)
    ∙ ap (written c.args.self.now.stage at) c.copy_from_slice.ensures.after in
    rw (le-leb (octet c.args.operands.now 0) 7 c.if-index-gt7.false, c.number_line-2.ensures, filled)
