-- A refusal changes nothing; a new station has an empty queue and store. Assumes nothing.
use mathlib.Core.Path.{◌≡◌, sym, ap, ◌∙◌}
use Prim.Native.Nat.{ℕ}
use Rattle.sched_core.specs.Calls.{new_call}
use Rattle.interpreter.specs.Slotrun.{octet, time_given}
use Rattle.interpreter.proofs.StepLaws.{new_stepped}
use Rattle.interpreter.proofs.session.Session.new_step.Goals as goal
use Rattle.interpreter.proofs.session.Session.new_step.Goals.{then-is_ok, else-is_ok}

pub returns : goal.returns
returns c =
    let ops = c.args.operands.now in
    let given : c.new-time.result ≡ time_given ops =
    c.new-time.ensures ∙ ap (λ (k : ℕ). record { t = octet ops 4; f = octet ops 3; m = octet ops 2; h = k }) c.two_octets-h.ensures in
    new_stepped _ _ _ _ _ _ c.number_line.ensures _ (c.new-reply.ensures ∙ ap new_call given) c.number_of.ensures
    (elim c.if-is_ok.branch [
      | then-is_ok w ↦ rw (sym w.if-is_ok.ensures.value) (w.self-is ∙ w.empty.ensures)
      | else-is_ok w ↦ rw (sym w.if-is_ok.ensures.value) w.self-is
    ])
