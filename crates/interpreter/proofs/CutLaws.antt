-- A stream that is cut anywhere comes to the same as the whole. Assumes nothing.
use mathlib.Core.Path.{◌≡◌, refl, sym, ap, subst, ◌∙◌}
use mathlib.Core.Bool.{Bool, false, cond}
use mathlib.Core.List.{List, ◌++◌, append_assoc}
use Prim.Native.Nat.{ℕ, zero, suc, ◌+◌, ◌≤◌, ◌<◌}
use native.Mathlib.Omega.{arith}
use lib.ListN.{length, take, drop, length-append, length-take, take-append-drop, get_or-append}
use lib.Seq.{drop-append-le}
use borrow.Author.Tests.{le-leb}
use Rattle.std.proofs.Common.{Option, Some, None, Result}
use Rattle.bitbuffer.proofs.Chunks.{part_left}
use Rattle.sched_core.specs.Questions.{Memory}
use Rattle.interpreter.specs.declared.command.Command.{Command}
use Rattle.interpreter.specs.declared.command.UnknownCommand.{UnknownCommand}
use Rattle.interpreter.specs.declared.session.Session.{Session}
use Rattle.interpreter.specs.Slotrun.{memory_of, Step, step, stepped, new_step, request_step, queue_step, staged, stage_line, time_given, octet, two_octets}
use Rattle.interpreter.specs.Slotrun.{four_octets, stage_kept, operand_count, with_operands, first_command, is_found, is_whole, step_found, first_step}
use Rattle.interpreter.specs.Slotrun.{behind_found, behind_first, Ran, ran, printed_before}
use Rattle.interpreter.specs.Turns.{whole_commands, turn}
use Rattle.interpreter.proofs.RunLaws.{stopped, nothing-whole, shorter, found, one-command}

-- ---- a step reads the operands of its command only

octet-cut : (ops b : List ℕ) (i : ℕ) → i < length ops → octet (ops ++ b) i ≡ octet ops i
octet-cut ops b i h = get_or-append ops b 0 i h

two-cut : (ops b : List ℕ) (i : ℕ) → i + 1 < length ops → two_octets (ops ++ b) i ≡ two_octets ops i
two-cut ops b i h = rw (octet-cut ops b i (omega arith), octet-cut ops b (i + 1) h)

four-cut : (ops b : List ℕ) (i : ℕ) → i + 3 < length ops → four_octets (ops ++ b) i ≡ four_octets ops i
four-cut ops b i h = rw (two-cut ops b i (omega arith), two-cut ops b (i + 2) (omega arith))

time-cut : (ops b : List ℕ) → 5 ≤ length ops → time_given (ops ++ b) ≡ time_given ops
time-cut ops b h = rw (two-cut ops b 0 (omega arith), octet-cut ops b 2 (omega arith), octet-cut ops b 3 (omega arith), octet-cut ops b 4 (omega arith))

new-cut : (m : Memory) (ops b : List ℕ) → 5 ≤ length ops → new_step m (ops ++ b) ≡ new_step m ops
unfolding new_step
new-cut m ops b h = rw (time-cut ops b h)

request-cut : (m : Memory) (ops b : List ℕ) → 7 ≤ length ops → request_step m (ops ++ b) ≡ request_step m ops
unfolding request_step
request-cut m ops b h =
    rw (octet-cut ops b 0 (omega arith), octet-cut ops b 1 (omega arith), octet-cut ops b 2 (omega arith), four-cut ops b 3 (omega arith))

queue-cut : (m : Memory) (stage ops b : List ℕ) → 10 ≤ length ops → queue_step m stage (ops ++ b) ≡ queue_step m stage ops
unfolding queue_step
queue-cut m stage ops b h =
    rw (
      octet-cut ops b 0 (omega arith),
      octet-cut ops b 1 (omega arith),
      four-cut ops b 2 (omega arith),
      two-cut ops b 6 (omega arith),
      two-cut ops b
          8 (omega arith),
    )

staged-cut : (stage ops b : List ℕ) → 33 ≤ length ops → staged stage (ops ++ b) ≡ staged stage ops
unfolding staged
staged-cut stage ops b h = rw (octet-cut ops b 0 (omega arith), part_left ops b 1 32 h)

stage-line-cut : (ops b : List ℕ) → 33 ≤ length ops → stage_line (ops ++ b) ≡ stage_line ops
unfolding stage_line
stage-line-cut ops b h = rw (octet-cut ops b 0 (omega arith))

step_cut : (s : Session) (c : Command) (ops b : List ℕ) → operand_count c ≤ length ops → step s c (ops ++ b) ≡ step s c ops
unfolding step
step_cut s Command.New ops b h = ap (stage_kept s) (new-cut (memory_of s) ops b h)
step_cut s Command.Advance ops b h = refl
step_cut s Command.Request ops b h = ap (stage_kept s) (request-cut (memory_of s) ops b h)
step_cut s Command.Stage ops b h = rw (staged-cut s.stage ops b h, stage-line-cut ops b h)
step_cut s Command.Queue ops b h = ap (stage_kept s) (queue-cut (memory_of s) s.stage ops b h)
step_cut s Command.Build ops b h = refl

-- what it does by those alone is what it does
pub step-own : (s s' : Session) (text ops own : List ℕ) (command c : Command) → command ≡ c → operand_count command ≤ length ops
    → own ≡ take (operand_count c) ops → stepped s' text ≡ step s c own → stepped s' text ≡ step s command ops
step-own s s' text ops own command c e h o done =
    let n = operand_count c in
    let fits : n ≤ length ops = subst (λ (k : Command). operand_count k ≤ length ops) e h in
    done ∙ ap (step s c) o ∙ sym (step_cut s c (take n ops) (drop n ops) (omega (arith, length-take n ops))) ∙ ap (step s c) (take-append-drop n ops)
    ∙ ap (λ (k : Command). step s k ops) (sym e)

-- ---- octets behind a whole command

first-cut : (a b : List ℕ) (x : Command × List ℕ) → first_command a ≡ Some x → first_command (a ++ b) ≡ Some (x.0, x.1 ++ b)
first-cut a b x h =
    let f = found a x h in
    let m = operand_count x.0 in
    ap (λ (l : List ℕ). first_command (l ++ b)) f.whole ∙ ap (λ (r : Result Command UnknownCommand). with_operands r (x.1 ++ b)) f.command
    ∙ ap (λ (t : Bool). cond t (Some (x.0, x.1 ++ b)) None) (le-leb m (length (x.1 ++ b)) (omega (arith, f.fits, length-append x.1 b)))

-- ---- command by command

-- the session after a command, and the octets behind it
abbrev behind : (Session → List ℕ → Type 0) → Session → Command × List ℕ → Type 0
behind P s x = P (step s x.0 x.1).session (drop (operand_count x.0) x.1)

-- what holds where no whole command begins, and before a whole command where it holds behind it, holds of all octets
module _ (P : Session → List ℕ → Type 0) (at_rest : (s : Session) (a : List ℕ) → is_whole a ≡ false → P s a)
    (before : (s : Session) (a : List ℕ) (x : Command × List ℕ) → first_command a ≡ Some x → behind P s x → P s a) where
  tested : (f : Option (Command × List ℕ)) (s : Session) (a : List ℕ) → first_command a ≡ f → P (step_found s f).session (behind_found f) → P s a
  tested None s a e p = at_rest s a (ap is_found e)
  tested (Some x) s a e p = before s a x e p

  up_to : (n : ℕ) (s : Session) (a : List ℕ) → length a ≤ n → P s a
  up_to zero s a h = at_rest s a (nothing-whole a h)
  up_to (suc n) s a h = tested (first_command a) s a refl (up_to n (first_step s a).session (behind_first a) (shorter a n h))

  by-commands : (s : Session) (a : List ℕ) → P s a
  by-commands s a = up_to (length a) s a (omega arith)

-- ---- a stream cut in two

-- what is left begins with no whole command
abbrev LeftCut : Session → List ℕ → Type 0
LeftCut s a = is_whole (whole_commands s a).left ≡ false

pub left_cut : (s : Session) (a : List ℕ) → LeftCut s a
left_cut =
    by-commands LeftCut (λ s a w. ap (λ (r : Ran). is_whole r.left) (stopped (length a) s a w) ∙ w)
    (λ s a x e h. ap (λ (r : Ran). is_whole r.left) (one-command s a x e) ∙ h)

-- a, and then b behind what is left of a, come to the same as the whole: the session, what is printed and what is left
abbrev Cut : List ℕ → Session → List ℕ → Type 0
Cut b s a = whole_commands s (a ++ b) ≡ turn (whole_commands s a) b

cut-rest : (b : List ℕ) (s : Session) (a : List ℕ) → is_whole a ≡ false → Cut b s a
cut-rest b s a w = ap (λ (r : Ran). turn r b) (sym (stopped (length a) s a w))

cut-before : (b : List ℕ) (s : Session) (a : List ℕ) (x : Command × List ℕ) → first_command a ≡ Some x → behind (Cut b) s x → Cut b s a
cut-before b s a x e h =
    let m = operand_count x.0 in
    let fits = (found a x e).fits in
    let y = step s x.0 x.1 in
    let r = whole_commands y.session (drop m x.1) in
    one-command s (a ++ b) (x.0, x.1 ++ b) (first-cut a b x e)
    ∙ ap (λ (z : Step). printed_before z.line (whole_commands z.session (drop m (x.1 ++ b)))) (step_cut s x.0 x.1 b fits)
    ∙ ap (λ (l : List ℕ). printed_before y.line (whole_commands y.session l)) (drop-append-le m x.1 b fits)
    ∙ ap (printed_before y.line) h
    ∙ ap (λ (t : List ℕ). ran (turn r b).session t (turn r b).left)
    (sym (append_assoc y.line r.printed (whole_commands r.session (r.left ++ b)).printed))
    ∙ ap (λ (q : Ran). turn q b) (sym (one-command s a x e))

pub cut-anywhere : (s : Session) (a b : List ℕ) → whole_commands s (a ++ b) ≡ turn (whole_commands s a) b
cut-anywhere s a b = by-commands (Cut b) (cut-rest b) (cut-before b) s a
