-- The lines that are as document 01 has them, command by command. Assumes nothing.
use mathlib.Core.Path.{◌≡◌, refl, sym, ap, ◌∙◌}
use mathlib.Core.Bool.{true, false, cond}
use mathlib.Core.List.{List}
use Prim.Native.Nat.{ℕ, zero, suc, ◌+◌, ◌-◌, ◌≤◌, ◌<◌}
use native.Mathlib.Nat.{zero-add}
use native.Mathlib.Omega.{arith}
use lib.ListN.{length, take, drop, length-drop}
use Rattle.std.proofs.Common.{Option, Some, None}
use Rattle.std.proofs.lemmas.Slice.{between_to_end}
use Rattle.interpreter.specs.declared.command.Command.{Command}
use Rattle.interpreter.specs.declared.session.Session.{Session}
use Rattle.interpreter.specs.Slotrun.{Step, memory_of, start, step, stepped, operand_count, first_command, is_found, step_found, behind_found}
use Rattle.interpreter.proofs.RunLaws.{found}
use Rattle.as_document_01.specs.Lines.{arises_at, arises_found, line_more, lines_from, lines_as_document01}

-- n lines more
abbrev more : ℕ → Option ℕ → Option ℕ
more n None = None
more n (Some k) = Some (n + k)

more-none : (x : Option ℕ) → more 0 x ≡ x
more-none None = refl
more-none (Some k) = ap Some (zero-add k)

more-line : (n : ℕ) (x : Option ℕ) → more n (line_more x) ≡ more (n + 1) x
more-line n None = refl
more-line n (Some k) = let e : n + suc k ≡ n + 1 + k = omega arith in ap Some e

-- ---- the first command

-- the lines by the first command that is found
turned : ℕ → Session → Option (Command × List ℕ) → Option ℕ
turned n s f = cond (is_found f) (cond (arises_found s f) (Some 0) (line_more (lines_from n (step_found s f).session (behind_found f)))) None

lines_end : (n : ℕ) (s : Session) (l : List ℕ) → first_command l ≡ None → lines_from n s l ≡ None
unfolding lines_from turned
lines_end zero s l h = refl
lines_end (suc n) s l h = ap (turned n s) h

lines_first : (n : ℕ) (s : Session) (l : List ℕ) (x : Command × List ℕ) → first_command l ≡ Some x
    → lines_from (suc n) s l
    ≡ cond (arises_at x.0 (memory_of s)) (Some 0) (line_more (lines_from n (step s x.0 x.1).session (drop (operand_count x.0) x.1)))
unfolding lines_from turned
lines_first n s l x h = ap (turned n s) h

-- ---- the loop

-- before the commands of `rest`, with the session s: `count` lines, and those that the rest gives
pub record Running (input : List ℕ) (s : Session) (rest : List ℕ) (count : ℕ) : Type 0 where
  pub most : ℕ
  pub enough : length rest ≤ most
  pub lines : lines_as_document01 input ≡ more count (lines_from most s rest)
  pub few : count + length rest ≤ length input

pub running-start : (input : List ℕ) (s : Session) → s ≡ start → Running input s input 0
unfolding lines_as_document01
running-start input s e =
    record {
      most = length input;
      enough = omega arith;
      lines = ap (λ (x : Session). lines_from (length input) x input) (sym e) ∙ sym (more-none _);
      few = omega arith;
    }

module _ {input : List ℕ} {s : Session} {rest : List ℕ} {count : ℕ} (k : Running input s rest count) where
  pub running-end : first_command rest ≡ None → None ≡ lines_as_document01 input
  running-end h = sym (k.lines ∙ ap (more count) (lines_end k.most s rest h))

  module _ (x : Command × List ℕ) (h : first_command rest ≡ Some x) where
    abbrev m : ℕ
    m = operand_count x.0

    size : length rest ≡ suc (length x.1)
    size = ap length (found rest x h).whole

    pub one-more : count < length input
    one-more = omega (arith, size, k.few)

    one : suc (k.most - 1) ≡ k.most
    one = omega (arith, size, k.enough)

    lines-is : lines_as_document01 input
        ≡ more count (cond (arises_at x.0 (memory_of s)) (Some 0) (line_more (lines_from (k.most - 1) (step s x.0 x.1).session (drop m x.1))))
    lines-is = k.lines ∙ ap (λ (n : ℕ). more count (lines_from n s rest)) (sym one) ∙ ap (more count) (lines_first (k.most - 1) s rest x h)

    pub running-found : arises_at x.0 (memory_of s) ≡ true → Some count ≡ lines_as_document01 input
    running-found a = let z : count + 0 ≡ count = omega arith in sym (lines-is ∙ rw a (ap Some z))

    -- as the code takes what is behind the operands
    behind-operands : (i : ℕ) → i ≡ m → take (length x.1 - i) (drop i x.1) ≡ drop m x.1
    behind-operands i e = rw e (between_to_end x.1 m (length x.1) (omega arith))

    pub shorter-rest : (i : ℕ) → i ≡ m → length (take (length x.1 - i) (drop i x.1)) < length rest
    shorter-rest i e = rw (behind-operands i e) (omega (arith, size, length-drop m x.1))

    pub running-next : (s' : Session) (line : List ℕ) (i : ℕ) → arises_at x.0 (memory_of s) ≡ false → stepped s' line ≡ step s x.0 x.1 → i ≡ m
        → Running input s' (take (length x.1 - i) (drop i x.1)) (count + 1)
    running-next s' line i a e many =
        rw (behind-operands i many) (record {
          most = k.most - 1;
          enough = omega (arith, size, k.enough, length-drop m x.1);
          lines =
              lines-is ∙ rw a (more-line count (lines_from (k.most - 1) (step s x.0 x.1).session (drop m x.1)))
              ∙ ap (λ (y : Step). more (count + 1) (lines_from (k.most - 1) y.session (drop m x.1))) (sym e);
          few = omega (arith, size, k.few, length-drop m x.1);
        })
