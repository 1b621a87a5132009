-- A run, command by command. Assumes nothing.
use mathlib.Core.Path.{◌≡◌, refl, sym, ap, ◌∙◌, subst}
use mathlib.Core.Bool.{Bool, true, false, cond}
use mathlib.Core.List.{List, [], ◌∷◌, ◌++◌, append_assoc, append-nil}
use Prim.Native.Nat.{ℕ, zero, suc, ◌+◌, ◌-◌, ◌*◌, ◌≤◌, ◌<◌}
use native.Mathlib.Omega.{arith}
use borrow.Author.Tests.{leb-true}
use borrow.Rule.Slice.PartMut.{put_mid}
use lib.Dec.{leb}
use lib.ListN.{length, take, drop, length-append, length-drop, take-append-drop}
use lib.Seq.{drop_at}
use Rattle.std.proofs.Common.{Option, Some, None, Result, Ok, Err}
use Rattle.std.proofs.lemmas.Slice.{between_to_end}
use Rattle.bitbuffer.specs.Bits.{written, Wrote}
use Rattle.bitbuffer.proofs.Laws.{then}
use Rattle.interpreter.specs.declared.command.Command.{Command}
use Rattle.interpreter.specs.declared.command.UnknownCommand.{UnknownCommand}
use Rattle.interpreter.specs.declared.session.Session.{Session}
use Rattle.interpreter.specs.Slotrun.{Step, step, stepped, command_of, operand_count, with_operands, first_command, is_found, is_whole, step_found, first_step}
use Rattle.interpreter.specs.Slotrun.{behind_found, behind_first, Ran, ran, printed_before, commands}
use Rattle.interpreter.specs.Text.{line_octets}
use Rattle.interpreter.specs.Runs.{Runs}
use Rattle.interpreter.proofs.StepLaws.{put_written}

-- ---- the first command

-- it is that of an octet, and its operands are all there
pub record Found (input : List ℕ) (x : Command × List ℕ) : Type 0 where
  pub octet : ℕ
  pub whole : input ≡ octet ∷ x.1
  pub command : command_of octet ≡ Ok x.0
  pub fits : operand_count x.0 ≤ length x.1

pub found : (input : List ℕ) (x : Command × List ℕ) → first_command input ≡ Some x → Found input x
found [] x h = cc
found (c ∷ ops) x h = go (command_of c) refl h
  where
    there : (command : Command) → command_of c ≡ Ok command → (b : Bool) → leb (operand_count command) (length ops) ≡ b
        → cond b (Some (command, ops)) None ≡ Some x
        → Found (c ∷ ops) x
    there command e true t k =
        let same : (command, ops) ≡ x = cc in
        subst (λ y. Found (c ∷ ops) y) same (record { octet = c; whole = refl; command = e; fits = leb-true _ _ t })
    there command e false t k = cc

    go : (r : Result Command UnknownCommand) → command_of c ≡ r → with_operands r ops ≡ Some x → Found (c ∷ ops) x
    go (Ok command) e k = there command e (leb (operand_count command) (length ops)) refl k
    go (Err u) e k = cc

pub nothing-whole : (input : List ℕ) → length input ≤ 0 → is_whole input ≡ false
nothing-whole [] h = refl
nothing-whole (c ∷ ops) h = absurd (omega arith)

pub shorter : (input : List ℕ) (n : ℕ) → length input ≤ suc n → length (behind_first input) ≤ n
shorter input n h = go (first_command input) refl
  where
    go : (f : Option (Command × List ℕ)) → first_command input ≡ f → length (behind_found f) ≤ n
    go None e = omega arith
    go (Some x) e = omega (arith, ap length (found input x e).whole, length-drop (operand_count x.0) x.1)

-- ---- commands

-- "An unknown or cut command" is left
pub stopped : (n : ℕ) (s : Session) (input : List ℕ) → is_whole input ≡ false → commands n s input ≡ ran s [] input
unfolding commands
stopped zero s input h = refl
stopped (suc n) s input h = rw h

-- octets are as many as commands, or more: a greater number changes nothing
enough : (n k : ℕ) (s : Session) (input : List ℕ) → length input ≤ n → length input ≤ k → commands n s input ≡ commands k s input
unfolding commands
enough zero k s input h j = sym (stopped k s input (nothing-whole input h))
enough (suc n) zero s input h j = stopped (suc n) s input (nothing-whole input j)
enough (suc n) (suc k) s input h j =
    ap (λ (r : Ran). cond (is_whole input) (printed_before (first_step s input).line r) (ran s [] input))
    (enough n k (first_step s input).session (behind_first input) (shorter input n h) (shorter input k j))

-- what a command leaves and prints, before n more
turned : ℕ → Session → List ℕ → Option (Command × List ℕ) → Ran
turned n s input f = cond (is_found f) (printed_before (step_found s f).line (commands n (step_found s f).session (behind_found f))) (ran s [] input)

pub one-command : (s : Session) (input : List ℕ) (x : Command × List ℕ) → first_command input ≡ Some x
    → let y = step s x.0 x.1 in let rest = drop (operand_count x.0) x.1 in
    commands (length input) s input ≡ printed_before y.line (commands (length rest) y.session rest)
unfolding commands turned
one-command s input x h =
    let n = length x.1 in
    let m = operand_count x.0 in
    let size : length input ≡ suc n = ap length (found input x h).whole in
    ap (λ (k : ℕ). commands k s input) size
    ∙ ap (turned n s input) h
    ∙ ap (printed_before (step s x.0 x.1).line)
    (enough n (length (drop m x.1)) (step s x.0 x.1).session (drop m x.1) (omega (arith, length-drop m x.1)) (omega arith))

-- ---- the loop

-- with the session s, the text is printed and the rest of the input still gives the whole run
pub record Running (input : List ℕ) (s₀ s : Session) (out₀ out rest : List ℕ) (count : ℕ) : Type 0 where
  pub front : List ℕ
  pub whole : input ≡ front ++ rest
  pub text : List ℕ
  pub wrote : Wrote out₀ 0 out count text
  pub run : commands (length input) s₀ input ≡ printed_before text (commands (length rest) s rest)
  pub room : count + line_octets * length rest ≤ line_octets * length input

pub running-start : (input : List ℕ) (s : Session) (out : List ℕ) → Running input s s out out input 0
unfolding written
running-start input s out =
    record { front = []; whole = refl; text = []; wrote = record { ends = refl; bits = refl }; run = refl; room = omega arith }

-- a turn
module _ {input : List ℕ} {s₀ s : Session} {out₀ out rest : List ℕ} {count : ℕ} (k : Running input s₀ s out₀ out rest count) (x : Command × List ℕ)
    (h : first_command rest ≡ Some x) where
  abbrev m : ℕ
  m = operand_count x.0

  f : Found rest x
  f = found rest x h

  size : length rest ≡ suc (length x.1)
  size = ap length f.whole

  -- there is room for a line
  pub room-left : count + line_octets ≤ line_octets * length input
  room-left = omega (arith, k.room, size)

  -- as the code takes what is behind the operands
  behind-operands : (i : ℕ) → i ≡ m → take (length x.1 - i) (drop i x.1) ≡ drop m x.1
  behind-operands i e = rw e (between_to_end x.1 m (length x.1) (omega arith))

  pub shorter-rest : (i : ℕ) → i ≡ m → length (take (length x.1 - i) (drop i x.1)) < length rest
  shorter-rest i e = rw (behind-operands i e) (omega (arith, size, length-drop m x.1))

  behind : input ≡ (k.front ++ f.octet ∷ take m x.1) ++ drop m x.1
  behind =
      k.whole ∙ ap (λ (l : List ℕ). k.front ++ l) (f.whole ∙ ap (λ (l : List ℕ). f.octet ∷ l) (sym (take-append-drop m x.1)))
      ∙ sym (append_assoc k.front (f.octet ∷ take m x.1) (drop m x.1))

  next : (s' : Session) (line : List ℕ) (n : ℕ) → stepped s' line ≡ step s x.0 x.1 → length line ≤ line_octets → n ≡ length line
      → line_octets * length input ≤ length out
      → Running input s₀ s' out₀ (put_mid count n out line) (drop m x.1) (count + length line)
  next s' line n e few num fits =
      record {
        front = k.front ++ f.octet ∷ take m x.1;
        whole = behind;
        text = k.text ++ line;
        wrote = then k.wrote (record { ends = refl; bits = put_written out line count n num (omega (arith, room-left)) });
        run =
            k.run
            ∙ ap (printed_before k.text)
            (one-command s rest x h ∙ ap (λ (y : Step). printed_before y.line (commands (length (drop m x.1)) y.session (drop m x.1))) (sym e))
            ∙ ap (λ (t : List ℕ). ran (commands (length (drop m x.1)) s' (drop m x.1)).session t (commands (length (drop m x.1)) s' (drop m x.1)).left)
            (sym (append_assoc k.text line (commands (length (drop m x.1)) s' (drop m x.1)).printed));
        room = omega (arith, k.room, size, length-drop m x.1);
      }

  pub running-turn : (s' : Session) (line copied : List ℕ) (n i end : ℕ) → stepped s' line ≡ step s x.0 x.1 → length line ≤ line_octets → copied ≡ line
      → n ≡ length line → i ≡ m → end ≡ count + length line → line_octets * length input ≤ length out
      → Running input s₀ s' out₀ (put_mid count n out copied) (take (length x.1 - i) (drop i x.1)) end
  running-turn s' line copied n i end e few same num many ends fits = rw (same, ends, behind-operands i many) (next s' line n e few num fits)

-- the end
pub run-done : {input : List ℕ} {s₀ s : Session} {out₀ out rest : List ℕ} {count : ℕ} → Running input s₀ s out₀ out rest count → first_command rest ≡ None
    → Runs (commands (length input) s₀ input) (record { taken = length input - length rest; count = count }) input s out₀ out
run-done {input} {s₀} {s} {out₀} {out} {rest} {count} k none =
    let e : commands (length input) s₀ input ≡ ran s (k.text ++ []) rest =
    k.run ∙ ap (printed_before k.text) (stopped (length rest) s rest (ap is_found none)) in
    let size : length input ≡ length k.front + length rest = ap length k.whole ∙ length-append k.front rest in
    record {
      session-after = ap (λ (x : Ran). x.session) (sym e);
      printed = subst (λ t. Wrote out₀ 0 out count t) (sym (append-nil k.text) ∙ ap (λ (x : Ran). x.printed) (sym e)) k.wrote;
      left =
          ap (drop (length input - length rest)) k.whole ∙ drop_at k.front rest (length input - length rest) (omega (arith, size))
          ∙ ap (λ (x : Ran). x.left) (sym e);
      inside = omega arith;
      room = omega (arith, k.room);
    }
