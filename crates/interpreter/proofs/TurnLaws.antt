-- What `slotrun` prints depends on the octets of its input only, not on how the reads cut them. Assumes nothing.
use mathlib.Core.Path.{◌≡◌, refl, sym, ap, ◌∙◌}
use mathlib.Core.Bool.{Bool, true, false, cond, false≢true}
use mathlib.Core.List.{List, [], ◌∷◌, ◌++◌, append_assoc, append-nil}
use Prim.Native.Nat.{ℕ, suc, ◌≤◌, ◌<◌}
use native.Mathlib.Omega.{arith}
use lib.Dec.{leb}
use lib.ListN.{length}
use borrow.Author.Tests.{leb-false}
use Rattle.std.proofs.Common.{Some, None, Result, Ok, Err}
use Rattle.interpreter.specs.declared.command.Command.{Command}
use Rattle.interpreter.specs.declared.command.UnknownCommand.{UnknownCommand}
use Rattle.interpreter.specs.Slotrun.{operand_count, command_of, with_operands, is_found, is_whole, Ran, ran, printed_before, ending, start, slotrun}
use Rattle.interpreter.specs.Turns.{input_of, whole_commands, turn, turns, begun, is_none, is_unknown, at_end, reading_from, slotrun_in_parts}
use Rattle.interpreter.proofs.RunLaws.{stopped}
use Rattle.interpreter.proofs.CutLaws.{left_cut, cut-anywhere}

-- ---- turns

-- a part behind octets that stay without a whole command: nothing is done
turn-stops : (r : Ran) (next : List ℕ) → is_whole (r.left ++ next) ≡ false → turn r next ≡ ran r.session r.printed (r.left ++ next)
turn-stops r next w =
    let l = r.left ++ next in
    ap (printed_before r.printed) (stopped (length l) r.session l w) ∙ ap (λ (t : List ℕ). ran r.session t l) (append-nil r.printed)

-- a turn with no octets
pub turn-nothing : (r : Ran) → is_whole r.left ≡ false → turn r [] ≡ r
turn-nothing r w =
    let same = append-nil r.left in
    turn-stops r [] (ap is_whole same ∙ w) ∙ ap (ran r.session r.printed) same

-- two turns are one with both parts
turn-turn : (r : Ran) (a b : List ℕ) → turn (turn r a) b ≡ turn r (a ++ b)
turn-turn r a b =
    let x = whole_commands r.session (r.left ++ a) in
    let y = whole_commands x.session (x.left ++ b) in
    ap (λ (t : List ℕ). ran y.session t y.left) (append_assoc r.printed x.printed y.printed)
    ∙ ap (printed_before r.printed) (sym (cut-anywhere r.session (r.left ++ a) b))
    ∙ ap (λ (l : List ℕ). printed_before r.printed (whole_commands r.session l)) (append_assoc r.left a b)

-- any number of turns are one with the whole input
turns-turn : (r : Ran) (parts : List (List ℕ)) → is_whole r.left ≡ false → turns r parts ≡ turn r (input_of parts)
unfolding turns input_of
turns-turn r [] w = sym (turn-nothing r w)
turns-turn r (next ∷ parts) w = turns-turn (turn r next) parts (left_cut r.session (r.left ++ next)) ∙ turn-turn r next (input_of parts)

-- The turns come to what the commands of the whole input come to: the session, what is printed, and what is left.
pub turns-whole : (parts : List (List ℕ)) → turns begun parts ≡ whole_commands start (input_of parts)
turns-whole parts = turns-turn begun parts refl

pub turns_next : (r : Ran) (parts : List (List ℕ)) (next : List ℕ) → turns r (parts ++ (next ∷ [])) ≡ turn (turns r parts) next
unfolding turns
turns_next r [] next = refl
turns_next r (first ∷ parts) next = turns_next (turn r first) parts next

-- ---- an unknown command

unknown-cut : (a b : List ℕ) → is_unknown a ≡ true → is_whole (a ++ b) ≡ false
unknown-cut [] b u = absurd (false≢true u)
unknown-cut (c ∷ ops) b u = go (command_of c) u
  where
    go : (r : Result Command UnknownCommand) → is_none r ≡ true → is_found (with_operands r (ops ++ b)) ≡ false
    go (Ok command) h = absurd (false≢true h)
    go (Err e) h = refl

unknown-stays : (a b : List ℕ) → is_unknown a ≡ true → is_unknown (a ++ b) ≡ true
unknown-stays [] b u = absurd (false≢true u)
unknown-stays (c ∷ ops) b u = u

same-ending : (a b : List ℕ) → is_unknown a ≡ true → ending (a ++ b) ≡ ending a
same-ending [] b u = absurd (false≢true u)
same-ending (c ∷ ops) b u = refl

-- parts behind it change nothing that is printed
unknown-ends : (r : Ran) (parts : List (List ℕ)) → is_unknown r.left ≡ true → at_end (turns r parts) ≡ at_end r
unfolding turns
unknown-ends r [] u = refl
unknown-ends r (next ∷ parts) u =
    let e = turn-stops r next (unknown-cut r.left next u) in
    unknown-ends (turn r next) parts (ap (λ (x : Ran). is_unknown x.left) e ∙ unknown-stays r.left next u)
    ∙ ap at_end e ∙ ap (λ (l : List ℕ). r.printed ++ l) (same-ending r.left next u)

-- ---- a cut command

most-operands : (c : Command) → operand_count c ≤ 33
most-operands Command.New = omega arith
most-operands Command.Advance = omega arith
most-operands Command.Request = omega arith
most-operands Command.Stage = omega arith
most-operands Command.Queue = omega arith
most-operands Command.Build = omega arith

-- what is left before it is at most 33 octets
pub cut_short : (l : List ℕ) → is_whole l ≡ false → is_unknown l ≡ false → length l ≤ 33
cut_short [] w u = omega arith
cut_short (c ∷ ops) w u = go (command_of c) w u
  where
    missing : (command : Command) (t : Bool) → is_found (cond t (Some (command, ops)) None) ≡ false → t ≡ false
    missing command true h = absurd (false≢true (sym h))
    missing command false h = refl

    go : (r : Result Command UnknownCommand) → is_found (with_operands r ops) ≡ false → is_none r ≡ false → suc (length ops) ≤ 33
    go (Ok command) h k =
        let m = operand_count command in
        let few : length ops < m = leb-false m (length ops) (missing command (leb m (length ops)) h) in
        omega (arith, few, most-operands command)
    go (Err e) h k = absurd (false≢true (sym k))

-- ---- the program

either_way : {A : Type 0} {x y z : A} (b : Bool) → (b ≡ true → x ≡ z) → y ≡ z → cond b x y ≡ z
either_way true p q = p refl
either_way false p q = q

reading-turns : (r : Ran) (parts : List (List ℕ)) → reading_from r parts ≡ at_end (turns r parts)
unfolding reading_from turns
reading-turns r [] = refl
reading-turns r (next ∷ parts) = either_way (is_unknown r.left) (λ u. sym (unknown-ends r (next ∷ parts) u)) (reading-turns (turn r next) parts)

-- What is printed for an input in any parts is what is printed for the whole.
pub parts_whole : (parts : List (List ℕ)) → slotrun_in_parts parts ≡ slotrun (input_of parts)
unfolding slotrun
parts_whole parts = reading-turns begun parts ∙ ap at_end (turns-whole parts)

-- So two ways to cut one input print the same.
pub cut-alike : (parts others : List (List ℕ)) → input_of parts ≡ input_of others → slotrun_in_parts parts ≡ slotrun_in_parts others
cut-alike parts others e = parts_whole parts ∙ ap slotrun e ∙ sym (parts_whole others)
