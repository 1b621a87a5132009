-- What a turn leaves, and the turns one after the other. Assumes nothing.
use mathlib.Core.Path.{◌≡◌, refl, sym, ap, ◌∙◌, subst}
use mathlib.Core.Bool.{Bool, true, false, ◌&&◌, not}
use mathlib.Core.List.{List, [], ◌∷◌, ◌++◌}
use Prim.Native.Nat.{ℕ, ◌-◌, ◌≤◌}
use native.Mathlib.Nat.{zero-add}
use native.Mathlib.Omega.{arith}
use lib.Dec.{ltb}
use lib.ListN.{length, take, drop, length-drop, take-append-drop}
use lib.Seq.{slice, length-slice, length-take-le, take-take, take_at}
use borrow.Author.Tests.{lt-ltb, le-ltb}
use Rattle.std.proofs.lemmas.Slice.{between_is}
use Rattle.std.specs.List.{copy_within}
use Rattle.interpreter.specs.declared.session.Session.{Session}
use Rattle.interpreter.specs.Slotrun.{start, Ran, printed_before}
use Rattle.interpreter.specs.Turns.{whole_commands, turn, turns, begun, is_unknown}
use Rattle.interpreter.proofs.CutLaws.{left_cut}
use Rattle.interpreter.proofs.TurnLaws.{turns_next, cut_short}
use Rattle.slotrun.specs.declared.Program.{Program}
use Rattle.slotrun.specs.Turned.{is_some, Turned, ReadTurn, Reached}

-- ---- a turn

-- the octets that are kept, moved to the front
pub kept : (input : List ℕ) (from to : ℕ) → to ≤ length input → from ≤ to → take (to - from) (copy_within input from to 0) ≡ drop from (take to input)
kept input from to high low =
    let n = to - from in
    let part = take n (drop from input) in
    ap (λ (k : ℕ). take n (part ++ drop k input)) (zero-add n)
    ∙ take_at part (drop n input) n (omega (arith, length-take-le n (drop from input) (omega (arith, length-drop from input))))
    ∙ between_is input from to

-- the octets held, and those that the read has brought
brought : (input₀ input : List ℕ) (held all : ℕ) → held ≤ all → take held input ≡ take held input₀ → take all input ≡ take held input₀ ++ slice held all input
brought input₀ input held all h same =
    sym (take-append-drop held (take all input)) ∙ ap (λ (l : List ℕ). l ++ slice held all input) (take-take held all input h ∙ same)

some-brought : (next : List ℕ) (held all : ℕ) → length next ≡ all - held → ltb held all ≡ is_some next
some-brought [] held all h = le-ltb held all (omega arith)
some-brought (c ∷ next) held all h = lt-ltb held all (omega arith)

pub read-turn : (p : Program) {on : Bool} {p' : Program} (input : List ℕ) (all : ℕ) → p.held ≤ all → all ≤ length input
    → take p.held input ≡ take p.held p.input
    → Turned (record { session = p.session; input = input; held = p.held; out = p.out }) (take all input) (ltb p.held all) on p'
    → ReadTurn p on p'
read-turn p {on} {p'} input all low high same t =
    let next = slice p.held all input in
    let q : Program = record { session = p.session; input = input; held = p.held; out = p.out } in
    let behind : take all input ≡ take p.held p.input ++ next = brought p.input input p.held all low same in
    let some : ltb p.held all ≡ is_some next = some-brought next p.held all (length-slice p.held all input high) in
    let u = subst (λ (l : List ℕ). Turned q l (ltb p.held all) on p') behind t in
    let v = subst (λ (b : Bool). Turned q (take p.held p.input ++ next) b on p') some u in
    record {
      next = next;
      turned = record { session-after = v.session-after; count = v.count; printed = v.printed; left = v.left; inside = v.inside; reads_on = v.reads_on };
    }

-- ---- turns

pub reached-start : (s : Session) → s ≡ start → Reached s []
unfolding turns
reached-start s e = record { parts = []; session-is = sym e; left_is = refl }

module _ {p p' : Program} {on : Bool} (t : ReadTurn p on p') where
  abbrev x : Ran
  x = whole_commands p.session (take p.held p.input ++ t.next)

  pub reached-next : Reached p.session (take p.held p.input) → Reached p'.session (take p'.held p'.input)
  reached-next k =
      let e = turns_next begun k.parts t.next in
      let same : turn (turns begun k.parts) t.next ≡ printed_before (turns begun k.parts).printed x = rw (k.session-is, k.left_is) in
      record {
        parts = k.parts ++ (t.next ∷ []);
        session-is = ap (λ (r : Ran). r.session) (e ∙ same) ∙ sym t.turned.session-after;
        left_is = ap (λ (r : Ran). r.left) (e ∙ same) ∙ sym t.turned.left;
      }

  on-known : (a u : Bool) → a && not u ≡ true → u ≡ false
  on-known a false h = refl
  on-known true true h = cc
  on-known false true h = cc

  -- where it reads on there is room in the input
  pub room-to-read : on ≡ true → p'.held ≤ 33
  room-to-read goes =
      let known = on-known (is_some t.next) (is_unknown x.left) (sym t.turned.reads_on ∙ goes) in
      let size : length (take p'.held p'.input) ≡ length x.left = ap length t.turned.left in
      omega (arith, size, length-take-le p'.held p'.input t.turned.inside, cut_short x.left (left_cut p.session (take p.held p.input ++ t.next)) known)
