-- Fields one after another. Assumes nothing.
use mathlib.Core.Path.{◌≡◌, sym, ap, ◌∙◌}
use mathlib.Core.List.{List, [], ◌∷◌, ◌++◌, append_assoc, append-nil}
use Prim.Native.Nat.{ℕ, ◌+◌, ◌<◌}
use native.Mathlib.Numerals.{add-one}
use lib.ListN.{length, take, get_or}
use lib.Seq.{take-suc}
use Rattle.interpreter.specs.Text.{number, numbers}

numbers-snoc : (ns : List ℕ) (n : ℕ) → numbers (ns ++ n ∷ []) ≡ numbers ns ++ number n
unfolding numbers
numbers-snoc [] n = append-nil (number n)
numbers-snoc (x ∷ ns) n = ap (λ (l : List ℕ). number x ++ l) (numbers-snoc ns n) ∙ sym (append_assoc (number x) (numbers ns) (number n))

pub numbers_more : (l ns : List ℕ) (i : ℕ) → i < length ns → (l ++ numbers (take i ns)) ++ number (get_or ns i 0) ≡ l ++ numbers (take (i + 1) ns)
numbers_more l ns i h =
    append_assoc l (numbers (take i ns)) (number (get_or ns i 0))
    ∙ ap (λ (k : List ℕ). l ++ k) (sym (rw (add-one, take-suc ns i 0 h, numbers-snoc (take i ns) (get_or ns i 0))))
