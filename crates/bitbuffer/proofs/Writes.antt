-- What a write leaves alone, and two writes in a row, for any width. Assumes nothing.
use mathlib.Core.Path.{◌≡◌, refl, ap, ◌∙◌}
use mathlib.Core.Logic.{◌⊎◌, inl, inr}
use mathlib.Core.List.{List, [], ◌∷◌}
use Prim.Native.Nat.{ℕ, suc, ◌+◌, ◌≤◌, ◌<◌}
use native.Mathlib.Omega.{arith}
use lib.ListN.{length, get_or, set}
use lib.Seq.{get_or-set_other, set_comm}
use Rattle.bitbuffer.specs.Bits.{written}

-- a bit before the field, or behind it, is left alone
pub written-elsewhere : (l : List ℕ) (at : ℕ) (f : List ℕ) (i : ℕ) → (i < at) ⊎ (at + length f ≤ i) → get_or (written l at f) i 0 ≡ get_or l i 0
unfolding written
written-elsewhere l at [] i h = refl
written-elsewhere l at (b ∷ f) i (inl h) =
    written-elsewhere (set l at b) (suc at) f i (inl (omega arith)) ∙ get_or-set_other l at i b 0 (λ e. omega arith)
written-elsewhere l at (b ∷ f) i (inr h) =
    written-elsewhere (set l at b) (suc at) f i (inr (omega arith)) ∙ get_or-set_other l at i b 0 (λ e. omega arith)

-- a bit set before a field, or after the field was written
pub set_before : (l : List ℕ) (i b at : ℕ) (f : List ℕ) → i < at → written (set l i b) at f ≡ set (written l at f) i b
unfolding written
set_before l i b at [] h = refl
set_before l i b at (x ∷ f) h =
    ap (λ (m : List ℕ). written m (suc at) f) (set_comm l i at b x (λ e. omega arith)) ∙ set_before (set l at x) i b (suc at) f (omega arith)

-- two writes that do not meet may be made in either order
pub written-disjoint : (l : List ℕ) (at : ℕ) (f : List ℕ) (to : ℕ) (g : List ℕ) → at + length f ≤ to
    → written (written l at f) to g ≡ written (written l to g) at f
unfolding written
written-disjoint l at [] to g h = refl
written-disjoint l at (b ∷ f) to g h =
    written-disjoint (set l at b) (suc at) f to g (omega arith)
    ∙ ap (λ (m : List ℕ). written m (suc at) f) (set_before l at b to g (omega arith))
