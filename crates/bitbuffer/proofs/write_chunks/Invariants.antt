-- `write_chunks`: whatever bits the closure gives, what is left to write of them still gives the final bits. Assumes nothing.
use mathlib.Core.List.{List}
use mathlib.Core.Path.{◌≡◌}
use Prim.Native.Nat.{ℕ, ◌+◌, ◌-◌, ◌≤◌}
use lib.ListN.{length}
use Rattle.bitbuffer.specs.Bits.{bits_of, written, part}
use Rattle.bitbuffer.specs.Chunks.{GivesBits}
use Rattle.bitbuffer.proofs.write_chunks.Given as goal

abbrev pub invariant-loop-left : goal.invariant-loop-left
invariant-loop-left g l =
    (l.pos + l.left ≡ l.at + l.n) × (l.left ≤ l.n) × (length l.s ≡ length l.initial.s)
    × ((f : List ℕ) → GivesBits (goal.F-post g l.bits) l.n f
    → written (bits_of l.s) l.pos (part f (l.n - l.left) l.left) ≡ written (bits_of l.initial.s) l.at f)

abbrev pub decreases-loop-left : goal.decreases-loop-left
decreases-loop-left g l = l.left
