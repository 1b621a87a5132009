-- The questions as the code asks them. Assumes nothing.
use mathlib.Core.Path.{◌≡◌, ap}
use mathlib.Core.Bool.{Bool, ◌&&◌}
use mathlib.Core.List.{List}
use Prim.Native.Nat.{ℕ, ◌*◌}
use native.Mathlib.Omega.{arith}
use Rattle.std.specs.Int.{div_ceil}
use lib.Dec.{leb}
use lib.ListN.{length}
use borrow.Author.Tests.{leb-true, le-leb}
use Rattle.sizes.specs.Sizes.{sdu_bits}
use Rattle.dl_record.specs.Questions.{present_sdu}
use Rattle.dl_record.proofs.Tests.{same_test}

-- bits are present exactly if their octets are
octets-present : (n m : ℕ) → leb (div_ceil n 8) m ≡ leb n (8 * m)
octets-present n m =
    same_test (leb (div_ceil n 8) m) (leb n (8 * m)) (λ e. le-leb n (8 * m) (omega (arith, leb-true (div_ceil n 8) m e)))
    (λ e. le-leb (div_ceil n 8) m (omega (arith, leb-true n (8 * m) e)))

pub present-sdu : (n : ℕ) (s : List ℕ) → leb n sdu_bits && leb (div_ceil n 8) (length s) ≡ present_sdu n s
unfolding present_sdu
present-sdu n s = ap (λ (b : Bool). leb n sdu_bits && b) (octets-present n (length s))
