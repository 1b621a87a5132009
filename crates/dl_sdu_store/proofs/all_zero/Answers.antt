-- What is or-ed so far is 0 exactly if the octets so far are.
use mathlib.Core.Path.{◌≡◌, refl, subst}
use mathlib.Core.List.{List, [], ◌∷◌, ◌++◌}
use Prim.Native.Nat.{ℕ}
use lib.Dec.{eqb}
use lib.Bits.{bit_or}
use Rattle.std.proofs.Common.{rules}
use Rattle.std.proofs.lemmas.Fn.{fold_over, slice_gives, fronts}
use Rattle.dl_sdu_store.specs.Cells.{all_zero}
use Rattle.dl_sdu_store.proofs.ZeroLaws.{or-more}
use Rattle.dl_sdu_store.proofs.all_zero.Goals as goal

nothing : eqb 0 0 ≡ all_zero []
unfolding all_zero
nothing = refl

pub returns : goal.returns
returns c =
    subst (λ (s : List ℕ). eqb c.fold.result 0 ≡ all_zero s) c.iter.ensures.rest
    (fold_over fronts (λ y. y.now) _ (λ ys n. eqb n 0 ≡ all_zero ys) _
    (λ ys a x b f' j k. let more : b ≡ bit_or a x.now → eqb b 0 ≡ all_zero (ys ++ (x.now ∷ [])) = or-more ys a x.now b j in search (rules, more))
    _ _ _ _ (slice_gives c.iter.result) nothing c.fold.ensures.ran)
