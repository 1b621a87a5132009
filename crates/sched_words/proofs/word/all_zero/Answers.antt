-- What is or-ed is 0 exactly if each word is. Assumes nothing.
use Rattle.std.proofs.Common.{◌≡◌, ℕ, ◌&&◌, eqb, List, [], ◌∷◌, sym, ap, ◌∙◌, rules, tests}
use Rattle.std.specs.List.{fold}
use Rattle.std.proofs.lemmas.Iterator.{YieldsList-from_slice}
use Rattle.std.proofs.lemmas.Iterator.Consumers.{fold_from_yields_List}
use lib.Bits.{bit_or}
use mathlib.Core.Bool.{Bool, and_assoc, and-true}
use Rattle.dl_sdu_store.specs.Cells.{all_zero}
use Rattle.dl_sdu_store.proofs.ZeroLaws.{or-zero}
use Rattle.sched_words.proofs.word.all_zero.Goals as goal

or-all : (a : ℕ) (ws : List ℕ) → eqb (fold bit_or a ws) 0 ≡ eqb a 0 && all_zero ws
unfolding all_zero
or-all a [] = sym (and-true (eqb a 0))
or-all a (w ∷ ws) = or-all (bit_or a w) ws ∙ ap (λ (b : Bool). b && all_zero ws) (or-zero a w) ∙ and_assoc (eqb a 0) (eqb w 0) (all_zero ws)

pub returns : goal.returns
returns c =
    let e = fold_from_yields_List _ bit_or 0 _ c.fold.ensures.ran (YieldsList-from_slice c.args.words.now cc) (λ a x b q k. search (rules, tests)) in
    rw e (or-all 0 c.args.words.now)
