-- Runs of any stepping thing: one after another, and two that step alike. Assumes nothing.
use mathlib.Core.Path.{◌≡◌, refl}
use mathlib.Core.List.{List, [], ◌∷◌, ◌++◌}
use Rattle.questions.specs.Questions.{Question}
use Rattle.questions.proofs.AskLaws.{AllYes, ask-elim}
use Rattle.history.specs.Call.{Call, Stepped, unless_refused, run}

module _ {S : Type 0} where
  module _ (step : Call → S → Stepped S) where
    pub run-append : (cs ds : List Call) (s : S) → run step (cs ++ ds) s ≡ run step ds (run step cs s)
    unfolding run
    run-append [] ds s = refl
    run-append (c ∷ cs) ds s = run-append cs ds (step c s).after

    pub run_more : (cs : List Call) (c : Call) (s : S) → run step (cs ++ c ∷ []) s ≡ (step c (run step cs s)).after
    unfolding run
    run_more cs c s = run-append cs (c ∷ []) s

  -- a fact of what a call leaves, refused or not
  pub unless-after : (P : S → Type 0) (qs : List Question) (s : S) (fine : Stepped S) → P s → (AllYes qs → P fine.after)
      → P (unless_refused qs s fine).after
  unfolding unless_refused
  unless-after P qs s fine h g = ask-elim (λ (y : Stepped S). P y.after) qs fine _ (λ r. h) g

-- ---- two that step alike

module _ {S T : Type 0} (R : S → T → Type 0) where
  -- what they leave is related, and their replies are the same
  pub record Agree (x : Stepped S) (y : Stepped T) : Type 0 where
    pub after : R x.after y.after
    pub reply : x.reply ≡ y.reply

  pub run_agree : (f : Call → S → Stepped S) (g : Call → T → Stepped T) → ((c : Call) (s : S) (t : T) → R s t → Agree (f c s) (g c t))
      → (cs : List Call) (s : S) (t : T) → R s t → R (run f cs s) (run g cs t)
  unfolding run
  run_agree f g k [] s t h = h
  run_agree f g k (c ∷ cs) s t h = run_agree f g k cs (f c s).after (g c t).after (k c s t h).after
