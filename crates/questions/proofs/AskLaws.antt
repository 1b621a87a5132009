-- Questions asked one after the other: laws of any list of them. Assumes nothing.
use mathlib.Core.Path.{◌≡◌, refl, sym, ◌∙◌}
use mathlib.Core.Bool.{Bool, true, false, true≢false, cond}
use mathlib.Core.List.{List, [], ◌∷◌, ◌++◌}
use Prim.Native.Nat.{ℕ, zero, suc, ◌≤◌}
use native.Mathlib.Omega.{arith}
use lib.ListN.{length, get_or}
use Rattle.questions.specs.Questions.{Question, question, ask, asked_number}

-- what a test that the code negates has told
pub said-no : {b : Bool} {x : Bool} → b ≡ x → b ≡ false → x ≡ false
said-no e h = sym e ∙ h

pub said-yes : {b : Bool} {x : Bool} → b ≡ x → b ≡ true → x ≡ true
said-yes e h = sym e ∙ h

-- question k of a list, counted from 0
abbrev pub nth : ℕ → List Question → Question
nth k qs = get_or qs k (question true 0)

-- the first k questions of a list are answered yes
abbrev pub FirstYes : ℕ → List Question → Type 0
FirstYes zero qs = Unit
FirstYes (suc k) qs = FirstYes k qs × ((nth k qs).holds ≡ true)

one-past : (k : ℕ) (q : Question) (qs : List Question) → FirstYes (suc k) (q ∷ qs) → (q.holds ≡ true) × FirstYes k qs
one-past zero q qs h = (h.1, tt)
one-past (suc k) q qs h = let r = one-past k q qs h.0 in (r.0, (r.1, h.1))

-- every question of a list is answered yes
abbrev pub AllYes : List Question → Type 0
AllYes [] = Unit
AllYes (q ∷ qs) = (q.holds ≡ true) × AllYes qs

module _ {A : Type 0} (done : A) (refused : ℕ → A) where
  -- a yes leaves it to the questions that follow
  answered-yes : (q : Question) (qs : List Question) {a : A} → q.holds ≡ true → a ≡ ask qs done refused → a ≡ ask (q ∷ qs) done refused
  unfolding ask
  answered-yes q qs e h = rw e h

  -- the first no is the whole reply
  pub first-no : (k : ℕ) (qs : List Question) → FirstYes k qs → (nth k qs).holds ≡ false → refused (nth k qs).number ≡ ask qs done refused
  unfolding ask
  first-no zero [] h e = absurd (true≢false e)
  first-no (suc k) [] h e = absurd (true≢false e)
  first-no zero (q ∷ qs) h e = rw e
  first-no (suc k) (q ∷ qs) h e = let r = one-past k q qs h in answered-yes q qs r.0 (first-no k qs r.1 e)

  -- every answer is yes
  pub every-yes : (qs : List Question) → FirstYes (length qs) qs → done ≡ ask qs done refused
  unfolding ask
  every-yes [] h = refl
  every-yes (q ∷ qs) h = let r = one-past (length qs) q qs h in answered-yes q qs r.0 (every-yes qs r.1)

  -- questions in front of others, all answered yes, leave it to the others
  pub yes-before : (qs rest : List Question) → AllYes qs → ask (qs ++ rest) done refused ≡ ask rest done refused
  unfolding ask
  yes-before [] rest h = refl
  yes-before (q ∷ qs) rest h = rw h.0 (yes-before qs rest h.1)

  -- and so does one between two lists
  pub yes-between : (qs : List Question) (q : Question) (rest : List Question) → q.holds ≡ true
      → ask ((qs ++ q ∷ []) ++ rest) done refused ≡ ask (qs ++ rest) done refused
  unfolding ask
  yes-between [] q rest e = rw e
  yes-between (p ∷ qs) q rest e = rw (yes-between qs q rest e)

-- what holds of every refusal, and of what follows where every answer is yes, holds of the outcome
pub ask-elim : {A : Type 0} (P : A → Type 0) (qs : List Question) (done : A) (refused : ℕ → A)
    → ((n : ℕ) → P (refused n)) → (AllYes qs → P done) → P (ask qs done refused)
unfolding ask
ask-elim P [] done refused f g = g tt
ask-elim P (q ∷ qs) done refused f g = go (λ e. ask-elim P qs done refused f (λ h. g (e, h))) q.holds refl
  where
    go : (q.holds ≡ true → P (ask qs done refused)) → (b : Bool) → q.holds ≡ b → P (cond b (ask qs done refused) (refused q.number))
    go rest true e = rest e
    go rest false e = f q.number

-- two outcomes of one list: what holds of both refusals, and of both that follow where every answer is yes, holds of both outcomes
pub ask-both : {A B : Type 0} (P : A → B → Type 0) (qs : List Question) (a : A) (f : ℕ → A) (b : B) (g : ℕ → B)
    → ((n : ℕ) → P (f n) (g n)) → (AllYes qs → P a b) → P (ask qs a f) (ask qs b g)
unfolding ask
ask-both P [] a f b g bad fine = fine tt
ask-both P (q ∷ qs) a f b g bad fine = go (λ e. ask-both P qs a f b g bad (λ h. fine (e, h))) q.holds refl
  where
    go : (q.holds ≡ true → P (ask qs a f) (ask qs b g)) → (c : Bool) → q.holds ≡ c
        → P (cond c (ask qs a f) (f q.number)) (cond c (ask qs b g) (g q.number))
    go rest true e = rest e
    go rest false e = bad q.number

-- ---- some of a call's questions, asked apart

-- no question of a list has the number 0
abbrev pub Positive : List Question → Type 0
Positive [] = Unit
Positive (q ∷ qs) = (1 ≤ q.number) × Positive qs

-- where the number is 0, each is answered yes
pub number-yes : (qs : List Question) → Positive qs → asked_number qs ≡ 0 → AllYes qs
unfolding ask
number-yes [] p e = tt
number-yes (q ∷ qs) p e = go (number-yes qs p.1) q.holds refl e
  where
    go : (asked_number qs ≡ 0 → AllYes qs) → (b : Bool) → q.holds ≡ b → cond b (asked_number qs) q.number ≡ 0 → (q.holds ≡ true) × AllYes qs
    go later true y h = (y, later h)
    go later false y h = absurd (omega (arith, h, p.0))

-- where it is not, what holds of each number and its answer holds of a call that asks these questions first
pub number-no : {A : Type 0} (P : ℕ → A → Type 0) (done : A) (refused : ℕ → A) → ((n : ℕ) → 1 ≤ n → P n (refused n))
    → (qs rest : List Question) → Positive qs → (asked_number qs ≡ 0 → ⊥) → P (asked_number qs) (ask (qs ++ rest) done refused)
unfolding ask
number-no P done refused each [] rest p h = absurd (h refl)
number-no P done refused each (q ∷ qs) rest p h = go (number-no P done refused each qs rest p.1) q.holds h
  where
    go : ((asked_number qs ≡ 0 → ⊥) → P (asked_number qs) (ask (qs ++ rest) done refused)) → (b : Bool)
        → (cond b (asked_number qs) q.number ≡ 0 → ⊥)
        → P (cond b (asked_number qs) q.number) (cond b (ask (qs ++ rest) done refused) (refused q.number))
    go later true k = later k
    go later false k = each q.number p.0
