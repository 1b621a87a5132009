-- Words stored in a part of others, and those of one element in the words of a list. Assumes nothing.
use Rattle.std.proofs.Common.{◌≡◌, ℕ, suc, ◌+◌, ◌*◌, ◌<◌, ◌≤◌, List, [], ◌∷◌, ◌++◌, length, get_or, take, drop, set, sym, refl, ap, ◌∙◌, ap₂, append_assoc}
use Rattle.std.proofs.Common.{arith, length-append, length-set, take-append-drop, length-take-le, drop-cons, drop-drop, take_at, drop_at}
use lib.Seq.{sets, sets-eq, set-append_left, set_split}
use Rattle.lists.proofs.Lists.{set-append-add}
use Rattle.sched_words.specs.Words.{words_of_all}
use Rattle.sched_words.proofs.WordLaws.{joined-append, length-joined}

-- in the first of two lists
pub sets-left : (a b : List ℕ) (i : ℕ) (w : List ℕ) → i + length w ≤ length a → sets (a ++ b) i w ≡ sets a i w ++ b
sets-left a b i [] h = refl
sets-left a b i (x ∷ w) h =
    ap (λ (l : List ℕ). sets l (suc i) w) (set-append_left a b i x (omega arith)) ∙ sets-left (set a i x) b (suc i) w (omega (arith, length-set a i x))

-- in the second
pub sets-right : (a b : List ℕ) (n i : ℕ) (w : List ℕ) → length a ≡ n → sets (a ++ b) (n + i) w ≡ a ++ sets b i w
sets-right a b n i [] e = refl
sets-right a b n i (x ∷ w) e =
    let k : suc (n + i) ≡ n + suc i = omega arith in
    ap₂ (λ (l : List ℕ) (j : ℕ). sets l j w) (ap (λ (m : ℕ). set (a ++ b) (m + i) x) (sym e) ∙ set-append-add a b i x) k
    ∙ sets-right a (set b i x) n (suc i) w e

-- words over as many in the middle
pub sets-middle : (a v r w : List ℕ) (n : ℕ) → length a ≡ n → length v ≡ length w → sets (a ++ (v ++ r)) n w ≡ a ++ (w ++ r)
sets-middle a v r w n e l =
    let whole : List ℕ = a ++ (v ++ r) in
    let room : n + length w ≤ length whole = omega (arith, length-append a (v ++ r), length-append v r) in
    let past : drop (n + length w) whole ≡ r =
    sym (drop-drop (length w) n whole) ∙ ap (drop (length w)) (drop_at a (v ++ r) n e) ∙ drop_at v r (length w) l in
    sets-eq w whole n room ∙ ap₂ (λ (x y : List ℕ). x ++ w ++ y) (take_at a (v ++ r) n e) past ∙ append_assoc a w r

module _ {A : Type 0} (f : A → List ℕ) (k : ℕ) (size : (x : A) → length (f x) ≡ k) where
  pub set-joined : (xs : List A) (i : ℕ) (x : A) → i < length xs → sets (words_of_all f xs) (k * i) (f x) ≡ words_of_all f (set xs i x)
  unfolding words_of_all
  set-joined xs i x h =
      let y = get_or xs i x in
      let before = words_of_all f (take i xs) in
      let after = words_of_all f (drop (suc i) xs) in
      let split : words_of_all f xs ≡ before ++ (f y ++ after) =
      ap (words_of_all f) (sym (take-append-drop i xs)) ∙ joined-append f (take i xs) (drop i xs)
      ∙ ap (λ (l : List A). before ++ words_of_all f l) (drop-cons xs i x h) in
      let long : length before ≡ k * i = length-joined f k size (take i xs) ∙ ap (λ (n : ℕ). n * k) (length-take-le i xs (omega arith)) ∙ omega arith in
      ap (λ (l : List ℕ). sets l (k * i) (f x)) split
      ∙ sets-middle before (f y) after (f x) (k * i) long (size y ∙ sym (size x))
      ∙ sym (ap (words_of_all f) (set_split xs i x h) ∙ joined-append f (take i xs) (x ∷ drop (suc i) xs))
