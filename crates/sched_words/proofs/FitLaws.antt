-- Words that are those of what is read from them: single words, and words one after another. Assumes nothing.
use Rattle.std.proofs.Common.{◌≡◌, ℕ, zero, suc, ◌+◌, ◌*◌, ◌%◌, ◌^◌, ◌<◌, ◌≤◌, Bool, true, ◌&&◌, eqb, leb, List, [], ◌∷◌, ◌++◌, length, get_or, take}
use Rattle.std.proofs.Common.{drop, replicate, sym, refl, ap, ◌∙◌, ap₂, arith, drop-cons, drop-drop, le-leb, leb-true}
use Rattle.std.proofs.Common.{eq-eqb, eqb-true}
use mathlib.Core.Bool.{and_assoc}
use Rattle.dl_record.proofs.Tests.{same_test}
use Rattle.dl_sdu_store.specs.Cells.{all_zero}
use Rattle.sched_words.specs.Words.{itself, unless_zero, opt_word, words_of_all, read_all, same_words}
use Rattle.sched_words.specs.FieldLaws.{FieldLaws}
use Rattle.sched_words.specs.Front.{begins}

-- ---- single words

pub eqb-sym : (a b : ℕ) → eqb a b ≡ eqb b a
eqb-sym a b = same_test (eqb a b) (eqb b a) (λ e. eq-eqb b a (sym (eqb-true a b e))) (λ e. eq-eqb a b (sym (eqb-true b a e)))

-- a word is that of the field read from it exactly if it is not above the greatest
pub most-fits : {A : Type 0} {from_word : ℕ → A} {word : A → ℕ} {most : ℕ} → FieldLaws from_word word most → (w : ℕ) → w < 2 ^ 32
    → leb w most ≡ eqb (word (from_word w)) w
most-fits {from_word = from_word} {word = word} {most = most} laws w h =
    same_test (leb w most) (eqb (word (from_word w)) w) (λ e. eq-eqb (word (from_word w)) w (laws.back w (leb-true w most e)))
    (λ e. le-leb w most (rw (eqb-true (word (from_word w)) w e) at (laws.within w h)))

-- any word is that of the owner read from it
pub owner-fits : (w : ℕ) → w < 2 ^ 32 → true ≡ eqb (opt_word (unless_zero itself w)) w
owner-fits zero h = refl
owner-fits (suc v) h = let e : (v + 1) % 2 ^ 32 ≡ suc v = omega arith in sym (eq-eqb ((v + 1) % 2 ^ 32) (suc v) e)

-- ---- words at the front

-- n words from i on, one by one
abbrev pub run : ℕ → ℕ → List ℕ → List ℕ
run i zero ws = []
run i (suc n) ws = get_or ws i 0 ∷ run (suc i) n ws

pub spelled : (n i : ℕ) (ws : List ℕ) → i + n ≤ length ws → drop i ws ≡ run i n ws ++ drop (i + n) ws
spelled zero i ws h = let e : i ≡ i + 0 = omega arith in ap (λ (j : ℕ). drop j ws) e
spelled (suc n) i ws h =
    let e : suc i + n ≡ i + suc n = omega arith in
    drop-cons ws i 0 (omega arith) ∙ ap (λ (l : List ℕ). get_or ws i 0 ∷ l)
    (spelled n (suc i) ws (omega arith) ∙ ap (λ (j : ℕ). run (suc i) n ws ++ drop j ws) e)

pub begins-append : (vs us ws : List ℕ) (n : ℕ) → length vs ≡ n → begins (vs ++ us) ws ≡ begins vs ws && begins us (drop n ws)
unfolding begins
begins-append vs us ws n e = go vs ws ∙ ap (λ (j : ℕ). begins vs ws && begins us (drop j ws)) e
  where
    go : (vs ws : List ℕ) → begins (vs ++ us) ws ≡ begins vs ws && begins us (drop (length vs) ws)
    go [] ws = refl
    go (v ∷ vs) [] = refl
    go (v ∷ vs) (w ∷ ws) = ap (λ (b : Bool). eqb v w && b) (go vs ws) ∙ sym (and_assoc (eqb v w) (begins vs ws) (begins us (drop (length vs) ws)))

-- as many words
pub begins-whole : (vs ws : List ℕ) → length vs ≡ length ws → begins vs ws ≡ same_words vs ws
unfolding begins same_words
begins-whole [] [] e = refl
begins-whole [] (w ∷ ws) e = absurd (omega (arith, e))
begins-whole (v ∷ vs) [] e = refl
begins-whole (v ∷ vs) (w ∷ ws) e = ap (λ (b : Bool). eqb v w && b) (begins-whole vs ws (omega (arith, e)))

-- only the first words count
pub begins-take : (vs ws : List ℕ) (n : ℕ) → length vs ≡ n → begins vs ws ≡ same_words vs (take n ws)
unfolding begins same_words
begins-take vs ws n e = go vs ws ∙ ap (λ (j : ℕ). same_words vs (take j ws)) e
  where
    go : (vs ws : List ℕ) → begins vs ws ≡ same_words vs (take (length vs) ws)
    go [] ws = refl
    go (v ∷ vs) [] = refl
    go (v ∷ vs) (w ∷ ws) = ap (λ (b : Bool). eqb v w && b) (go vs ws)

pub zero-begins : (n : ℕ) (ws : List ℕ) → n ≤ length ws → all_zero (take n ws) ≡ begins (replicate n 0) ws
unfolding begins all_zero
zero-begins zero ws h = refl
zero-begins (suc n) [] h = absurd (omega arith)
zero-begins (suc n) (w ∷ ws) h = ap₂ ◌&&◌ (eqb-sym w 0) (zero-begins n ws (omega arith))

-- ---- elements one after another

module _ {A : Type 0} (f : A → List ℕ) (g : List ℕ → A) (k : ℕ) (size : (x : A) → length (f x) ≡ k) where
  pub parts-turn : (n : ℕ) (ws : List ℕ)
      → begins (words_of_all f (read_all g k (suc n) ws)) ws ≡ begins (f (g ws)) ws && begins (words_of_all f (read_all g k n (drop k ws))) (drop k ws)
  unfolding words_of_all read_all
  parts-turn n ws = begins-append (f (g ws)) (words_of_all f (read_all g k n (drop k ws))) ws k (size (g ws))

pub parts_add : {A : Type 0} (g : List ℕ → A) (k n m : ℕ) (ws : List ℕ) → read_all g k (n + m) ws ≡ read_all g k n ws ++ read_all g k m (drop (k * n) ws)
unfolding read_all
parts_add g k zero m ws =
    let a : 0 + m ≡ m = omega arith in
    let b : 0 ≡ k * 0 = omega arith in
    ap₂ (λ (i j : ℕ). read_all g k i (drop j ws)) a b
parts_add g k (suc n) m ws =
    let a : suc n + m ≡ suc (n + m) = omega arith in
    let b : k + k * n ≡ k * suc n = omega arith in
    ap (λ (i : ℕ). read_all g k i ws) a
    ∙ ap (λ (l : List _). g ws ∷ l) (parts_add g k n m (drop k ws)
    ∙ ap (λ (l : List ℕ). read_all g k n (drop k ws) ++ read_all g k m l) (drop-drop (k * n) k ws ∙ ap (λ (j : ℕ). drop j ws) b))
