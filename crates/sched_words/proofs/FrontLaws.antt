-- Words at the front of others, lent as arrays, and words in runs of as many. Assumes nothing.
use Rattle.std.proofs.Common.{◌≡◌, ℕ, zero, suc, ◌+◌, ◌-◌, ◌*◌, ◌%◌, ◌<◌, ◌≤◌, List, [], ◌∷◌, length, get_or, take, drop, Option, Some, None, Result, Ok, Err}
use Rattle.std.proofs.Common.{◌≢◌, MatchOption, Bor, subst, sym, refl, ap, ◌∙◌, arith, get_or-take, take_all, length-drop}
use Rattle.std.proofs.lemmas.List.{take-take, drop-take}
use Rattle.std.specs.Array.{IsFirstChunk, IsWholeChunk}
use Rattle.std.specs.Option.{ok_or}
use Rattle.std.specs.Simd.{first_chunks}
use Rattle.mac_pdus.specs.declared.ChanAllocElement.{ChanAllocElement}
use Rattle.tdma_time.specs.declared.TdmaTime.{TdmaTime}
use Rattle.sched_words.specs.Words.{same_words, read_all, time_words, time_from, entry_of, entry_from, row_from, four_from, alloc_words, alloc_from}
use Rattle.sched_words.specs.Front.{begins}
use Rattle.sched_words.proofs.WordLaws.{ten-long, part_at}
use Rattle.sched_words.proofs.FitLaws.{begins-take}
use Rattle.sched_words.proofs.FitRecord.{alloc-same}

-- ---- what is lent

pub first-lent : (n : ℕ) (xs : List ℕ) (o : Option (Bor (List ℕ))) (b : Bor (List ℕ)) → o ≡ Some b
    → MatchOption o (length xs < n) (λ y. IsFirstChunk xs y.now n) → b.now ≡ take n xs
first-lent n xs o b e m = (subst (λ (p : Option (Bor (List ℕ))). MatchOption p (length xs < n) (λ y. IsFirstChunk xs y.now n)) e m).same

-- from word `at` on, where no more than `left` are
pub part-lent : (n left : ℕ) (ws : List ℕ) (at : ℕ) → length ws ≤ at + left → (o : Option (Bor (List ℕ))) (b : Bor (List ℕ)) → o ≡ Some b
    → MatchOption o (length (take left (drop at ws)) < n) (λ y. IsFirstChunk (take left (drop at ws)) y.now n) → b.now ≡ take n (drop at ws)
part-lent n left ws at h o b e m = first-lent n (take left (drop at ws)) o b e m ∙ ap (take n) (take_all left (drop at ws) (rw length-drop (omega arith)))

-- the last four, from word `at` on
pub last-lent : (ws : List ℕ) (at : ℕ) → length ws ≡ at + 4 → (o : Option (Bor (List ℕ))) (b : Bor (List ℕ)) → o ≡ Some b
    → MatchOption o (length ws < 4) (λ y. (4 ≤ length ws) × IsWholeChunk (drop (length ws - 4) ws) y.now 4) → b.now ≡ drop at ws
last-lent ws at e o b is m =
    let from : length ws - 4 ≡ at = omega (arith, e) in
    (subst (λ (p : Option (Bor (List ℕ))). MatchOption p (length ws < 4) (λ y. (4 ≤ length ws) × IsWholeChunk (drop (length ws - 4) ws) y.now 4)) is m).1.same
    ∙ ap (λ (j : ℕ). drop j ws) from

-- words that are lent as an array of n, and words of another number
module _ {B E : Type 0} (now : B → List ℕ) (xs : List ℕ) (n : ℕ) where
  pub other-array : (o : Option B) (e : E) {r : Result B E} {x : E} → r ≡ ok_or o e → r ≡ Err x
      → MatchOption o (length xs ≢ n) (λ y. IsWholeChunk xs (now y) n) → (length xs ≡ n → ⊥) × (x ≡ e)
  other-array None e v h m = (m, cc)
  other-array (Some y) e v h m = absurd (cc)

  pub whole-array : (o : Option B) (e : E) {r : Result B E} {y : B} → r ≡ ok_or o e → r ≡ Ok y
      → MatchOption o (length xs ≢ n) (λ y. IsWholeChunk xs (now y) n) → (length xs ≡ n) × (now y ≡ xs)
  whole-array None e v h m = absurd (cc)
  whole-array (Some z) e {y = y} v h m = let same : y ≡ z = cc in (m.long, ap now same ∙ m.same)

-- ---- only the first words are read

pub time-front : (ws : List ℕ) → time_from (take 4 ws) ≡ time_from ws
time-front ws =
    let w : (k : ℕ) → k < 4 → get_or (take 4 ws) k 0 ≡ get_or ws k 0 = λ k l. get_or-take 4 ws k 0 l in
    λ i. record { t = w 0 (omega arith) i % 256; f = w 1 (omega arith) i % 256; m = w 2 (omega arith) i % 256; h = w 3 (omega arith) i % 65536 }

pub four-front : (ws : List ℕ) → four_from (take 4 ws) ≡ four_from ws
four-front ws =
    let w : (k : ℕ) → k < 4 → get_or (take 4 ws) k 0 ≡ get_or ws k 0 = λ k l. get_or-take 4 ws k 0 l in
    λ i. w 0 (omega arith) i % 256 ∷ w 1 (omega arith) i % 256 ∷ w 2 (omega arith) i % 256 ∷ w 3 (omega arith) i % 256 ∷ []

pub entry-front : (ws : List ℕ) → entry_from (take 3 ws) ≡ entry_from ws
entry-front ws =
    let w : (k : ℕ) → k < 3 → get_or (take 3 ws) k 0 ≡ get_or ws k 0 = λ k l. get_or-take 3 ws k 0 l in
    λ i. entry_of (w 0 (omega arith) i) (w 1 (omega arith) i) (w 2 (omega arith) i)

pub alloc-front : (ws : List ℕ) → alloc_from (take 10 ws) ≡ alloc_from ws
alloc-front ws = alloc-same (take 10 ws) ws (λ k l. get_or-take 10 ws k 0 l)

pub begins-front : (vs ws : List ℕ) (n : ℕ) → length vs ≡ n → begins vs (take n ws) ≡ begins vs ws
begins-front vs ws n e = begins-take vs (take n ws) n e ∙ ap (same_words vs) (take-take n n ws (omega arith)) ∙ sym (begins-take vs ws n e)

pub time-begins : (ws : List ℕ) → begins (time_words (time_from (take 4 ws))) (take 4 ws) ≡ begins (time_words (time_from ws)) ws
time-begins ws = ap (λ (x : TdmaTime). begins (time_words x) (take 4 ws)) (time-front ws) ∙ begins-front (time_words (time_from ws)) ws 4 refl

pub four-begins : (ws : List ℕ) → begins (four_from (take 4 ws)) (take 4 ws) ≡ begins (four_from ws) ws
four-begins ws = ap (λ (l : List ℕ). begins l (take 4 ws)) (four-front ws) ∙ begins-front (four_from ws) ws 4 refl

pub alloc-begins : (ws : List ℕ) → begins (alloc_words (alloc_from (take 10 ws))) (take 10 ws) ≡ begins (alloc_words (alloc_from ws)) ws
alloc-begins ws =
    ap (λ (o : Option ChanAllocElement). begins (alloc_words o) (take 10 ws)) (alloc-front ws)
    ∙ begins-front (alloc_words (alloc_from ws)) ws 10 (ten-long (alloc_from ws))

-- ---- runs of k words

module _ {A : Type 0} (f : List ℕ → A) (k : ℕ) (front : (ws : List ℕ) → f (take k ws) ≡ f ws) where
  pub parts-front : (n : ℕ) (ws : List ℕ) → read_all f k n (take (k * n) ws) ≡ read_all f k n ws
  unfolding read_all
  parts-front zero ws = refl
  parts-front (suc n) ws =
      let m : ℕ = k * suc n in
      let more : m ≡ k + k * n = omega arith in
      let first : f (take m ws) ≡ f ws = sym (front (take m ws)) ∙ ap f (take-take k m ws (omega arith)) ∙ front ws in
      let next : drop k (take m ws) ≡ take (k * n) (drop k ws) = ap (λ (j : ℕ). drop k (take j ws)) more ∙ drop-take k (k * n) ws in
      λ i. first i ∷ (ap (read_all f k n) next ∙ parts-front n (drop k ws)) i

pub row-front : (ws : List ℕ) → row_from (take 54 ws) ≡ row_from ws
row-front ws = parts-front entry_from 3 entry-front 18 ws

pub runs-read : (k n : ℕ) (ws : List ℕ) → first_chunks k n ws ≡ read_all (take k) k n ws
unfolding read_all
runs-read k zero ws = refl
runs-read k (suc n) ws = ap (λ (l : List (List ℕ)). take k ws ∷ l) (runs-read k n (drop k ws))

pub run-at : (k n m p : ℕ) (ws : List ℕ) (rs : List (List ℕ)) → rs ≡ first_chunks k m ws → m ≡ n → p < n → get_or rs p [] ≡ take k (drop (k * p) ws)
run-at k n m p ws rs e s h =
    ap (λ (l : List (List ℕ)). get_or l p []) (e ∙ runs-read k m ws ∙ ap (λ (j : ℕ). read_all (take k) k j ws) s)
    ∙ part_at (take k) k n p ws [] h
