-- The words of a header, one by one. Assumes nothing.
use mathlib.Core.Path.{◌≡◌, refl, ap, ◌∙◌}
use mathlib.Core.Bool.{Bool, ◌&&◌}
use mathlib.Core.List.{List, [], ◌∷◌, ◌++◌}
use Prim.Native.Nat.{ℕ, zero, suc, ◌+◌, ◌-◌, ◌*◌, ◌≤◌, ◌<◌}
use native.Mathlib.Omega.{arith}
use lib.ListN.{length, get_or, drop, replicate, length-append, length-replicate}
use lib.Seq.{sets, sets-eq, take_all, take-append-le}
use lib.Dec.{eqb}
use lib.Pointwise.{pointwise}
use Rattle.lists.proofs.Lists.{drop-replicate}
use Rattle.mac_pdus.specs.declared.PduHeader.{PduHeader}
use Rattle.mac_reader.specs.declared.PlacedHeader.{PlacedHeader}
use Rattle.mac_reader.specs.Reader.{most_pdus}
use Rattle.sched_words.specs.Words.{words_of_all, same_words, alloc_words}
use Rattle.sched_words.proofs.WordLaws.{length-joined, joined-next, joined-done, ten-long}
use Rattle.header_words.specs.HeaderWords.{header_word_count, list_word_count, header_words, placed_words, list_words}

-- ---- written

pub header-size : (at : ℕ) (h : PduHeader) → length (header_words at h) ≡ header_word_count
unfolding header_words
header-size at (PduHeader.Resource r) =
    let e : length (alloc_words r.chan_alloc_element ++ 0 ∷ []) ≡ 11 =
    length-append (alloc_words r.chan_alloc_element) (0 ∷ []) ∙ omega (arith, ten-long r.chan_alloc_element) in
    ap (λ (n : ℕ). suc (suc (suc (suc (suc (suc (suc (suc (suc (suc (suc (suc (suc n))))))))))))) e
header-size at (PduHeader.Frag f) = refl
header-size at (PduHeader.End e) = refl

-- ---- compared

pub words-same : (v w : List ℕ) → pointwise eqb v w ≡ same_words v w
unfolding same_words
words-same [] [] = refl
words-same [] (y ∷ w) = refl
words-same (x ∷ v) [] = refl
words-same (x ∷ v) (y ∷ w) = ap (λ (b : Bool). eqb x y && b) (words-same v w)

-- ---- sixteen headers

pub placed-size : (p : PlacedHeader) → length (placed_words p) ≡ header_word_count
placed-size p = header-size p.at p.header

-- the words of headers are those of a list that begins with them
pub list-front : (ps qs : List PlacedHeader) → list_words (length ps) ps ≡ list_words (length ps) (ps ++ qs)
unfolding list_words
list-front ps qs = rw (take_all (length ps) ps (omega arith), take-append-le (length ps) ps qs (omega arith), take_all (length ps) ps (omega arith)) refl

-- zeros, and over them the words of the headers
pub listed-words : (ps : List PlacedHeader) → length ps ≤ most_pdus
    → sets (replicate list_word_count 0) 0 (words_of_all placed_words ps) ≡ list_words (length ps) ps
unfolding list_words
listed-words ps few =
    let n = length ps in
    let ws = words_of_all placed_words ps in
    let long : length ws ≡ header_word_count * n = length-joined placed_words header_word_count placed-size ps ∙ omega arith in
    let left : list_word_count - (0 + length ws) ≡ header_word_count * (most_pdus - n) = omega (arith, long) in
    rw (take_all n ps (omega arith))
    (sets-eq ws (replicate list_word_count 0) 0 (omega (arith, long, length-replicate list_word_count (zero)))
    ∙ ap (λ (l : List ℕ). ws ++ l) (drop-replicate (0 + length ws) list_word_count 0 ∙ ap (λ (k : ℕ). replicate k 0) left))

-- a turn of the loop that stores them
pub headers-next : (ps : List PlacedHeader) (i : ℕ) → i < length ps → (l l' v : List ℕ) (d : PlacedHeader) → l' ≡ sets l (header_word_count * i) v
    → v ≡ placed_words (get_or ps i d)
    → sets l' (header_word_count * (i + 1)) (words_of_all placed_words (drop (i + 1) ps)) ≡ sets l (header_word_count * i)
    (words_of_all placed_words (drop i ps))
headers-next ps i h l l' v d stored e =
    joined-next placed_words header_word_count placed-size l l' v ps (header_word_count * i) (header_word_count * (i + 1)) i d h stored e (omega arith)

pub headers-done : (ps : List PlacedHeader) (l : List ℕ) (p i : ℕ) → length ps ≤ i → sets l p (words_of_all placed_words (drop i ps)) ≡ l
headers-done ps l p i h = joined-done placed_words header_word_count placed-size l ps p i h
