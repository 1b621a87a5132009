-- Lists of items as arrays hold them: sixteen records, and the places that they come from. Assumes nothing.
use mathlib.Core.Path.{◌≡◌, refl, sym, ap, ap₂, ◌∙◌}
use mathlib.Core.Bool.{Bool, true, false, cond}
use mathlib.Core.List.{List, [], ◌∷◌, ◌++◌}
use Prim.Native.Nat.{ℕ, zero, suc, ◌+◌, ◌<◌, ◌≤◌}
use native.Mathlib.Nat.{add-zero, zero-add}
use native.Mathlib.Numerals.{add-one, one-add}
use native.Mathlib.Omega.{arith}
use lib.ListN.{length, get_or, drop, set}
use lib.Seq.{get_or-drop}
use Rattle.dl_record.specs.declared.Record.{Record}
use Rattle.dl_record.specs.Record.{empty_record}
use Rattle.dl_queue.specs.Queue.{Item, item, records_of}
use Rattle.dl_record.specs.declared.Kind.{Kind}
use Rattle.dl_merge.specs.Merge.{only}
use Rattle.dl_merge.specs.Places.{counted, sources_of}

-- ---- arrays

module _ {C : Type 0} where
  pub records-set : (k : ℕ) (xs : List (Item C)) (i : ℕ) (x : Item C) → i < length xs → records_of k (set xs i x) ≡ set (records_of k xs) i x.rec
  unfolding records_of
  records-set zero xs i x h = refl
  records-set (suc k) [] i x h = absurd (omega arith)
  records-set (suc k) (y ∷ xs) zero x h = refl
  records-set (suc k) (y ∷ xs) (suc i) x h = ap (λ (l : List Record). y.rec ∷ l) (records-set k xs i x (omega arith))

  pub records-snoc : (k : ℕ) (xs : List (Item C)) (x : Item C) → length xs < k → records_of k (xs ++ x ∷ []) ≡ set (records_of k xs) (length xs) x.rec
  unfolding records_of
  records-snoc zero xs x h = absurd (omega arith)
  records-snoc (suc k) [] x h = refl
  records-snoc (suc k) (y ∷ xs) x h = ap (λ (l : List Record). y.rec ∷ l) (records-snoc k xs x (omega arith))

  pub records-at : (k : ℕ) (xs : List (Item C)) (i : ℕ) (d : Item C) → i < length xs → length xs ≤ k
      → get_or (records_of k xs) i empty_record ≡ (get_or xs i d).rec
  unfolding records_of
  records-at zero xs i d h b = absurd (omega arith)
  records-at (suc k) [] i d h b = absurd (omega arith)
  records-at (suc k) (y ∷ xs) zero d h b = refl
  records-at (suc k) (y ∷ xs) (suc i) d h b = records-at k xs i d (omega arith) (omega arith)

pub sources-snoc : (k : ℕ) (xs : List (Item ℕ)) (x : Item ℕ) → length xs < k → sources_of k (xs ++ x ∷ []) ≡ set (sources_of k xs) (length xs) x.load
unfolding sources_of
sources-snoc zero xs x h = absurd (omega arith)
sources-snoc (suc k) [] x h = refl
sources-snoc (suc k) (y ∷ xs) x h = ap (λ (l : List ℕ). y.load ∷ l) (sources-snoc k xs x (omega arith))

pub sources-keep : (k : ℕ) (xs : List (Item ℕ)) (i : ℕ) (r : Record) (d : Item ℕ) → i < length xs
    → sources_of k (set xs i (item r (get_or xs i d).load)) ≡ sources_of k xs
unfolding sources_of
sources-keep zero xs i r d h = refl
sources-keep (suc k) [] i r d h = absurd (omega arith)
sources-keep (suc k) (y ∷ xs) zero r d h = refl
sources-keep (suc k) (y ∷ xs) (suc i) r d h = ap (λ (l : List ℕ). y.load ∷ l) (sources-keep k xs i r d (omega arith))

-- ---- the list of all records, one longer

pub length-counted : (i n : ℕ) (rs : List Record) → length (counted i n rs) ≡ n
unfolding counted
length-counted i zero rs = refl
length-counted i (suc n) rs = ap suc (length-counted (suc i) n (drop 1 rs))

counted-snoc : (i n : ℕ) (rs : List Record) → counted i (suc n) rs ≡ counted i n rs ++ item (get_or rs n empty_record) (i + n) ∷ []
unfolding counted
counted-snoc i zero rs = ap (λ (m : ℕ). item (get_or rs 0 empty_record) m ∷ []) (sym (add-zero i))
counted-snoc i (suc n) rs =
    let e : suc i + n ≡ i + suc n = omega arith in
    ap (λ (l : List (Item ℕ)). item (get_or rs 0 empty_record) i ∷ l)
    (counted-snoc (suc i) n (drop 1 rs)
    ∙ ap₂ (λ (r : Record) (m : ℕ). counted (suc i) n (drop 1 rs) ++ item r m ∷ [])
    (get_or-drop 1 rs n empty_record ∙ ap (λ (j : ℕ). get_or rs j empty_record) (one-add n)) e)

-- its last record as the code takes it out
pub counted-more : (n : ℕ) (rs : List Record) (r : Record) → r ≡ get_or rs n empty_record → counted 0 (n + 1) rs ≡ counted 0 n rs ++ item r n ∷ []
counted-more n rs r is =
    ap (λ (m : ℕ). counted 0 m rs) (add-one n) ∙ counted-snoc 0 n rs
    ∙ ap₂ (λ (x : Record) (m : ℕ). counted 0 n rs ++ item x m ∷ []) (sym is) (zero-add n)

-- fewer records, fewer of each kind
pub only-mono : (p : Kind → Bool) (a i n : ℕ) (rs : List Record) → i ≤ n → length (only p (counted a i rs)) ≤ length (only p (counted a n rs))
unfolding only counted
only-mono p a zero n rs h = omega arith
only-mono p a (suc i) zero rs h = absurd (omega arith)
only-mono p a (suc i) (suc n) rs h = go (p (get_or rs 0 empty_record).kind) (only-mono p (suc a) i n (drop 1 rs) (omega arith))
  where
    x : Item ℕ
    x = item (get_or rs 0 empty_record) a

    go : (b : Bool) → length (only p (counted (suc a) i (drop 1 rs))) ≤ length (only p (counted (suc a) n (drop 1 rs)))
        → length (cond b (x ∷ only p (counted (suc a) i (drop 1 rs))) (only p (counted (suc a) i (drop 1 rs)))) ≤ length
        (cond b (x ∷ only p (counted (suc a) n (drop 1 rs))) (only p (counted (suc a) n (drop 1 rs))))
    go true ih = omega arith
    go false ih = ih
