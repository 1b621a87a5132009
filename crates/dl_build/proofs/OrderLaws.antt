-- The order in which records are taken: the turns of its two loops, and what it keeps. Assumes nothing.
use mathlib.Core.Path.{◌≡◌, refl, sym, ap, ap₂, ◌∙◌}
use mathlib.Core.Bool.{Bool, true, false, cond}
use mathlib.Core.List.{List, [], ◌∷◌, ◌++◌, append_assoc, append-nil, map, map-append}
use Prim.Native.Nat.{ℕ, zero, suc, ◌+◌, ◌<◌, ◌≤◌}
use native.Mathlib.Numerals.{add-one, one-add}
use native.Mathlib.Omega.{arith}
use lib.ListN.{length, get_or, drop, length-append}
use lib.Seq.{get_or-drop}
use Rattle.lists.proofs.Every.{All, all-weaken, all_append}
use Rattle.sizes.specs.Sizes.{per_timeslot}
use Rattle.dl_record.specs.declared.Kind.{Kind}
use Rattle.dl_record.specs.declared.Record.{Record}
use Rattle.dl_record.specs.Record.{empty_record}
use Rattle.dl_queue.specs.Queue.{Item, item}
use Rattle.dl_record.specs.Kind.{is_record, is_underway}
use Rattle.dl_merge.specs.Merge.{only}
use Rattle.dl_merge.proofs.MergeLaws.{only-all, only-pass, only-fail, only-map, reload}
use Rattle.dl_send.specs.Arrays.{listed, records_at, places_at}
use Rattle.dl_send.proofs.ArrayLaws.{length-listed}
use Rattle.dl_build.specs.Build.{in_order, Takes}

-- ---- the loops

listed-snoc : (n : ℕ) (rs : List Record) (fs : List ℕ) → listed (suc n) rs fs ≡ listed n rs fs ++ item (get_or rs n empty_record) (get_or fs n 0) ∷ []
unfolding listed
listed-snoc zero rs fs = refl
listed-snoc (suc n) rs fs =
    ap (◌∷◌ (item (get_or rs 0 empty_record) (get_or fs 0 0)))
    (listed-snoc n (drop 1 rs) (drop 1 fs)
    ∙ ap₂ (λ (r : Record) (f : ℕ). listed n (drop 1 rs) (drop 1 fs) ++ item r f ∷ [])
    (get_or-drop 1 rs n empty_record ∙ ap (λ (j : ℕ). get_or rs j empty_record) (one-add n)) (get_or-drop 1 fs n 0 ∙ ap (λ (j : ℕ). get_or fs j 0) (one-add n)))

-- the list one longer, its last record as the code takes it out
listed_more : (n : ℕ) (rs : List Record) (fs : List ℕ) (r : Record) → r ≡ get_or rs n empty_record
    → listed (n + 1) rs fs ≡ listed n rs fs ++ item r (get_or fs n 0) ∷ []
listed_more n rs fs r is =
    ap (λ (m : ℕ). listed m rs fs) (add-one n) ∙ listed-snoc n rs fs ∙ ap (λ (x : Record). listed n rs fs ++ item x (get_or fs n 0) ∷ []) (sym is)

-- fewer records, fewer of each kind
only-mono : (p : Kind → Bool) (i n : ℕ) (rs : List Record) (fs : List ℕ) → i ≤ n → length (only p (listed i rs fs)) ≤ length (only p (listed n rs fs))
unfolding only listed
only-mono p zero n rs fs h = omega arith
only-mono p (suc i) zero rs fs h = absurd (omega arith)
only-mono p (suc i) (suc n) rs fs h = go (p (get_or rs 0 empty_record).kind) (only-mono p i n (drop 1 rs) (drop 1 fs) (omega arith))
  where
    x : Item ℕ
    x = item (get_or rs 0 empty_record) (get_or fs 0 0)

    go : (b : Bool) → length (only p (listed i (drop 1 rs) (drop 1 fs))) ≤ length (only p (listed n (drop 1 rs) (drop 1 fs)))
        → length (cond b (x ∷ only p (listed i (drop 1 rs) (drop 1 fs))) (only p (listed i (drop 1 rs) (drop 1 fs))))
        ≤ length (cond b (x ∷ only p (listed n (drop 1 rs) (drop 1 fs))) (only p (listed n (drop 1 rs) (drop 1 fs))))
    go true ih = omega arith
    go false ih = ih

-- behind a list ys, those of the first i records that pass
abbrev pub took : (Kind → Bool) → List (Item ℕ) → ℕ → List Record → List ℕ → List (Item ℕ)
took p ys i rs fs = ys ++ only p (listed i rs fs)

-- one more is taken: the record that stands at i
listed-push : (rs : List Record) (fs at : List ℕ) (i : ℕ)
    → listed (length (at ++ i ∷ [])) (records_at (at ++ i ∷ []) rs) (places_at (at ++ i ∷ []) fs)
    ≡ listed (length at) (records_at at rs) (places_at at fs) ++ item (get_or rs i empty_record) (get_or fs i 0) ∷ []
unfolding listed
listed-push rs fs [] i = refl
listed-push rs fs (x ∷ at) i = ap (◌∷◌ (item (get_or rs x empty_record) (get_or fs x 0))) (listed-push rs fs at i)

within-push : (at : List ℕ) (i : ℕ) → i < per_timeslot → ((j : ℕ) → j < length at → get_or at j 0 < per_timeslot)
    → (j : ℕ) → j < length (at ++ i ∷ []) → get_or (at ++ i ∷ []) j 0 < per_timeslot
within-push [] i b w zero l = b
within-push [] i b w (suc j) l = absurd (omega arith)
within-push (x ∷ at) i b w zero l = w zero (omega arith)
within-push (x ∷ at) i b w (suc j) l = within-push at i b (λ k m. w (suc k) (omega arith)) j (omega arith)

module _ (rs : List Record) (fs : List ℕ) (at : List ℕ) where
  -- another name for the list
  takes-as : (k : ℕ) (xs ys : List (Item ℕ)) → xs ≡ ys → Takes rs fs at k xs → Takes rs fs at k ys
  takes-as k xs ys e h = record { items = h.items ∙ e; within = h.within }

  pub takes-size : (k : ℕ) (xs : List (Item ℕ)) → Takes rs fs at k xs → k ≡ length xs
  takes-size k xs h = sym (length-listed k (records_at at rs) (places_at at fs)) ∙ ap length h.items

  takes-push : (xs : List (Item ℕ)) (i : ℕ) (r : Record) → r ≡ get_or rs i empty_record → i < per_timeslot → Takes rs fs at (length at) xs
      → Takes rs fs (at ++ i ∷ []) (length (at ++ i ∷ [])) (xs ++ item r (get_or fs i 0) ∷ [])
  takes-push xs i r is c h =
      record {
        items = listed-push rs fs at i ∙ ap₂ (λ (l : List (Item ℕ)) (q : Record). l ++ item q (get_or fs i 0) ∷ []) h.items (sym is);
        within = within-push at i c h.within;
      }

-- none is taken yet
pub takes-none : (rs : List Record) (fs at : List ℕ) → Takes rs fs at 0 []
unfolding listed
takes-none rs fs at = record { items = refl; within = λ i h. absurd (omega arith) }

pub took-none : (p : Kind → Bool) (ys : List (Item ℕ)) (rs : List Record) (fs at : List ℕ) (k : ℕ) → Takes rs fs at k ys → Takes rs fs at k (took p ys 0 rs fs)
unfolding only listed
took-none p ys rs fs at k h = takes-as rs fs at k ys (ys ++ []) (sym (append-nil ys)) h

pub count-none : (p : Kind → Bool) (rs : List Record) (fs : List ℕ) → length (only p (listed 0 rs fs)) ≡ 0
unfolding only listed
count-none p rs fs = refl

module _ (p : Kind → Bool) (rs : List Record) (fs : List ℕ) (i : ℕ) (r : Record) (is : r ≡ get_or rs i empty_record) where
  abbrev x : Item ℕ
  x = item r (get_or fs i 0)

  passes : p r.kind ≡ true → only p (listed (i + 1) rs fs) ≡ only p (listed i rs fs) ++ x ∷ []
  passes e = ap (only p) (listed_more i rs fs r is) ∙ only-pass p (listed i rs fs) x e

  fails : p r.kind ≡ false → only p (listed (i + 1) rs fs) ≡ only p (listed i rs fs)
  fails e = ap (only p) (listed_more i rs fs r is) ∙ only-fail p (listed i rs fs) x e

  pub count-pass : p r.kind ≡ true → length (only p (listed (i + 1) rs fs)) ≡ length (only p (listed i rs fs)) + 1
  count-pass e = ap length (passes e) ∙ length-append (only p (listed i rs fs)) (x ∷ [])

  pub count-fail : p r.kind ≡ false → length (only p (listed (i + 1) rs fs)) ≡ length (only p (listed i rs fs))
  count-fail e = ap length (fails e)

  -- with a record of these kinds still to come there is room for one more
  pub count-room : (n : ℕ) → i < n → p r.kind ≡ true → length (only p (listed i rs fs)) < length (only p (listed n rs fs))
  count-room n h e = omega (arith, count-pass e, only-mono p (i + 1) n rs fs (omega arith))

  module _ (ys : List (Item ℕ)) (at : List ℕ) (h : Takes rs fs at (length at) (took p ys i rs fs)) where
    pub took-pass : i < per_timeslot → p r.kind ≡ true → Takes rs fs (at ++ i ∷ []) (length (at ++ i ∷ [])) (took p ys (i + 1) rs fs)
    took-pass c e =
        takes-as rs fs (at ++ i ∷ []) (length (at ++ i ∷ [])) (took p ys i rs fs ++ x ∷ []) (took p ys (i + 1) rs fs)
        (append_assoc ys (only p (listed i rs fs)) (x ∷ []) ∙ ap (◌++◌ ys) (sym (passes e))) (takes-push rs fs at (took p ys i rs fs) i r is c h)

    pub took-fail : p r.kind ≡ false → Takes rs fs at (length at) (took p ys (i + 1) rs fs)
    took-fail e = takes-as rs fs at (length at) (took p ys i rs fs) (took p ys (i + 1) rs fs) (ap (◌++◌ ys) (sym (fails e))) h

-- no record is both
apart : (k : Kind) → is_underway k ≡ true → is_record k ≡ true → ⊥
apart Kind.Grant e f = absurd (let z : ◌≡◌ {A = ℕ} 0 1 = cc in omega arith)
apart Kind.Ack e f = absurd (let z : ◌≡◌ {A = ℕ} 0 1 = cc in omega arith)
apart Kind.Record e f = absurd (let z : ◌≡◌ {A = ℕ} 0 1 = cc in omega arith)
apart Kind.Waiting e f = absurd (let z : ◌≡◌ {A = ℕ} 0 1 = cc in omega arith)
apart Kind.Started e f = absurd (let z : ◌≡◌ {A = ℕ} 0 1 = cc in omega arith)

pub order-few : {C : Type 0} (xs : List (Item C)) → length (only is_underway xs) + length (only is_record xs) ≤ length xs
unfolding only
order-few [] = omega arith
order-few {C} (x ∷ xs) = go (is_underway x.rec.kind) refl (is_record x.rec.kind) refl (order-few xs)
  where
    go : (a : Bool) → is_underway x.rec.kind ≡ a → (b : Bool) → is_record x.rec.kind ≡ b
        → length (only is_underway xs) + length (only is_record xs) ≤ length xs
        → length (cond a (x ∷ only is_underway xs) (only is_underway xs)) + length (cond b (x ∷ only is_record xs) (only is_record xs)) ≤ suc (length xs)
    go true e true f ih = absurd (apart x.rec.kind e f)
    go true e false f ih = omega arith
    go false e true f ih = omega arith
    go false e false f ih = omega arith

-- ---- what the order keeps

pub order-length : {C : Type 0} (xs : List (Item C)) → length (in_order xs) ≤ length xs
unfolding in_order
order-length xs = omega (arith, length-append (only is_underway xs) (only is_record xs), order-few xs)

pub order-all : {C : Type 0} (P : Item C → Type 0) (xs : List (Item C)) → All P xs → All P (in_order xs)
unfolding in_order
order-all P xs h =
    all_append P (only is_underway xs) (only is_record xs) (all-weaken _ P (λ x q. q.0) (only is_underway xs) (only-all P is_underway xs h))
    (all-weaken _ P (λ x q. q.0) (only is_record xs) (only-all P is_record xs h))

-- it looks at no load
pub order-map : {C D : Type 0} (f : Record → C → D) (xs : List (Item C)) → map (reload f) (in_order xs) ≡ in_order (map (reload f) xs)
unfolding in_order
order-map {C} {D} f xs =
    map-append (reload f) (only is_underway xs) (only is_record xs)
    ∙ ap₂ (λ (a b : List (Item D)). a ++ b) (only-map f is_underway xs) (only-map f is_record xs)
