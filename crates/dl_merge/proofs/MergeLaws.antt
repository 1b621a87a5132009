-- Merging over items with any load: how lists grow, and that merging commutes with maps of loads. Assumes nothing.
use mathlib.Core.Path.{◌≡◌, refl, ap, ap₂, ◌∙◌}
use mathlib.Core.Bool.{Bool, true, false, not, cond}
use mathlib.Core.List.{List, [], ◌∷◌, ◌++◌, map}
use Prim.Native.Nat.{ℕ, zero, suc, ◌+◌, ◌<◌, ◌≤◌}
use native.Mathlib.Omega.{arith}
use lib.ListN.{length, get_or, set, take}
use Rattle.lists.proofs.Every.{All, all-weaken}
use Rattle.dl_record.specs.declared.Record.{Record}
use Rattle.dl_record.specs.declared.Kind.{Kind}
use Rattle.dl_record.specs.Record.{empty_record}
use Rattle.bitbuffer.specs.Bits.{bits_of}
use Rattle.dl_queue.specs.Queue.{Item, item, zero_cell, records_of}
use Rattle.dl_record.specs.Kind.{is_grant_or_ack, is_kept}
use Rattle.dl_merge.specs.Merge.{takes_number, joined, minimal, only, put, puts, merge, keep, always, merge_cells, Named, fresh_name, join_name, merge_named}

-- ---- the items of some kinds

module _ {C : Type 0} (p : Kind → Bool) where
  pub only-pass : (xs : List (Item C)) (x : Item C) → p x.rec.kind ≡ true → only p (xs ++ x ∷ []) ≡ only p xs ++ x ∷ []
  unfolding only
  only-pass [] x e = rw e
  only-pass (y ∷ xs) x e = go (p y.rec.kind) (only-pass xs x e)
    where
      go : (b : Bool) → only p (xs ++ x ∷ []) ≡ only p xs ++ x ∷ []
          → cond b (y ∷ only p (xs ++ x ∷ [])) (only p (xs ++ x ∷ [])) ≡ cond b (y ∷ only p xs) (only p xs) ++ x ∷ []
      go true ih = ap (λ (l : List (Item C)). y ∷ l) ih
      go false ih = ih

  pub only-fail : (xs : List (Item C)) (x : Item C) → p x.rec.kind ≡ false → only p (xs ++ x ∷ []) ≡ only p xs
  unfolding only
  only-fail [] x e = rw e
  only-fail (y ∷ xs) x e = go (p y.rec.kind) (only-fail xs x e)
    where
      go : (b : Bool) → only p (xs ++ x ∷ []) ≡ only p xs → cond b (y ∷ only p (xs ++ x ∷ [])) (only p (xs ++ x ∷ [])) ≡ cond b (y ∷ only p xs) (only p xs)
      go true ih = ap (λ (l : List (Item C)). y ∷ l) ih
      go false ih = ih

-- each item is a grant or ack, or stays
pub only-both : {C : Type 0} (xs : List (Item C)) → length (only is_grant_or_ack xs) + length (only is_kept xs) ≡ length xs
unfolding only
only-both [] = refl
only-both {C} (x ∷ xs) = go (is_grant_or_ack x.rec.kind) (only-both xs)
  where
    go : (b : Bool) → length (only is_grant_or_ack xs) + length (only is_kept xs) ≡ length xs
        → length (cond b (x ∷ only is_grant_or_ack xs) (only is_grant_or_ack xs)) + length (cond (not b) (x ∷ only is_kept xs) (only is_kept xs))
        ≡ suc (length xs)
    go true ih = omega arith
    go false ih = omega arith

-- ---- a grant or ack put, and the list of them

module _ {C : Type 0} (fresh : Item C → C) (join : Item C → C → C) where
  pub put-at : (g : Item C) (xs : List (Item C)) (f : ℕ) (d : Item C) → f < length xs
      → ((j : ℕ) → j < f → takes_number g.rec.address.number (get_or xs j d).rec ≡ false) → takes_number g.rec.address.number (get_or xs f d).rec ≡ true
      → put fresh join g xs ≡ set xs f (item (joined g.rec (get_or xs f d).rec) (join g (get_or xs f d).load))
  unfolding put
  put-at g [] f d h before here = absurd (omega arith)
  put-at g (x ∷ xs) zero d h before here = rw here
  put-at g (x ∷ xs) (suc f) d h before here =
      rw (before 0 (omega arith)) (ap (λ (l : List (Item C)). x ∷ l) (put-at g xs f d (omega arith) (λ j b. before (suc j) (omega arith)) here))

  pub put-end : (g : Item C) (xs : List (Item C)) (d : Item C) → ((j : ℕ) → j < length xs → takes_number g.rec.address.number (get_or xs j d).rec ≡ false)
      → put fresh join g xs ≡ xs ++ item (minimal g.rec) (fresh g) ∷ []
  unfolding put
  put-end g [] d before = refl
  put-end g (x ∷ xs) d before = rw (before 0 (omega arith)) (ap (λ (l : List (Item C)). x ∷ l) (put-end g xs d (λ j b. before (suc j) (omega arith))))

  pub length-put : (g : Item C) (xs : List (Item C)) → length (put fresh join g xs) ≤ suc (length xs)
  unfolding put
  length-put g [] = omega arith
  length-put g (x ∷ xs) = go (takes_number g.rec.address.number x.rec) (length-put g xs)
    where
      go : (b : Bool) → length (put fresh join g xs) ≤ suc (length xs)
          → length (cond b (item (joined g.rec x.rec) (join g x.load) ∷ xs) (x ∷ put fresh join g xs)) ≤ suc (suc (length xs))
      go true ih = omega arith
      go false ih = omega arith

  pub puts-snoc : (gs : List (Item C)) (g : Item C) (xs : List (Item C)) → puts fresh join (gs ++ g ∷ []) xs ≡ put fresh join g (puts fresh join gs xs)
  unfolding puts
  puts-snoc [] g xs = refl
  puts-snoc (h ∷ gs) g xs = puts-snoc gs g (put fresh join h xs)

  pub length-puts : (gs xs : List (Item C)) → length (puts fresh join gs xs) ≤ length gs + length xs
  unfolding puts
  length-puts [] xs = omega arith
  length-puts (g ∷ gs) xs = omega (arith, length-puts gs (put fresh join g xs), length-put g xs)

  -- merging never makes a list longer
  pub merge-few : (xs : List (Item C)) → length (merge fresh join xs) ≤ length xs
  unfolding merge
  merge-few xs = omega (arith, length-puts (only is_grant_or_ack xs) (only is_kept xs), only-both xs)

-- ---- what merging keeps of every item

-- the items of some kinds are of these kinds, and keep what they had
pub only-all : {C : Type 0} (P : Item C → Type 0) (p : Kind → Bool) (xs : List (Item C)) → All P xs → All (λ x. P x × (p x.rec.kind ≡ true)) (only p xs)
unfolding only
only-all P p [] h = tt
only-all {C} P p (x ∷ xs) h = go (p x.rec.kind) refl (only-all P p xs h.1)
  where
    Q : Item C → Type 0
    Q y = P y × (p y.rec.kind ≡ true)

    go : (b : Bool) → p x.rec.kind ≡ b → All Q (only p xs) → All Q (cond b (x ∷ only p xs) (only p xs))
    go true e ih = ((h.0, e), ih)
    go false e ih = ih

-- a property that holds of a record joined by a grant or ack, and of a minimal record, holds after merging if it held before
module _ {C : Type 0} (fresh : Item C → C) (join : Item C → C → C) (P : Item C → Type 0)
    (joins : (g x : Item C) → is_grant_or_ack g.rec.kind ≡ true → takes_number g.rec.address.number x.rec ≡ true → P g → P x → P
    (item (joined g.rec x.rec) (join g x.load)))
    (small : (g : Item C) → is_grant_or_ack g.rec.kind ≡ true → P g → P (item (minimal g.rec) (fresh g))) where
  put_all : (g : Item C) (xs : List (Item C)) → is_grant_or_ack g.rec.kind ≡ true → P g → All P xs → All P (put fresh join g xs)
  unfolding put
  put_all g [] k p h = (small g k p, tt)
  put_all g (x ∷ xs) k p h = go (takes_number g.rec.address.number x.rec) refl (put_all g xs k p h.1)
    where
      go : (b : Bool) → takes_number g.rec.address.number x.rec ≡ b → All P (put fresh join g xs)
          → All P (cond b (item (joined g.rec x.rec) (join g x.load) ∷ xs) (x ∷ put fresh join g xs))
      go true e ih = (joins g x k e p h.0, h.1)
      go false e ih = (h.0, ih)

  puts-all : (gs xs : List (Item C)) → All (λ x. P x × (is_grant_or_ack x.rec.kind ≡ true)) gs → All P xs → All P (puts fresh join gs xs)
  unfolding puts
  puts-all [] xs k h = h
  puts-all (g ∷ gs) xs k h = puts-all gs (put fresh join g xs) k.1 (put_all g xs k.0.1 k.0.0 h)

  pub merge-all : (xs : List (Item C)) → All P xs → All P (merge fresh join xs)
  unfolding merge
  merge-all xs h =
      puts-all (only is_grant_or_ack xs) (only is_kept xs) (only-all P is_grant_or_ack xs h)
      (all-weaken (λ x. P x × (is_kept x.rec.kind ≡ true)) P (λ x q. q.0) (only is_kept xs) (only-all P is_kept xs h))

-- ---- loads mapped

-- an item with another load, which may depend on its record
abbrev pub reload : {C D : Type 0} → (Record → C → D) → Item C → Item D
reload f x = item x.rec (f x.rec x.load)

-- a map of loads that respects the loads of minimal records and of records that were joined
pub record Respects {C D : Type 0} (f : Record → C → D) (fresh : Item C → C) (join : Item C → C → C) (fresh' : Item D → D) (join' : Item D → D
    → D) : Type 0 where
  pub new : (g : Item C) → f (minimal g.rec) (fresh g) ≡ fresh' (reload f g)
  pub old : (g x : Item C) → f (joined g.rec x.rec) (join g x.load) ≡ join' (reload f g) (f x.rec x.load)

module _ {C D : Type 0} (f : Record → C → D) where
  pub only-map : (p : Kind → Bool) (xs : List (Item C)) → map (reload f) (only p xs) ≡ only p (map (reload f) xs)
  unfolding only
  only-map p [] = refl
  only-map p (x ∷ xs) = go (p x.rec.kind) (only-map p xs)
    where
      go : (b : Bool) → map (reload f) (only p xs) ≡ only p (map (reload f) xs)
          → map (reload f) (cond b (x ∷ only p xs) (only p xs)) ≡ cond b (reload f x ∷ only p (map (reload f) xs)) (only p (map (reload f) xs))
      go true ih = ap (λ (l : List (Item D)). reload f x ∷ l) ih
      go false ih = ih

  pub records-map : (k : ℕ) (xs : List (Item C)) → records_of k (map (reload f) xs) ≡ records_of k xs
  unfolding records_of
  records-map zero xs = refl
  records-map (suc k) [] = ap (λ (l : List Record). empty_record ∷ l) (records-map k [])
  records-map (suc k) (x ∷ xs) = ap (λ (l : List Record). x.rec ∷ l) (records-map k xs)

module _ {C D : Type 0} (f : Record → C → D) (fresh : Item C → C) (join : Item C → C → C) (fresh' : Item D → D) (join' : Item D → D → D)
    (same : Respects f fresh join fresh' join') where
  put_map : (g : Item C) (xs : List (Item C)) → map (reload f) (put fresh join g xs) ≡ put fresh' join' (reload f g) (map (reload f) xs)
  unfolding put
  put_map g [] = ap (λ (c : D). item (minimal g.rec) c ∷ []) (same.new g)
  put_map g (x ∷ xs) = go (takes_number g.rec.address.number x.rec) (put_map g xs)
    where
      go : (b : Bool) → map (reload f) (put fresh join g xs) ≡ put fresh' join' (reload f g) (map (reload f) xs)
          → map (reload f) (cond b (item (joined g.rec x.rec) (join g x.load) ∷ xs) (x ∷ put fresh join g xs))
          ≡ cond b (item (joined g.rec x.rec) (join' (reload f g) (f x.rec x.load)) ∷ map (reload f) xs)
          (reload f x ∷ put fresh' join' (reload f g) (map (reload f) xs))
      go true ih = ap (λ (c : D). item (joined g.rec x.rec) c ∷ map (reload f) xs) (same.old g x)
      go false ih = ap (λ (l : List (Item D)). reload f x ∷ l) ih

  puts-map : (gs xs : List (Item C)) → map (reload f) (puts fresh join gs xs) ≡ puts fresh' join' (map (reload f) gs) (map (reload f) xs)
  unfolding puts
  puts-map [] xs = refl
  puts-map (g ∷ gs) xs = puts-map gs (put fresh join g xs) ∙ ap (puts fresh' join' (map (reload f) gs)) (put_map g xs)

  -- to merge and then map the loads is to map them and then merge: so places, cells, SDUs and named SDUs give the same records
  pub merge-map : (xs : List (Item C)) → map (reload f) (merge fresh join xs) ≡ merge fresh' join' (map (reload f) xs)
  unfolding merge
  merge-map xs = puts-map (only is_grant_or_ack xs) (only is_kept xs) ∙ ap₂ (puts fresh' join') (only-map f is_grant_or_ack xs) (only-map f is_kept xs)

-- ---- the instances

-- loads that records keep
pub kept-loads : {C D : Type 0} (f : Record → C → D) (z : C) (z' : D) → ((g : Record) → f (minimal g) z ≡ z')
    → ((g r : Record) (c : C) → f (joined g r) c ≡ f r c) → Respects f (always z) keep (always z') keep
kept-loads f z z' new old = record { new = λ g. new g.rec; old = λ g x. old g.rec x.rec x.load }

-- a cell and the bits of its SDU
abbrev pub sdu_in_cell : Record → List ℕ → List ℕ
sdu_in_cell r cell = take r.bits (bits_of cell)

pub merge-sdus : (xs : List (Item (List ℕ))) → map (reload sdu_in_cell) (merge_cells xs) ≡ merge (always []) keep (map (reload sdu_in_cell) xs)
merge-sdus xs = merge-map sdu_in_cell (always zero_cell) keep (always []) keep (kept-loads sdu_in_cell zero_cell [] (λ g. refl) (λ g r c. refl)) xs

-- an SDU with the name of a grant, and the SDU alone
abbrev pub unnamed : {S N : Type 0} → Record → Named S N → S
unnamed r c = c.sdu

pub merge-unnamed : {S N : Type 0} (z : S) (xs : List (Item (Named S N)))
    → map (reload unnamed) (merge_named z xs) ≡ merge (always z) keep (map (reload unnamed) xs)
merge-unnamed z xs = merge-map unnamed (fresh_name z) join_name (always z) keep (record { new = λ g. refl; old = λ g x. refl }) xs
