-- The reference model: who holds what after half-slots are freed, or taken. Assumes nothing.
use Rattle.std.proofs.lemmas.Bool.{and_parts}
use Rattle.std.proofs.Common.{Option, Some, None}
use mathlib.Core.Path.{◌≡◌, refl, sym, ◌∙◌}
use mathlib.Core.Logic.{◌⊎◌, inl, inr, ⊎_elim, ◌≢◌}
use mathlib.Core.Bool.{Bool, true, false, ◌&&◌, cond}
use mathlib.Core.List.Memᴰ
use mathlib.Core.List.{List, [], ◌∷◌, ◌++◌, Memᴰ}
use Prim.Native.Nat.{ℕ}
use native.Mathlib.Omega.{arith}
use lib.Dec.{eqb}
use borrow.Author.Tests.{eqb-true, eq-eqb, ne_eqb}
use Rattle.lists.proofs.Every.{All, all-weaken}
use Rattle.tdma_time.specs.Time.{clock}
use Rattle.tdma_time.proofs.Basics.{either}
use Rattle.uplink.specs.HalfSlot.{Half, first_half, second_half, HalfSlot, halves_at}
use Rattle.uplink.proofs.Basics.{not-both}
use Rattle.history.specs.UplinkModel.{Taken, same_half, taken_by, freed, take_halves}

-- ---- halves and holders

same_self : (h : Half) → same_half h h ≡ true
same_self first_half = refl
same_self second_half = refl

same-eq : (h k : Half) → same_half h k ≡ true → h ≡ k
same-eq first_half first_half e = refl
same-eq first_half second_half e = not-both false e refl
same-eq second_half first_half e = not-both false e refl
same-eq second_half second_half e = refl

-- nobody is no holder
pub held-not-free : {w : ℕ} → Some w ≡ None → ⊥
held-not-free e = let z : ◌≡◌ {A = ℕ} 0 1 = cc in omega arith

-- ---- one half-slot more

pub taken-off : (x : Taken) (xs : List Taken) (t : ℕ) (h : Half) → x.what.time ≢ t → taken_by (x ∷ xs) t h ≡ taken_by xs t h
unfolding taken_by
taken-off x xs t h e = rw (ne_eqb _ _ e)

pub taken-on : (x : Taken) (xs : List Taken) (t : ℕ) (h : Half) → x.what.time ≡ t
    → taken_by (x ∷ xs) t h ≡ cond (same_half x.what.half h) (Some x.who) (taken_by xs t h)
unfolding taken_by
taken-on x xs t h e = rw (eq-eqb _ _ e)

-- ---- a slot freed

pub freed-same : (xs : List Taken) (t : ℕ) (h : Half) → taken_by (freed xs t) t h ≡ None
unfolding taken_by freed
freed-same [] t h = refl
freed-same (x ∷ xs) t h = go (eqb x.what.time t) refl (freed-same xs t h)
  where
    go : (b : Bool) → eqb x.what.time t ≡ b → taken_by (freed xs t) t h ≡ None → taken_by (cond b (freed xs t) (x ∷ freed xs t)) t h ≡ None
    go true e ih = ih
    go false e ih = rw e ih

pub freed-other : (xs : List Taken) (u t : ℕ) (h : Half) → t ≢ u → taken_by (freed xs u) t h ≡ taken_by xs t h
unfolding taken_by freed
freed-other [] u t h k = refl
freed-other (x ∷ xs) u t h k = go (eqb x.what.time u) refl (freed-other xs u t h k)
  where
    go : (b : Bool) → eqb x.what.time u ≡ b → taken_by (freed xs u) t h ≡ taken_by xs t h
        → taken_by (cond b (freed xs u) (x ∷ freed xs u)) t h ≡ taken_by (x ∷ xs) t h
    go true e ih = ih ∙ sym (taken-off x xs t h (λ q. k (sym q ∙ eqb-true _ _ e)))
    go false e ih = rw ih

-- ---- half-slots taken

pub takes-append : (ys zs : List HalfSlot) (who : ℕ) (marker : Option ℕ) (xs : List Taken)
    → take_halves (ys ++ zs) who marker xs ≡ take_halves zs who marker (take_halves ys who marker xs)
unfolding take_halves
takes-append [] zs who marker xs = refl
takes-append (y ∷ ys) zs who marker xs = takes-append ys zs who marker _

-- those of another slot
pub takes-off : (hs : List Half) (c who : ℕ) (marker : Option ℕ) (xs : List Taken) (t : ℕ) (h : Half) → clock c ≢ t
    → taken_by (take_halves (halves_at hs c) who marker xs) t h ≡ taken_by xs t h
unfolding take_halves halves_at
takes-off [] c who marker xs t h e = refl
takes-off (x ∷ hs) c who marker xs t h e = takes-off hs c who marker _ t h e ∙ taken-off _ xs t h e

-- what the number holds it keeps
takes-keeps : (ys : List HalfSlot) (who : ℕ) (marker : Option ℕ) (xs : List Taken) (t : ℕ) (h : Half) → taken_by xs t h ≡ Some who
    → taken_by (take_halves ys who marker xs) t h ≡ Some who
unfolding take_halves taken_by
takes-keeps [] who marker xs t h e = e
takes-keeps (y ∷ ys) who marker xs t h e = takes-keeps ys who marker _ t h (go (eqb y.time t && same_half y.half h))
  where
    go : (b : Bool) → cond b (Some who) (taken_by xs t h) ≡ Some who
    go true = refl
    go false = e

-- each of them is held by the number
pub takes-has : (y : HalfSlot) (ys : List HalfSlot) (who : ℕ) (marker : Option ℕ) (xs : List Taken) → Memᴰ y ys
    → taken_by (take_halves ys who marker xs) y.time y.half ≡ Some who
unfolding take_halves
takes-has y [] who marker xs m = absurd (Memᴰ.not-nil m)
takes-has y (z ∷ ys) who marker xs m = ⊎_elim here (takes-has y ys who marker _) (Memᴰ.cases_cons m)
  where
    here : y ≡ z → taken_by (take_halves ys who marker (record { what = z; who = who; marker = marker } ∷ xs)) y.time y.half ≡ Some who
    here e = rw e (takes-keeps ys who marker _ z.time z.half (taken-on _ xs z.time z.half refl ∙ rw (same_self z.half)))

-- ---- what is held stays held where free half-slots are taken

abbrev pub Free : List Taken → HalfSlot → Type 0
Free xs y = taken_by xs y.time y.half ≡ None

abbrev Other : ℕ → Half → HalfSlot → Type 0
Other t h y = eqb y.time t && same_half y.half h ≡ false

takes-other : (ys : List HalfSlot) (who : ℕ) (marker : Option ℕ) (xs : List Taken) (t : ℕ) (h : Half) → All (Other t h) ys
    → taken_by (take_halves ys who marker xs) t h ≡ taken_by xs t h
unfolding take_halves taken_by
takes-other [] who marker xs t h k = refl
takes-other (y ∷ ys) who marker xs t h k = takes-other ys who marker _ t h k.1 ∙ rw k.0

free_other : (xs : List Taken) (t : ℕ) (h : Half) (w : ℕ) → taken_by xs t h ≡ Some w → (y : HalfSlot) → Free xs y → Other t h y
free_other xs t h w e y f = ⊎_elim clash (λ n. n) (either _)
  where
    clash : eqb y.time t && same_half y.half h ≡ true → Other t h y
    clash b =
        let et : y.time ≡ t = eqb-true _ _ (and_parts (eqb y.time t) _ b).0 in
        let eh : y.half ≡ h = same-eq _ _ (and_parts (eqb y.time t) _ b).1 in
        let taken : taken_by xs y.time y.half ≡ Some w = rw (et, eh) e in
        absurd (held-not-free (sym taken ∙ f))

pub takes-stays : (ys : List HalfSlot) (who : ℕ) (marker : Option ℕ) (xs : List Taken) (t : ℕ) (h : Half) (w : ℕ) → All (Free xs) ys
    → taken_by xs t h ≡ Some w → taken_by (take_halves ys who marker xs) t h ≡ Some w
takes-stays ys who marker xs t h w f e = takes-other ys who marker xs t h (all-weaken _ _ (free_other xs t h w e) ys f) ∙ e

-- ---- what is held was taken now, or held before

abbrev pub half_slot : ℕ → Half → HalfSlot
half_slot t h = record { time = t; half = h }

pub takes-source : (ys : List HalfSlot) (who : ℕ) (marker : Option ℕ) (xs : List Taken) (t : ℕ) (h : Half) (w : ℕ)
    → taken_by (take_halves ys who marker xs) t h ≡ Some w
    → (Memᴰ (half_slot t h) ys × (who ≡ w)) ⊎ (taken_by xs t h ≡ Some w)
unfolding take_halves taken_by
takes-source [] who marker xs t h w e = inr e
takes-source (y ∷ ys) who marker xs t h w e = go (takes-source ys who marker _ t h w e)
  where
    here : (b : Bool) → eqb y.time t && same_half y.half h ≡ b → cond b (Some who) (taken_by xs t h) ≡ Some w
        → (Memᴰ (half_slot t h) (y ∷ ys) × (who ≡ w)) ⊎ (taken_by xs t h ≡ Some w)
    here true b o =
        let et : t ≡ y.time = sym (eqb-true _ _ (and_parts (eqb y.time t) _ b).0) in
        let eh : h ≡ y.half = sym (same-eq _ _ (and_parts (eqb y.time t) _ b).1) in
        let e : who ≡ w = cc in
        inl (Memᴰ.head (λ i. record { time = et i; half = eh i }), e)
    here false b o = inr o

    go : (Memᴰ (half_slot t h) ys × (who ≡ w)) ⊎ (taken_by (record { what = y; who = who; marker = marker } ∷ xs) t h ≡ Some w)
        → (Memᴰ (half_slot t h) (y ∷ ys) × (who ≡ w)) ⊎ (taken_by xs t h ≡ Some w)
    go (inl p) = inl (Memᴰ.tail p.0, p.1)
    go (inr o) = here (eqb y.time t && same_half y.half h) refl o
