-- The reference model: the entry of a slot, halves and marker, after half-slots are freed, or taken. Assumes nothing.
use Rattle.std.proofs.Common.{Option, Some, None}
use mathlib.Core.Path.{◌≡◌, refl, sym, ap, ◌∙◌}
use mathlib.Core.Logic.{◌≢◌}
use mathlib.Core.Bool.{Bool, true, false, cond}
use mathlib.Core.List.{List, [], ◌∷◌}
use Prim.Native.Nat.{ℕ}
use lib.Dec.{eqb}
use borrow.Author.Tests.{eqb-true, eq-eqb, ne_eqb}
use Rattle.tdma_time.specs.Time.{clock}
use Rattle.uplink.specs.declared.Entry.{Entry}
use Rattle.uplink.specs.HalfSlot.{Half, first_half, second_half, halves_at}
use Rattle.uplink.specs.UplinkEntry.{empty_entry, holder, with_half, with_halves, with_marker}
use Rattle.dl_merge.specs.Merge.{or_else}
use Rattle.history.specs.UplinkModel.{Taken, same_half, taken_by, model_view, marked_by, model_entry, freed, take_halves}
use Rattle.history.proofs.ModelLaws.{taken-on, freed-same, freed-other, half_slot, takes-off}

-- what an entry shows of its halves
pub holder-entry : (xs : List Taken) (c : ℕ) (h : Half) → holder (model_entry xs c) h ≡ model_view xs c h
holder-entry xs c first_half = refl
holder-entry xs c second_half = refl

-- ---- the marker

marked-off : (x : Taken) (xs : List Taken) (t : ℕ) → x.what.time ≢ t → marked_by (x ∷ xs) t ≡ marked_by xs t
unfolding marked_by
marked-off x xs t e = rw (ne_eqb _ _ e)

marked-on : (x : Taken) (xs : List Taken) (t : ℕ) → x.what.time ≡ t → marked_by (x ∷ xs) t ≡ or_else x.marker (marked_by xs t)
unfolding marked_by
marked-on x xs t e = rw (eq-eqb _ _ e)

freed-unmarked : (xs : List Taken) (t : ℕ) → marked_by (freed xs t) t ≡ None
unfolding marked_by freed
freed-unmarked [] t = refl
freed-unmarked (x ∷ xs) t = go (eqb x.what.time t) refl (freed-unmarked xs t)
  where
    go : (b : Bool) → eqb x.what.time t ≡ b → marked_by (freed xs t) t ≡ None → marked_by (cond b (freed xs t) (x ∷ freed xs t)) t ≡ None
    go true e ih = ih
    go false e ih = rw e ih

freed-marked : (xs : List Taken) (u t : ℕ) → t ≢ u → marked_by (freed xs u) t ≡ marked_by xs t
unfolding marked_by freed
freed-marked [] u t k = refl
freed-marked (x ∷ xs) u t k = go (eqb x.what.time u) refl (freed-marked xs u t k)
  where
    go : (b : Bool) → eqb x.what.time u ≡ b → marked_by (freed xs u) t ≡ marked_by xs t
        → marked_by (cond b (freed xs u) (x ∷ freed xs u)) t ≡ marked_by (x ∷ xs) t
    go true e ih = ih ∙ sym (marked-off x xs t (λ q. k (sym q ∙ eqb-true _ _ e)))
    go false e ih = rw ih

takes-unmarked : (hs : List Half) (c who : ℕ) (marker : Option ℕ) (xs : List Taken) (t : ℕ) → clock c ≢ t
    → marked_by (take_halves (halves_at hs c) who marker xs) t ≡ marked_by xs t
unfolding take_halves halves_at
takes-unmarked [] c who marker xs t e = refl
takes-unmarked (x ∷ hs) c who marker xs t e = takes-unmarked hs c who marker _ t e ∙ marked-off _ xs t e

-- ---- the entry

entry-same : (xs ys : List Taken) (c : ℕ) → ((h : Half) → taken_by xs (clock c) h ≡ taken_by ys (clock c) h)
    → marked_by xs (clock c) ≡ marked_by ys (clock c) → model_entry xs c ≡ model_entry ys c
entry-same xs ys c k e = rw (k first_half, k second_half, e)

pub entry-freed : (xs : List Taken) (n c : ℕ) → clock c ≡ n → model_entry (freed xs n) c ≡ empty_entry
entry-freed xs n c e = rw (e, freed-same xs n first_half, freed-same xs n second_half, freed-unmarked xs n)

pub entry-stays : (xs : List Taken) (n c : ℕ) → clock c ≢ n → model_entry (freed xs n) c ≡ model_entry xs c
entry-stays xs n c e = entry-same (freed xs n) xs c (λ h. freed-other xs n (clock c) h e) (freed-marked xs n (clock c) e)

-- where halves of another slot are taken
pub entry-off : (hs : List Half) (c who : ℕ) (marker : Option ℕ) (xs : List Taken) (x : ℕ) → clock c ≢ clock x
    → model_entry (take_halves (halves_at hs c) who marker xs) x ≡ model_entry xs x
entry-off hs c who marker xs x e = entry-same _ xs x (λ h. takes-off hs c who marker xs (clock x) h e) (takes-unmarked hs c who marker xs (clock x) e)

-- slots that show one time
pub entry-time : (xs : List Taken) (c d : ℕ) → clock c ≡ clock d → model_entry xs c ≡ model_entry xs d
entry-time xs c d e = rw e

-- ---- halves of a slot taken

-- at least one half
abbrev pub SomeHalf : List Half → Type 0
SomeHalf [] = ⊥
SomeHalf (h ∷ hs) = Unit {0}

module _ (c who : ℕ) (marker : Option ℕ) where
  abbrev taken : Half → Taken
  taken h = record { what = half_slot (clock c) h; who = who; marker = marker }

  -- a half more
  one_more : (xs : List Taken) (h : Half) → with_half (with_marker (model_entry xs c) marker) h who ≡ model_entry (taken h ∷ xs) c
  one_more xs h =
      rw (taken-on (taken h) xs (clock c) first_half refl, taken-on (taken h) xs (clock c) second_half refl, marked-on (taken h) xs (clock c) refl) (go marker h)
    where
      go : (k : Option ℕ) (h : Half) → with_half (with_marker (model_entry xs c) k) h who
          ≡ record {
            ul1 = cond (same_half h first_half) (Some who) (model_view xs c first_half);
            ul2 = cond (same_half h second_half) (Some who) (model_view xs c second_half);
            usage_marker = or_else k (marked_by xs (clock c));
          }
      go None first_half = refl
      go None second_half = refl
      go (Some m) first_half = refl
      go (Some m) second_half = refl

  -- it has the marker
  once-marked : (xs : List Taken) (h : Half) → with_marker (model_entry (taken h ∷ xs) c) marker ≡ model_entry (taken h ∷ xs) c
  once-marked xs h = rw (marked-on (taken h) xs (clock c) refl) (go marker)
    where
      e : Option ℕ → Entry
      e k =
          record { ul1 = model_view (taken h ∷ xs) c first_half; ul2 = model_view (taken h ∷ xs) c second_half; usage_marker = or_else k (marked_by xs (clock c)) }

      go : (k : Option ℕ) → with_marker (e k) k ≡ e k
      go None = refl
      go (Some m) = refl

  all_more : (hs : List Half) (xs : List Taken) → with_marker (model_entry xs c) marker ≡ model_entry xs c
      → with_halves (model_entry xs c) hs who ≡ model_entry (take_halves (halves_at hs c) who marker xs) c
  unfolding with_halves take_halves halves_at
  all_more [] xs e = refl
  all_more (h ∷ hs) xs e =
      ap (λ (y : Entry). with_halves y hs who) (ap (λ (y : Entry). with_half y h who) (sym e) ∙ one_more xs h)
      ∙ all_more hs (taken h ∷ xs) (once-marked xs h)

  pub entry_more : (hs : List Half) → SomeHalf hs → (xs : List Taken)
      → with_halves (with_marker (model_entry xs c) marker) hs who ≡ model_entry (take_halves (halves_at hs c) who marker xs) c
  unfolding with_halves take_halves halves_at
  entry_more [] k xs = absurd k
  entry_more (h ∷ hs) k xs = ap (λ (y : Entry). with_halves y hs who) (one_more xs h) ∙ all_more hs (taken h ∷ xs) (once-marked xs h)
