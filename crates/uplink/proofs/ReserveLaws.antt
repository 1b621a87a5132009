-- What a reservation alters: the entries of its slots, and no other. Assumes nothing.
use Rattle.std.proofs.Common.{Option, Some, None}
use Rattle.std.specs.Option.{option_or}
use mathlib.Core.Path.{◌≡◌, refl, sym, ap, ◌∙◌}
use mathlib.Core.Logic.{◌≢◌}
use mathlib.Core.List.{List, [], ◌∷◌}
use Prim.Native.Nat.{ℕ, zero, suc, ◌+◌, ◌%◌, ◌≤◌, ◌<◌}
use native.Mathlib.Omega.{arith}
use native.Mathlib.Nat.{not-suc-le-zero, le_of_suc-le-suc}
use lib.ListN.{length, get_or, take, drop}
use Rattle.sizes.specs.Sizes.{frames_searched, timeslots}
use Rattle.lists.proofs.Every.{All, all_take, all_drop, all-weaken}
use Rattle.tdma_time.specs.Time.{first_of, frames_on, usable_of}
use Rattle.tdma_time.proofs.Basics.{RisingFrom, rising-earlier}
use Rattle.tdma_time.proofs.SlotLaws.{usable_of-all, frames_on-window}
use Rattle.tdma_time.proofs.UsableLaws.{usables-rising, usable_of-run, after, after-from}
use Rattle.uplink.specs.declared.Entry.{Entry}
use Rattle.uplink.specs.HalfSlot.{Half}
use Rattle.uplink.specs.UplinkEntry.{Table, FourRowsOfEighteen, entry_at, with_marker, with_halves, reserve}
use Rattle.uplink.specs.Request.{candidates}
use Rattle.uplink.proofs.TableLaws.{store-shape, store_same, store_other}

-- slots in order, all among the 72 from n on: no two of them share an entry
pub record Window (n : ℕ) (cs : List ℕ) : Type 0 where
  pub rising : RisingFrom n cs
  pub near : All (λ c. c < n + 72) cs

-- the slots of a run are such
pub run-window : (t now i n : ℕ) → 1 ≤ t → t ≤ timeslots → i + n ≤ length (candidates t now) → Window now (take n (drop i (candidates t now)))
unfolding candidates
run-window t now i n h g l =
    record {
      rising =
          rising-earlier now (after t now i) (take n (drop i cs)) (after-from t now i)
          (rw (usable_of-run t now frames_searched h g i n l) (usables-rising t (after t now i) n));
      near =
          all_take (λ c. c < now + 72) n (drop i cs)
          (all_drop (λ c. c < now + 72) i cs
          (usable_of-all (λ c. c < now + 72) (frames_on (first_of t now) frames_searched)
          (all-weaken _ _ (λ c k. omega (arith, k.1)) (frames_on (first_of t now) frames_searched) (frames_on-window t now frames_searched))));
    }
  where
    cs : List ℕ
    cs = usable_of (frames_on (first_of t now) frames_searched)

-- a slot of the window differs in its entry from those after it
apart : (n c : ℕ) (cs : List ℕ) → n ≤ c → c < n + 72 → RisingFrom (c + 1) cs → All (λ d. d < n + 72) cs → All (λ d. c % 72 ≢ d % 72) cs
apart n c [] low high h k = tt
apart n c (d ∷ cs) low high h k =
    (λ e. absurd (off n c d low h.0 k.0 e), apart n c cs low high (rising-earlier (c + 1) (d + 1) cs (omega (arith, h.0)) h.1) k.1)
  where
    off : (n c d : ℕ) → n ≤ c → c + 1 ≤ d → d < n + 72 → c % 72 ≡ d % 72 → ⊥
    off n c d low h k e = omega arith

-- a new marker, or the one that was there
pub with_marker-or : (e : Entry) (m : Option ℕ) → record { ul1 = e.ul1; ul2 = e.ul2; usage_marker = option_or m e.usage_marker } ≡ with_marker e m
with_marker-or e None = refl
with_marker-or e (Some k) = refl

module _ (hs : List Half) (who : ℕ) (m : Option ℕ) where
  -- the entry of a slot once reserved
  abbrev taken : Entry → Entry
  taken e = with_halves (with_marker e m) hs who

  pub reserve-shape : (cs : List ℕ) (tb : Table) → FourRowsOfEighteen tb → FourRowsOfEighteen (reserve tb hs who m cs)
  unfolding reserve
  reserve-shape [] tb s = s
  reserve-shape (c ∷ cs) tb s = reserve-shape cs _ (store-shape tb c _ s)

  -- an entry that is of none of the slots stays
  pub reserve-other : (cs : List ℕ) (tb : Table) → FourRowsOfEighteen tb → (x : ℕ) → All (λ c. x % 72 ≢ c % 72) cs
      → entry_at (reserve tb hs who m cs) x ≡ entry_at tb x
  unfolding reserve
  reserve-other [] tb s x h = refl
  reserve-other (c ∷ cs) tb s x h = reserve-other cs _ (store-shape tb c _ s) x h.1 ∙ store_other tb c _ s x h.0

  -- the entry of each slot is taken
  pub reserve-at : (n : ℕ) (cs : List ℕ) (tb : Table) → FourRowsOfEighteen tb → Window n cs → (j : ℕ) → j < length cs
      → entry_at (reserve tb hs who m cs) (get_or cs j 0) ≡ taken (entry_at tb (get_or cs j 0))
  unfolding reserve
  reserve-at n [] tb s w j l = absurd (not-suc-le-zero l)
  reserve-at n (c ∷ cs) tb s w zero l =
      reserve-other cs _ (store-shape tb c _ s) c (apart n c cs w.rising.0 w.near.0 w.rising.1 w.near.1) ∙ store_same tb c _ s c refl
  reserve-at n (c ∷ cs) tb s w (suc j) l =
      reserve-at n cs _ (store-shape tb c _ s) (record {
        rising = rising-earlier n (c + 1) cs (omega (arith, w.rising.0))
            w.rising.1;
        near = w.near.1;
      }) j (le_of_suc-le-suc l)
      ∙ ap taken (store_other tb c _ s (get_or cs j 0) (all_get_d cs j (le_of_suc-le-suc l)
      (apart n c cs w.rising.0 w.near.0 w.rising.1 w.near.1)))
    where
      all_get_d : (cs : List ℕ) (j : ℕ) → j < length cs → All (λ d. c % 72 ≢ d % 72) cs → get_or cs j 0 % 72 ≢ c % 72
      all_get_d [] j l h = absurd (not-suc-le-zero l)
      all_get_d (d ∷ cs) zero l h = λ e. h.0 (sym e)
      all_get_d (d ∷ cs) (suc j) l h = all_get_d cs j (le_of_suc-le-suc l) h.1
