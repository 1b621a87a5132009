-- Table and reference model match: in the 68 slots from now on each entry is alike. What keeps them matched. Assumes nothing.
use Rattle.std.proofs.Common.{Option}
use mathlib.Core.Path.{◌≡◌, refl, sym, ap, ◌∙◌}
use mathlib.Core.Logic.{◌≢◌}
use mathlib.Core.Bool.{Bool, true, false, cond}
use mathlib.Core.List.{List, [], ◌∷◌}
use Prim.Native.Nat.{ℕ, ◌+◌, ◌-◌, ◌%◌, ◌≤◌, ◌<◌}
use native.Mathlib.Omega.{arith}
use native.Mathlib.Decide.{ℕ_discrete}
use lib.Dec.{eqb}
use Rattle.lists.proofs.Every.{All}
use Rattle.tdma_time.specs.Time.{cycle, clock}
use Rattle.uplink.specs.declared.Entry.{Entry}
use Rattle.uplink.specs.HalfSlot.{Half, first_half, second_half, halves_at, halves_of_slots}
use Rattle.uplink.specs.UplinkEntry.{empty_entry, Table, FourRowsOfEighteen, empty_table, entry_at, store, holder, table_view, with_halves, with_marker, reserve}
use Rattle.uplink.specs.Request.{halves_of}
use Rattle.uplink.proofs.VerdictLaws.{Near}
use Rattle.uplink.proofs.TableLaws.{store-shape, store_same, store_other, entry-clock, empty-shape, empty-entry}
use Rattle.history.specs.UplinkModel.{Taken, taken_by, model_view, marked_by, model_entry, freed, take_halves}
use Rattle.history.specs.Demand3.{slots_agreed}
use Rattle.history.proofs.ModelLaws.{takes-append}
use Rattle.history.proofs.EntryLaws.{holder-entry, entry-freed, entry-stays, entry-off, entry-time, SomeHalf, entry_more}

-- At slot n: table and model agree on the 69 slots from n on, of which the model has nothing in the last, nor in any
-- later one up to n's return. The 69th slot's entry is that of the slot four before n, which the last advance emptied.
pub record Matched (n : ℕ) (t : Table) (xs : List Taken) : Type 0 where
  pub shape : FourRowsOfEighteen t
  pub agree : (c : ℕ) → n ≤ c → c < n + (slots_agreed + 1) → entry_at t c ≡ model_entry xs c
  pub ahead : (c : ℕ) → n + slots_agreed ≤ c → c < n + cycle → model_entry xs c ≡ empty_entry

-- half by half
pub same-halves : (n : ℕ) (t : Table) (xs : List Taken) → Matched n t xs → (c : ℕ) → n ≤ c → c < n + (slots_agreed + 1) → (h : Half)
    → table_view t c h ≡ model_view xs c h
same-halves n t xs m c l g h = ap (λ (e : Entry). holder e h) (m.agree c l g) ∙ holder-entry xs c h

-- ---- slots of the window

apart-cell : (n c d : ℕ) → n ≤ c → c < n + 72 → n ≤ d → d < n + 72 → c ≢ d → c % 72 ≢ d % 72
apart-cell n c d h g k l e = λ q. e (omega arith)

apart-clock : (n c d : ℕ) → n ≤ c → c < n + cycle → n ≤ d → d < n + cycle → c ≢ d → clock c ≢ clock d
apart-clock n c d h g k l e = λ q. e (omega arith)

-- ---- one slot reserved

-- "the named half of one", or both
pub halves-some : (cap : ℕ) → SomeHalf (halves_of cap)
unfolding halves_of
halves-some cap = go (eqb cap 0) (eqb cap 15)
  where
    go : (a b : Bool) → SomeHalf (cond a (first_half ∷ []) (cond b (second_half ∷ []) (first_half ∷ second_half ∷ [])))
    go true b = tt
    go false true = tt
    go false false = tt

module _ (n : ℕ) (t : Table) (xs : List Taken) (m : Matched n t xs) where
  reserve-one : (hs : List Half) → SomeHalf hs → (who : ℕ) (k : Option ℕ) (c : ℕ) → n ≤ c → c < n + slots_agreed
      → Matched n (store t c (with_halves (with_marker (entry_at t c) k) hs who)) (take_halves (halves_at hs c) who k xs)
  reserve-one hs some who k c low high = record { shape = store-shape t c _ m.shape; agree = agree'; ahead = ahead' }
    where
      e : Entry
      e = with_halves (with_marker (entry_at t c) k) hs who

      agree' : (x : ℕ) → n ≤ x → x < n + (slots_agreed + 1) → entry_at (store t c e) x ≡ model_entry (take_halves (halves_at hs c) who k xs) x
      agree' x l g = elim (ℕ_discrete x c) [ yes p ↦ at p | no p ↦ off p ]
        where
          at : x ≡ c → entry_at (store t c e) x ≡ model_entry (take_halves (halves_at hs c) who k xs) x
          at p =
              rw (p, store_same t c e m.shape c refl)
              (ap (λ (y : Entry). with_halves (with_marker y k) hs who) (m.agree c low (omega arith)) ∙ entry_more c who k hs some xs)

          off : x ≢ c → entry_at (store t c e) x ≡ model_entry (take_halves (halves_at hs c) who k xs) x
          off p =
              store_other t c e m.shape x (apart-cell n x c l (omega arith) low (omega arith) p)
              ∙ m.agree x l g
              ∙ sym (entry-off hs c who k xs x (λ q. apart-clock n x c l (omega arith) low (omega arith) p (sym q)))

      ahead' : (x : ℕ) → n + slots_agreed ≤ x → x < n + cycle → model_entry (take_halves (halves_at hs c) who k xs) x ≡ empty_entry
      ahead' x l g = entry-off hs c who k xs x (λ q. apart-clock n c x low (omega arith) (omega arith) g (omega arith) q) ∙ m.ahead x l g

-- ---- a run of slots reserved

pub reserve-matched : (n : ℕ) (hs : List Half) → SomeHalf hs → (who : ℕ) (k : Option ℕ) (cs : List ℕ) → All (Near n) cs → (t : Table) (xs : List Taken)
    → Matched n t xs
    → Matched n (reserve t hs who k cs) (take_halves (halves_of_slots hs cs) who k xs)
unfolding reserve halves_of_slots take_halves
reserve-matched n hs some who k [] near t xs m = m
reserve-matched n hs some who k (c ∷ cs) near t xs m =
    rw (takes-append (halves_at hs c) (halves_of_slots hs cs) who k xs)
    (reserve-matched n hs some who k cs near.1 _ _ (reserve-one n t xs m hs some who k c near.0.0 near.0.1))

-- ---- the next slot

-- the entry of the slot four before slot n + 1 is that of slot n + 69
pub emptied-cell : (n : ℕ) → (clock (n + 1) + cycle - 4) % 72 ≡ (n + (slots_agreed + 1)) % 72
emptied-cell n = omega arith

-- the slot from n + 1 on that shows the time of a slot from `clock (n + 1)` on
carry : ℕ → ℕ → ℕ
carry n c = c - clock (n + 1) + (n + 1)

carry-clock : (n c : ℕ) → n < cycle → clock (n + 1) ≤ c → clock c ≡ clock (carry n c)
unfolding carry
carry-clock n c h l = omega arith

carry-from : (n c k : ℕ) → clock (n + 1) + k ≤ c → n + 1 + k ≤ carry n c
unfolding carry
carry-from n c k l = omega arith

carry-to : (n c k : ℕ) → clock (n + 1) ≤ c → c < clock (n + 1) + k → carry n c < n + 1 + k
unfolding carry
carry-to n c k l g = omega arith

module _ (n : ℕ) (t : Table) (xs : List Taken) (valid : n < cycle) (m : Matched n t xs) where
  abbrev left : Table
  left = store t (clock (n + 1) + cycle - 4) empty_entry

  agree-next : (c : ℕ) → n + 1 ≤ c → c < n + (slots_agreed + 2) → entry_at left c ≡ model_entry (freed xs n) c
  agree-next c l g = elim (ℕ_discrete c (n + (slots_agreed + 1))) [ yes p ↦ at p | no p ↦ off p ]
    where
      stays : clock c ≢ n
      stays = omega arith

      at : c ≡ n + (slots_agreed + 1) → entry_at left c ≡ model_entry (freed xs n) c
      at p =
          store_same t _ empty_entry m.shape c (ap (λ (k : ℕ). k % 72) p ∙ sym (emptied-cell n))
          ∙ sym (entry-stays xs n c stays ∙ m.ahead c (omega arith) (omega arith))

      off : c ≢ n + (slots_agreed + 1) → entry_at left c ≡ model_entry (freed xs n) c
      off p =
          store_other t _ empty_entry m.shape c (λ q. apart-cell n c (n + (slots_agreed + 1)) (omega arith) (omega arith) (omega arith) (omega arith) p
          (q ∙ emptied-cell n))
          ∙ m.agree c (omega arith) (omega arith)
          ∙ sym (entry-stays xs n c stays)

  ahead-next : (c : ℕ) → n + (slots_agreed + 1) ≤ c → c < n + 1 + cycle → model_entry (freed xs n) c ≡ empty_entry
  ahead-next c l g = elim (ℕ_discrete c (n + cycle)) [ yes p ↦ at p | no p ↦ off p ]
    where
      at : c ≡ n + cycle → model_entry (freed xs n) c ≡ empty_entry
      at p = let e : clock c ≡ n = omega arith in entry-freed xs n c e

      off : c ≢ n + cycle → model_entry (freed xs n) c ≡ empty_entry
      off p = let stays : clock c ≢ n = omega arith in entry-stays xs n c stays ∙ m.ahead c (omega arith) (omega arith)

  pub advance-matched : Matched (clock (n + 1)) left (freed xs n)
  advance-matched = record { shape = store-shape t _ empty_entry m.shape; agree = agree'; ahead = ahead' }
    where
      agree' : (c : ℕ) → clock (n + 1) ≤ c → c < clock (n + 1) + (slots_agreed + 1) → entry_at left c ≡ model_entry (freed xs n) c
      agree' c l g =
          let e : clock c ≡ clock (carry n c) = carry-clock n c valid l in
          entry-clock left c (carry n c) e
          ∙ agree-next (carry n c) (omega (arith, carry-from n c 0 (omega arith))) (omega (arith, carry-to n c (slots_agreed + 1) l g))
          ∙ sym (entry-time (freed xs n) c (carry n c) e)

      ahead' : (c : ℕ) → clock (n + 1) + slots_agreed ≤ c → c < clock (n + 1) + cycle → model_entry (freed xs n) c ≡ empty_entry
      ahead' c l g =
          entry-time (freed xs n) c (carry n c) (carry-clock n c valid (omega arith))
          ∙ ahead-next (carry n c) (omega (arith, carry-from n c slots_agreed l)) (omega (arith, carry-to n c cycle (omega arith) g))

-- ---- the new station

pub new-matched : (n : ℕ) → Matched n empty_table []
unfolding taken_by marked_by
new-matched n = record { shape = empty-shape; agree = λ c l g. empty-entry c; ahead = λ c l g. refl }
