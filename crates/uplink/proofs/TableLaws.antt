-- The table: a store changes the entry of its slot, and of no slot that is not a multiple of 72 away.
-- Assumes nothing.
use mathlib.Core.Path.{◌≡◌, refl, ap, ◌∙◌}
use mathlib.Core.Logic.{◌≢◌}
use mathlib.Core.List.{List, []}
use Prim.Native.Nat.{ℕ, ◌+◌, ◌-◌, ◌/◌, ◌%◌, ◌<◌}
use native.Mathlib.Omega.{arith}
use native.Mathlib.Decide.{ℕ_discrete}
use lib.ListN.{length, get_or, set, replicate, length-set, get_or-replicate}
use lib.Seq.{get_or-set_same, get_or-set_other}
use Rattle.tdma_time.specs.declared.TdmaTime.{TdmaTime}
use Rattle.tdma_time.specs.Time.{Valid, cycle, clock, slot_of, four_earlier}
use Rattle.tdma_time.proofs.TimeLaws.{clock-cell, slot_of-timeslot, slot_of-frame, cell, cell_parts}
use Rattle.uplink.specs.declared.Entry.{Entry}
use Rattle.uplink.specs.UplinkEntry.{empty_entry, Table, FourRowsOfEighteen, empty_table, SameEntry, entry_at, store, cleared}

-- slots of one entry stand in one row and one column
row-column : (a b : ℕ) → a % 72 ≡ b % 72 → (a % 4 ≡ b % 4) × (a / 4 % 18 ≡ b / 4 % 18)
row-column a b h = omega arith

of-row-column : (a b : ℕ) → a % 4 ≡ b % 4 → a / 4 % 18 ≡ b / 4 % 18 → a % 72 ≡ b % 72
of-row-column a b h g = omega arith

module _ (t : Table) (c : ℕ) (e : Entry) (s : FourRowsOfEighteen t) where
  row_in : c % 4 < length t
  row_in = omega (arith, s.rows)

  column-in : c / 4 % 18 < length (get_or t (c % 4) [])
  column-in = omega (arith, s.columns (c % 4) (omega arith))

  pub store-shape : FourRowsOfEighteen (store t c e)
  unfolding store
  store-shape = record { rows = length-set t _ _ ∙ s.rows; columns = go }
    where
      go : (i : ℕ) → i < 4 → length (get_or (set t (c % 4) (set (get_or t (c % 4) []) (c / 4 % 18) e)) i []) ≡ 18
      go i h = elim (ℕ_discrete i (c % 4)) [ yes p ↦ at p | no p ↦ off p ]
        where
          at : i ≡ c % 4 → length (get_or (set t (c % 4) (set (get_or t (c % 4) []) (c / 4 % 18) e)) i []) ≡ 18
          at p = rw (p, get_or-set_same t (c % 4) _ [] row_in, length-set) (s.columns (c % 4) (omega arith))

          off : i ≢ c % 4 → length (get_or (set t (c % 4) (set (get_or t (c % 4) []) (c / 4 % 18) e)) i []) ≡ 18
          off p = rw (get_or-set_other t (c % 4) i _ [] p) (s.columns i h)

  pub store_same : (x : ℕ) → x % 72 ≡ c % 72 → entry_at (store t c e) x ≡ e
  unfolding entry_at store
  store_same x h =
      rw ((row-column x c h).0, (row-column x c h).1, get_or-set_same t (c % 4) _ [] row_in) (get_or-set_same (get_or t (c % 4) []) (c / 4 % 18) e empty_entry column-in)

  pub store_other : (x : ℕ) → x % 72 ≢ c % 72 → entry_at (store t c e) x ≡ entry_at t x
  unfolding entry_at store
  store_other x h = elim (ℕ_discrete (x % 4) (c % 4)) [ yes p ↦ same_row p | no p ↦ other_row p ]
    where
      other_row : x % 4 ≢ c % 4
          → get_or (get_or (set t (c % 4) (set (get_or t (c % 4) []) (c / 4 % 18) e)) (x % 4) []) (x / 4 % 18) empty_entry
          ≡ get_or (get_or t (x % 4) []) (x / 4 % 18) empty_entry
      other_row p = ap (λ (r : List Entry). get_or r (x / 4 % 18) empty_entry) (get_or-set_other t (c % 4) (x % 4) _ [] p)

      same_row : x % 4 ≡ c % 4 → get_or (get_or (set t (c % 4) (set (get_or t (c % 4) []) (c / 4 % 18) e)) (x % 4) []) (x / 4 % 18) empty_entry
          ≡ get_or (get_or t (x % 4) []) (x / 4 % 18) empty_entry
      same_row p =
          rw (p, get_or-set_same t (c % 4) _ [] row_in) (get_or-set_other (get_or t (c % 4) []) (c / 4 % 18) (x / 4 % 18) e empty_entry
          (λ q. h (of-row-column x c p q)))

-- slots that show one time have one entry
pub entry-clock : (t : Table) (x y : ℕ) → clock x ≡ clock y → entry_at t x ≡ entry_at t y
unfolding entry_at
entry-clock t x y h = let e : x % 72 ≡ y % 72 = clock-cell x y h in rw ((row-column x y e).0, (row-column x y e).1)

pub empty-shape : FourRowsOfEighteen empty_table
empty-shape = record { rows = refl; columns = λ i h. ap length (get_or-replicate 4 i _ [] h) }

pub empty-entry : (x : ℕ) → entry_at empty_table x ≡ empty_entry
unfolding entry_at
empty-entry x = rw (get_or-replicate 4 (x % 4) (replicate 18 empty_entry) [] (omega arith)) (get_or-replicate 18 (x / 4 % 18) empty_entry empty_entry (omega arith))

-- ---- the entry of a time

time-line : (x : TdmaTime) → Valid x → slot_of x % 4 ≡ x.t - 1
time-line x v = omega (arith, slot_of-timeslot x v)

time-place : (x : TdmaTime) → Valid x → slot_of x / 4 % 18 ≡ x.f - 1
time-place x v = omega (arith, slot_of-frame x v)

pub entry-of-time : (tb : Table) (x : TdmaTime) → Valid x → get_or (get_or tb (x.t - 1) []) (x.f - 1) empty_entry ≡ entry_at tb (slot_of x)
unfolding entry_at
entry-of-time tb x v = rw (time-line x v, time-place x v)

-- the entry four slots earlier stands in the row of the time, in the column of the earlier frame
four-line : (n t : ℕ) → n % 4 ≡ t → (n + cycle - 4) % 4 ≡ t
four-line n t h = omega arith

pub cleared_at : (tb : Table) (x old : TdmaTime) → Valid x → old ≡ four_earlier x
    → set tb (x.t - 1) (set (get_or tb (x.t - 1) []) (old.f - 1) empty_entry) ≡ cleared tb x
unfolding store
cleared_at tb x old v e =
    let f : old.f - 1 ≡ (slot_of x + cycle - 4) / 4 % 18 = rw e (omega arith) in
    rw (f, four-line (slot_of x) (x.t - 1) (time-line x v))

-- clearing empties the entry of the slot four earlier, and alters no other
pub cleared-there : (tb : Table) (x : TdmaTime) → FourRowsOfEighteen tb → (c : ℕ) → SameEntry c (slot_of x + cycle - 4) → entry_at (cleared tb x) c ≡ empty_entry
cleared-there tb x s c h = store_same tb (slot_of x + cycle - 4) empty_entry s c (cell c _ h.0 h.1)

pub cleared-elsewhere : (tb : Table) (x : TdmaTime) → FourRowsOfEighteen tb → (c : ℕ) → (SameEntry c (slot_of x + cycle - 4) → ⊥)
    → entry_at (cleared tb x) c ≡ entry_at tb c
cleared-elsewhere tb x s c h = store_other tb (slot_of x + cycle - 4) empty_entry s c (λ e. h (cell_parts c _ e))
