-- Reservation, clearing and drawing a marker keep the table and the counters sound. Assumes nothing.
use Rattle.std.specs.List.{list_all}
use Rattle.std.proofs.lemmas.Bool.{and_parts}
use Rattle.std.specs.Cmp.Derive.{both_true}
use Rattle.std.proofs.Common.{Option, Some, None}
use mathlib.Core.Path.{◌≡◌, refl, ap, ◌∙◌}
use mathlib.Core.Bool.{Bool, true, false, ◌&&◌, cond}
use mathlib.Core.List.{List, [], ◌∷◌}
use Prim.Native.Nat.{ℕ, zero, suc, ◌+◌, ◌-◌, ◌*◌, ◌/◌, ◌%◌, ◌^◌, ◌≤◌, ◌<◌}
use native.Mathlib.Omega.{arith}
use native.Mathlib.Decide.{ℕ_discrete}
use lib.ListN.{length, get_or, set}
use lib.Dec.{leb, ltb}
use borrow.Author.Tests.{leb-true, leb-false, le-leb, lt-ltb}
use Rattle.sizes.specs.Sizes.{timeslots}
use Rattle.tdma_time.specs.declared.TdmaTime.{TdmaTime}
use Rattle.tdma_time.specs.Time.{Valid, valid, slot_of, next_time}
use Rattle.tdma_time.proofs.TimeLaws.{true-valid, valid-true, time_of-valid}
use Rattle.uplink.specs.declared.Entry.{Entry}
use Rattle.uplink.specs.declared.Uplink.{Uplink}
use Rattle.uplink.specs.HalfSlot.{Half, first_half, second_half, vacant}
use Rattle.uplink.specs.UplinkEntry.{empty_entry, Table, FourRowsOfEighteen, entry_at, store, with_halves, with_marker, reserve, cleared, sound_owner}
use Rattle.uplink.specs.UplinkEntry.{sound_counter, sound_marker, sound_entry, sound_row, sound_table, sound_counters}
use Rattle.uplink.specs.Uplink.{new_uplink, advanced_uplink, sound_uplink}
use Rattle.uplink.specs.Request.{next_marker, drawn}
use Rattle.uplink.proofs.Basics.{not-both}
use Rattle.uplink.proofs.TableLaws.{store-shape, store_same, store_other}
use Rattle.uplink.proofs.Everywhere.{all-at, at_all}

-- ---- an entry

-- a sound entry's parts
pub record EntryParts (e : Entry) : Type 0 where
  pub first : sound_owner e.ul1 ≡ true
  pub second : sound_owner e.ul2 ≡ true
  pub marker : sound_marker e.usage_marker ≡ true
  pub alone : vacant e.ul1 ≡ true → e ≡ empty_entry

pub entry-parts : (e : Entry) → sound_entry e ≡ true → EntryParts e
entry-parts e h = go e.ul1 e.ul2 e.usage_marker h
  where
    go : (a b : Option ℕ) (m : Option ℕ) → sound_entry (record { ul1 = a; ul2 = b; usage_marker = m }) ≡ true
        → EntryParts (record { ul1 = a; ul2 = b; usage_marker = m })
    go None None None h = record { first = refl; second = refl; marker = refl; alone = λ k. refl }
    go None None (Some m) h = not-both false h refl
    go None (Some w) m h = not-both false h refl
    go (Some w) b m h =
        let k : ltb w (2 ^ 24) && sound_owner b ≡ true = (and_parts _ (sound_marker m) h).0 in
        record {
          first = (and_parts _ (sound_owner b) k).0;
          second = (and_parts (ltb w (2 ^ 24)) _ k).1;
          marker = (and_parts (ltb w (2 ^ 24) && sound_owner b) _ h).1;
          alone = λ v. not-both false v refl;
        }

taken-sound : (w : ℕ) (b : Option ℕ) (m : Option ℕ) → w < 2 ^ 24 → sound_owner b ≡ true → sound_marker m ≡ true
    → sound_entry (record { ul1 = Some w; ul2 = b; usage_marker = m }) ≡ true
taken-sound w b m h g k = rw (lt-ltb _ _ h, g, k)

marked : (e : Entry) (m : Option ℕ) → sound_marker e.usage_marker ≡ true → sound_marker m ≡ true → sound_marker (with_marker e m).usage_marker ≡ true
marked e None h k = h
marked e (Some m) h k = k

same_first : (e : Entry) (m : Option ℕ) → (with_marker e m).ul1 ≡ e.ul1
same_first e None = refl
same_first e (Some m) = refl

same_second : (e : Entry) (m : Option ℕ) → (with_marker e m).ul2 ≡ e.ul2
same_second e None = refl
same_second e (Some m) = refl

module _ (e : Entry) (m : Option ℕ) (w : ℕ) (h : sound_entry e ≡ true) (k : sound_marker m ≡ true) (g : w < 2 ^ 24) where
  abbrev p : EntryParts e
  p = entry-parts e h

  pub first-sound : sound_entry (with_halves (with_marker e m) (first_half ∷ []) w) ≡ true
  unfolding with_halves
  first-sound = taken-sound w (with_marker e m).ul2 (with_marker e m).usage_marker g (rw (same_second e m) p.second) (marked e m p.marker k)

  pub both-sound : sound_entry (with_halves (with_marker e m) (first_half ∷ second_half ∷ []) w) ≡ true
  unfolding with_halves
  both-sound = taken-sound w (Some w) (with_marker e m).usage_marker g (lt-ltb _ _ g) (marked e m p.marker k)

  pub second-sound : vacant e.ul1 ≡ false → sound_entry (with_halves (with_marker e m) (second_half ∷ []) w) ≡ true
  unfolding with_halves
  second-sound v = rw (same_first e m) (go e.ul1 p.first v)
    where
      go : (o : Option ℕ) → sound_owner o ≡ true → vacant o ≡ false
          → sound_entry (record { ul1 = o; ul2 = Some w; usage_marker = (with_marker e m).usage_marker }) ≡ true
      go None f v = not-both true refl v
      go (Some x) f v = both_true (both_true (both_true refl f) (lt-ltb _ _ g)) (marked e m p.marker k)

-- ---- a table

-- every entry of a table is sound, by slots
pub record SoundEntries (tb : Table) : Type 0 where
  pub shape : FourRowsOfEighteen tb
  pub entries : (c : ℕ) → sound_entry (entry_at tb c) ≡ true

pub sound-entries : (tb : Table) → FourRowsOfEighteen tb → sound_table tb ≡ true → SoundEntries tb
unfolding entry_at
sound-entries tb s h =
    record {
      shape = s;
      entries = λ c.
          all-at sound_entry (get_or tb (c % 4) []) (c / 4 % 18) empty_entry (omega (arith, s.columns (c % 4) (omega arith)))
          (all-at sound_row tb (c % 4) [] (omega (arith, s.rows)) h);
    }

place-row : (i j : ℕ) → i < 4 → (i + 4 * j) % 4 ≡ i
place-row i j h = omega arith

place-column : (i j : ℕ) → i < 4 → j < 18 → (i + 4 * j) / 4 % 18 ≡ j
place-column i j h g = omega arith

pub whole-sound : (tb : Table) → SoundEntries tb → sound_table tb ≡ true
unfolding entry_at
whole-sound tb w = at_all sound_row tb [] (λ i h. row i (omega (arith, w.shape.rows, h)))
  where
    row : (i : ℕ) → i < 4 → sound_row (get_or tb i []) ≡ true
    row i h =
        at_all sound_entry (get_or tb i []) empty_entry
        (λ j g.
        let l : j < 18 = omega (arith, w.shape.columns i h, g) in
        rw (place-row i j h, place-column i j h l) at (w.entries (i + 4 * j)))

pub store-whole : (tb : Table) (c : ℕ) (e : Entry) → sound_entry e ≡ true → SoundEntries tb → SoundEntries (store tb c e)
store-whole tb c e h w = record { shape = store-shape tb c e w.shape; entries = go }
  where
    go : (x : ℕ) → sound_entry (entry_at (store tb c e) x) ≡ true
    go x = elim (ℕ_discrete (x % 72) (c % 72)) [
      | yes p ↦ ap sound_entry (store_same tb c e w.shape x p) ∙ h
      | no p ↦ ap sound_entry (store_other tb c e w.shape x p) ∙ w.entries x
    ]

pub reserve-whole : (hs : List Half) (who : ℕ) (m : Option ℕ) → ((e : Entry) → sound_entry e ≡ true → sound_entry (with_halves (with_marker e m) hs who) ≡ true)
    → (cs : List ℕ) (tb : Table) → SoundEntries tb → SoundEntries (reserve tb hs who m cs)
unfolding reserve
reserve-whole hs who m f [] tb w = w
reserve-whole hs who m f (c ∷ cs) tb w = reserve-whole hs who m f cs _ (store-whole tb c _ (f (entry_at tb c) (w.entries c)) w)

-- clearing keeps a table sound
pub cleared-sound : (tb : Table) (x : TdmaTime) → FourRowsOfEighteen tb → sound_table tb ≡ true → sound_table (cleared tb x) ≡ true
cleared-sound tb x s h = whole-sound _ (store-whole tb _ empty_entry refl (sound-entries tb s h))

-- ---- the counters

all_set : {A : Type 0} (p : A → Bool) (l : List A) (i : ℕ) (a : A) → list_all p l ≡ true → p a ≡ true → list_all p (set l i a) ≡ true
all_set p [] i a h g = refl
all_set p (x ∷ l) zero a h g = both_true g ((and_parts (p x) _ h).1)
all_set p (x ∷ l) (suc i) a h g = both_true ((and_parts (p x) _ h).0) (all_set p l i a ((and_parts (p x) _ h).1) g)

pub next-sound : (m : ℕ) → sound_counter m ≡ true → sound_counter (next_marker m) ≡ true
unfolding next_marker
next-sound m h = go (leb 62 m) refl
  where
    go : (b : Bool) → leb 62 m ≡ b → sound_counter (cond b 4 (m + 1)) ≡ true
    go true e = refl
    go false e = both_true (le-leb 4 (m + 1) (omega (arith, leb-true 4 m ((and_parts _ _ h).0)))) (le-leb (m + 1) 62 (omega (arith, leb-false 62 m e)))

pub drawn-sound : (ms : List ℕ) (t : ℕ) → length ms ≡ timeslots → sound_counters ms ≡ true → 1 ≤ t → t ≤ timeslots → sound_counters (drawn ms t) ≡ true
drawn-sound ms t l h a b = all_set sound_counter ms (t - 1) _ h (next-sound _ (all-at sound_counter ms (t - 1) 0 (omega (arith, l)) h))

-- ---- the uplink

pub record SoundUplink (u : Uplink) : Type 0 where
  pub time : Valid u.time
  pub table : sound_table u.rows ≡ true
  pub counters : sound_counters u.next_usage_marker ≡ true

pub uplink-parts : (u : Uplink) → sound_uplink u ≡ true → SoundUplink u
unfolding sound_uplink
uplink-parts u h =
    let ab = (and_parts (valid u.time && sound_table u.rows) (sound_counters u.next_usage_marker) h).0 in
    record {
      time = true-valid u.time ((and_parts (valid u.time) (sound_table u.rows) ab).0);
      table = (and_parts (valid u.time) (sound_table u.rows) ab).1;
      counters = (and_parts (valid u.time && sound_table u.rows) (sound_counters u.next_usage_marker) h).1;
    }

pub parts-uplink : (u : Uplink) → SoundUplink u → sound_uplink u ≡ true
unfolding sound_uplink
parts-uplink u p = rw (valid-true u.time p.time, p.table, p.counters)

pub new-uplink-sound : (x : TdmaTime) → Valid x → sound_uplink (new_uplink x) ≡ true
unfolding sound_uplink
new-uplink-sound x v = rw (valid-true x v)

pub advanced-sound : (u : Uplink) → FourRowsOfEighteen u.rows → sound_uplink u ≡ true → sound_uplink (advanced_uplink u) ≡ true
advanced-sound u s h =
    let p = uplink-parts u h in
    parts-uplink (advanced_uplink u) (record {
      time = time_of-valid (slot_of u.time + 1);
      table = cleared-sound u.rows (next_time u.time) s
          p.table;
      counters = p.counters;
    })
