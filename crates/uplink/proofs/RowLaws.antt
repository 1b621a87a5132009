-- A request looks at the row of its timeslot and at no other, and alters no other: on an uplink with that row alone (`row_alone`) it is
-- answered the same, and what it leaves there is what it leaves of that row and the counters (`answer-by-row`). Assumes nothing.
use Rattle.std.proofs.Common.{Option, Result, Err}
use Rattle.std.proofs.lemmas.Bool.{and_parts}
use mathlib.Core.Path.{◌≡◌, refl, sym, ap, ◌∙◌}
use mathlib.Core.Bool.{true}
use mathlib.Core.List.{List, [], ◌∷◌}
use Prim.Native.Nat.{ℕ, zero, suc, ◌-◌, ◌/◌, ◌%◌, ◌≤◌, ◌<◌}
use native.Mathlib.Omega.{arith}
use lib.ListN.{get_or, set, get_or-replicate}
use lib.Seq.{set-get_or, set-set}
use Rattle.sizes.specs.Sizes.{timeslots, frames_searched}
use Rattle.questions.specs.declared.Refusal.{Refusal}
use Rattle.lists.proofs.Every.{All, all-weaken}
use Rattle.tdma_time.specs.Time.{slot_of, first_of, frames_on}
use Rattle.tdma_time.proofs.SlotLaws.{first_slot, frames_on-near, usable_of-all}
use Rattle.uplink.specs.Request.{CapAnswer}
use Rattle.uplink.specs.declared.Entry.{Entry}
use Rattle.uplink.specs.declared.Grant.{Grant}
use Rattle.uplink.specs.declared.Uplink.{Uplink}
use Rattle.uplink.specs.HalfSlot.{Half}
use Rattle.uplink.specs.UplinkEntry.{Table, entry_at, store, holder, table_view, with_halves, with_marker, reserve, sound_row, sound_table}
use Rattle.uplink.specs.Uplink.{sound_uplink}
use Rattle.uplink.specs.Request.{Request, candidates, Verdict, no_run, too_late, grant, verdict, capacity, marker_of, reply_to, table_after}
use Rattle.uplink.specs.Request.{counters_after, given, answer}
use Rattle.uplink.specs.Functions.{row_alone, with_row_of}
use Rattle.uplink.proofs.RequestLaws.{wanted-pos}
use Rattle.uplink.proofs.SoundLaws.{uplink-parts, parts-uplink}
use Rattle.uplink.proofs.VerdictLaws.{Granted, verdict-grant, granted-all, granted-length, SameAt, verdict-same, capacity-same}

-- ---- the uplink with one row

-- each row of a sound table is sound, and so is the empty one past them
row-sound : (tb : Table) (i : ℕ) → sound_table tb ≡ true → sound_row (get_or tb i []) ≡ true
row-sound [] i h = refl
row-sound (x ∷ tb) zero h = (and_parts (sound_row x) _ h).0
row-sound (x ∷ tb) (suc i) h = row-sound tb i ((and_parts (sound_row x) _ h).1)

-- a sound uplink is sound with one of its rows in the place of all four
pub row-alone-sound : (u : Uplink) (i : ℕ) → sound_uplink u ≡ true → sound_uplink (row_alone u i) ≡ true
row-alone-sound u i h =
    let p = uplink-parts u h in
    parts-uplink (row_alone u i) (record { time = p.time; table = rw (row-sound u.rows i p.table); counters = p.counters })

-- the row put back as it was gives the uplink again
pub with-row-alone : (u : Uplink) (i : ℕ) → i < timeslots → with_row_of u i (row_alone u i) ≡ u
with-row-alone u i h = rw (get_or-replicate timeslots i (get_or u.rows i []) [] h, set-get_or u.rows i [])

-- ---- the slots of one row

-- those that a request looks at stand in the row of its timeslot
candidates-row : (t n : ℕ) → 1 ≤ t → t ≤ timeslots → All (λ c. c % 4 ≡ t - 1) (candidates t n)
unfolding candidates
candidates-row t n h g =
    let slots : List ℕ = frames_on (first_of t n) frames_searched in
    usable_of-all (λ c. c % 4 ≡ t - 1) slots
    (all-weaken _ _ (λ c k. omega (arith, k.2, first_slot t n h g)) slots (frames_on-near (first_of t n) frames_searched))

-- tables that have one row alike have its entries alike
entry_row : (i : ℕ) (a b : Table) → get_or a i [] ≡ get_or b i [] → (c : ℕ) → c % 4 ≡ i → entry_at a c ≡ entry_at b c
unfolding entry_at
entry_row i a b e c h = rw (h, e)

-- a row with an entry stored in it
stored_row : (i : ℕ) (tb : Table) (k : ℕ) (x : Entry) → get_or (set tb i (set (get_or tb i []) k x)) i [] ≡ set (get_or tb i []) k x
stored_row i [] k x = refl
stored_row zero (r ∷ tb) k x = refl
stored_row (suc i) (r ∷ tb) k x = stored_row i tb k x

-- a reservation of slots of one row alters that row, and as it would in any other table that has the row
reserve-row : (hs : List Half) (who : ℕ) (m : Option ℕ) (i : ℕ) (cs : List ℕ) → All (λ c. c % 4 ≡ i) cs → (a b : Table) → get_or a i [] ≡ get_or b i []
    → reserve a hs who m cs ≡ set a i (get_or (reserve b hs who m cs) i [])
unfolding reserve store
reserve-row hs who m i [] h a b e = rw (← e) (sym (set-get_or a i []))
reserve-row hs who m i (c ∷ cs) h a b e =
    let x : Entry = with_halves (with_marker (entry_at b c) m) hs who in
    let k : ℕ = c / 4 % 18 in
    rw (entry_row i a b e c h.0, h.0)
    (reserve-row hs who m i cs h.1 _ _ (stored_row i a k x ∙ ap (λ (l : List Entry). set l k x) e ∙ sym (stored_row i b k x))
    ∙ set-set a i (set (get_or a i []) k x) _)

-- ---- the answer

module _ (u : Uplink) (r : Request) (low : 1 ≤ r.timeslot) (high : r.timeslot ≤ timeslots) where
  abbrev i : ℕ
  i = r.timeslot - 1

  abbrev v : Uplink
  v = row_alone u i

  -- both tables have the row of the timeslot
  same_row : get_or u.rows i [] ≡ get_or v.rows i []
  same_row = sym (get_or-replicate timeslots i (get_or u.rows i []) [] (omega arith))

  -- so who holds what is the same in its slots
  same-views : (cs : List ℕ) → All (λ c. c % 4 ≡ i) cs → All (SameAt (table_view u.rows) (table_view v.rows)) cs
  same-views = all-weaken _ _ (λ c e h. ap (λ (x : Entry). holder x h) (entry_row i u.rows v.rows same_row c e))

  -- an answer with the row put back
  abbrev put : CapAnswer → CapAnswer
  put a = record { reply = a.reply; uplink = with_row_of u i a.uplink }

  -- a refusal leaves both uplinks
  unaltered : (x : Result Grant Refusal) → record { reply = x; uplink = u } ≡ put (record { reply = x; uplink = v })
  unaltered x = ap (λ (w : Uplink). record { reply = x; uplink = w }) (sym (with-row-alone u i (omega arith)))

  -- each verdict is given alike
  given-row : (w : Verdict) → verdict (table_view u.rows) (slot_of u.time) r ≡ w → given u r w ≡ put (given v r w)
  unfolding given reply_to table_after counters_after
  given-row no_run e = unaltered (Err Refusal.NoRun)
  given-row too_late e = unaltered (Err Refusal.TooLate)
  given-row (grant g) e =
      let k : Granted (table_view u.rows) (slot_of u.time) r g = verdict-grant _ _ r g e in
      let row : All (λ c. c % 4 ≡ i) g.slots = granted-all _ _ r g k _ (candidates-row r.timeslot (slot_of u.time) low high) in
      let same : capacity (table_view u.rows) r.code g.slots ≡ capacity (table_view v.rows) r.code g.slots =
      capacity-same _ _ r.code g.slots (same-views g.slots row) (omega (arith, granted-length _ _ r g k, wanted-pos r.code)) in
      rw (same, reserve-row _ r.number (marker_of u.next_usage_marker r) i g.slots row u.rows v.rows same_row)

  -- a request is answered on the row of its timeslot alone, and leaves the other rows
  pub answer-by-row : let a = answer (row_alone u (r.timeslot - 1)) r in
      answer u r ≡ record { reply = a.reply; uplink = with_row_of u (r.timeslot - 1) a.uplink }
  unfolding answer
  answer-by-row =
      let now : ℕ = slot_of u.time in
      given-row (verdict (table_view u.rows) now r) refl
      ∙ ap (λ (w : Verdict). put (given v r w))
      (verdict-same _ _ now r (same-views (candidates r.timeslot now) (candidates-row r.timeslot now low high)))
