-- The answer to a request, put together from what the functions answer. Assumes nothing.
use Rattle.std.proofs.Common.{Option, Some, None, Err}
use Rattle.std.proofs.lemmas.Option.{same_Some}
use Rattle.std.specs.Option.{is_some}
use mathlib.Core.Path.{◌≡◌, refl, sym, ap, ◌∙◌}
use mathlib.Core.Bool.{Bool, true, false, not, cond}
use mathlib.Core.List.{List, []}
use Prim.Native.Nat.{ℕ, ◌+◌, ◌-◌, ◌*◌, ◌/◌, ◌%◌, ◌≤◌, ◌<◌}
use native.Mathlib.Omega.{arith}
use lib.ListN.{length, get_or, length-set}
use borrow.Author.Tests.{le-leb, lt-leb}
use Rattle.sizes.specs.Sizes.{timeslots, frames_searched, latest_delay}
use Rattle.questions.specs.declared.Refusal.{Refusal}
use Rattle.tdma_time.specs.declared.TdmaTime.{TdmaTime}
use Rattle.tdma_time.specs.Time.{usable, slot_of, first_of, usable_of, forward_time}
use Rattle.tdma_time.proofs.SlotLaws.{usable_of-keeps}
use Rattle.slot_codes.specs.Codes.{slots_wanted, wants_half, capacity_for}
use Rattle.uplink.specs.declared.Opportunity.{Opportunity}
use Rattle.uplink.specs.declared.PhyBlockNum.{PhyBlockNum}
use Rattle.uplink.specs.declared.Uplink.{Uplink}
use Rattle.uplink.specs.HalfSlot.{vacant}
use Rattle.uplink.specs.Search.{Run}
use Rattle.uplink.specs.UplinkEntry.{Table, FourRowsOfEighteen, empty_entry, entry_at, table_view, reserve}
use Rattle.uplink.specs.Uplink.{with_table}
use Rattle.uplink.specs.Request.{Request, candidates, slot_fits, earliest_run, Verdict, no_run, too_late, grant, settle, verdict, capacity, draws, drawn}
use Rattle.uplink.specs.Request.{marker_of, markers_after, granted_reply, reply_to, table_after, counters_after, given, answer}
use Rattle.uplink.specs.Functions.{as_opportunity, opportunity, slots_from, block_taken, block_halves, granted_at}
use Rattle.uplink.proofs.FrameWalk.{rest-next, first-at, on-entry}
use Rattle.uplink.proofs.ReserveLaws.{reserve-shape}
use Rattle.uplink.proofs.RequestLaws.{wanted-pos, get_d-take-first, Begins, begins, capacity-halves}

-- the first of the slots from a usable one on is that one
slots-head : (now : TdmaTime) (t start n : ℕ) → 0 < n → start < frames_searched → usable (first_of t (slot_of now) + start * 4) ≡ true
    → get_or (slots_from now t start n) 0 0 ≡ first_of t (slot_of now) + start * 4
unfolding slots_from
slots-head now t start n pos low can =
    get_d-take-first n _ pos ∙ ap (λ (cs : List ℕ). get_or cs 0 0) (ap usable_of (rest-next (first_of t (slot_of now)) start low) ∙ usable_of-keeps _ _ can)

-- ---- the marker

module _ (ms : List ℕ) (r : Request) where
  pub marker-none : slots_wanted r.code < 2 → (marker_of ms r ≡ None) × (markers_after ms r ≡ ms)
  unfolding marker_of markers_after
  marker-none h = (rw (lt-leb _ _ h), rw (lt-leb _ _ h))

-- ---- a grant

pub is_some-vacant : (o : Option ℕ) → is_some o ≡ not (vacant o)
is_some-vacant None = refl
is_some-vacant (Some w) = refl

module _ (u : Uplink) (r : Request) (start skips : ℕ) where
  abbrev tb : Table
  tb = u.rows

  abbrev ms : List ℕ
  ms = u.next_usage_marker

  abbrev now : TdmaTime
  now = u.time

  abbrev first : ℕ
  first = first_of r.timeslot (slot_of now)

  abbrev slots : List ℕ
  slots = slots_from now r.timeslot start (slots_wanted r.code)

  module _ (low : start < frames_searched) (can : usable (first + start * timeslots) ≡ true) where
    capacity-at : capacity (table_view tb) r.code slots ≡ capacity_for r.code (not (vacant (entry_at tb (first + start * timeslots)).ul1))
    unfolding capacity
    capacity-at = rw (slots-head now r.timeslot start (slots_wanted r.code) (wanted-pos r.code) low can)

    pub granted-by : (n cap : ℕ) (o : Option ℕ) (block : PhyBlockNum) (m : Option ℕ) (counters : List ℕ) (out : Table)
        → n ≡ slots_wanted r.code → o ≡ (entry_at tb (first + start * timeslots)).ul1 → cap ≡ capacity_for r.code (not (vacant o))
        → block ≡ block_taken (wants_half r.code) o
        → m ≡ marker_of ms r → counters ≡ markers_after ms r → out ≡ reserve tb (block_halves block) r.number m (slots_from now r.timeslot start n)
        → record { reply = granted_reply cap skips m; uplink = with_table u out counters } ≡ granted_at u r start skips
    unfolding granted_at given reply_to table_after counters_after
    granted-by n cap o block m counters out en eo ec eb em et er =
        rw (er, et, em, eb, ec, en, eo, capacity-at, capacity-halves r.code (entry_at tb (first + start * timeslots)).ul1)

-- the entry that the code reads for it
pub entry_read : (tb : Table) (now : TdmaTime) (t start : ℕ) (x : TdmaTime) (row column : ℕ) → 1 ≤ t → t ≤ timeslots → x ≡ forward_time now t
    → row ≡ t - 1 → column ≡ x.f - 1 → get_or (get_or tb row []) ((column + start) % 18) empty_entry ≡ entry_at tb (first_of t (slot_of now) + start * 4)
entry_read tb now t start x row column h g e r f = on-entry tb (first_of t (slot_of now)) row column start (first-at now t x row column h g e r f)

-- ---- the verdict

module _ (u : Uplink) (r : Request) where
  abbrev run : Option Run
  run = earliest_run (table_view u.rows) (slot_of u.time) r.timeslot (slots_wanted r.code) (wants_half r.code)

  abbrev from : ℕ
  from = first_of r.timeslot (slot_of u.time)

  abbrev op : Option Opportunity
  op = opportunity u.rows u.time r.timeslot (slots_wanted r.code) (wants_half r.code)

  nothing : (o : Option Run) → as_opportunity from o ≡ None → o ≡ None
  nothing None e = refl
  nothing (Some g) e = absurd (let z : ◌≡◌ {A = ℕ} 0 1 = cc in omega arith)

  pub answer-nothing : op ≡ None → record { reply = Err Refusal.NoRun; uplink = u } ≡ answer u r
  unfolding opportunity answer verdict settle given reply_to table_after counters_after
  answer-nothing e = rw (nothing run e)

  -- a run found, as the code is told of it
  pub record FoundAt (start skips : ℕ) : Type 0 where
    pub g : Run
    pub is : run ≡ Some g
    pub delay : g.delay ≡ skips
    pub low : start < frames_searched
    pub can : usable (from + start * timeslots) ≡ true
    pub slots : g.slots ≡ slots_from u.time r.timeslot start (slots_wanted r.code)

  pub found_at : (start skips : ℕ) → op ≡ Some (record { start = start; skips = skips }) → FoundAt start skips
  unfolding opportunity earliest_run candidates slots_from
  found_at start skips e = go run refl e
    where
      go : (o : Option Run) → run ≡ o → as_opportunity from o ≡ Some (record { start = start; skips = skips }) → FoundAt start skips
      go None q e = absurd (let z : ◌≡◌ {A = ℕ} 0 1 = cc in omega arith)
      go (Some g) q e =
          let b : Begins from (slots_wanted r.code) g =
          begins (slot_fits (wants_half r.code) (table_view u.rows)) (slots_wanted r.code) from g (wanted-pos r.code) q in
          let o : Opportunity = record { start = start; skips = skips } in
          let same_op : record { start = (get_or g.slots 0 0 - from) / timeslots; skips = g.delay } ≡ o = same_Some _ o e in
          let es : (get_or g.slots 0 0 - from) / timeslots ≡ start = ap (λ (x : Opportunity). x.start) same_op in
          let ek : g.delay ≡ skips = ap (λ (x : Opportunity). x.skips) same_op in
          let same : b.start ≡ start = omega (arith, es, b.first) in
          record { g = g; is = q; delay = ek; low = rw (← same) b.below; can = rw (← same) b.can; slots = rw (← same) b.slots }

  module _ (start skips : ℕ) (e : op ≡ Some (record { start = start; skips = skips })) where
    pub answer-late : latest_delay < skips → record { reply = Err Refusal.TooLate; uplink = u } ≡ answer u r
    unfolding answer verdict settle given reply_to table_after counters_after
    answer-late h = let f = found_at start skips e in rw (f.is, f.delay, lt-leb skips latest_delay h)

    pub answer-granted : skips ≤ latest_delay → granted_at u r start skips ≡ answer u r
    unfolding answer verdict settle granted_at
    answer-granted h =
        let f = found_at start skips e in
        let same : f.g ≡ record { delay = skips; slots = slots_from u.time r.timeslot start (slots_wanted r.code) } =
        λ i. record { delay = f.delay i; slots = f.slots i } in
        rw (f.is, f.delay, le-leb skips latest_delay h) (ap (λ (x : Run). given u r (grant x)) (sym same))

-- ---- what a request leaves has its lengths

module _ (u : Uplink) (r : Request) where
  table-shape : (w : Verdict) → FourRowsOfEighteen u.rows → FourRowsOfEighteen (table_after u.rows u.next_usage_marker r w)
  unfolding table_after
  table-shape no_run s = s
  table-shape too_late s = s
  table-shape (grant g) s = reserve-shape _ _ _ _ u.rows s

  pub answer-shape : FourRowsOfEighteen u.rows → FourRowsOfEighteen (answer u r).uplink.rows
  unfolding answer given
  answer-shape s = table-shape (verdict (table_view u.rows) (slot_of u.time) r) s

pub markers-four : (ms : List ℕ) (r : Request) (w : Verdict) → length (counters_after ms r w) ≡ length ms
unfolding counters_after markers_after
markers-four ms r no_run = refl
markers-four ms r too_late = refl
markers-four ms r (grant g) = go (draws r.code)
  where
    go : (b : Bool) → length (cond b (drawn ms r.timeslot) ms) ≡ length ms
    go true = length-set ms (r.timeslot - 1) _
    go false = refl

pub answer-four : (u : Uplink) (r : Request) → length (answer u r).uplink.next_usage_marker ≡ length u.next_usage_marker
unfolding answer given
answer-four u r = markers-four u.next_usage_marker r (verdict (table_view u.rows) (slot_of u.time) r)
